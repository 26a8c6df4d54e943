-- What the call leaves for each card, from the recursion over the cards.
-- Assumes nothing.
use mathlib.Core.Path.{◌≡◌, refl, ap, sym, ◌∙◌}
use mathlib.Core.Bool.{Bool, true, false}
use mathlib.Core.List.{List, [], ◌∷◌, ◌++◌}
use Prim.Native.Nat.{ℕ, zero, suc, ◌+◌, ◌*◌, ◌-◌, ◌≤◌, ◌<◌}
use native.Mathlib.Omega.{arith}
use lib.Dec.{eqb}
use lib.IntN.{ℤ}
use lib.ListN.{length, get_or, take, drop, length-append, length-drop}
use lib.Seq.{take_at, drop_at, drop-drop, drop-append-add, length-take-le}
use borrow.Author.Tests.{eqb-true, eqb-false, ne_eqb}
use Rattle.card.specs.declared.Card.{Card}
use Rattle.card.specs.Table.{reply_by}
use Rattle.runoff.specs.Rows.{row_width}
use Rattle.runoff.specs.Table.{reply_to, table_after}
use Rattle.day.specs.Day.{reply_width, day_number, day_reply, used_by, table_of, replies_of, day_table, day_replies}
use Rattle.day.specs.Parts.{number_in, count_in, start_in, rest_in, PartOf, DayLeft, DayTheorem, RefusedTheorem, ClimbingDay}
use Rattle.day.proofs.SingleCall.{uses_within, same_long, climbs_after, climbs_in_part, refused_counts, uses_few, own_only}
use Rattle.day.proofs.DayNumbers.{room_for_replies}

-- ---- a reply list with one card more before it
module _ (n c : ℕ) (rs : List ℕ) where
  abbrev more : List ℕ
  more = n ∷ c ∷ rs

  later_number : (i : ℕ) → number_in more (suc i) ≡ number_in rs i
  later_number i =
      let two : reply_width * suc i ≡ suc (suc (reply_width * i)) = omega arith in
      ap (λ (k : ℕ). get_or more k 0) two

  later_count : (i : ℕ) → count_in more (suc i) ≡ count_in rs i
  later_count i =
      let two : reply_width * suc i + 1 ≡ suc (suc (reply_width * i + 1)) = omega arith in
      ap (λ (k : ℕ). get_or more k 0) two

  later_start : (i : ℕ) → start_in more (suc i) ≡ row_width * c + start_in rs i
  later_start zero = omega arith
  later_start (suc i) = omega (arith, later_start i, later_count i)

-- ---- one card more before the others: it uses the first numbers of the table, and the others are given the rest
module _ (card : Card) (cs : List Card) (old : List ℤ) (kept : List ℕ) where
  abbrev used : ℕ
  used = used_by card (length old)

  -- the card's rows
  abbrev own : List ℤ
  own = take used (table_after card old)

  -- what the others are given, what they leave of it, and their replies
  abbrev rest : List ℤ
  rest = drop used old

  abbrev left : List ℤ
  left = table_of cs rest

  abbrev others : List ℕ
  others = replies_of cs (length old - used) ++ kept

  abbrev all : List ℕ
  all = (reply_to card (length old)).number ∷ (reply_to card (length old)).count ∷ others

  long_own : length own ≡ used
  long_own = length-take-le used (table_after card old) (rw (same_long card old) (uses_within card old))

  -- the rest that a later card is given, before the call and after it
  rest_before : (i : ℕ) → rest_in all (suc i) old ≡ rest_in others i rest
  rest_before i = rw (later_start (reply_to card (length old)).number (reply_to card (length old)).count others i) (sym (drop-drop (start_in others i) used old))

  drop_past : (k : ℕ) → drop (used + k) (own ++ left) ≡ drop k left
  drop_past k = rw long_own at (drop-append-add own left k)

  rest_after : (i : ℕ) → rest_in all (suc i) (own ++ left) ≡ rest_in others i left
  rest_after i = rw (later_start (reply_to card (length old)).number (reply_to card (length old)).count others i) (drop_past (start_in others i))

  own_part : PartOf card 0 old (own ++ left) all
  own_part =
      record {
        number = refl;
        count = refl;
        rows = take_at own left used long_own;
        refused = λ ne. rw (refused_counts card old ne) (omega arith);
        climbs = λ z. rw (take_at own left used long_own) (climbs_in_part card _ _ (climbs_after card old z));
        enough = λ h. own_only card old (omega (arith, h));
      }

  later_part : (it : Card) (i : ℕ) → PartOf it i rest left others → PartOf it (suc i) old (own ++ left) all
  later_part it i p =
      let n = (reply_to card (length old)).number in
      let c = (reply_to card (length old)).count in
      record {
        number = rw (later_number n c others i, rest_before i) p.number;
        count = rw (later_count n c others i, rest_before i) p.count;
        rows = rw (later_count n c others i, rest_before i, rest_after i) p.rows;
        refused = λ ne.
            let same = p.refused (λ z. ne (later_number n c others i ∙ z)) in
            omega (arith, same, later_start n c others i, later_start n c others (suc i));
        climbs = λ z. rw (later_count n c others i, rest_after i) (p.climbs (sym (later_number n c others i) ∙ z));
        enough = λ h. later_number n c others i ∙ p.enough (rw (length-drop used old) (omega (arith, h, uses_few card old)));
      }

-- ---- all the cards of a list
parts : (cards : List Card) (old : List ℤ) (kept : List ℕ) (i : ℕ) (none : Card) → i < length cards →
    PartOf (get_or cards i none) i old (table_of cards old) (replies_of cards (length old) ++ kept)
unfolding table_of replies_of
parts [] old kept i none h = absurd (omega arith)
parts (card ∷ cards) old kept zero none h = own_part card cards old kept
parts (card ∷ cards) old kept (suc i) none h =
    later_part card cards old kept (get_or cards i none) i
    (rw (length-drop (used_by card (length old)) old) at (parts cards (drop (used_by card (length old)) old) kept i none (omega arith)))

-- where the last part ends, and that no number past it is touched
module _ (kept : List ℕ) where
  abbrev ends : List Card → List ℤ → ℕ
  ends cards old = start_in (replies_of cards (length old) ++ kept) (length cards)

  ends_within : (cards : List Card) (old : List ℤ) → ends cards old ≤ length old
  unfolding replies_of
  ends_within [] old = omega arith
  ends_within (card ∷ cards) old =
      let used = used_by card (length old) in
      let inside = rw (length-drop used old) at (ends_within cards (drop used old)) in
      omega (arith, inside, uses_within card old, later_start (reply_to card (length old)).number (reply_to card (length old)).count (others card cards old kept) (length cards))

  past_kept : (cards : List Card) (old : List ℤ) → drop (ends cards old) (table_of cards old) ≡ drop (ends cards old) old
  unfolding table_of replies_of
  past_kept [] old = refl
  past_kept (card ∷ cards) old =
      let used = used_by card (length old) in
      rest_after card cards old kept (length cards)
      ∙ (rw (length-drop used old) at (past_kept cards (drop used old)))
      ∙ sym (rest_before card cards old kept (length cards))

same_table_long : (cards : List Card) (old : List ℤ) → length (table_of cards old) ≡ length old
unfolding table_of
same_table_long [] old = refl
same_table_long (card ∷ cards) old =
    let used = used_by card (length old) in
    rw (length-append, long_own card cards old [], same_table_long cards (drop used old), length-drop used old)
    (omega (arith, uses_within card old))

-- two numbers a card
replies_length : (cards : List Card) (room : ℕ) → length (replies_of cards room) ≡ reply_width * length cards
unfolding replies_of
replies_length [] room = refl
replies_length (card ∷ cards) room = omega (arith, replies_length cards (room - used_by card room))

-- a later part begins where an earlier one ends, or behind it
later_begins : (replies : List ℕ) (i j : ℕ) → i < j → start_in replies i + row_width * count_in replies i ≤ start_in replies j
later_begins replies i zero h = absurd (omega arith)
later_begins replies i (suc j) h = go (eqb i j) refl (later_begins replies i j)
  where
    go :
        (b : Bool) → eqb i j ≡ b → (i < j → start_in replies i + row_width * count_in replies i ≤ start_in replies j) →
        start_in replies i + row_width * count_in replies i ≤ start_in replies (suc j)
    go true e before = rw (eqb-true i j e) (omega arith)
    go false e before = omega (arith, before (omega (arith, h, eqb-false i j e)))

module _ (cards : List Card) (old : List ℤ) (listed : List ℕ) (right : (day_reply (length cards) (length listed)).number ≡ 0) where
  abbrev kept : List ℕ
  kept = drop (reply_width * length cards) listed

  passes : day_number (length cards) (length listed) ≡ 0
  unfolding day_reply reply_by
  passes = right

  table_is : day_table cards old listed ≡ table_of cards old
  unfolding day_table
  table_is = rw passes

  replies_is : day_replies cards old listed ≡ replies_of cards (length old) ++ kept
  unfolding day_replies
  replies_is = rw passes

  replies_long : length (replies_of cards (length old) ++ kept) ≡ length listed
  replies_long =
      rw (length-append, replies_length cards (length old), length-drop) (omega (arith, room_for_replies (length cards) (length listed) right))

  left_so : DayLeft cards old listed (table_of cards old) (replies_of cards (length old) ++ kept)
  left_so =
      record {
        parts = parts cards old kept;
        apart = λ i j h g. later_begins (replies_of cards (length old) ++ kept) i j h;
        within = ends_within kept cards old;
        table_kept = past_kept kept cards old;
        table_long = same_table_long cards old;
        replies_kept = drop_at (replies_of cards (length old)) kept (reply_width * length cards) (replies_length cards (length old));
        replies_long = replies_long;
      }

pub day_left : DayTheorem
day_left cards old listed right = rw (table_is cards old listed right, replies_is cards old listed right) (left_so cards old listed right)

pub refused_left : RefusedTheorem
unfolding day_reply reply_by day_table day_replies
refused_left cards table replies ne =
    let refused = ne_eqb (day_number (length cards) (length replies)) 0 ne in
    (rw refused, rw refused)

pub climbing_day_lem :
    (cards : List Card) (old : List ℤ) (listed : List ℕ) → (day_reply (length cards) (length listed)).number ≡ 0 →
    ClimbingDay cards (day_table cards old listed) (day_replies cards old listed)
climbing_day_lem cards old listed right i none h = ((day_left cards old listed right).parts i none h).climbs
