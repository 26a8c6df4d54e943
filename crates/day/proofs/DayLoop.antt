-- The loop over a day's cards, without its code: what holds at each turn, that a card's step leads to the next turn, and that the last turn has
-- what the call is to leave.
-- Assumes nothing.
use mathlib.Core.Path.{◌≡◌, refl, ap, sym, ◌∙◌}
use mathlib.Core.Bool.{Bool, true, false, cond}
use mathlib.Core.List.{List, [], ◌∷◌, ◌++◌, append_assoc}
use Prim.Native.Nat.{ℕ, suc, ◌+◌, ◌*◌, ◌-◌, ◌≤◌, ◌<◌}
use native.Mathlib.Nat.{sub-zero}
use native.Mathlib.Numerals.{add-one}
use native.Mathlib.Omega.{arith}
use lib.Dec.{eqb}
use lib.IntN.{ℤ}
use lib.ListN.{length, take, drop, get_or, set, length-drop, length-set, take-append-drop}
use lib.Seq.{take-length, length-take-le, drop-cons, drop-length, get_or-take, take-append-add, drop-append-add, take-suc-set, drop-set-lt}
use borrow.Author.Tests.{eqb-true, ne_eqb}
use Rattle.card.specs.declared.Card.{Card}
use Rattle.card.specs.Table.{Reply}
use Rattle.std.specs.Prelude.{Ok, Err}
use Rattle.card.specs.Table.{reply_by}
use Rattle.card.specs.Told.{told}
use Rattle.day.specs.declared.DayRefusal.{DayRefusal}
use Rattle.day.specs.declared.DayRefusal.TheVariants.{ManyCards, ShortReplies}
use Rattle.day.specs.Told.{day_refusal_number}
use Rattle.runoff.specs.Table.{reply_to, table_after}
use Rattle.day.specs.Day.{most_cards, reply_width, day_number, day_reply, used_by, table_of, replies_of, day_table, day_replies}
use Rattle.day.specs.Parts.{ClimbingDay}
use Rattle.day.specs.Reckoning.{Fits, Step}
use Rattle.day.proofs.SingleCall.{uses_within, same_rest}
use Rattle.day.proofs.DayNumbers.{numbers_rule, room_for_replies}
use Rattle.day.proofs.DayParts.{refused_left, climbing_day_lem}

not_nought : (e : DayRefusal) → day_refusal_number e ≡ 0 → ⊥
not_nought ManyCards is = absurd (omega arith)
not_nought ShortReplies is = absurd (omega arith)

-- ---- the reply of a call, by the answer of its check
pub refused_reply : (count room : ℕ) (e : DayRefusal) → day_refusal_number e ≡ day_number count room → told day_refusal_number (Err e) ≡ day_reply count room
unfolding day_reply reply_by
refused_reply count room e is = rw (← is, ne_eqb _ 0 (not_nought e))

pub accepted_reply : (count room : ℕ) → 0 ≡ day_number count room → told day_refusal_number (Ok count) ≡ day_reply count room
unfolding day_reply reply_by
accepted_reply count room is = rw (← is)

pub refused_both :
    (cs : List Card) (ts : List ℤ) (rs : List ℕ) (e : DayRefusal) → day_refusal_number e ≡ day_number (length cs) (length rs) →
    (day_table cs ts rs ≡ ts) × (day_replies cs ts rs ≡ rs)
refused_both cs ts rs e is =
    refused_left cs ts rs (λ z. not_nought e (ap (λ (r : Reply). r.number) (refused_reply (length cs) (length rs) e is) ∙ z))

-- an accepted call has at most 64 cards
pub few_cards : (count room : ℕ) → 0 ≡ day_number count room → count ≤ most_cards
few_cards count room is =
    ((numbers_rule count room).right.0 (sym (ap (λ (r : Reply). r.number) (accepted_reply count room is)))).0

-- ---- the cards that are taken: all of them, or on a refusal none
taken_by : (b : Bool) (count room : ℕ) → (b ≡ true → reply_width * count ≤ room) → (cond b count 0 ≤ count) × (reply_width * cond b count 0 ≤ room)
taken_by true count room h = (omega arith, h refl)
taken_by false count room h = (omega arith, omega arith)

-- they are there, and so are their places in the reply list
taken : (count room : ℕ) → ((day_reply count room).count ≤ count) × (reply_width * (day_reply count room).count ≤ room)
unfolding day_reply reply_by
taken count room =
    taken_by (eqb (day_number count room) 0) count room (λ e. room_for_replies count room (eqb-true _ 0 e))

module _ (cs : List Card) (ts₀ : List ℤ) (rs₀ : List ℕ) where
  -- what n cards leave
  abbrev table_with : ℕ → List ℤ
  table_with n = table_of (take n cs) ts₀

  abbrev replies_with : ℕ → List ℕ
  replies_with n = replies_of (take n cs) (length ts₀) ++ drop (reply_width * n) rs₀

  -- a call leaves what as many cards leave as its reply counts
  table_by_lem : (b : Bool) → table_with (cond b (length cs) 0) ≡ cond b (table_of cs ts₀) ts₀
  unfolding table_of
  table_by_lem true = rw (take-length cs)
  table_by_lem false = refl

  replies_by : (b : Bool) → replies_with (cond b (length cs) 0) ≡ cond b (replies_of cs (length ts₀) ++ drop (reply_width * length cs) rs₀) rs₀
  unfolding replies_of
  replies_by true = rw (take-length cs)
  replies_by false = refl

  table_is : table_with (day_reply (length cs) (length rs₀)).count ≡ day_table cs ts₀ rs₀
  unfolding day_reply reply_by day_table
  table_is = table_by_lem (eqb (day_number (length cs) (length rs₀)) 0)

  replies_is : replies_with (day_reply (length cs) (length rs₀)).count ≡ day_replies cs ts₀ rs₀
  unfolding day_reply reply_by day_replies
  replies_is = replies_by (eqb (day_number (length cs) (length rs₀)) 0)

  -- ---- a turn: n cards are to be taken, i are done, and they use u numbers of the table, which is ts; the reply list is rs
  pub record Turn (n i u : ℕ) (ts : List ℤ) (rs : List ℕ) : Type 0 where
    pub count : i ≤ n
    pub in_cards : n ≤ length cs
    pub in_replies : reply_width * n ≤ length rs₀
    pub table_long : length ts ≡ length ts₀
    pub replies_long : length rs ≡ length rs₀
    pub within : u ≤ length ts
    -- what the cards after these leave of the rest is what the call is to leave
    pub table_so_far : take u ts ++ table_of (drop i (take n cs)) (drop u ts) ≡ table_with n
    pub replies_so_far :
        take (reply_width * i) rs ++ (replies_of (drop i (take n cs)) (length ts - u) ++ drop (reply_width * n) rs) ≡ replies_with n

  pub first_turn : (r : Reply) → r ≡ day_reply (length cs) (length rs₀) → Turn r.count 0 0 ts₀ rs₀
  first_turn r e =
      let known = rw (← e) at (taken (length cs) (length rs₀)) in
      record {
        count = omega arith;
        in_cards = known.0;
        in_replies = known.1;
        table_long = refl;
        replies_long = refl;
        within = omega arith;
        table_so_far = refl;
        replies_so_far = rw (sub-zero (length ts₀));
      }

  module _ {n i u : ℕ} {ts : List ℤ} {rs : List ℕ} (t : Turn n i u ts rs) where
    pub fits : i < n → Fits i u ts rs
    fits h = record { within = t.within; listed = omega (arith, t.in_replies, t.replies_long) }

    -- card i is done: u', ts' and rs' are what it leaves
    module _ (d : Card) {u' : ℕ} {ts' : List ℤ} {rs' : List ℕ} (h : i < n) (s : Step (get_or cs i d) i u ts rs u' ts' rs')
        (lt : length ts' ≡ length ts) (lr : length rs' ≡ length rs) where
      abbrev card : Card
      card = get_or cs i d

      abbrev room : ℕ
      room = length ts - u

      abbrev rest : List Card
      rest = drop (suc i) (take n cs)

      cut : drop i (take n cs) ≡ card ∷ rest
      cut =
          let len : length (take n cs) ≡ n = length-take-le n cs t.in_cards in
          rw (get_or-take n cs i d h) at (drop-cons (take n cs) i d (omega (arith, len)))

      before : length (take u ts) ≡ u
      before = length-take-le u ts t.within

      -- the used numbers, and those that are not
      take_more : take u' ts' ≡ take u ts ++ take (used_by card room) (table_after card (drop u ts))
      take_more = rw (s.more, s.filled) (rw before at (take-append-add (take u ts) (table_after card (drop u ts)) (used_by card room)))

      drop_more : drop u' ts' ≡ drop (used_by card room) (drop u ts)
      drop_more =
          rw (s.more, s.filled) ((rw before at (drop-append-add (take u ts) (table_after card (drop u ts)) (used_by card room)))
          ∙ rw (length-drop u ts) at (same_rest card (drop u ts)))

      table_next : take u' ts' ++ table_of rest (drop u' ts') ≡ table_with n
      unfolding table_of
      table_next = rw (take_more, drop_more, append_assoc) (rw (cut, length-drop u ts) at t.table_so_far)

      abbrev number : ℕ
      number = (reply_to card room).number

      abbrev rows : ℕ
      rows = (reply_to card room).count

      here : reply_width * i < length rs
      here = omega (arith, t.in_replies, t.replies_long)

      there : reply_width * i + 1 < length rs
      there = omega (arith, t.in_replies, t.replies_long)

      -- the card's two numbers stand behind those of the cards before it, and no later number is touched
      take_two : take (reply_width * (i + 1)) rs' ≡ take (reply_width * i) rs ++ (number ∷ rows ∷ [])
      take_two =
          let two : reply_width * (i + 1) ≡ suc (reply_width * i + 1) = omega arith in
          let one : reply_width * i + 1 ≡ suc (reply_width * i) = omega arith in
          rw (s.replied, two) (take-suc-set (set rs (reply_width * i) number) (reply_width * i + 1) rows (rw (length-set rs (reply_width * i) number) there)
          ∙ rw (one, take-suc-set rs (reply_width * i) number here, append_assoc))

      drop_two : drop (reply_width * n) rs' ≡ drop (reply_width * n) rs
      drop_two =
          rw s.replied (drop-set-lt (reply_width * n) (set rs (reply_width * i) number) (reply_width * i + 1) rows (omega (arith, h))
          ∙ drop-set-lt (reply_width * n) rs (reply_width * i) number (omega (arith, h)))

      replies_next : take (reply_width * (i + 1)) rs' ++ (replies_of rest (length ts' - u') ++ drop (reply_width * n) rs') ≡ replies_with n
      unfolding replies_of
      replies_next =
          let left : length ts' - u' ≡ room - used_by card room = omega (arith, s.more, lt) in
          rw (take_two, drop_two, left, append_assoc) (rw cut at t.replies_so_far)

      pub next_turn : Turn n (i + 1) u' ts' rs'
      next_turn =
          record {
            count = omega (arith, h);
            in_cards = t.in_cards;
            in_replies = t.in_replies;
            table_long = lt ∙ t.table_long;
            replies_long = lr ∙ t.replies_long;
            within = omega (arith, s.more, lt, t.within, rw (length-drop u ts) at (uses_within card (drop u ts)));
            table_so_far = rw add-one table_next;
            replies_so_far = rw add-one (rw add-one at replies_next);
          }

    -- no card is left
    module _ (r : Reply) (e : r ≡ day_reply (length cs) (length rs₀)) (is : n ≡ r.count) (over : i < n → ⊥) where
      none : drop i (take n cs) ≡ []
      none =
          let all : i ≡ length (take n cs) = omega (arith, length-take-le n cs t.in_cards, t.count) in
          rw all (drop-length (take n cs))

      counted : n ≡ (day_reply (length cs) (length rs₀)).count
      counted = is ∙ ap (λ (x : Reply). x.count) e

      last_table : ts ≡ day_table cs ts₀ rs₀
      unfolding table_of
      last_table = sym (take-append-drop u ts) ∙ (rw none at t.table_so_far) ∙ ap table_with counted ∙ table_is

      last_replies : rs ≡ day_replies cs ts₀ rs₀
      unfolding replies_of
      last_replies =
          let done : i ≡ n = omega (arith, t.count) in
          sym (take-append-drop (reply_width * n) rs) ∙ (rw (none, done) at t.replies_so_far) ∙ ap replies_with counted ∙ replies_is

      last_climbs : r.number ≡ 0 → ClimbingDay cs ts rs
      last_climbs z =
          rw (last_table, last_replies) (climbing_day_lem cs ts₀ rs₀ (sym (ap (λ (x : Reply). x.number) e) ∙ z))

      pub last_turn : (ts ≡ day_table cs ts₀ rs₀) × ((rs ≡ day_replies cs ts₀ rs₀) × (r.number ≡ 0 → ClimbingDay cs ts rs))
      last_turn = (last_table, (last_replies, last_climbs))
