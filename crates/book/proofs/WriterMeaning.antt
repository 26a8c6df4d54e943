-- What the definitions of the writer mean: WriterTheorem of specs/Written.antt.
-- Assumes nothing.
use Prim.Native.Nat.{ℕ, zero, suc, ◌+◌, ◌-◌, ◌*◌, ◌%◌, ◌≤◌, ◌<◌}
use mathlib.Core.Logic.{◌↔◌}
use mathlib.Core.Path.{◌≡◌, refl, sym, ap, ap₂, ◌∙◌, subst}
use mathlib.Core.Bool.{Bool, true, false, not, true≢false}
use mathlib.Core.List.{List, [], ◌∷◌, ◌++◌, append_assoc, append-nil}
use native.Mathlib.Omega.{arith}
use lib.IntN.{ℤ, pos}
use lib.ListN.{length, get_or, take, drop, length-append, length-drop}
use lib.Seq.{take-append_seam, drop-append_seam, take_at, drop_at, drop-drop, length-take-le}
use lib.Dec.{eqb}
use borrow.Author.Tests.{ltb-false, le-ltb, eq-eqb}
use Rattle.decimal.specs.Decimal.{Each}
use Rattle.decimal.proofs.Choices.{or-none, neither_met, not_met}
use Rattle.card.specs.Words.{◌below◌, ◌above◌, outside, among}
use Rattle.card.specs.Table.{reply_by}
use Rattle.card_list.specs.declared.NamePlace.{NamePlace}
use Rattle.card_list.specs.List.{curve_width, name_place_in, name_bytes}
use Rattle.book.specs.Body.{card_numbers}
use Rattle.book.specs.Book.{BookReply, most_curves, least_list, accepted_of, reply_to_book, list_after}
use Rattle.book.specs.Printed.{Curve, IsName, IsBody, IsBook, Differs, NoTwins, number_text, contents_text, contents_texts, names_of, bodies_of, book_text}
use Rattle.book.specs.LineMeaning.{Stands}
use Rattle.book.specs.Meaning.{entries, book_entries, curve_in, curves_in}
use Rattle.book.specs.Writing.{curve_count, curves_of, wrong_length, is_wrong, some_wrong, same_name, is_one_of, has_twins, is_unfit, some_unfit, wrong_list, twinned, unwritable, writer_number, reply_to_list, buffer_after}
use Rattle.book.specs.Written.{RightList, WrongList, TwinList, RightCards, Unwritable, Fits, written, front_of, own_curve, WriterTheorem}
use Rattle.book.proofs.Standing.{stands_front, stands_back}
use Rattle.book.proofs.BookText.{contents_stand, contents_place, bodies_place}
use Rattle.book.proofs.BookMeaning.{meaning}
use Rattle.book.proofs.WriterBodies.{fit_body, body_fit}
use Rattle.book.proofs.WriterNames.{right_stands, stands_right, same_is, same_self}
use Rattle.book.proofs.WriterReplies.{length_of, given, number_is, refused, reply_is, buffer_is}
use Rattle.book.proofs.WriterLines.{bodies_in, place_next, wrong_at, curves_count, curves_bodies}

-- ---- the curves of a list are its own
own_at : (n : ℕ) (names : List ℕ) (list : List ℤ) (i : ℕ) (other : Curve) → i < n → get_or (curves_in n names list) i other ≡ own_curve list names i
unfolding curves_in curve_in
own_at zero names list i other h = absurd (omega arith)
own_at (suc n) names list zero other h = refl
own_at (suc n) names list (suc i) other h =
    let k : curve_width + (curve_width * i + 2) ≡ curve_width * suc i + 2 = omega arith in
    own_at n names (drop curve_width list) i other (omega arith)
    ∙ (λ j. record {
      name = name_bytes names (place_next list i j);
      numbers = take card_numbers ((drop-drop (curve_width * i + 2) curve_width list ∙ ap (λ (m : ℕ). drop m list) k) j);
    })

-- ---- the first of three tests that is met
given_only : (a b c : Bool) → among (0 ∷ 31 ∷ 32 ∷ 33 ∷ []) (given a b c) ≡ true
given_only true b c = refl
given_only false true c = refl
given_only false false true = refl
given_only false false false = refl

given_first : (a b c : Bool) → given a b c ≡ 31 → a ≡ true
given_first true b c e = refl
given_first false true c e = absurd (omega arith)
given_first false false true e = absurd (omega arith)
given_first false false false e = absurd (omega arith)

given_second : (a b c : Bool) → given a b c ≡ 32 → (a ≡ false) × (b ≡ true)
given_second true b c e = absurd (omega arith)
given_second false true c e = (refl, refl)
given_second false false true e = absurd (omega arith)
given_second false false false e = absurd (omega arith)

given_third : (a b c : Bool) → given a b c ≡ 33 → (a ≡ false) × ((b ≡ false) × (c ≡ true))
given_third true b c e = absurd (omega arith)
given_third false true c e = absurd (omega arith)
given_third false false true e = (refl, (refl, refl))
given_third false false false e = absurd (omega arith)

given_none : (a b c : Bool) → given a b c ≡ 0 → (a ≡ false) × ((b ≡ false) × (c ≡ false))
given_none true b c e = absurd (omega arith)
given_none false true c e = absurd (omega arith)
given_none false false true e = absurd (omega arith)
given_none false false false e = (refl, (refl, refl))

-- ---- what the tests say
-- and so is a list of so many
of_length : (size n : ℕ) → size ≡ curve_width * n → 1 ≤ n → n ≤ most_curves → (curve_count size ≡ n) × (wrong_length size ≡ false)
of_length size n e some few =
    let count : curve_count size ≡ n = omega (arith, e) in
    let whole : size % curve_width ≡ 0 = omega (arith, e) in
    let low : 1 ≤ curve_count size = omega (arith, count) in
    let high : curve_count size ≤ most_curves = omega (arith, count) in (
      count,
      neither_met (not (eqb (size % curve_width) 0)) (outside (curve_count size) 1 most_curves) (ap not (eq-eqb (size % curve_width) 0 whole))
          (neither_met (curve_count size below 1) (curve_count size above most_curves) (le-ltb (curve_count size) 1 low) (le-ltb most_curves (curve_count size) high)),
    )

wrong_all : (n : ℕ) (names : List ℕ) (list : List ℤ) → ((i : ℕ) → i < n → is_wrong names (name_place_in list i) ≡ false) → some_wrong n names list ≡ false
unfolding some_wrong
wrong_all zero names list h = refl
wrong_all (suc n) names list h =
    neither_met _ _ (h 0 (omega arith))
    (wrong_all n names (drop curve_width list)
    (λ i l. subst (λ (p : NamePlace). is_wrong names p ≡ false) (sym (place_next list i)) (h (suc i) (omega arith))))

-- no name among others
none_of : (name : List ℕ) (names : List (List ℕ)) → is_one_of name names ≡ false → Each (Differs name) names
unfolding is_one_of Each
none_of name [] e = tt
none_of name (other ∷ names) e =
    let both = or-none _ _ e in
    (λ s. true≢false (sym (same_self name) ∙ ap (same_name name) s ∙ both.0), none_of name names both.1)

of_none : (name : List ℕ) (names : List (List ℕ)) → Each (Differs name) names → is_one_of name names ≡ false
unfolding is_one_of Each
of_none name [] h = refl
of_none name (other ∷ names) h =
    neither_met _ _ (differ (same_name name other) (same_is name other)) (of_none name names h.1)
  where
    differ : (b : Bool) → (b ≡ true → name ≡ other) → b ≡ false
    differ true f = absurd (h.0 (f refl))
    differ false f = refl

no_twins : (names : List (List ℕ)) → has_twins names ≡ false → NoTwins names
unfolding has_twins NoTwins
no_twins [] e = tt
no_twins (name ∷ names) e = let both = or-none _ _ e in (none_of name names both.0, no_twins names both.1)

twins_none : (names : List (List ℕ)) → NoTwins names → has_twins names ≡ false
unfolding has_twins NoTwins
twins_none [] h = refl
twins_none (name ∷ names) h = neither_met _ _ (of_none name names h.0) (twins_none names h.1)

-- numbers that bodies have
none_unfit : (bodies : List (List ℤ)) → Each IsBody bodies → some_unfit bodies ≡ false
unfolding some_unfit Each
none_unfit [] h = refl
none_unfit (numbers ∷ bodies) h = neither_met _ _ (body_fit numbers h.0) (none_unfit bodies h.1)

-- ---- the names and the bodies of a list that is not wrong
names_known : (n : ℕ) (names : List ℕ) (list : List ℤ) → some_wrong n names list ≡ false → Each IsName (names_of (curves_in n names list))
unfolding some_wrong curves_in curve_in Each
names_known zero names list e = tt
names_known (suc n) names list e =
    let both = or-none _ _ e in
    ((right_stands names (name_place_in list 0) both.0).name, names_known n names (drop curve_width list) both.1)

bodies_known : (n : ℕ) (list : List ℤ) → curve_width * n ≤ length list → some_unfit (bodies_in n list) ≡ false → Each IsBody (bodies_in n list)
unfolding bodies_in some_unfit Each
bodies_known zero list l e = tt
bodies_known (suc n) list l e =
    let both = or-none (is_unfit (take card_numbers (drop 2 list))) (some_unfit (bodies_in n (drop curve_width list))) e in
    let eleven : length (take card_numbers (drop 2 list)) ≡ card_numbers = length-take-le card_numbers (drop 2 list) (omega (arith, length-drop 2 list)) in
    (fit_body (take card_numbers (drop 2 list)) eleven both.0, bodies_known n (drop curve_width list) (omega (arith, length-drop curve_width list)) both.1)

module _ (list : List ℤ) (names : List ℕ) where
  abbrev n : ℕ
  n = curve_count (length list)

  abbrev curves : List Curve
  curves = curves_of list names

  abbrev wrong : Bool
  wrong = wrong_list list names

  abbrev twins : Bool
  twins = twinned list names

  right_list : wrong ≡ false → RightList list names n
  right_list e =
      let both = or-none (wrong_length (length list)) (some_wrong n names list) e in
      let sized = length_of (length list) both.0 in
      record {
        some = sized.1.0;
        few = sized.1.1;
        sized = sized.0;
        named = λ i l. right_stands names (name_place_in list i) (wrong_at n names list both.1 i l);
      }

  list_right : (m : ℕ) → RightList list names m → wrong ≡ false
  list_right m r =
      let sized = of_length (length list) m r.sized r.some r.few in
      neither_met (wrong_length (length list)) (some_wrong n names list) sized.1
      (wrong_all n names list (λ i l. stands_right names (name_place_in list i) (r.named i (omega (arith, sized.0)))))

  right_cards : wrong ≡ false → some_unfit (bodies_of curves) ≡ false → RightCards list names
  right_cards e f =
      let r = right_list e in
      let same = curves_bodies n names list in
      rw same (bodies_known n list (omega (arith, r.sized)) (rw same at f))

  module _ (room : ℕ) where
    abbrev unwritten : Bool
    unwritten = unwritable list names room

    number : writer_number list names room ≡ given wrong twins unwritten
    number = number_is list names room

    says_wrong : (writer_number list names room ≡ 31) ↔ WrongList list names
    says_wrong = (
      λ e. record { wrong = λ m r. true≢false (sym (given_first wrong twins unwritten (sym number ∙ e)) ∙ list_right m r) },
      λ w. let a : wrong ≡ true = not_met wrong (λ f. w.wrong n (right_list f)) in number ∙ rw a,
    )

    says_twin : (writer_number list names room ≡ 32) ↔ TwinList list names
    says_twin = (
      λ e. let g = given_second wrong twins unwritten (sym number ∙ e) in
          record { n = n; right = right_list g.0; twin = λ t. true≢false (sym g.1 ∙ twins_none (names_of curves) t) },
      λ w. let a : wrong ≡ false = list_right w.n w.right in
          let b : twins ≡ true = not_met twins (λ f. w.twin (no_twins (names_of curves) f)) in
          number ∙ rw (a, b),
    )

    says_short : (writer_number list names room ≡ 33) ↔ Unwritable list names room
    says_short = (
      λ e. let g = given_third wrong twins unwritten (sym number ∙ e) in
          record {
            n = n;
            right = right_list g.0;
            twins = no_twins (names_of curves) g.1.0;
            short = λ s l. true≢false (sym g.1.1 ∙ neither_met _ _ (le-ltb _ _ l) (none_unfit (bodies_of curves) s));
          },
      λ w. let a : wrong ≡ false = list_right w.n w.right in
          let b : twins ≡ false = twins_none (names_of curves) w.twins in
          let c : unwritten ≡ true = not_met unwritten (λ f. let both = or-none _ _ f in w.short (right_cards a both.1) (ltb-false _ _ both.0)) in
          number ∙ rw (a, b, c),
    )

    says_fits : (writer_number list names room ≡ 0) ↔ Fits list names room
    says_fits = (
      λ e. let g = given_none wrong twins unwritten (sym number ∙ e) in
          let both = or-none _ _ g.1.1 in
          record {
            n = n;
            right = right_list g.0;
            twins = no_twins (names_of curves) g.1.0;
            cards = right_cards g.0 both.1;
            long = ltb-false _ _ both.0;
          },
      λ w. let a : wrong ≡ false = list_right w.n w.right in
          let b : twins ≡ false = twins_none (names_of curves) w.twins in
          let c : unwritten ≡ false = neither_met _ _ (le-ltb _ _ w.long) (none_unfit (bodies_of curves) w.cards) in
          number ∙ rw (a, b, c),
    )

    -- the curves of an accepted list are a book's
    pub is_book : writer_number list names room ≡ 0 → IsBook curves
    is_book e =
        let g = given_none wrong twins unwritten (sym number ∙ e) in
        let r = right_list g.0 in
        let w = or-none (wrong_length (length list)) (some_wrong n names list) g.0 in
        let both = or-none (room below length (book_text curves)) (some_unfit (bodies_of curves)) g.1.1 in
        let count = curves_count n names list in
        record {
          some = omega (arith, count, r.some);
          few = omega (arith, count, r.few);
          names = names_known n names list w.1;
          bodies = right_cards g.0 both.1;
          twins = no_twins (names_of curves) g.1.0;
        }

  module _ (buffer : List ℕ) where
    module _ (e : writer_number list names (length buffer) ≡ 0) where
      count-is : (reply_to_list list names (length buffer)).count ≡ length (book_text curves)
      unfolding reply_to_list reply_by
      count-is = rw (eq-eqb _ _ e)

      written_is : written list names buffer ≡ book_text curves
      written_is = ap₂ take count-is (buffer_is list names buffer e) ∙ take-append_seam (book_text curves) _

      later_kept : drop (length (written list names buffer)) (buffer_after list names buffer) ≡ drop (length (written list names buffer)) buffer
      later_kept =
          rw written_is (ap (drop (length (book_text curves))) (buffer_is list names buffer e) ∙ drop-append_seam (book_text curves) _)

      reads : (lent : List ℤ) → least_list ≤ length lent
          → (reply_to_book (written list names buffer) (length lent) ≡ accepted_of n)
          × (curves_in n (written list names buffer) (list_after (written list names buffer) lent) ≡ curves)
      reads lent room =
          let book = is_book (length buffer) e in
          let a = meaning.accepted curves book lent room in
          let count = curves_count n names list in
          rw written_is (
            a.0 ∙ ap accepted_of count,
            ap₂ (λ (k : ℕ) (l : List ℤ). curves_in k (book_text curves) l) (sym count) a.1
                ∙ meaning.given curves book (drop (curve_width * length curves) lent),
          )

-- ---- a book that was read
-- the names of the curves whose contents lines stand in the text are right
entries_right : (text : List ℕ) (curves : List Curve) (at line end : ℕ) (rest : List ℤ) → Each IsName (names_of curves) → Each IsBody (bodies_of curves)
    → Stands text at (contents_texts line (names_of curves)) end → some_wrong (length curves) text (entries at line curves ++ rest) ≡ false
unfolding Each contents_texts entries some_wrong name_place_in
entries_right text [] at line end rest known cards s = refl
entries_right text (curve ∷ curves) at line end rest known cards s =
    let next : ℕ = at + length (contents_text curve.name line) in
    let later : List ℤ = entries next (line + 1) curves in
    let front : Stands text at (contents_text curve.name line) next = stands_front (contents_text curve.name line) _ s in
    let there : drop at text ≡ curve.name ++ ((32 ∷ number_text line 10) ++ drop next text) =
    front.there ∙ append_assoc curve.name (32 ∷ number_text line 10) (drop next text) in
    let name : take (length curve.name) (drop at text) ≡ curve.name =
    ap (take (length curve.name)) there ∙ take-append_seam curve.name _ in
    let long : length text - at ≡ length curve.name + length ((32 ∷ number_text line 10) ++ drop next text) =
    sym (length-drop at text) ∙ ap length there ∙ length-append curve.name _ in
    let joined : curve.numbers ++ later ++ rest ≡ curve.numbers ++ (later ++ rest) = append_assoc curve.numbers later rest in
    let others : drop card_numbers (curve.numbers ++ later ++ rest) ≡ later ++ rest =
    ap (drop card_numbers) joined ∙ drop_at curve.numbers (later ++ rest) card_numbers cards.0.eleven in
    neither_met _ _
    (stands_right text _ (record { inside = omega (arith, long, known.0.some); name = subst IsName (sym name) known.0 }))
    (ap (some_wrong (length curves) text) others
    ∙ entries_right text curves next (line + 1) end rest known.1 cards.1 (stands_back (contents_text curve.name line) _ s))

entries_long : (curves : List Curve) (at line : ℕ) → Each IsBody (bodies_of curves) → length (entries at line curves) ≡ curve_width * length curves
unfolding Each entries
entries_long [] at line h = refl
entries_long (curve ∷ curves) at line h =
    length-append (pos at ∷ pos (length curve.name) ∷ curve.numbers) _
    ∙ omega (arith, h.0.eleven, entries_long curves (at + length (contents_text curve.name line)) (line + 1) h.1)

module _ (curves : List Curve) (book : IsBook curves) where
  abbrev text : List ℕ
  text = book_text curves

  abbrev front : List ℤ
  front = book_entries curves

  front_long : length front ≡ curve_width * length curves
  front_long = entries_long curves (contents_place curves) (length curves + 2) book.bodies

  front_count : curve_count (length front) ≡ length curves
  front_count = omega (arith, front_long)

  front_curves : curves_of front text ≡ curves
  front_curves =
      ap₂ (λ (k : ℕ) (l : List ℤ). curves_in k text l) front_count (sym (append-nil front))
      ∙ meaning.given curves book []

  front_right : some_wrong (length curves) text front ≡ false
  front_right =
      subst (λ (l : List ℤ). some_wrong (length curves) text l ≡ false) (append-nil front)
      (entries_right text curves (contents_place curves) (length curves + 2) (bodies_place curves) [] book.names book.bodies (contents_stand curves))

  -- the list of a book is written in any buffer that is as long
  front_number : (room : ℕ) → length text ≤ room → writer_number front text room ≡ 0
  front_number room h =
      (says_fits front text room).1 (record {
        n = length curves;
        right = record {
          some = book.some;
          few = book.few;
          sized = front_long;
          named = λ i l. right_stands text (name_place_in front i) (wrong_at (length curves) text front front_right i l);
        };
        twins = rw front_curves book.twins;
        cards = rw front_curves book.bodies;
        long = rw front_curves h;
      })

of_book : (curves : List Curve) → IsBook curves → (lent : List ℤ) (buffer : List ℕ) → least_list ≤ length lent → length (book_text curves) ≤ length buffer
    → (reply_to_list (front_of (book_text curves) lent) (book_text curves) (length buffer) ≡ reply_by 0 (length (book_text curves)))
    × (buffer_after (front_of (book_text curves) lent) (book_text curves) buffer ≡ book_text curves ++ drop (length (book_text curves)) buffer)
of_book curves book lent buffer room h =
    let text = book_text curves in
    let a = meaning.accepted curves book lent room in
    let count : (reply_to_book text (length lent)).count ≡ length curves = ap (λ (r : BookReply). r.count) a.0 in
    let front : front_of text lent ≡ book_entries curves =
    ap₂ (λ (k : ℕ) (l : List ℤ). take (curve_width * k) l) count a.1
    ∙ take_at (book_entries curves) _ (curve_width * length curves) (front_long curves book) in
    let number = front_number curves book (length buffer) h in
    rw front (
      reply_is (book_entries curves) text buffer number ∙ ap (λ (c : List Curve). reply_by 0 (length (book_text c))) (front_curves curves book),
      buffer_is (book_entries curves) text buffer number ∙ ap (λ (c : List Curve). book_text c ++ drop (length (book_text c)) buffer) (front_curves curves book),
    )

written_back : (text : List ℕ) (lent : List ℤ) (buffer : List ℕ) → (reply_to_book text (length lent)).number ≡ 0 → length text ≤ length buffer
    → (reply_to_list (front_of text lent) text (length buffer) ≡ reply_by 0 (length text))
    × (buffer_after (front_of text lent) text buffer ≡ text ++ drop (length text) buffer)
written_back text lent buffer e h =
    let o = meaning.only text lent e in
    let curves = o.1.curves in
    let book = o.1.book in
    let same = o.1.same in
    subst (λ (t : List ℕ). (reply_to_list (front_of t lent) t (length buffer) ≡ reply_by 0 (length t))
    × (buffer_after (front_of t lent) t buffer ≡ t ++ drop (length t) buffer)) (sym same)
    (of_book curves book lent buffer o.0 (rw same at h))

pub writer_meaning : WriterTheorem
writer_meaning = record {
  own = λ list names. record { count = curves_count (curve_count (length list)) names list; curve = own_at (curve_count (length list)) names list };
  wrong = says_wrong;
  twin = says_twin;
  short = says_short;
  fits = says_fits;
  only = λ list names room. rw (number_is list names room) (given_only (wrong_list list names) (twinned list names) (unwritable list names room));
  refused = refused;
  book = λ list names buffer e. record {
    book = is_book list names (length buffer) e;
    reply = reply_is list names buffer e;
    bytes = written_is list names buffer e;
    later = later_kept list names buffer e;
  };
  reads = λ list names buffer lent e room. reads list names buffer e lent room;
  back = written_back;
}
