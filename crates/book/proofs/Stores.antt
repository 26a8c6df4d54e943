-- The numbers of an accepted text as stores into a list, one after another.
-- Assumes nothing.
use Rattle.std.proofs.Common.{append_assoc, length-drop, drop-drop, ℕ, zero, suc, ◌+◌, ◌-◌, ◌*◌, ◌≤◌, ◌<◌, ◌≡◌, refl, sym, ap, ◌∙◌, List, ◌++◌, arith, add-one, ℤ, pos, length, get_or, take, drop, set, length-append, drop_of_length-le, drop-cons, take_at, length-take-le, Some, None}
use borrow.Rule.Slice.PartMut.{put_mid}
use lib.Seq.{sets, sets-eq}
use Rattle.decimal.proofs.Choices.{none_left}
use Rattle.decimal.proofs.Stores.{sets_append}
use Rattle.card_list.specs.List.{curve_width}
use Rattle.book.specs.Number.{Field, SignedField, number_at, signed_at, field_next}
use Rattle.book.specs.Name.{name_at}
use Rattle.book.specs.Contents.{after_heading}
use Rattle.book.specs.Body.{front_numbers, graded, surveyed, absolute_last, relative_or, last_at, last_values, numbers_at, after_numbers, LastNumbers}
use Rattle.book.specs.Book.{most_curves, least_list, entry_at, entries_from, entries_of}
use Rattle.book.specs.Reading.{headings_from, entries_by}

-- numbers that are copied into a part of the list are stored there
pub copy_sets : (xs ys vs : List ℤ) (a k : ℕ) → ys ≡ vs → length ys ≡ length (take k (drop a xs)) → a + k ≤ length xs → put_mid a k xs ys ≡ sets xs a vs
copy_sets xs ys vs a k e n h =
    let rest : length (drop a xs) ≡ length xs - a = length-drop a xs in
    let size : length vs ≡ k = sym (ap length e) ∙ n ∙ length-take-le k (drop a xs) (omega arith) in
    let past : drop k (drop a xs) ≡ drop (a + length vs) xs = rw (size, drop-drop) in
    (λ i. take a xs ++ (e i ++ past i)) ∙ sym (append_assoc (take a xs) vs _) ∙ sym (sets-eq vs xs a (omega arith))

-- one number before the unit stored
pub stores_turn : (text : List ℕ) (at k m : ℕ) (l : List ℤ) (out : ℕ) {v next : ℕ} → k ≡ suc m → number_at text at 32 ≡ Some (v, next)
    → sets l out (numbers_at k text at) ≡ sets (set l out (pos v)) (out + 1) (numbers_at m text next)
unfolding numbers_at
stores_turn text at k m l out more e = ap (λ (i : ℕ). sets l out (numbers_at i text at)) more ∙ rw (e, add-one out)

-- the four from the unit on
pub stores_none : (text : List ℕ) (at : ℕ) (l : List ℤ) (out k : ℕ) → k ≤ 0 → sets l out (numbers_at k text at) ≡ sets l out (numbers_at 0 text at)
stores_none text at l out = none_left (λ k. sets l out (numbers_at k text at))

pub stores_last : (text : List ℕ) (at : ℕ) (l : List ℤ) (out : ℕ) {numbers : List ℤ} {next : ℕ} → last_at text at ≡ Some (numbers, next)
    → sets l out (numbers_at 0 text at) ≡ sets l out numbers
unfolding numbers_at
stores_last text at l out e = ap (λ (last : LastNumbers). sets l out (last_values last)) e

-- the last numbers are four
graded_four : (unit : ℕ) (height : ℤ) (f : SignedField) → length (last_values (graded unit height f)) ≡ 4
graded_four unit height (Some (grade, next)) = refl
graded_four unit height None = refl

surveyed_four : (text : List ℕ) (unit : ℕ) (f : SignedField) → length (last_values (surveyed text unit f)) ≡ 4
surveyed_four text unit (Some (height, next)) = graded_four unit height (signed_at text next 10)
surveyed_four text unit None = refl

absolute_four : (text : List ℕ) (f : Field) → length (last_values (absolute_last text f)) ≡ 4
absolute_four text (Some (unit, next)) = surveyed_four text unit (signed_at text next 32)
absolute_four text None = refl

relative_four : (text : List ℕ) (at : ℕ) (f : Field) → length (last_values (relative_or text at f)) ≡ 4
relative_four text at (Some (unit, next)) = refl
relative_four text at None = absolute_four text (number_at text at 32)

numbers_length : (k : ℕ) (text : List ℕ) (at : ℕ) → length (numbers_at k text at) ≡ k + 4
unfolding numbers_at last_at
numbers_length zero text at = relative_four text at (number_at text at 10)
numbers_length (suc k) text at = ap suc (numbers_length k text (field_next at (number_at text at 32))) ∙ omega arith

-- the thirteen numbers of a curve stored: place, size, and the eleven numbers of its card
pub entry_stores : (text : List ℕ) (heading body : ℕ) (l : List ℤ) (out n : ℕ) → n ≡ name_at text heading
    → sets l out (entry_at text heading body) ≡ sets (set (set l out (pos heading)) (out + 1) (pos n)) (out + 2) (numbers_at front_numbers text body)
unfolding entry_at
entry_stores text heading body l out n e =
    let p : suc out ≡ out + 1 = omega arith in
    let q : suc (suc out) ≡ out + 2 = omega arith in
    ap (λ (m : ℕ). sets (set (set l out (pos heading)) m (pos (name_at text heading))) (suc (suc out)) (numbers_at front_numbers text body)) p
    ∙ ap (λ (m : ℕ). sets (set (set l out (pos heading)) (out + 1) (pos m)) (suc (suc out)) (numbers_at front_numbers text body)) (sym e)
    ∙ ap (λ (m : ℕ). sets (set (set l out (pos heading)) (out + 1) (pos n)) m (numbers_at front_numbers text body)) q

entry_length : (text : List ℕ) (heading body : ℕ) → length (entry_at text heading body) ≡ curve_width
unfolding entry_at
entry_length text heading body = ap (λ (m : ℕ). suc (suc m)) (numbers_length front_numbers text body)

module _ (text places : List ℕ) (i body : ℕ) (l : List ℤ) (out : ℕ) where
  -- after the last curve, no store
  pub entries_none : length places ≤ i → sets l out (entries_by text (drop i places) body) ≡ l
  unfolding entries_by
  entries_none h = rw (drop_of_length-le places h)

  -- one curve stored
  pub entries_turn : {stored : List ℤ} {body' : ℕ} → i < length places → stored ≡ sets l out (entry_at text (get_or places i 0) body)
      → body' ≡ after_numbers front_numbers text body
      → sets l out (entries_by text (drop i places) body) ≡ sets stored (out + curve_width) (entries_by text (drop (i + 1) places) body')
  unfolding entries_by
  entries_turn h s f =
      ap (λ (r : List ℕ). sets l out (entries_by text r body)) (drop-cons places i 0 h)
      ∙ sets_append (entry_at text (get_or places i 0) body) _ l out
      ∙ rw (entry_length text (get_or places i 0) body, s, f, add-one i)

-- by the places of the contents lines, or by going through them, the numbers are the same
pub entries_by_lem : (k : ℕ) (text : List ℕ) (heading body : ℕ) → entries_by text (headings_from k text heading) body ≡ entries_from k text heading body
unfolding entries_by headings_from entries_from
entries_by_lem zero text heading body = refl
entries_by_lem (suc k) text heading body =
    ap (λ (r : List ℤ). entry_at text heading body ++ r) (entries_by_lem k text (after_heading text heading) (after_numbers front_numbers text body))

entries_length : (k : ℕ) (text : List ℕ) (heading body : ℕ) → length (entries_from k text heading body) ≡ curve_width * k
unfolding entries_from
entries_length zero text heading body = refl
entries_length (suc k) text heading body =
    length-append (entry_at text heading body) _
    ∙ ap (λ (m : ℕ). m + length (entries_from k text (after_heading text heading) (after_numbers front_numbers text body))) (entry_length text heading body)
    ∙ omega (arith, entries_length k text (after_heading text heading) (after_numbers front_numbers text body))

-- the stores of n curves are the list's first 13 × n numbers
pub entries_list : (text : List ℕ) (heading body n : ℕ) (l : List ℤ) → n ≤ most_curves → least_list ≤ length l
    → sets l 0 (entries_from n text heading body) ≡ entries_from n text heading body ++ drop (curve_width * n) l
entries_list text heading body n l h k =
    let e : 0 + length (entries_from n text heading body) ≡ curve_width * n = omega (arith, entries_length n text heading body) in
    sets-eq (entries_from n text heading body) l 0 (omega arith) ∙ ap (λ (m : ℕ). entries_from n text heading body ++ drop m l) e

-- the curves that were drafted are the draft's first 13 × n numbers
pub drafted : (text : List ℕ) (n : ℕ) (before after list : List ℤ) → n ≤ most_curves → least_list ≤ length before
    → after ≡ sets before 0 (entries_of text n) → take (curve_width * n) after ++ drop (curve_width * n) list ≡ entries_of text n ++ drop (curve_width * n) list
unfolding entries_of
drafted text n before after list few long e =
    let entries : List ℤ = entries_of text n in
    let size : length entries ≡ curve_width * n = entries_length n text _ _ in
    ap (λ (r : List ℤ). r ++ drop (curve_width * n) list)
    (ap (take (curve_width * n)) (e ∙ entries_list text _ _ n before few long) ∙ take_at entries _ (curve_width * n) size)
