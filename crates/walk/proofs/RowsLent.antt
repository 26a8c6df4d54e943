-- Rows that are written from the start of a lent part of a table are rows of the table.
-- Assumes nothing.
use mathlib.Core.Path.{◌≡◌, refl, sym, ap, ap₂, ◌∙◌}
use mathlib.Core.List.{List, ◌++◌, append_assoc}
use Prim.Native.Nat.{ℕ, zero, suc, ◌+◌, ◌*◌, ◌-◌, ◌/◌, ◌≤◌, ◌<◌}
use native.Mathlib.Nat.{mul-div_cancel_left, mul-le-mul_left}
use native.Mathlib.Omega.{arith}
use lib.IntN.{ℤ}
use lib.ListN.{length, take, drop, take-append-drop}
use lib.Seq.{take-append-add, drop-append-add, drop-append-le, length-take-le}
use borrow.Rule.Slice.PartMut.{put_mid, mid_of, post_of, mid_len}
use Rattle.card.specs.Rows.{joined}
use Rattle.card.specs.RowsInto.{with_row, with_rows}
use Rattle.card.proofs.RowsInto.{all_on}

module _ (width : ℕ) where
  -- ---- behind i rows that stay
  module _ (kept : List ℤ) (i : ℕ) (long : length kept ≡ width * i) where
    one_behind : (k : ℕ) (l numbers : List ℤ) → with_row width (i + k) (kept ++ l) numbers ≡ kept ++ with_row width k l numbers
    one_behind k l numbers =
        let from : width * (i + k) ≡ length kept + width * k = omega (arith, long) in
        let past : width * (i + k) + width ≡ length kept + (width * k + width) = omega (arith, long) in
        rw (past, from, take-append-add, drop-append-add) (append_assoc kept (take (width * k) l) (numbers ++ drop (width * k + width) l))

    behind : (f : ℕ → List ℤ) (l : List ℤ) (n : ℕ) → with_rows width f i n (kept ++ l) ≡ kept ++ with_rows width (λ (k : ℕ). f (i + k)) 0 n l
    unfolding with_rows
    behind f l zero = refl
    behind f l (suc n) =
        let here : 0 + n ≡ n = omega arith in
        rw here (ap (λ (t : List ℤ). with_row width (i + n) t (f (i + n))) (behind f l n) ∙ one_behind n _ (f (i + n)))

  -- ---- rows that are alike
  alike : (f g : ℕ → List ℤ) (l : List ℤ) (n : ℕ) → ((k : ℕ) → k < n → f k ≡ g k) → with_rows width f 0 n l ≡ with_rows width g 0 n l
  unfolding with_rows
  alike f g l zero same = refl
  alike f g l (suc n) same =
      let here : 0 + n ≡ n = omega arith in
      rw here (ap₂ (with_row width n) (alike f g l n (λ k h. same k (omega arith))) (same n (omega arith)))

  -- ---- what stands past the rows stays
  before :
      (f : ℕ → List ℤ) → ((k : ℕ) → length (f k) ≡ width) → (l rest : List ℤ) (n : ℕ) → width * n ≤ length l → with_rows width f 0 n (l ++ rest) ≡ with_rows width f 0 n l ++ rest
  before f wide l rest n h =
      let all : (t : List ℤ) → with_rows width f 0 n t ≡ joined f n ++ drop (width * n) t = λ t. all_on width f wide f t (λ k. refl) n in
      rw (all (l ++ rest), all l, drop-append-le (width * n) l rest h) (sym (append_assoc (joined f n) (drop (width * n) l) rest))

  module _ (f : ℕ → List ℤ) (wide : (k : ℕ) → length (f k) ≡ width) where
    -- ---- a part lent from row i up to row e
    module _ (i e : ℕ) (table : List ℤ) (some : 0 < width) (on : i ≤ e) (held : width * e ≤ length table) where
      abbrev front : List ℤ
      front = take (width * i) table

      abbrev part : List ℤ
      part = mid_of (width * i) (width * e - width * i) table

      abbrev rest : List ℤ
      rest = post_of (width * i) (width * e - width * i) table

      whole : table ≡ front ++ (part ++ rest)
      whole = sym (take-append-drop (width * i) table) ∙ ap (λ (l : List ℤ). front ++ l) (sym (take-append-drop (width * e - width * i) (drop (width * i) table)))

      length_front : length front ≡ width * i
      length_front = length-take-le (width * i) table (omega (arith, mul-le-mul_left width on))

      length_part : length part ≡ width * (e - i)
      length_part =
          let more : i + (e - i) ≡ e = omega arith in
          mid_len (width * i) (width * e) table held ∙ omega (arith, ap (λ (n : ℕ). width * n) more)

      rows_in_part : length part / width ≡ e - i
      rows_in_part = ap (λ (n : ℕ). n / width) length_part ∙ mul-div_cancel_left (e - i) some

      pub lent :
          (g : ℕ → List ℤ) {after : List ℤ} → ((k : ℕ) → i + k < e → g k ≡ f (i + k)) → after ≡ with_rows width g 0 (length part / width) part →
          put_mid (width * i) (width * e - width * i) table after ≡ with_rows width f i (e - i) table
      lent g {after} same wrote =
          let on_part : ℕ → List ℤ = λ (k : ℕ). f (i + k) in
          let wrote_part : after ≡ with_rows width on_part 0 (e - i) part =
          wrote ∙ ap (λ (n : ℕ). with_rows width g 0 n part) rows_in_part ∙ alike g on_part part (e - i) (λ k h. same k (omega arith)) in
          sym (
          ap (with_rows width f i (e - i)) whole
          ∙ behind front i length_front f (part ++ rest) (e - i)
          ∙ ap (λ (l : List ℤ). front ++ l) (before on_part (λ k. wide (i + k)) part rest (e - i) (omega (arith, length_part)))
          ∙ ap (λ (l : List ℤ). front ++ (l ++ rest)) (sym wrote_part)
          )
