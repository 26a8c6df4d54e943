-- Rows written into a table one after the other: what stands in it after the first i, and that all of them are those that are due.
-- Assumes nothing.
use mathlib.Core.Path.{◌≡◌, refl, sym, ap, ap₂, ◌∙◌}
use mathlib.Core.List.{List, ◌++◌}
use Prim.Native.Nat.{ℕ, zero, suc, ◌+◌, ◌*◌, ◌-◌, ◌≤◌, ◌<◌}
use native.Mathlib.Omega.{arith}
use lib.IntN.{ℤ, pos}
use lib.ListN.{length, take, drop, get_or}
use borrow.Rule.Slice.PartMut.{put_mid, Post-is}
use Rattle.card.specs.Rows.{joined}
use Rattle.card.specs.RowsInto.{with_row, with_rows}
use Rattle.card.proofs.Joined.{joined-none, length_joined, next, at_place}

module _ (width : ℕ) where
  -- row i is written
  pub put_is : (i : ℕ) (table numbers : List ℤ) → put_mid (width * i) (width * i + width - width * i) table numbers ≡ with_row width i table numbers
  put_is i table numbers = ap (λ (l : List ℤ). take (width * i) table ++ (numbers ++ l)) (Post-is (width * i) (width * i + width) table (omega arith))

  -- ---- the rows from `first` on, as they are reckoned
  module _ (f : ℕ → List ℤ) (first : ℕ) where
    pub none_on : (table : List ℤ) → table ≡ with_rows width f first (first - first) table
    unfolding with_rows
    none_on table =
        let none : first - first ≡ 0 = omega arith in
        rw none refl

    pub one_on :
        (i : ℕ) (old : List ℤ) {table after : List ℤ} → first ≤ i → table ≡ with_rows width f first (i - first) old →
        after ≡ with_row width i table (f i) → after ≡ with_rows width f first (i + 1 - first) old
    unfolding with_rows
    one_on i old h before wrote =
        let more : i + 1 - first ≡ suc (i - first) = omega arith in
        let here : first + (i - first) ≡ i = omega arith in
        rw (more, here) (wrote ∙ ap (λ (l : List ℤ). with_row width i l (f i)) before)

  -- ---- the rows that are due, row i of them `block i`
  module _ (block : ℕ → List ℤ) (wide : (i : ℕ) → length (block i) ≡ width) where
    -- the first i rows stand in the table, and past them what stood there
    abbrev pub so_far : ℕ → List ℤ → List ℤ
    so_far i old = joined block i ++ drop (width * i) old

    pub none_written : (old : List ℤ) → old ≡ so_far 0 old
    none_written old =
        let none : width * 0 ≡ 0 = omega arith in
        sym (ap₂ (λ (l : List ℤ) (n : ℕ). l ++ drop n old) (joined-none block) none)

    -- one row more, n rows more, and all of them at once
    pub next_written : (i : ℕ) (old : List ℤ) → with_row width i (so_far i old) (block i) ≡ so_far (i + 1) old
    next_written i old = sym (put_is i (so_far i old) (block i)) ∙ next block width wide i old

    pub one_written :
        (f : ℕ → List ℤ) (i : ℕ) (old : List ℤ) {table after : List ℤ} → f i ≡ block i → table ≡ so_far i old →
        after ≡ with_rows width f i (i + 1 - i) table → after ≡ so_far (i + 1) old
    unfolding with_rows
    one_written f i old {table} {after} same before wrote =
        let one : i + 1 - i ≡ 1 = omega arith in
        let here : i + 0 ≡ i = omega arith in
        rw (one, here) at wrote ∙ ap₂ (with_row width i) before same ∙ next_written i old

    pub many_written :
        (f : ℕ → List ℤ) (old : List ℤ) → ((i : ℕ) → f i ≡ block i) → (i n : ℕ) → with_rows width f i n (so_far i old) ≡ so_far (i + n) old
    unfolding with_rows
    many_written f old same i zero = ap (λ (k : ℕ). so_far k old) (omega arith)
    many_written f old same i (suc n) =
        ap₂ (with_row width (i + n)) (many_written f old same i n) (same (i + n))
        ∙ next_written (i + n) old
        ∙ ap (λ (k : ℕ). so_far k old) (omega arith)

    pub all_on : (f : ℕ → List ℤ) (old : List ℤ) → ((i : ℕ) → f i ≡ block i) → (n : ℕ) → with_rows width f 0 n old ≡ so_far n old
    all_on f old same n =
        ap (with_rows width f 0 n) (none_written old) ∙ many_written f old same 0 n ∙ ap (λ (k : ℕ). so_far k old) (omega arith)

    -- ---- where `rows` are all of them
    module _ {rows : List ℤ} (count : ℕ) (all : joined block count ≡ rows) where
      pub all_written : (old : List ℤ) {n : ℕ} → n ≡ count → so_far n old ≡ rows ++ drop (width * count) old
      all_written old is = rw is (ap (λ (l : List ℤ). l ++ drop (width * count) old) all)

      pub length_rows : length rows ≡ width * count
      length_rows = sym (ap length all) ∙ length_joined block width wide count

      -- number m of row i, whatever stands past the rows
      pub number_in : (rest : List ℤ) (i m : ℕ) → i < count → m < width → get_or (rows ++ rest) (width * i + m) (pos 0) ≡ get_or (block i) m (pos 0)
      number_in rest i m h g =
          ap (λ (l : List ℤ). get_or (l ++ rest) (width * i + m) (pos 0)) (sym all) ∙ at_place block width wide count i m h g rest (pos 0)
