-- One turn of the search for the least length, at entry i of a table: the sought radius is past the entry's, at it, or below it.
-- Assumes nothing.
use Rattle.std.proofs.Common.{◌≡◌, List, ℕ, ◌+◌, ◌≤◌, ◌<◌, max, length, get_or, drop, arith}
use native.Mathlib.Numerals.{add-one}
use lib.Seq.{drop-cons}
use borrow.Author.Tests.{lt-ltb, le-ltb, eq-eqb, ne_eqb}
use Rattle.card.specs.declared.tables.Clothoid.{Clothoid}
use Rattle.card.specs.Clothoid.{listed, found, search}

abbrev pub entry : List Clothoid → ℕ → Clothoid
entry es i = get_or es i (listed 0 0)

module _ (es : List Clothoid) (before i r : ℕ) (inside : i < length es) where
  pub turn_past : (entry es i).radius < r → search before i (drop i es) r ≡ search (entry es i).length (i + 1) (drop (i + 1) es) r
  turn_past h = rw (drop-cons es i (listed 0 0), lt-ltb (entry es i).radius r h, add-one)

  pub turn_at : r ≡ (entry es i).radius → search before i (drop i es) r ≡ found (entry es i).length (i + 1)
  turn_at h =
      let high : r ≤ (entry es i).radius = omega arith in
      rw (drop-cons es i (listed 0 0), le-ltb (entry es i).radius r high, eq-eqb r (entry es i).radius h)

  pub turn_below : r ≤ (entry es i).radius → (r ≡ (entry es i).radius → ⊥) → search before i (drop i es) r ≡ found (max before (entry es i).length) (i + 1)
  turn_below h apart = rw (drop-cons es i (listed 0 0), le-ltb (entry es i).radius r h, ne_eqb r (entry es i).radius apart)
