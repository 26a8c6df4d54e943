-- Where a piece ends: at the next of the rows at which one begins, or where all rows are written.
-- Assumes nothing.
use mathlib.Core.Path.{◌≡◌, refl}
use mathlib.Core.Bool.{cond}
use mathlib.Core.Logic.{◌⊎◌, inl, inr}
use Prim.Native.Nat.{ℕ, ◌-◌, ◌≤◌, ◌<◌}
use native.Mathlib.Decide.{dec_lt}
use native.Mathlib.Omega.{arith}
use lib.Dec.{ltb}
use borrow.Author.Tests.{lt-ltb, le-ltb}
use Rattle.card.specs.declared.Card.{Card}
use Rattle.runoff.specs.Rows.{row_count}
use Rattle.walk.specs.declared.turns.Turns.{Turns}
use Rattle.walk.specs.Turns.{sooner, end_by, turns_of, end_of}

-- n is the next past i of the numbers among T, up to the count
pub record NextOf (T : ℕ → Type 0) (count i n : ℕ) : Type 0 where
  pub past : i < n
  pub most : n ≤ count
  pub among : T n
  pub none : (j : ℕ) → i < j → j < n → ¬ T j

-- one number more
abbrev pub also : (ℕ → Type 0) → ℕ → ℕ → Type 0
also T row j = T j ⊎ (j ≡ row)

module _ (T : ℕ → Type 0) (count i row end : ℕ) (f : NextOf T count i end) where
  comes : i < row → row < end → NextOf (also T row) count i row
  comes h g = record { past = h; most = omega (arith, f.most); among = inr refl; none = none }
    where
      none : (j : ℕ) → i < j → j < row → also T row j → ⊥
      none j a b (inl t) = f.none j a (omega arith) t
      none j a b (inr e) = omega arith

  stays : (i < row → end ≤ row) → NextOf (also T row) count i end
  stays far = record { past = f.past; most = f.most; among = inl f.among; none = none }
    where
      none : (j : ℕ) → i < j → j < end → also T row j → ⊥
      none j a b (inl t) = f.none j a b t
      none j a b (inr e) = omega (arith, far (omega arith))

  sooner_is : Dec (i < row) → Dec (row < end) → NextOf (also T row) count i (sooner i row end)
  sooner_is (yes a) (yes b) = rw (lt-ltb i row a, lt-ltb row end b) (comes a b)
  sooner_is (yes a) (no b) = rw (lt-ltb i row a, le-ltb row end (omega arith)) (stays (λ _. omega arith))
  sooner_is (no a) _ = rw (le-ltb i row (omega arith)) (stays (λ h. absurd (a h)))

  next_sooner : NextOf (also T row) count i (sooner i row end)
  next_sooner = sooner_is (dec_lt i row) (dec_lt row end)

module _ (count i : ℕ) (h : i < count) where
  -- where all rows are written
  all_written : NextOf (λ j. j ≡ count) count i count
  all_written = record { past = h; most = omega arith; among = refl; none = λ j a b e. omega arith }

  -- and the last row
  last_or_all : Dec (i < count - 1) → NextOf (also (λ j. j ≡ count) (count - 1)) count i (cond (ltb i (count - 1)) (count - 1) count)
  last_or_all (yes a) = rw (lt-ltb i (count - 1) a) (comes _ count i (count - 1) count all_written a (omega arith))
  last_or_all (no a) = rw (le-ltb i (count - 1) (omega arith)) (stays _ count i (count - 1) count all_written (λ g. absurd (a g)))

-- and those past each turn
abbrev pub Begins : Turns → ℕ → ℕ → Type 0
Begins t count = also (also (also (also (also (λ j. j ≡ count) (count - 1)) t.joint) t.inner) t.shoulder) t.kept

pub next_piece : (t : Turns) (count i : ℕ) → i < count → NextOf (Begins t count) count i (end_by t count i)
unfolding end_by
next_piece t count i h =
    next_sooner _ count i t.kept _
    (next_sooner _ count i t.shoulder _
    (next_sooner _ count i t.inner _
    (next_sooner _ count i t.joint _ (last_or_all count i h (dec_lt i (count - 1))))))

-- the piece that begins with row i of a card
pub piece_of : (card : Card) (i : ℕ) → i < row_count card → NextOf (Begins (turns_of card) (row_count card)) (row_count card) i (end_of card i)
piece_of card i h = next_piece (turns_of card) (row_count card) i h
