-- One step along a list of numbered tests, by the answer of the function that makes the test.
-- Assumes nothing.
use mathlib.Core.Path.{◌≡◌, refl, sym, ◌∙◌}
use mathlib.Core.Bool.{Bool, true, false}
use mathlib.Core.List.{List, ◌∷◌}
use Prim.Native.Nat.{ℕ}
use Rattle.card.specs.Reasons.{Test, first}

-- x is what the tests say
pub record Says (x : ℕ) (ts : List Test) : Type 0 where
  pub says : x ≡ first ts

pub at_start : (ts : List Test) → Says (first ts) ts
at_start ts = record { says = refl }

module _ {x : ℕ} {t : Test} {ts : List Test} {answer : Bool} (so_far : Says x (t ∷ ts)) (is : answer ≡ t.met) where
  pub passed : answer ≡ false → Says x ts
  passed left = record { says = so_far.says ∙ rw (sym is ∙ left) }

  pub refused : answer ≡ true → t.number ≡ x
  refused taken = sym (so_far.says ∙ rw (sym is ∙ taken))
