-- Where a line of two pieces climbs on both, it climbs all the way; and heights that are moved alike climb alike.
-- Assumes nothing.
use Prim.Native.Nat.{ℕ, ◌<◌}
use native.Mathlib.Nat.{mul-pos}
use Rattle.exact.specs.Exact.{Exact, ◌⊖◌, ◌≈◌}
use Rattle.exact.specs.Strict.{StrictClimb}
use Rattle.exact.proofs.Order.{≼_trans, ≼-antisym, ≈→≼, ≈-sym}
use Rattle.exact.proofs.Pieces.{Piece, Glued, glued_proper, glued_higher, glued_gentle, glued_equal}
use Rattle.exact.proofs.Shifts.{Less, less_le, le_less, less_lt, same_apart}

-- at any two stations of a line of two pieces that both climb
pub glued_strict :
    {A : ℕ} {In : Exact → Type 0} {X : Exact → Exact} {j : Exact} {p q : Piece} → Glued A In X j p q → 0 < p.β → 0 < q.β →
    (s t : Exact) → In s → In t → StrictClimb A s t (X s) (X t)
glued_strict g y z s t a b =
    record {
      fractions = (glued_proper g s a, glued_proper g t b);
      equal = glued_equal g y z s t a b;
      higher = glued_higher g s t a b y z;
      gentle = glued_gentle g s t a b;
    }

-- ---- X' is X less a, and Y' is Y less a
module _ {a X Y X' Y' : Exact} (f : Less a X X') (g : Less a Y Y') where
  pub less_same : X ≈ Y → X' ≈ Y'
  less_same e = ≼-antisym (less_le f g (≈→≼ e)) (less_le g f (≈→≼ (≈-sym e)))

  pub same_less : X' ≈ Y' → X ≈ Y
  same_less e = ≼-antisym (le_less f g (≈→≼ e)) (le_less g f (≈→≼ (≈-sym e)))

  pub strict_less : {added : ℕ} {s t : Exact} → StrictClimb added s t X Y → StrictClimb added s t X' Y'
  strict_less c =
      record {
        fractions = (f.new, g.new);
        equal = (λ e. c.equal.0 (same_less e), λ e. less_same (c.equal.1 e));
        higher = λ h. less_lt f g (c.higher h);
        gentle = λ h. ≼_trans {y = Y ⊖ X} (mul-pos g.old f.old) (≈→≼ (same_apart f g)) (c.gentle h);
      }
