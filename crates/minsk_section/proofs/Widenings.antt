-- The widening at the station a/b, over one denominator; it starts at G/Q and ends at (G + 20000 Q)/Q.
-- Assumes nothing.
use mathlib.Core.Path.{◌≡◌, ap}
use Prim.Native.Nat.{ℕ, suc, ◌+◌, ◌*◌, ◌≤◌, ◌<◌}
use native.Mathlib.Nat.{mul-pos}
use native.Mathlib.Omega.{arith}
use Rattle.exact.specs.Exact.{Exact, ◌⊖◌}
use Rattle.exact.specs.Parts.{Is}
use Rattle.exact.proofs.Is.{is_whole, is_one, is_as, is_net, is_add, is_sub, is_mul, is_div, is_from_zero, is_past, is_yes, is_no}
use Rattle.minsk_section.specs.Lines.{Section, wide_start, wide_end, growing, widening}

-- the widening's numbers: its start G/Q, its end K/Q
pub record Growth (x : Section) (G K Q : ℕ) : Type 0 where
  pub end : Is (wide_end x) K 0 Q
  pub way : K ≡ G + 20000 * Q

module _ (x : Section) {G K Q : ℕ} (g : Growth x G K Q) where
  pub wide_start_is : Is (wide_start x) G 0 Q
  wide_start_is = is_net (is_sub g.end (is_whole 20000 Q g.end.over)) (omega (arith, g.way))

  module _ {s : Exact} {a b : ℕ} (at : Is s a 0 b) where
    pub growing_is : (n : ℕ) → Q * a ≡ G * b + n → Is (growing x s) (x.W * n) 0 (20000 * (Q * b))
    growing_is n e =
        let k : 0 < 20000 * (Q * b) = mul-pos (omega arith) (mul-pos g.end.over at.over) in
        let run : Is (wide_end x ⊖ wide_start x) (20000 * Q) 0 Q = is_net (is_sub g.end wide_start_is) (omega (arith, g.way)) in
        let far : 0 < 20000 * Q = mul-pos (omega arith) g.end.over in
        is_net
        (is_add (is_whole 0 (20000 * (Q * b)) k)
        (is_as {a' = x.W * n} {b' = 0} (is_div (is_mul (is_from_zero (is_one x.W)) (is_past at wide_start_is n e)) run far) k (omega arith)))
        (omega arith)

    pub none_is : Q * a ≤ G * b → Is (widening x s) 0 0 1
    unfolding widening
    none_is h = rw (is_yes at wide_start_is (omega arith)) (is_one 0)

    pub grows_is : (n : ℕ) → Q * a ≡ G * b + suc n → suc n ≤ 20000 * (Q * b) → Is (widening x s) (x.W * suc n) 0 (20000 * (Q * b))
    unfolding widening
    grows_is n e h =
        rw (is_no at wide_start_is (omega arith), is_yes at g.end (omega (arith, ap (λ (k : ℕ). k * b) g.way))) (growing_is (suc n) e)

    pub full_is : K * b < Q * a → Is (widening x s) x.W 0 1
    unfolding widening
    full_is h = rw (is_no at wide_start_is (omega (arith, ap (λ (k : ℕ). k * b) g.way)), is_no at g.end (omega arith)) (is_one x.W)
