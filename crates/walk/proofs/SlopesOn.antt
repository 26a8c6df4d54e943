-- From one row to another of its piece: in one stage, and with the same side of every rule the greater, the slopes gain the same from row to row.
-- Assumes nothing.
use mathlib.Core.Path.{◌≡◌, refl, ap}
use mathlib.Core.Bool.{cond}
use Prim.Native.Nat.{ℕ, max, ◌+◌, ◌*◌, ◌-◌, ◌≤◌, ◌<◌}
use native.Mathlib.Nat.{mul-le-mul_right}
use native.Mathlib.Decide.{dec_lt}
use native.Mathlib.Omega.{arith}
use lib.Dec.{ltb}
use borrow.Author.Tests.{le-leb, lt-leb, lt-ltb, le-ltb}
use Rattle.section.specs.Lines.{Section, joint_num}
use Rattle.section.proofs.Slopes.{even?, is_even_lem, not_even}
use Rattle.runoff.specs.declared.turning.Slope.{Slope}
use Rattle.runoff.specs.Reckoning.{slope_parts, slopes_parts}
use Rattle.walk.specs.declared.turns.Turns.{Turns}
use Rattle.walk.specs.Gains.{outer_gain, gains_in, Holds}

-- before the row t u is at most w, and from it on w is at most u
pub record SidedAt (t j u w : ℕ) : Type 0 where
  pub before : j < t → u ≤ w
  pub after : t ≤ j → w ≤ u

-- what row j, at the station d, sees of the stage and of the sides of the rules, by the rows at which pieces begin
pub record RowAt (x : Section) (t : Turns) (j d : ℕ) : Type 0 where
  pub first : x.h * (x.p + x.v) < 3 * x.L → j < t.joint → 3 * d ≤ joint_num x
  pub second : x.h * (x.p + x.v) < 3 * x.L → t.joint ≤ j → joint_num x < 3 * d
  pub inner : let o = slope_parts x d in SidedAt t.inner j o.up (x.p * o.over + o.down)
  pub shoulder : let o = slope_parts x d in SidedAt t.shoulder j o.up (x.q * o.over + o.down)
  pub kept : SidedAt t.kept j (x.m * x.L + x.W * d) (x.c * x.L)

-- none of those rows comes after row i and not after row j
pub record Together (t : Turns) (i j : ℕ) : Type 0 where
  pub on : i ≤ j
  pub joint : i < t.joint → j < t.joint
  pub inner : i < t.inner → j < t.inner
  pub shoulder : i < t.shoulder → j < t.shoulder
  pub kept : i < t.kept → j < t.kept

-- ---- the greater of two, with plain numbers
module _ {t i j : ℕ} (on : i ≤ j) (same : i < t → j < t) (k : ℕ) where
  -- of n and up − down, where up gains g from row to row
  slope_on :
      (n down g : ℕ) {u u' : ℕ} → SidedAt t i u (n + down) → SidedAt t j u' (n + down) → u' ≡ u + k * g →
      max n (u' - down) ≡ max n (u - down) + k * cond (ltb i t) 0 g
  slope_on n down g {u} {u'} f f' e = go (dec_lt i t)
    where
      go : Dec (i < t) → max n (u' - down) ≡ max n (u - down) + k * cond (ltb i t) 0 g
      go (yes h) = rw (lt-ltb i t h) (omega (arith, f.before h, f'.before (same h)))
      go (no h) = rw (le-ltb i t (omega arith)) (omega (arith, e, f.after (omega arith), f'.after (omega arith)))

  -- of m and that, which gains g
  side_on :
      (m n down g : ℕ) {u u' : ℕ} → n ≤ m → SidedAt t i u (m + down) → SidedAt t j u' (m + down) → max n (u' - down) ≡ max n (u - down) + k * g →
      max m (max n (u' - down)) ≡ max m (max n (u - down)) + k * cond (ltb i t) 0 g
  side_on m n down g {u} {u'} less f f' e = go (dec_lt i t)
    where
      go : Dec (i < t) → max m (max n (u' - down)) ≡ max m (max n (u - down)) + k * cond (ltb i t) 0 g
      go (yes h) = rw (lt-ltb i t h) (omega (arith, less, f.before h, f'.before (same h)))
      go (no h) = rw (le-ltb i t (omega arith)) (omega (arith, less, e, f.after (omega arith), f'.after (omega arith)))

  -- of a and what is left of b, of which s more is taken from row to row
  width_on :
      (a b s w : ℕ) {w' : ℕ} → SidedAt t i (a + w) b → SidedAt t j (a + w') b → w' ≡ w + k * s →
      max a (b - w') + k * cond (ltb i t) s 0 ≡ max a (b - w)
  width_on a b s w {w'} f f' e = go (dec_lt i t)
    where
      go : Dec (i < t) → max a (b - w') + k * cond (ltb i t) s 0 ≡ max a (b - w)
      go (yes h) = rw (lt-ltb i t h) (omega (arith, e, f.before h, f'.before (same h)))
      go (no h) = rw (le-ltb i t (omega arith)) (omega (arith, f.after (omega arith), f'.after (omega arith)))

-- ---- the outer slope: k rows on it has gained g in each
record OuterOn (k g : ℕ) (o o' : Slope) : Type 0 where
  up : o'.up ≡ o.up + k * g
  down : o'.down ≡ o.down
  over : o'.over ≡ o.over

module _ (x : Section) (s d k : ℕ) where
  abbrev e : ℕ
  e = d + k * s

  abbrev On : Type 0
  On = OuterOn k (outer_gain x s d) (slope_parts x d) (slope_parts x e)

  even_on : 3 * x.L ≤ x.h * (x.p + x.v) → On
  unfolding slope_parts outer_gain
  even_on t = rw (is_even_lem x t) (record { up = omega arith; down = refl; over = refl })

  module _ (two : x.h * (x.p + x.v) < 3 * x.L) where
    first_on : 3 * d ≤ joint_num x → 3 * e ≤ joint_num x → On
    unfolding slope_parts outer_gain
    first_on f g = rw (not_even x two, le-leb (3 * d) (joint_num x) f, le-leb (3 * e) (joint_num x) g) (record { up = omega arith; down = refl; over = refl })

    second_on : joint_num x < 3 * d → joint_num x < 3 * e → On
    unfolding slope_parts outer_gain
    second_on f g =
        let way : 3 * e - joint_num x ≡ 3 * d - joint_num x + k * (3 * s) = omega (arith, f) in
        rw (not_even x two, lt-leb (3 * d) (joint_num x) f, lt-leb (3 * e) (joint_num x) g)
        (record { up = omega (arith, ap (λ (n : ℕ). (x.v - x.p) * n) way); down = refl; over = refl })

-- ---- all of them
module _ (x : Section) (s d k i : ℕ) (t : Turns) (steeper : x.p ≤ x.q) (here : RowAt x t i d) (there : RowAt x t (i + k) (d + k * s)) (g : Together t i (i + k)) where
  outer_on : On x s d k
  outer_on = go (even? x) (dec_lt i t.joint)
    where
      go : Dec (3 * x.L ≤ x.h * (x.p + x.v)) → Dec (i < t.joint) → On x s d k
      go (yes even) _ = even_on x s d k even
      go (no two) (yes h) = first_on x s d k (omega arith) (here.first (omega arith) h) (there.first (omega arith) (g.joint h))
      go (no two) (no h) = second_on x s d k (omega arith) (here.second (omega arith) (omega arith)) (there.second (omega arith) (omega (arith, g.on)))

  abbrev here_parts : Slope
  here_parts = slope_parts x d

  abbrev there_parts : Slope
  there_parts = slope_parts x (d + k * s)

  -- the sides there, over what is here
  inner_there : SidedAt t.inner (i + k) there_parts.up (x.p * here_parts.over + here_parts.down)
  inner_there = rw (outer_on.down, outer_on.over) at there.inner

  shoulder_there : SidedAt t.shoulder (i + k) there_parts.up (x.q * here_parts.over + here_parts.down)
  shoulder_there = rw (outer_on.down, outer_on.over) at there.shoulder

  inner_on :
      max (x.p * here_parts.over) (there_parts.up - here_parts.down)
      ≡ max (x.p * here_parts.over) (here_parts.up - here_parts.down) + k * cond (ltb i t.inner) 0 (outer_gain x s d)
  inner_on = slope_on g.on g.inner k (x.p * here_parts.over) here_parts.down (outer_gain x s d) here.inner inner_there outer_on.up

  pub slopes_on : Holds x s d (gains_in t x s i d) k
  unfolding slopes_parts gains_in
  slopes_on =
      record {
        outer_up = outer_on.up;
        outer_down = outer_on.down;
        outer_over = outer_on.over;
        inner = rw (outer_on.down, outer_on.over) inner_on;
        shoulder =
            rw (outer_on.down, outer_on.over)
            (side_on g.on g.shoulder k (x.q * here_parts.over) (x.p * here_parts.over) here_parts.down (cond (ltb i t.inner) 0 (outer_gain x s d))
            (mul-le-mul_right here_parts.over steeper) here.shoulder shoulder_there inner_on);
        kept = width_on g.on g.kept k (x.m * x.L) (x.c * x.L) (x.W * s) (x.W * d) here.kept there.kept (omega arith);
      }
