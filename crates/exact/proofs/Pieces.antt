-- Straight pieces, above nought or below, each of which climbs or is level; and a line of two pieces that meet, which climbs as they do.
-- Assumes nothing.
use mathlib.Core.Path.{◌≡◌, ap}
use mathlib.Core.Logic.{◌↔◌, ◌⊎◌, inl, inr}
use Prim.Native.Nat.{ℕ, ◌+◌, ◌*◌, ◌-◌, ◌≤◌, ◌<◌}
use native.Mathlib.Nat.{mul-pos, mul-le-mul_left, mul-lt-mul_of_pos_left}
use native.Mathlib.Omega.{arith}
use Rattle.exact.specs.Exact.{Exact, whole, ◌⊖◌, ◌⊗◌, ◌≼◌, ◌≺◌, ◌≈◌}
use Rattle.exact.specs.Parts.{Is}
use Rattle.exact.proofs.Ring.{ring}
use Rattle.exact.proofs.Order.{≼_refl, ≼_trans, ≺-≼-trans, ≼-antisym, ≺→≼, ≈→≼, ≈-sym, clash, ask}
use Rattle.exact.proofs.Is.{is_as, is_net, is_sub, is_times, is_diff, is_le, le_is, is_lt, lt_is, is_eq}
use Rattle.exact.proofs.Climb.{Climb, climb_trans, gently, lag}

-- (α − δ + β s)/γ at the station s
pub record Piece : Type 0 where
  pub α : ℕ
  pub δ : ℕ
  pub β : ℕ
  pub γ : ℕ

-- it climbs by at most A times the way, or is level
pub record Gently (A : ℕ) (p : Piece) : Type 0 where
  pub some : 0 < p.γ
  pub gentle : p.β ≤ A * p.γ

-- X is on it, at the station s, which is a/b
pub record OnPiece (p : Piece) (s X : Exact) : Type 0 where
  pub a : ℕ
  pub b : ℕ
  pub at : Is s a 0 b
  pub is : Is X (p.α * b + p.β * a) (p.δ * b) (p.γ * b)

lag_is : {X s : Exact} {n m γ a b : ℕ} (A : ℕ) → 0 < γ → Is X n m (γ * b) → Is s a 0 b → Is (lag A s X) n (m + A * a * γ) (γ * b)
lag_is {γ = γ} {a = a} {b = b} A k f at =
    is_net (is_sub f (is_as {a' = A * a * γ} {b' = 0} (is_times A at) (mul-pos k at.over) (omega arith))) (omega arith)

rearrange : (u w m n : ℕ) → u ≤ w → m ≤ n → u * n + w * m ≤ w * n + u * m
rearrange u w m n h k =
    let e : w - u + u ≡ w = omega arith in
    omega (arith, mul-le-mul_left (w - u) k, ap (λ (i : ℕ). i * m) e, ap (λ (i : ℕ). i * n) e)

module _ {A : ℕ} {p : Piece} {s t X Y : Exact} (k : Gently A p) (f : OnPiece p s X) (g : OnPiece p t Y) where
  pub piece_climbs : s ≼ t → Climb A s X t Y
  piece_climbs h =
      let way : f.a * g.b ≤ g.a * f.b = omega (arith, le_is f.at g.at h) in
      record {
        rises = is_le f.is g.is (omega (arith, mul-le-mul_left (p.β * p.γ) way));
        lags =
            is_le (lag_is A k.some g.is g.at) (lag_is A k.some f.is f.at)
            (omega (arith, mul-le-mul_left p.γ (rearrange p.β (A * p.γ) (f.a * g.b) (g.a * f.b) k.gentle way)));
      }

  -- higher, where it climbs at all
  pub piece_higher : 0 < p.β → s ≺ t → X ≺ Y
  piece_higher j h = is_lt f.is g.is (omega (arith, mul-lt-mul_of_pos_left (lt_is f.at g.at h) (mul-pos j k.some)))

  -- level, where it does not
  pub piece_level : p.β ≡ 0 → X ≼ Y
  piece_level z = is_le f.is g.is (simp (z, ring) (omega arith))

-- with plain numbers: what a piece that climbs at B = A C climbs from a/b to d/e
at_rate :
    (A B C F G a b d e : ℕ) → B ≡ A * C →
    ((F * e + B * d) * (C * b) + G * b * (C * e)) * (e * b) + A * (0 * b + a * e) * (C * e * (C * b))
    ≡ A * (d * b + 0 * e) * (C * e * (C * b)) + (G * e * (C * b) + (F * b + B * a) * (C * e)) * (e * b)
at_rate A B C F G a b d e k =
    simp ring (omega (arith, simp ring at (ap (λ (n : ℕ). n * (d * C * b * e * b)) k), simp ring at (ap (λ (n : ℕ). n * (a * C * e * e * b)) k)))

-- a piece that climbs at A climbs by exactly A times the way
pub piece_exactly : (A : ℕ) {p : Piece} {s t X Y : Exact} → p.β ≡ A * p.γ → OnPiece p s X → OnPiece p t Y → Y ⊖ X ≈ whole A ⊗ (t ⊖ s)
piece_exactly A {p} k f g =
    is_eq (is_diff g.is f.is) (is_times A (is_diff g.at f.at)) (at_rate A p.β p.γ p.α p.δ f.a f.b g.a g.b k)

-- what is lower wherever the station is earlier is equal only where the stations are
pub only_same : {s t X Y : Exact} → (s ≺ t → X ≺ Y) → (t ≺ s → Y ≺ X) → X ≈ Y → s ≈ t
only_same {s} {t} higher lower e = go (ask s t) (ask t s)
  where
    go : (s ≼ t) ⊎ (t ≺ s) → (t ≼ s) ⊎ (s ≺ t) → s ≈ t
    go (inl i) (inl k) = ≼-antisym i k
    go (inl i) (inr k) = absurd (clash (higher k) (≈→≼ (≈-sym e)))
    go (inr i) _ = absurd (clash (lower i) (≈→≼ e))

-- ---- two pieces that meet at j make up the line X over the stations In
pub record Glued (A : ℕ) (In : Exact → Type 0) (X : Exact → Exact) (j : Exact) (p q : Piece) : Type 0 where
  pub fraction : (s : Exact) → In s → 0 < s.den
  pub joint : In j
  pub first : Gently A p
  pub second : Gently A q
  pub before : (s : Exact) → In s → s ≼ j → OnPiece p s (X s)
  pub past : (s : Exact) → In s → j ≼ s → OnPiece q s (X s)

module _ {A : ℕ} {In : Exact → Type 0} {X : Exact → Exact} {j : Exact} {p q : Piece} (g : Glued A In X j p q) where
  self : j ≼ j
  self = ≼_refl j

  pub glued_proper : (s : Exact) → In s → 0 < (X s).den
  glued_proper s a = go (ask s j)
    where
      go : (s ≼ j) ⊎ (j ≺ s) → 0 < (X s).den
      go (inl i) = (g.before s a i).is.proper
      go (inr i) = (g.past s a (≺→≼ i)).is.proper

  module _ (s t : Exact) (a : In s) (b : In t) where
    first_climbs : t ≼ j → s ≼ t → Climb A s (X s) t (X t)
    first_climbs i h = piece_climbs g.first (g.before s a (≼_trans (g.fraction t b) h i)) (g.before t b i) h

    second_climbs : j ≼ s → s ≼ t → Climb A s (X s) t (X t)
    second_climbs i h = piece_climbs g.second (g.past s a i) (g.past t b (≼_trans (g.fraction s a) i h)) h

    first_higher : 0 < p.β → t ≼ j → s ≺ t → X s ≺ X t
    first_higher z i h = piece_higher g.first (g.before s a (≼_trans (g.fraction t b) (≺→≼ h) i)) (g.before t b i) z h

    second_higher : 0 < q.β → j ≼ s → s ≺ t → X s ≺ X t
    second_higher z i h = piece_higher g.second (g.past s a i) (g.past t b (≼_trans (g.fraction s a) i (≺→≼ h))) z h

    -- where the second piece is level
    pub glued_level : q.β ≡ 0 → j ≼ s → j ≼ t → X s ≼ X t
    glued_level z i k = piece_level g.second (g.past s a i) (g.past t b k) z

  module _ (s t : Exact) (a : In s) (b : In t) where
    pub glued_climbs : s ≼ t → Climb A s (X s) t (X t)
    glued_climbs = go (ask t j) (ask s j)
      where
        go : (t ≼ j) ⊎ (j ≺ t) → (s ≼ j) ⊎ (j ≺ s) → s ≼ t → Climb A s (X s) t (X t)
        go (inl i) _ h = first_climbs s t a b i h
        go (inr i) (inl k) h =
            climb_trans (g.fraction j g.joint) (glued_proper j g.joint) (first_climbs s j a g.joint self k) (second_climbs j t g.joint b self (≺→≼ i))
        go (inr i) (inr k) h = second_climbs s t a b (≺→≼ k) h

    -- higher, where the first piece climbs and s is before the joint
    pub glued_higher_before : 0 < p.β → s ≺ j → s ≺ t → X s ≺ X t
    glued_higher_before y k h = go (ask t j)
      where
        go : (t ≼ j) ⊎ (j ≺ t) → X s ≺ X t
        go (inl i) = first_higher s t a b y i h
        go (inr i) = ≺-≼-trans (glued_proper t b) (first_higher s j a g.joint y self k) (second_climbs j t g.joint b self (≺→≼ i)).rises

    -- higher, where both climb
    pub glued_higher : 0 < p.β → 0 < q.β → s ≺ t → X s ≺ X t
    glued_higher y z h = go (ask j s)
      where
        go : (j ≼ s) ⊎ (s ≺ j) → X s ≺ X t
        go (inl k) = second_higher s t a b z k h
        go (inr k) = glued_higher_before y k h

    pub glued_gentle : s ≼ t → X t ⊖ X s ≼ whole A ⊗ (t ⊖ s)
    glued_gentle h = gently (g.fraction s a) (glued_proper s a) (g.fraction t b) (glued_proper t b) (glued_climbs h)

  -- the same height where the stations are the same
  pub glued_same : (s t : Exact) → In s → In t → s ≈ t → X s ≈ X t
  glued_same s t a b e = ≼-antisym (glued_climbs s t a b (≈→≼ e)).rises (glued_climbs t s b a (≈→≼ (≈-sym e))).rises

  -- and, where both climb, nowhere else
  pub glued_equal : 0 < p.β → 0 < q.β → (s t : Exact) → In s → In t → (X s ≈ X t) ↔ (s ≈ t)
  glued_equal y z s t a b = (only_same (glued_higher s t a b y z) (glued_higher t s b a y z), glued_same s t a b)
