-- Where a rule's sides compare at every station as the station does with the closed form, the rule changes sides there and nowhere else.
-- Assumes nothing.
use mathlib.Core.Path.{◌≡◌, refl}
use mathlib.Core.Bool.{Bool, true, false}
use mathlib.Core.Logic.{◌↔◌, ◌⊎◌, inl, inr}
use Prim.Native.Nat.{ℕ, ◌+◌, ◌*◌, ◌≤◌, ◌<◌}
use native.Mathlib.Omega.{arith}
use Rattle.exact.specs.Exact.{Exact, ◌≼◌, ◌≺◌, ◌≈◌}
use Rattle.exact.specs.Parts.{Is}
use Rattle.exact.proofs.Order.{above}
use Rattle.exact.proofs.Is.{is_one, is_frac, is_le, is_lt, lt_is, station_is}
use Rattle.section.specs.Lines.{Section, On}
use Rattle.changes.specs.Rules.{Rule, Crosses}
use Rattle.changes.specs.Closed.{changes, change_num, change_den, change_at}
use Rattle.changes.proofs.Once.{Once, crosses, only, not_back, never, never_back}
use Rattle.changes.proofs.Stations.{Sided}

-- ---- B is to A as u is to w
pub record Reads (A B : Exact) (u w : ℕ) : Type 0 where
  pub less : u < w → B ≺ A
  pub most : u ≤ w → B ≼ A
  pub more : w < u → A ≺ B

pub reads : {A B : Exact} {a b d a' b' d' u w : ℕ} → Is A a b d → Is B a' b' d' → u ≡ a' * d + b * d' → w ≡ a * d' + b' * d → Reads A B u w
reads f g e i = record { less = λ h. is_lt g f (omega arith); most = λ h. is_le g f (omega arith); more = λ h. is_lt f g (omega arith) }

-- ---- A and B are a rule's sides at s, A the one that is greater before the change
pub record Compared (rule : Rule) (x : Section) (s A B : Exact) : Type 0 where
  pub u : ℕ
  pub w : ℕ
  pub order : Reads A B u w
  pub sided : Sided rule x (above s) s.den u w

-- num/den is a fraction between 0 and L
pub record Within (num den L : ℕ) : Type 0 where
  pub fraction : 0 < den
  pub some : 0 < num
  pub less : num < den * L

-- the closed form lies between the ends of the clothoid
abbrev pub Inside : Rule → Section → Type 0
Inside rule x = Within (change_num rule x) (change_den rule x) x.L

module _
    {rule : Rule} {x : Section} {A B : Exact → Exact} (f : (s : Exact) → On x s → Compared rule x s (A s) (B s))
    (i : changes rule x ≡ true → Inside rule x) where
  once : changes rule x ≡ true → Once x A B (change_at rule x)
  once e =
      record {
        fraction = (i e).fraction;
        starts = is_lt (is_one 0) z (omega (arith, (i e).some));
        ends = is_lt z (is_one x.L) (omega (arith, (i e).less));
        before = λ s on h. (f s on).order.less (((f s on).sided.alike e).less (omega (arith, lt_is (station_is on.fraction on.from) z h)));
        after = λ s on h. (f s on).order.more (((f s on).sided.alike e).more (omega (arith, lt_is z (station_is on.fraction on.from) h)));
      }
    where
      z : Is (change_at rule x) (change_num rule x) 0 (change_den rule x)
      z = is_frac (change_num rule x) (change_den rule x) (i e).fraction

  level : changes rule x ≡ false → (s : Exact) → On x s → B s ≼ A s
  level e s on = (f s on).order.most ((f s on).sided.never e)

  abbrev There : Exact → Type 0
  There w = (changes rule x ≡ true) × (w ≈ change_at rule x)

  module _ {w : Exact} where
    found : (t : Bool) → changes rule x ≡ t → Crosses x A B w → There w
    found true e c = (e, only (once e) c)
    found false e c = absurd (never (level e) c)

    no_other : (t : Bool) → changes rule x ≡ t → Crosses x B A w → ⊥
    no_other true e c = not_back (once e) c
    no_other false e c = never_back (level e) c

    back : 0 < w.den → There w → Crosses x A B w
    back p c = crosses (once c.0) p c.1

    -- whichever of the two the rule names first
    pub exactly : 0 < w.den → (Crosses x A B w ⊎ Crosses x B A w) ↔ There w
    exactly p = (go, λ c. inl (back p c))
      where
        go : Crosses x A B w ⊎ Crosses x B A w → There w
        go (inl c) = found (changes rule x) refl c
        go (inr c) = absurd (no_other (changes rule x) refl c)

    pub exactly_back : 0 < w.den → (Crosses x B A w ⊎ Crosses x A B w) ↔ There w
    exactly_back p = (go, λ c. inr (back p c))
      where
        go : Crosses x B A w ⊎ Crosses x A B w → There w
        go (inl c) = absurd (no_other (changes rule x) refl c)
        go (inr c) = found (changes rule x) refl c
