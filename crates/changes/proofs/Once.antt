-- Where one of two numbers is greater at every station before z and the other at every one after it, sides change at z and nowhere else;
-- where one is nowhere less than the other, sides change nowhere.
-- Assumes nothing.
use mathlib.Core.Logic.{◌⊎◌, inl, inr}
use Prim.Native.Nat.{◌<◌}
use native.Mathlib.Omega.{arith}
use Rattle.exact.specs.Exact.{Exact, whole, ◌≼◌, ◌≺◌, ◌≈◌}
use Rattle.exact.proofs.Order.{≼_refl, ≼_trans, ≺-≼-trans, ≼-antisym, ≺→≼, ≈→≼, ≈-sym, clash, ask}
use Rattle.section.specs.Lines.{Section, On}
use Rattle.section.proofs.EdgePieces.{on_whole}
use Rattle.changes.specs.Rules.{Crosses}
use Rattle.changes.proofs.Between.{mediant, between, ≼-≺-trans}

-- a is greater at every station before z, which is within the clothoid, and b at every one after it
pub record Once (x : Section) (a b : Exact → Exact) (z : Exact) : Type 0 where
  pub fraction : 0 < z.den
  pub starts : whole 0 ≺ z
  pub ends : z ≺ whole x.L
  pub before : (s : Exact) → On x s → s ≺ z → b s ≺ a s
  pub after : (s : Exact) → On x s → z ≺ s → a s ≺ b s

module _ {x : Section} {a b : Exact → Exact} {z w : Exact} (f : Once x a b z) where
  -- sides change at z, from the clothoid's start to its end
  pub crosses : 0 < w.den → w ≈ z → Crosses x a b w
  crosses p e =
      record {
        fraction = p;
        from = whole 0;
        to = whole x.L;
        from_on = on_whole x 0 (omega arith);
        to_on = on_whole x x.L (omega arith);
        earlier = ≺-≼-trans p f.starts (≈→≼ (≈-sym e));
        later = ≼-≺-trans p (≈→≼ e) f.ends;
        before = λ s on _ h. f.before s on (≺-≼-trans f.fraction h (≈→≼ e));
        after = λ s on h _. f.after s on (≼-≺-trans f.fraction (≈→≼ (≈-sym e)) h);
      }

  -- and where they do so at w, no station between w and z has either side greater
  module _ (c : Crosses x a b w) where
    within : (s : Exact) → 0 < s.den → c.from ≼ s → s ≼ c.to → On x s
    within s p h k = record { fraction = p; from = ≼_trans c.from_on.fraction c.from_on.from h; to = ≼_trans c.to_on.fraction k c.to_on.to }

    not_earlier : w ≺ z → ⊥
    not_earlier h = go (ask z c.to)
      where
        both : (s : Exact) → On x s → w ≺ s → s ≼ c.to → s ≺ z → ⊥
        both s on i j k = clash (c.after s on i j) (≺→≼ (f.before s on k))

        go : (z ≼ c.to) ⊎ (c.to ≺ z) → ⊥
        go (inl i) =
            let m = between c.fraction f.fraction h in
            let to = ≼_trans f.fraction (≺→≼ m.ahead) i in
            both (mediant w z) (within (mediant w z) m.fraction (≼_trans c.fraction (≺→≼ c.earlier) (≺→≼ m.past)) to) m.past to m.ahead
        go (inr i) = both c.to c.to_on c.later (≼_refl c.to) i

    not_later : z ≺ w → ⊥
    not_later h = go (ask c.from z)
      where
        both : (s : Exact) → On x s → c.from ≼ s → s ≺ w → z ≺ s → ⊥
        both s on i j k = clash (c.before s on i j) (≺→≼ (f.after s on k))

        go : (c.from ≼ z) ⊎ (z ≺ c.from) → ⊥
        go (inl i) =
            let m = between f.fraction c.fraction h in
            let from = ≼_trans f.fraction i (≺→≼ m.past) in
            both (mediant z w) (within (mediant z w) m.fraction from (≼_trans c.fraction (≺→≼ m.ahead) (≺→≼ c.later))) from m.ahead m.past
        go (inr i) = both c.from c.from_on (≼_refl c.from) c.earlier i

    pub only : w ≈ z
    only = go (ask w z) (ask z w)
      where
        go : (w ≼ z) ⊎ (z ≺ w) → (z ≼ w) ⊎ (w ≺ z) → w ≈ z
        go (inl i) (inl j) = ≼-antisym i j
        go (inr j) _ = absurd (not_later j)
        go _ (inr i) = absurd (not_earlier i)

  -- they change nowhere the other way
  pub not_back : Crosses x b a w → ⊥
  not_back c = go (ask w z)
    where
      go : (w ≼ z) ⊎ (z ≺ w) → ⊥
      go (inl i) = clash (c.before c.from c.from_on (≼_refl c.from) c.earlier) (≺→≼ (f.before c.from c.from_on (≺-≼-trans f.fraction c.earlier i)))
      go (inr i) = clash (c.after c.to c.to_on c.later (≼_refl c.to)) (≺→≼ (f.after c.to c.to_on (≺-≼-trans c.to_on.fraction i (≺→≼ c.later))))

-- b is nowhere greater
module _ {x : Section} {a b : Exact → Exact} {w : Exact} (f : (s : Exact) → On x s → b s ≼ a s) where
  pub never : Crosses x a b w → ⊥
  never c = clash (c.after c.to c.to_on c.later (≼_refl c.to)) (f c.to c.to_on)

  pub never_back : Crosses x b a w → ⊥
  never_back c = clash (c.before c.from c.from_on (≼_refl c.from) c.earlier) (f c.from c.from_on)
