-- Where the stages and the widening of an accepted card stand, as the code holds them.
-- Assumes nothing.
use mathlib.Core.Path.{◌≡◌, refl, ap, ◌∙◌}
use Prim.Native.Nat.{◌-◌, ◌/◌, ◌≤◌, ◌<◌}
use native.Mathlib.Nat.{le-div_iff_mul-le}
use native.Mathlib.Omega.{arith}
use Rattle.exact.proofs.Is.{is_frac, is_as}
use Rattle.card.specs.declared.Card.{Card}
use Rattle.minsk_section.specs.Widths.{Widths, widths_at}
use Rattle.minsk_section.specs.Lines.{Section, section_by, section_of, Premises}
use Rattle.minsk_section.proofs.EdgePieces.{N, run}
use Rattle.minsk.specs.declared.runoff.Runoff.{Runoff}
use Rattle.minsk.specs.Refusal.{refusal}
use Rattle.minsk.specs.Reckoning.{section_in, StageIs, GrowthIs, Limits}
use Rattle.minsk.proofs.Accepts.{accepted, sizes_of}

module _ {x : Section} (ok : Premises x) where
  pub stage_plain : x.W ≡ 0 → StageIs x (record { end = N x; per = 2000 })
  stage_plain none =
      record {
        is = is_frac (N x) 2000 (omega arith);
        room = omega (arith, ok.room);
        before = run ok;
        few = omega arith;
        fewer = λ some. omega arith;
      }

  pub stage_quarter : 0 < x.W → StageIs x (record { end = N x / 500; per = 4 })
  stage_quarter some =
      let e = ok.exactly some in
      record {
        is = is_as (is_frac (N x) 2000 (omega arith)) (omega arith) (omega arith);
        room = omega (arith, ok.room);
        before = omega (arith, run ok);
        few = omega arith;
        fewer = λ _. omega arith;
      }

  -- it starts at 76 m or later
  pub far : 20000 ≤ N x / 500
  far = (le-div_iff_mul-le (omega arith)).1 (omega (arith, ok.room, ok.wide))

  pub growth_none : x.W ≡ 0 → GrowthIs x (record { start = N x / 500 - 20000; over = 1 })
  growth_none none = record { end = λ some. absurd (omega arith); wide = λ some. absurd (omega arith); none = λ _. refl }

  pub growth_wide : 0 < x.W → GrowthIs x (record { start = N x / 500 - 20000; over = 20000 })
  growth_wide some =
      let e = ok.exactly some in
      record {
        end = λ _. is_as (is_frac (N x) 500 (omega arith)) (omega arith) (omega (arith, far));
        wide = λ _. refl;
        none = λ z. absurd (omega arith);
      }

-- the runoff of an accepted card keeps to its limits
pub limits_by :
    (card : Card) (w : Widths) (r : Runoff) → w ≡ widths_at card.profile → section_in r ≡ section_by w card → refusal card ≡ 0 →
    StageIs (section_of card) r.stage → GrowthIs (section_of card) r.growth → Limits r
limits_by card w r widths same passes stage growth =
    let is : section_in r ≡ section_of card = same ∙ ap (λ (w : Widths). section_by w card) widths in
    record {
      lines = rw is (accepted card passes).lines;
      sizes = rw is (sizes_of card passes);
      stage = rw is stage;
      growth = rw is growth;
    }
