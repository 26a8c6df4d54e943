-- Lines at some stations, exact, in micrometres: worked out from documents 01 and 02 outside this code, not from the definitions.
-- Assumes nothing.
use Rattle.std.specs.Prelude.{◌≡◌, true, List, [], ◌∷◌, ℕ}
use Rattle.exact.specs.Exact.{Exact, frac, whole, minus, ratio, same}
use Rattle.card.specs.declared.Card.{Card}
use Rattle.card.specs.Card.{card, ramp}
use Rattle.section.specs.Lines.{Section, section_of, axis, outer_slope, outer_edge, outer_brow, widening, inner_shoulder, inner_edge, inner_brow}

-- at a station: outer slope in ‰, widening and inner shoulder in mm; inner brow, inner edge, axis, outer edge and outer brow in micrometres
abbrev pub lines_at : Section → Exact → List Exact
lines_at x s = outer_slope x s ∷ widening x s ∷ inner_shoulder x s ∷ inner_brow x s ∷ inner_edge x s ∷ axis x ∷ outer_edge x s ∷ outer_brow x s ∷ []

abbrev pub Are : Card → Exact → List Exact → Type 0
Are card s figures = same (lines_at (section_of card) s) figures ≡ true

-- profile 3, R 700, L 120000, v 40, W 400: two stages, with the joint at 40000
abbrev pub staged : Card
staged = card 3 1 700 120000 40 400 20000 10

-- document 02, Slip 1, the contractor's bend of category III, with 1.2 m of widening: here R 100, L 60000, v 60
abbrev pub widened : Card
widened = card 2 1 100 60000 60 1200 5000 1

-- profile 5, R 60, L 60000, v 60, W 3500: more widening than the shoulder of 1750
abbrev pub widest : Card
widest = card 5 1 60 60000 60 3500 5000 1

-- level ground, R 1000, L 300000, v 60, W 3500: two stages on every profile
abbrev pub longest : ℕ → Card
longest profile = card profile 1 1000 300000 60 3500 20000 1

-- 002, sheet 49, III, R 100, L 50, W 1.10
abbrev pub album : Card
album = card 2 1 100 50000 60 1100 10000 10

-- a section with another least shoulder
abbrev pub with_least : ℕ → Section → Section
with_least m x =
    record {
      h = x.h;
      c = x.c;
      p = x.p;
      q = x.q;
      m = m;
      v = x.v;
      W = x.W;
      L = x.L;
    }

-- THEOREM (proofs/FiguresComputed.antt)
pub record Figures : Type 0 where
  -- RAMP at L: document 01's last row, before it is rounded: −67.5, 1.5, 172.5, 307.5, 412.5 mm
  pub ramp_end :
      Are ramp (whole 30000)
      (whole 60 ∷ whole 600 ∷ whole 1150 ∷ minus 67500 ∷ whole 1500 ∷ whole 172500 ∷ whole 307500 ∷ whole 412500 ∷ [])
  -- 002, sheet 50, III, R 200, L 70, W 0.80 at L: the full slope is above the shoulder's own, so the shoulder is turned with the lane
  pub steep_end :
      Are (card 2 1 200 70000 60 800 20000 10) (whole 70000)
      (whole 60 ∷ whole 800 ∷ whole 1700 ∷ minus 190000 ∷ minus 88000 ∷ whole 170000 ∷ whole 380000 ∷ whole 530000 ∷ [])
  -- halfway to the joint: the outer lane is level, and the inner one still at the crown slope
  pub first_stage :
      Are staged (whole 20000)
      (whole 0 ∷ frac 200 3 ∷ frac 5800 3 ∷ whole 2000 ∷ frac 296000 3 ∷ whole 160000 ∷ whole 160000 ∷ whole 160000 ∷ [])
  -- halfway from the joint to L: both lanes at 30‰, the shoulder still at its own 50‰
  pub second_stage :
      Are staged (whole 80000)
      (whole 30 ∷ frac 800 3 ∷ frac 5200 3 ∷ ratio 0 74000 3 ∷ whole 62000 ∷ whole 160000 ∷ whole 250000 ∷ whole 310000 ∷ [])
  -- halfway, where the widening has taken 600 of the shoulder's 2500; and at L, where it has 1500 and not 1300
  pub shoulder_left :
      Are widened (whole 30000)
      (whole 20 ∷ whole 600 ∷ whole 1900 ∷ whole 12000 ∷ whole 88000 ∷ whole 170000 ∷ whole 240000 ∷ whole 290000 ∷ [])
  pub shoulder_kept :
      Are widened (whole 60000)
      (whole 60 ∷ whole 1200 ∷ whole 1500 ∷ minus 202000 ∷ minus 112000 ∷ whole 170000 ∷ whole 380000 ∷ whole 530000 ∷ [])
  -- before, on and past the station 90000/7 from which on the shoulder has its least width; at L the widening is twice the shoulder
  pub widest_left :
      Are widest (whole 6000)
      (minus 21 ∷ whole 350 ∷ whole 1400 ∷ whole 10500 ∷ whole 94500 ∷ whole 172500 ∷ whole 125250 ∷ whole 88500 ∷ [])
  pub widest_change :
      Are widest (frac 90000 7)
      (ratio 0 75 7 ∷ whole 750 ∷ whole 1000 ∷ whole 22500 ∷ whole 82500 ∷ whole 172500 ∷ frac 1038750 7 ∷ frac 907500 7 ∷ [])
  pub widest_kept :
      Are widest (whole 60000)
      (whole 60 ∷ whole 3500 ∷ whole 1000 ∷ minus 232500 ∷ minus 172500 ∷ whole 172500 ∷ whole 307500 ∷ whole 412500 ∷ [])
  -- profile 1 past the joint, which is at 50000, where the widening has taken 2100 of the shoulder's 3750
  pub staged_left :
      Are (longest 1) (whole 180000)
      (frac 204 5 ∷ whole 2100 ∷ whole 1650 ∷ minus 81000 ∷ minus 13680 ∷ whole 225000 ∷ whole 378000 ∷ whole 531000 ∷ [])
  -- at L, where the shoulder has the least width of its profile
  pub kept_1 :
      Are (longest 1) (whole 300000)
      (whole 60 ∷ whole 3500 ∷ whole 1500 ∷ minus 300000 ∷ minus 210000 ∷ whole 225000 ∷ whole 450000 ∷ whole 675000 ∷ [])
  pub kept_3 :
      Are (longest 3) (whole 300000)
      (whole 60 ∷ whole 3500 ∷ whole 1000 ∷ minus 290000 ∷ minus 230000 ∷ whole 160000 ∷ whole 340000 ∷ whole 460000 ∷ [])
  pub kept_4 :
      Are (longest 4) (whole 300000)
      (whole 60 ∷ whole 3500 ∷ whole 1000 ∷ minus 240000 ∷ minus 180000 ∷ whole 210000 ∷ whole 390000 ∷ whole 510000 ∷ [])
  -- at L, by the rule and with a least shoulder of 1.0 m, which is what 002 prints there: an inner brow of −19 cm
  pub album_rule :
      Are album (whole 50000)
      (whole 60 ∷ whole 1100 ∷ whole 1500 ∷ minus 196000 ∷ minus 106000 ∷ whole 170000 ∷ whole 380000 ∷ whole 530000 ∷ [])
  pub album_print :
      same (lines_at (with_least 1000 (section_of album)) (whole 50000))
      (whole 60 ∷ whole 1100 ∷ whole 1400 ∷ minus 190000 ∷ minus 106000 ∷ whole 170000 ∷ whole 380000 ∷ whole 530000 ∷ [])
      ≡ true
