-- Document 02, Slip 5, "Heights above the benchmark": rows and numbers of absolute cards, worked out from documents 01 and 02 by exact
-- fractions outside this code, not from the definitions.
-- Assumes nothing.
use Rattle.std.specs.Prelude.{◌≡◌, List, [], ◌∷◌, ℕ, ℤ, pos, neg_ℤ, ◌-ℤ◌}
use Rattle.card.specs.declared.Card.{Card}
use Rattle.card.specs.Card.{card, absolute_card}
use Rattle.card.specs.Rows.{joined}
use Rattle.runoff.specs.declared.rows.Row.{Row}
use Rattle.runoff.specs.Rows.{cells, row_count, station_of, row_of, rows}
use Rattle.runoff.specs.Refusal.{refusal}
use Rattle.runoff.specs.Table.{reply_to}

-- RAMP, 250 m above the benchmark and falling at 35 ‰
abbrev pub falling_ramp : Card
falling_ramp = absolute_card 5 1 30 30000 60 600 20000 1 (pos 250000) (neg_ℤ (pos 35))

-- the longest clothoid of category II, two-stage, with the greatest widening, in units of so many mm
abbrev pub longest : ℕ → ℤ → ℤ → Card
longest unit height grade = absolute_card 1 1 1000 300000 60 3500 20000 unit height grade

-- category IV in centimetres, with a row every 5 m
abbrev pub in_centimetres : ℤ → ℤ → Card
in_centimetres height grade = absolute_card 3 1 700 120000 40 400 5000 10 height grade

-- category II, whose axis stays at 225 mm: relative, and at height 0 and grade 0
abbrev pub beside : Card
beside = card 1 1 600 120000 40 900 20000 1

abbrev pub at_nought : Card
at_nought = absolute_card 1 1 600 120000 40 900 20000 1 (pos 0) (pos 0)

-- the numbers of a row with its five heights lower by n
abbrev pub lowered : ℤ → Row → List ℤ
lowered n r =
    r.station ∷ r.widening ∷
    (r.inner_brow -ℤ n) ∷ (r.inner_edge -ℤ n) ∷ (r.axis -ℤ n) ∷ (r.outer_edge -ℤ n) ∷ (r.outer_brow -ℤ n) ∷ []

-- THEOREM (proofs/AbsoluteComputed.antt)
pub record AbsoluteReadings : Type 0 where
  -- RAMP's card above the benchmark is accepted, and has three rows
  pub ramp_accepted : refusal falling_ramp ≡ 0
  pub ramp_count : row_count falling_ramp ≡ 3
  -- its axis is at 250, 249.3 and 248.95 m; that of the relative RAMP is at 172.5 mm, so rounding it apart would move the other lines
  pub ramp_reply : reply_to falling_ramp 21 ≡ record { number = 0; count = 3 }
  pub ramp_rows :
      rows falling_ramp
      ≡ pos 0 ∷ pos 0 ∷ pos 249828 ∷ pos 249933 ∷ pos 250000 ∷ pos 249933 ∷ pos 249880 ∷
      pos 20000 ∷ pos 400 ∷ pos 249140 ∷ pos 249221 ∷ pos 249300 ∷ pos 249368 ∷ pos 249420 ∷
      pos 30000 ∷ pos 600 ∷ pos 248710 ∷ pos 248779 ∷ pos 248950 ∷ pos 249085 ∷ pos 249190 ∷ []
  -- heights at both limits with grades of either limit, at the last station of the longest clothoid
  pub lowest_falling :
      cells (row_of (longest 1 (neg_ℤ (pos 100000)) (neg_ℤ (pos 80))) 300000)
      ≡ pos 300000 ∷ pos 3500 ∷ neg_ℤ (pos 124525) ∷ neg_ℤ (pos 124435) ∷ neg_ℤ (pos 124000) ∷ neg_ℤ (pos 123775) ∷ neg_ℤ (pos 123550) ∷ []
  pub lowest_climbing :
      cells (row_of (longest 1 (neg_ℤ (pos 100000)) (pos 80)) 300000)
      ≡ pos 300000 ∷ pos 3500 ∷ neg_ℤ (pos 76525) ∷ neg_ℤ (pos 76435) ∷ neg_ℤ (pos 76000) ∷ neg_ℤ (pos 75775) ∷ neg_ℤ (pos 75550) ∷ []
  pub highest_falling :
      cells (row_of (longest 1 (pos 9000000) (neg_ℤ (pos 80))) 300000)
      ≡ pos 300000 ∷ pos 3500 ∷ pos 8975475 ∷ pos 8975565 ∷ pos 8976000 ∷ pos 8976225 ∷ pos 8976450 ∷ []
  pub highest_climbing :
      cells (row_of (longest 1 (pos 9000000) (pos 80)) 300000)
      ≡ pos 300000 ∷ pos 3500 ∷ pos 9023475 ∷ pos 9023565 ∷ pos 9024000 ∷ pos 9024225 ∷ pos 9024450 ∷ []
  -- in centimetres, where some of them are halfway
  pub lowest_halfway :
      cells (row_of (longest 10 (neg_ℤ (pos 100000)) (neg_ℤ (pos 80))) 300000)
      ≡ pos 300000 ∷ pos 350 ∷ neg_ℤ (pos 12453) ∷ neg_ℤ (pos 12444) ∷ neg_ℤ (pos 12400) ∷ neg_ℤ (pos 12378) ∷ neg_ℤ (pos 12355) ∷ []
  pub highest_halfway :
      cells (row_of (longest 10 (pos 9000000) (pos 80)) 300000)
      ≡ pos 300000 ∷ pos 350 ∷ pos 902347 ∷ pos 902356 ∷ pos 902400 ∷ pos 902422 ∷ pos 902445 ∷ []
  -- an axis of half a centimetre, above nought and below: it goes to the lower, and the others are rounded with all of it
  pub half_above :
      cells (row_of (in_centimetres (pos 0) (pos 1)) 5000)
      ≡ pos 5000 ∷ pos 2 ∷ neg_ℤ (pos 15) ∷ neg_ℤ (pos 6) ∷ pos 0 ∷ neg_ℤ (pos 4) ∷ neg_ℤ (pos 7) ∷ []
  pub half_below :
      cells (row_of (in_centimetres (pos 0) (neg_ℤ (pos 1))) 5000)
      ≡ pos 5000 ∷ pos 2 ∷ neg_ℤ (pos 16) ∷ neg_ℤ (pos 7) ∷ neg_ℤ (pos 1) ∷ neg_ℤ (pos 5) ∷ neg_ℤ (pos 8) ∷ []
  -- height 0 and grade 0 beside the relative card: the tables differ by the axis, 225, in the five heights alone
  pub lower_by_axis : rows at_nought ≡ joined (λ (i : ℕ). lowered (pos 225) (row_of beside (station_of beside i))) (row_count beside)
  pub beside_end :
      cells (row_of beside 120000)
      ≡ pos 120000 ∷ pos 900 ∷ neg_ℤ (pos 75) ∷ pos 39 ∷ pos 225 ∷ pos 375 ∷ pos 525 ∷ []
  pub nought_end :
      cells (row_of at_nought 120000)
      ≡ pos 120000 ∷ pos 900 ∷ neg_ℤ (pos 300) ∷ neg_ℤ (pos 186) ∷ pos 0 ∷ pos 150 ∷ pos 300 ∷ []
  -- 34: unit 10 with a height of 5; 35: a grade of 81 or −81; both at once 34, and both before 11
  pub part_of_unit : refusal (in_centimetres (pos 5) (pos 0)) ≡ 34
  pub too_steep_up : refusal (in_centimetres (pos 10) (pos 81)) ≡ 35
  pub too_steep_down : refusal (in_centimetres (pos 10) (neg_ℤ (pos 81))) ≡ 35
  pub both : refusal (in_centimetres (pos 5) (pos 81)) ≡ 34
  pub height_before_room : reply_to (in_centimetres (pos 5) (pos 0)) 0 ≡ record { number = 34; count = 0 }
  pub grade_before_room : reply_to (in_centimetres (pos 10) (pos 81)) 0 ≡ record { number = 35; count = 0 }
