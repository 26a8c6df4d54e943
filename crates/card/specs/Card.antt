-- Document 01, "The card": eight whole numbers, in this order. Document 02, Slip 5: "A card is now relative, or absolute and carries both
-- numbers", the height of the axis at station 0 in mm and the grade in ‰.
-- Assumes nothing.
use Rattle.std.specs.Prelude.{ℕ, ℤ}
use Rattle.card.specs.declared.Card.{Card}
use Rattle.card.specs.declared.Datum.{Datum}
use Rattle.card.specs.declared.Datum.TheVariants.{Relative, Absolute}

-- profile; terrain; radius R in metres; clothoid length L in mm; full slope v in ‰; full widening W in mm; step between rows in mm; unit in mm
abbrev pub card_on : Datum → ℕ → ℕ → ℕ → ℕ → ℕ → ℕ → ℕ → ℕ → Card
card_on datum profile terrain R L v W step unit =
    record {
      profile = profile;
      terrain = terrain;
      radius = R;
      clothoid = L;
      full_slope = v;
      full_widening = W;
      step = step;
      unit = unit;
      datum = datum;
    }

-- a relative card
abbrev pub card : ℕ → ℕ → ℕ → ℕ → ℕ → ℕ → ℕ → ℕ → Card
card = card_on Relative

-- an absolute card: its eight numbers, then height and grade
abbrev pub absolute_card : ℕ → ℕ → ℕ → ℕ → ℕ → ℕ → ℕ → ℕ → ℤ → ℤ → Card
absolute_card profile terrain R L v W step unit height grade = card_on (Absolute height grade) profile terrain R L v W step unit

-- document 01's own example, RAMP: one lane of V, level, R 30 m, L 30 m, v 60 ‰, W 600 mm, a row every 20 m, unit 1 mm
abbrev pub ramp : Card
ramp = card 5 1 30 30000 60 600 20000 1
