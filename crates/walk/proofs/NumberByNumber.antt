-- A row is walked number by number, and the station goes a step farther with each row.
-- Assumes nothing.
use mathlib.Core.Path.{◌≡◌, ap, ◌∙◌}
use Prim.Native.Nat.{ℕ, zero, suc, ◌+◌, ◌*◌, ◌^◌, ◌<◌}
use native.Mathlib.Nat.{mod-eq_of_lt}
use native.Mathlib.Omega.{arith}
use Rattle.walking.specs.Curves.{walked}
use Rattle.walk.specs.declared.stepping.Walker.{Walker}
use Rattle.walk.specs.Stepping.{row_stepped, row_walked}

-- w, with its numbers walked k rows on, at the station d
abbrev at_station : ℕ → ℕ → Walker → Walker
at_station d k w =
    record {
      station = d;
      step = w.step;
      widening = walked k w.widening;
      inner_brow = walked k w.inner_brow;
      inner_edge = walked k w.inner_edge;
      axis = walked k w.axis;
      outer_edge = walked k w.outer_edge;
      outer_brow = walked k w.outer_brow;
    }

abbrev pub rows_on : ℕ → Walker → Walker
rows_on k w = at_station (w.station + k * w.step) k w

pub number_by_number : (k : ℕ) (w : Walker) → w.station + k * w.step < 2 ^ 32 → row_walked k w ≡ rows_on k w
unfolding row_walked row_stepped walked
number_by_number zero w few = ap (λ (d : ℕ). at_station d 0 w) (omega arith)
number_by_number (suc k) w few =
    ap row_stepped (number_by_number k w (omega arith))
    ∙ ap (λ (d : ℕ). at_station d (suc k) w) (mod-eq_of_lt {n = w.station + k * w.step + w.step} {m = 2 ^ 32} (omega arith) ∙ omega arith)
