-- A row that is worked afresh, walked from there, gives the rows of its piece.
-- Assumes nothing.
use mathlib.Core.Path.{◌≡◌, refl, sym, ap, ◌∙◌}
use Prim.Native.Nat.{ℕ, ◌+◌, ◌*◌, ◌≤◌, ◌<◌}
use Rattle.card.specs.declared.Card.{Card}
use Rattle.card.proofs.RowPlaces.{station_most}
use Rattle.section.specs.Lines.{section_of}
use Rattle.runoff.specs.Refusal.{refusal}
use Rattle.runoff.specs.Rows.{cells, row_of, row_count, station_of}
use Rattle.walk.specs.declared.afresh.Footing.{Footing}
use Rattle.walk.specs.declared.afresh.Gains.{Gains}
use Rattle.walk.specs.declared.stepping.Walker.{Walker}
use Rattle.walk.specs.Gains.{gains_in, walker_by, Foots, Walks}
use Rattle.walk.specs.Stepping.{cells_on}
use Rattle.walk.specs.Turns.{turns_of}
use Rattle.walk.proofs.PieceFacts.{on_from, holds}
use Rattle.walk.proofs.Walkers.{walker_rows}

-- what row i of a card gains, which stands at d
abbrev pub gains : Card → ℕ → ℕ → Gains
gains card = gains_in (turns_of card) (section_of card) card.step

module _ (card : Card) (passes : refusal card ≡ 0) (i : ℕ) (h : i < row_count card) where
  abbrev d : ℕ
  d = station_of card i

  abbrev g : Gains
  g = gains card i d

  wider : g.widening ≡ (section_of card).W * card.step
  unfolding gains_in
  wider = refl

  pub walks : (f : Footing) → Foots card d f → (w : Walker) → w ≡ walker_by f (section_of card) g d card.step → Walks card i w
  walks f foots w is k within =
      let on = on_from card passes i h k within in
      let few : d + k * card.step ≤ card.clothoid = rw (sym on) (station_most card.clothoid card.step (i + k)) in
      ap (λ (w : Walker). cells_on w k) is
      ∙ walker_rows card passes f d foots g wider k few (holds card passes i h k within)
      ∙ ap (λ (n : ℕ). cells (row_of card n)) (sym on)
