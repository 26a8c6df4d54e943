-- A piece of an accepted card's rows: they stand one step apart, and the slopes gain the same from row to row.
-- Assumes nothing.
use mathlib.Core.Path.{◌≡◌, refl, ap, subst}
use mathlib.Core.Logic.{inl, inr}
use Prim.Native.Nat.{ℕ, ◌+◌, ◌*◌, ◌-◌, ◌≤◌, ◌<◌}
use native.Mathlib.Decide.{dec_lt}
use native.Mathlib.Omega.{arith}
use Rattle.card.specs.declared.Card.{Card}
use Rattle.card.specs.Rows.{multiples_below}
use Rattle.card.proofs.RowPlaces.{counts_multiples, station_is_least}
use Rattle.section.specs.Lines.{Section, section_of}
use Rattle.runoff.specs.Refusal.{refusal}
use Rattle.runoff.specs.Rows.{row_count, station_of}
use Rattle.runoff.proofs.Accepts.{accepted}
use Rattle.walk.specs.declared.afresh.Gains.{Gains}
use Rattle.walk.specs.Turns.{turns_in, turns_of, end_of}
use Rattle.walk.specs.Gains.{gains_in, Holds}
use Rattle.walk.proofs.Premises.{change_premises}
use Rattle.walk.proofs.PieceEnds.{NextOf, Begins, piece_of}
use Rattle.walk.proofs.RowsSided.{row_at}
use Rattle.walk.proofs.SlopesOn.{RowAt, Together, slopes_on}

-- no rows on, nothing is gained
none_on : (x : Section) (s d : ℕ) (g : Gains) → Holds x s d g 0
none_on x s d g =
    let same : d + 0 * s ≡ d = omega arith in
    record {
      outer_up = rw same (omega arith);
      outer_down = rw same refl;
      outer_over = rw same refl;
      inner = rw same (omega arith);
      shoulder = rw same (omega arith);
      kept = rw same (omega arith);
    }

module _ (card : Card) (passes : refusal card ≡ 0) (i : ℕ) (h : i < row_count card) where
  piece : NextOf (Begins (turns_of card) (row_count card)) (row_count card) i (end_of card i)
  piece = piece_of card i h

  -- it ends no later than at the next row at which one begins
  end_least : (row : ℕ) → Begins (turns_of card) (row_count card) row → i < row → end_of card i ≤ row
  end_least row begins later = go (dec_lt row (end_of card i))
    where
      go : Dec (row < end_of card i) → end_of card i ≤ row
      go (yes k) = absurd (piece.none row later k begins)
      go (no k) = omega arith

  abbrev last : ℕ
  last = multiples_below card.clothoid card.step

  apart : 0 < card.step
  apart = omega (arith, (accepted card passes).after.step_least)

  row_in : (j : ℕ) → j < last → RowAt (section_of card) (turns_of card) j (station_of card j)
  row_in j l =
      let is : last ≡ row_count card - 1 = omega arith in
      subst (λ (n : ℕ). RowAt (section_of card) (turns_in (section_of card) card.step n) j (station_of card j)) is
      (row_at (change_premises card passes) card.step apart j l)

  module _ (k : ℕ) (within : i + k < end_of card i) where
    together : Together (turns_of card) i (i + k)
    together =
        record {
          on = omega arith;
          joint = λ l. omega (arith, end_least _ (inl (inl (inl (inr refl)))) l, within);
          inner = λ l. omega (arith, end_least _ (inl (inl (inr refl))) l, within);
          shoulder = λ l. omega (arith, end_least _ (inl (inr refl)) l, within);
          kept = λ l. omega (arith, end_least _ (inr refl) l, within);
        }

    -- the last row is alone in its piece
    in_time : i < last → i + k < last
    in_time l = omega (arith, end_least (row_count card - 1) (inl (inl (inl (inl (inr refl))))) (omega arith), within)

    alone : last ≤ i → k ≡ 0
    alone l = omega (arith, piece.most, within)

    pub on_from : station_of card (i + k) ≡ station_of card i + k * card.step
    on_from = go (dec_lt i last)
      where
        go : Dec (i < last) → station_of card (i + k) ≡ station_of card i + k * card.step
        go (yes l) =
            omega (
              arith,
              station_is_least card.clothoid card.step i,
              station_is_least card.clothoid card.step (i + k),
              (counts_multiples card.clothoid card.step i apart).0 l,
              (counts_multiples card.clothoid card.step (i + k) apart).0 (in_time l),
            )
        go (no l) =
            omega (
              arith,
              station_is_least card.clothoid card.step i,
              station_is_least card.clothoid card.step (i + k),
              ap (λ (n : ℕ). n * card.step) (alone (omega arith)),
            )

    pub holds : Holds (section_of card) card.step (station_of card i) (gains_in (turns_of card) (section_of card) card.step i (station_of card i)) k
    holds = go (dec_lt i last)
      where
        go : Dec (i < last) → Holds (section_of card) card.step (station_of card i) (gains_in (turns_of card) (section_of card) card.step i (station_of card i)) k
        go (yes l) =
            slopes_on (section_of card) card.step (station_of card i) k i (turns_of card) (omega (arith, (change_premises card passes).steeper))
            (row_in i l) (rw on_from at (row_in (i + k) (in_time l))) together
        go (no l) = rw (alone (omega arith)) (none_on (section_of card) card.step (station_of card i) _)
