-- No reason to refuse a card has the number 0 or 7.
-- Assumes nothing.
use Rattle.std.proofs.Common.{ℕ, ◌≡◌, refl, sym, ap, ◌∙◌, true}
use mathlib.Core.Bool.{false≢true}
use Rattle.card.specs.declared.reasons.Refusal.{Refusal}
use Rattle.card.specs.declared.reasons.Refusal.TheVariants.{Profile, Terrain, Radius, Clothoid, FullSlope, Widening, AddedSlope, Step, Unit, ShortTable, Height, Grade, Method, FirstStage, WideningPlace}
use Rattle.card.specs.Words.{neither}
use Rattle.card.specs.Told.{refusal_number, NotSevenTheorem}

neither_of_them : (e : Refusal) → neither (refusal_number e) 0 7 ≡ true
neither_of_them Profile = refl
neither_of_them Terrain = refl
neither_of_them Radius = refl
neither_of_them Clothoid = refl
neither_of_them FullSlope = refl
neither_of_them Widening = refl
neither_of_them AddedSlope = refl
neither_of_them Step = refl
neither_of_them Unit = refl
neither_of_them ShortTable = refl
neither_of_them Height = refl
neither_of_them Grade = refl
neither_of_them Method = refl
neither_of_them FirstStage = refl
neither_of_them WideningPlace = refl

pub not_nought : (e : Refusal) → refusal_number e ≡ 0 → ⊥
not_nought e is = false≢true (ap (λ (n : ℕ). neither n 0 7) (sym is) ∙ neither_of_them e)

pub not_seven : NotSevenTheorem
not_seven e is = false≢true (ap (λ (n : ℕ). neither n 0 7) (sym is) ∙ neither_of_them e)
