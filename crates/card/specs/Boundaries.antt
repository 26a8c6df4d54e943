-- The least shoulders, the added slopes, the room at its edges, and heights and grades at theirs. The numbers come from document 01's tables
-- and the words of document 02, not from the definitions.
-- Assumes nothing.
use Rattle.std.specs.Prelude.{◌≡◌, List, [], ◌∷◌, ℕ, ℤ, pos, neg_ℤ}
use Rattle.card.specs.declared.Datum.TheVariants.{Relative, Absolute}
use Rattle.card.specs.Card.{card}
use Rattle.card.specs.Profile.{profile_at, added_of}
use Rattle.card.specs.Reasons.{first, tests_datum, refusal_room}

-- the least shoulders of the profiles 1 to 5
abbrev pub least_shoulders : List ℕ
least_shoulders =
    (profile_at 1).least_shoulder ∷
    (profile_at 2).least_shoulder ∷
    (profile_at 3).least_shoulder ∷
    (profile_at 4).least_shoulder ∷
    (profile_at 5).least_shoulder ∷ []

-- the added slopes of the profiles 1 to 5, for cards whose other numbers are these
abbrev pub added_slopes : ℕ → ℕ → ℕ → ℕ → ℕ → ℕ → ℕ → List ℕ
added_slopes terrain R L v W step unit =
    added_of (card 1 terrain R L v W step unit) ∷
    added_of (card 2 terrain R L v W step unit) ∷
    added_of (card 3 terrain R L v W step unit) ∷
    added_of (card 4 terrain R L v W step unit) ∷
    added_of (card 5 terrain R L v W step unit) ∷ []

-- THEOREM (proofs/SharedBoundaries.antt)
pub record Boundaries : Type 0 where
  -- no reason looks at the least shoulder, so no reply tells the profiles apart by it
  pub least : least_shoulders ≡ 1500 ∷ 1500 ∷ 1000 ∷ 1000 ∷ 1000 ∷ []
  -- terrain 1, level, and 2, mountain; by 503-0-45 only profile 1 can meet the reason that looks at the added slope, so no reply of that method tells the others apart
  pub level : (R L v W step unit : ℕ) → added_slopes 1 R L v W step unit ≡ 5 ∷ 10 ∷ 10 ∷ 10 ∷ 10 ∷ []
  pub mountain : (R L v W step unit : ℕ) → added_slopes 2 R L v W step unit ≡ 5 ∷ 20 ∷ 20 ∷ 20 ∷ 20 ∷ []
  -- 7 rows of 7 numbers need 49, and 7 of 9 need 63
  pub seven_short : refusal_room 7 7 48 ≡ 11
  pub seven_held : refusal_room 7 7 49 ≡ 0
  pub nine_short : refusal_room 9 7 62 ≡ 11
  pub nine_held : refusal_room 9 7 63 ≡ 0

-- the number that a height and a grade give, in a unit
abbrev pub survey_number : ℕ → ℤ → ℤ → ℕ
survey_number unit height grade = first (tests_datum unit (Absolute height grade))

-- THEOREM (proofs/SharedBoundaries.antt)
pub record SurveyBoundaries : Type 0 where
  -- a relative card gives neither 34 nor 35, in any unit
  pub relative : (unit : ℕ) → first (tests_datum unit Relative) ≡ 0
  -- the lowest and the greatest height, and one past each
  pub lowest : survey_number 1 (neg_ℤ (pos 100000)) (pos 0) ≡ 0
  pub too_low : survey_number 1 (neg_ℤ (pos 100001)) (pos 0) ≡ 34
  pub greatest : survey_number 1 (pos 9000000) (pos 0) ≡ 0
  pub too_great : survey_number 1 (pos 9000001) (pos 0) ≡ 34
  -- in centimetres: 5 mm and 15 mm are no whole number of units, above nought or below, and 10 mm is
  pub halves : (survey_number 10 (pos 5) (pos 0) ≡ 34) × (survey_number 10 (neg_ℤ (pos 5)) (pos 0) ≡ 34)
  pub odd : (survey_number 10 (pos 15) (pos 0) ≡ 34) × (survey_number 10 (neg_ℤ (pos 15)) (pos 0) ≡ 34)
  pub whole : (survey_number 10 (pos 10) (pos 0) ≡ 0) × (survey_number 10 (neg_ℤ (pos 10)) (pos 0) ≡ 0)
  pub lowest_whole : survey_number 10 (neg_ℤ (pos 100000)) (pos 0) ≡ 0
  -- the grade at its two limits, and one past each
  pub falling : (survey_number 1 (pos 0) (neg_ℤ (pos 80)) ≡ 0) × (survey_number 1 (pos 0) (neg_ℤ (pos 81)) ≡ 35)
  pub climbing : (survey_number 1 (pos 0) (pos 80) ≡ 0) × (survey_number 1 (pos 0) (pos 81) ≡ 35)
  -- both at once
  pub both : (survey_number 1 (pos 9000001) (pos 81) ≡ 34) × (survey_number 10 (pos 5) (neg_ℤ (pos 81)) ≡ 34)
