-- Document 01, "What a turned-away card or book says": the reasons that every method shares, as lists of numbered tests. A method puts its
-- own between those before (1 to 6) and those after (9, 10, and by document 02, Slip 5, 34 and 35); the room (11) comes last.
-- Assumes nothing.
use Rattle.std.specs.Prelude.{Bool, false, cond, not, ◌||◌, ◌&&◌, List, [], ◌∷◌, ℕ, ◌*◌, ◌%◌, eqb, ℤ, pos, neg_ℤ, nat_abs}
use Rattle.card.specs.declared.Card.{Card}
use Rattle.card.specs.declared.Datum.{Datum}
use Rattle.card.specs.declared.Datum.TheVariants.{Relative, Absolute}
use Rattle.card.specs.declared.Profile.{Profile}
use Rattle.card.specs.Words.{◌below◌, ◌above◌, outside, beyond, neither}
use Rattle.card.specs.Profile.{profile_at}
use Rattle.card.specs.Clothoid.{least_length}

-- a reason to refuse: its number, and whether it is met
pub record Test : Type 0 where
  pub number : ℕ
  pub met : Bool

abbrev pub test : ℕ → Bool → Test
test n b = record { number = n; met = b }

-- the number of the first one met, and 0 where none is
abbrev pub first : List Test → ℕ
first [] = 0
first (t ∷ ts) = cond t.met t.number (first ts)

-- 6: W above 3500, or above 0 with R above 1000
abbrev pub too_wide : ℕ → ℕ → Bool
too_wide W R = W above 3500 || W above 0 && R above 1000

-- the reasons before a method's own, for a card with the profile r
abbrev pub tests_by : Profile → Card → List Test
tests_by r card =
    -- profile: not 1 to 5
    test 1 (outside card.profile 1 5) ∷
    -- terrain: not 1 or 2
    test 2 (neither card.terrain 1 2) ∷
    -- radius: below the profile's least, or above 2000
    test 3 (outside card.radius r.least_radius 2000) ∷
    -- clothoid: shorter than least L, or above 300000
    test 4 (outside card.clothoid (1000 * least_length card.radius) 300000) ∷
    -- full slope: v below p, or above 60
    test 5 (outside card.full_slope r.crown_slope 60) ∷
    -- widening
    test 6 (too_wide card.full_widening card.radius) ∷ []

abbrev pub tests_before : Card → List Test
tests_before card = tests_by (profile_at card.profile) card

-- the height is a whole number of units where dividing its size by the unit leaves nothing
abbrev pub not_whole : ℕ → ℤ → Bool
not_whole unit height = not (eqb (nat_abs height % unit) 0)

-- 34: "a height outside −100,000 to 9,000,000 or not a whole number of units"
abbrev pub wrong_height : ℕ → ℤ → Bool
wrong_height unit height = beyond height (neg_ℤ (pos 100000)) (pos 9000000) || not_whole unit height

-- 35: "a grade outside −80 to 80"
abbrev pub wrong_grade : ℤ → Bool
wrong_grade grade = beyond grade (neg_ℤ (pos 80)) (pos 80)

-- "An absolute card is refused with 34 ... and with 35 ...": of a relative card neither is met
abbrev pub height_met : ℕ → Datum → Bool
height_met unit Relative = false
height_met unit (Absolute height grade) = wrong_height unit height

abbrev pub grade_met : Datum → Bool
grade_met Relative = false
grade_met (Absolute height grade) = wrong_grade grade

abbrev pub tests_datum : ℕ → Datum → List Test
tests_datum unit datum =
    -- height above the benchmark
    test 34 (height_met unit datum) ∷
    -- grade
    test 35 (grade_met datum) ∷ []

-- the reasons after a method's own
abbrev pub tests_after : Card → List Test
tests_after card =
    -- step: below 1000 or above 20000
    test 9 (outside card.step 1000 20000) ∷
    -- unit: not 1 or 10
    test 10 (neither card.unit 1 10) ∷
    tests_datum card.unit card.datum

-- 11, short table: lent table of `room` numbers below `width` numbers a row
abbrev pub tests_room : ℕ → ℕ → ℕ → List Test
tests_room width count room = test 11 (room below (width * count)) ∷ []

-- the number that each list gives
unfoldable pub refusal_before : Card → ℕ
refusal_before card = first (tests_before card)

unfoldable pub refusal_after : Card → ℕ
refusal_after card = first (tests_after card)

unfoldable pub refusal_room : ℕ → ℕ → ℕ → ℕ
refusal_room width count room = first (tests_room width count room)
