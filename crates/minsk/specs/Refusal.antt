-- Document 02, Slip 7: the reasons of the handbook's method as one list of numbered tests. Those that every method shares are the card's; "It
-- refuses with 36 .., with 37 .., and with 38 .., in that order after 7; 8 then means ..".
-- Assumes nothing.
use Rattle.std.specs.Prelude.{Bool, not, ◌||◌, ◌&&◌, List, [], ◌∷◌, ◌++◌, ℕ, ◌*◌, ◌-◌, ◌%◌, eqb}
use Rattle.exact.specs.Exact.{whole, ◌⊖◌, ◌⊗◌, at_most}
use Rattle.card.specs.declared.Card.{Card}
use Rattle.card.specs.Words.{◌above◌}
use Rattle.card.specs.Profile.{added_of}
use Rattle.card.specs.Reasons.{Test, test, first, tests_before, tests_after, tests_room}
use Rattle.minsk_section.specs.Lines.{Section, section_of, crown, first_length, stage_end}
use Rattle.minsk.specs.Rows.{row_count, row_width}

-- 36: "a full slope of 20, a radius of 2000 or profile 4 or 5"
abbrev pub not_for : Card → Bool
not_for card = eqb card.full_slope 20 || (eqb card.radius 2000 || (eqb card.profile 4 || eqb card.profile 5))

-- 37: "a first stage longer than L × R / 2000"
unfoldable pub too_long : Section → Bool
too_long x = not (at_most (first_length x) (stage_end x))

-- 38: "a widening above 0 where R is above 500 or L × R / 500 is no whole mm"
abbrev pub not_placed : Section → Bool
not_placed x = x.W above 0 && (x.R above 500 || not (eqb (x.L * x.R % 500) 0))

-- "8 then means h × (v − 20) above added slope × (L − L × R / 2000)"
unfoldable pub too_steep : ℕ → Section → Bool
too_steep added x = not (at_most (whole (x.h * (x.v - crown))) (whole added ⊗ (whole x.L ⊖ stage_end x)))

-- the reasons of this method
abbrev pub method_tests : Card → List Test
method_tests card =
    -- method: it is for II, III and IV, v above 20 and R below 2000
    test 36 (not_for card) ∷
    -- first stage
    test 37 (too_long (section_of card)) ∷
    -- place of the widening
    test 38 (not_placed (section_of card)) ∷
    -- added slope
    test 8 (too_steep (added_of card) (section_of card)) ∷ []

-- the card's own reasons: 1 to 6, then 36, 37, 38 and 8, then 9, 10, 34 and 35
abbrev pub own_tests : Card → List Test
own_tests card = tests_before card ++ (method_tests card ++ tests_after card)

-- "11 counts nine a row"
abbrev pub tests : Card → ℕ → List Test
tests card room = own_tests card ++ tests_room row_width (row_count card) room

-- the number of the card's own reason, first one met
unfoldable pub refusal : Card → ℕ
refusal card = first (own_tests card)
