-- Document 01, "What a turned-away card or book says": the reasons 1 to 11 without 7, which document 02, Slip 1, takes out, and with 34 and 35,
-- which Slip 5 puts in before 11, as one list of numbered tests. Those that every method shares are the card's; 8 stands between them.
-- Assumes nothing.
use Rattle.std.specs.Prelude.{Bool, List, [], ◌∷◌, ◌++◌, ℕ, ◌+◌, ◌*◌}
use Rattle.card.specs.declared.Card.{Card}
use Rattle.card.specs.declared.Profile.{Profile}
use Rattle.card.specs.Words.{◌above◌}
use Rattle.card.specs.Profile.{profile_at, added_slope}
use Rattle.card.specs.Reasons.{Test, test, first, tests_before, tests_after, tests_room}
use Rattle.runoff.specs.Rows.{row_count, row_width}

-- 8: h × (p + v) above added slope × L
abbrev pub too_steep : Profile → ℕ → ℕ → ℕ → Bool
too_steep r added v L = (r.half_width * (r.crown_slope + v)) above (added * L)

-- the reason of this method, for a card with the profile r
abbrev pub method_tests : Profile → Card → List Test
method_tests r card =
    -- added slope
    test 8 (too_steep r (added_slope r card.terrain) card.full_slope card.clothoid) ∷ []

-- the card's own reasons: 1 to 6, then 8, then 9, 10, 34 and 35
abbrev pub own_tests : Card → List Test
own_tests card = tests_before card ++ (method_tests (profile_at card.profile) card ++ tests_after card)

-- 11, short table: lent table below 7 numbers a row
abbrev pub tests : Card → ℕ → List Test
tests card room = own_tests card ++ tests_room row_width (row_count card) room

-- the number of the card's own reason: 1 to 6, 8 to 10, 34 and 35 in rising order, first one met
unfoldable pub refusal : Card → ℕ
refusal card = first (own_tests card)
