-- Document 01, "The card": the five profiles, and the added slope.
-- Assumes nothing.
use Rattle.std.specs.Prelude.{◌≡◌, true, cond, List, [], ◌∷◌, ℕ, zero, suc, eqb, get_or}
use Rattle.card.specs.declared.Card.{Card}
use Rattle.card.specs.declared.Profile.{Profile}
use Rattle.card.specs.Words.{outside}

-- h is half the carriageway, c the shoulder, m the least shoulder, all in mm; p is the crown slope and q the shoulder slope on a straight, in ‰
abbrev pub profile : ℕ → ℕ → ℕ → ℕ → ℕ → ℕ → ℕ → ℕ → Profile
profile h c p q m least level mountain =
    record {
      half_width = h;
      shoulder_width = c;
      crown_slope = p;
      shoulder_slope = q;
      least_shoulder = m;
      least_radius = least;
      added_level = level;
      added_mountain = mountain;
    }

-- II; III; IV; V, two lanes; V, one lane
--        h    c    p  q  m    least R, added slope on level ground and in mountains
unfoldable pub profiles : List Profile
profiles =
    profile 3750 3750 20 40 1500 125 5 5 ∷
    profile 3500 2500 20 40 1500 100 10 20 ∷
    profile 3000 2000 20 50 1000 60 10 20 ∷
    profile 3000 2000 30 60 1000 30 10 20 ∷
    profile 2250 1750 30 60 1000 30 10 20 ∷ []

-- the profile numbered n, from 1; a number that is not in the table is refused before its profile is looked at
abbrev pub no_profile : Profile
no_profile = profile 0 0 0 0 0 0 0 0

unfoldable pub profile_at : ℕ → Profile
profile_at zero = no_profile
profile_at (suc n) = get_or profiles n no_profile

-- THEOREM (proofs/Entries.antt): a number that is not 1 to 5 has the profile of noughts
abbrev pub NoOtherProfile : Type 0
NoOtherProfile = (n : ℕ) → outside n 1 5 ≡ true → profile_at n ≡ no_profile

-- the added slope, in ‰; terrain 1 is level, 2 mountain
abbrev pub added_slope : Profile → ℕ → ℕ
added_slope r terrain = cond (eqb terrain 1) r.added_level r.added_mountain

-- the added slope of the card's category and terrain
abbrev pub added_of : Card → ℕ
added_of card = added_slope (profile_at card.profile) card.terrain
