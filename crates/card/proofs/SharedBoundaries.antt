-- The least shoulders, the added slopes, the edges of the room, and those of heights and grades, computed from the definitions.
-- Assumes nothing.
use mathlib.Core.Path.{refl}
use Rattle.card.specs.Profile.{profiles, profile_at}
use Rattle.card.specs.Reasons.{refusal_room}
use Rattle.card.specs.Boundaries.{Boundaries, SurveyBoundaries}

pub boundaries : Boundaries
unfolding profiles profile_at refusal_room
boundaries =
    record {
      least = refl;
      level = λ R L v W step unit. refl;
      mountain = λ R L v W step unit. refl;
      seven_short = refl;
      seven_held = refl;
      nine_short = refl;
      nine_held = refl;
    }

pub survey_boundaries : SurveyBoundaries
survey_boundaries =
    record {
      relative = λ unit. refl;
      lowest = refl;
      too_low = refl;
      greatest = refl;
      too_great = refl;
      halves = (refl, refl);
      odd = (refl, refl);
      whole = (refl, refl);
      lowest_whole = refl;
      falling = (refl, refl);
      climbing = (refl, refl);
      both = (refl, refl);
    }
