-- The readings of the day's call, computed from the definitions.
-- Assumes nothing.
use mathlib.Core.Path.{◌≡◌, refl}
use Prim.Native.Nat.{ℕ}
use native.Mathlib.Omega.{arith}
use lib.ListN.{length}
use Rattle.card.specs.Clothoid.{clothoids, least_length}
use Rattle.card.specs.Profile.{profiles, profile_at}
use Rattle.card.specs.Table.{reply_by, table_by}
use Rattle.runoff.specs.Refusal.{refusal}
use Rattle.runoff.specs.Table.{reply_number, reply_to, table_after}
use Rattle.runoff.proofs.StarredReadings.{readings}
use Rattle.runoff.proofs.AbsoluteComputed.{absolute_readings}
use Rattle.day.specs.Day.{day_number, day_reply, table_of, replies_of, day_table, day_replies}
use Rattle.day.specs.Readings.{Readings}
use Rattle.day.proofs.DayNumbers.{numbers_rule}

-- no card needs no reply list
none_right : (room : ℕ) → (day_reply 0 room).number ≡ 0
none_right room = (numbers_rule 0 room).right.1 (omega arith, omega arith)

pub day_readings : Readings
unfolding day_number day_reply reply_by table_by table_of replies_of day_table day_replies reply_number reply_to table_after refusal profiles profile_at clothoids least_length
day_readings =
    record {
      none = λ room. rw (none_right room);
      none_table = λ table replies. rw (none_right (length replies));
      none_replies = λ table replies. rw (none_right (length replies));
      most = refl;
      most_short = refl;
      too_many = λ room. refl;
      refused_last = refl;
      refused_counted = refl;
      refused_accepted = refl;
      shorter_fits = refl;
      shorter_fits_rows = rw readings.ramp_rows;
      surveyed_replies = refl;
      surveyed_rows = rw (readings.ramp_rows, absolute_readings.ramp_rows);
      short_replies = refl;
      short_table = refl;
      longest_fits = refl;
      longest_short = refl;
      enough = (refl, refl);
    }
