-- Bodies at their edges, computed by the definitions.
-- Assumes nothing.
use Rattle.std.proofs.Common.{refl}
use Rattle.book.specs.Number.{digit_at, ended_at, digits_at, number_at, signed_at}
use Rattle.book.specs.Name.{name_run, name_at, same_bytes, twin_at}
use Rattle.book.specs.Contents.{heading_at, after_heading, contents_line}
use Rattle.book.specs.Body.{last_at, body_from, numbers_at, after_numbers}
use Rattle.book.specs.Book.{bodies_from, contents_from, text_reply, reply_to_book, after_headings, entry_at, entries_from, entries_of}
use Rattle.book.specs.BodyReadings.{BodyReadings}

pub body_readings : BodyReadings
unfolding digit_at ended_at digits_at number_at signed_at name_run name_at same_bytes twin_at heading_at after_heading contents_line last_at body_from numbers_at after_numbers bodies_from contents_from text_reply reply_to_book after_headings entry_at entries_from entries_of
body_readings = record {
  eight = record { reply = refl; numbers = refl };
  ten = record { reply = refl; numbers = refl };
  seven = record { reply = refl; numbers = refl };
  long = refl;
  nought = refl;
  nought_last = refl;
  bare = refl;
  bare_last = refl;
  plus = refl;
  plus_last = refl;
  leading = refl;
  leading_last = refl;
  twice = refl;
  unit = refl;
  unit_ten = refl;
  profile = refl;
  few = refl;
  nine = refl;
  more = refl;
  blank = refl;
  unended = refl;
}
