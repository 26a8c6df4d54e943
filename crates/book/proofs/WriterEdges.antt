-- The writer at its edges, computed by the definitions: WriterReadings of specs/WriterReadings.antt.
-- Assumes nothing.
use mathlib.Core.Path.{refl}
use Rattle.decimal.specs.Decimal.{digits_text}
use Rattle.card.specs.Table.{reply_by}
use Rattle.card_list.specs.List.{name_place_in}
use Rattle.book.specs.Printed.{signed_number_text, numbers_text, shown_numbers, body_text, contents_texts, body_texts, book_text}
use Rattle.book.specs.Meaning.{curve_in, curves_in}
use Rattle.book.specs.Writing.{has_other, is_wrong, some_wrong, same_name, is_one_of, has_twins, has_long, has_below, is_unfit, some_unfit, writer_number, reply_to_list, buffer_after}
use Rattle.book.specs.WriterReadings.{WriterReadings}

pub writer_readings : WriterReadings
unfolding digits_text signed_number_text numbers_text shown_numbers body_text contents_texts body_texts book_text name_place_in curve_in curves_in has_other is_wrong some_wrong same_name is_one_of has_twins has_long has_below is_unfit some_unfit writer_number reply_by reply_to_list buffer_after
writer_readings = record {
  ends = refl;
  past = refl;
  far = refl;
  wide = refl;
  empty = refl;
  before = refl;
  minus = refl;
  front = refl;
  none = λ names room. refl;
  ten = λ names room. refl;
  twelve = λ names room. refl;
  fourteen = λ names room. refl;
  many = λ names room. refl;
  seven = refl;
  eight = refl;
  short = refl;
  absolute = refl;
  below = refl;
  room_below = refl;
  long_below = refl;
  long_grade = refl;
  mark = refl;
  mark_below = refl;
  profile = refl;
  height = refl;
  grade = refl;
  twin = refl;
  alike = refl;
  wrong_first = refl;
  twin_next = refl;
  room_last = refl;
}
