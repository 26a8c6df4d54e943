-- Document 01's own book, and the same with its curve surveyed, computed by the definitions.
-- Assumes nothing.
use Rattle.std.proofs.Common.{refl, [], ◌∷◌, lit<, lit≤}
use Rattle.decimal.specs.Decimal.{digits_text, Each}
use Rattle.book.specs.Number.{digit_at, ended_at, digits_at, number_at, signed_at}
use Rattle.book.specs.Name.{name_run, name_at, same_bytes, twin_at}
use Rattle.book.specs.Contents.{heading_at, after_heading, contents_line}
use Rattle.book.specs.Body.{last_at, body_from, numbers_at, after_numbers}
use Rattle.book.specs.Book.{bodies_from, contents_from, text_reply, reply_to_book, after_headings, entry_at, entries_from, entries_of, list_after}
use Rattle.book.specs.Printed.{signed_number_text, numbers_text, shown_numbers, body_text, contents_texts, body_texts, book_text, NoTwins, IsBook}
use Rattle.card.specs.Table.{reply_by}
use Rattle.card_list.specs.List.{datum_from, card_from, name_place_in}
use Rattle.book.specs.Meaning.{curve_in, curves_in}
use Rattle.book.specs.Writing.{has_other, is_wrong, some_wrong, is_one_of, has_twins, has_long, has_below, is_unfit, some_unfit, writer_number, reply_to_list, buffer_after}
use Rattle.book.specs.RampBook.{ramp, RampBook, survey, SurveyBook}

-- RAMP is a name, and its eleven numbers are a body
one_curve : IsBook (ramp ∷ [])
unfolding Each NoTwins
one_curve = record {
  some = lit≤ tt;
  few = lit≤ tt;
  names = (record { some = lit≤ tt; short = lit≤ tt; bytes = (refl, (refl, (refl, (refl, tt)))) }, tt);
  bodies = (
    record {
      eleven = refl;
      eight = (lit< tt, (lit< tt, (lit< tt, (lit< tt, (lit< tt, (lit< tt, (lit< tt, (lit< tt, tt))))))));
      datum = (refl, refl);
    },
    tt,
  );
  twins = (tt, tt);
}

-- so they are with a height and a grade
surveyed_curve : IsBook (survey ∷ [])
unfolding Each NoTwins
surveyed_curve = record {
  some = lit≤ tt;
  few = lit≤ tt;
  names = (record { some = lit≤ tt; short = lit≤ tt; bytes = (refl, (refl, (refl, (refl, tt)))) }, tt);
  bodies = (
    record {
      eleven = refl;
      eight = (lit< tt, (lit< tt, (lit< tt, (lit< tt, (lit< tt, (lit< tt, (lit< tt, (lit< tt, tt))))))));
      datum = (lit< tt, lit< tt);
    },
    tt,
  );
  twins = (tt, tt);
}

pub ramp_book : RampBook
unfolding digit_at ended_at digits_at number_at signed_at name_run name_at same_bytes twin_at heading_at after_heading contents_line last_at body_from numbers_at after_numbers bodies_from contents_from text_reply reply_to_book after_headings entry_at entries_from entries_of list_after digits_text signed_number_text numbers_text shown_numbers body_text contents_texts body_texts book_text datum_from card_from name_place_in curve_in curves_in has_other is_wrong some_wrong is_one_of has_twins has_long has_below is_unfit some_unfit writer_number reply_by reply_to_list buffer_after
ramp_book = record { is_book = one_curve; text = refl; reply = refl; list = refl; writes = refl; buffer = refl; short = refl; hands = refl }

pub survey_book : SurveyBook
unfolding digit_at ended_at digits_at number_at signed_at name_run name_at same_bytes twin_at heading_at after_heading contents_line last_at body_from numbers_at after_numbers bodies_from contents_from text_reply reply_to_book after_headings entry_at entries_from entries_of list_after digits_text signed_number_text numbers_text shown_numbers body_text contents_texts body_texts book_text datum_from card_from name_place_in curve_in curves_in has_other is_wrong some_wrong is_one_of has_twins has_long has_below is_unfit some_unfit writer_number reply_by reply_to_list buffer_after
survey_book = record { is_book = surveyed_curve; text = refl; reply = refl; list = refl; writes = refl; buffer = refl; short = refl; hands = refl }
