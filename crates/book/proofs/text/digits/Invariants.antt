-- `book::text::digits`: the number so far, and what is read from here on.
-- Assumes nothing.
use Rattle.std.proofs.Common.{◌≡◌, ◌+◌, ◌-◌, ◌^◌, ◌<◌}
use Rattle.book.specs.Number.{digits_at}
use Rattle.book.specs.Reading.{byte_of}
use Rattle.book.proofs.text.digits.Given as goal

abbrev pub invariant-loop-at : goal.invariant-loop-at
invariant-loop-at l = record {
  small : l.value < 10 ^ (l.at - l.from + 1);
  rest : digits_at 6 l.text l.from l.first (byte_of l.end) ≡ digits_at (l.from + 6 - l.at) l.text l.at l.value (byte_of l.end);
}
