-- `book::list_names::read_names`: no name so far is wrong, and their keys are kept.
-- Assumes nothing.
use Rattle.std.proofs.Common.{◌≡◌, drop, length, take}
use Rattle.book.specs.WriterSteps.{any_wrong, keys_of}
use Rattle.book.proofs.list_names.read_names.Given as goal

abbrev pub invariant-loop-i : goal.invariant-loop-i
invariant-loop-i l = record {
  places : length l.keys ≡ 64;
  rest : any_wrong l.curves.names.now l.curves.numbers.now ≡ any_wrong l.curves.names.now (drop l.i l.curves.numbers.now);
  kept : take l.i l.keys ≡ keys_of l.curves.names.now (take l.i l.curves.numbers.now);
}
