-- `book::list_names::any_twin`: no key so far stands again.
-- Assumes nothing.
use Rattle.std.proofs.Common.{◌≡◌, drop}
use Rattle.book.specs.WriterSteps.{twin_keys}
use Rattle.book.proofs.list_names.any_twin.Given as goal

abbrev pub invariant-loop-i : goal.invariant-loop-i
invariant-loop-i l = twin_keys l.keys ≡ twin_keys (drop l.i l.keys)
