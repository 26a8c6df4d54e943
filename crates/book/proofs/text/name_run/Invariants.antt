-- `book::text::name_run`: the key of the bytes so far, and how many are left to count.
-- Assumes nothing.
use Rattle.std.proofs.Common.{◌≡◌, ◌+◌, ◌-◌, ◌^◌, ◌≤◌, ◌<◌, length}
use Rattle.book.specs.Name.{name_run}
use Rattle.book.specs.Reading.{key_from}
use Rattle.book.proofs.text.name_run.Given as goal

abbrev pub invariant-loop-n : goal.invariant-loop-n
invariant-loop-n l = record {
  inside : 0 < l.n → l.from + l.n ≤ length l.text;
  small : l.key < 256 ^ l.n;
  kept : l.key ≡ key_from l.n l.text l.from;
  rest : name_run l.most l.text l.from ≡ l.n + name_run (l.most - l.n) l.text (l.from + l.n);
}
