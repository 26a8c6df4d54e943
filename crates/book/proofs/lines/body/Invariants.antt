-- `book::lines::body`: the body is read from here on, and the numbers left are drafted behind those so far.
-- Assumes nothing.
use Rattle.std.proofs.Common.{◌≡◌, ◌+◌, ◌-◌}
use Rattle.std.proofs.lemmas.List.Edits.{sets}
use Rattle.book.specs.Body.{front_numbers, body_from, numbers_at}
use Rattle.book.proofs.lines.body.Given as goal

abbrev pub invariant-loop-out : goal.invariant-loop-out
invariant-loop-out l = record {
  rest : body_from front_numbers l.text l.from ≡ body_from (l.start + front_numbers - l.out) l.text l.at;
  stored : sets l.fn.draft l.start (numbers_at front_numbers l.text l.from) ≡ sets l.draft l.out (numbers_at (l.start + front_numbers - l.out) l.text l.at);
}
