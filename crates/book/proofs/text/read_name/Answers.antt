-- `book::text::read_name` meets its contract.
-- Assumes nothing.
use Rattle.std.proofs.Common.{ap, arith, eqb, sym, ◌+◌, ◌∙◌, ◌≡◌, ℕ}
use Rattle.std.specs.Bool.{then_some}
use Rattle.book.proofs.Names.{read_none, read_some, run_inside}
use Rattle.book.specs.Name.{name_run}
use Rattle.book.specs.Number.{byte_at}
use Rattle.book.specs.declared.text.ReadName.{ReadName}
use Rattle.book.proofs.text.read_name.Goals as goal

pub returns-then-run-eq0 : goal.returns-then-run-eq0
returns-then-run-eq0 c = sym (read_none c.args.text.now c.args.at (sym (ap (λ (r : ReadName). r.size) c.name_run-run.ensures) ∙ c.if-run-eq0.true))

pub overflow_add-at : goal.overflow_add-at
overflow_add-at c =
    let a = c.args in
    let size = ap (λ (r : ReadName). r.size) c.name_run-run.ensures in
    omega (arith, run_inside a.text.now 8 a.at (omega arith))

pub returns : goal.returns
returns c =
    let s = c.args.text.now in
    let at = c.args.at in
    let run = c.name_run-run in
    let size : run.result.size ≡ name_run 8 s at = ap (λ (r : ReadName). r.size) run.ensures in
    let blank : c.byte_at.result ≡ byte_at s (at + name_run 8 s at) = c.byte_at.ensures ∙ ap (λ (n : ℕ). byte_at s (at + n)) size in
    c.then_some.ensures
    ∙ (λ i. then_some (eqb (blank i) 32) (run.ensures i))
    ∙ sym (read_some s at (λ z. c.if-run-eq0.false (size ∙ z)))
