-- `book::list_names::name_key` meets its contract.
-- Assumes nothing.
use Rattle.std.proofs.Common.{ap, arith, ◌∙◌, ◌≡◌}
use Rattle.book.proofs.WriterNames.{read_run, read_wrong, stopped_wrong, unread_wrong}
use Rattle.book.specs.Name.{name_run}
use Rattle.book.specs.WriterSteps.{key_read}
use Rattle.book.specs.declared.text.ReadName.{ReadName}
use Rattle.book.proofs.list_names.name_key.Goals as goal

pub returns-then-size-lt1 : goal.returns-then-size-lt1
returns-then-size-lt1 c =
    let names = c.args.names.now in
    let p = c.name_of_curve-at in
    read_wrong names p.result (unread_wrong names p.result c.then-size-lt1.either) ∙ ap (key_read names) p.ensures

pub returns-then-run-size : goal.returns-then-run-size
returns-then-run-size c =
    let names = c.args.names.now in
    let p = c.name_of_curve-at in
    let counted : c.name_run-run.result.size ≡ name_run p.result.size names p.result.place = ap (λ (r : ReadName). r.size) c.name_run-run.ensures in
    read_wrong names p.result (stopped_wrong names p.result (omega (arith, counted, c.if-run-size.true))) ∙ ap (key_read names) p.ensures

pub returns : goal.returns
returns c =
    let names = c.args.names.now in
    let p = c.name_of_curve-at in
    read_run names p.result c.if-place-names.false c.if-size-lt1.false c.if-size-gt-MOST_NAME.false c.name_run-run.ensures c.if-run-size.false
    ∙ ap (key_read names) p.ensures
