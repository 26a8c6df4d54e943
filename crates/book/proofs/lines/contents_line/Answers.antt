-- `book::lines::contents_line` meets its contract.
-- Assumes nothing.
use Rattle.std.proofs.Common.{rules, sym, ◌∙◌}
use Rattle.book.proofs.LineLaws.{heading_by, heading_read_by}
use Rattle.book.proofs.Names.{read_named}
use Rattle.book.proofs.lines.contents_line.Goals as goal

pub returns-in_err-size : goal.returns-in_err-size
returns-in_err-size c = rw (heading_by c.args.text.now c.args.at c.read_name.ensures) (search rules)

pub returns-in_err-value : goal.returns-in_err-value
returns-in_err-value c =
    let name = sym c.in_ok-size.ensures.ok_part ∙ c.read_name.ensures in
    rw (heading_read_by c.args.text.now c.args.at name (sym c.read_number.ensures)) (search rules)

pub returns-then-value-due : goal.returns-then-value-due
returns-then-value-due c =
    let name = sym c.in_ok-size.ensures.ok_part ∙ c.read_name.ensures in
    rw (heading_read_by c.args.text.now c.args.at name (sym c.read_number.ensures ∙ c.in_ok-value.ensures.ok_part)) (search rules)

pub returns-then-is_twin : goal.returns-then-is_twin
returns-then-is_twin c =
    let name = sym c.in_ok-size.ensures.ok_part ∙ c.read_name.ensures in
    let named = read_named c.args.text.now c.args.at c.in_ok-size.field-0 name in
    let e = heading_read_by c.args.text.now c.args.at name (sym c.read_number.ensures ∙ c.in_ok-value.ensures.ok_part) in
    rw (e, ← named.1) (search rules)

pub returns : goal.returns
returns c =
    let name = sym c.in_ok-size.ensures.ok_part ∙ c.read_name.ensures in
    let named = read_named c.args.text.now c.args.at c.in_ok-size.field-0 name in
    let e = heading_read_by c.args.text.now c.args.at name (sym c.read_number.ensures ∙ c.in_ok-value.ensures.ok_part) in
    rw (e, ← named.1, ← named.0) (search rules)
