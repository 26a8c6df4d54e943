-- `book::lines::body_end` meets its contract.
-- Assumes nothing.
use Rattle.std.proofs.Common.{◌+◌, ◌-◌, ◌≤◌, arith, length, rules, sym, ◌∙◌}
use Rattle.book.proofs.LineLaws.{body_last}
use Rattle.book.proofs.Stores.{copy_sets, stores_last}
use Rattle.book.proofs.lines.body_end.Goals as goal

pub returns-in_err-last-clause-value : goal.returns-in_err-last-clause-value
returns-in_err-last-clause-value c =
    let e = body_last c.args.text.now c.args.at (sym c.last_numbers.ensures) in
    rw e (search rules)

pub returns-clause-value : goal.returns-clause-value
returns-clause-value c =
    let e = body_last c.args.text.now c.args.at (sym c.last_numbers.ensures) in
    rw e (search rules)

pub returns-clause-by_index : goal.returns-clause-by_index
returns-clause-by_index c =
    let a = c.args in
    let k = c.copy_from_slice.ensures in
    let room : a.out + (a.out + 4 - a.out) ≤ length a.draft.now = omega arith in
    copy_sets a.draft.now _ _ a.out (a.out + 4 - a.out) k.after k.len room
    ∙ sym (stores_last a.text.now a.at a.draft.now a.out (sym c.last_numbers.ensures ∙ c.in_ok-last.ensures.ok_part))
