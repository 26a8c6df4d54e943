-- `book::lines::last_numbers` meets its contract.
-- Assumes nothing.
use Rattle.std.proofs.Common.{Some, [], ◌∷◌, ap, lit<, pos, sym, ℤ, ◌∙◌}
use Rattle.book.proofs.NumberText.{number_read}
use Rattle.book.proofs.Places.{read_back}
use Rattle.book.specs.Body.{last_at, relative_or}
use Rattle.book.proofs.lines.last_numbers.Goals as goal

pub plain-requires : goal.plain-requires
plain-requires c = (number_read c.args.text.now 10 (lit< tt) c.args.at _ _ (sym c.read_number.ensures ∙ c.in-Some.is)).0

pub returns-in_default : goal.returns-in_default
unfolding last_at
returns-in_default c = c.absolute_last.ensures ∙ sym (ap (relative_or c.args.text.now c.args.at) (sym c.read_number.ensures ∙ c.in_default.is))

pub returns : goal.returns
unfolding last_at
returns c =
    let a = c.args in
    let unit = read_back c.plain.type_inv c.plain.ensures in
    ap (λ (z : ℤ). Some (z ∷ pos 0 ∷ pos 0 ∷ pos 0 ∷ [], c.in-Some.next)) unit
    ∙ sym (ap (relative_or a.text.now a.at) (sym c.read_number.ensures ∙ c.in-Some.is))
