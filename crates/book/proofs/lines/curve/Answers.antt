-- `book::lines::curve` meets its contract.
-- Assumes nothing.
use Rattle.std.proofs.Common.{◌+◌, set, sym, ◌∙◌}
use Rattle.std.proofs.lemmas.List.Edits.{sets}
use Rattle.std.proofs.lemmas.Result.{on_ok_weaker}
use Rattle.book.proofs.Stores.{entry_stores}
use Rattle.book.proofs.Places.{read_back}
use Rattle.book.specs.Body.{front_numbers, numbers_at}
use Rattle.book.proofs.lines.curve.Goals as goal

pub returns-clause-by_index : goal.returns-clause-by_index
returns-clause-by_index c =
    let a = c.args in
    let place = read_back c.plain.type_inv c.plain.ensures in
    let size = read_back c.plain-2.type_inv c.plain-2.ensures in
    on_ok_weaker c.body.result
    (λ stored. stored
    ∙ (λ i. sets (set (set a.draft.now a.out (place i)) (a.out + 1) (size i)) (a.out + 2) (numbers_at front_numbers a.text.now a.from))
    ∙ sym (entry_stores a.text.now a.name.place a.from a.draft.now a.out a.name.size c.requires.name_kept.0))
    c.body.ensures.by_index
