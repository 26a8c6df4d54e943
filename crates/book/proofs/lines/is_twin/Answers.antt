-- `book::lines::is_twin` meets its contract.
-- Assumes nothing.
use Rattle.std.proofs.Common.{nat_eq, rules, tests, ◌∙◌}
use Rattle.std.proofs.lemmas.Iterator.{YieldsList-from_slice}
use Rattle.std.proofs.lemmas.Iterator.Search.{any_from_yields_List}
use Rattle.book.proofs.Keys.{any_kept}
use Rattle.book.specs.declared.lines.KeptName.{KeptName}
use Rattle.book.proofs.lines.is_twin.Goals as goal

pub returns : goal.returns
returns c =
    let a = c.args in
    any_from_yields_List (λ (name : KeptName). nat_eq name.key a.key) _ _ _ c.any.ensures.ran (YieldsList-from_slice a.names.now cc) (λ x b q k. search (rules, tests))
    ∙ any_kept a.names.now a.key
