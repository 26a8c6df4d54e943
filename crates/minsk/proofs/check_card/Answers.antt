-- `minsk::check_card` meets its contract: the lists of reasons in their order.
-- Assumes nothing.
use Rattle.std.proofs.Common.{◌≡◌, sym, ◌∙◌}
use Rattle.std.proofs.lemmas.Result.{err_from_is_err_and}
use Rattle.card.specs.Reasons.{refusal_before}
use Rattle.card.proofs.Tests.{then-first}
use Rattle.card.proofs.Told.{not_nought}
use Rattle.minsk.proofs.Accepts.{in_order}
use Rattle.minsk.proofs.check_card.Goals as goal

pub returns-in_err-check_before : goal.returns-in_err-check_before
returns-in_err-check_before c =
    let is = c.in_err-check_before.ensures in
    let p = err_from_is_err_and c.from_residual.result c.from_residual.ensures.1 in
    rw (p.1, p.2) (is ∙ sym (in_order _ ∙ then-first _ _ (λ z. not_nought _ (is ∙ z))))

-- past the first list, none of its reasons is met
pub returns-in_err-check_section : goal.returns-in_err-check_section
returns-in_err-check_section c =
    let none : refusal_before c.args.card ≡ 0 = sym (c.in_ok-check_before.ensures) in
    let is = c.in_err-check_section.ensures in
    let p = err_from_is_err_and c.from_residual-in_err-check_section.result c.from_residual-in_err-check_section.ensures.1 in
    rw (p.1, p.2) (is ∙ sym (in_order _ ∙ rw none (then-first _ _ (λ z. not_nought _ (is ∙ z)))))

pub returns : goal.returns
returns c =
    let none : refusal_before c.args.card ≡ 0 = sym (c.in_ok-check_before.ensures) in
    c.check_after.ensures ∙ sym (in_order _ ∙ rw (none, sym (c.in_ok-check_section.ensures)))
