-- `runoff::check_card` meets its contract: the lists of reasons in their order.
-- Assumes nothing.
use Rattle.std.proofs.Common.{refl, sym}
use Rattle.std.proofs.lemmas.Result.{err_from_is_err_and}
use Rattle.card.specs.Profile.{profile_at}
use Rattle.card.proofs.InOrder.{by_before, by_method, by_after}
use Rattle.card.proofs.Told.{not_nought}
use Rattle.runoff.specs.Refusal.{method_tests, refusal}
use Rattle.runoff.proofs.check_card.Goals as goal

pub returns-in_err-check_before : goal.returns-in_err-check_before
unfolding refusal
returns-in_err-check_before c =
    let card = c.args.card in
    let p = err_from_is_err_and c.from_residual.result c.from_residual.ensures.1 in
    rw (p.1, p.2) (by_before card (method_tests (profile_at card.profile) card) refl c.in_err-check_before.ensures (not_nought _))

-- past the first list, none of its reasons is met
pub returns-in_err-check_section : goal.returns-in_err-check_section
unfolding refusal
returns-in_err-check_section c =
    let card = c.args.card in
    let p = err_from_is_err_and c.from_residual-in_err-check_section.result c.from_residual-in_err-check_section.ensures.1 in
    rw (p.1, p.2)
    (by_method card (method_tests (profile_at card.profile) card) refl (sym c.in_ok-check_before.ensures) c.in_err-check_section.ensures (not_nought _))

pub returns : goal.returns
unfolding refusal
returns c =
    let card = c.args.card in
    by_after card (method_tests (profile_at card.profile) card) refl (sym c.in_ok-check_before.ensures) (sym c.in_ok-check_section.ensures) c.check_after.ensures
