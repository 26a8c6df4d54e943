-- `day::fill_day` meets its contract. What a turn means is `DayLoop.antt`'s.
-- Assumes nothing.
use Rattle.std.proofs.Common.{◌≡◌, map, length, get_or, refl, sym, ap, ◌∙◌, arith}
use Rattle.std.proofs.lemmas.Result.{err_from_is_err_and}
use lib.ListN.{length-map, get_or-map}
use Rattle.day.proofs.DayLoop.{refused_reply, accepted_reply, refused_both, first_turn, next_turn, last_turn, few_cards}
use Rattle.day.proofs.fill_day.Goals as goal

pub returns-in_err-check_day : goal.returns-in_err-check_day
returns-in_err-check_day g c =
    let cs = map g.C.AsCard.as_card c.args.cards.now in
    let long : length cs ≡ length c.args.cards.now = length-map _ _ in
    let p = err_from_is_err_and c.from_residual.result c.from_residual.ensures.1 in
    let is = c.in_err-check_day.ensures in
    let left = refused_both cs c.args.table.now c.args.replies.now c.in_err-check_day.field-0.0 (rw long is) in
    rw (p.1, p.2) (record { value = refused_reply _ _ c.in_err-check_day.field-0.0 is; table_after = sym left.0; replies_after = sym left.1; climbing_day = tt })

pub loop-i-init : goal.loop-i-init
loop-i-init g c =
    let cs = map g.C.AsCard.as_card c.args.cards.now in
    let long : length cs ≡ length c.args.cards.now = length-map _ _ in
    first_turn cs c.args.table.now c.args.replies.now (record { number = 0; count = length cs }) (accepted_reply _ _ (rw long c.in_ok-check_day.ensures))

pub loop-i-preserved : goal.loop-i-preserved
loop-i-preserved g c =
    let cs = map g.C.AsCard.as_card c.args.cards.now in
    let long : length cs ≡ length c.args.cards.now = length-map _ _ in
    let done = c.fill_card-used in
    let f = g.C.AsCard.as_card in
    let at : get_or cs c.loop-i.i (f c.index-cards-i.result) ≡ c.card.result =
    get_or-map f c.args.cards.now c.loop-i.i c.index-cards-i.result ∙ ap f (sym c.index-cards-i.is) ∙ sym c.card.ensures
    in
    next_turn cs c.args.table.now c.args.replies.now c.loop-i.invariant (f c.index-cards-i.result) (omega (arith, long, c.loop-i-test.true)) (rw at done.ensures) done.auto.table done.auto.replies

pub overflow_cast-result : goal.overflow_cast-result
overflow_cast-result g c = record { fits = omega (arith, few_cards _ _ c.in_ok-check_day.ensures) }

pub returns : goal.returns
returns g c =
    let cs = map g.C.AsCard.as_card c.args.cards.now in
    let long : length cs ≡ length c.args.cards.now = length-map _ _ in
    let told = accepted_reply _ _ c.in_ok-check_day.ensures in
    let left =
    last_turn cs c.args.table.now c.args.replies.now c.loop-i.invariant (record { number = 0; count = length cs }) (accepted_reply _ _ (rw long c.in_ok-check_day.ensures)) refl
    (λ h. omega (arith, long, c.loop-i-test.false))
    in
    record { value = told; table_after = left.0; replies_after = left.1.0; climbing_day = left.1.1 refl }
