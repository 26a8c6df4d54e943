-- `sheet_text::rows::row_size` meets its contract.
-- Assumes nothing.
use Rattle.std.proofs.Common.{ap, arith, length, ◌<◌, ◌≡◌, ◌∙◌, pos, rules, get_or}
use Rattle.decimal.specs.Decimal.{signed_text}
use Rattle.sheet_text.proofs.RowTexts.{row-none, row_size_turn}
use Rattle.sheet_text.proofs.rows.row_size.Goals as goal

pub loop-v-preserved : goal.loop-v-preserved
loop-v-preserved c =
    let l = c.loop-v in
    let row = c.args.row.now in
    let some : l.v-index < length row = omega (arith, c.told-row, c.loop-v-test.true) in
    let here : c.size.result ≡ length (signed_text (get_or row l.v-index (pos 0))) = c.size.ensures.value ∙ ap (λ z. length (signed_text z)) (search rules) in
    record {
      few = omega (arith, l.invariant.few, c.size.ensures.upper_bound);
      counted = omega (arith, row_size_turn row l.v-index some, here, l.invariant.counted);
    }

pub returns : goal.returns
returns c = omega (arith, c.loop-v.invariant.counted, ap length (row-none c.args.row.now c.loop-v.v-index (omega (arith, c.told-row, c.loop-v-test.false))))
