-- `write` of a count: the digits are written from the last one on.
use Rattle.std.proofs.Common.{◌-◌, ◌%◌, ◌+◌, ℕ, arith, ap, ◌∙◌}
use Rattle.std.proofs.Math.ListN.{length-set}
use Rattle.decimal.proofs.DecimalLaws.{last_digits, digit_written, all_written}
use Rattle.decimal.proofs.U32Text.write.Goals as goal

pub loop-place-preserved : goal.loop-place-preserved
loop-place-preserved c =
    let l = c.loop-place in
    ap (λ (n : ℕ). last_digits n c.args.self) (length-set l.part (l.place - 1) (48 + l.rest % 10))
    ∙ l.invariant
    ∙ digit_written l.part l.place l.rest c.loop-place-test.true (omega arith)

pub returns-clause-whole : goal.returns-clause-whole
returns-clause-whole c e =
    let l = c.loop-place in
    all_written l.part l.place c.args.self l.rest c.loop-place-test.false l.invariant (omega arith)
