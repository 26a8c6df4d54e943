-- `size` of a count.
use Rattle.decimal.proofs.DecimalLaws.{size_told}
use Rattle.decimal.proofs.U32Text.size.Goals as goal

pub returns-clause-value : goal.returns-clause-value
returns-clause-value c =
    let power = c.checked_ilog10.ensures in
    rw c.unwrap_or.ensures (size_told c.args.self c.checked_ilog10.result power.none power.power_le power.next_power_gt power.bound)
