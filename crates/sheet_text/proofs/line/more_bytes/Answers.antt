-- `sheet_text::line::more_bytes` meets its contract.
-- Assumes nothing.
use Rattle.std.proofs.Common.{◌∙◌, ◌+◌, ◌<◌, ℕ, ap, arith, leb, sym}
use Rattle.std.specs.Bool.{then_some}
use Rattle.sheet_text.proofs.Buffers.{sized_over, tested}
use Rattle.sheet_text.proofs.line.more_bytes.Goals as goal

pub returns-in_err-size : goal.returns-in_err-size
returns-in_err-size c =
    let a = c.args in
    let over : a.room < a.done + a.more = omega (arith, c.in_err-size.ensures, c.ranges.room.fits) in
    c.from_residual.ensures ∙ sym (sized_over (a.done + a.more) a.room over)

pub returns : goal.returns
returns c =
    let a = c.args in
    c.then_some.ensures ∙ ap (λ (n : ℕ). then_some (leb n a.room) n) c.in_ok-size.ensures.1 ∙ tested (a.done + a.more) a.room
