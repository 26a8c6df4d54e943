-- `write` of a signed number: below nought the minus stands before the digits.
use Rattle.std.proofs.Common.{arith, sym, ap, ◌∙◌, length}
use Rattle.std.proofs.Math.ListN.{length-set}
use mir.Facts.{to_z-of_z}
use Rattle.decimal.specs.Decimal.{count_text, signed_text}
use Rattle.decimal.proofs.DecimalLaws.{text_below, text_above}
use Rattle.decimal.proofs.Stores.{first_written}
use Rattle.decimal.proofs.I32Text.write.Goals as goal

pub returns-then-self-lt0-clause-whole : goal.returns-then-self-lt0-clause-whole
returns-then-self-lt0-clause-whole c e =
    let t = text_below (to_z-of_z c.ranges.self) c.unsigned_abs-magnitude.ensures.value c.if-self-lt0.true in
    first_written 45 c.args.part.now (count_text c.unsigned_abs-magnitude.result) c.write.new.part (omega (arith, ap length t)) c.write.ensures.whole ∙ sym t

pub returns-else-self-lt0-clause-whole : goal.returns-else-self-lt0-clause-whole
returns-else-self-lt0-clause-whole c e =
    let t = text_above (to_z-of_z c.ranges.self) c.unsigned_abs-magnitude.ensures.value c.if-self-lt0.false in
    c.write-else-self-lt0.ensures.whole (omega (arith, ap length t)) ∙ sym t

-- below nought the part has a byte for the minus
pub bounds-part-0 : goal.bounds-part-0
bounds-part-0 c =
    let t = text_below (to_z-of_z c.ranges.self) c.unsigned_abs-magnitude.ensures.value c.if-self-lt0.true in
    let size = ap (λ z. length (signed_text z)) (to_z-of_z c.ranges.self) in
    omega (arith, ap length t, size, c.size.ensures.value, c.if-part-size.false)

pub slice_bounds-write-count : goal.slice_bounds-write-count
slice_bounds-write-count c =
    let t = text_below (to_z-of_z c.ranges.self) c.unsigned_abs-magnitude.ensures.value c.if-self-lt0.true in
    let size = ap (λ z. length (signed_text z)) (to_z-of_z c.ranges.self) in
    omega (arith, ap length t, size, c.size.ensures.value, c.if-part-size.false, length-set c.args.part.now 0 45)

pub slice_bounds-write-start : goal.slice_bounds-write-start
slice_bounds-write-start c =
    let t = text_below (to_z-of_z c.ranges.self) c.unsigned_abs-magnitude.ensures.value c.if-self-lt0.true in
    let size = ap (λ z. length (signed_text z)) (to_z-of_z c.ranges.self) in
    omega (arith, ap length t, size, c.size.ensures.value, c.if-part-size.false, length-set c.args.part.now 0 45)
