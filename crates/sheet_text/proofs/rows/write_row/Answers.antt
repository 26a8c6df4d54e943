-- `sheet_text::rows::write_row` meets its contract: each turn puts a number and the byte after it.
-- Assumes nothing.
use Rattle.std.proofs.Common.{◌≡◌, ◌+◌, ◌-◌, ◌<◌, ◌++◌, ◌∷◌, [], List, ℕ, ℤ, length, drop, sym, ap, ap₂, ◌∙◌, arith, rules}
use Rattle.decimal.specs.Decimal.{signed_text}
use Rattle.decimal.proofs.Rests.{rest_put, rest_none}
use Rattle.book.specs.Body.{end_of}
use Rattle.sheet_text.specs.Text.{row_text}
use Rattle.sheet_text.proofs.RowTexts.{row-none, end_last, end_other, row_turn}
use Rattle.sheet_text.proofs.rows.write_row.Goals as goal
use Rattle.sheet_text.proofs.rows.write_row.Goals.{then-i-eq7, else-i-eq7}

pub loop-i-preserved : goal.loop-i-preserved
loop-i-preserved c =
    let row = c.args.row.now in
    let l = c.loop-i in
    let n = length row in
    let j = l.i + 1 in
    let some : l.i < n = omega (arith, c.told-row, c.loop-i-test.true) in
    let end : c.if-i-eq7.end ≡ end_of (n - j) =
    elim c.if-i-eq7.branch [
      | then-i-eq7 w ↦ w.end-is ∙ sym (end_last n j (omega (arith, c.told-row, w.if-i-eq7.true)))
      | else-i-eq7 w ↦ w.end-is ∙ sym (end_other n j (omega arith) (λ e. w.if-i-eq7.false (e ∙ c.told-row)))
    ] in
    let text = ap₂ (λ (z : ℤ) (b : ℕ). signed_text z ++ (b ∷ [])) (search rules) end in
    let rest = row_text (drop j row) in
    let turn = row_turn row l.i some ∙ ap (λ (t : List ℕ). t ++ rest) (sym text) in
    rest_put c.args.place.now l.place (row_text row) _ rest turn l.invariant c.requires c.put_ended.new.self c.put_ended.ensures

pub returns : goal.returns
returns c =
    let l = c.loop-i in
    rest_none c.args.place.now l.place (row_text c.args.row.now) (row-none c.args.row.now l.i (omega (arith, c.told-row, c.loop-i-test.false))) l.invariant
