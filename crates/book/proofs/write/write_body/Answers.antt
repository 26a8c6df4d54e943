-- `book::write::write_body` meets its contract.
-- Assumes nothing.
use Rattle.std.proofs.Common.{rules, ◌+◌, ◌-◌, ◌<◌, ◌++◌, [], ◌∷◌, ap, ap₂, arith, drop, length, of_z, sym, to_z, to_z-of_z, w32, ◌∙◌, ◌≡◌, ℕ, ℤ, List}
use Rattle.decimal.specs.Decimal.{signed_text}
use Rattle.decimal.proofs.Rests.{rest_all, rest_put, rest_none}
use Rattle.card_list.specs.List.{number_of}
use Rattle.book.specs.Body.{end_of}
use Rattle.book.specs.Printed.{body_text, numbers_text, shown_numbers}
use Rattle.book.proofs.WriterBodies.{body_shows, fit_short, numbers-none, numbers_turn, shown_most, shown_signed, signed_text_lem}
use Rattle.book.proofs.write.write_body.Goals as goal

pub loop-i-init : goal.loop-i-init
loop-i-init c = rest_all c.args.place.now (body_text c.args.numbers.now) (sym (body_shows c.args.numbers.now))

pub overflow_cast-n : goal.overflow_cast-n
overflow_cast-n c = omega (arith, c.shown_count-n.ensures, shown_most c.args.numbers.now (search rules))

pub loop-i-preserved : goal.loop-i-preserved
loop-i-preserved c =
    let numbers = c.args.numbers.now in
    let shown = shown_numbers numbers in
    let i = c.loop-i.i in
    let some : i < length shown = omega (arith, c.shown_count-n.ensures) in
    let here : to_z w32 (of_z w32 c.shown_at-v.result) ≡ number_of shown i = to_z-of_z {w = w32} (record { sfits = c.shown_at-v.type_inv }) ∙ c.shown_at-v.ensures in
    let count : c.shown_count-n.result - (i + 1) ≡ length shown - (i + 1) = omega (arith, c.shown_count-n.ensures) in
    let end : c.end_byte-end.result ≡ end_of (length shown - (i + 1)) = c.end_byte-end.ensures ∙ ap end_of count in
    let small = shown_signed numbers (search rules) (fit_short numbers c.requires.fit) i some in
    let part = signed_text (to_z w32 (of_z w32 c.shown_at-v.result)) ++ (c.end_byte-end.result ∷ []) in
    let text = ap₂ (λ (z : ℤ) (b : ℕ). signed_text z ++ (b ∷ [])) here end ∙ signed_text_lem (number_of shown i) (end_of (length shown - (i + 1))) small in
    let rest = numbers_text (drop (i + 1) shown) in
    let turn = numbers_turn shown i some ∙ ap (λ (t : List ℕ). t ++ rest) (sym text) in
    rest_put c.args.place.now c.loop-i.place (body_text numbers) part rest turn c.loop-i.invariant c.requires.room c.put_ended.new.self c.put_ended.ensures

pub returns : goal.returns
returns c =
    let numbers = c.args.numbers.now in
    let none = numbers-none (shown_numbers numbers) c.loop-i.i (omega (arith, c.shown_count-n.ensures)) in
    rest_none c.args.place.now c.loop-i.place (body_text numbers) none c.loop-i.invariant
