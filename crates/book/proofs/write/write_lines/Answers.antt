-- `book::write::write_lines` meets its contract.
-- Assumes nothing.
use Rattle.std.proofs.Common.{◌++◌, [], ◌∷◌, ◌≤◌, ℕ, ℤ, List, map, rules, ap, ap₂, arith, ◌≡◌, length, refl, sym, ◌∙◌}
use Rattle.std.proofs.lemmas.List.{append-nil}
use Rattle.std.proofs.lemmas.List.Edits.{sets}
use Rattle.decimal.specs.Decimal.{count_text}
use Rattle.decimal.specs.Places.{Puts, HasRoom, Wrote}
use Rattle.decimal.specs.declared.Place.{Place}
use Rattle.decimal.proofs.Rests.{Rest, rest_all, rest_put, rest_room, rest_next, rest_none}
use Rattle.book.proofs.WriterBodies.{number_text_lem}
use Rattle.book.proofs.WriterCurves.{book_lines}
use Rattle.book.specs.Meaning.{curve_in}
use Rattle.book.specs.Printed.{IsNumber, book_text}
use Rattle.book.specs.WriterSteps.{bodies_left, contents_left}
use Rattle.book.proofs.write.write_lines.Goals as goal

module _ (names : List ℕ) (curves : List (List ℤ)) where
  abbrev whole : List ℕ
  whole = book_text (map (curve_in names) curves)

  abbrev contents : List ℕ
  contents = contents_left names curves 0

  abbrev bodies : List ℕ
  bodies = bodies_left curves 0

  -- at the start there is room for all; behind the count the contents lines and the bodies are left
  counted : (buffer : List ℕ) (start next : Place) → start.at ≡ 0 → start.buffer.now ≡ buffer → length whole ≤ length buffer → IsNumber (length curves)
      → Puts start next (count_text (length curves) ++ (10 ∷ [])) → HasRoom start whole × Rest start next whole (contents ++ bodies)
  counted buffer start next first same fits number p =
      let room : HasRoom start whole = omega (arith, first, ap length same, fits) in
      let parts = book_lines names curves ∙ ap (λ (t : List ℕ). t ++ (contents ++ bodies)) (sym (number_text_lem (length curves) 10 number)) in
      (room, rest_put start start whole (count_text (length curves) ++ (10 ∷ [])) (contents ++ bodies) parts (rest_all start whole refl) room next p)

  -- behind the contents lines the bodies
  listed : (start now next : Place) → Rest start now whole (contents ++ bodies) → Wrote now next contents → Rest start next whole bodies
  listed start now next left w = rest_next start now whole contents bodies refl left next w

pub write_contents-requires-clause-room : goal.write_contents-requires-clause-room
write_contents-requires-clause-room c =
    let names = c.args.curves.now.names.now in
    let curves = c.args.curves.now.numbers.now in
    let p = c.start-place in
    let begun = counted names curves c.args.buffer.now p.result c.put_ended.new.self p.ensures.value p.ensures.buffer_same c.requires.room (omega arith) c.put_ended.ensures in
    rest_room p.result c.put_ended.new.self (whole names curves) (contents names curves) (bodies names curves) refl begun.1 begun.0

pub write_bodies-requires-clause-room : goal.write_bodies-requires-clause-room
write_bodies-requires-clause-room c =
    let names = c.args.curves.now.names.now in
    let curves = c.args.curves.now.numbers.now in
    let p = c.start-place in
    let begun = counted names curves c.args.buffer.now p.result c.put_ended.new.self p.ensures.value p.ensures.buffer_same c.requires.room (omega arith) c.put_ended.ensures in
    let last = listed names curves p.result c.put_ended.new.self c.write_contents.new.place begun.1 c.write_contents.ensures in
    rest_room p.result c.write_contents.new.place (whole names curves) (bodies names curves) [] (sym (append-nil (bodies names curves))) last begun.0

pub returns : goal.returns
returns c =
    let names = c.args.curves.now.names.now in
    let curves = c.args.curves.now.numbers.now in
    let p = c.start-place in
    let begun = counted names curves c.args.buffer.now p.result c.put_ended.new.self p.ensures.value p.ensures.buffer_same c.requires.room (omega arith) c.put_ended.ensures in
    let last = listed names curves p.result c.put_ended.new.self c.write_contents.new.place begun.1 c.write_contents.ensures in
    let all = rest_next p.result c.write_contents.new.place (whole names curves) (bodies names curves) [] (sym (append-nil (bodies names curves))) last c.write_bodies.new.place c.write_bodies.ensures in
    let wrote = rest_none p.result c.write_bodies.new.place (whole names curves) refl all in
    let written : c.write_bodies.new.place.buffer.now ≡ sets c.args.buffer.now 0 (whole names curves) =
    wrote.1 ∙ ap₂ (λ (l : List ℕ) (at : ℕ). sets l at (whole names curves)) p.ensures.buffer_same p.ensures.value in
    search (rules, written)
