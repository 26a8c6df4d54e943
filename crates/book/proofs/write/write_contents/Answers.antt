-- `book::write::write_contents` meets its contract.
-- Assumes nothing.
use Rattle.std.proofs.Common.{◌+◌, ◌++◌, ◌-◌, ◌<◌, List, ap, arith, drop, false, length, subst, sym, take, ℕ, ℤ, ◌∙◌, ◌≡◌, ◌≤◌}
use Rattle.book.proofs.WriterCurves.{contents_none, contents_turn, place_at, right_at}
use Rattle.book.proofs.WriterNames.{right_stands}
use Rattle.book.specs.Printed.{contents_text}
use Rattle.book.specs.WriterSteps.{any_wrong, contents_left}
use Rattle.card_list.specs.List.{name_bytes}
use Rattle.card_list.specs.declared.NamePlace.{NamePlace}
use Rattle.decimal.proofs.Rests.{rest_next, rest_none, rest_room}
use Rattle.book.proofs.write.write_contents.Goals as goal

module _ (names : List ℕ) (curves : List (List ℤ)) (i : ℕ) (some : i < length curves) {place : NamePlace} (e : place ≡ place_at names curves i) where
  -- the name of a curve stands in the bytes
  stands : any_wrong names curves ≡ false → place.place + place.size ≤ length names
  stands right =
      subst (λ (p : NamePlace). p.place + p.size ≤ length names) (sym e) (right_stands names (place_at names curves i) (right_at names curves i right some)).inside

  -- what the code lends for it
  abbrev lent_name : List ℕ
  lent_name = take (place.place + place.size - place.place) (drop place.place names)

  -- the line of a curve, as it is written, and the lines behind it
  turned : contents_left names curves i ≡ contents_text lent_name (length curves + i + 2) ++ contents_left names curves (i + 1)
  turned =
      let size : place.place + place.size - place.place ≡ place.size = omega arith in
      let lent : lent_name ≡ name_bytes names (place_at names curves i) = ap (λ (m : ℕ). take m (drop place.place names)) size ∙ ap (name_bytes names) e in
      contents_turn names curves i some ∙ ap (λ (t : List ℕ). contents_text t (length curves + i + 2) ++ contents_left names curves (i + 1)) (sym lent)

pub slice_bounds-write_heading-end : goal.slice_bounds-write_heading-end
slice_bounds-write_heading-end c = stands c.args.curves.now.names.now c.args.curves.now.numbers.now c.loop-i.i c.loop-i-test.true c.name_of_curve-name.ensures c.requires.right

pub write_heading-requires-clause-room : goal.write_heading-requires-clause-room
write_heading-requires-clause-room c =
    let l = c.loop-i in
    rest_room c.args.place.now l.place _ _ _ (turned c.args.curves.now.names.now c.args.curves.now.numbers.now l.i c.loop-i-test.true c.name_of_curve-name.ensures) l.invariant c.requires.room

pub loop-i-preserved : goal.loop-i-preserved
loop-i-preserved c =
    let l = c.loop-i in
    let line = turned c.args.curves.now.names.now c.args.curves.now.numbers.now l.i c.loop-i-test.true c.name_of_curve-name.ensures in
    rest_next c.args.place.now l.place _ _ _ line l.invariant c.write_heading.new.place c.write_heading.ensures

pub returns : goal.returns
returns c =
    let l = c.loop-i in
    rest_none c.args.place.now l.place _ (contents_none c.args.curves.now.names.now c.args.curves.now.numbers.now l.i c.loop-i-test.false) l.invariant
