-- `put_ended` of a place meets its contract: behind the text comes the byte that ends it.
use Rattle.std.proofs.Common.{rules, [], ◌∷◌, ◌++◌, arith, refl, sym, length-append}
use Rattle.decimal.proofs.Stores.{stores_next, wrote_size}
use Rattle.decimal.proofs.Puts.{puts_wrote, stored_put, put_none}
use Rattle.decimal.proofs.Place.put_ended.Goals.{else-at-room-via-then-at-room+else-size-room, else-at-room-via-else-at-room}
use Rattle.decimal.proofs.Place.put_ended.Goals as goal

pub bounds-self-self : goal.bounds-self-self
bounds-self-self g c =
    let text = g.T.Text.text c.args.text in
    let first = puts_wrote c.args.self.now c.put.new.self text (omega arith) c.put.ensures in
    omega (arith, first.0, wrote_size c.args.self.now c.put.new.self text first)

pub overflow_add-self : goal.overflow_add-self
overflow_add-self g c =
    let first = puts_wrote c.args.self.now c.put.new.self (g.T.Text.text c.args.text) (omega arith) c.put.ensures in
    search (rules, first.0)

pub returns-then-size-room : goal.returns-then-size-room
returns-then-size-room g c =
    let place = c.args.self.now in
    let text = g.T.Text.text c.args.text in
    let end = c.args.end ∷ [] in
    let n = length-append text end in
    let first = puts_wrote place c.put.new.self text (omega arith) c.put.ensures in
    let p = stored_put place.at (text ++ end) place.buffer.now (omega (arith, n)) (omega (arith, n, first.0))
    (sym (stores_next text end place.buffer.now place.at refl first.1 first.0)) in
    (p.0, p.1, first.2)

pub returns-else-at-room : goal.returns-else-at-room
returns-else-at-room g c =
    let place = c.args.self.now in
    let text = g.T.Text.text c.args.text in
    let p = put_none place.at (text ++ (c.args.end ∷ [])) place.buffer.now
    (elim c.else-at-room.branch [
      | else-at-room-via-then-at-room+else-size-room w ↦ omega (arith, length-append text (c.args.end ∷ []))
      | else-at-room-via-else-at-room w ↦ omega (arith, length-append text (c.args.end ∷ []))
    ]) in
    (p.0, p.1, refl)
