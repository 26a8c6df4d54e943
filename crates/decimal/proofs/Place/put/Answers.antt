-- `put` of a place meets its contract.
use Rattle.std.proofs.Common.{arith, refl}
use Rattle.decimal.proofs.Puts.{put_part, put_none}
use Rattle.decimal.proofs.Place.put.Goals.{else-at-room-via-then-at-room+else-size-room, else-at-room-via-else-at-room}
use Rattle.decimal.proofs.Place.put.Goals as goal

pub returns-then-size-room : goal.returns-then-size-room
returns-then-size-room g c =
    let place = c.args.self.now in
    let p = put_part place.at (g.T.Text.text c.args.text) place.buffer.now (omega arith) c.size-size.ensures.value c.write.ensures.whole in
    (p.0, p.1, refl)

pub returns-else-at-room : goal.returns-else-at-room
returns-else-at-room g c =
    let place = c.args.self.now in
    let p = put_none place.at (g.T.Text.text c.args.text) place.buffer.now
    (elim c.else-at-room.branch [
      | else-at-room-via-then-at-room+else-size-room w ↦ omega arith
      | else-at-room-via-else-at-room w ↦ omega arith
    ]) in
    (p.0, p.1, refl)
