-- `book::reply::bodies`: the bodies left are read from here on, and their curves are drafted behind those so far.
-- Assumes nothing.
use Rattle.std.proofs.Common.{length, ◌≡◌, ◌-◌, ◌*◌, drop}
use Rattle.std.proofs.lemmas.List.Edits.{sets}
use Rattle.card_list.specs.List.{curve_width}
use Rattle.book.specs.Book.{bodies_from}
use Rattle.book.specs.Reading.{places_of, entries_by}
use Rattle.book.proofs.reply.bodies.Given as goal

abbrev pub invariant-loop-i : goal.invariant-loop-i
invariant-loop-i l = record {
  rest : bodies_from (length l.names) l.text (length l.names) 0 l.from ≡ bodies_from (length l.names - l.i) l.text (length l.names) l.i l.at;
  stored : sets l.fn.draft 0 (entries_by l.text (places_of l.names) l.from) ≡ sets l.draft (curve_width * l.i) (entries_by l.text (drop l.i (places_of l.names)) l.at);
}
