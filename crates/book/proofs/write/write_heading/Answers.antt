-- `book::write::write_heading` meets its contract: the name and a blank, then the line and its end.
-- Assumes nothing.
use Rattle.std.proofs.Common.{◌++◌, [], ◌∷◌, sym, refl, ◌∙◌}
use Rattle.std.proofs.lemmas.List.{append-nil, append_assoc}
use Rattle.decimal.specs.Decimal.{count_text}
use Rattle.decimal.proofs.Rests.{rest_all, rest_put, rest_none}
use Rattle.book.specs.Printed.{contents_text, number_text}
use Rattle.book.proofs.WriterBodies.{number_text_lem}
use Rattle.book.proofs.write.write_heading.Goals as goal

pub returns : goal.returns
returns c =
    let start = c.args.place.now in
    let named = c.put_ended.new.self in
    let name = c.args.name.now ++ (32 ∷ []) in
    let line = count_text c.args.line ++ (10 ∷ []) in
    let text = contents_text c.args.name.now c.args.line in
    let parts = sym (append_assoc c.args.name.now (32 ∷ []) (number_text c.args.line 10)) in
    let left = rest_put start start text name (number_text c.args.line 10) parts (rest_all start text refl) c.requires.room named c.put_ended.ensures in
    let ended = sym (append-nil line ∙ number_text_lem c.args.line 10 c.requires.number) in
    rest_none start c.put_ended-2.new.self text refl (rest_put start named text line [] ended left c.requires.room c.put_ended-2.new.self c.put_ended-2.ensures)
