-- `sheet_text::line::write_ended` meets its contract: the word, and then the count with the end of the line.
-- Assumes nothing.
use Rattle.std.proofs.Common.{◌++◌, ◌∷◌, [], List, ℕ, append-nil, refl, sym}
use Rattle.decimal.specs.Decimal.{count_text}
use Rattle.decimal.specs.Places.{Puts, HasRoom, Wrote}
use Rattle.decimal.specs.declared.Place.{Place}
use Rattle.decimal.proofs.Rests.{rest_all, rest_put, rest_none}
use Rattle.sheet_text.specs.Text.{ended_text}
use Rattle.sheet_text.proofs.line.write_ended.Goals as goal

ended_wrote :
    (start now next : Place) (word : List ℕ) (v : ℕ) → HasRoom start (ended_text word v) → Puts start now word → Puts now next (count_text v ++ (10 ∷ []))
    → Wrote start next (ended_text word v)
unfolding ended_text
ended_wrote start now next word v room put ended =
    let tail = count_text v ++ (10 ∷ []) in
    let left = rest_put start start (word ++ tail) word tail refl (rest_all start (word ++ tail) refl) room now put in
    rest_none start next (word ++ tail) refl (rest_put start now (word ++ tail) tail [] (sym (append-nil tail)) left room next ended)

pub returns : goal.returns
returns c = ended_wrote c.args.place.now c.put.new.self c.put_ended.new.self c.args.word.now c.args.v c.requires c.put.ensures c.put_ended.ensures
