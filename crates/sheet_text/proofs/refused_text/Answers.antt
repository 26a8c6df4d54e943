-- `sheet_text::refused_text` meets its contract: the whole text is measured, and where it fits the name is put, and the rest written.
-- Assumes nothing.
use Rattle.std.proofs.Common.{◌≡◌, ◌+◌, ◌++◌, List, ℕ, Some, length, length-append, refl, ap, ◌∙◌, arith, rules}
use Rattle.decimal.specs.Decimal.{count_text}
use Rattle.decimal.specs.Places.{Puts}
use Rattle.decimal.specs.declared.Place.{Place}
use Rattle.sheet_text.specs.Buffer.{sized, written_of}
use Rattle.sheet_text.specs.Text.{ended_text, refused_word, refused_text}
use Rattle.sheet_text.proofs.Buffers.{Begun, over_of, kept_over, begun, room_last, written_last, ended_length}
use Rattle.sheet_text.proofs.refused_text.Goals as goal

module _ (name buffer : List ℕ) (number : ℕ) where
  abbrev text : List ℕ
  text = refused_text name number

  abbrev ended : List ℕ
  ended = ended_text refused_word number

  parts : text ≡ name ++ ended
  unfolding refused_text
  parts = refl

  measured : {size : ℕ} → size ≡ 9 + length (count_text number) + 1 → sized (length name + size) (length buffer) ≡ written_of text (length buffer)
  measured e = ap (λ (n : ℕ). sized n (length buffer)) (omega (arith, ap length parts, length-append name ended, ended_length refused_word number, e))

  -- behind the name the rest is left
  named : {size : ℕ} → Some size ≡ written_of text (length buffer) → (start next : Place) → start.at ≡ 0 → start.buffer.now ≡ buffer → Puts start next name → Begun text buffer next ended
  named fits start next first same put = begun text buffer name ended fits parts start next first same put

pub returns-in_err-size-clause-value : goal.returns-in_err-size-clause-value
returns-in_err-size-clause-value c =
    c.from_residual.ensures ∙ c.in_err-size.ensures ∙ measured c.args.name.now c.args.buffer.now c.args.number c.ended_size.ensures

pub returns-in_err-size-clause-buffer_after : goal.returns-in_err-size-clause-buffer_after
returns-in_err-size-clause-buffer_after c =
    let a = c.args in
    kept_over _ _
    (over_of _ _ (c.in_err-size.ensures ∙ measured a.name.now a.buffer.now a.number c.ended_size.ensures))

pub write_ended-requires : goal.write_ended-requires
write_ended-requires c =
    let a = c.args in
    let p = c.start-place in
    let fits = c.in_ok-size.ensures ∙ measured a.name.now a.buffer.now a.number c.ended_size.ensures in
    let rest = named a.name.now a.buffer.now a.number fits p.result c.put.new.self p.ensures.value p.ensures.buffer_same c.put.ensures in
    room_last _ rest

pub returns-clause-value : goal.returns-clause-value
returns-clause-value c = c.in_ok-size.ensures ∙ measured c.args.name.now c.args.buffer.now c.args.number c.ended_size.ensures

pub returns-clause-buffer_after : goal.returns-clause-buffer_after
returns-clause-buffer_after c =
    let a = c.args in
    let p = c.start-place in
    let fits = c.in_ok-size.ensures ∙ measured a.name.now a.buffer.now a.number c.ended_size.ensures in
    let rest = named a.name.now a.buffer.now a.number fits p.result c.put.new.self p.ensures.value p.ensures.buffer_same c.put.ensures in
    let all = written_last _ rest c.write_ended.new.place c.write_ended.ensures in
    search (rules, all)
