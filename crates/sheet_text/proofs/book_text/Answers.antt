-- `sheet_text::book_text` meets its contract: the whole text is measured, and where it fits the word and the number are put, and the rest written.
-- Assumes nothing.
use Rattle.std.proofs.Common.{◌≡◌, ◌+◌, ◌++◌, List, ℕ, Some, length, length-append, refl, sym, ap, ◌∙◌, arith, rules, eq-eqb, ne_eqb}
use Rattle.decimal.specs.Decimal.{count_text}
use Rattle.decimal.specs.Places.{Puts}
use Rattle.decimal.specs.declared.Place.{Place}
use Rattle.sheet_text.specs.Buffer.{sized, written_of}
use Rattle.sheet_text.specs.Text.{ended_text, book_word, line_word, refused_book_text}
use Rattle.sheet_text.proofs.Buffers.{Begun, sized_fits, over_of, none_after, kept_over, begun, put_on, room_last, written_last, ended_length}
use Rattle.sheet_text.proofs.book_text.Goals as goal

module _ (buffer : List ℕ) (number line : ℕ) where
  abbrev text : List ℕ
  text = refused_book_text number line

  abbrev counted : List ℕ
  counted = count_text number

  abbrev ended : List ℕ
  ended = ended_text line_word line

  parts : text ≡ book_word ++ (counted ++ ended)
  unfolding refused_book_text
  parts = refl

  measured : {digits size : ℕ} → digits ≡ length counted → size ≡ 6 + length (count_text line) + 1 → sized (5 + digits + size) (length buffer) ≡ written_of text (length buffer)
  measured long e =
      ap (λ (n : ℕ). sized n (length buffer))
      (omega (arith, ap length parts, length-append book_word (counted ++ ended), length-append counted ended, ended_length line_word line, long, e))

  -- behind the word and the number the rest is left
  numbered : {size : ℕ} {word : List ℕ} → Some size ≡ written_of text (length buffer) → word ≡ book_word → (start now next : Place) → start.at ≡ 0 → start.buffer.now ≡ buffer
      → Puts start now word → Puts now next counted → Begun text buffer next ended
  numbered {word = word} fits is start now next first same put put_number =
      let begins = parts ∙ ap (λ (w : List ℕ). w ++ (counted ++ ended)) (sym is) in
      put_on counted ended (begun text buffer word (counted ++ ended) fits begins start now first same put) next put_number

pub returns-then-number-eq0-clause-value : goal.returns-then-number-eq0-clause-value
returns-then-number-eq0-clause-value c = rw (eq-eqb c.args.number 0 c.if-number-eq0.true) (sym (sized_fits 0 (length c.args.buffer.now) (omega arith)))

pub returns-then-number-eq0-clause-buffer_after : goal.returns-then-number-eq0-clause-buffer_after
returns-then-number-eq0-clause-buffer_after c = rw (eq-eqb c.args.number 0 c.if-number-eq0.true) (none_after c.args.buffer.now)

pub returns-in_err-size-clause-value : goal.returns-in_err-size-clause-value
returns-in_err-size-clause-value c =
    let a = c.args in
    rw (ne_eqb a.number 0 c.if-number-eq0.false)
    (c.from_residual.ensures ∙ c.in_err-size.ensures ∙ measured a.buffer.now a.number a.line c.size.ensures.value c.ended_size.ensures)

pub returns-in_err-size-clause-buffer_after : goal.returns-in_err-size-clause-buffer_after
returns-in_err-size-clause-buffer_after c =
    let a = c.args in
    rw (ne_eqb a.number 0 c.if-number-eq0.false)
    (kept_over _ _ (over_of _ _ (c.in_err-size.ensures ∙ measured a.buffer.now a.number a.line c.size.ensures.value c.ended_size.ensures)))

pub write_ended-requires : goal.write_ended-requires
write_ended-requires c =
    let a = c.args in
    let p = c.start-place in
    let fits = c.in_ok-size.ensures ∙ measured a.buffer.now a.number a.line c.size.ensures.value c.ended_size.ensures in
    let rest =
    numbered a.buffer.now a.number a.line fits c.as_slice.ensures p.result c.put.new.self c.put-2.new.self p.ensures.value p.ensures.buffer_same c.put.ensures c.put-2.ensures in
    room_last _ rest

pub returns-clause-value : goal.returns-clause-value
returns-clause-value c =
    let a = c.args in
    rw (ne_eqb a.number 0 c.if-number-eq0.false) (c.in_ok-size.ensures ∙ measured a.buffer.now a.number a.line c.size.ensures.value c.ended_size.ensures)

pub returns-clause-buffer_after : goal.returns-clause-buffer_after
returns-clause-buffer_after c =
    let a = c.args in
    let p = c.start-place in
    let fits = c.in_ok-size.ensures ∙ measured a.buffer.now a.number a.line c.size.ensures.value c.ended_size.ensures in
    let rest =
    numbered a.buffer.now a.number a.line fits c.as_slice.ensures p.result c.put.new.self c.put-2.new.self p.ensures.value p.ensures.buffer_same c.put.ensures c.put-2.ensures in
    let all = written_last _ rest c.write_ended.new.place c.write_ended.ensures in
    rw (ne_eqb a.number 0 c.if-number-eq0.false) (search (rules, all))
