-- `sheet_text::accepted_text` meets its contract: the whole text is measured, and where it fits the name is put, and the end of its line and the
-- rows that the table holds are written.
-- Assumes nothing.
use Rattle.std.proofs.Common.{◌≡◌, ◌+◌, ◌<◌, ◌++◌, List, ℕ, ℤ, None, Some, length, length-append, sym, ap, ◌∙◌, arith, rules}
use Rattle.decimal.specs.Decimal.{count_text}
use Rattle.decimal.specs.Places.{Puts}
use Rattle.decimal.specs.declared.Place.{Place}
use Rattle.sheet_text.specs.Buffer.{sized, written_of}
use Rattle.sheet_text.specs.Text.{rows_text, held_rows, ended_text, blank, accepted_text}
use Rattle.sheet_text.proofs.Buffers.{Begun, fits_of, over_of, sized_over, kept_over, begun, room_on, written_on, room_last, written_last, ended_length}
use Rattle.sheet_text.proofs.RowTexts.{held_text}
use Rattle.sheet_text.proofs.accepted_text.Goals as goal

module _ (name buffer : List ℕ) (count : ℕ) (table : List ℤ) {rows : List ℕ} (held : rows ≡ rows_text (held_rows count table) table) where
  abbrev text : List ℕ
  text = accepted_text name count table

  abbrev ended : List ℕ
  ended = ended_text blank count

  parts : text ≡ name ++ (ended ++ rows)
  unfolding accepted_text
  parts = ap (λ (t : List ℕ). name ++ (ended ++ t)) (sym held)

  text_length : length text ≡ length name + (length ended + length rows)
  text_length = ap length parts ∙ omega (arith, length-append name (ended ++ rows), length-append ended rows)

  module _ {size : ℕ} (told : size ≡ 1 + length (count_text count) + 1) where
    -- a line that does not fit, and one that does
    over_heading : None ≡ sized (length name + size) (length buffer) → length buffer < length text
    over_heading e = omega (arith, over_of (length name + size) (length buffer) e, text_length, ended_length blank count, told)

    measured : {heading : ℕ} → Some heading ≡ sized (length name + size) (length buffer)
        → sized (heading + length rows) (length buffer) ≡ written_of text (length buffer)
    measured e =
        ap (λ (n : ℕ). sized n (length buffer))
        (omega (arith, (fits_of (length name + size) (length buffer) e).1, text_length, ended_length blank count, told))

  -- behind the name the end of its line and the rows are left
  named : {size : ℕ} → Some size ≡ written_of text (length buffer) → (start next : Place) → start.at ≡ 0 → start.buffer.now ≡ buffer → Puts start next name
      → Begun text buffer next (ended ++ rows)
  named fits start next first same put = begun text buffer name (ended ++ rows) fits parts start next first same put

pub returns-in_err-heading-clause-value : goal.returns-in_err-heading-clause-value
returns-in_err-heading-clause-value c =
    let a = c.args in
    let t = c.as_chunks.ensures in
    let held = held_text a.table.now _ a.count _ t.front t.front_len c.min.ensures in
    c.from_residual.ensures ∙ sym (sized_over _ _ (over_heading a.name.now a.buffer.now a.count a.table.now held c.ended_size.ensures c.in_err-heading.ensures))

pub returns-in_err-heading-clause-buffer_after : goal.returns-in_err-heading-clause-buffer_after
returns-in_err-heading-clause-buffer_after c =
    let a = c.args in
    let t = c.as_chunks.ensures in
    let held = held_text a.table.now _ a.count _ t.front t.front_len c.min.ensures in
    kept_over _ _ (over_heading a.name.now a.buffer.now a.count a.table.now held c.ended_size.ensures c.in_err-heading.ensures)

pub rows_size-requires : goal.rows_size-requires
rows_size-requires c =
    let told = fits_of _ _ c.in_ok-heading.ensures in
    omega (arith, told.0, told.1)

pub returns-in_err-size-clause-value : goal.returns-in_err-size-clause-value
returns-in_err-size-clause-value c =
    let a = c.args in
    let t = c.as_chunks.ensures in
    let held = held_text a.table.now _ a.count _ t.front t.front_len c.min.ensures in
    c.from_residual-in_err-size.ensures ∙ c.in_err-size.ensures ∙ measured a.name.now a.buffer.now a.count a.table.now held c.ended_size.ensures c.in_ok-heading.ensures

pub returns-in_err-size-clause-buffer_after : goal.returns-in_err-size-clause-buffer_after
returns-in_err-size-clause-buffer_after c =
    let a = c.args in
    let t = c.as_chunks.ensures in
    let held = held_text a.table.now _ a.count _ t.front t.front_len c.min.ensures in
    kept_over _ _ (over_of _ _ (c.in_err-size.ensures ∙ measured a.name.now a.buffer.now a.count a.table.now held c.ended_size.ensures c.in_ok-heading.ensures))

pub write_ended-requires : goal.write_ended-requires
write_ended-requires c =
    let a = c.args in
    let t = c.as_chunks.ensures in
    let held = held_text a.table.now _ a.count _ t.front t.front_len c.min.ensures in
    let p = c.start-place in
    let fits = c.in_ok-size.ensures ∙ measured a.name.now a.buffer.now a.count a.table.now held c.ended_size.ensures c.in_ok-heading.ensures in
    let rest = named a.name.now a.buffer.now a.count a.table.now held fits p.result c.put.new.self p.ensures.value p.ensures.buffer_same c.put.ensures in
    room_on _ _ rest

pub write_rows-requires : goal.write_rows-requires
write_rows-requires c =
    let a = c.args in
    let t = c.as_chunks.ensures in
    let held = held_text a.table.now _ a.count _ t.front t.front_len c.min.ensures in
    let p = c.start-place in
    let fits = c.in_ok-size.ensures ∙ measured a.name.now a.buffer.now a.count a.table.now held c.ended_size.ensures c.in_ok-heading.ensures in
    let rest = named a.name.now a.buffer.now a.count a.table.now held fits p.result c.put.new.self p.ensures.value p.ensures.buffer_same c.put.ensures in
    room_last _ (written_on _ _ rest c.write_ended.new.place c.write_ended.ensures)

pub returns-clause-value : goal.returns-clause-value
returns-clause-value c =
    let a = c.args in
    let t = c.as_chunks.ensures in
    let held = held_text a.table.now _ a.count _ t.front t.front_len c.min.ensures in
    c.in_ok-size.ensures ∙ measured a.name.now a.buffer.now a.count a.table.now held c.ended_size.ensures c.in_ok-heading.ensures

pub returns-clause-buffer_after : goal.returns-clause-buffer_after
returns-clause-buffer_after c =
    let a = c.args in
    let t = c.as_chunks.ensures in
    let held = held_text a.table.now _ a.count _ t.front t.front_len c.min.ensures in
    let p = c.start-place in
    let fits = c.in_ok-size.ensures ∙ measured a.name.now a.buffer.now a.count a.table.now held c.ended_size.ensures c.in_ok-heading.ensures in
    let rest = named a.name.now a.buffer.now a.count a.table.now held fits p.result c.put.new.self p.ensures.value p.ensures.buffer_same c.put.ensures in
    let lined = written_on _ _ rest c.write_ended.new.place c.write_ended.ensures in
    let all = written_last _ lined c.write_rows.new.place c.write_rows.ensures in
    search (rules, all)
