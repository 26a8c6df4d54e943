-- `book::write_book` meets its contract.
-- Assumes nothing.
use Rattle.std.proofs.Common.{arith, sym, ◌∙◌}
use Rattle.std.proofs.lemmas.Result.{err_from_is_err_and}
use Rattle.book.proofs.WriterReplies.{answered_wrong}
use Rattle.book.proofs.WriterTests.{measured, named, refused_by, twin_listed, unfit, unnamed}
use Rattle.book.proofs.write_book.Goals as goal

pub returns-then-is_wrong_length : goal.returns-then-is_wrong_length
returns-then-is_wrong_length c =
    let t = sym c.is_wrong_length.ensures ∙ c.if-is_wrong_length.true in
    answered_wrong c.args.list.now c.args.names.now c.args.buffer.now (rw t)

pub returns-in_err-keys : goal.returns-in_err-keys
returns-in_err-keys c =
    let r = c.from_residual in
    rw (refused_by (err_from_is_err_and r.result r.ensures.1) c.in_err-keys.ensures.value c.in_err-keys.ensures.ok_part)
    (unnamed c.args.list.now c.args.names.now c.args.buffer.now c.as_chunks.ensures.front c.read_names.ensures c.in_err-keys.ensures.ok_part)

pub returns-then-any_twin : goal.returns-then-any_twin
returns-then-any_twin c =
    let list = c.args.list.now in
    let names = c.args.names.now in
    let n = named list names (sym c.is_wrong_length.ensures ∙ c.if-is_wrong_length.false) c.as_chunks.ensures.front c.read_names.ensures c.in_ok-keys.ensures.ok_part in
    twin_listed list names c.args.buffer.now n c.any_twin.ensures c.if-any_twin.true

pub returns-in_err-size : goal.returns-in_err-size
returns-in_err-size c =
    let list = c.args.list.now in
    let names = c.args.names.now in
    let n = named list names (sym c.is_wrong_length.ensures ∙ c.if-is_wrong_length.false) c.as_chunks.ensures.front c.read_names.ensures c.in_ok-keys.ensures.ok_part in
    let r = c.from_residual-in_err-size in
    rw (refused_by (err_from_is_err_and r.result r.ensures.1) c.in_err-size.ensures.value c.in_err-size.ensures.ok_part)
    (unfit list names c.args.buffer.now n c.any_twin.ensures c.if-any_twin.false c.book_size.ensures c.in_err-size.ensures.ok_part)

pub returns-then-buffer-size : goal.returns-then-buffer-size
returns-then-buffer-size c =
    let list = c.args.list.now in
    let names = c.args.names.now in
    let n = named list names (sym c.is_wrong_length.ensures ∙ c.if-is_wrong_length.false) c.as_chunks.ensures.front c.read_names.ensures c.in_ok-keys.ensures.ok_part in
    let m = measured list names c.args.buffer.now n c.any_twin.ensures c.if-any_twin.false c.book_size.ensures c.in_ok-size.ensures.ok_part in
    m.short c.if-buffer-size.true

pub write_lines-requires-clause-right : goal.write_lines-requires-clause-right
write_lines-requires-clause-right c =
    let list = c.args.list.now in
    let names = c.args.names.now in
    let n = named list names (sym c.is_wrong_length.ensures ∙ c.if-is_wrong_length.false) c.as_chunks.ensures.front c.read_names.ensures c.in_ok-keys.ensures.ok_part in
    let m = measured list names c.args.buffer.now n c.any_twin.ensures c.if-any_twin.false c.book_size.ensures c.in_ok-size.ensures.ok_part in
    m.names_right

pub write_lines-requires-clause-fit : goal.write_lines-requires-clause-fit
write_lines-requires-clause-fit c =
    let list = c.args.list.now in
    let names = c.args.names.now in
    let n = named list names (sym c.is_wrong_length.ensures ∙ c.if-is_wrong_length.false) c.as_chunks.ensures.front c.read_names.ensures c.in_ok-keys.ensures.ok_part in
    let m = measured list names c.args.buffer.now n c.any_twin.ensures c.if-any_twin.false c.book_size.ensures c.in_ok-size.ensures.ok_part in
    m.cards_fit

pub write_lines-requires-clause-room : goal.write_lines-requires-clause-room
write_lines-requires-clause-room c =
    let list = c.args.list.now in
    let names = c.args.names.now in
    let n = named list names (sym c.is_wrong_length.ensures ∙ c.if-is_wrong_length.false) c.as_chunks.ensures.front c.read_names.ensures c.in_ok-keys.ensures.ok_part in
    let m = measured list names c.args.buffer.now n c.any_twin.ensures c.if-any_twin.false c.book_size.ensures c.in_ok-size.ensures.ok_part in
    m.in_bounds c.if-buffer-size.false

pub overflow_cast-result : goal.overflow_cast-result
overflow_cast-result c =
    let list = c.args.list.now in
    let names = c.args.names.now in
    let n = named list names (sym c.is_wrong_length.ensures ∙ c.if-is_wrong_length.false) c.as_chunks.ensures.front c.read_names.ensures c.in_ok-keys.ensures.ok_part in
    let m = measured list names c.args.buffer.now n c.any_twin.ensures c.if-any_twin.false c.book_size.ensures c.in_ok-size.ensures.ok_part in
    omega (arith, m.few c.if-buffer-size.false)

pub returns : goal.returns
returns c =
    let list = c.args.list.now in
    let names = c.args.names.now in
    let n = named list names (sym c.is_wrong_length.ensures ∙ c.if-is_wrong_length.false) c.as_chunks.ensures.front c.read_names.ensures c.in_ok-keys.ensures.ok_part in
    let m = measured list names c.args.buffer.now n c.any_twin.ensures c.if-any_twin.false c.book_size.ensures c.in_ok-size.ensures.ok_part in
    m.written c.if-buffer-size.false c.write_lines.ensures
