-- `book::reply::text_reply` meets its contract.
-- Assumes nothing.
use Rattle.std.proofs.Common.{ap, sym, ℕ, ◌∙◌}
use Rattle.std.proofs.lemmas.List.Edits.{sets}
use Rattle.std.proofs.lemmas.Result.{IfOk-weaker}
use Rattle.book.specs.Book.{after_headings, entries_from, entries_of}
use Rattle.book.specs.Number.{field_next}
use Rattle.book.proofs.reply.text_reply.Goals as goal

pub returns-clause-draft_after : goal.returns-clause-draft_after
unfolding entries_of
returns-clause-draft_after c =
    let s = c.args.text.now in
    let d = c.args.draft.now in
    let n = c.in_ok-n.n in
    let e = sym c.read_number.ensures ∙ c.in_ok-n.ensures.ok_part in
    IfOk-weaker c.contents.result _ _
    (λ count h. h.1
    ∙ ap (λ (p : ℕ). sets d 0 (entries_from n s p (after_headings n s p))) (sym (ap (field_next 0) e))
    ∙ ap (λ (m : ℕ). sets d 0 (entries_of s m)) (sym h.0))
    c.contents.ensures.count_value
