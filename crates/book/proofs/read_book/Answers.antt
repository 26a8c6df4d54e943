-- `book::read_book` meets its contract.
-- Assumes nothing.
use Rattle.std.proofs.Common.{Err, ◌*◌, ◌++◌, List, ap, arith, drop, length, refl, rules, sym, ℤ, ◌∙◌, ◌≡◌}
use Rattle.card_list.specs.List.{curve_width}
use Rattle.book.proofs.Replies.{fault_some, list_filled, list_kept, reply_short, reply_text}
use Rattle.book.proofs.Stores.{drafted}
use Rattle.book.specs.Book.{BookReply, told_book, accepted_of, reply_to_book}
use Rattle.book.specs.declared.BookRefusal.{BookRefusal}
use Rattle.book.proofs.read_book.Goals as goal

pub returns-then-list-lt-LEAST_LIST-clause-value : goal.returns-then-list-lt-LEAST_LIST-clause-value
returns-then-list-lt-LEAST_LIST-clause-value c = ap (λ (r : BookRefusal). told_book (Err r)) c.at_line.ensures ∙ sym (reply_short c.args.text.now _ c.if-list-lt-LEAST_LIST.true)

pub returns-then-list-lt-LEAST_LIST-clause-list_after : goal.returns-then-list-lt-LEAST_LIST-clause-list_after
returns-then-list-lt-LEAST_LIST-clause-list_after c =
    let a = c.args in
    let short = reply_short a.text.now _ c.if-list-lt-LEAST_LIST.true in
    let number : (reply_to_book a.text.now (length a.list.now)).number ≡ 28 = ap (λ (r : BookReply). r.number) short in
    sym (list_kept a.text.now a.list.now (λ z. omega arith))

pub returns-in_err-curves-clause-list_after : goal.returns-in_err-curves-clause-list_after
returns-in_err-curves-clause-list_after c =
    let a = c.args in
    let e = c.in_err-curves.ensures.value ∙ sym (reply_text a.text.now _ c.if-list-lt-LEAST_LIST.false) in
    let number = ap (λ (r : BookReply). r.number) e in
    sym (list_kept a.text.now a.list.now (λ z. omega (arith, fault_some c.in_err-curves.field-0.0.fault, number)))

pub returns-in_err-curves-clause-value : goal.returns-in_err-curves-clause-value
returns-in_err-curves-clause-value c = rw (reply_text c.args.text.now _ c.if-list-lt-LEAST_LIST.false) (search rules)

pub returns-clause-value : goal.returns-clause-value
returns-clause-value c = c.in_ok-curves.ensures.value ∙ sym (reply_text c.args.text.now _ c.if-list-lt-LEAST_LIST.false)

pub returns-clause-list_after : goal.returns-clause-list_after
returns-clause-list_after c =
    let a = c.args in
    let n = c.in_ok-curves.curves in
    let e = c.in_ok-curves.ensures.value in
    ap (λ (r : List ℤ). r ++ drop (curve_width * n) a.list.now) c.copy_from_slice.ensures.after
    ∙ drafted a.text.now n _ c.text_reply.new.draft a.list.now c.in_ok-curves.ensures.few (omega arith) c.in_ok-curves.ensures.draft_after
    ∙ sym (list_filled a.text.now a.list.now (accepted_of n) e c.if-list-lt-LEAST_LIST.false refl)
