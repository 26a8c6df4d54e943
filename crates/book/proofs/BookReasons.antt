-- What each number of a reply means, and that a refusal counts nought and keeps the list.
-- Assumes nothing.
use Rattle.std.proofs.Common.{ℕ, ◌≤◌, ◌≡◌, refl, sym, subst, Bool, cond, List, ltb, ltb-true, ltb-false, ne_eqb}
use Rattle.decimal.proofs.Choices.{cond_case}
use Rattle.book.specs.Book.{least_list, refused_of, text_reply, reply_to_book, BookReply}
use Rattle.book.specs.Reasons.{ShortList, SaysOfText, Says, ReasonsTheorem}
use Rattle.book.proofs.LineMeaning.{line_theorem}
use Rattle.book.proofs.Replies.{reply_within, list_kept}
use Rattle.book.proofs.Walks.{text_meant}

-- a text is never answered 28
roomy : (text : List ℕ) (room : ℕ) (r : BookReply) → least_list ≤ room → SaysOfText text r.line r.number → Says text room r.line r.number
roomy text room r enough says =
    let not28 : r.number ≡ 28 → ⊥ = λ e. (subst (SaysOfText text r.line) e says).1 in
    subst (λ (b : Bool). cond b (ShortList room r.line) ((least_list ≤ room) × SaysOfText text r.line r.number)) (sym (ne_eqb _ _ not28)) (enough, says)

says_what : (text : List ℕ) (room : ℕ) → Says text room (reply_to_book text room).line (reply_to_book text room).number
unfolding reply_to_book
says_what text room =
    cond_case (λ (r : BookReply). Says text room r.line r.number) (ltb room least_list) (refused_of 28 0) (text_reply text)
    (λ t. record { short = ltb-true _ _ t; place = refl })
    (λ t. roomy text room (text_reply text) (ltb-false _ _ t) (text_meant line_theorem text))

pub reasons : ReasonsTheorem
reasons = record {
  says = says_what;
  nought = λ text room. (reply_within text room).nought;
  kept = list_kept;
  few = λ text room. (reply_within text room).few;
}
