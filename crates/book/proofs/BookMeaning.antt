-- What the definitions of a book mean.
-- Assumes nothing.
use Rattle.std.proofs.Common.{ℕ, ◌+◌, ◌*◌, ◌≤◌, ◌≡◌, refl, sym, ap, ◌∙◌, subst, List, [], ◌++◌, arith, ℤ, pos, length, drop, replicate, ltb, ltb-false, Some}
use lib.ListN.{length-replicate}
use Rattle.decimal.proofs.Choices.{cond_case}
use Rattle.card_list.specs.List.{curve_width}
use Rattle.book.specs.Number.{number_at, field_next}
use Rattle.book.specs.Book.{least_list, accepted_of, refused_of, bodies_from, contents_from, text_reply, reply_to_book, after_headings, entries_from, entries_of, list_after, first_heading, BookReply}
use Rattle.book.specs.Printed.{IsBook, IsNumber, Curve, contents_texts, names_of, bodies_of, book_text}
use Rattle.book.specs.LineMeaning.{Stands, LineTheorem}
use Rattle.book.specs.Meaning.{book_entries, curves_in, TextOfBook, MeaningTheorem}
use Rattle.book.specs.Reasons.{SaysOfText}
use Rattle.book.proofs.LineMeaning.{line_theorem}
use Rattle.book.proofs.Replies.{text_good, reply_text, list_filled}
use Rattle.book.proofs.Lists.{named_none}
use Rattle.book.proofs.Walks.{text_meant}
use Rattle.book.proofs.Accepts.{headings_there, contents_there, bodies_there, entries_there}
use Rattle.book.proofs.BookText.{names_length, bodies_length, book_most, book_some, contents_place, bodies_place, count_stands, contents_stand, bodies_stand, curves_read}

module _ (lines : LineTheorem) where
  -- the text of the curves of a book
  module _ (curves : List Curve) (book : IsBook curves) where
    abbrev n : ℕ
    n = length curves

    abbrev text : List ℕ
    text = book_text curves

    few : n ≤ 64
    few = book.few

    count_there : number_at text 0 10 ≡ Some (n, contents_place curves)
    count_there =
        let small : IsNumber n = omega (arith, few) in
        lines.number_reads text 0 10 n (contents_place curves) refl small (count_stands curves)

    contents_read : contents_from n text n [] (contents_place curves) ≡ bodies_from n text n 0 (bodies_place curves)
    contents_read =
        let line : n + 2 ≡ n + 0 + 2 = omega arith in
        ap (λ (k : ℕ). contents_from k text n [] (contents_place curves)) (sym (names_length curves))
        ∙ contents_there lines text (names_of curves) [] n [] (contents_place curves) (bodies_place curves) book.names (named_none text) few
        (omega (arith, names_length curves)) book.twins
        (subst (λ (k : ℕ). Stands text (contents_place curves) (contents_texts k (names_of curves)) (bodies_place curves)) line (contents_stand curves))

    bodies_read : bodies_from n text n 0 (bodies_place curves) ≡ accepted_of n
    bodies_read =
        ap (λ (k : ℕ). bodies_from k text n 0 (bodies_place curves)) (sym (bodies_length curves))
        ∙ bodies_there lines text (bodies_of curves) n 0 (bodies_place curves) book.bodies (bodies_stand curves)

    text_accepted : text_reply text ≡ accepted_of n
    text_accepted = text_good text (book_some curves) (omega (arith, book_most curves book)) count_there book.some few ∙ contents_read ∙ bodies_read

    entries_given : entries_of text n ≡ book_entries curves
    unfolding entries_of
    entries_given =
        let first : first_heading text ≡ contents_place curves = ap (field_next 0) count_there in
        let after : after_headings n text (contents_place curves) ≡ bodies_place curves =
        ap (λ (k : ℕ). after_headings k text (contents_place curves)) (sym (names_length curves))
        ∙ headings_there lines text (names_of curves) (contents_place curves) (n + 2) (bodies_place curves) book.names
        (omega (arith, names_length curves, few)) (contents_stand curves) in
        ap (λ (p : ℕ). entries_from n text p (after_headings n text p)) first
        ∙ ap (entries_from n text (contents_place curves)) after
        ∙ entries_there lines text curves (contents_place curves) (n + 2) (bodies_place curves) (bodies_place curves) (length text)
        book.names book.bodies (omega (arith, few)) (contents_stand curves) (bodies_stand curves)

    reply_accepted : (list : List ℤ) → least_list ≤ length list → reply_to_book text (length list) ≡ accepted_of n
    reply_accepted list h = reply_text text (length list) h ∙ text_accepted

    list_given : (list : List ℤ) → least_list ≤ length list → list_after text list ≡ book_entries curves ++ drop (curve_width * n) list
    list_given list h =
        list_filled text list (accepted_of n) (sym text_accepted) h refl
        ∙ ap (λ (l : List ℤ). l ++ drop (curve_width * n) list) entries_given

    curves_given : (rest : List ℤ) → curves_in n text (book_entries curves ++ rest) ≡ curves
    curves_given rest = curves_read text curves (contents_place curves) (n + 2) (bodies_place curves) rest book.bodies (contents_stand curves)

  only_books : (text : List ℕ) (list : List ℤ) → (reply_to_book text (length list)).number ≡ 0 → (least_list ≤ length list) × TextOfBook text
  unfolding reply_to_book
  only_books text list =
      cond_case (λ (r : BookReply). r.number ≡ 0 → (least_list ≤ length list) × TextOfBook text) (ltb (length list) least_list) (refused_of 28 0) (text_reply text)
      (λ t e. absurd (omega arith))
      (λ t e. (ltb-false _ _ t, (subst (SaysOfText text (text_reply text).line) e (text_meant lines text)).1))

  -- one text gives one list, and the list the curves
  one_book : (curves others : List Curve) → IsBook curves → IsBook others → book_text curves ≡ book_text others → curves ≡ others
  one_book curves others book other same =
      let list : List ℤ = replicate least_list (pos 0) in
      let room : least_list ≤ length list = omega (arith, length-replicate {A = ℤ} least_list (pos 0)) in
      let count : length curves ≡ length others =
      ap (λ (r : BookReply). r.count)
      (sym (reply_accepted curves book list room) ∙ ap (λ (t : List ℕ). reply_to_book t (length list)) same ∙ reply_accepted others other list room) in
      let filled : book_entries curves ++ drop (curve_width * length curves) list ≡ book_entries others ++ drop (curve_width * length others) list =
      sym (list_given curves book list room) ∙ ap (λ (t : List ℕ). list_after t list) same ∙ list_given others other list room in
      sym (curves_given curves book (drop (curve_width * length curves) list))
      ∙ (λ i. curves_in (count i) (same i) (filled i))
      ∙ curves_given others other (drop (curve_width * length others) list)

  meaning_by : MeaningTheorem
  meaning_by = record {
    accepted = λ curves book list h. (reply_accepted curves book list h, list_given curves book list h);
    only = only_books;
    given = curves_given;
    one = one_book;
    most = book_most;
    short = omega arith;
  }

pub meaning : MeaningTheorem
meaning = meaning_by line_theorem
