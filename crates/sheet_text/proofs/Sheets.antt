-- The sheet of a book: what the calls give for each of its curves, that no curve needs more bytes than stated, and the whole sheet.
-- Assumes nothing.
use Rattle.std.proofs.Common.{ℕ, zero, suc, ◌*◌, ◌≤◌, ◌<◌, ◌≡◌, refl, sym, ap, ap₂, ◌∙◌, subst, List, [], ◌∷◌, ◌++◌, append-nil, append_assoc, arith, eqb, ℤ, length, drop, length-append, eqb-true, ne_eqb}
use Rattle.std.proofs.lemmas.Bool.{eqb-false}
use Rattle.decimal.specs.Decimal.{most_digits}
use Rattle.decimal.proofs.Choices.{cond_case}
use Rattle.decimal.proofs.Digits.{digits_most}
use Rattle.card.specs.declared.Card.{Card}
use Rattle.runoff.specs.Rows.{row_count, row_width, rows}
use Rattle.runoff.specs.Refusal.{refusal}
use Rattle.runoff.specs.Table.{reply_to, table_after}
use Rattle.runoff.proofs.Accepts.{accepted_rule}
use Rattle.runoff.proofs.Replies.{refused, filled}
use Rattle.runoff.proofs.RowBlocks.{all_rows, length-rows}
use Rattle.book.specs.Book.{BookReply, least_list, reply_to_book, list_after}
use Rattle.book.specs.Printed.{Curve, IsName, IsBook, book_text}
use Rattle.book.proofs.BookMeaning.{meaning}
use Rattle.book.proofs.BookReasons.{reasons}
use Rattle.book.proofs.HandedCards.{handed_cards, own_part}
use Rattle.sheet_text.specs.Text.{blank, refused_word, line_word, held_rows, ended_text, accepted_text, refused_text, refused_book_text, curve_text, book_line}
use Rattle.sheet_text.specs.Sheet.{row_lines, card_sheet, curve_sheet, curves_sheet, enough_numbers, enough_bytes, part_of, parts_of, sheet_of, SheetTheorem}
use Rattle.sheet_text.proofs.SheetLaws.{lines_there, ended_short, lines_short}

-- ---- a curve
module _ (name : List ℕ) (card : Card) where
  -- name and row count, then the rows
  abbrev rows_sheet : List ℕ
  rows_sheet = name ++ (ended_text blank (row_count card) ++ row_lines card (row_count card))

  -- the rows, and whatever stands behind them in the table
  rows_text_lem : (rest : List ℤ) → accepted_text name (row_count card) (rows card ++ rest) ≡ rows_sheet
  unfolding accepted_text
  rows_text_lem rest =
      let held : held_rows (row_count card) (rows card ++ rest) ≡ row_count card = omega (arith, length-append (rows card) rest, length-rows card) in
      rw (held, ← all_rows card, lines_there card (row_count card) rest)

  -- an accepted card's sheet, printed from its rows
  pub accepted_sheet : refusal card ≡ 0 → (rest : List ℤ) → card_sheet name card ≡ accepted_text name (row_count card) (rows card ++ rest)
  unfolding card_sheet
  accepted_sheet passes rest = rw passes (sym (rows_text_lem rest))

  module _ (table : List ℤ) (long : enough_numbers ≤ length table) where
    abbrev given : List ℕ
    given = curve_text name (reply_to card (length table)) (table_after card table)

    given_rows : refusal card ≡ 0 → given ≡ rows_sheet
    given_rows passes =
        let room : row_width * row_count card ≤ length table = omega (arith, (accepted_rule card).few passes) in
        let due = filled card table passes refl room refl in
        sym (ap₂ (curve_text name) due.0 due.1.0) ∙ rows_text_lem (drop (row_width * row_count card) table)

    given_refused : (refusal card ≡ 0 → ⊥) → given ≡ refused_text name (refusal card)
    given_refused ne =
        let due = refused card table refl ne in
        sym (ap₂ (curve_text name) due.0 due.1.0) ∙ rw (ne_eqb (refusal card) 0 ne)

    given_sheet : given ≡ card_sheet name card
    unfolding card_sheet
    given_sheet =
        cond_case (λ (t : List ℕ). given ≡ t) (eqb (refusal card) 0) rows_sheet (refused_text name (refusal card))
        (λ t. given_rows (eqb-true _ _ t))
        (λ t. given_refused (eqb-false _ _ t))

  -- a name of at most 8 bytes, the count, and at most 301 rows; or a refusal
  sheet_short : length name ≤ 8 → length (card_sheet name card) ≤ enough_bytes
  unfolding card_sheet refused_text
  sheet_short short =
      cond_case (λ (t : List ℕ). length t ≤ enough_bytes) (eqb (refusal card) 0) rows_sheet (refused_text name (refusal card))
      (λ t. simp length-append
      (omega (arith, ended_short blank (row_count card), lines_short card (row_count card), (accepted_rule card).few (eqb-true _ _ t))))
      (λ t. simp length-append (omega (arith, ended_short refused_word (refusal card))))

-- ---- a book
line_short : (reply : BookReply) → length (book_line reply) ≤ enough_bytes
unfolding refused_book_text
line_short reply =
    cond_case (λ (t : List ℕ). length t ≤ enough_bytes) (eqb reply.number 0) [] (refused_book_text reply.number reply.line)
    (λ t. omega arith)
    (λ t. simp length-append (omega (arith, digits_most most_digits reply.number, ended_short line_word reply.line)))

-- each curve that stands in a book, by the calls
part_sheet : (before : List Curve) (curve : Curve) (later : List Curve) (list table : List ℤ)
    → IsBook (before ++ (curve ∷ later)) → least_list ≤ length list → enough_numbers ≤ length table
    → part_of (book_text (before ++ (curve ∷ later))) (list_after (book_text (before ++ (curve ∷ later))) list) (length before) table ≡ curve_sheet curve
part_sheet before curve later list table book room long =
    let hands = handed_cards before curve later list book room in
    given_sheet _ _ table long ∙ ap₂ card_sheet hands.name hands.card

-- one curve more at the end
sheet_more : (before : List Curve) (curve : Curve) → curves_sheet (before ++ (curve ∷ [])) ≡ curves_sheet before ++ curve_sheet curve
unfolding curves_sheet
sheet_more [] curve = append-nil (curve_sheet curve)
sheet_more (first ∷ before) curve =
    ap (λ (t : List ℕ). curve_sheet first ++ t) (sheet_more before curve) ∙ sym (append_assoc (curve_sheet first) (curves_sheet before) (curve_sheet curve))

module _ (list : List ℤ) (tables : ℕ → List ℤ) (room : least_list ≤ length list) (long : (k : ℕ) → enough_numbers ≤ length (tables k)) where
  abbrev parts : List Curve → ℕ → List ℕ
  parts curves = parts_of (book_text curves) (list_after (book_text curves) list) tables

  -- one curve more
  next_part : (before : List Curve) (curve : Curve) (later curves : List Curve) → curves ≡ before ++ (curve ∷ later) → IsBook curves
      → parts curves (length before) ≡ curves_sheet before → parts curves (length (before ++ (curve ∷ []))) ≡ curves_sheet (before ++ (curve ∷ []))
  unfolding parts_of
  next_part before curve later curves e book so_far =
      let table : List ℤ = tables (length before) in
      let one : length (before ++ (curve ∷ [])) ≡ suc (length before) = omega (arith, length-append before (curve ∷ [])) in
      let here : part_of (book_text curves) (list_after (book_text curves) list) (length before) table ≡ curve_sheet curve =
      subst (λ (l : List Curve). IsBook l → part_of (book_text l) (list_after (book_text l) list) (length before) table ≡ curve_sheet curve) (sym e)
      (λ b. part_sheet before curve later list table b room (long (length before))) book in
      ap (parts curves) one ∙ ap₂ (λ (t u : List ℕ). t ++ u) so_far here ∙ sym (sheet_more before curve)

  -- the curves up to a place of a book, and then the others one by one
  parts_sheet : (before later curves : List Curve) → curves ≡ before ++ later → IsBook curves → parts curves (length before) ≡ curves_sheet before
      → parts curves (length curves) ≡ curves_sheet curves
  parts_sheet before [] curves e book so_far =
      let all : curves ≡ before = e ∙ append-nil before in
      ap (λ (l : List Curve). parts curves (length l)) all ∙ so_far ∙ ap curves_sheet (sym all)
  parts_sheet before (curve ∷ later) curves e book so_far =
      parts_sheet (before ++ (curve ∷ [])) later curves (e ∙ sym (append_assoc before (curve ∷ []) later)) book
      (next_part before curve later curves e book so_far)

book_sheet : (curves : List Curve) (list : List ℤ) (tables : ℕ → List ℤ) → IsBook curves → least_list ≤ length list
    → ((k : ℕ) → enough_numbers ≤ length (tables k)) → sheet_of (book_text curves) list tables ≡ curves_sheet curves
unfolding sheet_of parts_of curves_sheet
book_sheet curves list tables book room long =
    ap (λ (r : BookReply). book_line r ++ parts list tables room long curves r.count) (meaning.accepted curves book list room).0
    ∙ parts_sheet list tables room long [] curves curves refl book refl

refused_sheet : (text : List ℕ) (list : List ℤ) (tables : ℕ → List ℤ) → ((reply_to_book text (length list)).number ≡ 0 → ⊥)
    → sheet_of text list tables ≡ book_line (reply_to_book text (length list))
unfolding sheet_of parts_of
refused_sheet text list tables ne =
    let line : List ℕ = book_line (reply_to_book text (length list)) in
    ap (λ (n : ℕ). line ++ parts_of text (list_after text list) tables n) (reasons.nought text (length list) ne)
    ∙ append-nil line

-- ---- how long the text of a curve is, whatever text is read
-- the curve at a place, counted from 0
record Placed (curves : List Curve) (i : ℕ) : Type 0 where
  before : List Curve
  curve : Curve
  later : List Curve
  same : curves ≡ before ++ (curve ∷ later)
  place : length before ≡ i

placed : (curves : List Curve) (i : ℕ) → i < length curves → Placed curves i
placed [] i h = absurd (omega arith)
placed (first ∷ curves) zero h = record { before = []; curve = first; later = curves; same = refl; place = refl }
placed (first ∷ curves) (suc i) h =
    let p = placed curves i (omega arith) in
    record {
      before = first ∷ p.before;
      curve = p.curve;
      later = p.later;
      same = ap (λ (l : List Curve). first ∷ l) p.same;
      place = ap suc p.place;
    }

module _ (list table : List ℤ) (long : enough_numbers ≤ length table) where
  abbrev part_in : List ℕ → ℕ → List ℕ
  part_in text i = part_of text (list_after text list) i table

  book_fits : (curves : List Curve) → IsBook curves → least_list ≤ length list → (i : ℕ) → i < length curves
      → length (part_in (book_text curves) i) ≤ enough_bytes
  book_fits curves book room i h =
      let p = placed curves i h in
      let is = subst IsBook p.same book in
      let name = own_part IsName (λ (c : Curve). c.name) p.before p.curve p.later is.names in
      let here = part_sheet p.before p.curve p.later list table is room long in
      let short = subst (λ (t : List ℕ). length t ≤ enough_bytes) (sym here) (sheet_short _ _ name.short) in
      subst (λ (l : List Curve). length (part_in (book_text l) i) ≤ enough_bytes) (sym p.same)
      (subst (λ (k : ℕ). length (part_in (book_text (p.before ++ (p.curve ∷ p.later))) k) ≤ enough_bytes) p.place short)

  -- a reply that counts a curve is that to a book
  text_fits : (text : List ℕ) (i : ℕ) → i < (reply_to_book text (length list)).count → length (part_in text i) ≤ enough_bytes
  text_fits text i h =
      let reply = reply_to_book text (length list) in
      let accepted : reply.number ≡ 0 =
      cond_case (λ (u : Unit {0}). reply.number ≡ 0) (eqb reply.number 0) tt tt (λ t. eqb-true _ _ t)
      (λ t. absurd (omega (arith, reasons.nought text (length list) (eqb-false _ _ t)))) in
      let room = (meaning.only text list accepted).0 in
      let found = (meaning.only text list accepted).1 in
      let curves = found.curves in
      let count = ap (λ (r : BookReply). r.count) (meaning.accepted curves found.book list room).0 in
      subst (λ (t : List ℕ). i < (reply_to_book t (length list)).count → length (part_in t i) ≤ enough_bytes) (sym found.same)
      (λ l. book_fits curves found.book room i (omega (arith, count, l))) h

pub sheets : SheetTheorem
sheets = record {
  curve = given_sheet;
  part = part_sheet;
  book = book_sheet;
  refused = refused_sheet;
  fits = λ text list curve table counted long. text_fits list table long text curve counted;
  line = line_short;
}
