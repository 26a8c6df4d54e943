-- Document 01's own sheet, and that of its card above the benchmark, from the rows of the cards, and its two refusals. What the cards, their
-- rows and their books are is cited.
-- Assumes nothing.
use Rattle.std.proofs.Common.{◌≡◌, refl, sym, ap, ap₂, ◌∙◌, List, [], ◌∷◌, ◌++◌, ℕ, zero, suc, lit≤, ℤ, pos, negsuc, length, take, drop, replicate}
use Rattle.decimal.specs.Decimal.{most_digits, signed_text}
use Rattle.decimal.proofs.Digits.{digits_into, digits_into_lem}
use Rattle.card.specs.declared.Card.{Card}
use Rattle.card.specs.Card as card
use Rattle.card_list.specs.List.{card_of}
use Rattle.runoff.specs.Rows.{row_width, row_count, rows}
use Rattle.runoff.specs.Refusal.{refusal}
use Rattle.runoff.specs.AbsoluteReadings.{falling_ramp}
use Rattle.runoff.proofs.StarredReadings.{readings}
use Rattle.runoff.proofs.AbsoluteComputed.{absolute_readings}
use Rattle.book.specs.Body.{end_of}
use Rattle.book.specs.Book.{least_list}
use Rattle.book.specs.Printed.{Curve}
use Rattle.book.specs.RampBook.{ramp, survey}
use Rattle.book.proofs.RampReads.{ramp_book, survey_book}
use Rattle.sheet_text.specs.Text.{row_text, rows_text, held_rows, ended_text, blank, refused_word, book_word, line_word, accepted_text, refused_text, refused_book_text}
use Rattle.sheet_text.specs.Sheet.{card_sheet, curves_sheet, sheet_of}
use Rattle.sheet_text.specs.RampSheet.{ramp_name, ramp_printed, survey_printed, RampSheet}
use Rattle.sheet_text.proofs.Sheets.{accepted_sheet, sheets}

-- ---- the texts as they are computed: the digits of every figure put before what stands behind them
abbrev count_into : ℕ → List ℕ → List ℕ
count_into = digits_into most_digits

ended_into : (word : List ℕ) (v : ℕ) → ended_text word v ≡ word ++ count_into v (10 ∷ [])
unfolding ended_text
ended_into word v = ap (λ (t : List ℕ). word ++ t) (digits_into_lem most_digits v (10 ∷ []))

abbrev signed_into : ℤ → List ℕ → List ℕ
signed_into (pos n) behind = count_into n behind
signed_into (negsuc n) behind = 45 ∷ count_into (suc n) behind

signed_into_lem : (z : ℤ) (behind : List ℕ) → signed_text z ++ behind ≡ signed_into z behind
unfolding signed_text
signed_into_lem (pos n) behind = digits_into_lem most_digits n behind
signed_into_lem (negsuc n) behind = ap (λ (t : List ℕ). 45 ∷ t) (digits_into_lem most_digits (suc n) behind)

abbrev row_into : List ℤ → List ℕ
row_into [] = []
row_into (z ∷ row) = signed_into z (end_of (length row) ∷ row_into row)

row_into_lem : (row : List ℤ) → row_text row ≡ row_into row
unfolding row_text
row_into_lem [] = refl
row_into_lem (z ∷ row) =
    signed_into_lem z (end_of (length row) ∷ row_text row) ∙ ap (λ (t : List ℕ). signed_into z (end_of (length row) ∷ t)) (row_into_lem row)

abbrev rows_into : ℕ → List ℤ → List ℕ
rows_into zero table = []
rows_into (suc k) table = row_into (take row_width table) ++ rows_into k (drop row_width table)

rows_into_lem : (k : ℕ) (table : List ℤ) → rows_text k table ≡ rows_into k table
unfolding rows_text
rows_into_lem zero table = refl
rows_into_lem (suc k) table = ap₂ (λ (t u : List ℕ). t ++ u) (row_into_lem (take row_width table)) (rows_into_lem k (drop row_width table))

-- name and row count, then the rows
abbrev accepted_into : List ℕ → ℕ → List ℤ → List ℕ
accepted_into name count table = name ++ ((blank ++ count_into count (10 ∷ [])) ++ rows_into (held_rows count table) table)

accepted_into_lem : (name : List ℕ) (count : ℕ) (table : List ℤ) → accepted_text name count table ≡ accepted_into name count table
unfolding accepted_text
accepted_into_lem name count table =
    ap₂ (λ (t u : List ℕ). name ++ (t ++ u)) (ended_into blank count) (rows_into_lem (held_rows count table) table)

-- ---- RAMP, and the same card above the benchmark
module _ (x : Card) (e : refusal x ≡ 0) (l : List ℤ) (counted : row_count x ≡ 3) (rowed : rows x ≡ l) where
  three_rows : card_sheet ramp_name x ≡ accepted_into ramp_name 3 (l ++ [])
  three_rows =
      accepted_sheet ramp_name x e []
      ∙ accepted_into_lem ramp_name (row_count x) (rows x ++ [])
      ∙ ap₂ (λ (n : ℕ) (r : List ℤ). accepted_into ramp_name n (r ++ [])) counted rowed

-- the sheet of a book with one curve of RAMP's name, whose card has this sheet
module _ (curve : Curve) (x : Card) (printed : List ℕ) (named : curve.name ≡ ramp_name) (hands : card_of curve.numbers ≡ x) (its : card_sheet ramp_name x ≡ printed) where
  one_curve : curves_sheet (curve ∷ []) ≡ printed ++ []
  unfolding curves_sheet
  one_curve = ap (λ (t : List ℕ). t ++ []) (ap₂ card_sheet named hands ∙ its)

pub ramp_prints : RampSheet
unfolding refused_text refused_book_text
ramp_prints = record {
  sheet = λ tables long.
      let list : List ℤ = replicate least_list (pos 0) in
      ap (λ (t : List ℕ). sheet_of t list tables) (sym ramp_book.text)
      ∙ sheets.book (ramp ∷ []) list tables ramp_book.is_book (lit≤ tt) long
      ∙ one_curve ramp card.ramp ramp_printed refl ramp_book.hands
      (three_rows card.ramp readings.ramp_accepted _ readings.ramp_count readings.ramp_rows);
  survey = λ tables long.
      let list : List ℤ = replicate least_list (pos 0) in
      ap (λ (t : List ℕ). sheet_of t list tables) (sym survey_book.text)
      ∙ sheets.book (survey ∷ []) list tables survey_book.is_book (lit≤ tt) long
      ∙ one_curve survey falling_ramp survey_printed refl survey_book.hands
      (three_rows falling_ramp absolute_readings.ramp_accepted _ absolute_readings.ramp_count absolute_readings.ramp_rows);
  card = ap (λ (t : List ℕ). ramp_name ++ t) (ended_into refused_word 8);
  book =
      ap (λ (t : List ℕ). book_word ++ t)
      (digits_into_lem most_digits 24 (ended_text line_word 2) ∙ ap (λ (t : List ℕ). count_into 24 t) (ended_into line_word 2));
}
