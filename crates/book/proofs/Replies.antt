-- Replies to a text: how the lines are gone through step by step, and what an accepting reply says of its count and its text.
-- Assumes nothing.
use Rattle.std.proofs.Common.{ℕ, zero, suc, ◌+◌, ◌-◌, ◌*◌, ◌≤◌, ◌<◌, ◌≡◌, refl, sym, ap, ◌∙◌, Bool, cond, ◌&&◌, List, [], ◌∷◌, ◌++◌, arith, ℤ, length, drop, ltb, leb, eqb, leb-true, le-leb, lt-ltb, le-ltb, ltb-false, eq-eqb, ne_eqb, Some, None, Ok, Err}
use mathlib.Core.Bool.{and-eq-true_iff}
use Rattle.decimal.proofs.Choices.{cond_case}
use Rattle.card_list.specs.List.{curve_width}
use Rattle.book.specs.Number.{number_at, Field}
use Rattle.book.specs.Contents.{contents_line, Line}
use Rattle.book.specs.Body.{front_numbers, body_from}
use Rattle.book.specs.Book.{fault_number, most_curves, most_bytes, least_list, refused_of, accepted_of, line_then, bodies_from, contents_from, count_then, text_reply, reply_to_book, entries_of, list_by, list_after, BookReply}
use Rattle.book.specs.declared.Fault.{Fault}
use Rattle.book.specs.declared.Fault.TheVariants.{BookSize, CountLine, ContentsLine, WrongLine, TwinName, Body, Tail, ShortList}

module _ (text : List ℕ) (n i at : ℕ) where
  -- one body, and what follows it
  pub bodies_turn : {l : Line} → i < n → body_from front_numbers text at ≡ l
      → bodies_from (n - i) text n i at ≡ line_then l (n + i + 2) (bodies_from (n - (i + 1)) text n (i + 1))
  unfolding bodies_from
  bodies_turn h e =
      let k : n - i ≡ suc (n - (i + 1)) = omega arith in
      ap (λ (m : ℕ). bodies_from m text n i at) k ∙ ap (λ (l : Line). line_then l (n + i + 2) (bodies_from (n - (i + 1)) text n (i + 1))) e

  bodies_end : n ≤ i → bodies_from (n - i) text n i at ≡ cond (eqb at (length text)) (accepted_of n) (refused_of 27 (2 * n + 2))
  unfolding bodies_from
  bodies_end h =
      let k : n - i ≡ 0 = omega arith in
      ap (λ (m : ℕ). bodies_from m text n i at) k

  -- the last one ends the text
  pub bodies_accept : n ≤ i → at ≡ length text → bodies_from (n - i) text n i at ≡ accepted_of n
  bodies_accept h e = bodies_end h ∙ ap (λ (b : Bool). cond b (accepted_of n) (refused_of 27 (2 * n + 2))) (eq-eqb _ _ e)

  -- 27: it does not
  pub bodies_tail : n ≤ i → (at ≡ length text → ⊥) → bodies_from (n - i) text n i at ≡ refused_of 27 (n + n + 2)
  bodies_tail h e =
      let k : 2 * n + 2 ≡ n + n + 2 = omega arith in
      bodies_end h ∙ ap (λ (b : Bool). cond b (accepted_of n) (refused_of 27 (2 * n + 2))) (ne_eqb _ _ e) ∙ ap (refused_of 27) k

-- the names of the i contents lines before stand at the places `earlier`
module _ (text : List ℕ) (n i : ℕ) (earlier : List ℕ) (at : ℕ) where
  -- after the last contents line come the bodies
  pub contents_end : n ≤ i → contents_from (n - i) text n earlier at ≡ bodies_from n text n 0 at
  unfolding contents_from
  contents_end h =
      let k : n - i ≡ 0 = omega arith in
      ap (λ (m : ℕ). contents_from m text n earlier at) k

  -- one contents line, and what follows it
  pub contents_turn : {l : Line} → i < n → length earlier ≡ i → contents_line text earlier at (n + i + 2) ≡ l
      → contents_from (n - i) text n earlier at ≡ line_then l (i + 2) (contents_from (n - (i + 1)) text n (earlier ++ (at ∷ [])))
  unfolding contents_from
  contents_turn some size e =
      let k : n - i ≡ suc (n - (i + 1)) = omega arith in
      ap (λ (m : ℕ). contents_from m text n earlier at) k
      ∙ ap (λ (m : ℕ). line_then (contents_line text earlier at (n + m + 2)) (m + 2) (contents_from (n - (i + 1)) text n (earlier ++ (at ∷ [])))) size
      ∙ ap (λ (l : Line). line_then l (i + 2) (contents_from (n - (i + 1)) text n (earlier ++ (at ∷ [])))) e

module _ (text : List ℕ) where
  module _ (some : length text ≡ 0 → ⊥) where
    module _ (short : length text ≤ most_bytes) where
      text_count : text_reply text ≡ count_then text (number_at text 0 10)
      unfolding text_reply
      text_count = simp (ne_eqb _ _ some, le-ltb _ _ short)

      module _ {n next : ℕ} (e : number_at text 0 10 ≡ Some (n, next)) where
        -- else the contents follow
        pub text_good : 1 ≤ n → n ≤ most_curves → text_reply text ≡ contents_from n text n [] next
        text_good l h = text_count ∙ ap (count_then text) e ∙ simp (le-leb _ _ l, le-leb _ _ h)

-- what holds after a line that was read, and of a line at fault
pub line_case : (P : BookReply → Type 0) (l : Line) (line : ℕ) (go : ℕ → BookReply) → ((p : ℕ) → l ≡ Ok p → P (go p))
    → ((f : Fault) → l ≡ Err f → P (refused_of (fault_number f) line)) → P (line_then l line go)
line_case P (Ok p) line go f g = f p refl
line_case P (Err m) line go f g = g m refl

-- what holds of every refusal, and of acceptance with at most 64 curves, holds of what the lines of a text are answered
module _ (P : BookReply → Type 0) (refused : (number line : ℕ) → P (refused_of number line)) where
  bodies_hold : (k : ℕ) (text : List ℕ) (n i at : ℕ) → P (accepted_of n) → P (bodies_from k text n i at)
  unfolding bodies_from
  bodies_hold zero text n i at h = cond_case P (eqb at (length text)) _ _ (λ t. h) (λ t. refused 27 (2 * n + 2))
  bodies_hold (suc k) text n i at h =
      line_case P (body_from front_numbers text at) (n + i + 2) _ (λ p e. bodies_hold k text n (i + 1) p h) (λ f e. refused (fault_number f) (n + i + 2))

  contents_hold : (k : ℕ) (text : List ℕ) (n : ℕ) (earlier : List ℕ) (at : ℕ) → P (accepted_of n) → P (contents_from k text n earlier at)
  unfolding contents_from
  contents_hold zero text n earlier at h = bodies_hold n text n 0 at h
  contents_hold (suc k) text n earlier at h =
      line_case P (contents_line text earlier at (n + length earlier + 2)) (length earlier + 2) _
      (λ p e. contents_hold k text n (earlier ++ (at ∷ [])) p h) (λ f e. refused (fault_number f) (length earlier + 2))

  lines_hold : (text : List ℕ) (f : Field) → ((n : ℕ) → n ≤ most_curves → P (accepted_of n)) → P (count_then text f)
  lines_hold text None h = refused 22 1
  lines_hold text (Some (n, next)) h =
      cond_case P (leb 1 n && leb n most_curves) _ _
      (λ t. contents_hold n text n [] next (h n (leb-true n most_curves ((and-eq-true_iff (leb 1 n) (leb n most_curves)).0 t).1)))
      (λ t. refused 22 1)

-- the count of a reply is at most 64, of a refusal 0, and an accepted text has at most 8192 bytes
pub record Within (text : List ℕ) (r : BookReply) : Type 0 where
  pub few : r.count ≤ most_curves
  pub nought : (r.number ≡ 0 → ⊥) → r.count ≡ 0
  pub short : r.number ≡ 0 → length text ≤ most_bytes

refused_within : (text : List ℕ) (number line : ℕ) → (number ≡ 0 → length text ≤ most_bytes) → Within text (refused_of number line)
refused_within text number line h = record { few = omega arith; nought = λ z. refl; short = h }

text_within : (text : List ℕ) → Within text (text_reply text)
unfolding text_reply
text_within text =
    cond_case (Within text) (eqb (length text) 0) _ _
    (λ t. refused_within text 21 0 (λ z. absurd (omega arith)))
    (λ t. cond_case (Within text) (ltb most_bytes (length text)) _ _
    (λ u. refused_within text 21 0 (λ z. absurd (omega arith)))
    (λ u. lines_hold (Within text) (λ number line. refused_within text number line (λ z. ltb-false _ _ u)) text (number_at text 0 10)
    (λ n few. record { few = few; nought = λ h. absurd (h refl); short = λ z. ltb-false _ _ u })))

pub reply_within : (text : List ℕ) (room : ℕ) → Within text (reply_to_book text room)
unfolding reply_to_book
reply_within text room =
    cond_case (Within text) (ltb room least_list) _ _ (λ t. refused_within text 28 0 (λ z. absurd (omega arith))) (λ t. text_within text)

-- no fault has number 0
pub fault_some : (fault : Fault) → 0 < fault_number fault
fault_some BookSize = omega arith
fault_some CountLine = omega arith
fault_some ContentsLine = omega arith
fault_some WrongLine = omega arith
fault_some TwinName = omega arith
fault_some Body = omega arith
fault_some Tail = omega arith
fault_some ShortList = omega arith

module _ (text : List ℕ) where
  -- 28: a list that is too short
  pub reply_short : (room : ℕ) → room < least_list → reply_to_book text room ≡ refused_of 28 0
  unfolding reply_to_book
  reply_short room h = simp (lt-ltb _ _ h)

  -- else the text is answered
  pub reply_text : (room : ℕ) → least_list ≤ room → reply_to_book text room ≡ text_reply text
  unfolding reply_to_book
  reply_text room h = simp (le-ltb _ _ h)

module _ (text : List ℕ) (list : List ℤ) where
  -- a refused book leaves the list untouched
  pub list_kept : ((reply_to_book text (length list)).number ≡ 0 → ⊥) → list_after text list ≡ list
  unfolding list_after
  list_kept z = simp (ne_eqb _ _ z)

  module _ (r : BookReply) (e : r ≡ text_reply text) (long : least_list ≤ length list) where
    list_by_lem : list_after text list ≡ list_by r text list
    unfolding list_after
    list_by_lem = ap (λ (q : BookReply). list_by q text list) (reply_text text (length list) long ∙ sym e)

    -- an accepted one fills it
    pub list_filled : r.number ≡ 0 → list_after text list ≡ entries_of text r.count ++ drop (curve_width * r.count) list
    list_filled z = list_by_lem ∙ simp (eq-eqb _ _ z)
