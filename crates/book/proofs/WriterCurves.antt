-- The curves of a list one by one, as the writer goes through them: their names, their keys and their sizes.
-- Assumes nothing.
use Prim.Native.Nat.{ℕ, zero, suc, ◌+◌, ◌-◌, ◌≤◌, ◌<◌}
use mathlib.Core.Path.{◌≡◌, refl, sym, ap, ap₂, ◌∙◌}
use mathlib.Core.Bool.{Bool, true, false, cond, ◌||◌}
use mathlib.Core.List.{List, [], ◌∷◌, ◌++◌, map, map-append}
use native.Mathlib.Omega.{arith}
use native.Mathlib.Numerals.{add-one}
use lib.IntN.{ℤ, pos}
use lib.ListN.{length, get_or, take, drop, set, drop_of_length-le, length-append, length-drop}
use Rattle.std.proofs.lemmas.List.{take_all, length-map}
use lib.Seq.{drop-cons, get_or-take, take-suc, take-suc-set, take-take}
use Rattle.std.specs.Simd.{first_chunks}
use Rattle.std.specs.Prelude.{None, Some, Option, MatchOption}
use Rattle.std.specs.Array.{IsWholeChunk}
use denote.Ref.{Bor}
use Rattle.std.proofs.lemmas.Option.{MatchOption-at_some, none-some, same_Some}
use Rattle.card_list.specs.declared.NamePlace.{NamePlace}
use Rattle.card_list.specs.List.{curve_width, name_place_of, name_place_in, name_bytes}
use Rattle.decimal.specs.Decimal.{count_text}
use Rattle.decimal.proofs.Choices.{or-none}
use Rattle.book.specs.Body.{card_numbers}
use Rattle.book.specs.Book.{most_curves}
use Rattle.book.specs.Printed.{IsNumber, number_text, contents_text, contents_texts, body_text, body_texts, book_text, names_of, bodies_of}
use Rattle.book.specs.Meaning.{curve_in, curves_in}
use Rattle.book.specs.Writing.{is_wrong, some_wrong, is_unfit, some_unfit}
use Rattle.book.specs.WriterSteps.{place_key, key_read, any_wrong, keys_of, KeysRead, body_size, cards_in, contents_left, bodies_left, Sizes}
use Rattle.book.proofs.WriterBodies.{number_length}
use Rattle.book.proofs.WriterNames.{right_stands, name_size}

-- ---- a value that is there where a test is not met
pub some_of : {A : Type 0} (b : Bool) {x y : A} → Some y ≡ cond b None (Some x) → (b ≡ false) × (y ≡ x)
some_of true {x} {y} e = absurd (none-some y (sym e))
some_of false {x} {y} e = (refl, same_Some y x e)

pub none_of : {A : Type 0} (b : Bool) (x : A) → None ≡ cond b None (Some x) → b ≡ true
none_of true x e = refl
none_of false x e = absurd (none-some x e)

-- ---- a name as it is read
module _ (names : List ℕ) (at : NamePlace) where
  pub key_none : None ≡ key_read names at → is_wrong names at ≡ true
  unfolding key_read
  key_none e = none_of (is_wrong names at) (place_key names at) e

  pub key_some : {key : ℕ} → Some key ≡ key_read names at → (is_wrong names at ≡ false) × (key ≡ place_key names at)
  unfolding key_read
  key_some e = some_of (is_wrong names at) e

-- ---- the names of curves
-- a curve, and those behind it
curves_turn : (curves : List (List ℤ)) (i : ℕ) → i < length curves → drop i curves ≡ get_or curves i [] ∷ drop (i + 1) curves
curves_turn curves i some = drop-cons curves i [] some ∙ rw add-one

module _ (names : List ℕ) (curves : List (List ℤ)) (i : ℕ) where
  abbrev pub place_at : NamePlace
  place_at = name_place_in (get_or curves i []) 0

  module _ (some : i < length curves) where
    pub wrong_turn : any_wrong names (drop i curves) ≡ (is_wrong names place_at || any_wrong names (drop (i + 1) curves))
    unfolding any_wrong
    wrong_turn = ap (any_wrong names) (curves_turn curves i some)

    -- a key kept behind those of the names before
    pub keys_turn : (keys : List ℕ) → i < length keys → take i keys ≡ keys_of names (take i curves)
        → take (i + 1) (set keys i (place_key names place_at)) ≡ keys_of names (take (i + 1) curves)
    unfolding keys_of
    keys_turn keys room e =
        let key = place_key names place_at in
        rw (add-one, take-suc-set keys i key room, e, take-suc curves i [] some)
        (sym (map-append (λ (curve : List ℤ). place_key names (name_place_in curve 0)) (take i curves) (get_or curves i [] ∷ [])))

  -- all of them are read
  pub names_read : (keys : List ℕ) → length curves ≤ i → i ≤ length curves → any_wrong names curves ≡ any_wrong names (drop i curves)
      → take i keys ≡ keys_of names (take i curves) → KeysRead names curves (Some keys)
  unfolding any_wrong
  names_read keys h l e k =
      let n : length curves ≡ i = omega arith in (
        e ∙ ap (any_wrong names) (drop_of_length-le curves h),
        rw n k ∙ ap (keys_of names) (take_all i curves h),
      )

-- no key yet
pub keys_none : (names : List ℕ) → [] ≡ keys_of names []
unfolding keys_of
keys_none names = refl

-- each name is right where none is wrong
pub right_at : (names : List ℕ) (curves : List (List ℤ)) (i : ℕ) → any_wrong names curves ≡ false → i < length curves → is_wrong names (place_at names curves i) ≡ false
unfolding any_wrong
right_at names [] i e h = absurd (omega arith)
right_at names (curve ∷ curves) zero e h = (or-none _ _ e).0
right_at names (curve ∷ curves) (suc i) e h = right_at names curves i (or-none _ _ e).1 (omega arith)

-- ---- how many bytes the book of curves has
-- a contents line whose name stands in the bytes
heading_length : (names : List ℕ) (at : NamePlace) (line : ℕ) → is_wrong names at ≡ false → IsNumber line
    → length (contents_text (name_bytes names at) line) ≡ at.size + length (count_text line) + 2
heading_length names at line e h =
    length-append (name_bytes names at) (32 ∷ number_text line 10)
    ∙ omega (arith, name_size names at (right_stands names at e).inside, number_length line 10 h)

pub bodies_are : (names : List ℕ) (curves : List (List ℤ)) → bodies_of (map (curve_in names) curves) ≡ cards_in curves
unfolding curve_in
bodies_are names [] = refl
bodies_are names (curve ∷ curves) = rw (bodies_are names curves)

module _ (names : List ℕ) (curves : List (List ℤ)) where
  -- the count line, the contents lines, the bodies
  pub book_lines : book_text (map (curve_in names) curves) ≡ number_text (length curves) 10 ++ (contents_left names curves 0 ++ bodies_left curves 0)
  unfolding book_text
  book_lines =
      let z : length curves + 2 ≡ length curves + 0 + 2 = omega arith in
      rw (length-map, bodies_are, z)

  book_length : length (book_text (map (curve_in names) curves)) ≡ length (number_text (length curves) 10) + (length (contents_left names curves 0) + length (bodies_left curves 0))
  book_length = ap length book_lines ∙ simp length-append

  module _ (i : ℕ) where
    -- behind the last curve none is left
    pub contents_none : length curves ≤ i → contents_left names curves i ≡ []
    unfolding contents_texts
    contents_none h = rw (drop_of_length-le curves h)

    -- the line of a curve, and those behind it
    module _ (some : i < length curves) where
      pub contents_turn : contents_left names curves i ≡ contents_text (name_bytes names (place_at names curves i)) (length curves + i + 2) ++ contents_left names curves (i + 1)
      unfolding contents_texts curve_in
      contents_turn =
          let z : length curves + i + 2 + 1 ≡ length curves + (i + 1) + 2 = omega arith in
          ap (λ (l : List (List ℤ)). contents_texts (length curves + i + 2) (names_of (map (curve_in names) l))) (curves_turn curves i some) ∙ rw z

      contents_size : length (contents_left names curves i) ≡ length (contents_text (name_bytes names (place_at names curves i)) (length curves + i + 2)) + length (contents_left names curves (i + 1))
      contents_size = ap length contents_turn ∙ length-append (contents_text (name_bytes names (place_at names curves i)) (length curves + i + 2)) _

-- the same of the bodies
module _ (curves : List (List ℤ)) (i : ℕ) where
  pub bodies_none : length curves ≤ i → bodies_left curves i ≡ []
  unfolding body_texts
  bodies_none h = rw (drop_of_length-le curves h)

  module _ (some : i < length curves) where
    pub bodies_turn : {numbers : List ℤ} → numbers ≡ take card_numbers (drop 2 (get_or curves i [])) → bodies_left curves i ≡ body_text numbers ++ bodies_left curves (i + 1)
    unfolding body_texts
    bodies_turn e =
        ap (λ (l : List (List ℤ)). body_texts (cards_in l)) (curves_turn curves i some)
        ∙ ap (λ (l : List ℤ). body_text l ++ bodies_left curves (i + 1)) (sym e)

    bodies_size : length (bodies_left curves i) ≡ length (body_text (take card_numbers (drop 2 (get_or curves i [])))) + length (bodies_left curves (i + 1))
    bodies_size = ap length (bodies_turn refl) ∙ length-append (body_text (take card_numbers (drop 2 (get_or curves i [])))) _

-- the eleven numbers behind place and size are the last of thirteen
pub last_eleven : (curve : List ℤ) {last : Option (Bor (List ℤ))} {numbers : Bor (List ℤ)} → length curve ≡ curve_width
    → MatchOption last (length curve < 11) (λ y. (11 ≤ length curve) × IsWholeChunk (drop (length curve - 11) curve) y.now 11)
    → last ≡ Some numbers → numbers.now ≡ take card_numbers (drop 2 curve)
last_eleven curve {numbers = numbers} long h e =
    let whole : IsWholeChunk (drop (length curve - 11) curve) numbers.now 11 = (MatchOption-at_some _ (λ (y : Bor (List ℤ)). (11 ≤ length curve) × IsWholeChunk (drop (length curve - 11) curve) y.now 11) numbers e h).1 in
    let k : length curve - 11 ≡ 2 = omega arith in
    let n : length (drop 2 curve) ≤ card_numbers = omega (arith, length-drop 2 curve) in
    whole.same ∙ ap (λ (m : ℕ). drop m curve) k ∙ sym (take_all card_numbers (drop 2 curve) n)

module _ (curves : List (List ℤ)) where
  -- what is counted after i curves, whatever bytes their names stand in
  abbrev pub SizesAfter : ℕ → ℕ → Type 0
  SizesAfter i size =
      (names : List ℕ) → any_wrong names curves ≡ false
      → cond (some_unfit (cards_in curves)) None (Some (length (book_text (map (curve_in names) curves))))
      ≡ cond (some_unfit (cards_in (drop i curves))) None (Some (size + (length (contents_left names curves i) + length (bodies_left curves i))))

  -- the count line
  pub sizes_first : (size : ℕ) → length curves ≤ most_curves → size ≡ length (count_text (length curves)) + 1 → SizesAfter 0 size
  sizes_first size few s names e =
      let whole : length (book_text (map (curve_in names) curves)) ≡ size + (length (contents_left names curves 0) + length (bodies_left curves 0)) =
      omega (arith, book_length names curves, number_length (length curves) 10 (omega arith)) in
      ap (λ (k : ℕ). cond (some_unfit (cards_in curves)) None (Some k)) whole

  -- whether no body has the numbers of one that is left
  pub unfit_turn : (i : ℕ) → i < length curves
      → some_unfit (cards_in (drop i curves)) ≡ (is_unfit (take card_numbers (drop 2 (get_or curves i []))) || some_unfit (cards_in (drop (i + 1) curves)))
  unfolding some_unfit
  unfit_turn i some = ap (λ (l : List (List ℤ)). some_unfit (cards_in l)) (curves_turn curves i some)

  module _ (i size : ℕ) (h : SizesAfter i size) where
    -- no curve more
    pub sizes_last : length curves ≤ i → Sizes curves (Some size)
    unfolding some_unfit contents_texts body_texts
    sizes_last l names e =
        let none : drop i curves ≡ [] = drop_of_length-le curves l in
        let z : size + 0 ≡ size = omega arith in
        sym (h names e ∙ rw none (ap (λ (k : ℕ). Some k) z))

    module _ (some : i < length curves) where
      -- a curve whose numbers no body has
      pub sizes_unfit : None ≡ body_size (take card_numbers (drop 2 (get_or curves i []))) → Sizes curves None
      unfolding body_size
      sizes_unfit t names e = sym (h names e ∙ rw (unfit_turn i some, none_of _ _ t))

      -- another
      pub sizes_turn : (front line body : ℕ) → length curves ≤ most_curves → front ≡ (name_place_in (get_or curves i []) 0).size
          → line ≡ length (count_text (length curves + i + 2)) → Some body ≡ body_size (take card_numbers (drop 2 (get_or curves i [])))
          → SizesAfter (i + 1) (size + (front + line + body + 2))
      unfolding body_size
      sizes_turn front line body few f g b names e =
          let fit = some_of (is_unfit (take card_numbers (drop 2 (get_or curves i [])))) b in
          let right = right_at names curves i e some in
          let small : IsNumber (length curves + i + 2) = omega arith in
          let whole : size + (length (contents_left names curves i) + length (bodies_left curves i))
          ≡ size + (front + line + body + 2) + (length (contents_left names curves (i + 1)) + length (bodies_left curves (i + 1))) =
          omega (arith, f, g, fit.1, contents_size names curves i some, bodies_size curves i some, heading_length names (place_at names curves i) (length curves + i + 2) right small) in
          h names e ∙ rw (unfit_turn i some, fit.0) (ap (λ (k : ℕ). cond (some_unfit (cards_in (drop (i + 1) curves))) None (Some k)) whole)

-- ---- a list cut into its curves
-- place and size of a name stand first among thirteen numbers
place_first : (list : List ℤ) → name_place_in (take curve_width list) 0 ≡ name_place_in list 0
unfolding name_place_in
place_first list = ap₂ name_place_of (get_or-take curve_width list 0 (pos 0) (omega arith)) (get_or-take curve_width list 1 (pos 0) (omega arith))

-- and the eleven of the card behind them
card_behind : (list : List ℤ) → take card_numbers (drop 2 (take curve_width list)) ≡ take card_numbers (drop 2 list)
card_behind [] = refl
card_behind (a ∷ []) = refl
card_behind (a ∷ b ∷ list) = take-take 11 11 list (omega arith)

pub cut_wrong : (n : ℕ) (names : List ℕ) (list : List ℤ) → any_wrong names (first_chunks curve_width n list) ≡ some_wrong n names list
unfolding any_wrong some_wrong
cut_wrong zero names list = refl
cut_wrong (suc n) names list = rw (place_first, cut_wrong n names (drop curve_width list))

pub cut_curves : (n : ℕ) (names : List ℕ) (list : List ℤ) → map (curve_in names) (first_chunks curve_width n list) ≡ curves_in n names list
unfolding curves_in curve_in
cut_curves zero names list = refl
cut_curves (suc n) names list = rw (place_first, card_behind, cut_curves n names (drop curve_width list))
