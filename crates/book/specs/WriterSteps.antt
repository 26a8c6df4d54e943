-- What the private functions of the writer promise. Writing.antt says what is written, and no public contract cites this file.
-- Assumes nothing.
use Rattle.std.specs.Prelude.{ℕ, ◌+◌, ◌≡◌, List, [], ◌∷◌, map, Bool, true, false, cond, ◌||◌, eqb, Option, None, Some, ℤ, length, take, drop}
use Rattle.std.specs.List.{list_any}
use Rattle.card_list.specs.declared.NamePlace.{NamePlace}
use Rattle.card_list.specs.List.{name_place_in}
use Rattle.book.specs.Body.{card_numbers}
use Rattle.book.specs.Printed.{contents_texts, body_text, body_texts, book_text, names_of}
use Rattle.book.specs.Meaning.{curve_in}
use Rattle.book.specs.Reading.{key_from}
use Rattle.book.specs.Writing.{is_wrong, is_unfit, some_unfit}

-- the key of the name at a place
abbrev pub place_key : List ℕ → NamePlace → ℕ
place_key names at = key_from at.size names at.place

-- that key as it is read; none where the name is wrong
unfoldable pub key_read : List ℕ → NamePlace → Option ℕ
key_read names at = cond (is_wrong names at) None (Some (place_key names at))

-- of curves with thirteen numbers each: whether the name of one is wrong
unfoldable pub any_wrong : List ℕ → List (List ℤ) → Bool
any_wrong names [] = false
any_wrong names (curve ∷ curves) = is_wrong names (name_place_in curve 0) || any_wrong names curves

-- the keys of their names
unfoldable pub keys_of : List ℕ → List (List ℤ) → List ℕ
keys_of names curves = map (λ (curve : List ℤ). place_key names (name_place_in curve 0)) curves

-- these keys as they are read, the first of a longer list; none where a name is wrong
abbrev pub KeysRead : List ℕ → List (List ℤ) → Option (List ℕ) → Type 0
KeysRead names curves None = any_wrong names curves ≡ true
KeysRead names curves (Some keys) = (any_wrong names curves ≡ false) × (take (length curves) keys ≡ keys_of names curves)

-- whether a key stands twice
unfoldable pub twin_keys : List ℕ → Bool
twin_keys [] = false
twin_keys (key ∷ keys) = list_any (λ other. eqb other key) keys || twin_keys keys

-- how many bytes the body with these numbers has; none where no body has them
unfoldable pub body_size : List ℤ → Option ℕ
body_size numbers = cond (is_unfit numbers) None (Some (length (body_text numbers)))

-- the eleven numbers of the card of each
abbrev pub cards_in : List (List ℤ) → List (List ℤ)
cards_in curves = map (λ (curve : List ℤ). take card_numbers (drop 2 curve)) curves

-- their contents lines from curve i on, and their bodies
abbrev pub contents_left : List ℕ → List (List ℤ) → ℕ → List ℕ
contents_left names curves i = contents_texts (length curves + i + 2) (names_of (map (curve_in names) (drop i curves)))

abbrev pub bodies_left : List (List ℤ) → ℕ → List ℕ
bodies_left curves i = body_texts (cards_in (drop i curves))

-- r counts the bytes of their book, whatever bytes their names stand in; none with numbers that no body has
abbrev pub Sizes : List (List ℤ) → Option ℕ → Type 0
Sizes curves r =
    (names : List ℕ) → any_wrong names curves ≡ false
    → r ≡ cond (some_unfit (cards_in curves)) None (Some (length (book_text (map (curve_in names) curves))))
