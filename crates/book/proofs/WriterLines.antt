-- The names and the bodies of the curves of a list, one by one.
-- Assumes nothing.
use Prim.Native.Nat.{ℕ, zero, suc, ◌+◌, ◌*◌, ◌<◌}
use mathlib.Core.Path.{◌≡◌, refl, ap, ap₂, ◌∙◌, subst}
use mathlib.Core.Bool.{false}
use mathlib.Core.List.{List, [], ◌∷◌}
use native.Mathlib.Omega.{arith}
use lib.IntN.{ℤ, pos}
use lib.ListN.{length, take, drop}
use lib.Seq.{get_or-drop}
use Rattle.decimal.proofs.Choices.{or-none}
use Rattle.card_list.specs.declared.NamePlace.{NamePlace}
use Rattle.card_list.specs.List.{curve_width, number_of, name_place_of, name_place_in}
use Rattle.book.specs.Body.{card_numbers}
use Rattle.book.specs.Printed.{bodies_of}
use Rattle.book.specs.Meaning.{curve_in, curves_in}
use Rattle.book.specs.Writing.{is_wrong, some_wrong}

-- the place of a name further on
place_there : (list : List ℤ) (k i : ℕ) → name_place_in (drop (curve_width * k) list) i ≡ name_place_in list (k + i)
unfolding name_place_in
place_there list k i =
    let p : curve_width * k + curve_width * i ≡ curve_width * (k + i) = omega arith in
    let q : curve_width * k + (curve_width * i + 1) ≡ curve_width * (k + i) + 1 = omega arith in
    ap₂ name_place_of (get_or-drop (curve_width * k) list (curve_width * i) (pos 0) ∙ ap (number_of list) p)
    (get_or-drop (curve_width * k) list (curve_width * i + 1) (pos 0) ∙ ap (number_of list) q)

pub place_next : (list : List ℤ) (i : ℕ) → name_place_in (drop curve_width list) i ≡ name_place_in list (suc i)
place_next list i = let k : 1 + i ≡ suc i = omega arith in place_there list 1 i ∙ ap (name_place_in list) k

-- each name of a list without wrong names is right
pub wrong_at : (n : ℕ) (names : List ℕ) (list : List ℤ) → some_wrong n names list ≡ false → (i : ℕ) → i < n → is_wrong names (name_place_in list i) ≡ false
unfolding some_wrong
wrong_at zero names list e i h = absurd (omega arith)
wrong_at (suc n) names list e zero h = (or-none (is_wrong names (name_place_in list 0)) (some_wrong n names (drop curve_width list)) e).0
wrong_at (suc n) names list e (suc i) h =
    subst (λ (p : NamePlace). is_wrong names p ≡ false) (place_next list i) (wrong_at n names (drop curve_width list) (or-none (is_wrong names (name_place_in list 0)) (some_wrong n names (drop curve_width list)) e).1 i (omega arith))

-- the eleven numbers of the card of each of the first n curves of a list
unfoldable pub bodies_in : ℕ → List ℤ → List (List ℤ)
bodies_in zero list = []
bodies_in (suc n) list = take card_numbers (drop 2 list) ∷ bodies_in n (drop curve_width list)

-- the curves of a list: as many as are asked for, and their bodies are the list's
pub curves_count : (n : ℕ) (names : List ℕ) (list : List ℤ) → length (curves_in n names list) ≡ n
unfolding curves_in
curves_count zero names list = refl
curves_count (suc n) names list = ap suc (curves_count n names (drop curve_width list))

pub curves_bodies : (n : ℕ) (names : List ℕ) (list : List ℤ) → bodies_of (curves_in n names list) ≡ bodies_in n list
unfolding curves_in curve_in bodies_in
curves_bodies zero names list = refl
curves_bodies (suc n) names list = ap (λ (bodies : List (List ℤ)). take card_numbers (drop 2 list) ∷ bodies) (curves_bodies n names (drop curve_width list))
