-- A text stored part by part.
-- Assumes nothing.
use Prim.Native.Nat.{ℕ, suc, ◌+◌, ◌-◌, ◌≤◌, ◌<◌}
use mathlib.Core.Path.{◌≡◌, ap, ◌∙◌}
use mathlib.Core.List.{List, [], ◌∷◌, ◌++◌, append-nil}
use native.Mathlib.Omega.{arith}
use native.Mathlib.Numerals.{add-one}
use lib.ListN.{length, drop, set, get_or, drop_of_length-le}
use lib.Seq.{sets, drop-cons, length-sets, take_all}
use borrow.Rule.Slice.PartMut.{put_mid, mid_of}
use Rattle.decimal.specs.Places.{Wrote}
use Rattle.decimal.specs.declared.Place.{Place}

-- a run of stores in two parts
pub sets_append : {A : Type 0} (xs ys l : List A) (i : ℕ) → sets l i (xs ++ ys) ≡ sets (sets l i xs) (i + length xs) ys
sets_append [] ys l i = let z : i ≡ i + 0 = omega arith in ap (λ (k : ℕ). sets l k ys) z
sets_append (x ∷ xs) ys l i =
    let z : suc i + length xs ≡ i + suc (length xs) = omega arith in
    sets_append xs ys (set l i x) (suc i) ∙ ap (λ (k : ℕ). sets (sets (set l i x) (suc i) xs) k ys) z

-- one byte stored, and no byte left
pub sets_turn : (bytes l : List ℕ) (at i : ℕ) → i < length bytes
    → sets l (at + i) (drop i bytes) ≡ sets (set l (at + i) (get_or bytes i 0)) (at + (i + 1)) (drop (i + 1) bytes)
sets_turn bytes l at i h =
    let p : at + suc i ≡ suc (at + i) = omega arith in
    ap (sets l (at + i)) (drop-cons bytes i 0 h) ∙ rw (add-one i, p)

pub sets_none : (bytes l : List ℕ) (at i : ℕ) → length bytes ≤ i → sets l (at + i) (drop i bytes) ≡ l
sets_none bytes l at i h = ap (sets l (at + i)) (drop_of_length-le bytes h)

-- a text that starts with a part, stored: the part, and the rest behind it
pub stores_next : (part rest l : List ℕ) (at : ℕ) {text stored : List ℕ} {place : ℕ}
    → text ≡ part ++ rest → stored ≡ sets l at part → place ≡ at + length part → sets l at text ≡ sets stored place rest
stores_next part rest l at e s p = ap (sets l at) e ∙ sets_append part rest l at ∙ rw (s, p)

-- one byte written, and bytes written over all that is behind it
pub first_written : (b : ℕ) (l bytes part : List ℕ) → length l ≡ 1 + length bytes
    → (length (mid_of 1 (length (set l 0 b) - 1) (set l 0 b)) ≡ length bytes → part ≡ bytes) → put_mid 1 (length (set l 0 b) - 1) (set l 0 b) part ≡ b ∷ bytes
first_written b [] bytes part n written = absurd (omega arith)
first_written b (x ∷ l) bytes part n written =
    let p : part ≡ bytes = written (ap length (take_all (suc (length l) - 1) l (omega arith)) ∙ omega arith) in
    ap (λ (rest : List ℕ). b ∷ (part ++ rest)) (drop_of_length-le l (omega arith)) ∙ ap (λ (m : List ℕ). b ∷ m) (append-nil part ∙ p)

-- what is written leaves the buffer its size
pub wrote_size : (before after : Place) (text : List ℕ) → Wrote before after text → length after.buffer.now ≡ length before.buffer.now
wrote_size before after text w = ap length w.1 ∙ length-sets before.buffer.now before.at text
