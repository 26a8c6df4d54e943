-- Lists of tests whose numbers are above 0: where none is met, and what one list says with another behind it.
-- Assumes nothing.
use mathlib.Core.Path.{◌≡◌, refl, sym}
use mathlib.Core.Bool.{Bool, true, false, cond, not, and-eq-true_iff}
use mathlib.Core.List.{List, [], ◌∷◌, ◌++◌}
use mathlib.Core.Logic.{◌↔◌}
use Prim.Native.Nat.{ℕ, ◌*◌, ◌≤◌, ◌<◌}
use native.Mathlib.Omega.{arith}
use lib.Dec.{ltb, eqb}
use lib.ListN.{length, get_or}
use borrow.Author.Tests.{ltb-true, ltb-false, eqb-true, eqb-false, not-true, ne_eqb, le-ltb}
use Rattle.card.specs.declared.Card.{Card}
use Rattle.card.specs.Reasons.{Test, test, first, tests_before, tests_after, tests_room, refusal_before, refusal_after, refusal_room}
use Rattle.card.proofs.Every.{every, here, later, at_place, of_two}

abbrev pub numbered : Test → Bool
numbered t = ltb 0 t.number

abbrev unmet : Test → Bool
unmet t = not t.met

pub zero_unmet : (b : Bool) (n m : ℕ) → 0 < n → cond b n m ≡ 0 → (not b ≡ true) × (m ≡ 0)
zero_unmet true n m h e = absurd (omega arith)
zero_unmet false n m h e = (refl, e)

-- where the first number is 0, none is met
none_met : (ts : List Test) → every numbered ts ≡ true → first ts ≡ 0 → every unmet ts ≡ true
none_met [] t e = refl
none_met (x ∷ xs) t e =
    let both = zero_unmet x.met x.number (first xs) (ltb-true 0 x.number (here numbered x xs t)) e in
    (and-eq-true_iff (unmet x) (every unmet xs)).1 (both.0, none_met xs (later numbered x xs t) both.1)

pub passes : (ts : List Test) → every numbered ts ≡ true → first ts ≡ 0 → (k : ℕ) → k < length ts → (get_or ts k (test 0 false)).met ≡ false
passes ts t e k h = not-true _ (at_place unmet ts (test 0 false) (none_met ts t e) k h)

-- what 0 and every number of a list pass, the number that it gives passes
module _ (f : ℕ → Bool) where
  abbrev number : Test → Bool
  number t = f t.number

  pub first_passes : (ts : List Test) → f 0 ≡ true → every number ts ≡ true → f (first ts) ≡ true
  first_passes [] z t = z
  first_passes (x ∷ xs) z t = of_two f x.met x.number (first xs) (here number x xs t) (first_passes xs z (later number x xs t))

-- ---- the number n of one list, or the number m of the list behind it
abbrev pub then : ℕ → ℕ → ℕ
then n m = cond (eqb n 0) m n

head : (b : Bool) (n k l m : ℕ) → 0 < n → k ≡ then l m → cond b n k ≡ then (cond b n l) m
head true n k l m h e = sym (rw (ne_eqb n 0 (λ z. omega arith)))
head false n k l m h e = e

pub first_then : (ts us : List Test) → every numbered ts ≡ true → first (ts ++ us) ≡ then (first ts) (first us)
first_then [] us t = refl
first_then (x ∷ xs) us t =
    head x.met x.number (first (xs ++ us)) (first xs) (first us) (ltb-true 0 x.number (here numbered x xs t)) (first_then xs us (later numbered x xs t))

-- the first list's own number, where it is one
pub then-first : (n m : ℕ) → (n ≡ 0 → ⊥) → then n m ≡ n
then-first n m some = rw (ne_eqb n 0 some)

-- and 0 only where both are
pub then_none : (n m : ℕ) → then n m ≡ 0 → (n ≡ 0) × (m ≡ 0)
then_none n m = go (eqb n 0) refl
  where
    go : (b : Bool) → eqb n 0 ≡ b → cond b m n ≡ 0 → (n ≡ 0) × (m ≡ 0)
    go true is e = (eqb-true n 0 is, e)
    go false is e = absurd (eqb-false n 0 is e)

-- ---- the shared lists with a method's own behind or before them
pub before_then : (card : Card) (ts : List Test) → first (tests_before card ++ ts) ≡ then (refusal_before card) (first ts)
unfolding refusal_before
before_then card ts = first_then (tests_before card) ts refl

pub after_first : (card : Card) → first (tests_after card) ≡ refusal_after card
unfolding refusal_after
after_first card = refl

-- ---- the room
pub room_first : (width count room : ℕ) → first (tests_room width count room) ≡ refusal_room width count room
unfolding refusal_room
room_first width count room = refl

pub room_held : (width count room : ℕ) → (refusal_room width count room ≡ 0) ↔ (width * count ≤ room)
unfolding refusal_room
room_held width count room = (
  λ e. ltb-false room (width * count) (not-true _ (zero_unmet (ltb room (width * count)) 11 0 (omega arith) e).0),
  λ h. rw (le-ltb room (width * count) h),
)
