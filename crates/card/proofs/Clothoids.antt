-- The search along the table of least lengths finds the one that the paper names, for every radius, and looks at as many radii as it says; and the bounds of that length.
-- Assumes nothing.
use mathlib.Core.Path.{◌≡◌, ◌∙◌, refl, ap}
use mathlib.Core.Bool.{Bool, true, false, ◌&&◌, and-eq-true_iff}
use mathlib.Core.List.{List, [], ◌∷◌}
use Prim.Native.Nat.{ℕ, ◌+◌, ◌≤◌, ◌<◌, max, min}
use native.Mathlib.Nat.{add-zero, zero-add, max-zero, max-eq_left, le_refl, le-max_left, max-le, le_trans, le_of_lt, min-eq_left, min-eq_right}
use native.Mathlib.Numerals.{add-one}
use native.Mathlib.Decide.{dec_lt}
use native.Mathlib.Omega.{arith}
use lib.Dec.{leb, ltb, eqb}
use lib.ListN.{length, drop}
use borrow.Author.Tests.{ltb-true, ltb-false, leb-true, eqb-true, eqb-false, le-ltb, lt-ltb, le-leb, lt-leb}
use Rattle.card.specs.declared.LeastLength.{LeastLength}
use Rattle.card.specs.declared.tables.Clothoid.{Clothoid}
use Rattle.card.specs.Clothoid.{listed, clothoids, length_below, length_above, least_length, found, looked_along, least_found, radii_below, LookedTheorem, LookedReadings, search, SearchFinds, BeyondListed}
use Rattle.card.proofs.Every.{every, here, later, of_two}

-- ---- the search
-- the radii rise, from above `low` on
abbrev rising : ℕ → List Clothoid → Bool
rising low [] = true
rising low (e ∷ es) = ltb low e.radius && rising e.radius es

-- no radius of a rising table is at or below r, where r is at most `low`
none_below : (l low : ℕ) (es : List Clothoid) (r : ℕ) → rising low es ≡ true → r ≤ low → length_below l es r ≡ l
none_below l low [] r t h = refl
none_below l low (e ∷ es) r t h =
    let rise : low < e.radius = ltb-true low e.radius ((and-eq-true_iff _ (rising e.radius es)).0 t).0 in
    let past : r < e.radius = omega arith in
    rw (lt-leb e.radius r past)

-- the search finds the longer of the two lengths, and counts on from what was looked at before
abbrev Finds : ℕ → ℕ → ℕ → List Clothoid → Type 0
Finds r before looked es = search before looked es r ≡ found (max (length_below before es r) (length_above es r)) (looked + looked_along es r)

-- one entry of the table, by where r lies: past its radius, at it or below it
module _ (r before looked : ℕ) (e : Clothoid) (es : List Clothoid) (rest : rising e.radius es ≡ true) where
  at_entry :
      (past at : Bool) → ltb e.radius r ≡ past → eqb r e.radius ≡ at → Finds r e.length (looked + 1) es → Finds r before looked (e ∷ es)
  at_entry true at ep ea next =
      let past : e.radius < r = ltb-true e.radius r ep in
      let low : e.radius ≤ r = omega arith in
      let one_more : looked + (looked_along es r + 1) ≡ looked + 1 + looked_along es r = omega arith in
      rw (ep, le-leb e.radius r low, lt-leb r e.radius past, one_more) next
  at_entry false true ep ea next =
      let same : r ≡ e.radius = eqb-true r e.radius ea in
      let high : r ≤ e.radius = omega arith in
      let low : e.radius ≤ r = omega arith in
      rw (ep, ea, le-leb e.radius r low, le-leb r e.radius high, none_below e.length e.radius es r rest high, max-eq_left (le_refl e.length))
  at_entry false false ep ea next =
      let high : r ≤ e.radius = ltb-false e.radius r ep in
      let apart = eqb-false r e.radius ea in
      let h : r < e.radius = omega arith in
      rw (ep, ea, lt-leb e.radius r h, le-leb r e.radius high)

-- any table whose radii rise
finds : (r before looked low : ℕ) (es : List Clothoid) → rising low es ≡ true → Finds r before looked es
finds r before looked low [] t = rw (max-zero before, add-zero looked)
finds r before looked low (e ∷ es) t =
    let rest : rising e.radius es ≡ true = ((and-eq-true_iff (ltb low e.radius) _).0 t).1 in
    at_entry r before looked e es rest (ltb e.radius r) (eqb r e.radius) refl refl (finds r e.length (looked + 1) e.radius es rest)

pub search_finds : SearchFinds
unfolding clothoids least_length
search_finds r = finds r 0 0 0 clothoids refl ∙ ap (found (least_length r)) (zero-add (looked_along clothoids r))

-- ---- how many radii are looked at
abbrev OneMore : ℕ → List Clothoid → Type 0
OneMore r es = looked_along es r ≡ radii_below es r + 1

-- no radius of a rising table lies below r, where r is at most `low`
none_counted : (low : ℕ) (es : List Clothoid) (r : ℕ) → rising low es ≡ true → r ≤ low → radii_below es r ≡ 0
none_counted low [] r t h = refl
none_counted low (e ∷ es) r t h =
    let both = (and-eq-true_iff (ltb low e.radius) (rising e.radius es)).0 t in
    let rise : low < e.radius = ltb-true low e.radius both.0 in
    let high : r ≤ e.radius = omega arith in
    rw (le-ltb e.radius r high) (none_counted e.radius es r both.1 high)

-- a first radius before a rising table: r is past it, or not
module _ (r : ℕ) (e : Clothoid) (es : List Clothoid) (rest : rising e.radius es ≡ true) where
  from_first : (past : Bool) → ltb e.radius r ≡ past → OneMore r es → OneMore r (e ∷ es)
  from_first true ep next = rw (ep, next)
  from_first false ep next = rw (ep, none_counted e.radius es r rest (ltb-false e.radius r ep))

abbrev last_radius : ℕ → List Clothoid → ℕ
last_radius low [] = low
last_radius low (e ∷ es) = last_radius e.radius es

-- up to the last radius
one_more : (r : ℕ) (e : Clothoid) (es : List Clothoid) → rising e.radius es ≡ true → r ≤ last_radius e.radius es → OneMore r (e ∷ es)
one_more r e [] t h = rw (le-ltb e.radius r h)
one_more r e (f ∷ fs) t h =
    from_first r e (f ∷ fs) t (ltb e.radius r) refl (one_more r f fs ((and-eq-true_iff (ltb e.radius f.radius) _).0 t).1 h)

-- ---- the bounds
-- a test that every listed length passes
module _ (f : ℕ → Bool) where
  abbrev own : Clothoid → Bool
  own e = f e.length

  below_passes : (before : ℕ) (es : List Clothoid) (r : ℕ) → f before ≡ true → every own es ≡ true → f (length_below before es r) ≡ true
  below_passes before [] r s t = s
  below_passes before (e ∷ es) r s t =
      of_two f (leb e.radius r) _ _ (below_passes e.length es r (here own e es t) (later own e es t)) s

  above_passes : (es : List Clothoid) (r : ℕ) → f 0 ≡ true → every own es ≡ true → f (length_above es r) ≡ true
  above_passes [] r s t = s
  above_passes (e ∷ es) r s t =
      of_two f (leb r e.radius) _ _ (here own e es t) (above_passes es r s (later own e es t))

pub at_most_120 : (r : ℕ) → least_length r ≤ 120
unfolding clothoids least_length
at_most_120 r =
    let small : ℕ → Bool = λ n. leb n 120 in
    max-le (leb-true _ 120 (below_passes small 0 clothoids r refl refl)) (leb-true _ 120 (above_passes small clothoids r refl refl))

-- from the first listed radius on the length below is a listed one
below_at_least_30 : (r : ℕ) → 30 ≤ r → 30 ≤ length_below 0 clothoids r
unfolding clothoids
below_at_least_30 r h = rw (le-leb 30 r h) (leb-true 30 _ (below_passes (λ n. leb 30 n) 30 (drop 1 clothoids) r refl refl))

pub at_least_30 : (r : ℕ) → 30 ≤ r → 30 ≤ least_length r
unfolding least_length
at_least_30 r h = le_trans (below_at_least_30 r h) (le-max_left _ _)

-- ---- beyond the listed radii
-- past every listed radius the length below is the last one, there is none above, and all are looked at
abbrev last_length : ℕ → List Clothoid → ℕ
last_length before [] = before
last_length before (e ∷ es) = last_length e.length es

module _ (m r : ℕ) where
  abbrev up_to : Clothoid → Bool
  up_to e = leb e.radius m

  below_last : (before : ℕ) (es : List Clothoid) → every up_to es ≡ true → m ≤ r → length_below before es r ≡ last_length before es
  below_last before [] t h = refl
  below_last before (e ∷ es) t h =
      rw (le-leb e.radius r (le_trans (leb-true e.radius m (here up_to e es t)) h)) (below_last e.length es (later up_to e es t) h)

  above_none : (es : List Clothoid) → every up_to es ≡ true → m < r → length_above es r ≡ 0
  above_none [] t h = refl
  above_none (e ∷ es) t h =
      let past : e.radius < r = omega (arith, leb-true e.radius m (here up_to e es t)) in
      rw (lt-leb r e.radius past) (above_none es (later up_to e es t) h)

  all_looked : (es : List Clothoid) → every up_to es ≡ true → m < r → looked_along es r ≡ length es
  all_looked [] t h = refl
  all_looked (e ∷ es) t h =
      let past : e.radius < r = omega (arith, leb-true e.radius m (here up_to e es t)) in
      rw (lt-ltb e.radius r past, all_looked es (later up_to e es t) h, add-one)

up_to_first : (r : ℕ) → r ≤ 30 → Dec (r < 30) → least_length r ≡ 30
unfolding clothoids least_length
up_to_first r h (yes b) = rw (lt-leb 30 r b, le-leb r 30 h)
up_to_first r h (no b) =
    let e : r ≡ 30 = omega arith in
    rw e

from_last : (r : ℕ) → 2000 ≤ r → Dec (2000 < r) → least_length r ≡ 100
unfolding clothoids least_length
from_last r h (yes b) = rw (below_last 2000 r 0 clothoids refl h, above_none 2000 r clothoids refl b)
from_last r h (no b) =
    let e : r ≡ 2000 = omega arith in
    rw e

pub beyond_listed : BeyondListed
beyond_listed = record { near = λ r h. up_to_first r h (dec_lt r 30); far = λ r h. from_last r h (dec_lt 2000 r) }

pub looked_theorem : LookedTheorem
unfolding clothoids
looked_theorem = record { up_to_2000 = λ r h. one_more r (listed 30 30) (drop 1 clothoids) refl h; above_2000 = λ r h. all_looked 2000 r clothoids refl h }

-- a radius above the last listed one is sought as that one
sought_as : (r : ℕ) → Dec (2000 < r) → least_found (min r 2000) ≡ least_found r
unfolding clothoids least_length
sought_as r (yes h) = rw (min-eq_right (le_of_lt h), from_last r (le_of_lt h) (yes h), looked_theorem.above_2000 r h)
sought_as r (no h) =
    let low : r ≤ 2000 = omega arith in
    rw (min-eq_left low)

pub sought_up_to_2000 : (r : ℕ) → least_found (min r 2000) ≡ least_found r
sought_up_to_2000 r = sought_as r (dec_lt 2000 r)

pub looked_readings : LookedReadings
unfolding clothoids least_length
looked_readings = record { at_listed = refl; past_listed = refl; nought = refl; between = refl }

-- the length of what the search gives
pub found_length : (l : LeastLength) (r : ℕ) → l ≡ least_found r → l.length ≡ least_length r
found_length l r e = ap (λ (x : LeastLength). x.length) e
