-- Document 01, "The card": the least length of the clothoid, in metres, by the radius in metres (002, table 2); document 02, Slip 3: the search for it.
-- Assumes nothing.
use Rattle.std.specs.Prelude.{◌≡◌, cond, List, [], ◌∷◌, map, ℕ, ◌+◌, max, ◌≤◌, ◌<◌, leb, eqb}
use Rattle.card.specs.declared.LeastLength.{LeastLength}
use Rattle.card.specs.declared.tables.Clothoid.{Clothoid}
use Rattle.card.specs.Words.{◌below◌}

-- a listed radius and its least length
abbrev pub listed : ℕ → ℕ → Clothoid
listed r l = record { radius = r; length = l }

unfoldable pub clothoids : List Clothoid
clothoids =
    listed 30 30 ∷ listed 40 30 ∷ listed 50 35 ∷ listed 60 40 ∷ listed 70 40 ∷
    listed 80 45 ∷ listed 90 45 ∷ listed 100 50 ∷ listed 125 55 ∷ listed 150 60 ∷
    listed 200 70 ∷ listed 250 80 ∷ listed 300 90 ∷ listed 400 100 ∷ listed 500 110 ∷
    listed 600 120 ∷ listed 700 120 ∷ listed 800 120 ∷ listed 1000 120 ∷ listed 2000 100 ∷ []

-- the length at the last listed radius that is at most r, and at the first that is at least r; 0 where there is none
abbrev pub length_below : ℕ → List Clothoid → ℕ → ℕ
length_below before [] r = before
length_below before (e ∷ es) r = cond (leb e.radius r) (length_below e.length es r) before

abbrev pub length_above : List Clothoid → ℕ → ℕ
length_above [] r = 0
length_above (e ∷ es) r = cond (leb r e.radius) e.length (length_above es r)

-- between two listed radii the longer of the two lengths holds; at a listed one both are its own
-- the paper leaves the radii beyond the listed ones free; no accepted card has one
unfoldable pub least_length : ℕ → ℕ
least_length r = max (length_below 0 clothoids r) (length_above clothoids r)

-- what the search gives: a length and, beside it, how many listed radii it looked at (the struct LeastLength of src/lib.rt)
abbrev pub found : ℕ → ℕ → LeastLength
found l n = record { length = l; looked = n }

-- it looks at one listed radius after the other, and leaves at the first that is not below r; where there is none, it has looked at all
abbrev pub looked_along : List Clothoid → ℕ → ℕ
looked_along [] r = 0
looked_along (e ∷ es) r = cond (e.radius below r) (looked_along es r) 0 + 1

-- for a radius r: its least length, and how many listed radii are looked at
abbrev pub least_found : ℕ → LeastLength
least_found r = found (least_length r) (looked_along clothoids r)

-- how many radii of a table lie below r, wherever in it they stand
abbrev pub radii_below : List Clothoid → ℕ → ℕ
radii_below [] r = 0
radii_below (e ∷ es) r = cond (e.radius below r) (radii_below es r + 1) (radii_below es r)

-- THEOREM (proofs/Clothoids.antt): "for R up to 2000, one more than lie below R"; above, where the paper leaves it free, all twenty
pub record LookedTheorem : Type 0 where
  pub up_to_2000 : (r : ℕ) → r ≤ 2000 → (least_found r).looked ≡ radii_below clothoids r + 1
  pub above_2000 : (r : ℕ) → 2000 < r → (least_found r).looked ≡ 20

-- how the length is found on the way, with the length before and the count so far: where the search leaves, at a listed radius its length, below one the longer of its length and the one before
abbrev pub search : ℕ → ℕ → List Clothoid → ℕ → LeastLength
search before looked [] r = found before looked
search before looked (e ∷ es) r =
    cond (e.radius below r) (search e.length (looked + 1) es r)
    (found (cond (eqb r e.radius) e.length (max before e.length)) (looked + 1))

-- THEOREM (proofs/Clothoids.antt): the search finds both, for every radius
abbrev pub SearchFinds : Type 0
SearchFinds = (r : ℕ) → search 0 0 clothoids r ≡ least_found r

-- THEOREM (proofs/Clothoids.antt): up to the first listed radius it is the first length, 30 m, from the last on the last one, 100 m
pub record BeyondListed : Type 0 where
  pub near : (r : ℕ) → r ≤ 30 → least_length r ≡ 30
  pub far : (r : ℕ) → 2000 ≤ r → least_length r ≡ 100

-- the radii of the paper's table
abbrev pub radii : List ℕ
radii =
    30 ∷ 40 ∷ 50 ∷ 60 ∷ 70 ∷ 80 ∷ 90 ∷ 100 ∷ 125 ∷ 150 ∷ 200 ∷ 250 ∷ 300 ∷ 400 ∷ 500 ∷ 600 ∷ 700 ∷ 800 ∷ 1000 ∷ 2000 ∷ []

-- THEOREM (proofs/Clothoids.antt): at every listed radius and 1 m past it, at 0 and between two. The figures are read off the paper's table by hand
-- Where the length goes on, as about 700 and 800, only the count tells the radii apart.
pub record LookedReadings : Type 0 where
  pub at_listed :
      map least_found radii ≡
      found 30 1 ∷ found 30 2 ∷ found 35 3 ∷ found 40 4 ∷ found 40 5 ∷
      found 45 6 ∷ found 45 7 ∷ found 50 8 ∷ found 55 9 ∷ found 60 10 ∷
      found 70 11 ∷ found 80 12 ∷ found 90 13 ∷ found 100 14 ∷ found 110 15 ∷
      found 120 16 ∷ found 120 17 ∷ found 120 18 ∷ found 120 19 ∷ found 100 20 ∷ []
  pub past_listed :
      map (λ (r : ℕ). least_found (r + 1)) radii ≡
      found 30 2 ∷ found 35 3 ∷ found 40 4 ∷ found 40 5 ∷ found 45 6 ∷
      found 45 7 ∷ found 50 8 ∷ found 55 9 ∷ found 60 10 ∷ found 70 11 ∷
      found 80 12 ∷ found 90 13 ∷ found 100 14 ∷ found 110 15 ∷ found 120 16 ∷
      found 120 17 ∷ found 120 18 ∷ found 120 19 ∷ found 120 20 ∷ found 100 20 ∷ []
  pub nought : least_found 0 ≡ found 30 1
  pub between : least_found 225 ≡ found 80 12
