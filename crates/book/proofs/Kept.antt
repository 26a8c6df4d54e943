-- What is kept of the contents lines that were read: the names at their places.
-- Assumes nothing.
use Rattle.std.proofs.Common.{get_or, ℕ, zero, suc, ◌+◌, ◌≤◌, ◌<◌, ◌≡◌, refl, sym, ap, ◌∙◌, List, [], ◌∷◌, ◌++◌, map, add-one, arith, length, take, set, take-suc-set}
use mathlib.Core.List.{map-append}
use Rattle.decimal.specs.Decimal.{Each}
use Rattle.decimal.proofs.Choices.{each_more}
use Rattle.book.specs.Name.{name_at}
use Rattle.book.specs.Contents.{after_heading}
use Rattle.book.specs.Book.{most_bytes, after_headings}
use Rattle.book.specs.Reading.{key_at, keys_at, kept_at, IsKept, places_of, keys_of, headings_from}
use Rattle.book.specs.declared.lines.KeptName.{KeptName}
use Rattle.book.proofs.Names.{name_in_lem}

-- the places that are kept, one by one
pub places_length : (names : List KeptName) → length (places_of names) ≡ length names
places_length [] = refl
places_length (name ∷ names) = ap suc (places_length names)

pub place_at : (names : List KeptName) (i : ℕ) → get_or (places_of names) i 0 ≡ (get_or names i (record { place = 0; size = 0; key = 0 })).place
place_at [] i = refl
place_at (name ∷ names) zero = refl
place_at (name ∷ names) (suc i) = place_at names i

-- one contents line more, at the end
module _ (text : List ℕ) where
  after_snoc : (k at : ℕ) → after_headings (suc k) text at ≡ after_heading text (after_headings k text at)
  unfolding after_headings
  after_snoc zero at = refl
  after_snoc (suc k) at = after_snoc k (after_heading text at)

  headings_snoc : (k at : ℕ) → headings_from (suc k) text at ≡ headings_from k text at ++ (after_headings k text at ∷ [])
  unfolding headings_from after_headings
  headings_snoc zero at = refl
  headings_snoc (suc k) at = ap (λ (r : List ℕ). at ∷ r) (headings_snoc k (after_heading text at))

  pub headings_length : (k at : ℕ) → length (headings_from k text at) ≡ k
  unfolding headings_from
  headings_length zero at = refl
  headings_length (suc k) at = ap suc (headings_length k (after_heading text at))

  -- of what is kept, the places and the keys, and that it stands in the text
  pub places_kept : (places : List ℕ) → places_of (map (kept_at text) places) ≡ places
  places_kept [] = refl
  places_kept (place ∷ places) = ap (λ (r : List ℕ). place ∷ r) (places_kept places)

  pub keys_kept : (places : List ℕ) → keys_of (map (kept_at text) places) ≡ keys_at text places
  keys_kept [] = refl
  keys_kept (place ∷ places) = ap (λ (r : List ℕ). key_at text place ∷ r) (keys_kept places)

  pub all_kept : length text ≤ most_bytes → (places : List ℕ) → Each (λ place. 0 < name_at text place) places → Each (IsKept text) (map (kept_at text) places)
  unfolding Each
  all_kept few [] named = tt
  all_kept few (place ∷ places) named = ((refl, named.0, omega (arith, name_in_lem text place named.0)), all_kept few places named.1)

-- of i contents lines: names stand at their places, the first i of `names` are these, and the next line stands at `at`
pub record Kept (text : List ℕ) (first i : ℕ) (names : List KeptName) (at : ℕ) : Type 0 where
  pub kept : take i names ≡ map (kept_at text) (headings_from i text first)
  pub named : Each (λ place. 0 < name_at text place) (headings_from i text first)
  pub here : at ≡ after_headings i text first

module _ (text : List ℕ) (first : ℕ) (names : List KeptName) where
  -- one place more
  pub places_more : (i at : ℕ) → Kept text first i names at → headings_from i text first ++ (at ∷ []) ≡ headings_from (i + 1) text first
  places_more i at k = rw (add-one i) (ap (λ (p : ℕ). headings_from i text first ++ (p ∷ [])) k.here ∙ sym (headings_snoc text i first))

  -- none at the start
  pub kept_none : Kept text first 0 names first
  unfolding headings_from after_headings Each
  kept_none = record { kept = refl; named = tt; here = refl }

  -- one line more
  pub kept_turn : (i at : ℕ) {name : KeptName} {next : ℕ} → Kept text first i names at → i < length names → name ≡ kept_at text at
      → 0 < name_at text at → next ≡ after_heading text at → Kept text first (i + 1) (set names i name) next
  kept_turn i at k room same some e =
      let places : List ℕ = headings_from i text first in
      let more : headings_from (suc i) text first ≡ places ++ (at ∷ []) = rw (add-one i) at (sym (places_more i at k)) in
      rw (add-one i) (record {
        kept = take-suc-set names i _ room
            ∙ (λ j. k.kept j ++ (same j ∷ []))
            ∙ sym (map-append (kept_at text) places (at ∷ []))
            ∙ ap (map (kept_at text)) (sym more);
        named = rw more (each_more _ places at k.named some);
        here = e ∙ ap (after_heading text) k.here ∙ sym (after_snoc text i first);
      })
