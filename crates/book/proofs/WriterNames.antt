-- The names of a list of curves: that a test of the writer is met says of each name, and of two, what the words say.
-- Assumes nothing.
use Prim.Native.Nat.{ℕ, zero, suc, ◌+◌, ◌-◌, ◌≤◌, ◌<◌}
use mathlib.Core.Path.{◌≡◌, refl, sym, ap, ap₂, ◌∙◌, subst}
use mathlib.Core.Bool.{Bool, true, false, not, ◌||◌, false≢true}
use mathlib.Core.List.{List, [], ◌∷◌, map}
use mathlib.Core.Logic.{◌⊎◌}
use native.Mathlib.Omega.{arith}
use native.Mathlib.Numerals.{add-one}
use lib.ListN.{length, get_or, take, drop, length-drop, drop_of_length-le}
use lib.Seq.{drop-cons, get_or-drop, get_or-take, ext_get_or, length-take-le}
use lib.Dec.{eqb}
use lib.IntN.{ℤ}
use borrow.Author.Tests.{ltb-false, le-ltb, eqb-true, eq-eqb, not-false}
use Rattle.std.specs.Prelude.{None, Some}
use Rattle.std.proofs.lemmas.List.{take_all}
use Rattle.std.specs.List.{list_any}
use Rattle.decimal.specs.Decimal.{Each}
use Rattle.decimal.proofs.Choices.{or-none, neither_met, both_met, not_met}
use Rattle.card_list.specs.declared.NamePlace.{NamePlace}
use Rattle.card_list.specs.List.{name_place_in, name_bytes}
use Rattle.book.specs.Number.{byte_at}
use Rattle.book.specs.Name.{is_name_byte, name_run}
use Rattle.book.specs.Printed.{names_of}
use Rattle.book.specs.Meaning.{curve_in}
use Rattle.book.specs.Reading.{key_from, run_at}
use Rattle.book.specs.Writing.{has_other, is_malformed, is_outside, is_wrong, same_name, is_one_of, has_twins}
use Rattle.book.specs.WriterSteps.{place_key, key_read, any_wrong, keys_of, twin_keys}
use Rattle.book.specs.Written.{NameStands}
use Rattle.book.specs.declared.text.ReadName.{ReadName}
use Rattle.book.proofs.Names.{run_in}
use Rattle.book.proofs.NameText.{NameBytes, run_most, run_bytes}
use Rattle.book.proofs.Keys.{one_test, same_bytes_lem, same_byte, bytes_key}

-- ---- one name
no_other : (name : List ℕ) → has_other name ≡ false → NameBytes name
unfolding has_other Each
no_other [] e = tt
no_other (b ∷ name) e = let both = or-none _ _ e in (not-false _ both.0, no_other name both.1)

other_none : (name : List ℕ) → NameBytes name → has_other name ≡ false
unfolding has_other Each
other_none [] h = refl
other_none (b ∷ name) h = neither_met (not (is_name_byte b)) (has_other name) (ap not h.0) (other_none name h.1)

module _ (names : List ℕ) (at : NamePlace) where
  abbrev name : List ℕ
  name = name_bytes names at

  -- a name that is not wrong stands in the bytes
  pub right_stands : is_wrong names at ≡ false → NameStands names at
  unfolding is_wrong
  right_stands e =
      let first = or-none (is_outside names at) (is_malformed name) e in
      let second = or-none _ (has_other name) first.1 in
      let sizes = or-none _ _ second.0 in
      record {
        inside = ltb-false _ _ first.0;
        name = record { some = ltb-false _ _ sizes.0; short = ltb-false _ _ sizes.1; bytes = no_other name second.1 };
      }

  pub stands_right : NameStands names at → is_wrong names at ≡ false
  unfolding is_wrong
  stands_right s =
      neither_met _ _ (le-ltb _ _ s.inside)
      (neither_met _ _ (neither_met _ _ (le-ltb _ _ s.name.some) (le-ltb _ _ s.name.short)) (other_none name s.name.bytes))

  -- a name inside the bytes is as long as it says
  pub name_size : at.place + at.size ≤ length names → length name ≡ at.size
  name_size h = length-take-le at.size (drop at.place names) (omega (arith, length-drop at.place names))

-- ---- the run of a name
module _ (text : List ℕ) where
  -- where all are bytes of a name, all are counted
  run_full : (k at : ℕ) → at + k ≤ length text → NameBytes (take k (drop at text)) → name_run k text at ≡ k
  unfolding name_run Each
  run_full zero at l h = refl
  run_full (suc k) at l h =
      let cut : drop at text ≡ byte_at text at ∷ drop (suc at) text = drop-cons text at 0 (omega arith) in
      let all : NameBytes (byte_at text at ∷ take k (drop (suc at) text)) = subst (λ (bytes : List ℕ). NameBytes (take (suc k) bytes)) cut h in
      let rest : NameBytes (take k (drop (at + 1) text)) = rw add-one all.1 in
      rw all.0 (omega (arith, run_full k (at + 1) (omega arith) rest))

module _ (names : List ℕ) (at : NamePlace) where
  abbrev run : ℕ
  run = name_run at.size names at.place

  -- a name that is not wrong is counted whole
  right_run : is_wrong names at ≡ false → run ≡ at.size
  right_run e = let s = right_stands names at e in run_full names at.size at.place s.inside s.name.bytes

  -- so one without bytes, with more than eight, or that begins past the bytes is wrong
  pub unread_wrong : (at.size < 1) ⊎ (((1 ≤ at.size) × (8 < at.size)) ⊎ ((1 ≤ at.size) × (at.size ≤ 8) × (length names < at.place))) → is_wrong names at ≡ true
  unread_wrong h = not_met _ (λ e. let s = right_stands names at e in let n = name_size names at s.inside in omega (arith, n, s.inside, s.name.some, s.name.short))

  -- and one that is not counted whole
  pub stopped_wrong : run < at.size → is_wrong names at ≡ true
  stopped_wrong h = not_met _ (λ e. omega (arith, right_run e))

  -- and one of one to eight bytes that is counted whole is not
  run_right : at.place ≤ length names → at.size ≤ 8 → at.size ≤ run → 1 ≤ at.size → is_wrong names at ≡ false
  run_right inside short whole some =
      let n : run ≡ at.size = omega (arith, run_most names at.size at.place) in
      let within : at.place + at.size ≤ length names = omega (arith, run_in names at.size at.place inside) in
      let bytes : NameBytes (name_bytes names at) =
      subst (λ (k : ℕ). NameBytes (take k (drop at.place names))) n (run_bytes names at.size at.place) in
      let size = name_size names at within in
      stands_right names at (record { inside = within; name = record { some = omega arith; short = omega arith; bytes = bytes } })

-- ---- two names
pub same_is : (name other : List ℕ) → same_name name other ≡ true → name ≡ other
unfolding same_name
same_is [] [] e = refl
same_is [] (b ∷ other) e = absurd (false≢true e)
same_is (a ∷ name) [] e = absurd (false≢true e)
same_is (a ∷ name) (b ∷ other) e =
    let both = both_met (eqb a b) (same_name name other) e in
    ap₂ (λ (x : ℕ) (xs : List ℕ). x ∷ xs) (eqb-true a b both.0) (same_is name other both.1)

pub same_self : (name : List ℕ) → same_name name name ≡ true
unfolding same_name
same_self [] = refl
same_self (b ∷ name) = rw (eq-eqb b b refl, same_self name)

module _ (names : List ℕ) (a b : NamePlace) (p : is_wrong names a ≡ false) (q : is_wrong names b ≡ false) where
  abbrev in_a : a.place + a.size ≤ length names
  in_a = (right_stands names a p).inside

  abbrev in_b : b.place + b.size ≤ length names
  in_b = (right_stands names b q).inside

  -- a byte of a name stands in the bytes
  name_byte : (at : NamePlace) (i : ℕ) → i < at.size → get_or (name_bytes names at) i 0 ≡ byte_at names (at.place + i)
  name_byte at i l = get_or-take at.size (drop at.place names) i 0 l ∙ get_or-drop at.place names i 0

  -- one key, one name
  key_name : place_key names a ≡ place_key names b → name_bytes names a ≡ name_bytes names b
  key_name e =
      let r = same_bytes_lem names a.place b.place a.size b.size a.size b.size
      (omega (arith, right_run names a p)) (omega (arith, right_run names b q)) e in
      let n = name_size names a in_a in
      let m = name_size names b in_b in
      ext_get_or 0 (name_bytes names a) (name_bytes names b) (omega (arith, r.0))
      (λ i l. name_byte a i (omega arith) ∙ same_byte names a.size a.place b.place i r.1 (omega arith) ∙ sym (name_byte b i (omega (arith, r.0))))

  -- one name, one key
  name_key : name_bytes names a ≡ name_bytes names b → place_key names a ≡ place_key names b
  name_key e =
      let size : a.size ≡ b.size = sym (name_size names a in_a) ∙ ap length e ∙ name_size names b in_b in
      bytes_key names a.size a.place b.place
      (λ i l. sym (name_byte a i l) ∙ ap (λ (bytes : List ℕ). get_or bytes i 0) e ∙ name_byte b i (omega (arith, size)))
      ∙ ap (λ (k : ℕ). key_from k names b.place) size

  key_test : eqb (place_key names b) (place_key names a) ≡ same_name (name_bytes names a) (name_bytes names b)
  key_test =
      one_test _ _
      (λ t. rw (sym (key_name (sym (eqb-true _ _ t)))) (same_self (name_bytes names a)))
      (λ t. eq-eqb _ _ (sym (name_key (same_is _ _ t))))

-- ---- the names of curves
-- a key stands among those of some names exactly when its name does
among_names : (names : List ℕ) (curves : List (List ℤ)) (at : NamePlace) → is_wrong names at ≡ false → any_wrong names curves ≡ false
    → list_any (λ key. eqb key (place_key names at)) (keys_of names curves) ≡ is_one_of (name_bytes names at) (names_of (map (curve_in names) curves))
unfolding keys_of any_wrong is_one_of curve_in
among_names names [] at p e = refl
among_names names (curve ∷ curves) at p e =
    let both = or-none _ _ e in
    rw (key_test names at (name_place_in curve 0) p both.0, among_names names curves at p both.1)

-- so two keys are the same exactly when two names are
pub keys_twins : (names : List ℕ) (curves : List (List ℤ)) → any_wrong names curves ≡ false
    → twin_keys (keys_of names curves) ≡ has_twins (names_of (map (curve_in names) curves))
unfolding twin_keys keys_of any_wrong has_twins curve_in
keys_twins names [] e = refl
keys_twins names (curve ∷ curves) e =
    let both = or-none _ _ e in
    rw (among_names names curves (name_place_in curve 0) both.0 both.1, keys_twins names curves both.1)

-- ---- keys one by one
module _ (keys : List ℕ) (i : ℕ) where
  -- after the last key there is none more
  pub twin_past : length keys ≤ i → twin_keys (drop i keys) ≡ false
  unfolding twin_keys
  twin_past h = rw (drop_of_length-le keys h)

  -- a key, and those behind it
  pub twin_turn : {r : Bool} → i < length keys
      → r ≡ list_any (λ key. eqb key (get_or keys i 0)) (take (length keys - (i + 1)) (drop (i + 1) keys))
      → twin_keys (drop i keys) ≡ (r || twin_keys (drop (i + 1) keys))
  unfolding twin_keys
  twin_turn some e =
      let rest = take_all (length keys - (i + 1)) (drop (i + 1) keys) (omega (arith, length-drop (i + 1) keys)) in
      let cut : drop i keys ≡ get_or keys i 0 ∷ drop (i + 1) keys = drop-cons keys i 0 some ∙ rw add-one in
      ap twin_keys cut ∙ ap (λ (b : Bool). b || twin_keys (drop (i + 1) keys)) (sym (e ∙ rw rest))

-- ---- a name as it is read
module _ (names : List ℕ) (at : NamePlace) where
  -- a wrong one
  pub read_wrong : is_wrong names at ≡ true → None ≡ key_read names at
  unfolding key_read
  read_wrong t = rw t

  -- one whose bytes are all counted
  pub read_run : {r : ReadName} → at.place ≤ length names → 1 ≤ at.size → at.size ≤ 8 → r ≡ run_at at.size names at.place → at.size ≤ r.size
      → Some r.key ≡ key_read names at
  unfolding key_read
  read_run {r} inside some short e whole =
      let counted : r.size ≡ name_run at.size names at.place = ap (λ (x : ReadName). x.size) e in
      let n : name_run at.size names at.place ≡ at.size = omega (arith, counted, run_most names at.size at.place) in
      ap (λ (x : ReadName). Some x.key) e ∙ ap (λ (k : ℕ). Some (key_from k names at.place)) n
      ∙ sym (rw (run_right names at inside short (omega (arith, n)) some))
