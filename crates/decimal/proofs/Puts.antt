-- A text put where there is room is written; without room nothing changes.
-- Assumes nothing.
use Prim.Native.Nat.{ℕ, ◌+◌, ◌-◌, ◌≤◌, ◌<◌}
use mathlib.Core.Path.{◌≡◌, refl, sym, ap, ◌∙◌}
use mathlib.Core.List.{List, ◌++◌}
use native.Mathlib.Omega.{arith}
use lib.ListN.{length, take, drop}
use lib.Seq.{sets, sets-eq, take_all}
use borrow.Rule.Slice.PartMut.{put_mid, mid_of, mid_len}
use borrow.Author.Tests.{le-leb, lt-leb}
use Rattle.std.proofs.lemmas.Slice.{put_mid-paste}
use Rattle.decimal.specs.Put.{put_at, after_put}
use Rattle.decimal.specs.Places.{Puts, HasRoom, Wrote}
use Rattle.decimal.specs.declared.Place.{Place}

module _ (at : ℕ) (text buffer : List ℕ) where
  module _ (room : at + length text ≤ length buffer) where
    place_behind : after_put at text (length buffer) ≡ at + length text
    unfolding after_put
    place_behind = rw (le-leb _ _ room)

    put_sets : put_at at text buffer ≡ sets buffer at text
    unfolding put_at
    put_sets = rw (le-leb _ _ room, sets-eq text buffer at room)

    -- what is stored is put
    pub stored_put : {next : ℕ} {after : List ℕ} → next ≡ at + length text → after ≡ sets buffer at text
        → (next ≡ after_put at text (length buffer)) × (after ≡ put_at at text buffer)
    stored_put n m = (n ∙ sym place_behind, m ∙ sym put_sets)

    -- a part of the text's size, written over
    pub put_part : {size : ℕ} {part : List ℕ} → size ≡ length text → (length (mid_of at (at + size - at) buffer) ≡ length text → part ≡ text)
        → (at + size ≡ after_put at text (length buffer)) × (put_mid at (at + size - at) buffer part ≡ put_at at text buffer)
    unfolding put_at
    put_part {size} {part} s written =
        let n = mid_len at (at + size) buffer (omega arith) in (
          ap (λ (k : ℕ). at + k) s ∙ sym place_behind,
          put_mid-paste at (at + size - at) buffer part text (length text) (written (n ∙ omega arith)) (omega arith) refl
              ∙ ap (λ (p : List ℕ). take at buffer ++ p ++ drop (at + length text) buffer) (take_all (length text) text (omega arith))
              ∙ sym (simp (le-leb _ _ room) refl),
        )

  -- without room
  pub put_none : length buffer < at + length text → (at ≡ after_put at text (length buffer)) × (buffer ≡ put_at at text buffer)
  unfolding after_put put_at
  put_none h = (rw (lt-leb _ _ h), rw (lt-leb _ _ h))

-- with room, what is put is written
pub puts_wrote : (before after : Place) (text : List ℕ) → HasRoom before text → Puts before after text → Wrote before after text
puts_wrote before after text room p =
    (p.0 ∙ place_behind before.at text before.buffer.now room, p.1 ∙ put_sets before.at text before.buffer.now room, p.2)
