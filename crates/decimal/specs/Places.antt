-- Texts put one behind another into a lent buffer, each at the place behind the one before it.
-- Assumes nothing.
use Rattle.std.specs.Prelude.{ℕ, ◌+◌, ◌≤◌, ◌≡◌, List, length}
use Rattle.std.proofs.lemmas.List.Edits.{sets}
use Rattle.decimal.specs.Put.{put_at, after_put}
use Rattle.decimal.specs.declared.Place.{Place}

-- a text put at a place of a buffer, all of it or nothing: the place behind it, and the buffer afterwards
abbrev pub Puts : Place → Place → List ℕ → Type 0
Puts before after text =
    (after.at ≡ after_put before.at text (length before.buffer.now))
    × (after.buffer.now ≡ put_at before.at text before.buffer.now)
    × (after.buffer.ghost_name ≡ before.buffer.ghost_name)

-- a place with room for a text
abbrev pub HasRoom : Place → List ℕ → Type 0
HasRoom place text = place.at + length text ≤ length place.buffer.now

-- a text written at a place with room for it
abbrev pub Wrote : Place → Place → List ℕ → Type 0
Wrote before after text =
    (after.at ≡ before.at + length text)
    × (after.buffer.now ≡ sets before.buffer.now before.at text)
    × (after.buffer.ghost_name ≡ before.buffer.ghost_name)
