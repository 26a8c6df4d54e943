-- A text written part by part, from a place on: what is left of it behind the parts so far.
-- Assumes nothing.
use Prim.Native.Nat.{ℕ, ◌+◌}
use mathlib.Core.Path.{◌≡◌, refl, sym, ap, ◌∙◌}
use mathlib.Core.List.{List, [], ◌++◌}
use native.Mathlib.Omega.{arith}
use lib.ListN.{length, length-append}
use lib.Seq.{sets}
use Rattle.decimal.specs.Places.{Puts, HasRoom, Wrote}
use Rattle.decimal.specs.declared.Place.{Place}
use Rattle.decimal.proofs.Puts.{puts_wrote}
use Rattle.decimal.proofs.Stores.{stores_next, wrote_size}

-- from `start` on up to `now` all of the text is written but the rest
pub record Rest (start now : Place) (text rest : List ℕ) : Type 0 where
  pub behind : now.at + length rest ≡ start.at + length text
  pub stored : sets start.buffer.now start.at text ≡ sets now.buffer.now now.at rest
  pub size : length now.buffer.now ≡ length start.buffer.now
  pub reference : now.buffer.ghost_name ≡ start.buffer.ghost_name

-- at the start all of it is left
pub rest_all : (start : Place) (text : List ℕ) {rest : List ℕ} → rest ≡ text → Rest start start text rest
rest_all start text e = record {
  behind = ap (λ (t : List ℕ). start.at + length t) e;
  stored = ap (sets start.buffer.now start.at) (sym e);
  size = refl;
  reference = refl;
}

module _ (start now : Place) (text part behind : List ℕ) {rest : List ℕ} (e : rest ≡ part ++ behind) (left : Rest start now text rest) where
  -- the next part has room
  pub rest_room : HasRoom start text → HasRoom now part
  rest_room room = omega (arith, ap length e, length-append part behind, left.behind, left.size, room)

  -- and is written
  pub rest_next : (next : Place) → Wrote now next part → Rest start next text behind
  rest_next next w = record {
    behind = omega (arith, ap length e, length-append part behind, left.behind, w.0);
    stored = left.stored ∙ stores_next part behind now.buffer.now now.at e w.1 w.0;
    size = wrote_size now next part w ∙ left.size;
    reference = w.2 ∙ left.reference;
  }

  pub rest_put : HasRoom start text → (next : Place) → Puts now next part → Rest start next text behind
  rest_put room next p = rest_next next (puts_wrote now next part (rest_room room) p)

-- nothing is left
pub rest_none : (start now : Place) (text : List ℕ) {rest : List ℕ} → rest ≡ [] → Rest start now text rest → Wrote start now text
rest_none start now text e left = (
  omega (arith, ap length e, left.behind),
  sym (left.stored ∙ ap (sets now.buffer.now now.at) e),
  left.reference,
)
