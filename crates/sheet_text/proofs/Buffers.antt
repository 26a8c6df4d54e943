-- Laws of a measured text, and of a lent buffer after a text.
-- Assumes nothing.
use Rattle.std.proofs.Common.{ℕ, ◌+◌, ◌≤◌, ◌<◌, ◌≡◌, List, [], ◌∷◌, ◌++◌, append-nil, length, length-append, Bool, true, false, cond, Option, None, Some, IsSomeAnd, leb, le-leb, leb-true, leb-false, refl, sym, ap, subst, ◌∙◌, arith}
use Rattle.std.specs.Bool.{then_some}
use Rattle.std.proofs.lemmas.Bool.{lt-leb}
use Rattle.std.proofs.lemmas.Option.{none-some, cond_some}
use Rattle.std.proofs.lemmas.List.Edits.{sets, sets-eq}
use Rattle.decimal.specs.Decimal.{count_text}
use Rattle.decimal.specs.Places.{Puts, HasRoom, Wrote}
use Rattle.decimal.specs.declared.Place.{Place}
use Rattle.decimal.proofs.Choices.{cond_case}
use Rattle.decimal.proofs.Rests.{Rest, rest_all, rest_room, rest_next, rest_put, rest_none}
use Rattle.sheet_text.specs.Buffer.{sized, buffer_after}
use Rattle.sheet_text.specs.Text.{ended_text}

some_by : {A : Type 0} (b : Bool) (x : A) → then_some b x ≡ cond b (Some x) None
some_by true x = refl
some_by false x = refl

module _ (size room : ℕ) where
  -- the test of a size
  pub tested : then_some (leb size room) size ≡ sized size room
  unfolding sized
  tested = some_by (leb size room) size

  -- a text that fits, and one that does not
  pub sized_fits : size ≤ room → sized size room ≡ Some size
  unfolding sized
  sized_fits h = rw (le-leb size room h)

  pub sized_over : room < size → sized size room ≡ None
  unfolding sized
  sized_over h = rw (lt-leb size room h)

  -- what is said to fit does, and its bytes are counted
  pub fits_of : {n : ℕ} → Some n ≡ sized size room → (size ≤ room) × (n ≡ size)
  unfolding sized
  fits_of {n} e = let c = cond_some (leb size room) size n (sym e) in (leb-true size room c.0, sym c.1)

  -- what is said not to fit does not
  pub over_of : None ≡ sized size room → room < size
  unfolding sized
  over_of e =
      cond_case (λ (o : Option ℕ). None ≡ o → room < size) (leb size room) (Some size) None (λ t n. absurd (none-some size n)) (λ t n. leb-false size room t) e

  -- what fits is said to, and the bytes that are counted lie in the buffer
  pub fits_said : {w : Option ℕ} {after : ℕ} → w ≡ sized size room → after ≡ room → size ≤ room → IsSomeAnd w (λ n. n ≤ after)
  fits_said {w} {after} e same h = subst (λ (o : Option ℕ). IsSomeAnd o (λ n. n ≤ after)) (sym (e ∙ sized_fits h)) (omega (arith, same, h))

-- a buffer too short for a text is kept
pub kept_over : (text buffer : List ℕ) → length buffer < length text → buffer ≡ buffer_after text buffer
unfolding buffer_after
kept_over text buffer h = rw (lt-leb (length text) (length buffer) h)

-- no text changes nothing
pub none_after : (buffer : List ℕ) → buffer ≡ buffer_after [] buffer
unfolding buffer_after
none_after buffer = rw (le-leb 0 (length buffer) (omega arith))

-- a text that fits, written part by part from the buffer's start on: what is left of it
pub record Begun (text buffer : List ℕ) (now : Place) (rest : List ℕ) : Type 0 where
  pub start : Place
  pub first : start.at ≡ 0
  pub same : start.buffer.now ≡ buffer
  pub room : HasRoom start text
  pub left : Rest start now text rest

-- its first part
pub begun : (text buffer front behind : List ℕ) {size : ℕ} → Some size ≡ sized (length text) (length buffer) → text ≡ front ++ behind → (start next : Place) → start.at ≡ 0
    → start.buffer.now ≡ buffer → Puts start next front → Begun text buffer next behind
begun text buffer front behind fits e start next first same p =
    let room : HasRoom start text = omega (arith, (fits_of (length text) (length buffer) fits).0, first, ap length same) in
    record { start = start; first = first; same = same; room = room; left = rest_put start start text front behind e (rest_all start text refl) room next p }

module _ {text buffer : List ℕ} {now : Place} (part behind : List ℕ) (b : Begun text buffer now (part ++ behind)) where
  -- a part further on
  pub room_on : HasRoom now part
  room_on = rest_room b.start now text part behind refl b.left b.room

  pub put_on : (next : Place) → Puts now next part → Begun text buffer next behind
  put_on next p = record { start = b.start; first = b.first; same = b.same; room = b.room; left = rest_put b.start now text part behind refl b.left b.room next p }

  pub written_on : (next : Place) → Wrote now next part → Begun text buffer next behind
  written_on next w = record { start = b.start; first = b.first; same = b.same; room = b.room; left = rest_next b.start now text part behind refl b.left next w }

module _ {text buffer : List ℕ} {now : Place} (part : List ℕ) (b : Begun text buffer now part) where
  -- its last part
  pub room_last : HasRoom now part
  room_last = rest_room b.start now text part [] (sym (append-nil part)) b.left b.room

  pub written_last : (next : Place) → Wrote now next part → next.buffer.now ≡ buffer_after text buffer
  unfolding buffer_after
  written_last next w =
      let all = rest_none b.start next text refl (rest_next b.start now text part [] (sym (append-nil part)) b.left next w) in
      let fits : length text ≤ length buffer = omega (arith, b.room, b.first, ap length b.same) in
      let p : 0 + length text ≡ length text = omega arith in
      all.1 ∙ ap (λ (l : List ℕ). sets l b.start.at text) b.same ∙ ap (λ (n : ℕ). sets buffer n text) b.first
      ∙ sets-eq text buffer 0 (omega (arith, fits)) ∙ rw (le-leb (length text) (length buffer) fits, p)

-- how many bytes the end of a line has
pub ended_length : (word : List ℕ) (v : ℕ) → length (ended_text word v) ≡ length word + length (count_text v) + 1
unfolding ended_text
ended_length word v = length-append word (count_text v ++ (10 ∷ [])) ∙ omega (arith, length-append (count_text v) (10 ∷ []))
