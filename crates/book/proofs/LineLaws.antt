-- Contents lines and bodies at places of a text: how they are read step by step.
-- Assumes nothing.
use Rattle.std.proofs.Common.{sym, cond, Bool, true, Option, ℕ, zero, suc, ◌+◌, ◌≤◌, ◌<◌, ◌≡◌, refl, ap, ◌∙◌, false, List, eqb, eq-eqb, ne_eqb, Some, None, Ok, Err}
use Rattle.decimal.proofs.Choices.{none_left}
use Rattle.book.specs.Number.{number_at, Field}
use Rattle.book.specs.Name.{name_at, twin_at}
use Rattle.book.specs.Contents.{headed, heading_at, contents_line_of, contents_line, Heading, Line}
use Rattle.book.specs.Body.{end_of, last_at, field_then, last_line, body_from, LastNumbers}
use Rattle.book.specs.Book.{fault_number}
use Rattle.book.specs.Reading.{key_at, read_at}
use Rattle.book.specs.declared.text.ReadName.{ReadName}
use Rattle.book.specs.declared.Fault.{Fault}
use Rattle.book.specs.declared.Fault.TheVariants.{Body}
use Rattle.book.proofs.Replies.{fault_some}

-- a blank stands before another number of a body
pub end_some : (k : ℕ) → (k ≡ 0 → ⊥) → end_of k ≡ 32
end_some zero h = absurd (h refl)
end_some (suc k) h = refl

-- one number of a body before its unit, and what follows it
pub body_turn : (text : List ℕ) (at k m : ℕ) {f : Field} → k ≡ suc m → number_at text at 32 ≡ f → body_from k text at ≡ field_then f (body_from m text)
unfolding body_from
body_turn text at k m more q = ap (λ (i : ℕ). body_from i text at) more ∙ ap (λ (g : Field). field_then g (body_from m text)) q

-- before the unit no number is left
pub body_none : (text : List ℕ) (at k : ℕ) → k ≤ 0 → body_from k text at ≡ body_from 0 text at
body_none text at = none_left (λ k. body_from k text at)

-- from the unit on, by the last numbers
pub body_last : (text : List ℕ) (at : ℕ) {l : LastNumbers} → last_at text at ≡ l → body_from 0 text at ≡ last_line l
unfolding body_from
body_last text at e = ap last_line e

-- a body's only fault is 26
abbrev pub Faults26 : Line → Type 0
Faults26 (Ok p) = Unit
Faults26 (Err fault) = fault ≡ Body

field_26 : (f : Field) (go : ℕ → Line) → ((p : ℕ) → Faults26 (go p)) → Faults26 (field_then f go)
field_26 (Some (v, next)) go h = h next
field_26 None go h = refl

last_26 : (l : LastNumbers) → Faults26 (last_line l)
last_26 (Some (numbers, next)) = tt
last_26 None = refl

pub body_26 : (k : ℕ) (text : List ℕ) (at : ℕ) → Faults26 (body_from k text at)
unfolding body_from
body_26 zero text at = last_26 (last_at text at)
body_26 (suc k) text at = field_26 (number_at text at 32) (body_from k text) (λ p. body_26 k text p)

module _ (text : List ℕ) (at : ℕ) where
  -- a name of n bytes, and what the number after it says
  pub heading_is : (n : ℕ) → n ≡ name_at text at → (n ≡ 0 → ⊥) → heading_at text at ≡ headed n (number_at text (at + n + 1) 10)
  unfolding heading_at
  heading_is n e h = simp (← e, ne_eqb _ _ h)

-- a contents line by the name that is read at its place, and by the number that is read behind it
abbrev pub headed_by : List ℕ → ℕ → Option ReadName → Heading
headed_by text at (Some name) = headed name.size (number_at text (at + name.size + 1) 10)
headed_by text at None = None

by_name : (text : List ℕ) (at n key : ℕ) (b : Bool) → ◌≡◌ {A = Heading} (cond b None (headed n (number_at text (at + n + 1) 10))) (headed_by text at (cond b None (Some (record { size = n; key = key }))))
by_name text at n key true = refl
by_name text at n key false = refl

pub heading_by : (text : List ℕ) (at : ℕ) {name : Option ReadName} → name ≡ read_at text at → heading_at text at ≡ headed_by text at name
unfolding heading_at
heading_by text at e = by_name text at (name_at text at) (key_at text at) (eqb (name_at text at) 0) ∙ ap (headed_by text at) (sym e)

pub heading_read_by : (text : List ℕ) (at : ℕ) {name : ReadName} {number : Field} → Some name ≡ read_at text at
    → number_at text (at + name.size + 1) 10 ≡ number → heading_at text at ≡ headed name.size number
heading_read_by text at {name} e q = heading_by text at e ∙ ap (headed name.size) q

module _ (text earlier : List ℕ) (at due : ℕ) where
  -- the fault of a contents line is no 0
  pub contents_fault : {fault : Fault} → contents_line text earlier at due ≡ Err fault → 0 < fault_number fault
  contents_fault {fault} e = fault_some fault

  module _ {size v next : ℕ} (e : heading_at text at ≡ Some (size, v, next)) where
    line_entry : contents_line text earlier at due ≡ contents_line_of text earlier at due (Some (size, v, next))
    unfolding contents_line
    line_entry = ap (contents_line_of text earlier at due) e

    -- after one whose number and name are right the next line follows
    pub line_good : v ≡ due → twin_at text earlier at size ≡ false → contents_line text earlier at due ≡ Ok next
    line_good h t = line_entry ∙ simp (eq-eqb _ _ h, t)
