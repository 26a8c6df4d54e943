-- Laws of bytes that stand at a place of a text.
-- Assumes nothing.
use Rattle.std.proofs.Common.{ℕ, suc, ◌+◌, ◌≤◌, ◌<◌, ◌≡◌, refl, sym, ap, ◌∙◌, List, [], ◌∷◌, ◌++◌, append_assoc, arith, add-zero, add-one, length, drop, length-append, length-drop, drop-cons, drop-drop, get_or-drop}
use lib.Seq.{drop-append_seam}
use Rattle.book.specs.Number.{byte_at}
use Rattle.book.specs.Printed.{number_text, contents_text}
use Rattle.book.specs.LineMeaning.{Stands, Starts}

-- the first byte of what the text has from a place on
pub byte_there : (text : List ℕ) (at b : ℕ) (rest : List ℕ) → drop at text ≡ b ∷ rest → byte_at text at ≡ b
byte_there text at b rest e = ap (byte_at text) (sym (add-zero at)) ∙ sym (get_or-drop at text 0 0) ∙ ap (λ (r : List ℕ). byte_at r 0) e

-- what the text has after some bytes
pub rest_there : (text : List ℕ) (at : ℕ) (xs rest : List ℕ) → drop at text ≡ xs ++ rest → drop (at + length xs) text ≡ rest
rest_there text at xs rest e = sym (drop-drop (length xs) at text) ∙ ap (drop (length xs)) e ∙ drop-append_seam xs rest

-- no bytes stand anywhere, and a byte inside the text stands at its place
pub stands_none : (text : List ℕ) (at : ℕ) → Stands text at [] at
stands_none text at = record { there = refl; after = omega arith }

pub stands_one : (text : List ℕ) (at b : ℕ) → at < length text → byte_at text at ≡ b → Stands text at (b ∷ []) (at + 1)
stands_one text at b h e =
    record { there = drop-cons text at 0 h ∙ ap (λ (x : ℕ). x ∷ drop (suc at) text) e ∙ rw add-one; after = refl }

-- bytes, and bytes after them
module _ {text : List ℕ} {a c : ℕ} (xs ys : List ℕ) where
  pub stands_join : {b : ℕ} → Stands text a xs b → Stands text b ys c → Stands text a (xs ++ ys) c
  stands_join {b} s t = record {
    there = s.there ∙ ap (λ (r : List ℕ). xs ++ r) t.there ∙ sym (append_assoc xs ys (drop c text));
    after = omega (arith, length-append xs ys);
  }

  back : Stands text a (xs ++ ys) c → drop (a + length xs) text ≡ ys ++ drop c text
  back s = rest_there text a xs (ys ++ drop c text) (s.there ∙ append_assoc xs ys (drop c text))

  pub stands_front : Stands text a (xs ++ ys) c → Stands text a xs (a + length xs)
  stands_front s = record {
    there = s.there ∙ append_assoc xs ys (drop c text) ∙ ap (λ (r : List ℕ). xs ++ r) (sym (back s));
    after = refl;
  }

  pub stands_back : Stands text a (xs ++ ys) c → Stands text (a + length xs) ys c
  stands_back s = record { there = back s; after = omega (arith, length-append xs ys) }

module _ (text : List ℕ) (at : ℕ) where
  -- the place after bytes that the text at a place starts with
  pub starts_stands : (bytes : List ℕ) → Starts (drop at text) bytes → Stands text at bytes (at + length bytes)
  starts_stands bytes s = record {
    there = s.whole ∙ ap (λ (r : List ℕ). bytes ++ r) (sym (rest_there text at bytes s.rest s.whole));
    after = refl;
  }

  pub stands_starts : (bytes : List ℕ) (next : ℕ) → Stands text at bytes next → Starts (drop at text) bytes
  stands_starts bytes next s = record { rest = drop next text; whole = s.there }

  -- a contents line starts with its name and the blank
  pub name_starts : (name : List ℕ) (v : ℕ) → Starts (drop at text) (contents_text name v) → Starts (drop at text) (name ++ (32 ∷ []))
  name_starts name v s = record {
    rest = number_text v 10 ++ s.rest;
    whole = s.whole ∙ ap (λ (r : List ℕ). r ++ s.rest) (sym (append_assoc name (32 ∷ []) (number_text v 10)))
        ∙ append_assoc (name ++ (32 ∷ [])) (number_text v 10) s.rest;
  }

  -- the place after bytes of the text lies in it or at its end
  pub stands_in : (bytes : List ℕ) (next : ℕ) → Stands text at bytes next → at ≤ length text → next ≤ length text
  stands_in bytes next s h =
      omega (arith, s.after, sym (length-drop at text) ∙ ap length s.there ∙ length-append bytes (drop next text), length-drop next text)

  -- so does the place after some bytes that stand there, wherever that is
  pub stands_some : (bytes : List ℕ) (next : ℕ) → Stands text at bytes next → 0 < length bytes → next ≤ length text
  stands_some bytes next s h =
      omega (arith, s.after, sym (length-drop at text) ∙ ap length s.there ∙ length-append bytes (drop next text), length-drop next text)
