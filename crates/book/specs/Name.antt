-- Document 01, "The book of cards": names are 1 to 8 capitals or digits.
-- Assumes nothing.
use Rattle.std.specs.Prelude.{ℕ, zero, suc, ◌+◌, List, [], ◌∷◌, Bool, true, false, cond, ◌&&◌, ◌||◌, leb, eqb}
use Rattle.book.specs.Number.{byte_at}

-- a digit (bytes 48 to 57) or a capital (bytes 65 to 90)
abbrev pub is_name_byte : ℕ → Bool
is_name_byte b = (leb 48 b && leb b 57) || (leb 65 b && leb b 90)

-- how many bytes of a name stand from a place on, of at most k
unfoldable pub name_run : ℕ → List ℕ → ℕ → ℕ
name_run zero text at = 0
name_run (suc k) text at = cond (is_name_byte (byte_at text at)) (1 + name_run k text (at + 1)) 0

-- the size of the name at a place, one to eight bytes and then a blank (byte 32); 0 where there is none
unfoldable pub name_at : List ℕ → ℕ → ℕ
name_at text at = cond (eqb (byte_at text (at + name_run 8 text at)) 32) (name_run 8 text at) 0

-- whether the n bytes at a are those at b
unfoldable pub same_bytes : ℕ → List ℕ → ℕ → ℕ → Bool
same_bytes zero text a b = true
same_bytes (suc n) text a b = cond (eqb (byte_at text a) (byte_at text b)) (same_bytes n text (a + 1) (b + 1)) false

-- whether the name at `at`, of `size` bytes, stands at one of the places `earlier`; a name ends at its blank, so that is compared too
unfoldable pub twin_at : List ℕ → List ℕ → ℕ → ℕ → Bool
twin_at text [] at size = false
twin_at text (place ∷ earlier) at size = cond (same_bytes (size + 1) text place at) true (twin_at text earlier at size)
