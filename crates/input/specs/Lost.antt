-- What a reader has lost, where a read failed.
-- Assumes nothing.
use Rattle.std.specs.Prelude.{ℕ, ◌≤◌, Option, List, length, take}
use Rattle.std.specs.Io.KnownBytes.{Consumes}

-- the bytes that it has lost stand at the buffer's start, however many they are
abbrev pub Lost : Option (List ℕ) → Option (List ℕ) → List ℕ → Type 0
Lost old new buffer = (n : ℕ) × (n ≤ length buffer) × Consumes old new (take n buffer)
