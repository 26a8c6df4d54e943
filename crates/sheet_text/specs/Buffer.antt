-- What a text and a lent buffer of bytes are answered, and the buffer afterwards.
-- Assumes nothing.
use Rattle.std.specs.Prelude.{ℕ, cond, List, ◌++◌, leb, length, drop, Option, None, Some}

-- a text of `size` bytes in a buffer of `room` bytes: whether it fits, and then the count of bytes written
unfoldable pub sized : ℕ → ℕ → Option ℕ
sized size room = cond (leb size room) (Some size) None

abbrev pub written_of : List ℕ → ℕ → Option ℕ
written_of text room = sized (length text) room

-- the text, and the later bytes kept; where the buffer is too short for it, nothing is written
unfoldable pub buffer_after : List ℕ → List ℕ → List ℕ
buffer_after text buffer = cond (leb (length text) (length buffer)) (text ++ drop (length text) buffer) buffer
