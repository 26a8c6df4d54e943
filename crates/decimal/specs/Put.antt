-- Bytes put into a lent buffer from a place on: all of them, or none where there is no room for all.
-- Assumes nothing.
use Rattle.std.specs.Prelude.{ℕ, ◌+◌, List, ◌++◌, cond, leb, length, take, drop}

-- the buffer afterwards: the bytes before and behind are kept
unfoldable pub put_at : ℕ → List ℕ → List ℕ → List ℕ
put_at at bytes buffer =
    cond (leb (at + length bytes) (length buffer)) (take at buffer ++ bytes ++ drop (at + length bytes) buffer) buffer

-- the place behind them in a buffer of `room` bytes; where none is put, the place itself
unfoldable pub after_put : ℕ → List ℕ → ℕ → ℕ
after_put at bytes room = cond (leb (at + length bytes) room) (at + length bytes) at
