-- `write` of a count: the digits that are left, before those behind them, are all digits.
use Rattle.std.proofs.Common.{◌≡◌, ◌++◌, length, drop}
use Rattle.decimal.proofs.DecimalLaws.{last_digits}
use Rattle.decimal.proofs.U32Text.write.Given as goal

abbrev pub invariant-loop-place : goal.invariant-loop-place
invariant-loop-place l = last_digits (length l.part) l.self ≡ last_digits l.place l.rest ++ drop l.place l.part
