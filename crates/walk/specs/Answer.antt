-- What a walked table is answered, by its parts.
-- Assumes nothing.
use Rattle.std.specs.Prelude.{ℕ, Result, Ok, Err}
use Rattle.card.specs.declared.reasons.Refusal.{Refusal}
use Rattle.walk.specs.declared.Walked.{Walked}

-- the reply as the table call gives it: the count of rows, or the refusal
abbrev pub count_in : Result Walked Refusal → Result ℕ Refusal
count_in (Ok walked) = Ok walked.count
count_in (Err refusal) = Err refusal

-- how many rows were worked afresh: nought on a refusal
abbrev pub fresh_in : Result Walked Refusal → ℕ
fresh_in (Ok walked) = walked.fresh
fresh_in (Err refusal) = 0
