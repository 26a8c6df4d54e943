-- The number of each reason to refuse a day's cards.
-- Assumes nothing.
use Rattle.std.specs.Prelude.{ℕ}
use Rattle.day.specs.declared.DayRefusal.{DayRefusal}
use Rattle.day.specs.declared.DayRefusal.TheVariants.{ManyCards, ShortReplies}

abbrev pub day_refusal_number : DayRefusal → ℕ
day_refusal_number ManyCards = 29
day_refusal_number ShortReplies = 30
