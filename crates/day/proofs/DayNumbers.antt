-- When the call gives which number.
-- Assumes nothing.
use mathlib.Core.Path.{◌≡◌, refl}
use mathlib.Core.Bool.{Bool, true, false, cond, true≢false, false≢true}
use mathlib.Core.Logic.{◌↔◌}
use Prim.Native.Nat.{ℕ, ◌*◌, ◌≤◌}
use native.Mathlib.Omega.{arith}
use lib.Dec.{ltb}
use borrow.Author.Tests.{ltb-true, ltb-false, lt-ltb, le-ltb, ne_eqb}
use Rattle.card.specs.Table.{reply_by}
use Rattle.day.specs.Day.{most_cards, reply_width, day_number, day_reply}
use Rattle.day.specs.Numbers.{NumbersTheorem}

-- the number, by whether each of the two reasons is met
abbrev number_by : Bool → Bool → ℕ
number_by many short = cond many 29 (cond short 30 0)

many_if : (a b : Bool) → (number_by a b ≡ 29) ↔ (a ≡ true)
many_if true b = (λ _. refl, λ _. refl)
many_if false true = (λ e. absurd (omega (arith, e)), λ h. absurd (false≢true h))
many_if false false = (λ e. absurd (omega (arith, e)), λ h. absurd (false≢true h))

short_if : (a b : Bool) → (number_by a b ≡ 30) ↔ ((a ≡ false) × (b ≡ true))
short_if true b = (λ e. absurd (omega (arith, e)), λ h. absurd (true≢false h.0))
short_if false true = (λ _. (refl, refl), λ _. refl)
short_if false false = (λ e. absurd (omega (arith, e)), λ h. absurd (false≢true h.1))

none_if : (a b : Bool) → (number_by a b ≡ 0) ↔ ((a ≡ false) × (b ≡ false))
none_if true b = (λ e. absurd (omega (arith, e)), λ h. absurd (true≢false h.0))
none_if false true = (λ e. absurd (omega (arith, e)), λ h. absurd (true≢false h.1))
none_if false false = (λ _. (refl, refl), λ _. refl)

pub numbers_rule : NumbersTheorem
unfolding day_number day_reply reply_by
numbers_rule count room =
    let least = reply_width * count in
    let many = ltb most_cards count in
    let short = ltb room least in
    record {
      many = (λ e. ltb-true most_cards count ((many_if many short).0 e), λ h. (many_if many short).1 (lt-ltb most_cards count h));
      short = (
        λ e. (ltb-false most_cards count ((short_if many short).0 e).0, ltb-true room least ((short_if many short).0 e).1),
        λ h. (short_if many short).1 (le-ltb most_cards count h.0, lt-ltb room least h.1),
      );
      right = (
        λ e. (ltb-false most_cards count ((none_if many short).0 e).0, ltb-false room least ((none_if many short).0 e).1),
        λ h. (none_if many short).1 (le-ltb most_cards count h.0, le-ltb room least h.1),
      );
      counted = λ e. rw e;
      not_counted = λ ne. rw (ne_eqb (number_by many short) 0 ne);
    }

-- what is asked of a call that gives 0
pub room_for_replies : (count room : ℕ) → (day_reply count room).number ≡ 0 → reply_width * count ≤ room
room_for_replies count room e = ((numbers_rule count room).right.0 e).1
