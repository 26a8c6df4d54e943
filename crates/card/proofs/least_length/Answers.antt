-- `card::least_length` meets its contract.
-- Assumes nothing.
use Rattle.std.proofs.Common.{◌≡◌, ◌+◌, ◌≤◌, ◌<◌, max, arith, rules, sym, ap, ◌∙◌}
use native.Mathlib.Nat.{min-le_right}
use Rattle.card.specs.Clothoid.{clothoids, found, least_found}
use Rattle.card.proofs.Clothoids.{search_finds, sought_up_to_2000}
use Rattle.card.proofs.Turns.{entry, turn_past, turn_at, turn_below}
use Rattle.card.proofs.least_length.Goals as goal

pub loop-i-init : goal.loop-i-init
loop-i-init c = record {
  found = search_finds _ ∙ ap least_found c.min-sought.ensures ∙ sought_up_to_2000 _;
  past = λ k none. absurd (omega arith);
}

pub loop-i-preserved : goal.loop-i-preserved
unfolding clothoids
loop-i-preserved c = record {
  found = sym (turn_past clothoids _ _ _ c.loop-i-test.true c.if-sought-entry.false) ∙ c.loop-i.invariant.found;
  past = λ k next.
      let here : (entry clothoids c.loop-i.i).radius < c.min-sought.result = c.if-sought-entry.false in
      let is : c.loop-i.i ≡ k = omega arith in
      rw is at here;
}

pub returns-then-sought-entry-2-clause-found : goal.returns-then-sought-entry-2-clause-found
unfolding clothoids
returns-then-sought-entry-2-clause-found c = sym (turn_at clothoids _ _ _ c.loop-i-test.true c.if-sought-entry-2.true) ∙ c.loop-i.invariant.found

pub returns-then-sought-entry-clause-found : goal.returns-then-sought-entry-clause-found
unfolding clothoids
returns-then-sought-entry-clause-found c =
    let longer : found (max c.loop-i.before (entry clothoids c.loop-i.i).length) (c.loop-i.i + 1) ≡ least_found c.args.radius =
    sym (turn_below clothoids _ _ _ c.loop-i-test.true c.if-sought-entry.true c.if-sought-entry-2.false) ∙ c.loop-i.invariant.found
    in
    search rules

pub unreachable-requires : goal.unreachable-requires
unfolding clothoids
unreachable-requires c =
    let low : c.min-sought.result ≤ 2000 = rw c.min-sought.ensures (min-le_right _ 2000) in
    let last : 2000 < c.min-sought.result = c.loop-i.invariant.past 19 (omega arith) in
    omega arith
