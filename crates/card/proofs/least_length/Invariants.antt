-- The invariant of `card::least_length`: the search from the entry on, with the length before and the radii that were looked at, finds what is
-- sought, and the radius before is past.
-- Assumes nothing.
use Rattle.std.proofs.Common.{◌≡◌, ℕ, ◌+◌, ◌<◌, drop}
use Rattle.card.specs.Clothoid.{clothoids, least_found, search}
use Rattle.card.proofs.Turns.{entry}
use Rattle.card.proofs.least_length.Given as goal

abbrev pub invariant-loop-i : goal.invariant-loop-i
invariant-loop-i l = record {
  found : search l.before l.i (drop l.i clothoids) l.sought ≡ least_found l.radius;
  past : (k : ℕ) → l.i ≡ k + 1 → (entry clothoids k).radius < l.sought;
}
