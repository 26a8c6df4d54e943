-- `card::profile_at` meets its contract.
-- Assumes nothing.
use Rattle.std.proofs.Common.{◌≡◌, ◌≤◌, true, rules, sym, ◌∙◌}
use Rattle.card.specs.Profile.{profiles, no_profile}
use Rattle.card.specs.Words.{outside}
use Rattle.card.proofs.Entries.{from_one, none_outside}
use Rattle.card.proofs.profile_at.Goals as goal

pub returns-then-not-contains : goal.returns-then-not-contains
returns-then-not-contains c =
    let is : outside c.args.number 1 5 ≡ true = search rules in
    let none : c.default.result ≡ no_profile = search rules in
    none ∙ sym (none_outside _ is)

pub returns : goal.returns
unfolding profiles
returns c =
    let least : 1 ≤ c.args.number = search rules in
    sym (from_one _ least)
