-- `book::lines::body` meets its contract.
-- Assumes nothing.
use Rattle.std.proofs.Common.{◌+◌, ◌-◌, ap, arith, lit<, rules, set, suc, sym, ℕ, ℤ, ◌∙◌, ◌≡◌}
use Rattle.std.proofs.lemmas.List.Edits.{sets}
use Rattle.book.proofs.LineLaws.{body_turn}
use Rattle.book.proofs.NumberText.{number_read}
use Rattle.book.proofs.Stores.{stores_turn}
use Rattle.book.proofs.Places.{read_back}
use Rattle.book.specs.Body.{front_numbers, numbers_at}
use Rattle.book.proofs.lines.body.Goals as goal

pub returns-in_err-value-clause-value : goal.returns-in_err-value-clause-value
returns-in_err-value-clause-value c =
    let a = c.args in
    let l = c.loop-out in
    let m : ℕ = a.start + front_numbers - (l.out + 1) in
    let more : a.start + front_numbers - l.out ≡ suc m = omega arith in
    let e = l.invariant.rest ∙ body_turn a.text.now l.at (a.start + front_numbers - l.out) m more (sym c.read_number.ensures) in
    rw e (search rules)

pub plain-requires : goal.plain-requires
plain-requires c = (number_read c.args.text.now 32 (lit< tt) c.loop-out.at _ _ (sym c.read_number.ensures ∙ c.in_ok-value.ensures.ok_part)).0

pub loop-out-preserved : goal.loop-out-preserved
loop-out-preserved c =
    let a = c.args in
    let s = a.text.now in
    let l = c.loop-out in
    let m : ℕ = a.start + front_numbers - (l.out + 1) in
    let more : a.start + front_numbers - l.out ≡ suc m = omega arith in
    let q = sym c.read_number.ensures ∙ c.in_ok-value.ensures.ok_part in
    let number = read_back c.plain.type_inv c.plain.ensures in
    record {
      rest = l.invariant.rest ∙ body_turn s l.at (a.start + front_numbers - l.out) m more q;
      stored = l.invariant.stored
          ∙ stores_turn s l.at (a.start + front_numbers - l.out) m l.draft l.out more q
          ∙ ap (λ (z : ℤ). sets (set l.draft l.out z) (l.out + 1) (numbers_at m s c.in_ok-value.next)) (sym number);
    }
