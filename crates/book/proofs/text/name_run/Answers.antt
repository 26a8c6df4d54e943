-- `book::text::name_run` meets its contract.
-- Assumes nothing.
use Rattle.std.proofs.Common.{◌+◌, ◌-◌, List, ap, ap₂, arith, false, lit<, refl, sym, true, ℕ, ◌∙◌, ◌≡◌}
use Rattle.book.proofs.Keys.{key_more}
use Rattle.book.proofs.Names.{name_byte_inside, run_none, run_stop, run_turn}
use Rattle.book.proofs.Places.{base_more, power_wide}
use Rattle.book.specs.Name.{is_name_byte, name_run}
use Rattle.book.specs.Number.{byte_at}
use Rattle.book.specs.Reading.{key_from, run_at}
use Rattle.book.specs.declared.text.ReadName.{ReadName}
use Rattle.book.proofs.text.name_run.Goals as goal

-- what was run through, where all of it was
run_is : (most : ℕ) (text : List ℕ) (from : ℕ) {n key : ℕ} → n ≡ name_run most text from → key ≡ key_from n text from → ◌≡◌ {A = ReadName} (record { size = n; key = key }) (run_at most text from)
run_is most text from all e = λ i. record { size = all i; key = (e ∙ ap (λ (k : ℕ). key_from k text from) all) i }

pub loop-n-init : goal.loop-n-init
unfolding key_from
loop-n-init c =
    let a = c.args in
    let z : a.from + 0 ≡ a.from = omega arith in
    let w : a.most - 0 ≡ a.most = omega arith in
    record {
      inside = λ h. absurd (omega arith);
      small = omega arith;
      kept = refl;
      rest = omega (arith, ap₂ (λ (k p : ℕ). name_run k a.text.now p) w z);
    }

pub returns-then-not-is_name_byte : goal.returns-then-not-is_name_byte
returns-then-not-is_name_byte c =
    let a = c.args in
    let l = c.loop-n in
    let t : is_name_byte (byte_at a.text.now (a.from + l.n)) ≡ false = ap is_name_byte (sym c.byte_at-b.ensures) ∙ sym c.is_name_byte.ensures ∙ c.if-not-is_name_byte.true in
    run_is a.most a.text.now a.from (omega (arith, run_stop a.text.now (a.most - l.n) (a.from + l.n) t)) l.invariant.kept

pub overflow_mul-key : goal.overflow_mul-key
overflow_mul-key c = let l = c.loop-n in omega (arith, power_wide l.n 7 l.key (lit< tt) (omega arith) l.invariant.small)

pub overflow_add-key : goal.overflow_add-key
overflow_add-key c = let l = c.loop-n in omega (arith, power_wide l.n 7 l.key (lit< tt) (omega arith) l.invariant.small)

pub loop-n-preserved : goal.loop-n-preserved
loop-n-preserved c =
    let a = c.args in
    let s = a.text.now in
    let l = c.loop-n in
    let t : is_name_byte (byte_at s (a.from + l.n)) ≡ true = ap is_name_byte (sym c.byte_at-b.ensures) ∙ sym c.is_name_byte.ensures ∙ c.if-not-is_name_byte.false in
    record {
      inside = λ h. omega (arith, name_byte_inside s (a.from + l.n) t);
      small = base_more l.n l.key _ l.invariant.small (omega arith);
      kept = omega (arith, key_more s l.n a.from);
      rest = l.invariant.rest ∙ run_turn s a.most a.from l.n c.loop-n-test.true t;
    }

pub returns : goal.returns
returns c =
    let a = c.args in
    let l = c.loop-n in
    let z : a.most - l.n ≡ 0 = omega arith in
    let all : a.most ≡ name_run a.most a.text.now a.from =
    omega (arith, ap (λ (k : ℕ). name_run k a.text.now (a.from + l.n)) z, run_none a.text.now (a.from + l.n)) in
    let e : l.n ≡ a.most = omega arith in
    run_is a.most a.text.now a.from all (l.invariant.kept ∙ ap (λ (k : ℕ). key_from k a.text.now a.from) e)
