-- `book::list_names::read_names` meets its contract.
-- Assumes nothing.
use Rattle.std.proofs.Common.{arith, length, length-set, refl, sym, ◌<◌, ◌∙◌, ℕ}
use Rattle.book.proofs.WriterCurves.{key_none, key_some, keys_none, keys_turn, names_read, wrong_turn}
use Rattle.book.proofs.list_names.read_names.Goals as goal

pub loop-i-init : goal.loop-i-init
loop-i-init c = record { places = refl; rest = refl; kept = keys_none c.args.curves.now.names.now }

pub returns-in_err-keys : goal.returns-in_err-keys
returns-in_err-keys c =
    let names = c.args.curves.now.names.now in
    let l = c.loop-i in
    let t = key_none names _ (sym c.in_err-keys.was ∙ c.name_key.ensures) in
    rw c.from_residual.ensures (l.invariant.rest ∙ wrong_turn names c.args.curves.now.numbers.now l.i c.loop-i-test.true ∙ rw t)

pub loop-i-preserved : goal.loop-i-preserved
loop-i-preserved c =
    let names = c.args.curves.now.names.now in
    let curves = c.args.curves.now.numbers.now in
    let l = c.loop-i in
    let k = key_some names _ (sym c.in_ok-keys.was ∙ c.name_key.ensures) in
    let room : l.i < length l.keys = omega arith in
    record {
      places = omega (arith, length-set {A = ℕ});
      rest = l.invariant.rest ∙ wrong_turn names curves l.i c.loop-i-test.true ∙ rw k.0;
      kept = rw k.1 (keys_turn names curves l.i c.loop-i-test.true l.keys room l.invariant.kept);
    }

pub returns : goal.returns
returns c =
    let l = c.loop-i in
    names_read c.args.curves.now.names.now c.args.curves.now.numbers.now l.i l.keys c.loop-i-test.false l.auto.i-end l.invariant.rest l.invariant.kept
