-- `book::reply::bodies` meets its contract.
-- Assumes nothing.
use Rattle.std.proofs.Common.{Ok, Err, ◌*◌, ◌+◌, ap, arith, drop, get_or, length, refl, rules, sym, ℕ, ◌∙◌, ◌≡◌}
use Rattle.std.proofs.lemmas.List.Edits.{sets}
use Rattle.std.proofs.lemmas.Result.{IfOk-at_ok}
use Rattle.card_list.specs.List.{curve_width}
use Rattle.decimal.proofs.Choices.{each_at}
use Rattle.book.proofs.BodyText.{body_place}
use Rattle.book.proofs.Kept.{place_at, places_length}
use Rattle.book.proofs.Replies.{bodies_accept, bodies_tail, bodies_turn}
use Rattle.book.proofs.Stores.{entries_none, entries_turn}
use Rattle.book.specs.Body.{front_numbers}
use Rattle.book.specs.Book.{entry_at, told_book}
use Rattle.book.specs.declared.BookRefusal.{BookRefusal}
use Rattle.book.specs.Reading.{IsKept, places_of, entries_by}
use Rattle.book.specs.declared.lines.KeptName.{KeptName}
use Rattle.book.proofs.reply.bodies.Goals as goal

pub curve-read-requires-clause-name_kept : goal.curve-read-requires-clause-name_kept
curve-read-requires-clause-name_kept c = each_at (IsKept c.args.text.now) c.args.names.now c.loop-i.i _ c.requires.1 (omega arith)

pub returns-in_err-at-clause-value : goal.returns-in_err-at-clause-value
returns-in_err-at-clause-value c =
    let a = c.args in
    let l = c.loop-i in
    let e = l.invariant.rest ∙ bodies_turn a.text.now (length a.names.now) l.i l.at c.loop-i-test.true (sym c.curve-read.ensures.value) in
    rw e (search rules)

pub loop-i-preserved : goal.loop-i-preserved
loop-i-preserved c =
    let a = c.args in
    let s = a.text.now in
    let l = c.loop-i in
    let next = c.in_ok-at.at in
    let read : c.curve-read.result ≡ Ok next = search rules in
    let e = sym c.curve-read.ensures.value ∙ read in
    let name : KeptName = get_or a.names.now l.i (record { place = 0; size = 0; key = 0 }) in
    let stored = IfOk-at_ok (λ p. c.curve-read.new.draft ≡ sets l.draft (curve_width * l.i) (entry_at s name.place l.at)) read c.curve-read.ensures.by_index in
    let more : curve_width * l.i + curve_width ≡ curve_width * (l.i + 1) = omega arith in
    let n = places_length a.names.now in
    record {
      rest = l.invariant.rest ∙ bodies_turn s (length a.names.now) l.i l.at c.loop-i-test.true e;
      stored = l.invariant.stored
          ∙ entries_turn s (places_of a.names.now) l.i l.at l.draft (curve_width * l.i) (omega arith)
          (stored ∙ ap (λ (p : ℕ). sets l.draft (curve_width * l.i) (entry_at s p l.at)) (sym (place_at a.names.now l.i)))
          (body_place front_numbers s l.at e)
          ∙ ap (λ (m : ℕ). sets c.curve-read.new.draft m (entries_by s (drop (l.i + 1) (places_of a.names.now)) next)) more;
    }

pub returns-then-at-text-clause-value : goal.returns-then-at-text-clause-value
returns-then-at-text-clause-value c =
    let l = c.loop-i in
    ap (λ (r : BookRefusal). told_book (Err r)) c.at_line.ensures
    ∙ sym (l.invariant.rest ∙ bodies_tail c.args.text.now (length c.args.names.now) l.i l.at c.loop-i-test.false c.if-at-text.true)

pub returns-clause-value : goal.returns-clause-value
returns-clause-value c =
    let l = c.loop-i in
    sym (l.invariant.rest ∙ bodies_accept c.args.text.now (length c.args.names.now) l.i l.at c.loop-i-test.false c.if-at-text.false)

pub returns-clause-count_value : goal.returns-clause-count_value
returns-clause-count_value c =
    let a = c.args in
    let l = c.loop-i in
    let n = places_length a.names.now in
    (refl, sym (l.invariant.stored ∙ entries_none a.text.now (places_of a.names.now) l.i l.at l.draft (curve_width * l.i) (omega arith)))
