-- `book::reply::contents` meets its contract.
-- Assumes nothing.
use Rattle.std.proofs.Common.{Ok, ◌+◌, ◌-◌, List, [], ap, arith, length, length-set, length-take-le, rules, subst, sym, take, Result, ℕ, ◌∙◌, ◌≡◌}
use Rattle.std.proofs.lemmas.List.Edits.{sets}
use Rattle.std.proofs.lemmas.Result.{IfOk-weaker}
use native.Mathlib.Nat.{sub-zero}
use Rattle.decimal.specs.Decimal.{Each}
use Rattle.book.proofs.Kept.{Kept, all_kept, headings_length, kept_none, kept_turn, places_kept, places_more}
use Rattle.book.proofs.Keys.{leads, kept_led, line_keyed, named_next}
use Rattle.book.proofs.Replies.{contents_end, contents_turn}
use Rattle.book.proofs.Stores.{entries_by_lem}
use Rattle.book.specs.Book.{bodies_from, contents_from, entries_from}
use Rattle.book.specs.Contents.{contents_line, heading_at}
use Rattle.book.specs.Reading.{IsKept, entries_by, headings_from, kept_at, line_by, places_of}
use Rattle.book.specs.declared.Fault.{Fault}
use Rattle.book.specs.declared.lines.KeptName.{KeptName}
use Rattle.book.proofs.reply.contents.Goals as goal

-- where the line leads by the names that are kept, it leads by the places
line_is : (text : List ℕ) {first i : ℕ} {names : List KeptName} (at due : ℕ) {l : Result (KeptName × ℕ) Fault} → Kept text first i names at
    → l ≡ line_by (take i names) (kept_at text at) due (heading_at text at) → contents_line text (headings_from i text first) at due ≡ leads l
line_is text {first} {i} at due k r =
    sym (ap leads r
    ∙ ap (λ (names : List KeptName). leads (line_by names (kept_at text at) due (heading_at text at))) k.kept
    ∙ line_keyed text (headings_from i text first) at due k.named)

pub loop-i-init : goal.loop-i-init
unfolding headings_from
loop-i-init c =
    let a = c.args in
    record {
      names_len = search rules;
      kept = kept_none a.text.now a.first _;
      rest = ap (λ (m : ℕ). contents_from m a.text.now a.n [] a.first) (sym (sub-zero a.n));
    }

pub returns-in_err-name-clause-value : goal.returns-in_err-name-clause-value
returns-in_err-name-clause-value c =
    let a = c.args in
    let s = a.text.now in
    let l = c.loop-i in
    let here = line_is s l.at (a.n + l.i + 2) l.invariant.kept c.contents_line-read.ensures in
    let e = l.invariant.rest ∙ contents_turn s a.n l.i (headings_from l.i s a.first) l.at c.loop-i-test.true (headings_length s l.i a.first) here in
    rw e (search rules)

pub loop-i-preserved : goal.loop-i-preserved
loop-i-preserved c =
    let a = c.args in
    let s = a.text.now in
    let l = c.loop-i in
    let earlier = headings_from l.i s a.first in
    let due = a.n + l.i + 2 in
    let read : c.contents_line-read.result ≡ Ok (c.in_ok-name.name, c.in_ok-name.next) = search rules in
    let e = line_is s l.at due l.invariant.kept c.contents_line-read.ensures ∙ ap leads read in
    let next = named_next s earlier l.at due e in
    let name = kept_led _ _ due (heading_at s l.at) (sym c.contents_line-read.ensures ∙ read) in
    record {
      names_len = length-set l.names l.i _ ∙ l.invariant.names_len;
      kept = kept_turn s a.first l.names l.i l.at l.invariant.kept (omega arith) name next.0 next.1;
      rest = l.invariant.rest ∙ contents_turn s a.n l.i earlier l.at c.loop-i-test.true (headings_length s l.i a.first) e
          ∙ ap (λ (places : List ℕ). contents_from (a.n - (l.i + 1)) s a.n places c.in_ok-name.next) (places_more s a.first l.names l.i l.at l.invariant.kept);
    }

pub bodies-requires : goal.bodies-requires
bodies-requires c =
    let a = c.args in
    let s = a.text.now in
    let l = c.loop-i in
    let all : l.i ≡ a.n = omega arith in
    let k = subst (λ (i : ℕ). Kept s a.first i l.names l.at) all l.invariant.kept in
    (omega (arith, length-take-le a.n l.names (omega arith)), subst (Each (IsKept s)) (sym k.kept) (all_kept s c.requires.n_le_most_curves.1 (headings_from a.n s a.first) k.named))

pub returns-clause-value : goal.returns-clause-value
returns-clause-value c =
    let a = c.args in
    let l = c.loop-i in
    let size : length (take a.n l.names) ≡ a.n = length-take-le a.n l.names (omega arith) in
    c.bodies.ensures.value
    ∙ ap (λ (n : ℕ). bodies_from n a.text.now n 0 l.at) size
    ∙ sym (l.invariant.rest ∙ contents_end a.text.now a.n l.i _ l.at c.loop-i-test.false)

pub returns-clause-count_value : goal.returns-clause-count_value
returns-clause-count_value c =
    let a = c.args in
    let s = a.text.now in
    let d = a.draft.now in
    let l = c.loop-i in
    let all : l.i ≡ a.n = omega arith in
    let k = subst (λ (i : ℕ). Kept s a.first i l.names l.at) all l.invariant.kept in
    let placed : places_of (take a.n l.names) ≡ headings_from a.n s a.first = ap places_of k.kept ∙ places_kept s (headings_from a.n s a.first) in
    IfOk-weaker c.bodies.result _ _
    (λ count h. (
      h.0 ∙ length-take-le a.n l.names (omega arith),
      h.1
          ∙ ap (λ (r : List ℕ). sets d 0 (entries_by s r l.at)) placed
          ∙ ap (sets d 0) (entries_by_lem a.n s a.first l.at)
          ∙ ap (λ (p : ℕ). sets d 0 (entries_from a.n s a.first p)) k.here,
    ))
    c.bodies.ensures.count_value
