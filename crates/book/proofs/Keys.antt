-- The keys of names: two names have the same key exactly where they are the same, so that a key among the keys before is a twin.
-- Assumes nothing.
use Rattle.std.specs.List.{list_any}
use Rattle.std.proofs.Common.{map, Result, ◌||◌, nat_eq, ℕ, zero, suc, ◌+◌, ◌*◌, ◌≤◌, ◌<◌, ◌≡◌, refl, sym, ap, ◌∙◌, subst, Bool, true, false, cond, List, [], ◌∷◌, arith, add-zero, add-one, eqb, leb, leb-true, leb-false, eqb-true, eq-eqb, Some, None, Ok, Err}
use mathlib.Core.Bool.{false≢true, and-false}
use borrow.Author.Tests.{lt-leb, eqb-false}
use Rattle.decimal.specs.Decimal.{Each}
use Rattle.decimal.proofs.Choices.{cond_case}
use Rattle.book.specs.Number.{byte_at, number_at, Field}
use Rattle.book.specs.Name.{is_name_byte, name_run, name_at, same_bytes, twin_at}
use Rattle.book.specs.Contents.{headed, heading_at, contents_line_of, contents_line, heading_next, after_heading, Heading, Line}
use Rattle.book.specs.Reading.{key_from, key_at, keys_at, kept_at, keys_of, among, line_by}
use Rattle.book.specs.declared.Fault.{Fault}
use Rattle.book.specs.declared.Fault.TheVariants.{TwinName, WrongLine}
use Rattle.book.specs.declared.lines.KeptName.{KeptName}
use Rattle.book.proofs.Kept.{keys_kept}
use Rattle.book.proofs.TwinText.{same_head, same_cons}

-- a key among several, by a search
either : (b c : Bool) → (b || c) ≡ cond b true c
either true c = refl
either false c = refl

pub any_among : (keys : List ℕ) (key : ℕ) → list_any (λ (other : ℕ). nat_eq other key) keys ≡ among keys key
unfolding among
any_among [] key = refl
any_among (other ∷ keys) key = ap (λ (b : Bool). nat_eq other key || b) (any_among keys key) ∙ either (eqb other key) (among keys key)

-- and among those that are kept
pub any_kept : (names : List KeptName) (key : ℕ) → list_any (λ (name : KeptName). nat_eq name.key key) names ≡ among (keys_of names) key
unfolding among
any_kept [] key = refl
any_kept (name ∷ names) key = ap (λ (b : Bool). nat_eq name.key key || b) (any_kept names key) ∙ either (eqb name.key key) (among (keys_of names) key)

-- where a line leads, whatever name is kept of it
abbrev pub leads : Result (KeptName × ℕ) Fault → Line
leads (Ok (name, next)) = Ok next
leads (Err fault) = Err fault

-- and the name that is kept of it
pub kept_led : (names : List KeptName) (kept : KeptName) (due : ℕ) (h : Heading) {name : KeptName} {next : ℕ} → line_by names kept due h ≡ Ok (name, next) → name ≡ kept
kept_led names kept due None = λ e. absurd (cc)
kept_led names kept due (Some (size, v, after)) {name} {next} =
    let Led : Result (KeptName × ℕ) Fault → Type 0 = λ l. l ≡ Ok (name, next) → name ≡ kept in
    cond_case Led (eqb v due) _ _
    (λ t. cond_case Led (among (keys_of names) kept.key) _ _ (λ u e. absurd (cc))
    (λ u e. let same : ◌≡◌ {A = KeptName × ℕ} (kept, after) (name, next) = cc in sym (ap (λ (p : KeptName × ℕ). p.0) same)))
    (λ t e. absurd (cc))

led : (b t : Bool) (name : KeptName) (next : ℕ)
    → leads (cond b (cond t (Err TwinName) (Ok (name, next))) (Err WrongLine)) ≡ cond b (cond t (Err TwinName) (Ok next)) (Err WrongLine)
led true true name next = refl
led true false name next = refl
led false t name next = refl

-- a byte of a name is above 0
name_byte_some : (b : ℕ) → is_name_byte b ≡ true → 0 < b
name_byte_some zero h = absurd (false≢true h)
name_byte_some (suc b) h = omega arith

-- and at most 90
name_byte_most : (b : ℕ) → is_name_byte b ≡ true → b ≤ 90
name_byte_most b h =
    cond_case (λ (n : ℕ). b ≤ 90) (leb b 90) 0 0 (leb-true b 90)
    (λ t. let l : 90 < b = leb-false b 90 t in
    absurd (false≢true (sym (simp (lt-leb b 57 (omega arith), lt-leb b 90 l, and-false)) ∙ h)))

-- two tests are one where each passes if the other does
pub one_test : (p q : Bool) → (p ≡ true → q ≡ true) → (q ≡ true → p ≡ true) → p ≡ q
one_test true q f g = sym (f refl)
one_test false true f g = g refl
one_test false false f g = refl

-- the place after a first byte
one_on : (a n : ℕ) → a + 1 + n ≡ a + suc n
one_on a n = omega arith

module _ (text : List ℕ) where
  -- each byte that is counted is a name's
  run-byte : (k at i : ℕ) → i < name_run k text at → is_name_byte (byte_at text (at + i)) ≡ true
  unfolding name_run
  run-byte zero at i = λ h. absurd (omega arith)
  run-byte (suc k) at zero =
      cond_case (λ (n : ℕ). 0 < n → is_name_byte (byte_at text (at + 0)) ≡ true) (is_name_byte (byte_at text at)) _ _
      (λ t h. rw add-zero t) (λ t h. absurd (omega arith))
  run-byte (suc k) at (suc i) =
      cond_case (λ (n : ℕ). suc i < n → is_name_byte (byte_at text (at + suc i)) ≡ true) (is_name_byte (byte_at text at)) _ _
      (λ t h. rw one_on at (run-byte k (at + 1) i (omega arith))) (λ t h. absurd (omega arith))

  -- one byte more after the same bytes
  same_more : (n a b : ℕ) → same_bytes n text a b ≡ true → byte_at text (a + n) ≡ byte_at text (b + n) → same_bytes (suc n) text a b ≡ true
  unfolding same_bytes
  same_more zero a b s e = same_cons text 0 a b (rw (add-zero a, add-zero b) at e) refl
  same_more (suc n) a b s e =
      let h = same_head text n a b s in
      same_cons text (suc n) a b h.0 (same_more n (a + 1) (b + 1) h.1 (rw (one_on a n, one_on b n) e))

  -- the last of the same bytes
  same_last : (n a b : ℕ) → same_bytes (suc n) text a b ≡ true
      → (same_bytes n text a b ≡ true) × (byte_at text (a + n) ≡ byte_at text (b + n))
  unfolding same_bytes
  same_last zero a b s = (refl, rw (add-zero a, add-zero b) (same_head text 0 a b s).0)
  same_last (suc n) a b s =
      let h = same_head text (suc n) a b s in
      let r = same_last n (a + 1) (b + 1) h.1 in
      (same_cons text n a b h.0 r.0, rw (one_on a n, one_on b n) at r.1)

  -- the key of one byte more
  pub key_more : (n at : ℕ) → key_from (n + 1) text at ≡ key_from n text at * 256 + byte_at text (at + n)
  unfolding key_from
  key_more n at = rw add-one

  -- each of the same bytes
  pub same_byte : (n a b i : ℕ) → same_bytes n text a b ≡ true → i < n → byte_at text (a + i) ≡ byte_at text (b + i)
  same_byte zero a b i s l = absurd (omega arith)
  same_byte (suc n) a b zero s l =
      let x : a + 0 ≡ a = omega arith in
      let y : b + 0 ≡ b = omega arith in
      ap (byte_at text) x ∙ (same_head text n a b s).0 ∙ sym (ap (byte_at text) y)
  same_byte (suc n) a b (suc i) s l =
      let x : a + suc i ≡ a + 1 + i = omega arith in
      let y : b + suc i ≡ b + 1 + i = omega arith in
      ap (byte_at text) x ∙ same_byte n (a + 1) (b + 1) i (same_head text n a b s).1 (omega arith) ∙ sym (ap (byte_at text) y)

  -- bytes that are the same one by one have one key
  pub bytes_key : (n a b : ℕ) → ((i : ℕ) → i < n → byte_at text (a + i) ≡ byte_at text (b + i)) → key_from n text a ≡ key_from n text b
  unfolding key_from
  bytes_key zero a b same = refl
  bytes_key (suc n) a b same = rw (bytes_key n a b (λ i l. same i (omega arith)), same n (omega arith))

  key_same : (n a b : ℕ) → same_bytes n text a b ≡ true → key_from n text a ≡ key_from n text b
  key_same n a b s = bytes_key n a b (λ i l. same_byte n a b i s l)

  -- a run is as long at another place, where its bytes and the one after them are the same
  run_same : (k a b : ℕ) → same_bytes (suc (name_run k text b)) text a b ≡ true → name_run k text a ≡ name_run k text b
  unfolding name_run
  run_same zero a b = λ s. refl
  run_same (suc k) a b =
      cond_case (λ (n : ℕ). same_bytes (suc n) text a b ≡ true → name_run (suc k) text a ≡ n) (is_name_byte (byte_at text b)) _ _
      (λ t s.
      let one : 1 + name_run k text (b + 1) ≡ suc (name_run k text (b + 1)) = omega arith in
      let h = same_head text (suc (name_run k text (b + 1))) a b (rw one at s) in
      rw (h.0, t, run_same k (a + 1) (b + 1) h.1))
      (λ t s. rw ((same_head text 0 a b s).0, t))

  module _ (a b : ℕ) where
    -- the same key means the same bytes, as many
    pub same_bytes_lem : (k l n m : ℕ) → n ≤ name_run k text a → m ≤ name_run l text b → key_from n text a ≡ key_from m text b
        → (n ≡ m) × (same_bytes n text a b ≡ true)
    unfolding key_from same_bytes
    same_bytes_lem k l zero zero p q e = (refl, refl)
    same_bytes_lem k l zero (suc m) p q e = absurd (omega (arith, name_byte_some (byte_at text (b + m)) (run-byte l b m (omega arith))))
    same_bytes_lem k l (suc n) zero p q e = absurd (omega (arith, name_byte_some (byte_at text (a + n)) (run-byte k a n (omega arith))))
    same_bytes_lem k l (suc n) (suc m) p q e =
        let x : byte_at text (a + n) ≤ 90 = name_byte_most _ (run-byte k a n (omega arith)) in
        let y : byte_at text (b + m) ≤ 90 = name_byte_most _ (run-byte l b m (omega arith)) in
        let last : byte_at text (a + n) ≡ byte_at text (b + m) = omega arith in
        let r = same_bytes_lem k l n m (omega arith) (omega arith) (omega arith) in
        (ap suc r.0, same_more n a b r.1 (last ∙ ap (λ (j : ℕ). byte_at text (b + j)) (sym r.0)))

  -- a name is the run of its bytes, and has a blank after it
  name-run : (at : ℕ) → 0 < name_at text at → (name_at text at ≡ name_run 8 text at) × (byte_at text (at + name_run 8 text at) ≡ 32)
  unfolding name_at
  name-run at =
      cond_case (λ (n : ℕ). 0 < n → (n ≡ name_run 8 text at) × (byte_at text (at + name_run 8 text at) ≡ 32))
      (eqb (byte_at text (at + name_run 8 text at)) 32) _ _ (λ t h. (refl, eqb-true _ _ t)) (λ t h. absurd (omega arith))

  -- the test of two keys is the test of the two names and the blanks after them
  key_test : (a b : ℕ) → 0 < name_at text a → 0 < name_at text b → eqb (key_at text a) (key_at text b) ≡ same_bytes (name_at text b + 1) text a b
  key_test a b p q =
      let x = name-run a p in
      let y = name-run b q in
      rw (y.0, add-one)
      (one_test _ _
      (λ t. let r = same_bytes_lem a b 8 8 (name_run 8 text a) (name_run 8 text b) (omega arith) (omega arith) (eqb-true _ _ t) in
      subst (λ (n : ℕ). same_bytes (suc n) text a b ≡ true) r.0
      (same_more (name_run 8 text a) a b r.1 (x.1 ∙ sym y.1 ∙ ap (λ (n : ℕ). byte_at text (b + n)) (sym r.0))))
      (λ t. eq-eqb _ _
      (ap (λ (n : ℕ). key_from n text a) (run_same 8 a b t) ∙ key_same (name_run 8 text b) a b (same_last (name_run 8 text b) a b t).0)))

  -- at each of these places a name stands
  abbrev pub AllNamed : List ℕ → Type 0
  AllNamed = Each (λ place. 0 < name_at text place)

  -- a key among those of the earlier names is a twin's
  pub keys_twin : (earlier : List ℕ) (at size : ℕ) → size ≡ name_at text at → 0 < size → AllNamed earlier
      → among (keys_at text earlier) (key_at text at) ≡ twin_at text earlier at size
  unfolding Each among twin_at
  keys_twin [] at size e some named = refl
  keys_twin (place ∷ earlier) at size e some named =
      rw (key_test place at named.0 (omega arith), keys_twin earlier at size e some named.1, e)

  module _ (at : ℕ) where
    -- a contents line has a name of its size, where it is not malformed
    abbrev HeadingNamed : Heading → Type 0
    HeadingNamed (Some (size, v, next)) = (size ≡ name_at text at) × (0 < size)
    HeadingNamed None = Unit

    -- so it is with a name and whatever stands after it
    headed_named : (size : ℕ) (f : Field) → size ≡ name_at text at → 0 < size → HeadingNamed (headed size f)
    headed_named size (Some (v, next)) e some = (e, some)
    headed_named size None e some = tt

    -- and with the contents line that is read
    heading_named : HeadingNamed (heading_at text at)
    unfolding heading_at
    heading_named =
        cond_case HeadingNamed (eqb (name_at text at) 0) _ _ (λ t. tt)
        (λ t.
        let z : name_at text at ≡ 0 → ⊥ = eqb-false _ _ t in
        headed_named (name_at text at) (number_at text (at + name_at text at + 1) 10) refl (omega arith))

    -- a line that leads on has a name, and leads to this place
    abbrev NextNamed : ℕ → Line → Type 0
    NextNamed after (Ok p) = (0 < name_at text at) × (p ≡ after)
    NextNamed after (Err k) = Unit

  module _ (earlier : List ℕ) (at due : ℕ) where
    -- by keys or by names, a contents line leads to the same
    pub line_keyed : AllNamed earlier → leads (line_by (map (kept_at text) earlier) (kept_at text at) due (heading_at text at)) ≡ contents_line text earlier at due
    unfolding contents_line
    line_keyed named = by_heading (heading_at text at) (heading_named at)
      where
        by_heading : (h : Heading) → HeadingNamed at h
            → leads (line_by (map (kept_at text) earlier) (kept_at text at) due h) ≡ contents_line_of text earlier at due h
        by_heading (Some (size, v, next)) n = rw (keys_kept text earlier, keys_twin earlier at size n.0 n.1 named) (led (eqb v due) _ _ next)
        by_heading None n = refl

    -- a right contents line has a name, and the next one starts after it
    pub named_next : {p : ℕ} → contents_line text earlier at due ≡ Ok p → (0 < name_at text at) × (p ≡ after_heading text at)
    unfolding contents_line after_heading
    named_next e = subst (NextNamed at (heading_next at (heading_at text at))) e (of_heading (heading_at text at) (heading_named at))
      where
        of_heading : (h : Heading) → HeadingNamed at h → NextNamed at (heading_next at h) (contents_line_of text earlier at due h)
        of_heading None n = tt
        of_heading (Some (size, v, next)) n =
            cond_case (NextNamed at next) (eqb v due) _ _
            (λ t. cond_case (NextNamed at next) (twin_at text earlier at size) _ _ (λ u. tt) (λ u. (omega arith, refl))) (λ t. tt)
