-- A number is read at a place exactly when its text stands there.
-- Assumes nothing.
use Rattle.std.proofs.Common.{ℕ, zero, suc, ◌+◌, ◌*◌, ◌/◌, ◌%◌, ◌^◌, ◌≤◌, ◌<◌, ◌≡◌, sym, ap, ◌∙◌, subst, List, [], ◌∷◌, ◌++◌, ⊎_elim, arith, eq-zero-or-pos, length, ltb, eqb, lit<, ltb-true, ltb-false, eqb-true, eq-eqb, Some, None}
use borrow.Author.Tests.{eqb-false}
use Rattle.decimal.specs.Decimal.{digit_of, digits_text}
use Rattle.decimal.proofs.Choices.{cond_case}
use Rattle.decimal.proofs.Digits.{of_digit, digit_or, text_one, text-more, text_seven, tenth_below}
use Rattle.book.specs.Number.{byte_at, digit_at, ended_at, digits_at, number_at, Field}
use Rattle.book.specs.Printed.{IsNumber, number_text}
use Rattle.book.specs.LineMeaning.{Stands}
use Rattle.book.proofs.Places.{byte_inside, digit_inside, digits-stop, digits_more, base_more, power_wide, field_zero, field_some}
use Rattle.book.proofs.Standing.{byte_there, stands_one, stands_join, stands_front, stands_back}

-- the byte of a digit
digit_byte : (b : ℕ) → digit_of b < 10 → b ≡ 48 + digit_of b
digit_byte b =
    cond_case (λ (d : ℕ). d < 10 → b ≡ 48 + d) (ltb b 48) _ _ (λ t h. absurd (omega arith))
    (λ t. cond_case (λ (d : ℕ). d < 10 → b ≡ 48 + d) (ltb 57 b) _ _ (λ u h. absurd (omega arith))
    (λ u h. omega (arith, ltb-false b 48 t)))

module _ (text : List ℕ) where
  -- the text of a digit read, and of a first digit
  digit_stands : (at : ℕ) → digit_at text at < 10 → Stands text at ((48 + digit_at text at) ∷ []) (at + 1)
  unfolding digit_at
  digit_stands at h = stands_one text at (48 + digit_at text at) (digit_inside text at h) (digit_byte (byte_at text at) h)

  first_stands : (at : ℕ) → digit_at text at < 10 → Stands text at (digits_text 7 (digit_at text at)) (at + 1)
  first_stands at h = subst (λ (bytes : List ℕ). Stands text at bytes (at + 1)) (sym (text_one 6 (digit_at text at) h)) (digit_stands at h)

  module _ (end : ℕ) (some : 0 < end) where
    -- what a number that was read says of the text from `start` on
    abbrev Read : ℕ → Field → Type 0
    Read start (Some (v, next)) = IsNumber v × Stands text start (number_text v end) next
    Read start None = Unit

    -- the value is read, and the byte after it ends the number
    ended_read : (start at v : ℕ) → IsNumber v → Stands text start (digits_text 7 v) at → Read start (ended_at text at v end)
    unfolding ended_at
    ended_read start at v n s =
        cond_case (Read start) (eqb (byte_at text at) end) _ _
        (λ t. let e : byte_at text at ≡ end = eqb-true _ _ t in
        (n, stands_join (digits_text 7 v) (end ∷ []) s (stands_one text at end (byte_inside text at (omega arith)) e)))
        (λ t. tt)

    -- n digits are read, and k digits may follow
    digits_read : (k n start at v : ℕ) → k + n ≡ 7 → 1 ≤ v → v < 10 ^ n → Stands text start (digits_text 7 v) at
        → Read start (digits_at k text at v end)
    unfolding digits_at
    digits_read zero n start at v l h b s = ended_read start at v (power_wide n 7 v (lit< tt) (omega arith) b) s
    digits_read (suc k) n start at v l h b s =
        cond_case (Read start) (ltb (digit_at text at) 10) _ _
        (λ t. let d : digit_at text at < 10 = ltb-true _ _ t in
        digits_read k (n + 1) start (at + 1) (v * 10 + digit_at text at) (omega arith) (omega arith) (base_more n v (digit_at text at) b d)
        (subst (λ (bytes : List ℕ). Stands text start bytes (at + 1)) (sym (text_seven v (digit_at text at) h (power_wide n 6 v (lit< tt) (omega arith) b) d))
        (stands_join (digits_text 7 v) ((48 + digit_at text at) ∷ []) s (digit_stands at d))))
        (λ t. ended_read start at v (power_wide n 7 v (lit< tt) (omega arith) b) s)

    -- a number
    read_of : (at : ℕ) → Read at (number_at text at end)
    unfolding number_at
    read_of at =
        cond_case (Read at) (ltb (digit_at text at) 10) _ _
        (λ t. let d : digit_at text at < 10 = ltb-true _ _ t in
        cond_case (Read at) (eqb (digit_at text at) 0) _ _
        (λ u. ended_read at (at + 1) 0 (omega arith)
        (subst (λ (v : ℕ). Stands text at (digits_text 7 v) (at + 1)) (eqb-true _ _ u) (first_stands at d)))
        (λ u. let z : digit_at text at ≡ 0 → ⊥ = eqb-false _ _ u in
        digits_read 6 1 at (at + 1) (digit_at text at) (omega arith) (omega arith) d (first_stands at d)))
        (λ t. tt)

    pub number_read : (at v next : ℕ) → number_at text at end ≡ Some (v, next) → IsNumber v × Stands text at (number_text v end) next
    number_read at v next e = subst (Read at) e (read_of at)

-- the digit at a place where its text stands
module _ (text : List ℕ) where
  digit_there : (at d next : ℕ) → d < 10 → Stands text at ((48 + d) ∷ []) next → digit_at text at ≡ d
  unfolding digit_at
  digit_there at d next h s = ap digit_of (byte_there text at (48 + d) _ s.there) ∙ of_digit d h

  module _ (at end : ℕ) (X : Field) where
    -- a number of one digit is read on after it
    one_through : (k v p : ℕ) → 1 ≤ v → v < 10 → Stands text at (digits_text (suc k) v) p → digits_at 6 text p v end ≡ X
        → number_at text at end ≡ X
    one_through k v p h l s x =
        let t : Stands text at ((48 + v) ∷ []) p = subst (λ (bytes : List ℕ). Stands text at bytes p) (text_one k v l) s in
        let d : digit_at text at ≡ v = digit_there at v p l t in
        field_some text at end (omega arith) (λ z. omega arith)
        ∙ ap (λ (w : ℕ). digits_at 6 text (at + 1) w end) d ∙ ap (λ (q : ℕ). digits_at 6 text q v end) (sym t.after) ∙ x

    -- the last digit
    last_through : (k v p q i : ℕ) → k < 6 → 6 ≤ i + k → digit_at text q ≡ v % 10 → p ≡ q + 1
        → ((j : ℕ) → 6 ≤ j + suc k → digits_at j text p v end ≡ X) → digits_at i text q (v / 10) end ≡ X
    last_through k v p q zero l g d e x = absurd (omega arith)
    last_through k v p q (suc i) l g d e x =
        let w : v / 10 * 10 + digit_at text q ≡ v = omega arith in
        digits_more text q (v / 10) end i (omega arith)
        ∙ ap (λ (n : ℕ). digits_at i text (q + 1) n end) w ∙ ap (λ (r : ℕ). digits_at i text r v end) (sym e) ∙ x i (omega arith)

    -- a number of at most k + 1 digits is read on after it
    through : (k v p : ℕ) → k ≤ 6 → 1 ≤ v → v < 10 ^ suc k → Stands text at (digits_text (suc k) v) p
        → ((i : ℕ) → 6 ≤ i + k → digits_at i text p v end ≡ X) → number_at text at end ≡ X
    through zero v p l h b s x = one_through 0 v p h b s (x 6 (omega arith))
    through (suc k) v p l h b s x =
        digit_or v (λ o. one_through (suc k) v p h o s (x 6 (omega arith)))
        (λ m. let ds : List ℕ = digits_text (suc k) (v / 10) in
        let t : Stands text at (ds ++ ((48 + v % 10) ∷ [])) p = subst (λ (bytes : List ℕ). Stands text at bytes p) (text-more (suc k) v m) s in
        let back = stands_back ds ((48 + v % 10) ∷ []) t in
        let d : digit_at text (at + length ds) ≡ v % 10 = digit_there (at + length ds) (v % 10) p (omega arith) back in
        through k (v / 10) (at + length ds) (omega arith) (omega arith) (tenth_below (suc k) v b) (stands_front ds ((48 + v % 10) ∷ []) t)
        (λ i g. last_through k v p (at + length ds) i (omega arith) g d back.after x))

  -- after the digits the byte that ends the number stands
  module _ (at end v next : ℕ) (other : digit_of end ≡ 10) where
    ended : (p : ℕ) → Stands text p (end ∷ []) next → ended_at text p v end ≡ Some (v, next)
    unfolding ended_at
    ended p s =
        let e : byte_at text p ≡ end = byte_there text p end _ s.there in
        rw (eq-eqb _ _ e, s.after)

    stopped : (p k : ℕ) → Stands text p (end ∷ []) next → digits_at k text p v end ≡ Some (v, next)
    unfolding digit_at
    stopped p k s =
        let e : byte_at text p ≡ end = byte_there text p end _ s.there in
        let d : digit_at text p ≡ 10 = ap digit_of e ∙ other in
        digits-stop text p v end k (omega arith) ∙ ended p s

    zero_reads : (p : ℕ) → v ≡ 0 → Stands text at (digits_text 7 v) p → Stands text p (end ∷ []) next → number_at text at end ≡ Some (v, next)
    zero_reads p z s t =
        let one : digits_text 7 v ≡ 48 ∷ [] = text_one 6 v (omega arith) ∙ ap (λ (n : ℕ). (48 + n) ∷ []) z in
        let u : Stands text at (48 ∷ []) p = subst (λ (bytes : List ℕ). Stands text at bytes p) one s in
        field_zero text at end (digit_there at 0 p (omega arith) u)
        ∙ ap (λ (n : ℕ). ended_at text (at + 1) n end) (sym z) ∙ ap (λ (q : ℕ). ended_at text q v end) (sym u.after) ∙ ended p t

    pub number_reads : IsNumber v → Stands text at (number_text v end) next → number_at text at end ≡ Some (v, next)
    number_reads b s =
        let front = stands_front (digits_text 7 v) (end ∷ []) s in
        let back = stands_back (digits_text 7 v) (end ∷ []) s in
        ⊎_elim (λ z. zero_reads _ z front back)
        (λ h. through at end (Some (v, next)) 6 v _ (omega arith) h b front (λ i g. stopped _ i back))
        (eq-zero-or-pos v)
