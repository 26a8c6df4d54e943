-- Laws of the text of a number.
-- Assumes nothing.
use Prim.Native.Nat.{ℕ, zero, suc, ◌+◌, ◌*◌, ◌/◌, ◌%◌, ◌^◌, ◌≤◌, ◌<◌}
use mathlib.Core.Path.{◌≡◌, refl, sym, ap, ◌∙◌}
use mathlib.Core.Bool.{cond}
use mathlib.Core.List.{List, [], ◌∷◌, ◌++◌, append_assoc}
use native.Mathlib.Omega.{arith}
use native.Mathlib.Nat.{pow-suc}
use lib.Dec.{ltb}
use lib.ListN.{length, length-append}
use borrow.Author.Tests.{lt-ltb, le-ltb, ltb-true, ltb-false}
use Rattle.decimal.specs.Decimal.{digit_of, digits_text}
use Rattle.decimal.proofs.Choices.{cond_case}

-- the digit of a byte
pub of_digit : (d : ℕ) → d < 10 → digit_of (48 + d) ≡ d
of_digit d h =
    cond_case (λ (n : ℕ). n ≡ d) (ltb (48 + d) 48) _ _ (λ t. absurd (omega (arith, ltb-true (48 + d) 48 t)))
    (λ t. cond_case (λ (n : ℕ). n ≡ d) (ltb 57 (48 + d)) _ _ (λ u. absurd (omega (arith, ltb-true 57 (48 + d) u))) (λ u. omega arith))

-- a number has one digit or more
pub digit_or : {A : Type 0} (v : ℕ) → (v < 10 → A) → (10 ≤ v → A) → A
digit_or {A} v one more = cond_case (λ (u : Unit {0}). A) (ltb v 10) tt tt (λ t. one (ltb-true v 10 t)) (λ t. more (ltb-false v 10 t))

pub text_none : (v : ℕ) → digits_text 0 v ≡ []
unfolding digits_text
text_none v = refl

pub text_one : (k v : ℕ) → v < 10 → digits_text (suc k) v ≡ (48 + v) ∷ []
unfolding digits_text
text_one k v h = simp (lt-ltb _ _ h)

pub text-more : (k v : ℕ) → 10 ≤ v → digits_text (suc k) v ≡ digits_text k (v / 10) ++ ((48 + v % 10) ∷ [])
unfolding digits_text
text-more k v h = simp (le-ltb _ _ h)

-- at most as many digits as may stand
pub digits_most : (k v : ℕ) → length (digits_text k v) ≤ k
digits_most zero v = omega (arith, ap length (text_none v))
digits_most (suc k) v =
    digit_or v
    (λ h. omega (arith, ap length (text_one k v h)))
    (λ h. omega (arith, ap length (text-more k v h), length-append (digits_text k (v / 10)) ((48 + v % 10) ∷ []), digits_most k (v / 10)))

-- all digits but the last
pub tenth_below : (n v : ℕ) → v < 10 ^ suc n → v / 10 < 10 ^ n
tenth_below n v h = omega (arith, pow-suc 10 n)

-- a number below a power of ten has no more digits than that
pub digits_few : (k n v : ℕ) → 1 ≤ n → v < 10 ^ n → length (digits_text k v) ≤ n
digits_few zero n v some h = omega (arith, ap length (text_none v))
digits_few (suc k) zero v some h = absurd (omega arith)
digits_few (suc k) (suc n) v some h =
    digit_or v
    (λ l. omega (arith, ap length (text_one k v l)))
    (λ l. let rest : length (digits_text k (v / 10)) ≤ n = digits_few k n (v / 10) (more n (tenth_below n v h) l) (tenth_below n v h) in
    omega (arith, ap length (text-more k v l), length-append (digits_text k (v / 10)) ((48 + v % 10) ∷ [])))
  where
    more : (m : ℕ) → v / 10 < 10 ^ m → 10 ≤ v → 1 ≤ m
    more zero t l = absurd (omega arith)
    more (suc m) t l = omega arith

-- the text of a number with something behind it, as it is computed
abbrev pub digits_into : ℕ → ℕ → List ℕ → List ℕ
digits_into zero v behind = behind
digits_into (suc k) v behind = cond (ltb v 10) ((48 + v) ∷ behind) (digits_into k (v / 10) ((48 + v % 10) ∷ behind))

pub digits_into_lem : (k v : ℕ) (behind : List ℕ) → digits_text k v ++ behind ≡ digits_into k v behind
digits_into_lem zero v behind = ap (λ (t : List ℕ). t ++ behind) (text_none v)
digits_into_lem (suc k) v behind =
    digit_or v
    (λ h. ap (λ (t : List ℕ). t ++ behind) (text_one k v h) ∙ rw (lt-ltb v 10 h))
    (λ h. ap (λ (t : List ℕ). t ++ behind) (text-more k v h)
    ∙ append_assoc (digits_text k (v / 10)) ((48 + v % 10) ∷ []) behind
    ∙ digits_into_lem k (v / 10) ((48 + v % 10) ∷ behind)
    ∙ rw (le-ltb v 10 h))

-- one digit more at the end
text_next : (k v d : ℕ) → 1 ≤ v → d < 10 → digits_text (suc k) (v * 10 + d) ≡ digits_text k v ++ ((48 + d) ∷ [])
text_next k v d h l =
    let q : (v * 10 + d) / 10 ≡ v = omega arith in
    let r : (v * 10 + d) % 10 ≡ d = omega arith in
    text-more k (v * 10 + d) (omega arith) ∙ rw (q, r)

-- a number of at most n + 1 digits has the same text where one digit more may stand
pub text_wider : (n v : ℕ) → v < 10 ^ suc n → digits_text (suc n) v ≡ digits_text (suc (suc n)) v
text_wider zero v h = text_one 0 v h ∙ sym (text_one 1 v h)
text_wider (suc n) v h =
    digit_or v (λ l. text_one (suc n) v l ∙ sym (text_one (suc (suc n)) v l))
    (λ l. text-more (suc n) v l
    ∙ ap (λ (t : List ℕ). t ++ ((48 + v % 10) ∷ [])) (text_wider n (v / 10) (tenth_below (suc n) v h))
    ∙ sym (text-more (suc (suc n)) v l))

-- one digit more at the end of a number of at most six digits
pub text_seven : (v d : ℕ) → 1 ≤ v → v < 10 ^ 6 → d < 10 → digits_text 7 (v * 10 + d) ≡ digits_text 7 v ++ ((48 + d) ∷ [])
text_seven v d h s l = text_next 6 v d h l ∙ ap (λ (t : List ℕ). t ++ ((48 + d) ∷ [])) (text_wider 5 v s)
