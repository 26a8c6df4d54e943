-- A table that is written from the front, one block of w numbers after the other.
-- Assumes nothing.
use mathlib.Core.Path.{◌≡◌, refl, sym, ap, ◌∙◌}
use mathlib.Core.List.{List, [], ◌++◌, append_assoc}
use Prim.Native.Nat.{ℕ, zero, suc, ◌+◌, ◌*◌, ◌-◌, ◌≤◌, ◌<◌}
use native.Mathlib.Nat.{mul-zero, mul-suc}
use native.Mathlib.Numerals.{add-one}
use native.Mathlib.Omega.{arith}
use native.Mathlib.Decide.{dec_lt}
use lib.IntN.{ℤ}
use lib.ListN.{length, drop, get_or, length-append, get_or-append}
use lib.Seq.{take_at, drop-append-add, drop-drop, get_or-append-add}
use borrow.Rule.Slice.PartMut.{put_mid, Post-is}
use Rattle.card.specs.Rows.{joined}

-- no block, and one block more
pub joined-none : (f : ℕ → List ℤ) → joined f 0 ≡ []
unfolding joined
joined-none f = refl

pub joined-more : (f : ℕ → List ℤ) (k : ℕ) → joined f (suc k) ≡ joined f k ++ f k
unfolding joined
joined-more f k = refl

-- p, and past it what the old list has there: xs goes into the part of w places right after p
put_next :
    (p old xs : List ℤ) (n w : ℕ) → length p ≡ n →
    put_mid n (n + w - n) (p ++ drop n old) xs ≡ (p ++ xs) ++ drop (n + w) old
put_next p old xs n w e =
    let h : n ≤ n + w = omega arith in
    rw (Post-is n (n + w) (p ++ drop n old) h, take_at p (drop n old) n e, ← e, drop-append-add, drop-drop)
    (sym (append_assoc p xs (drop (length p + w) old)))

module _ (f : ℕ → List ℤ) (w : ℕ) (wide : (i : ℕ) → length (f i) ≡ w) where
  pub length_joined : (k : ℕ) → length (joined f k) ≡ w * k
  length_joined zero = ap length (joined-none f) ∙ sym (mul-zero w)
  length_joined (suc k) = rw (joined-more f k, length-append, mul-suc) (omega (arith, length_joined k, wide k))

  -- one block more is written
  pub next :
      (k : ℕ) (old : List ℤ) →
      put_mid (w * k) (w * k + w - w * k) (joined f k ++ drop (w * k) old) (f k) ≡ joined f (k + 1) ++ drop (w * (k + 1)) old
  next k old = rw (add-one, joined-more f k, mul-suc) (put_next (joined f k) old (f k) (w * k) w (length_joined k))

  -- number m of block i, where n blocks are joined and something stands past them
  abbrev Block : ℕ → ℕ → ℕ → Type 0
  Block n i m = (rest : List ℤ) (z : ℤ) → get_or (joined f n ++ rest) (w * i + m) z ≡ get_or (f i) m z

  in_last : (n m : ℕ) → m < w → (rest : List ℤ) (z : ℤ) → get_or (joined f n ++ (f n ++ rest)) (w * n + m) z ≡ get_or (f n) m z
  in_last n m g rest z =
      rw (← length_joined n, get_or-append-add) (get_or-append (f n) rest z m (omega (arith, wide n)))

  one_more : (n i m : ℕ) → i ≤ n → m < w → Dec (i < n) → (i < n → Block n i m) → Block (suc n) i m
  one_more n i m h g (yes b) earlier rest z = rw (joined-more f n, append_assoc) (earlier b (f n ++ rest) z)
  one_more n i m h g (no b) earlier rest z =
      let same : i ≡ n = omega arith in
      rw (same, joined-more f n, append_assoc) (in_last n m g rest z)

  pub at_place : (n i m : ℕ) → i < n → m < w → Block n i m
  at_place zero i m h g = absurd (omega arith)
  at_place (suc n) i m h g = one_more n i m (omega arith) g (dec_lt i n) (λ b. at_place n i m b g)
