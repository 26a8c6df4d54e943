-- How many of the numbers below k are among P, counted from one of them to the next.
-- Assumes nothing.
use mathlib.Core.Path.{◌≡◌, refl, ap}
use mathlib.Core.Logic.{◌⊎◌, inl, inr}
use Prim.Native.Nat.{ℕ, zero, suc, min, ◌+◌, ◌-◌, ◌≤◌, ◌<◌}
use native.Mathlib.Decide.{dec_lt}
use native.Mathlib.Omega.{arith}
use Rattle.walk.specs.Fresh.{Counted}

-- x counts where it is below k
unfoldable below : ℕ → ℕ → ℕ
below k x = min 1 (k - x)

once : (k x : ℕ) → below k x ≤ 1
unfolding below
once k x = omega arith

on : (k x : ℕ) → below k x ≤ below (suc k) x
unfolding below
on k x = omega arith

here : (k x : ℕ) → k ≡ x → suc (below k x) ≤ below (suc k) x
unfolding below
here k x e = omega arith

module _ (P : ℕ → Type 0) where
  pub none_counted : Counted P 0 0
  unfolding Counted
  none_counted = refl

  -- i is among them, and none after it up to n
  pub counted_on : (i n c : ℕ) → i < n → P i → ((j : ℕ) → i < j → j < n → ¬ P j) → Counted P i c → Counted P n (suc c)
  unfolding Counted
  counted_on i zero c h p none f = absurd (omega arith)
  counted_on i (suc n) c h p none f = go (dec_lt i n) (λ b. counted_on i n c b p (λ j a g. none j a (omega arith)) f)
    where
      go : Dec (i < n) → (i < n → Counted P n (suc c)) → Counted P (suc n) (suc c)
      go (yes b) earlier = inr (none n b (omega arith), earlier b)
      go (no b) earlier = let here : i ≡ n = omega arith in inl (rw (← here) (p, f))

  pub counted_most : (k n : ℕ) → Counted P k n → n ≤ k
  unfolding Counted
  counted_most zero n f = omega arith
  counted_most (suc k) zero f = omega arith
  counted_most (suc k) (suc n) (inl f) = omega (arith, counted_most k n f.1)
  counted_most (suc k) (suc n) (inr f) = omega (arith, counted_most k (suc n) f.1)

  -- it is one number only
  pub counted_only : (k n m : ℕ) → Counted P k n → Counted P k m → m ≡ n
  unfolding Counted
  counted_only zero n m f g = omega arith
  counted_only (suc k) zero zero f g = refl
  counted_only (suc k) zero (suc m) f (inl g) = absurd (f.0 g.0)
  counted_only (suc k) zero (suc m) f (inr g) = counted_only k zero (suc m) f.1 g.1
  counted_only (suc k) (suc n) zero (inl f) g = absurd (g.0 f.0)
  counted_only (suc k) (suc n) zero (inr f) g = counted_only k (suc n) zero f.1 g.1
  counted_only (suc k) (suc n) (suc m) (inl f) (inl g) = ap suc (counted_only k n m f.1 g.1)
  counted_only (suc k) (suc n) (suc m) (inl f) (inr g) = absurd (g.0 f.0)
  counted_only (suc k) (suc n) (suc m) (inr f) (inl g) = absurd (f.0 g.0)
  counted_only (suc k) (suc n) (suc m) (inr f) (inr g) = counted_only k (suc n) (suc m) f.1 g.1

  -- 0 is among them, and so is the last below k
  some : (k n : ℕ) → 0 < k → P 0 → Counted P k n → 0 < n
  unfolding Counted
  some zero n h p f = absurd (omega arith)
  some (suc k) (suc n) h p f = omega arith
  some (suc zero) zero h p f = absurd (f.0 p)
  some (suc (suc k)) zero h p f = some (suc k) zero (omega arith) p f.1

  pub counted_two : (k n : ℕ) → 0 < k → P 0 → P k → Counted P (suc k) n → 2 ≤ n
  unfolding Counted
  counted_two k zero h p q f = absurd (f.0 q)
  counted_two k (suc n) h p q (inl f) = omega (arith, some k n h p f.1)
  counted_two k (suc n) h p q (inr f) = absurd (f.0 q)

  -- each of them below k is one of five numbers
  module _ (a b c d e : ℕ) where
    abbrev pub Five : ℕ → Type 0
    Five j = (j ≡ a) ⊎ (j ≡ b) ⊎ (j ≡ c) ⊎ (j ≡ d) ⊎ (j ≡ e)

    -- those of the five that are below k
    abbrev these : ℕ → ℕ
    these k = below k a + below k b + below k c + below k d + below k e

    one_of : (k : ℕ) → Five k → suc (these k) ≤ these (suc k)
    one_of k (inl q) = omega (arith, here k a q, on k b, on k c, on k d, on k e)
    one_of k (inr (inl q)) = omega (arith, on k a, here k b q, on k c, on k d, on k e)
    one_of k (inr (inr (inl q))) = omega (arith, on k a, on k b, here k c q, on k d, on k e)
    one_of k (inr (inr (inr (inl q)))) = omega (arith, on k a, on k b, on k c, here k d q, on k e)
    one_of k (inr (inr (inr (inr q)))) = omega (arith, on k a, on k b, on k c, on k d, here k e q)

    counted_these : (k n : ℕ) → ((j : ℕ) → j < k → P j → Five j) → Counted P k n → n ≤ these k
    unfolding Counted
    counted_these zero n five f = omega arith
    counted_these (suc k) zero five f = omega arith
    counted_these (suc k) (suc n) five (inl f) =
        omega (arith, counted_these k n (λ j h. five j (omega arith)) f.1, one_of k (five k (omega arith) f.0))
    counted_these (suc k) (suc n) five (inr f) =
        omega (arith, counted_these k (suc n) (λ j h. five j (omega arith)) f.1, on k a, on k b, on k c, on k d, on k e)

    pub counted_five : (k n : ℕ) → ((j : ℕ) → j < k → P j → Five j) → Counted P k n → n ≤ 5
    counted_five k n five f = omega (arith, counted_these k n five f, once k a, once k b, once k c, once k d, once k e)
