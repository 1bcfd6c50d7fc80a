-- The total degree: of a part of a term, of one unknown, of a lowered term.
use mathlib.Core.Path.{◌≡◌, refl}
use mathlib.Core.Logic.{⊎_elim}
use Prim.Native.Nat.{ℕ, zero, suc, ◌+◌, ◌<◌, ◌≤◌}
use native.Mathlib.Nat.{not-suc-le-zero, le_of_suc-le-suc, eq-or-lt_of_le, le_trans, le_refl, le_antisymm}
use native.Mathlib.Omega.{arith}
use Rattle.slopes.specs.Terms.{lowered}
use Rattle.term_checks.specs.Terms.{degree}
use Rattle.lists.specs.Loops.{carry}
use Rattle.slopes.proofs.Exponents.{lowered-same, lowered-other}

-- only the exponents below n count
pub degree-cong : (n : ℕ) (e f : ℕ → ℕ) → ((k : ℕ) → k < n → e k ≡ f k) → degree n e ≡ degree n f
unfolding degree carry
degree-cong zero e f h = refl
degree-cong (suc n) e f h = omega (arith, degree-cong n e f (λ k l. h k (omega arith)), h n (omega arith))

pub degree-add : (n : ℕ) (e f : ℕ → ℕ) → degree n (λ k. e k + f k) ≡ degree n e + degree n f
unfolding degree carry
degree-add zero e f = refl
degree-add (suc n) e f = omega (arith, degree-add n e f)

pub degree-none : (n : ℕ) (e : ℕ → ℕ) → ((k : ℕ) → k < n → e k ≡ 0) → degree n e ≡ 0
unfolding degree carry
degree-none zero e h = refl
degree-none (suc n) e h = omega (arith, degree-none n e (λ k l. h k (omega arith)), h n (omega arith))

module _ (e : ℕ → ℕ) where
  pub degree-next : (k : ℕ) → degree (suc k) e ≡ degree k e + e k
  unfolding degree carry
  degree-next k = refl

  pub degree-mono : (k n : ℕ) → k ≤ n → degree k e ≤ degree n e
  unfolding degree carry
  degree-mono k zero h = rw (le_antisymm h (omega arith)) (le_refl _)
  degree-mono k (suc n) h = ⊎_elim (λ q. rw q (le_refl _))
      (λ l. le_trans (degree-mono k n (le_of_suc-le-suc l)) (omega arith)) (eq-or-lt_of_le h)

  -- an exponent is at most the degree
  pub exponent-degree : (n j : ℕ) → j < n → e j ≤ degree n e
  exponent-degree n j l = omega (arith, degree-next j, degree-mono (suc j) n l)

  pub exponents-in : {n m : ℕ} → degree n e ≤ m → (k : ℕ) → k < n → e k ≤ m
  exponents-in {n} h k l = le_trans (exponent-degree n k l) h

  -- a lowered term has a degree one less
  pub degree-lowered : (n j : ℕ) → j < n → 0 < e j → degree n (lowered j e) + 1 ≡ degree n e
  unfolding degree carry
  degree-lowered zero j l s = absurd (not-suc-le-zero l)
  degree-lowered (suc n) j l s =
      ⊎_elim here (λ m. there m (degree-lowered n j m s)) (eq-or-lt_of_le (le_of_suc-le-suc l))
    where
      below : j ≡ n → degree n (lowered j e) ≡ degree n e
      below q = degree-cong n (lowered j e) e (λ k m. lowered-other j e k (λ p. omega arith))

      here : j ≡ n → degree n (lowered j e) + lowered j e n + 1 ≡ degree n e + e n
      here q = rw (← q) (omega (arith, rw (← q) at (below q), lowered-same j e))

      there : j < n → degree n (lowered j e) + 1 ≡ degree n e
          → degree n (lowered j e) + lowered j e n + 1 ≡ degree n e + e n
      there m r = omega (arith, lowered-other j e n (λ p. omega arith))
