-- The two cases of a factor, a term as a loop makes it, unknown after unknown, and the two cases of its part of a
-- slope.
use mathlib.Core.Path.{◌≡◌, refl, ap, ◌∙◌}
use Prim.Native.Nat.{ℕ, suc, ◌+◌, ◌<◌, ◌≤◌}
use native.Mathlib.Nat.{le_antisymm}
use native.Mathlib.Omega.{arith}
use lib.IntN.{ℤ}
use borrow.Author.Tests.{eq-eqb, ne_eqb}
use Rattle.lists.specs.Loops.{carry}
use Rattle.lists.proofs.Carry.{carry-none, carry-more}
use Rattle.intervals.specs.Interval.{zero_i, point_i, scale_i, mul_i}
use Rattle.powers.specs.Powers.{power_i}
use Rattle.intervals.specs.declared.Interval.{Interval}
use Rattle.slopes.specs.Terms.{factor_i, term_over, lowered, term_slope}

module _ (e : ℕ) (a x : Interval) where
  pub factor-none : e ≡ 0 → factor_i e a x ≡ a
  unfolding factor_i
  factor-none h = rw (eq-eqb e 0 h)

  pub factor-some : 0 < e → factor_i e a x ≡ mul_i a (power_i e x)
  unfolding factor_i
  factor-some h = rw (ne_eqb e 0 (λ q. omega arith))

module _ (c : ℤ) (e : ℕ → ℕ) (X : ℕ → Interval) where
  -- unknown k comes after those below it
  pub term-next : (k : ℕ) → term_over (suc k) c e X ≡ factor_i (e k) (term_over k c e X) (X k)
  unfolding term_over carry
  term-next k = refl

  -- before the loop, a turn, after it
  pub term-none : point_i c ≡ term_over 0 c e X
  unfolding term_over
  term-none = carry-none (point_i c) (λ k a. factor_i (e k) a (X k))

  pub term-more : (k : ℕ) {m : ℕ} {a r : Interval} → r ≡ factor_i m a (X k)
      → m ≡ e k → a ≡ term_over k c e X → r ≡ term_over (k + 1) c e X
  unfolding term_over
  term-more k {a = a} p q h =
      p ∙ ap (λ (m : ℕ). factor_i m a (X k)) q ∙ carry-more (point_i c) (λ k a. factor_i (e k) a (X k)) k h

  pub term-done : {k n : ℕ} {a : Interval} → k ≤ n → n ≤ k → a ≡ term_over k c e X → a ≡ term_over n c e X
  term-done h k p = rw (← le_antisymm h k) p

  -- a term without unknown j has no part in its slope
  pub slope-none : (n j : ℕ) → e j ≡ 0 → term_slope n c e j X ≡ zero_i
  unfolding term_slope
  slope-none n j h = rw (eq-eqb (e j) 0 h)

  -- the ends of the rounded term are multiplied
  pub slope-some : (n j : ℕ) → (e j ≡ 0 → ⊥) → term_slope n c e j X ≡ scale_i (e j) (term_over n c (lowered j e) X)
  unfolding term_slope
  slope-some n j h = rw (ne_eqb (e j) 0 h)
