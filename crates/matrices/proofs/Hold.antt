-- Each scalar product holds the exact sum of products, whatever members are chosen; after its rounding the denominator
-- is 65,536 times as large.
use Prim.Native.Nat.{ℕ, ◌<◌}
use lib.IntN.{ℤ, pos, ◌-ℤ◌, ◌*ℤ◌}
use lib.Signed.{◌<ℤ◌}
use Rattle.integers.proofs.Commutative.{one-*ℤ}
use Rattle.integers.proofs.Parts.{zorder}
use Rattle.integers.specs.Sums.{sum_to}
use Rattle.integers.proofs.Order.{pos-mul}
use Rattle.intervals.specs.Interval.{mark, point_i, wide_i}
use Rattle.intervals.specs.Fraction.{In}
use Rattle.intervals.proofs.Hold.{hold-point, hold-const, hold-add, hold-neg, hold-sum, hold-wide, hold-out}
use Rattle.intervals.specs.declared.Interval.{Interval}
use Rattle.matrices.specs.Products.{dot_i, unit_z, entry_b, d_of, b_of, e_of}

module _ (n : ℕ) where
  pub hold-dot : (u v : ℕ → ℤ) (A B : ℕ → Interval) {U W : ℤ} → pos 0 <ℤ U → pos 0 <ℤ W
      → ((k : ℕ) → k < n → In (u k) U (A k)) → ((k : ℕ) → k < n → In (v k) W (B k))
      → In (sum_to n (λ k. u k *ℤ v k)) (U *ℤ W) (dot_i n A B)
  unfolding dot_i
  hold-dot u v A B p q h g =
      hold-sum n (λ k. u k *ℤ v k) (λ k. wide_i (A k) (B k)) (pos-mul p q) (λ k l. hold-wide (h k l) (g k l))

  -- whole factors
  hold-points : (c v : ℕ → ℤ) (B : ℕ → Interval) {W : ℤ} → pos 0 <ℤ W
      → ((k : ℕ) → k < n → In (v k) W (B k)) → In (sum_to n (λ k. c k *ℤ v k)) W (dot_i n (λ k. point_i (c k)) B)
  hold-points c v B {W} q g =
      rw (one-*ℤ W) at (hold-dot c v (λ k. point_i (c k)) B {U = pos 1} (omega zorder) q (λ k _. hold-point (c k)) g)

  -- D = C F
  pub hold-d : (C : ℕ → ℕ → ℤ) (F : ℕ → Interval) (i : ℕ) (v : ℕ → ℤ) {W : ℤ} → pos 0 <ℤ W
      → ((k : ℕ) → k < n → In (v k) W (F k)) → In (sum_to n (λ k. C i k *ℤ v k)) (W *ℤ pos mark) (d_of n C F i)
  unfolding d_of
  hold-d C F i v q g = hold-out (hold-points (C i) v F q g)

  -- B = I - C S, with members of column j of S
  pub hold-b : (C : ℕ → ℕ → ℤ) (S : ℕ → ℕ → Interval) (i j : ℕ) (v : ℕ → ℤ) {W : ℤ} → pos 0 <ℤ W
      → ((k : ℕ) → k < n → In (v k) W (S k j))
      → In (unit_z i j *ℤ W -ℤ sum_to n (λ k. C i k *ℤ v k)) (W *ℤ pos mark) (b_of n C S i j)
  unfolding b_of entry_b
  hold-b C S i j v q g =
      hold-out (hold-add (hold-const (unit_z i j) q) (hold-neg (hold-points (C i) v (λ k. S k j) q g)))

  -- E = B Z, with members of row i of B
  pub hold-e : (B : ℕ → ℕ → Interval) (Z : ℕ → Interval) (i : ℕ) (u v : ℕ → ℤ) {U W : ℤ} → pos 0 <ℤ U → pos 0 <ℤ W
      → ((k : ℕ) → k < n → In (u k) U (B i k)) → ((k : ℕ) → k < n → In (v k) W (Z k))
      → In (sum_to n (λ k. u k *ℤ v k)) ((U *ℤ W) *ℤ pos mark) (e_of n B Z i)
  unfolding e_of
  hold-e B Z i u v p q h g = hold-out (hold-dot u v (B i) Z p q h g)
