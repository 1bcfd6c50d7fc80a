-- A scalar product looks at the live places alone.
use mathlib.Core.Path.{◌≡◌, ap, ap₂}
use Prim.Native.Nat.{ℕ, ◌<◌}
use lib.IntN.{ℤ}
use Rattle.intervals.specs.Interval.{point_i, add_i, neg_i, wide_i, out_i}
use Rattle.intervals.proofs.Sums.{sum_i-cong}
use Rattle.intervals.specs.declared.Interval.{Interval}
use Rattle.matrices.specs.Products.{dot_i, unit_z, entry_b, d_of, b_of, e_of}

module _ (n : ℕ) {a b c d : ℕ → Interval} (h : (k : ℕ) → k < n → a k ≡ c k) (g : (k : ℕ) → k < n → b k ≡ d k) where
  pub dot-cong : dot_i n a b ≡ dot_i n c d
  unfolding dot_i
  dot-cong = sum_i-cong n (λ k. wide_i (a k) (b k)) (λ k. wide_i (c k) (d k)) (λ k l. ap₂ wide_i (h k l) (g k l))

  pub entry-cong : (i j : ℕ) → entry_b n a b i j ≡ entry_b n c d i j
  unfolding entry_b
  entry-cong i j = ap (λ (s : Interval). out_i (add_i (point_i (unit_z i j)) (neg_i s))) dot-cong

-- D, B and E look at the live places of C, F, S, B and Z alone
module _ (n : ℕ) (C C' : ℕ → ℕ → ℤ) (i : ℕ) (same : (k : ℕ) → k < n → C i k ≡ C' i k) where
  pub d-cong : {F F' : ℕ → Interval} → ((k : ℕ) → k < n → F k ≡ F' k) → d_of n C F i ≡ d_of n C' F' i
  unfolding d_of
  d-cong f = ap out_i (dot-cong n (λ k l. ap point_i (same k l)) f)

  pub b-cong : (S S' : ℕ → ℕ → Interval) (j : ℕ) → ((k : ℕ) → k < n → S k j ≡ S' k j)
      → b_of n C S i j ≡ b_of n C' S' i j
  unfolding b_of
  b-cong S S' j s = entry-cong n (λ k l. ap point_i (same k l)) s i j

pub e-cong : (n : ℕ) (B B' : ℕ → ℕ → Interval) {Z Z' : ℕ → Interval} (i : ℕ) → ((k : ℕ) → k < n → B i k ≡ B' i k)
    → ((k : ℕ) → k < n → Z k ≡ Z' k)
    → e_of n B Z i ≡ e_of n B' Z' i
unfolding e_of
e-cong n B B' i b z = ap out_i (dot-cong n b z)
