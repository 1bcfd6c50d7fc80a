-- Of n fractions with positive denominators one is largest.
use mathlib.Core.Logic.{⊎_elim}
use mathlib.Core.Path.{◌≡◌, refl}
use mathlib.Core.List.{[], ◌∷◌}
use Prim.Native.Nat.{ℕ, zero, suc, ◌<◌}
use native.Mathlib.Omega.{arith}
use native.Mathlib.Decide.{ℕ_discrete}
use lib.IntN.{ℤ, pos, ◌*ℤ◌}
use lib.Signed.{◌≤ℤ◌, ◌<ℤ◌}
use Rattle.integers.proofs.Parts.{zorder}
use Rattle.integers.proofs.Ring.{◌⊗◌, ring}
use Rattle.integers.proofs.Order.{mul-mono-r, nonneg, total_ℤ, cancel-r}
use Rattle.promises.specs.Claims.{Largest}

-- u a / w a ≤ u b / w b ≤ u c / w c
between : (u w : ℕ → ℤ) (a b c : ℕ) → pos 0 <ℤ w a → pos 0 <ℤ w b → pos 0 <ℤ w c
    → (u a *ℤ w b) ≤ℤ (u b *ℤ w a) → (u b *ℤ w c) ≤ℤ (u c *ℤ w b) → (u a *ℤ w c) ≤ℤ (u c *ℤ w a)
between u w a b c wa wb wc h k =
    cancel-r (u a *ℤ w c) (u c *ℤ w a) (w b) wb
    (omega (
      zorder,
      swap (u a) (w c) (w b),
      mul-mono-r h (nonneg wc),
      swap (u b) (w a) (w c),
      mul-mono-r k (nonneg wa),
      swap (u c) (w b) (w a),
    ))
  where
    swap : (u v w : ℤ) → (u *ℤ v) *ℤ w ≡ (u *ℤ w) *ℤ v
    swap u v w = ring (u ∷ v ∷ w ∷ []) (λ u v w. (u ⊗ v) ⊗ w) (λ u v w. (u ⊗ w) ⊗ v) refl

pub largest : (n : ℕ) (u w : ℕ → ℤ) → ((k : ℕ) → k < suc n → pos 0 <ℤ w k) → Largest (suc n) u w
largest zero u w p = record { place = 0; live = omega arith; most = λ k l. only k l (ℕ_discrete k 0) }
  where
    only : (k : ℕ) → k < 1 → Dec (k ≡ 0) → (u k *ℤ w 0) ≤ℤ (u 0 *ℤ w k)
    only k l (yes e) = rw e (omega zorder)
    only k l (no e) = absurd (omega arith)
largest (suc n) u w p = by (largest n u w (λ k l. p k (omega arith)))
  where
    last : ℕ
    last = suc n

    by : Largest (suc n) u w → Largest (suc (suc n)) u w
    by r = ⊎_elim keep change (total_ℤ (u last *ℤ w r.place) (u r.place *ℤ w last))
      where
        up : r.place < suc (suc n)
        up = omega (arith, r.live)

        split : {Z : Type 0} (k : ℕ) → k < suc (suc n) → (k ≡ last → Z) → (k < suc n → Z) → Z
        split {Z} k l f g = at (ℕ_discrete k last)
          where
            at : Dec (k ≡ last) → Z
            at (yes e) = f e
            at (no e) = g (omega arith)

        keep : (u last *ℤ w r.place) ≤ℤ (u r.place *ℤ w last) → Largest (suc (suc n)) u w
        keep h = record { place = r.place; live = up; most = λ k l. split k l (λ e. rw e h) (r.most k) }

        change : (u r.place *ℤ w last) <ℤ (u last *ℤ w r.place) → Largest (suc (suc n)) u w
        change h = record {
          place = last;
          live = omega arith;
          most = λ k l. split k l (λ e. rw e (omega zorder))
              (λ m. between u w k r.place last (p k l) (p r.place up) (p last (omega arith)) (r.most k m)
              (omega zorder));
        }
