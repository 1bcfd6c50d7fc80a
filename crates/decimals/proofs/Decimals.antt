-- The digits behind the point, as a loop takes them.
use Prim.Native.Nat.{ℕ, zero, suc, ◌+◌, ◌-◌, ◌*◌, ◌/◌, ◌%◌, ◌≤◌, ◌<◌}
use native.Mathlib.Omega.{arith}
use mathlib.Core.Path.{◌≡◌, refl}
use mathlib.Core.List.{[], ◌∷◌}
use lib.ListN.{length, length-append}
use borrow.Author.Tests.{eq-eqb, ne_eqb}
use Rattle.digits.specs.Bytes.{digit0}
use Rattle.digits.specs.Number.{digits_max}
use Rattle.digits.proofs.Cases.{same_or}
use Rattle.digits.proofs.Show.{show-short}
use Rattle.decimals.specs.Units.{unit, decimals_max, decimals, fraction, show_size}

pub none_left : (k r : ℕ) → r ≡ 0 → decimals k r ≡ []
unfolding decimals
none_left zero r e = refl
none_left (suc k) r e = rw (eq-eqb r 0 e)

pub no_more : (k r : ℕ) → k ≡ 0 → decimals k r ≡ []
unfolding decimals
no_more k r e = rw e

pub one_more : (k r : ℕ) → 0 < k → (r ≡ 0 → ⊥)
    → decimals k r ≡ (digit0 + r * 10 / unit) ∷ decimals (k - 1) (r * 10 % unit)
unfolding decimals
one_more zero r h n = absurd (omega arith)
one_more (suc k) r h n =
    let e : suc k - 1 ≡ k = omega arith in
    rw (e, ne_eqb r 0 n)

decimals-short : (k r : ℕ) → length (decimals k r) ≤ k
unfolding decimals
decimals-short zero r = omega arith
decimals-short (suc k) r =
    let h = decimals-short k (r * 10 % unit) in
    same_or r 0 (λ z. rw (eq-eqb r 0 z) (omega arith)) (λ n. rw (ne_eqb r 0 n) (omega arith))

fraction-short : (r : ℕ) → length (fraction r) ≤ decimals_max + 1
unfolding fraction
fraction-short r =
    let h = decimals-short decimals_max r in
    same_or r 0 (λ z. rw (eq-eqb r 0 z) (omega arith)) (λ n. rw (ne_eqb r 0 n) (omega arith))

pub size-short : (m : ℕ) → length (show_size m) ≤ digits_max + 1 + decimals_max
unfolding show_size
size-short m =
    let h = show-short digits_max (m / unit) in
    let f = fraction-short (m % unit) in
    rw (length-append) (omega arith)
