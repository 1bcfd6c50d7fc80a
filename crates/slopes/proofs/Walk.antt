-- The walk from a point R to a point P, one coordinate at a time: the difference of a term's values is the sum of the
-- differences of the coordinates, each times the quotient of one power and the powers of the others.
use mathlib.Core.Path.{◌≡◌, refl, sym, ap, ◌∙◌}
use mathlib.Core.Bool.{cond}
use mathlib.Core.Logic.{⊎_elim}
use mathlib.Core.List.{[], ◌∷◌}
use Prim.Native.Nat.{ℕ, zero, suc, ◌<◌}
use native.Mathlib.Nat.{not-suc-le-zero, le_of_suc-le-suc, eq-or-lt_of_le}
use native.Mathlib.Omega.{arith}
use lib.Dec.{eqb}
use lib.IntN.{ℤ, pos, ◌+ℤ◌, ◌-ℤ◌, ◌*ℤ◌, zero-*ℤ, *ℤ-zero}
use borrow.Author.Tests.{eq-eqb, ne_eqb}
use Rattle.integers.specs.Sums.{sum_to}
use Rattle.integers.proofs.Commutative.{*ℤ-assoc}
use Rattle.integers.proofs.Ring.{lit, ◌⊕◌, ◌⊖◌, ◌⊗◌, ring}
use Rattle.integers.proofs.Sums.{sum-cong, sum-mul-r}
use Rattle.powers.proofs.Exact.{quotient, quotient-law}
use Rattle.slopes.specs.Fractions.{power, term_num}

module _ (c : ℤ) (e : ℕ → ℕ) (P R : ℕ → ℤ) where
  -- what the difference of coordinate j is multiplied by: P's powers before unknown j, R's after it
  unfoldable pub part : ℕ → ℕ → ℤ
  part zero j = pos 0
  part (suc n) j = cond (eqb j n) (term_num n c e P *ℤ quotient (e n) (P n) (R n)) (part n j *ℤ power (R n) (e n))

  pub part-more : (n j : ℕ) → j < n → part (suc n) j ≡ part n j *ℤ power (R n) (e n)
  unfolding part
  part-more n j h = let ne : j ≡ n → ⊥ = λ q. omega arith in rw (ne_eqb j n ne)

  pub part-last : (n : ℕ) → part (suc n) n ≡ term_num n c e P *ℤ quotient (e n) (P n) (R n)
  unfolding part
  part-last n = rw (eq-eqb n n refl)

  -- nothing where unknown j does not stand
  pub part_none : (n j : ℕ) → j < n → e j ≡ 0 → part n j ≡ pos 0
  part_none zero j l z = absurd (not-suc-le-zero l)
  part_none (suc n) j l z = ⊎_elim here (λ m. there m (part_none n j m z)) (eq-or-lt_of_le (le_of_suc-le-suc l))
    where
      here : j ≡ n → part (suc n) j ≡ pos 0
      here p = rw p (part-last n ∙ rw (rw p at z) (unfold quotient sum_to in (*ℤ-zero (term_num n c e P))))

      there : j < n → part n j ≡ pos 0 → part (suc n) j ≡ pos 0
      there m r = part-more n j m ∙ rw r (zero-*ℤ (power (R n) (e n)))

  pub walk : (n : ℕ) → term_num n c e P -ℤ term_num n c e R ≡ sum_to n (λ j. (P j -ℤ R j) *ℤ part n j)
  unfolding term_num sum_to
  walk zero = ring (c ∷ []) (λ c. c ⊖ c) (λ c. lit (pos 0)) refl
  walk (suc n) =
      ring (term_num n c e P ∷ term_num n c e R ∷ power (P n) (e n) ∷ power (R n) (e n) ∷ [])
      (λ t s x y. t ⊗ x ⊖ s ⊗ y) (λ t s x y. (t ⊖ s) ⊗ y ⊕ t ⊗ (x ⊖ y)) refl
      ∙ ap (λ (z : ℤ). z *ℤ power (R n) (e n) +ℤ term_num n c e P *ℤ (power (P n) (e n) -ℤ power (R n) (e n))) (walk n)
      ∙ ap (λ (z : ℤ). sum_to n (λ j. (P j -ℤ R j) *ℤ part n j) *ℤ power (R n) (e n) +ℤ z) last
      ∙ ap (λ (z : ℤ). z +ℤ (P n -ℤ R n) *ℤ part (suc n) n) (sym early)
    where
      early : sum_to n (λ j. (P j -ℤ R j) *ℤ part (suc n) j)
          ≡ sum_to n (λ j. (P j -ℤ R j) *ℤ part n j) *ℤ power (R n) (e n)
      early =
          sum-cong n (λ j. (P j -ℤ R j) *ℤ part (suc n) j) (λ j. ((P j -ℤ R j) *ℤ part n j) *ℤ power (R n) (e n))
          (λ j l. ap (λ (z : ℤ). (P j -ℤ R j) *ℤ z) (part-more n j l)
          ∙ sym (*ℤ-assoc (P j -ℤ R j) (part n j) (power (R n) (e n))))
          ∙ sum-mul-r n (power (R n) (e n)) (λ j. (P j -ℤ R j) *ℤ part n j)

      last : term_num n c e P *ℤ (power (P n) (e n) -ℤ power (R n) (e n)) ≡ (P n -ℤ R n) *ℤ part (suc n) n
      last =
          ap (λ (z : ℤ). term_num n c e P *ℤ z) (quotient-law (e n) (P n) (R n))
          ∙ ring (term_num n c e P ∷ P n ∷ R n ∷ quotient (e n) (P n) (R n) ∷ [])
          (λ t x y g. t ⊗ ((x ⊖ y) ⊗ g)) (λ t x y g. (x ⊖ y) ⊗ (t ⊗ g)) refl
          ∙ ap (λ (z : ℤ). (P n -ℤ R n) *ℤ z) (sym (part-last n))
