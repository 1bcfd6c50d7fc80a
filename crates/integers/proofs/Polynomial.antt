-- Orders between polynomial expressions, by omega: each monomial of the normal form of r - l is handed over as one
-- unknown.
--     given ρ l r h     what h : (the value of l) ≤ℤ (the value of r) says of those unknowns
--     shown ρ l r t     such an order, from what it says
-- l and r are functions of the variables, whose values are ρ, as in `ring`. `shown<` likewise.
use mathlib.Core.Path.{◌≡◌, refl, sym, ap, ◌∙◌}
use mathlib.Core.List.{List, [], ◌∷◌}
use Prim.Native.Nat.{ℕ, suc, ◌+◌, ◌*◌, ◌≤◌, ◌<◌}
use native.Mathlib.Omega.{arith}
use lib.ListN.{length}
use lib.IntN.{ℤ, pos, negsuc, neg_ℤ, ◌-ℤ◌, ◌*ℤ◌, *ℤ_comm}
use lib.Signed.{◌≤ℤ◌, ◌<ℤ◌}
use Rattle.integers.proofs.Commutative.{one-*ℤ, neg-*ℤ}
use Rattle.integers.proofs.Parts.{pos_part, neg_part, zorder, add-pn, neg-pos_part, neg-neg_part}
use Rattle.integers.proofs.Linear.{sub-pn, pos_part-lit, neg_part-lit}
use Rattle.integers.proofs.Ring.{Ex, ◌⊖◌, at, val, mval, Poly, nil, term, pval, norm, norm-val, Over, named}

-- a monomial, with no 1 at its end
abbrev pub mon : List ℤ → List ℕ → ℤ
mon ρ [] = pos 1
mon ρ (i ∷ []) = at ρ i
mon ρ (i ∷ j ∷ m) = at ρ i *ℤ mon ρ (j ∷ m)

mon-val : (ρ : List ℤ) (m : List ℕ) → mon ρ m ≡ mval ρ m
mon-val ρ [] = refl
mon-val ρ (i ∷ []) = sym (*ℤ_comm (at ρ i) (pos 1) ∙ one-*ℤ (at ρ i))
mon-val ρ (i ∷ j ∷ m) = ap (λ (y : ℤ). at ρ i *ℤ y) (mon-val ρ (j ∷ m))

-- a polynomial as the difference of two naturals
abbrev pub plus : List ℤ → Poly → ℕ
plus ρ nil = 0
plus ρ (term (pos c) m p) = c * pos_part (mon ρ m) + plus ρ p
plus ρ (term (negsuc c) m p) = suc c * neg_part (mon ρ m) + plus ρ p

abbrev pub less : List ℤ → Poly → ℕ
less ρ nil = 0
less ρ (term (pos c) m p) = c * neg_part (mon ρ m) + less ρ p
less ρ (term (negsuc c) m p) = suc c * pos_part (mon ρ m) + less ρ p

split : (ρ : List ℤ) (p : Poly) → pos_part (pval ρ p) + less ρ p ≡ neg_part (pval ρ p) + plus ρ p
split ρ nil = refl
split ρ (term (pos c) m p) =
    rw (← mon-val ρ m)
    (omega (arith, add-pn (pos c *ℤ mon ρ m) (pval ρ p), pos_part-lit c (mon ρ m), neg_part-lit c (mon ρ m), split ρ p))
split ρ (term (negsuc c) m p) =
    let t = pos (suc c) *ℤ mon ρ m in
    rw (← mon-val ρ m) (rw (neg-*ℤ (pos (suc c)) (mon ρ m))
    (omega (
      arith,
      add-pn (neg_ℤ t) (pval ρ p),
      neg-pos_part t,
      neg-neg_part t,
      pos_part-lit (suc c) (mon ρ m),
      neg_part-lit (suc c) (mon ρ m),
      split ρ p,
    )))

module _ (ρ : List ℤ) (l r : Over (length ρ)) where
  abbrev pub left : Ex
  left = named (length ρ) 0 l

  abbrev pub right : Ex
  right = named (length ρ) 0 r

  abbrev pub below : ℕ
  below = less ρ (norm (right ⊖ left))

  abbrev pub above : ℕ
  above = plus ρ (norm (right ⊖ left))

  both : pos_part (val ρ right -ℤ val ρ left) + below ≡ neg_part (val ρ right -ℤ val ρ left) + above
  both = rw (← norm-val ρ (right ⊖ left)) (split ρ (norm (right ⊖ left)))

  pub given : val ρ left ≤ℤ val ρ right → below ≤ above
  given h = omega (zorder, both, sub-pn (val ρ right) (val ρ left))

  pub shown : below ≤ above → val ρ left ≤ℤ val ρ right
  shown h = omega (zorder, both, sub-pn (val ρ right) (val ρ left))

  pub shown< : below < above → val ρ left <ℤ val ρ right
  shown< h = omega (zorder, both, sub-pn (val ρ right) (val ρ left))
