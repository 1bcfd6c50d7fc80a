-- An integer as the difference of two naturals, pos_part z - neg_part z, one of them 0: the orders and the equation
-- of integers
-- become those of naturals, which omega reads.
use mathlib.Core.Path.{◌≡◌, refl, ap, subst}
use mathlib.Core.Bool.{Bool, true, false, not, cond}
use Prim.Native.Nat.{ℕ, zero, suc, ◌+◌, ◌-◌, ◌≤◌, ◌<◌}
use native.Mathlib.Omega.{arith}
use lib.IntN.{ℤ, pos, negsuc, neg_ℤ, ◌+ℤ◌, sub_ℕ}
use lib.Dec.{T, ltb, ltb→lt, nltb→le, leb→le, le→leb, lt→ltb}
use lib.Signed.{◌≤ℤ◌, ◌<ℤ◌, le_z, lt_z, le_z_yes, lt_z_yes}

abbrev pub pos_part : ℤ → ℕ
pos_part (pos n) = n
pos_part (negsuc n) = 0

abbrev pub neg_part : ℤ → ℕ
neg_part (pos n) = 0
neg_part (negsuc n) = suc n

le-in' : (a b : ℤ) → T (le_z a b) → pos_part a + neg_part b ≤ pos_part b + neg_part a
le-in' (pos a) (pos b) t = omega (arith, leb→le a b t)
le-in' (pos a) (negsuc b) t = absurd t
le-in' (negsuc a) (pos b) t = omega arith
le-in' (negsuc a) (negsuc b) t = omega (arith, leb→le b a t)

le-out' : (a b : ℤ) → pos_part a + neg_part b ≤ pos_part b + neg_part a → T (le_z a b)
le-out' (pos a) (pos b) t = le→leb a b (omega arith)
le-out' (pos a) (negsuc b) t = absurd (no a b t)
  where
    no : (a b : ℕ) → a + suc b ≤ 0 + 0 → ⊥
    no a b t = omega arith
le-out' (negsuc a) (pos b) t = tt
le-out' (negsuc a) (negsuc b) t = le→leb b a (omega arith)

lt-in' : (a b : ℤ) → T (lt_z a b) → pos_part a + neg_part b < pos_part b + neg_part a
lt-in' (pos a) (pos b) t = omega (arith, ltb→lt a b t)
lt-in' (pos a) (negsuc b) t = absurd t
lt-in' (negsuc a) (pos b) t = omega arith
lt-in' (negsuc a) (negsuc b) t = omega (arith, ltb→lt b a t)

lt-out' : (a b : ℤ) → pos_part a + neg_part b < pos_part b + neg_part a → T (lt_z a b)
lt-out' (pos a) (pos b) t = lt→ltb a b (omega arith)
lt-out' (pos a) (negsuc b) t = absurd (no a b t)
  where
    no : (a b : ℕ) → a + suc b < 0 + 0 → ⊥
    no a b t = omega arith
lt-out' (negsuc a) (pos b) t = tt
lt-out' (negsuc a) (negsuc b) t = lt→ltb b a (omega arith)

pub le_in : {a b : ℤ} → a ≤ℤ b → pos_part a + neg_part b ≤ pos_part b + neg_part a
le_in {a} {b} h = le-in' a b h.le

pub le_out : {a b : ℤ} → pos_part a + neg_part b ≤ pos_part b + neg_part a → a ≤ℤ b
le_out {a} {b} h = le_z_yes (le-out' a b h)

pub lt_in : {a b : ℤ} → a <ℤ b → pos_part a + neg_part b < pos_part b + neg_part a
lt_in {a} {b} h = lt-in' a b h.lt

pub lt_out : {a b : ℤ} → pos_part a + neg_part b < pos_part b + neg_part a → a <ℤ b
lt_out {a} {b} h = lt_z_yes (lt-out' a b h)

pub eq-in : {a b : ℤ} → a ≡ b → pos_part a + neg_part b ≡ pos_part b + neg_part a
eq-in {a} {b} h = subst (λ (x : ℤ). pos_part a + neg_part x ≡ pos_part x + neg_part a) h refl

eq-out' : (a b : ℤ) → pos_part a + neg_part b ≡ pos_part b + neg_part a → a ≡ b
eq-out' (pos a) (pos b) t = ap pos (omega arith)
eq-out' (pos a) (negsuc b) t = absurd (no a b t)
  where
    no : (a b : ℕ) → a + suc b ≡ 0 + 0 → ⊥
    no a b t = omega arith
eq-out' (negsuc a) (pos b) t = absurd (no a b t)
  where
    no : (a b : ℕ) → 0 + 0 ≡ b + suc a → ⊥
    no a b t = omega arith
eq-out' (negsuc a) (negsuc b) t = ap negsuc (omega arith)

pub eq-out : {a b : ℤ} → pos_part a + neg_part b ≡ pos_part b + neg_part a → a ≡ b
eq-out {a} {b} t = eq-out' a b t

-- the sum
sub-pn : (a b : ℕ) → pos_part (sub_ℕ a b) + b ≡ neg_part (sub_ℕ a b) + a
sub-pn a b = by (ltb a b) (ltb→lt a b) (nltb→le a b)
  where
    by : (t : Bool) → (T t → a < b) → (T (not t) → b ≤ a)
        → pos_part (cond t (negsuc (b - suc a)) (pos (a - b))) + b
        ≡ neg_part (cond t (negsuc (b - suc a)) (pos (a - b))) + a
    by true f g = omega (arith, f tt)
    by false f g = omega (arith, g tt)

pub add-pn : (a b : ℤ) → pos_part (a +ℤ b) + (neg_part a + neg_part b) ≡ neg_part (a +ℤ b) + (pos_part a + pos_part b)
add-pn (pos a) (pos b) = omega arith
add-pn (pos a) (negsuc b) = omega (arith, sub-pn a (suc b))
add-pn (negsuc a) (pos b) = omega (arith, sub-pn b (suc a))
add-pn (negsuc a) (negsuc b) = omega arith

pub neg-pos_part : (a : ℤ) → pos_part (neg_ℤ a) ≡ neg_part a
neg-pos_part (pos zero) = refl
neg-pos_part (pos (suc n)) = refl
neg-pos_part (negsuc n) = refl

pub neg-neg_part : (a : ℤ) → neg_part (neg_ℤ a) ≡ pos_part a
neg-neg_part (pos zero) = refl
neg-neg_part (pos (suc n)) = refl
neg-neg_part (negsuc n) = refl

pub ruleset zorder = (arith, le_in, le_out, lt_in, lt_out, eq-in, eq-out)
