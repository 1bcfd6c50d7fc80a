-- What is written in units denotes exactly the number of marks.
use Prim.Native.Nat.{ℕ, zero, suc, ◌+◌, ◌-◌, ◌*◌, ◌/◌, ◌%◌, ◌^◌, ◌≤◌, ◌<◌}
use native.Mathlib.Omega.{arith}
use native.Mathlib.Nat.{pow-suc, add-mul, mul_assoc, mul_comm, div-add-mod'}
use mathlib.Core.Path.{◌≡◌, refl, sym, ap, ◌∙◌}
use mathlib.Core.List.{List, [], ◌∷◌, ◌++◌}
use lib.ListN.{length}
use lib.IntN.{ℤ, pos, negsuc, nat_abs}
use borrow.Author.Tests.{lt-ltb, le-ltb, eq-eqb, ne_eqb}
use Rattle.digits.specs.Bytes.{digit0, digit9}
use Rattle.digits.specs.Number.{digits_max, digits_from}
use Rattle.digits.specs.Show.{show_magnitude}
use Rattle.digits.proofs.ReadBack.{digits-back}
use Rattle.digits.proofs.Cases.{either, same_or}
use Rattle.decimals.specs.Units.{unit, decimals_max, decimals, fraction, show_size, show_units}
use Rattle.decimals.specs.Denotes.{sign_of, pointed, Denotes}
use Rattle.std.specs.Prelude.{Some, None}

-- the digits ds, behind a point and after the whole number v, spell v units and r marks: with L digits, the number m of
-- all of them is that times 10 to the power L
pub record Spell (v r : ℕ) (ds : List ℕ) : Type 0 where
  pub m : ℕ
  pub digits : digits_from v ds ≡ Some m
  pub exact : m * unit ≡ (v * unit + r) * 10 ^ length ds

none : (v r : ℕ) → r ≡ 0 → Spell v r []
unfolding digits_from
none v r e = record { m = v; digits = refl; exact = omega arith }

-- one digit more
one : (v r : ℕ) (ds : List ℕ) → r < unit
    → Spell (v * 10 + r * 10 / unit) (r * 10 % unit) ds → Spell v r ((digit0 + r * 10 / unit) ∷ ds)
unfolding digits_from
one v r ds h s =
    let d : ℕ = r * 10 / unit in
    let small : d ≤ 9 = omega arith in
    let e : digit0 + d - digit0 ≡ d = omega arith in
    let ten : (v * 10 + d) * unit + r * 10 % unit ≡ (v * unit + r) * 10 = omega arith in
    record {
      m = s.m;
      digits = rw (le-ltb (digit0 + d) digit0 (omega arith), le-ltb digit9 (digit0 + d) (omega arith), e) s.digits;
      exact = s.exact ∙ rw (ten, mul_assoc, mul_comm 10, ← pow-suc 10 (length ds));
    }

-- what is left after a digit comes to whole units too
rest-whole : (k r q : ℕ) → r * 10 ^ suc k ≡ q * unit → r * 10 % unit * 10 ^ k ≡ (q - r * 10 / unit * 10 ^ k) * unit
rest-whole k r q e =
    let d : ℕ = r * 10 / unit in
    let left : ℕ = r * 10 % unit in
    let p : ℕ = 10 ^ k in
    let ten : r * 10 * p ≡ q * unit = rw (mul_assoc r 10 p, mul_comm 10 p, ← pow-suc 10 k) e in
    let whole : (d * unit + left) * p ≡ q * unit = ap (λ (x : ℕ). x * p) (div-add-mod' (r * 10) unit) ∙ ten in
    let parts : d * unit * p + left * p ≡ q * unit = sym (add-mul (d * unit) left p) ∙ whole in
    let units : d * unit * p ≡ d * p * unit = rw (mul_assoc d unit p, mul_comm unit p, mul_assoc d p unit) in
    omega arith

-- k digits are enough where 10 to the power k takes the marks to whole units
enough : (k v r q : ℕ) → r < unit → r * 10 ^ k ≡ q * unit → Spell v r (decimals k r)
unfolding decimals
enough zero v r q h e = none v r (omega arith)
enough (suc k) v r q h e =
    let left : ℕ = r * 10 % unit in
    same_or r 0
    (λ z. rw (eq-eqb r 0 z) (none v r z))
    (λ n. rw (ne_eqb r 0 n) (one v r (decimals k left) h (enough k _ left _ (omega arith) (rest-whole k r q e))))

no-cons : (x : ℕ) (xs : List ℕ) → [] ≡ x ∷ xs → ⊥
no-cons x xs e = let z : ◌≡◌ {A = ℕ} 0 1 = cc in omega arith

no_last : (ds : List ℕ) (x : ℕ) → [] ≡ ds ++ (x ∷ []) → ⊥
no_last [] x e = no-cons x [] e
no_last (d ∷ ds) x e = no-cons d (ds ++ (x ∷ [])) e

parts_are : (a b : ℕ) (xs ys : List ℕ) → a ∷ xs ≡ b ∷ ys → (a ≡ b) × (xs ≡ ys)
parts_are a b xs ys e = (cc, cc)

-- where no digit comes, nothing is left
nothing_left : (k r q : ℕ) → r < unit → r * 10 ^ k ≡ q * unit → decimals k r ≡ [] → r ≡ 0
unfolding decimals
nothing_left zero r q h e n = omega arith
nothing_left (suc k) r q h e n =
    same_or r 0
    (λ z. z)
    (λ p. absurd (no-cons _ _ (sym (rw (ne_eqb r 0 p) at n))))

-- the last digit is no 0
shortest : (k r q : ℕ) (ds : List ℕ) → r < unit → r * 10 ^ k ≡ q * unit → decimals k r ≡ ds ++ (digit0 ∷ []) → ⊥
unfolding decimals
shortest zero r q ds h e n = no_last ds digit0 n
shortest (suc k) r q ds h e n =
    same_or r 0
    (λ z. no_last ds digit0 (rw (eq-eqb r 0 z) at n))
    (λ p. step p ds (rw (ne_eqb r 0 p) at n) (shortest k (r * 10 % unit) _))
  where
    step : (r ≡ 0 → ⊥) → (ds : List ℕ) → (digit0 + r * 10 / unit) ∷ decimals k (r * 10 % unit) ≡ ds ++ (digit0 ∷ [])
        → ((ds : List ℕ) → r * 10 % unit < unit → r * 10 % unit * 10 ^ k ≡ (q - r * 10 / unit * 10 ^ k) * unit
        → decimals k (r * 10 % unit) ≡ ds ++ (digit0 ∷ []) → ⊥)
        → ⊥
    step p [] m again =
        let t = parts_are _ _ _ _ m in
        let z = nothing_left k (r * 10 % unit) _ (omega arith) (rest-whole k r q e) t.1 in
        p (omega (arith, t.0, z))
    step p (b ∷ ds) m again = again ds (omega arith) (rest-whole k r q e) (parts_are _ _ _ _ m).1

bad-is : {A : Type 0} (m : ℕ) → None ≡ Some m → A
bad-is m e = absurd (let z : ◌≡◌ {A = ℕ} 0 1 = cc in omega arith)

-- digits go on after what was spelled
spelled-on : (v u : ℕ) (xs ys : List ℕ) → digits_from v xs ≡ Some u
    → digits_from v (xs ++ ys) ≡ digits_from u ys
unfolding digits_from
spelled-on v u [] ys e = let w : v ≡ u = cc in rw w
spelled-on v u (b ∷ xs) ys e =
    either b digit0
    (λ p. bad-is u (rw (lt-ltb b digit0 p) at e))
    (λ p.
    either digit9 b
    (λ q. bad-is u (rw (le-ltb b digit0 p, lt-ltb digit9 b q) at e))
    (λ q.
    rw (le-ltb b digit0 p, le-ltb digit9 b q)
    (spelled-on (v * 10 + (b - digit0)) u xs ys (rw (le-ltb b digit0 p, le-ltb digit9 b q) at e))))

fraction-is : (r : ℕ) → fraction r ≡ pointed (decimals decimals_max r)
unfolding fraction pointed decimals
fraction-is r =
    same_or r 0
    (λ z. rw (eq-eqb r 0 z))
    (λ n. rw (ne_eqb r 0 n))

looks : (v : ℤ)
    → show_units v
    ≡ sign_of v ++ show_magnitude digits_max (nat_abs v / unit) ++ pointed (decimals decimals_max (nat_abs v % unit))
unfolding show_units show_size sign_of
looks (pos m) = rw (fraction-is (m % unit))
looks (negsuc m) = rw (fraction-is (suc m % unit))

-- 10 to the power 16 is 65,536 times 152,587,890,625
sixteen : (r : ℕ) → r * 10 ^ decimals_max ≡ r * 152587890625 * unit
sixteen r = omega arith

-- every number of at most nine digits of marks is written exactly
pub units-exact : (v : ℤ) → nat_abs v < 10 ^ digits_max → Denotes (show_units v) v
units-exact v h =
    let n : ℕ = nat_abs v in
    let s = enough decimals_max (n / unit) (n % unit) _ (omega arith) (sixteen (n % unit)) in
    record {
      whole = show_magnitude digits_max (n / unit);
      part = decimals decimals_max (n % unit);
      m = s.m;
      looks = looks v;
      digits = spelled-on 0 (n / unit) _ _ (digits-back 8 (n / unit) (omega arith)) ∙ s.digits;
      exact = s.exact ∙ rw (div-add-mod' n unit);
      shortest = λ ds e. shortest decimals_max (n % unit) _ ds (omega arith) (sixteen (n % unit)) e;
    }
