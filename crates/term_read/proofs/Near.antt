-- Terms of which none is beyond its size have good coefficients.
use Prim.Native.Nat.{ℕ, zero, suc, ◌+◌, ◌-◌, min}
use mathlib.Core.Path.{◌≡◌, refl}
use mathlib.Core.List.{List, [], ◌∷◌}
use mathlib.Core.Bool.{Bool, true, false, cond, not, ◌||◌, true≢false}
use lib.ListN.{length, take, drop, get_or, set, replicate}
use lib.Dec.{eqb, leb}
use lib.IntN.{ℤ, pos}
use Rattle.sizes.specs.Sizes.{terms_max, entry_max}
use Rattle.digits.specs.Bytes.{comma}
use Rattle.digits.specs.Number.{read_number}
use Rattle.jobs.specs.declared.Term.{Term}
use Rattle.jobs.specs.Places.{no_term}
use Rattle.term_checks.specs.Ranges.{is_within}
use Rattle.term_checks.specs.Terms.{good_coefs}
use Rattle.jobs.specs.Zero.{zero_term}
use Rattle.term_checks.proofs.RangeLaws.{each_all}
use Rattle.text.specs.Cut.{Cut, fresh, feed, feeds}
use Rattle.text.specs.Keys.{starts_with, body_of}
use Rattle.term_text.specs.Terms.{Terms}
use Rattle.term_text.specs.Terms.{no_terms, misspelled, put_term, add_coef, add_parts, add_term, last_term}
use Rattle.digits.specs.Digits.{all_digits}
use Rattle.text.specs.Words.{eq_key}
use Rattle.term_text.specs.Terms.{exponents, colon, read_terms, read_equation}
use Rattle.std.specs.Prelude.{Some, None, Option}

abbrev sized : Term → Bool
sized x = is_within x.coef (pos entry_max)

-- each place has a coefficient in its range
record Near (a : Terms) : Type 0 where
  each : a.far ≡ false → (k : ℕ) → sized (get_or a.equation.terms k no_term) ≡ true

zeros-sized : (m k : ℕ) → sized (get_or (replicate m zero_term) k no_term) ≡ true
unfolding is_within
zeros-sized zero k = refl
zeros-sized (suc m) zero = refl
zeros-sized (suc m) (suc k) = zeros-sized m k

set-sized : (l : List Term) (i k : ℕ) (x : Term) → sized x ≡ true
    → ((k : ℕ) → sized (get_or l k no_term) ≡ true) → sized (get_or (set l i x) k no_term) ≡ true
set-sized [] i k x p h = h k
set-sized (y ∷ l) zero zero x p h = p
set-sized (y ∷ l) zero (suc k) x p h = h (suc k)
set-sized (y ∷ l) (suc i) zero x p h = h 0
set-sized (y ∷ l) (suc i) (suc k) x p h = set-sized l i k x p (λ k. h (suc k))

-- ---- one field more

none-near : Near no_terms
unfolding no_terms
none-near = record { each = λ e. zeros-sized terms_max }

bad-near : (a : Terms) → Near a → Near (misspelled a)
unfolding misspelled
bad-near a p = record { each = p.each }

neither : (a b : Bool) → (a || not b) ≡ false → (a ≡ false) × (b ≡ true)
neither true b e = absurd (true≢false e)
neither false true e = (refl, refl)
neither false false e = absurd (true≢false e)

put-near : (a : Terms) (x : Term) → Near a → Near (put_term a x)
unfolding put_term
put-near a x p = record {
  each = λ e k.
      let q = neither a.far (sized x) e in
      set-sized a.equation.terms a.equation.count k x q.1 (p.each q.0);
}

coef-near : (a : Terms) (c : Option ℤ) (exps : List ℕ) → Near a → Near (add_coef a c exps)
unfolding add_coef
coef-near a None exps p = bad-near a p
coef-near a (Some c) exps p = put-near a _ p

cond-near : (b : Bool) {u v : Terms} → Near u → Near v → Near (cond b u v)
cond-near true p q = p
cond-near false p q = q

term-near : (n : ℕ) (a : Terms) (f : List ℕ) → Near a → Near (add_term n a f)
unfolding add_term add_parts
term-near n a f p =
    cond-near (leb (length f) n) (bad-near a p)
    (cond-near (eqb (get_or f (length f - n - 1) 0) colon)
    (cond-near (all_digits (drop (length f - n - 1 + 1) f))
    (coef-near a (read_number (take (length f - n - 1) f)) (exponents n (drop (length f - n - 1 + 1) f)) p)
    (bad-near a p)) (bad-near a p))

-- ---- all of a line

feeds-near : (n : ℕ) (s : List ℕ) (k : Cut Terms) → Near k.st → Near (feeds (add_term n) comma k s).st
unfolding feeds feed
feeds-near n [] k p = p
feeds-near n (b ∷ s) k p = feeds-near n s (feed (add_term n) comma k b) (go (eqb b comma) refl)
  where
    go : (t : Bool) → eqb b comma ≡ t → Near (feed (add_term n) comma k b).st
    go true e = rw e (term-near n k.st k.held p)
    go false e = rw e p

terms-near : (n : ℕ) (s : List ℕ) → Near (read_terms n s)
unfolding read_terms last_term
terms-near n s =
    cond-near (eqb (length s) 0) none-near
    (term-near n (feeds (add_term n) comma (fresh no_terms) s).st (feeds (add_term n) comma (fresh no_terms) s).held
    (feeds-near n s (fresh no_terms) none-near))

equation-near : (n : ℕ) (l : List ℕ) → Near (read_equation n l)
unfolding read_equation
equation-near n l =
    cond-near (starts_with eq_key l) (terms-near n (body_of eq_key l)) (bad-near no_terms none-near)

pub near-coefs : (n : ℕ) (l : List ℕ) → (read_equation n l).far ≡ false
    → good_coefs (read_equation n l).equation ≡ true
unfolding good_coefs
near-coefs n l e =
    each_all _ (min (read_equation n l).equation.count terms_max) (λ k h. (equation-near n l).each e k)
