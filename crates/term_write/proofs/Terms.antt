-- How long written terms are, and that the exponents of an accepted term are digits.
use Prim.Native.Nat.{ℕ, zero, suc, ◌+◌, ◌*◌, ◌≤◌, ◌<◌, ◌^◌}
use native.Mathlib.Omega.{arith}
use native.Mathlib.Nat.{not-suc-le-zero, le_of_suc-le-suc, eq-or-lt_of_le}
use mathlib.Core.Path.{◌≡◌, ap}
use mathlib.Core.Logic.{⊎_elim}
use mathlib.Core.List.{List, [], ◌∷◌}
use lib.ListN.{length, length-append}
use lib.IntN.{nat_abs}
use Rattle.sizes.specs.Sizes.{n_max}
use Rattle.lists.specs.Loops.{tab, carry}
use Rattle.lists.proofs.Tab.{length-tab}
use Rattle.digits.specs.Number.{digits_max}
use Rattle.digits.specs.Show.{show_number}
use Rattle.digits.proofs.Show.{number_short, number-under}
use Rattle.text.specs.Lists.{joined}
use Rattle.jobs.specs.Places.{term_at}
use Rattle.term_checks.specs.Terms.{degree}
use Rattle.writing.specs.Wrote.{line}
use Rattle.writing.proofs.Lists.{joined-short, tab-short}
use Rattle.writing.proofs.Lines.{line-long}
use Rattle.text.specs.Words.{eq_key}
use Rattle.term_text.specs.Terms.{colon}
use Rattle.jobs.specs.declared.Term.{Term}
use Rattle.jobs.specs.declared.Equation.{Equation}
use Rattle.term_write.specs.ShowTerms.{show_exponents, show_term, term_texts, equation_text, term_width}

-- no exponent is above the total degree
pub digit_low : (e : ℕ → ℕ) (n k : ℕ) → k < n → e k ≤ degree n e
unfolding degree carry
digit_low e zero k l = absurd (not-suc-le-zero l)
digit_low e (suc n) k l =
    ⊎_elim (λ q. here q) (λ lt. let ih = digit_low e n k lt in omega arith) (eq-or-lt_of_le (le_of_suc-le-suc l))
  where
    here : k ≡ n → e k ≤ carry n 0 (λ i d. d + e i) + e n
    here q = let f : e k ≡ e n = ap e q in omega arith

pub exponents-long : (n : ℕ) (t : Term) → length (show_exponents n t) ≡ n
unfolding show_exponents
exponents-long n t = length-tab 0 n n _

-- a coefficient, a colon and the exponents
term-long : (n : ℕ) (t : Term) → length (show_term n t) ≡ length (show_number t.coef) + 1 + n
unfolding show_term
term-long n t =
    rw (length-append (show_number t.coef) (colon ∷ show_exponents n t)) (omega (arith, exponents-long n t))

-- terms of at most w bytes
terms-within : (n : ℕ) (q : Equation) (w m : ℕ) → ((k : ℕ) → k < m → length (show_term n (term_at q k)) ≤ w)
    → length (joined (term_texts n q m)) ≤ (w + 1) * m
unfolding term_texts
terms-within n q w m h =
    let shown : ℕ → List ℕ = λ k. show_term n (term_at q k) in
    rw (length-tab [] m m shown) at (joined-short w (tab m m [] shown) (tab-short w m shown h))

pub terms-short : (n : ℕ) (q : Equation) (m : ℕ) → n ≤ n_max → length (joined (term_texts n q m)) ≤ term_width * m
terms-short n q m few =
    terms-within n q (digits_max + 2 + n_max) m (λ k l.
    omega (arith, few, term-long n (term_at q k), number_short digits_max (term_at q k).coef))

-- an equation whose coefficients have at most suc j digits
pub equation-under : (n : ℕ) (q : Equation) (j : ℕ) → n ≤ n_max
    → ((k : ℕ) → k < q.count → nat_abs (term_at q k).coef < 10 ^ suc j)
    → length (line (equation_text n q)) ≤ 4 + (suc j + 3 + n_max) * q.count
unfolding equation_text
equation-under n q j few small =
    rw (line-long eq_key (joined (term_texts n q q.count)))
    (omega (
      arith,
      terms-within n q (suc j + 2 + n_max) q.count (λ k l.
          omega (arith, few, term-long n (term_at q k), number-under digits_max j (term_at q k).coef (small k l))),
    ))
