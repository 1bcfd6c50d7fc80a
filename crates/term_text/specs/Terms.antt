-- The terms of an `eq` line. Document 01: "A `poly` job has `eq` lines of terms `coefficient:exponents`, one digit for
-- each unknown".
use Rattle.std.specs.Prelude.{ℕ, ◌+◌, ◌-◌, List, Bool, true, false, cond, not, ◌&&◌, ◌||◌, length, take, drop}
use Rattle.std.specs.Prelude.{get_or, set, eqb, leb, ℤ, pos, Option, Some, None}
use Rattle.sizes.specs.Sizes.{n_max, entry_max}
use Rattle.lists.specs.Loops.{tab}
use Rattle.jobs.specs.Zero.{zero_equation}
use Rattle.term_checks.specs.Ranges.{is_within}
use Rattle.digits.specs.Bytes.{comma, digit0}
use Rattle.digits.specs.Digits.{all_digits}
use Rattle.digits.specs.Number.{read_number}
use Rattle.text.specs.Cut.{Cut, fresh, feeds}
use Rattle.text.specs.Words.{eq_key}
use Rattle.text.specs.Keys.{starts_with, body_of}
use Rattle.jobs.specs.declared.Equation.{Equation}
use Rattle.jobs.specs.declared.Term.{Term}

abbrev pub colon : ℕ
colon = 58

-- "`n` is one digit"
unfoldable pub one_digit : List ℕ → Bool
one_digit s = eqb (length s) 1 && all_digits s

-- "one digit for each unknown": the exponents of n unknowns, and zero past them
unfoldable pub exponents : ℕ → List ℕ → List ℕ
exponents n s = tab n_max n 0 (λ k. get_or s k 0 - digit0)

-- ---- the terms read so far

-- whether each is well spelled, whether a coefficient is beyond its size, how many there are, and the first of them
pub record Terms : Type 0 where
  pub ok : Bool
  pub far : Bool
  pub equation : Equation

unfoldable pub no_terms : Terms
no_terms = record { ok = true; far = false; equation = zero_equation }

unfoldable pub misspelled : Terms → Terms
misspelled a = record { ok = false; far = a.far; equation = a.equation }

-- one term more: it stands at its place if there is one, and is counted and its size is looked at in any case
unfoldable pub put_term : Terms → Term → Terms
put_term a t =
    record {
      ok = a.ok;
      far = a.far || not (is_within t.coef (pos entry_max));
      equation = record { count = a.equation.count + 1; terms = set a.equation.terms a.equation.count t };
    }

unfoldable pub add_coef : Terms → Option ℤ → List ℕ → Terms
add_coef a None exps = misspelled a
add_coef a (Some c) exps = put_term a (record { coef = c; exps = exps })

-- a coefficient, and n digits after the byte at `at`
unfoldable pub add_parts : ℕ → Terms → ℕ → List ℕ → Terms
add_parts n a at f =
    cond (all_digits (drop (at + 1) f))
    (add_coef a (read_number (take at f)) (exponents n (drop (at + 1) f))) (misspelled a)

-- one field more: `coefficient:exponents`, with its colon before the last n bytes
unfoldable pub add_term : ℕ → Terms → List ℕ → Terms
add_term n a f =
    cond (leb (length f) n) (misspelled a)
    (cond (eqb (get_or f (length f - n - 1) 0) colon) (add_parts n a (length f - n - 1) f) (misspelled a))

-- ---- a line

-- the last field has no comma after it
unfoldable pub last_term : ℕ → Cut Terms → Terms
last_term n k = add_term n k.st k.held

-- "`eq=` alone is the zero equation"
unfoldable pub read_terms : ℕ → List ℕ → Terms
read_terms n s = cond (eqb (length s) 0) no_terms (last_term n (feeds (add_term n) comma (fresh no_terms) s))

-- an `eq` line of n unknowns
unfoldable pub read_equation : ℕ → List ℕ → Terms
read_equation n l = cond (starts_with eq_key l) (read_terms n (body_of eq_key l)) (misspelled no_terms)
