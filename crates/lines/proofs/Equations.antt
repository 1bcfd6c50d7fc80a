-- The line `eq`: 2, then 4, then 6.
use Prim.Native.Nat.{ℕ, ◌≤◌, min}
use native.Mathlib.Omega.{arith}
use mathlib.Core.Path.{◌≡◌, refl}
use mathlib.Core.List.{List}
use mathlib.Core.Bool.{Bool, true, false, not}
use lib.Dec.{eqb, leb}
use lib.IntN.{nat_abs}
use borrow.Author.Tests.{leb-true}
use Rattle.sizes.specs.Sizes.{n_max, terms_max, entry_max, degree_max}
use Rattle.lists.proofs.All.{all-each}
use Rattle.text.proofs.Keys.{both}
use Rattle.faults.specs.declared.Fault.{Fault}
use Rattle.faults.specs.Checks.{bad_unless, first_of}
use Rattle.faults.proofs.Laws.{fine-first, fine-next, unless-fine}
use Rattle.jobs.specs.Places.{exp_of, term_at}
use Rattle.term_checks.specs.Terms.{degree, good_term, good_place, good_coefs, good_terms}
use Rattle.term_checks.proofs.RangeLaws.{is_within_lem}
use Rattle.term_write.proofs.Terms.{digit_low}
use Rattle.checks.specs.Checks.{equation_check}
use Rattle.jobs.specs.declared.Equation.{Equation}
use Rattle.term_text.specs.Terms.{read_equation}
use Rattle.term_write.specs.ShowTerms.{equation_text}
use Rattle.term_round.specs.Live.{live_equation}
use Rattle.term_round.specs.Spelled.{SpelledEquation}
use Rattle.term_round.proofs.ReadBack.{equation-read}
use Rattle.term_round.proofs.WriteBack.{equation-was}
use Rattle.term_round.proofs.LiveTerms.{terms-live, coefs-live}
use Rattle.reading.specs.Results.{after, passing, refuse, Told}
use Rattle.reading.proofs.Told.{not-false, told-got, told-map, told-unless, told-passing}
use Rattle.lines.specs.Lines.{terms_by, equation_of}
use Rattle.lines.proofs.Was.{LineWas}
use Rattle.std.specs.Prelude.{Ok, Err}

module _ (n : ℕ) where
  equation-far : (q : Equation) → good_coefs q ≡ false → equation_check n q ≡ Err Fault.Beyond
  unfolding equation_check bad_unless first_of
  equation-far q e = rw e

  equation-few : (q : Equation) → equation_check n q ≡ Ok tt → q.count ≤ terms_max
  unfolding equation_check good_terms
  equation-few q e =
      leb-true q.count terms_max (both (leb q.count terms_max) _ (unless-fine _ _ (fine-next _ _ e))).0

module _ (n : ℕ) (few : n ≤ n_max) where
  equation-live : (q : Equation) → q.count ≤ terms_max → equation_check n (live_equation n q) ≡ equation_check n q
  unfolding equation_check
  equation-live q short = rw (coefs-live n few q short, terms-live n few q short)

  pub equation-back : (q : Equation) → SpelledEquation n q
      → equation_of n (equation_text n q) ≡ after (equation_check n q) (λ u. live_equation n q)
  unfolding equation_of terms_by passing after
  equation-back q s = rw (equation-read n q s, equation-live q s.few) (go (good_coefs q) refl)
    where
      go : (b : Bool) → good_coefs q ≡ b
          → refuse (not b) Fault.Beyond (after (equation_check n q) (λ u. live_equation n q))
          ≡ after (equation_check n q) (λ u. live_equation n q)
      go true e = refl
      go false e = rw (equation-far n q e)

  pub equation-told : (l : List ℕ)
      → Told (LineWas (equation_text n) (equation_check n) (live_equation n) l) (equation_of n l)
  unfolding equation_of terms_by
  equation-told l =
      let a = read_equation n l in
      told-unless (not a.ok) Fault.Spelling _ (λ spelled.
      told-unless a.far Fault.Beyond _ (λ near.
      told-map _ (told-passing {P = λ q. a.equation ≡ q} _ _ (told-got a.equation refl)) (λ q e.
      let was = equation-was n l few (not-false _ spelled) (rw e.0 (equation-few n q e.1)) in
      record {
        shown = rw e.0 at was.text;
        fine = e.1;
        whole = rw e.0 at was.live;
      })))

-- ---- what the check says of the terms

module _ (n : ℕ) (q : Equation) where
  -- an equation without fault can be spelled
  pub equation-spelled : equation_check n q ≡ Ok tt → SpelledEquation n q
  unfolding equation_check good_coefs good_terms good_place good_term
  equation-spelled e =
      let short = equation-few n q e in
      let size = unless-fine _ _ (fine-first _ _ e) in
      let terms = (both (leb q.count terms_max) _ (unless-fine _ _ (fine-next _ _ e))).1 in
      record {
        few = short;
        terms = λ k l.
            let t = term_at q k in
            let place = (both (good_term t n) _ (all-each (good_place q n) q.count k l terms)).0 in
            let low = leb-true (degree n (exp_of t)) degree_max (both (not (eqb (nat_abs t.coef) 0)) _ place).1 in
            record {
              coef =
                  let w = is_within_lem _ entry_max (all-each _ (min q.count terms_max) k (omega arith) size) in
                  omega arith;
              digits = λ i h. omega (arith, digit_low (exp_of t) n i h);
            };
      }
