-- The checks find no fault exactly where a job is accepted.
use mathlib.Core.Path.{◌≡◌, refl, sym, ap, ◌∙◌}
use mathlib.Core.Bool.{Bool, true, false, not, false≢true, ◌&&◌}
use Prim.Native.Nat.{ℕ, zero, suc, ◌+◌, ◌<◌, ◌≤◌, min}
use native.Mathlib.Numerals.{add-one}
use native.Mathlib.Omega.{arith}
use lib.Dec.{eqb, leb, ltb}
use lib.IntN.{nat_abs}
use borrow.Author.Tests.{leb-true, le-leb, ltb-true, eqb-true, eqb-false, eq-eqb, ne_eqb, not-true}
use Rattle.sizes.specs.Sizes.{n_max, terms_max, steps_max, number_max, end_max, entry_max, degree_max}
use Rattle.lists.proofs.All.{all-each}
use Rattle.jobs.specs.declared.Kind.{Kind}
use Rattle.jobs.specs.declared.Term.{Term}
use Rattle.jobs.specs.declared.Equation.{Equation}
use Rattle.jobs.specs.declared.Job.{Job}
use Rattle.faults.specs.declared.Fault.{Fault}
use Rattle.jobs.specs.Places.{exp_of, term_at, row_at}
use Rattle.term_checks.specs.Terms.{alike, falls, in_order, degree, good_term, good_place, good_terms, good_coefs}
use Rattle.checks.specs.Checks.{good_matrix}
use Rattle.checks.specs.Checks.{number_check, unknowns_check, pin_check, low_check, high_check}
use Rattle.checks.specs.Checks.{inverse_check, steps_check, equation_check, row_check, sided_check, system_check}
use Rattle.checks.specs.Checks.{line_check, job_line_status, system_lines, head_lines, body_lines, check_job}
use Rattle.checks.specs.Accepted.{Falls, GoodEquation, GoodSystem, GoodPin, Accepted}
use Rattle.term_checks.proofs.RangeLaws.{and_left, and_right, one-to, to_one, each_all, is_within_lem, within-is}
use Rattle.term_checks.proofs.RangeLaws.{all-within, within_all, all-ordered, ordered-all}
use Rattle.term_checks.proofs.TermLaws.{falls-lower, abs-zero}
use Rattle.faults.proofs.Laws.{fine-first, fine-next, both-fine, unless-fine, fine-unless, fine-line, line-fine}
use Rattle.faults.proofs.Laws.{done_first, done_next, both-done, lines-each, each-lines}
use Rattle.checks.proofs.CheckLaws.{unknowns-fine}
use Rattle.std.specs.Prelude.{Ok}

-- ---- the order of two terms
falls-order : (t u : Term) (n : ℕ) → falls t u n ≡ true → Falls t u n
unfolding falls alike
falls-order t u zero e = absurd (false≢true e)
falls-order t u (suc n) e = by (falls t u n) refl (falls-order t u n)
  where
    wider : Falls t u n → Falls t u (suc n)
    wider f = record { place = f.place; live = omega arith; same = f.same; higher = f.higher }

    by : (b : Bool) → falls t u n ≡ b → (falls t u n ≡ true → Falls t u n) → Falls t u (suc n)
    by true q earlier = wider (earlier q)
    by false q earlier =
        let h : alike t u n && ltb (exp_of u n) (exp_of t n) ≡ true = rw q at e in
        record {
          place = n;
          live = omega arith;
          same = λ k l. eqb-true (exp_of t k) (exp_of u k) (all-each _ n k l (and_left (alike t u n) _ h));
          higher = ltb-true (exp_of u n) (exp_of t n) (and_right (alike t u n) _ h);
        }

order-falls : {t u : Term} {n : ℕ} → Falls t u n → falls t u n ≡ true
unfolding alike
order-falls {t} {u} {n} f =
    falls-lower t u n f.place f.live
    (each_all _ f.place (λ k l. eq-eqb (exp_of t k) (exp_of u k) (f.same k l))) f.higher

next-order : (q : Equation) (n k : ℕ) → in_order q n (k + 1) ≡ falls (term_at q k) (term_at q (k + 1)) n
unfolding in_order
next-order q n k = rw add-one

-- ---- an `eq` line
module _ (q : Equation) (n : ℕ) where
  equation-good : good_coefs q ≡ true → good_terms q n ≡ true → GoodEquation q n
  unfolding good_coefs good_terms good_place good_term
  equation-good s e =
      record {
        few = few;
        size = λ k l. is_within_lem _ entry_max (all-each _ (min q.count terms_max) k (omega (arith, few)) s);
        nonzero = λ k l z. eqb-false (nat_abs (term_at q k).coef) 0
            (not-true _ (and_left (not (eqb (nat_abs (term_at q k).coef) 0)) _ (term k l))) (ap nat_abs z);
        deg = λ k l. leb-true (degree n (exp_of (term_at q k))) degree_max
            (and_right (not (eqb (nat_abs (term_at q k).coef) 0)) _ (term k l));
        order = λ k l.
            falls-order _ _ n (sym (next-order q n k) ∙ and_right (good_term (term_at q (k + 1)) n) _
            (place (k + 1) l));
      }
    where
      few : q.count ≤ terms_max
      few = leb-true q.count terms_max (and_left (leb q.count terms_max) _ e)

      place : (k : ℕ) → k < q.count → good_term (term_at q k) n && in_order q n k ≡ true
      place k l = all-each (good_place q n) q.count k l (and_right (leb q.count terms_max) _ e)

      term : (k : ℕ) → k < q.count
          → not (eqb (nat_abs (term_at q k).coef) 0) && leb (degree n (exp_of (term_at q k))) degree_max ≡ true
      term k l = and_left (good_term (term_at q k) n) _ (place k l)

  good-coefs : GoodEquation q n → good_coefs q ≡ true
  unfolding good_coefs
  good-coefs g = each_all _ (min q.count terms_max) (λ k l. within-is (g.size k (omega arith)))

  good-terms : GoodEquation q n → good_terms q n ≡ true
  unfolding good_terms good_place good_term in_order
  good-terms g = rw (le-leb q.count terms_max g.few) (each_all (good_place q n) q.count place)
    where
      order : (k : ℕ) → k < q.count → in_order q n k ≡ true
      order zero l = refl
      order (suc k) l = sym (ap (in_order q n) (add-one k)) ∙ next-order q n k ∙ order-falls (g.order k (omega arith))

      place : (k : ℕ) → k < q.count → good_place q n k ≡ true
      place k l =
          rw (ne_eqb (nat_abs (term_at q k).coef) 0 (λ z. g.nonzero k l (abs-zero (term_at q k).coef z)))
          (rw (le-leb (degree n (exp_of (term_at q k))) degree_max (g.deg k l)) (order k l))

-- ---- the pin
pin-good : (kind : Kind) (n pin : ℕ) → pin_check kind n pin ≡ Ok tt → GoodPin kind n pin
unfolding pin_check
pin-good Kind.Poly n pin e = tt
pin-good Kind.Linear n pin e = tt
pin-good Kind.Eigen n pin e = one-to n pin (unless-fine _ Fault.Pin e)

good-pin : (kind : Kind) (n pin : ℕ) → GoodPin kind n pin → pin_check kind n pin ≡ Ok tt
unfolding pin_check
good-pin Kind.Poly n pin g = refl
good-pin Kind.Linear n pin g = refl
good-pin Kind.Eigen n pin g = fine-unless Fault.Pin (to_one n pin g.0 g.1)

-- ---- a line of the system
system-good : (kind : Kind) (j : Job) (i : ℕ) → system_check kind j i ≡ Ok tt → GoodSystem kind j i
unfolding system_check equation_check row_check sided_check
system-good Kind.Poly j i e =
    equation-good _ j.head.n (unless-fine _ Fault.Beyond (fine-first _ _ e))
    (unless-fine _ Fault.Terms (fine-next _ _ e))
system-good Kind.Linear j i e = (
  all-within _ j.head.n entry_max (unless-fine _ Fault.Beyond (fine-first _ _ e)),
  is_within_lem _ entry_max (unless-fine _ Fault.Beyond (fine-next _ _ e)),
)
system-good Kind.Eigen j i e = all-within _ j.head.n entry_max (unless-fine _ Fault.Beyond e)

good-system : (kind : Kind) (j : Job) (i : ℕ) → GoodSystem kind j i → system_check kind j i ≡ Ok tt
unfolding system_check equation_check row_check sided_check
good-system Kind.Poly j i g = both-fine (fine-unless Fault.Beyond (good-coefs _ j.head.n g))
    (fine-unless Fault.Terms (good-terms _ j.head.n g))
good-system Kind.Linear j i g =
    both-fine (fine-unless Fault.Beyond (within_all _ j.head.n entry_max g.0))
    (fine-unless Fault.Beyond (within-is g.1))
good-system Kind.Eigen j i g = fine-unless Fault.Beyond (within_all _ j.head.n entry_max g)

-- ---- line after line

-- on each line nothing is found
pub record Clean (j : Job) : Type 0 where
  pub number : number_check j.head.number ≡ Ok tt
  pub unknowns : unknowns_check j.head.n ≡ Ok tt
  pub pin : pin_check j.head.kind j.head.n j.head.pin ≡ Ok tt
  pub low : low_check j.head.n j.ends.lo ≡ Ok tt
  pub high : high_check j.head.n j.ends.lo j.ends.hi ≡ Ok tt
  pub inverse : inverse_check j.head.n j.inv ≡ Ok tt
  pub steps : steps_check j.steps ≡ Ok tt
  pub system : (i : ℕ) → i < j.head.n → system_check j.head.kind j i ≡ Ok tt

pub check-clean : (j : Job) → check_job j ≡ Ok tt → Clean j
unfolding check_job head_lines body_lines system_lines job_line_status line_check
check-clean j e =
    let head = done_first _ _ e in
    let unknowns = done_next _ _ (done_next _ _ head) in
    let low = done_next _ _ e in
    let high = done_next _ _ low in
    let inverse = done_next _ _ high in
    let steps = done_next _ _ inverse in
    let system = done_next _ _ steps in
    record {
      number = fine-line _ _ (done_first _ _ head);
      unknowns = fine-line _ _ (done_first _ _ unknowns);
      pin = fine-line _ _ (done_next _ _ unknowns);
      low = fine-line _ _ (done_first _ _ low);
      high = fine-line _ _ (done_first _ _ high);
      inverse = fine-line _ _ (done_first _ _ inverse);
      steps = fine-line _ _ (done_first _ _ steps);
      system = λ i l. fine-line _ _ (lines-each _ j.head.n i l system);
    }

pub clean-check : (j : Job) → Clean j → check_job j ≡ Ok tt
unfolding check_job head_lines body_lines system_lines job_line_status line_check
clean-check j c =
    both-done (both-done (line-fine _ c.number)
    (both-done (line-fine _ refl) (both-done (line-fine _ c.unknowns) (line-fine _ c.pin))))
    (both-done (line-fine _ c.low)
    (both-done (line-fine _ c.high)
    (both-done (line-fine _ c.inverse)
    (both-done (line-fine _ c.steps) (each-lines _ j.head.n (λ i l. line-fine _ (c.system i l)))))))

-- a job in which the checks find nothing is accepted
pub check_done : (j : Job) → check_job j ≡ Ok tt → Accepted j
unfolding number_check low_check high_check inverse_check good_matrix steps_check
check_done j e =
    let c = check-clean j e in
    let n = unknowns-fine j.head.n c.unknowns in
    record {
      number = leb-true j.head.number number_max (unless-fine _ Fault.Beyond c.number);
      some = n.0;
      few = n.1;
      pin = pin-good j.head.kind j.head.n j.head.pin c.pin;
      low = all-within j.ends.lo j.head.n end_max (unless-fine _ Fault.Beyond c.low);
      high = all-within j.ends.hi j.head.n end_max (unless-fine _ Fault.Beyond (fine-first _ _ c.high));
      ordered = all-ordered j.ends.lo j.ends.hi j.head.n (unless-fine _ Fault.Crossed (fine-next _ _ c.high));
      inverse = λ i l. all-within (row_at j.inv i) j.head.n entry_max
          (all-each _ j.head.n i l (unless-fine _ Fault.Beyond c.inverse));
      steps = leb-true j.steps steps_max (unless-fine _ Fault.Steps c.steps);
      system = λ i l. system-good j.head.kind j i (c.system i l);
    }

-- and in an accepted job they find nothing
pub done-check : (j : Job) → Accepted j → check_job j ≡ Ok tt
unfolding number_check unknowns_check low_check high_check inverse_check good_matrix steps_check
done-check j a = clean-check j (record {
  number = fine-unless Fault.Beyond (le-leb j.head.number number_max a.number);
  unknowns = fine-unless Fault.Unknowns (to_one n_max j.head.n a.some a.few);
  pin = good-pin j.head.kind j.head.n j.head.pin a.pin;
  low = fine-unless Fault.Beyond (within_all j.ends.lo j.head.n end_max a.low);
  high = both-fine (fine-unless Fault.Beyond (within_all j.ends.hi j.head.n end_max a.high))
      (fine-unless Fault.Crossed (ordered-all j.ends.lo j.ends.hi j.head.n a.ordered));
  inverse = fine-unless Fault.Beyond
      (each_all _ j.head.n (λ i l. within_all (row_at j.inv i) j.head.n entry_max (a.inverse i l)));
  steps = fine-unless Fault.Steps (le-leb j.steps steps_max a.steps);
  system = λ i l. good-system j.head.kind j i (a.system i l);
})
