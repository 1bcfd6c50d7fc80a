-- What the old program makes of the two lines that it reads otherwise: the same, or 3.
use Prim.Native.Nat.{ℕ, ◌≤◌, ◌<◌}
use native.Mathlib.Omega.{arith}
use mathlib.Core.Path.{◌≡◌, refl, sym, ap, ◌∙◌}
use mathlib.Core.List.{List}
use mathlib.Core.Bool.{Bool, true, false}
use mathlib.Core.Logic.{◌⊎◌, inl, inr}
use lib.Dec.{leb}
use lib.IntN.{ℤ}
use borrow.Author.Tests.{le-leb, lt-leb, leb-true}
use Rattle.sizes.specs.Sizes.{n_max}
use Rattle.text.specs.Keys.{body_of}
use Rattle.text.specs.Words.{n_key, lo_key}
use Rattle.text.specs.Lists.{Small}
use Rattle.faults.specs.declared.Fault.{Fault}
use Rattle.faults.specs.Checked.{Finding, Found, refused, status_of}
use Rattle.faults.specs.Checks.{bad_unless, first_of}
use Rattle.term_checks.specs.Ranges.{one_to}
use Rattle.term_checks.proofs.RangeLaws.{one-to, to_one}
use Rattle.checks.specs.Checks.{low_check, unknowns_check}
use Rattle.checks.specs.CheckResult.{count_check, counted_check}
use Rattle.reading.proofs.Told.{fault-got}
use Rattle.reading.specs.Results.{after, passing}
use Rattle.reading.specs.NumberLines.{placed, list_line}
use Rattle.reading.specs.declared.Listed.{Listed}
use Rattle.reading.specs.Lines.{Answer}
use Rattle.reading.specs.Narrower.{NarrowLine, NarrowAnswer}
use Rattle.reading.proofs.NumberLines.{list-line-back}
use Rattle.lines.specs.Answered.{answered}
use Rattle.lines.specs.Lines.{digit_is, unknowns_of, any_low_of}
use Rattle.lines.specs.Texts.{count_text, row_text}
use Rattle.lines.proofs.Unknowns.{digit-back, unknowns-back}
use Rattle.old_texts.specs.Old.{n_old, old_unknowns, old_unknowns_of, old_count, old_counted, old_low_of}
use Rattle.std.specs.Prelude.{Ok, Err, Result}

pub after-narrow : {F A B : Type 0} {f : F} {r s : Result A F} (h : A → B) → NarrowLine f r s
    → NarrowLine f (after r h) (after s h)
unfolding after
after-narrow h (NarrowLine.same e) = NarrowLine.same (ap (λ x. after x h) e)
after-narrow h (NarrowLine.faulty e) = NarrowLine.faulty (ap (λ x. after x h) e)

-- one check, or the other, of what is read
passing-narrow : {A : Type 0} (r : Found A) (old new : A → Finding)
    → ((x : A) → NarrowLine Fault.Unknowns (after (old x) (λ u. x)) (after (new x) (λ u. x)))
    → NarrowLine Fault.Unknowns (passing r (λ x. old x)) (passing r (λ x. new x))
unfolding passing
passing-narrow (Ok x) old new h = h x
passing-narrow (Err f) old new h = NarrowLine.same refl

-- ---- n

unknowns-of : (n : ℕ)
    → NarrowLine Fault.Unknowns (after (old_unknowns n) (λ u. n)) (after (unknowns_check n) (λ u. n))
unfolding after bad_unless unknowns_check
unknowns-of n = go (one_to n_old n) refl
  where
    go : (b : Bool) → one_to n_old n ≡ b
        → NarrowLine Fault.Unknowns (after (bad_unless b Fault.Unknowns) (λ u. n))
        (after (bad_unless (one_to n_max n) Fault.Unknowns) (λ u. n))
    go true e =
        let few = one-to n_old n e in
        rw (to_one n_max n few.0 (omega (arith, few.1))) (NarrowLine.same refl)
    go false e = NarrowLine.faulty refl

pub unknowns-narrow : (l : List ℕ) → NarrowLine Fault.Unknowns (old_unknowns_of l) (unknowns_of l)
unfolding old_unknowns_of unknowns_of
unknowns-narrow l = passing-narrow (digit_is (body_of n_key l)) old_unknowns unknowns_check unknowns-of

pub unknowns-refused : (n : ℕ) → n_old < n → n < 10 → old_unknowns_of (count_text n_key n) ≡ Err Fault.Unknowns
unfolding old_unknowns_of passing after bad_unless one_to
unknowns-refused n many one = rw (digit-back n one, le-leb 1 n (omega arith), lt-leb n n_old many)

-- ---- lo of a result

count_of : (x : Listed)
    → NarrowLine Fault.Unknowns (after (old_counted x) (λ u. x))
    (after (counted_check x.count x.row) (λ u. x))
unfolding after bad_unless counted_check count_check first_of
count_of x = go (leb 1 x.count) (leb x.count n_old) refl
  where
    low : Finding
    low = low_check x.count x.row

    go : (some few : Bool) → leb x.count n_old ≡ few
        → NarrowLine Fault.Unknowns
        (after (first_of (first_of (bad_unless some Fault.Spelling) (bad_unless few Fault.Unknowns)) low)
        (λ u. x))
        (after (first_of
        (first_of (bad_unless some Fault.Spelling) (bad_unless (leb x.count n_max) Fault.Unknowns)) low) (λ u. x))
    go false few e = NarrowLine.same refl
    go true true e =
        let h = leb-true x.count n_old e in
        rw (le-leb x.count n_max (omega (arith, h))) (NarrowLine.same refl)
    go true false e = NarrowLine.faulty refl

pub low_narrow : (l : List ℕ) → NarrowLine Fault.Unknowns (old_low_of l) (any_low_of l)
unfolding old_low_of any_low_of
low_narrow l =
    passing-narrow (list_line Fault.Spelling lo_key n_max l) old_counted (λ x. counted_check x.count x.row) count_of

pub low-refused : (n : ℕ) (lo : List ℤ) → n_old < n → Small (placed n n lo)
    → old_low_of (row_text lo_key n lo) ≡ Err Fault.Unknowns
unfolding old_low_of passing after bad_unless first_of
low-refused n lo many small =
    let back = list-line-back Fault.Spelling lo_key n_max n lo (omega arith) small (omega arith) in
    rw (back.1, le-leb 1 n (omega arith), lt-leb n n_old many)

-- ---- n of 5 and 6

module _ (n : ℕ) (many : n_old < n) (few : n ≤ n_max) where
  pub n-had : old_unknowns_of (count_text n_key n) ≡ Err Fault.Unknowns
  n-had = unknowns-refused n many (omega arith)

  pub n-taken : unknowns_of (count_text n_key n) ≡ Ok n
  unfolding unknowns_check bad_unless after
  n-taken = unknowns-back n (omega arith) ∙ rw (to_one n_max n (omega arith) few)

  pub count-had : old_count n ≡ Err Fault.Unknowns
  unfolding first_of bad_unless
  count-had = rw (le-leb 1 n (omega arith), lt-leb n n_old many)

  pub count-taken : count_check n ≡ Ok tt
  unfolding count_check first_of bad_unless
  count-taken = rw (le-leb 1 n (omega arith), le-leb n n_max few)

-- ---- the answers

module _ {X : Type 0} (old new : List ℕ → Answer Fault X) {line : ℕ}
    (near : (t : List ℕ) → NarrowAnswer Fault.Unknowns line Fault.LongText (old t) (new t)) where
  pub same_or : (t : List ℕ)
      → (answered (old t) ≡ answered (new t))
      ⊎ ((answered (old t) ≡ refused Fault.Unknowns line) ⊎ (answered (old t) ≡ refused Fault.LongText 0))
  same_or t = go (near t)
    where
      go : NarrowAnswer Fault.Unknowns line Fault.LongText (old t) (new t)
          → (answered (old t) ≡ answered (new t))
          ⊎ ((answered (old t) ≡ refused Fault.Unknowns line) ⊎ (answered (old t) ≡ refused Fault.LongText 0))
      go (NarrowAnswer.same e) = inl (ap answered e)
      go (NarrowAnswer.faulty e) = inr (inl (ap answered e))
      go (NarrowAnswer.too_long e) = inr (inr (ap answered e))

  pub same_otherwise : (t : List ℕ)
      → ((n : ℕ) → status_of (answered (old t)) ≡ refused Fault.LongText n → ⊥)
      → ((n : ℕ) → status_of (answered (old t)) ≡ refused Fault.Unknowns n → ⊥) → answered (new t) ≡ answered (old t)
  same_otherwise t long many = go (near t)
    where
      go : NarrowAnswer Fault.Unknowns line Fault.LongText (old t) (new t) → answered (new t) ≡ answered (old t)
      go (NarrowAnswer.same e) = ap answered (sym e)
      go (NarrowAnswer.faulty e) = absurd (many line (ap (λ a. status_of (answered a)) e))
      go (NarrowAnswer.too_long e) = absurd (long 0 (ap (λ a. status_of (answered a)) e))

  pub done-too : (t : List ℕ) → status_of (answered (old t)) ≡ Ok tt → answered (new t) ≡ answered (old t)
  done-too t done =
      same_otherwise t (λ n p. fault-got (sym p ∙ done)) (λ n p. fault-got (sym p ∙ done))
