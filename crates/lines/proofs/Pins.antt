-- The line `pin`: "pin equal to n is never written".
use Prim.Native.Nat.{ℕ, ◌≤◌, ◌<◌, ◌^◌}
use native.Mathlib.Omega.{arith}
use mathlib.Core.Path.{◌≡◌, refl, sym, ap, ◌∙◌}
use mathlib.Core.List.{List}
use mathlib.Core.Bool.{Bool, true, false, ◌&&◌}
use lib.Dec.{eqb}
use borrow.Author.Tests.{le-leb, lt-leb, eq-eqb, not-true}
use Rattle.sizes.specs.Sizes.{n_max}
use Rattle.digits.specs.Number.{digits_max}
use Rattle.digits.proofs.Cases.{either}
use Rattle.text.specs.Words.{pin_key}
use Rattle.faults.specs.declared.Fault.{Fault}
use Rattle.faults.specs.Checked.{Finding}
use Rattle.faults.specs.Checks.{bad_unless}
use Rattle.faults.proofs.Laws.{unless-fine}
use Rattle.jobs.specs.declared.Kind.{Kind}
use Rattle.term_checks.specs.Ranges.{one_to}
use Rattle.checks.specs.Checks.{good_pin, pin_check}
use Rattle.term_checks.proofs.RangeLaws.{and_right, one-to}
use Rattle.reading.specs.Results.{after, passing, Told}
use Rattle.reading.proofs.Told.{told-map, told-passing}
use Rattle.reading.proofs.NumberLines.{count-told}
use Rattle.reading.proofs.Goes.{and-false}
use Rattle.lines.specs.Lines.{written_pin, pin_of}
use Rattle.lines.specs.Texts.{count_text}
use Rattle.lines.proofs.Was.{LineWas}
use Rattle.lines.proofs.Back.{count-back}
use Rattle.std.specs.Prelude.{Ok, Err}

-- a pin that is not n: its written line finds what the check of the value finds
pub written_is : (n pin : ℕ) → eqb pin n ≡ false → written_pin n pin ≡ pin_check Kind.Eigen n pin
unfolding written_pin pin_check
written_is n pin e = rw e (ap (λ (b : Bool). bad_unless b Fault.Pin) (and-true (good_pin n pin)))
  where
    and-true : (b : Bool) → (b && true) ≡ b
    and-true true = refl
    and-true false = refl

-- "a written pin of n"
pub written_last : (n pin : ℕ) → pin ≡ n → written_pin n pin ≡ Err Fault.Pin
unfolding written_pin bad_unless
written_last n pin e = rw (eq-eqb pin n e) (ap (λ (b : Bool). bad_unless b Fault.Pin) (and-false (good_pin n pin)))

-- beyond n the check finds it too
far-found : (n pin : ℕ) → n < pin → pin_check Kind.Eigen n pin ≡ Err Fault.Pin
unfolding pin_check one_to bad_unless
far-found n pin p = rw (lt-leb pin n p, le-leb 1 pin (omega arith))

pub pin-back : (n pin : ℕ) → pin < 10 ^ digits_max → eqb pin n ≡ false
    → pin_of n (count_text pin_key pin) ≡ after (pin_check Kind.Eigen n pin) (λ u. pin)
unfolding pin_of passing after bad_unless
pin-back n pin s e =
    rw (count-back Fault.Pin pin_key n pin s)
    (either n pin
    (λ p. rw (lt-leb pin n p, far-found n pin p))
    (λ p. rw (le-leb pin n p) (ap (λ (f : Finding). after f (λ u. pin)) (written_is n pin e))))

written-other : (n pin : ℕ) → written_pin n pin ≡ Ok tt → eqb pin n ≡ false
unfolding written_pin
written-other n pin w = not-true _ (and_right (good_pin n pin) _ (unless-fine _ Fault.Pin w))

pub record PinWas (n : ℕ) (l : List ℕ) (pin : ℕ) : Type 0 where
  pub was : LineWas (count_text pin_key) (pin_check Kind.Eigen n) (λ p. p) l pin
  pub other : eqb pin n ≡ false

pub pin-told : (n : ℕ) (l : List ℕ) → Told (PinWas n l) (pin_of n l)
unfolding pin_of
pin-told n l =
    told-map _ (told-passing _ _ (count-told Fault.Spelling Fault.Pin pin_key n l)) (λ pin e.
    let w = e.1 in
    let ne = written-other n pin w in
    record {
      was = record { shown = e.0.0; fine = sym (written_is n pin ne) ∙ w; whole = refl };
      other = ne;
    })

-- a pin that the check takes can be spelled
pub pin-spelled : (n pin : ℕ) → n ≤ n_max → pin_check Kind.Eigen n pin ≡ Ok tt → pin < 10 ^ digits_max
unfolding pin_check
pin-spelled n pin few e = omega (arith, (one-to n pin (unless-fine _ Fault.Pin e)).1)
