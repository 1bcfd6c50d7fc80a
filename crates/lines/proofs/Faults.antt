-- Faults 1 and 7 are of a whole text, those over 9 of other things: no line has them.
use Prim.Native.Nat.{ℕ, ◌+◌, ◌*◌, ◌≤◌}
use native.Mathlib.Omega.{arith}
use mathlib.Core.Path.{◌≡◌}
use mathlib.Core.Bool.{Bool, true, false, not}
use mathlib.Core.List.{List}
use lib.IntN.{ℤ}
use Rattle.sizes.specs.Sizes.{n_max, number_max, visit_max, steps_max}
use Rattle.faults.specs.Words.{fault_number, fault_max}
use Rattle.faults.specs.Checks.{bad_unless, first_of}
use Rattle.faults.specs.declared.Fault.{Fault}
use Rattle.faults.specs.Checked.{Finding, Found}
use Rattle.text.specs.Keys.{body_of, same_bytes}
use Rattle.text.specs.Lists.{places_max}
use Rattle.text.specs.Words.{job_key, visit_key, n_key, pin_key, lo_key, hi_key, inv_key, steps_key, row_key}
use Rattle.term_text.specs.Terms.{one_digit, read_equation}
use Rattle.checks.specs.Checks.{unknowns_check, low_check, high_check, inverse_check, equation_check, row_check}
use Rattle.checks.specs.Checks.{sided_check}
use Rattle.checks.specs.CheckResult.{count_check, counted_check}
use Rattle.jobs.specs.declared.Kind.{Kind}
use Rattle.jobs.specs.declared.Verdict.{Verdict}
use Rattle.reading.specs.Results.{Blamed}
use Rattle.reading.proofs.Blamed.{blamed-got, blamed-fault, blamed-either, blamed-unless, blamed-after, blamed-passing}
use Rattle.reading.proofs.Blamed.{count-blamed, list-blamed, row-blamed}
use Rattle.lines.specs.Lines.{number_of, visit_of, steps_of, digit_is, unknowns_of, kind_of, verdict_of}
use Rattle.lines.specs.Lines.{low_of, any_low_of, high_of}
use Rattle.lines.specs.Lines.{written_pin, pin_of, inverse_of, row_of, sided_of, terms_by, equation_of, word_or}
use Rattle.lines.specs.Texts.{kind_text, verdict_text}
use Rattle.std.specs.Prelude.{Ok, Err}

-- a fault that a line may have
pub record OfLine (f : Fault) : Type 0 where
  pub not-long : fault_number f ≡ 1 → ⊥
  pub not_short : fault_number f ≡ 7 → ⊥
  pub of-text : fault_number f ≤ fault_max

pub spelling : OfLine Fault.Spelling
spelling = record { not-long = λ e. omega arith; not_short = λ e. omega arith; of-text = omega arith }

unknowns : OfLine Fault.Unknowns
unknowns = record { not-long = λ e. omega arith; not_short = λ e. omega arith; of-text = omega arith }

beyond : OfLine Fault.Beyond
beyond = record { not-long = λ e. omega arith; not_short = λ e. omega arith; of-text = omega arith }

crossed : OfLine Fault.Crossed
crossed = record { not-long = λ e. omega arith; not_short = λ e. omega arith; of-text = omega arith }

terms : OfLine Fault.Terms
terms = record { not-long = λ e. omega arith; not_short = λ e. omega arith; of-text = omega arith }

pin : OfLine Fault.Pin
pin = record { not-long = λ e. omega arith; not_short = λ e. omega arith; of-text = omega arith }

steps : OfLine Fault.Steps
steps = record { not-long = λ e. omega arith; not_short = λ e. omega arith; of-text = omega arith }

-- ---- checks

-- a check that finds such faults
abbrev Finds : Finding → Type 0
Finds f = Blamed OfLine f

finds-unless : (b : Bool) {f : Fault} → OfLine f → Finds (bad_unless b f)
unfolding bad_unless
finds-unless true p = blamed-got tt
finds-unless false {f} p = blamed-fault f p

finds-first : (f g : Finding) → Finds f → Finds g → Finds (first_of f g)
unfolding first_of
finds-first (Ok tt) g p q = q
finds-first (Err f) g p q = p

row-finds : (n : ℕ) (row : List ℤ) → Finds (row_check n row)
unfolding row_check
row-finds n row = finds-unless _ beyond

low-finds : (n : ℕ) (lo : List ℤ) → Finds (low_check n lo)
unfolding low_check
low-finds n lo = finds-unless _ beyond

-- ---- lines

module _ (l : List ℕ) where
  pub number-of-line : Blamed OfLine (number_of l)
  unfolding number_of
  number-of-line = count-blamed Fault.Spelling spelling job_key l Fault.Beyond beyond number_max

  pub visit-of-line : Blamed OfLine (visit_of l)
  unfolding visit_of
  visit-of-line = count-blamed Fault.Spelling spelling visit_key l Fault.Beyond beyond visit_max

  pub steps-of-line : Blamed OfLine (steps_of l)
  unfolding steps_of
  steps-of-line = count-blamed Fault.Spelling spelling steps_key l Fault.Steps steps steps_max

  pub unknowns-of-line : Blamed OfLine (unknowns_of l)
  unfolding unknowns_of digit_is unknowns_check
  unknowns-of-line =
      blamed-passing (digit_is (body_of n_key l)) (λ n. unknowns_check n)
      (blamed-unless (not (one_digit (body_of n_key l))) Fault.Spelling (Ok _) spelling (blamed-got _))
      (λ n. finds-unless _ unknowns)

  -- one word more
  word : {A : Type 0} (line : List ℕ) (v : A) (other : Found A) → Blamed OfLine other
      → Blamed OfLine (word_or l line v other)
  word line v other p = blamed-either (same_bytes line l) (Ok v) other (blamed-got v) p

  pub kind-of-line : Blamed OfLine (kind_of l)
  unfolding kind_of
  kind-of-line =
      word (kind_text Kind.Poly) Kind.Poly _
      (word (kind_text Kind.Linear) Kind.Linear _
      (word (kind_text Kind.Eigen) Kind.Eigen _ (blamed-fault Fault.Spelling spelling)))

  pub verdict-of-line : Blamed OfLine (verdict_of l)
  unfolding verdict_of
  verdict-of-line =
      word (verdict_text Verdict.None) Verdict.None _
      (word (verdict_text Verdict.Unique) Verdict.Unique _
      (word (verdict_text Verdict.Stalled) Verdict.Stalled _
      (word (verdict_text Verdict.Spent) Verdict.Spent _ (blamed-fault Fault.Spelling spelling))))

  pub any-low-of-line : Blamed OfLine (any_low_of l)
  unfolding any_low_of counted_check count_check
  any-low-of-line =
      blamed-passing _ _ (list-blamed Fault.Spelling spelling lo_key l n_max)
      (λ x.
      finds-first _ _ (finds-first _ _ (finds-unless _ spelling) (finds-unless _ unknowns))
      (low-finds x.count x.row))

  module _ (n : ℕ) where
    pub pin-of-line : Blamed OfLine (pin_of n l)
    unfolding pin_of written_pin
    pin-of-line =
        blamed-passing _ _ (count-blamed Fault.Spelling spelling pin_key l Fault.Pin pin n) (λ p. finds-unless _ pin)

    pub low-of-line : Blamed OfLine (low_of n l)
    unfolding low_of
    low-of-line = blamed-passing _ _ (row-blamed Fault.Spelling spelling lo_key l n_max n) (low-finds n)

    pub high-of-line : (lo : List ℤ) → Blamed OfLine (high_of n lo l)
    unfolding high_of high_check
    high-of-line lo =
        blamed-passing _ _ (row-blamed Fault.Spelling spelling hi_key l n_max n)
        (λ hi. finds-first _ _ (finds-unless _ beyond) (finds-unless _ crossed))

    pub inverse-of-line : Blamed OfLine (inverse_of n l)
    unfolding inverse_of inverse_check
    inverse-of-line =
        blamed-passing _ _ (blamed-after _ _ (row-blamed Fault.Spelling spelling inv_key l places_max (n * n)))
        (λ rows. finds-unless _ beyond)

    pub row-of-line : Blamed OfLine (row_of n l)
    unfolding row_of
    row-of-line = blamed-passing _ _ (row-blamed Fault.Spelling spelling row_key l n_max n) (row-finds n)

    pub sided-of-line : Blamed OfLine (sided_of n l)
    unfolding sided_of sided_check
    sided-of-line =
        blamed-passing _ _ (blamed-after _ _ (row-blamed Fault.Spelling spelling row_key l places_max (n + 1)))
        (λ x. finds-first _ _ (row-finds n x.row) (finds-unless _ beyond))

    pub equation-of-line : Blamed OfLine (equation_of n l)
    unfolding equation_of terms_by equation_check
    equation-of-line =
        let a = read_equation n l in
        blamed-unless (not a.ok) Fault.Spelling _ spelling
        (blamed-unless a.far Fault.Beyond _ beyond
        (blamed-passing (Ok a.equation) _ (blamed-got a.equation)
        (λ q. finds-first _ _ (finds-unless _ beyond) (finds-unless _ terms))))
