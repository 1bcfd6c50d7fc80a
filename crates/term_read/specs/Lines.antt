-- An `eq` line and an `n` line at their places.
use Rattle.std.specs.Prelude.{ℕ, ◌+◌, ◌-◌, ◌≤◌, ◌≡◌, List, Bool, true, false, not, ◌||◌, length, get_or, pos, Result}
use Rattle.std.specs.Prelude.{Ok, Err, Option, Some, None}
use Rattle.sizes.specs.Sizes.{entry_max}
use Rattle.digits.specs.Bytes.{line_feed, comma, digit0}
use Rattle.term_checks.specs.Ranges.{is_within}
use Rattle.jobs.specs.declared.Term.{Term}
use Rattle.text.specs.Keys.{body_of}
use Rattle.term_text.specs.Terms.{one_digit}
use Rattle.term_text.specs.Terms.{Terms}
use Rattle.reading.specs.Places.{line_end}
use Rattle.scan.specs.Fields.{is_at}
use Rattle.scan.specs.Lines.{line_of, ended_and}
use Rattle.scan.specs.declared.At.{At}
use Rattle.term_read.specs.declared.Terms.{Terms as Taken}
use Rattle.std.specs.Result.{IsErr}

-- a field ends there
abbrev pub is_mark : List ℕ → ℕ → Bool
is_mark t at = is_at t at comma || is_at t at line_feed

abbrev pub is_far : Term → Bool
is_far x = not (is_within x.coef (pos entry_max))

-- how many terms were well spelled, and the place after them
abbrev pub reached : Result (At Taken) (At ℕ) → At ℕ
reached (Ok r) = record { value = r.value.equation.count; next = r.next }
reached (Err w) = w

-- what is told of a line that ends at e and whose terms are l
unfoldable pub TermsOf : Bool → Terms → ℕ → Result (At Taken) (At ℕ) → Type 0
TermsOf true l e r = r ≡ Ok (record { value = record { far = l.far; equation = l.equation }; next = e + 1 })
TermsOf false l e r = IsErr r

-- what is told of the line that begins at a, and whose bytes `read` reads;
-- of any line, that a place of the text is given, and no more terms than bytes before it
pub record TermsFrom (read : List ℕ → Terms) (t : List ℕ) (a : ℕ) (r : Result (At Taken) (At ℕ)) : Type 0 where
  pub answer : TermsOf (ended_and t a (read (line_of t a)).ok) (read (line_of t a)) (line_end t a) r
  pub few : (reached r).value ≤ (reached r).next
  pub inside : (reached r).next ≤ length t

-- ---- "`n` is one digit"

-- what is told of a line that ends at e and has the body b
unfoldable pub digit_of : Bool → List ℕ → ℕ → Option (At ℕ)
digit_of true b e = Some (record { value = get_or b 0 0 - digit0; next = e + 1 })
digit_of false b e = None

-- what is told of the line that begins at a and has the body b
abbrev pub DigitOf : List ℕ → List ℕ → ℕ → Option (At ℕ) → Type 0
DigitOf b t a r = r ≡ digit_of (ended_and t a (one_digit b)) b (line_end t a)

-- what is told of the line that begins at a, after its key
abbrev pub DigitFrom : List ℕ → List ℕ → ℕ → Option (At ℕ) → Type 0
DigitFrom key t a r = DigitOf (body_of key (line_of t a)) t a r
