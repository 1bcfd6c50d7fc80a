-- A term at a place of a text, against the whole fields that could begin there.
use Rattle.std.specs.Prelude.{ℕ, ◌≤◌, ◌<◌, ◌≡◌, List, cond, length, get_or, Option, Some, None}
use Rattle.digits.specs.Bytes.{minus_sign}
use Rattle.jobs.specs.Zero.{zero_term}
use Rattle.jobs.specs.declared.Term.{Term}
use Rattle.term_text.specs.Terms.{exponents, put_term, misspelled, add_term}
use Rattle.digits.specs.Digits.{all_digits}
use Rattle.term_text.specs.Terms.{Terms}
use Rattle.reading.specs.Places.{part}
use Rattle.scan.specs.declared.At.{At}

-- "one digit for each unknown": what n bytes say, none where one is no digit
unfoldable pub exps_of : ℕ → List ℕ → Option (List ℕ)
exps_of n l = cond (all_digits l) (Some (exponents n l)) None

-- of the fields that begin at a, only the one up to `next` is a term, and it is x;
-- where none is, `next` is a and x is zero
pub record OnlyTerm (t : List ℕ) (a n : ℕ) (x : Term) (next : ℕ) : Type 0 where
  pub after : a ≤ next
  pub inside : next ≤ length t
  pub none : next ≡ a → x ≡ zero_term
  pub bytes : (k : ℕ) → a ≤ k → k < next → minus_sign ≤ get_or t k 0
  pub field : a < next → (l : Terms) → add_term n l (part t a next) ≡ put_term l x
  pub other : (e : ℕ) → a ≤ e → e ≤ length t → (a < next → e ≡ next → ⊥) → (l : Terms)
      → add_term n l (part t a e) ≡ misspelled l

-- the one that begins at a, if there is one
abbrev pub TermAt : List ℕ → ℕ → ℕ → Option (At Term) → Type 0
TermAt t a n (Some r) = (a < r.next) × OnlyTerm t a n r.value r.next
TermAt t a n None = OnlyTerm t a n zero_term a
