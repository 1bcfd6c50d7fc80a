-- A number at a place of a text, against the whole fields that could begin there.
use Rattle.std.specs.Prelude.{ℕ, ◌+◌, ◌≤◌, ◌<◌, ◌≡◌, List, Bool, cond, length, get_or, eqb, ltb, ℤ, pos, Option}
use Rattle.std.specs.Prelude.{Some, None}
use Rattle.digits.specs.Bytes.{minus_sign, digit0, digit9}
use Rattle.digits.specs.Number.{read_magnitude, read_number}
use Rattle.reading.specs.Places.{part}
use Rattle.scan.specs.declared.At.{At}

-- this byte stands there
abbrev pub is_at : List ℕ → ℕ → ℕ → Bool
is_at t at b = cond (ltb at (length t)) (eqb (get_or t at 0) b) Bool.false

-- where the digits of a number that begins at a begin: "an optional minus"
abbrev pub digits_at : List ℕ → ℕ → ℕ
digits_at t a = cond (is_at t a minus_sign) (a + 1) a

-- no digit stands at e: a number that reaches it ends there
pub record Stops (t : List ℕ) (e : ℕ) : Type 0 where
  pub inside : e ≤ length t
  pub other : e < length t → digit0 ≤ get_or t e 0 → get_or t e 0 ≤ digit9 → ⊥

-- of the fields that begin at a and end where no digit stands, only the one up to `next` is a number with no sign,
-- and its value is m; where none is, `next` is a and m is 0
pub record OnlyMagnitude (t : List ℕ) (a m next : ℕ) : Type 0 where
  pub after : a ≤ next
  pub inside : next ≤ length t
  pub none : next ≡ a → m ≡ 0
  pub bytes : (k : ℕ) → a ≤ k → k < next → digit0 ≤ get_or t k 0
  pub reads : (e : ℕ) → a < e → Stops t e
      → read_magnitude (part t a e) ≡ cond (eqb e next) (Some m) None

-- the one that begins at a, if there is one
abbrev pub MagnitudeAt : List ℕ → ℕ → Option (At ℕ) → Type 0
MagnitudeAt t a (Some r) = (a < r.next) × OnlyMagnitude t a r.value r.next
MagnitudeAt t a None = OnlyMagnitude t a 0 a

-- the same of a signed number
pub record OnlyNumber (t : List ℕ) (a : ℕ) (v : ℤ) (next : ℕ) : Type 0 where
  pub after : a ≤ next
  pub inside : next ≤ length t
  pub none : next ≡ a → v ≡ pos 0
  pub bytes : (k : ℕ) → a ≤ k → k < next → minus_sign ≤ get_or t k 0
  pub reads : (e : ℕ) → a < e → Stops t e → read_number (part t a e) ≡ cond (eqb e next) (Some v) None

abbrev pub NumberAt : List ℕ → ℕ → Option (At ℤ) → Type 0
NumberAt t a (Some r) = (a < r.next) × OnlyNumber t a r.value r.next
NumberAt t a None = OnlyNumber t a (pos 0) a
