-- The first fault of a line decides, and the first bad line: what that says of each test and of each line.
use mathlib.Core.Path.{◌≡◌, refl, sym, ap, ◌∙◌}
use mathlib.Core.Bool.{Bool, true, false}
use mathlib.Core.Logic.{⊎_elim}
use Prim.Native.Nat.{ℕ, zero, suc, ◌+◌, ◌<◌, ◌≤◌}
use native.Mathlib.Nat.{not-suc-le-zero, le_of_suc-le-suc, le_antisymm, eq-or-lt_of_le}
use native.Mathlib.Numerals.{add-one}
use native.Mathlib.Omega.{arith}
use Rattle.faults.specs.declared.Fault.{Fault}
use Rattle.faults.specs.declared.Refusal.{Refusal}
use Rattle.faults.specs.Checked.{Finding, Checked, Status, status_of, value_or}
use Rattle.faults.specs.Checks.{is_fine, bad_unless, first_of, on_line, is_bad, and_then, lines_of}
use Rattle.std.specs.Prelude.{Ok, Err}

zero_one : ◌≡◌ {A = ℕ} 0 1 → ⊥
zero_one e = omega arith

-- ---- one line
pub is-fine : (f : Finding) → is_fine f ≡ true → f ≡ Ok tt
is-fine (Ok tt) e = refl
is-fine (Err f) e = absurd (zero_one (cc))

pub not-fine : (f g : Finding) → is_fine f ≡ false → first_of f g ≡ f
unfolding first_of
not-fine (Ok tt) g e = absurd (zero_one (cc))
not-fine (Err f) g e = refl

pub fine-then : (f g : Finding) → f ≡ Ok tt → first_of f g ≡ g
unfolding first_of
fine-then f g e = rw e

pub fine-first : (f g : Finding) → first_of f g ≡ Ok tt → f ≡ Ok tt
unfolding first_of
fine-first (Ok tt) g e = refl
fine-first (Err f) g e = e

pub fine-next : (f g : Finding) → first_of f g ≡ Ok tt → g ≡ Ok tt
fine-next f g e = sym (fine-then f g (fine-first f g e)) ∙ e

pub both-fine : {f g : Finding} → f ≡ Ok tt → g ≡ Ok tt → first_of f g ≡ Ok tt
both-fine {f} {g} h e = fine-then f g h ∙ e

pub unless-fine : (good : Bool) (f : Fault) → bad_unless good f ≡ Ok tt → good ≡ true
unfolding bad_unless
unless-fine true f e = refl
unless-fine false f e = absurd (zero_one (cc))

pub fine-unless : {good : Bool} (f : Fault) → good ≡ true → bad_unless good f ≡ Ok tt
unfolding bad_unless
fine-unless f e = rw e

-- ---- a line, with its number
pub fine-line : (f : Finding) (line : ℕ) → on_line f line ≡ Ok tt → f ≡ Ok tt
unfolding on_line
fine-line (Ok tt) line e = refl
fine-line (Err f) line e = absurd (zero_one (cc))

pub line-fine : {f : Finding} (line : ℕ) → f ≡ Ok tt → on_line f line ≡ Ok tt
unfolding on_line
line-fine line e = rw e

pub line_first : (f g : Finding) (line : ℕ) → on_line (first_of f g) line ≡ and_then (on_line f line) (on_line g line)
unfolding on_line first_of and_then
line_first (Ok tt) g line = refl
line_first (Err f) g line = refl

-- what a line finds, by another name
pub line_same : {f g : Finding} {s : Status} (line : ℕ) → f ≡ g → s ≡ on_line f line → s ≡ on_line g line
line_same line e h = h ∙ ap (λ (x : Finding). on_line x line) e

-- ---- line after line
-- a line on which nothing can be wrong
pub fine-skips : (line : ℕ) (s : Status) → and_then (on_line (Ok tt) line) s ≡ s
unfolding on_line and_then
fine-skips line s = refl

pub not-bad : (s : Status) → is_bad s ≡ false → s ≡ Ok tt
not-bad (Ok tt) e = refl
not-bad (Err r) e = absurd (zero_one (cc))

pub bad-first : (s t : Status) → is_bad s ≡ true → and_then s t ≡ s
unfolding and_then
bad-first (Ok tt) t e = absurd (zero_one (cc))
bad-first (Err r) t e = refl

pub good-first : (s t : Status) → s ≡ Ok tt → and_then s t ≡ t
unfolding and_then
good-first s t e = rw e

pub then-assoc : (a b c : Status) → and_then (and_then a b) c ≡ and_then a (and_then b c)
unfolding and_then
then-assoc (Ok tt) b c = refl
then-assoc (Err r) b c = refl

pub done_first : (s t : Status) → and_then s t ≡ Ok tt → s ≡ Ok tt
unfolding and_then
done_first (Ok tt) t e = refl
done_first (Err r) t e = e

pub done_next : (s t : Status) → and_then s t ≡ Ok tt → t ≡ Ok tt
done_next s t e = sym (good-first s t (done_first s t e)) ∙ e

pub both-done : {s t : Status} → s ≡ Ok tt → t ≡ Ok tt → and_then s t ≡ Ok tt
both-done {s} {t} h e = good-first s t h ∙ e

-- ---- a value, or what refuses it
pub status-then : {A : Type 0} (s : Status) (x : A) → status_of (and_then s (Ok x)) ≡ s
unfolding and_then
status-then (Ok tt) x = refl
status-then (Err r) x = refl

-- what an answer says of the checks before its value
pub then-done : {A : Type 0} (s : Status) (x : A) {y : A} → and_then s (Ok x) ≡ Ok y → s ≡ Ok tt
unfolding and_then
then-done (Ok tt) x e = refl
then-done (Err r) x e = absurd (zero_one (cc))

pub then-value : {A : Type 0} (s : Status) (x : A) {y : A} → and_then s (Ok x) ≡ Ok y → y ≡ x
unfolding and_then
then-value (Ok tt) x e = cc
then-value (Err r) x e = absurd (zero_one (cc))

pub then-refused : {A : Type 0} (s : Status) (x : A) {r : Refusal} → and_then s (Ok x) ≡ Err r → s ≡ Err r
unfolding and_then
then-refused (Ok tt) x e = absurd (zero_one (cc))
then-refused (Err q) x e = cc

pub done-value : {A : Type 0} (none : A) (r : Checked A) → status_of r ≡ Ok tt → r ≡ Ok (value_or none r)
done-value none (Ok x) e = refl
done-value none (Err r) e = absurd (zero_one (cc))

-- n lines, and a loop over them that stops at the first bad one
module _ (f : ℕ → Status) where
  pub lines_none : lines_of 0 f ≡ Ok tt
  unfolding lines_of
  lines_none = refl

  pub lines_more : (i : ℕ) → lines_of i f ≡ Ok tt → f i ≡ Ok tt → lines_of (i + 1) f ≡ Ok tt
  unfolding lines_of
  lines_more i h e = rw add-one (good-first (lines_of i f) (f i) h ∙ e)

  pub lines-done : {i n : ℕ} → i ≤ n → n ≤ i → lines_of i f ≡ Ok tt → lines_of n f ≡ Ok tt
  lines-done h k e = rw (← le_antisymm h k) e

  pub lines-stop : (n i : ℕ) → i < n → lines_of i f ≡ Ok tt → is_bad (f i) ≡ true → lines_of n f ≡ f i
  unfolding lines_of
  lines-stop zero i l h e = absurd (not-suc-le-zero l)
  lines-stop (suc n) i l h e = ⊎_elim here (λ lt. later (lines-stop n i lt h e)) (eq-or-lt_of_le (le_of_suc-le-suc l))
    where
      here : i ≡ n → and_then (lines_of n f) (f n) ≡ f i
      here q = rw (← q) (good-first (lines_of i f) (f i) h)

      later : lines_of n f ≡ f i → and_then (lines_of n f) (f n) ≡ f i
      later q = rw q (bad-first (f i) (f n) e)

  pub lines-each : (n i : ℕ) → i < n → lines_of n f ≡ Ok tt → f i ≡ Ok tt
  unfolding lines_of
  lines-each zero i l e = absurd (not-suc-le-zero l)
  lines-each (suc n) i l e =
      ⊎_elim (λ q. ap f q ∙ done_next (lines_of n f) (f n) e)
      (λ lt. lines-each n i lt (done_first (lines_of n f) (f n) e))
      (eq-or-lt_of_le (le_of_suc-le-suc l))

  pub each-lines : (n : ℕ) → ((i : ℕ) → i < n → f i ≡ Ok tt) → lines_of n f ≡ Ok tt
  unfolding lines_of
  each-lines zero h = refl
  each-lines (suc n) h = good-first (lines_of n f) (f n) (each-lines n (λ i l. h i (omega arith))) ∙ h n (omega arith)
