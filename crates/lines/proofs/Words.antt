-- The words of the kinds and of the verdicts, read and written.
use Prim.Native.Nat.{ℕ}
use native.Mathlib.Omega.{arith}
use mathlib.Core.Path.{◌≡◌, refl}
use mathlib.Core.List.{List}
use mathlib.Core.Bool.{Bool, true, false, cond}
use Rattle.digits.specs.Bytes.{line_feed}
use Rattle.text.specs.Keys.{starts_with, same_bytes}
use Rattle.text.proofs.Keys.{same-was}
use Rattle.text.proofs.Pieces.{Above}
use Rattle.faults.specs.declared.Fault.{Fault}
use Rattle.jobs.specs.declared.Kind.{Kind}
use Rattle.jobs.specs.declared.Verdict.{Verdict}
use Rattle.reading.specs.Results.{Told}
use Rattle.reading.proofs.Told.{told-got, told-fault}
use Rattle.lines.specs.Lines.{word_or, kind_of, verdict_of}
use Rattle.lines.specs.Texts.{kind_text, verdict_text}
use Rattle.std.specs.Prelude.{Ok}
use Rattle.faults.specs.Checked.{Found}

-- one word more
word_test : {A : Type 0} (show : A → List ℕ) (l : List ℕ) (u : A) (other : Found A) → Told (λ v. show v ≡ l) other
    → Told (λ v. show v ≡ l) (word_or l (show u) u other)
word_test {A} show l u other p = go (same_bytes (show u) l) refl
  where
    go : (t : Bool) → same_bytes (show u) l ≡ t → Told (λ v. show v ≡ l) (cond t (Ok u) other)
    go true e = told-got u (same-was (show u) l e)
    go false e = p

-- ---- verdicts

pub verdict-above : (v : Verdict) → Above line_feed (verdict_text v)
unfolding Above
verdict-above Verdict.None = omega arith
verdict-above Verdict.Unique = omega arith
verdict-above Verdict.Stalled = omega arith
verdict-above Verdict.Spent = omega arith

pub verdict-back : (v : Verdict) → verdict_of (verdict_text v) ≡ Ok v
unfolding verdict_of same_bytes starts_with
verdict-back Verdict.None = refl
verdict-back Verdict.Unique = refl
verdict-back Verdict.Stalled = refl
verdict-back Verdict.Spent = refl

pub verdict-told : (l : List ℕ) → Told (λ v. verdict_text v ≡ l) (verdict_of l)
unfolding verdict_of
verdict-told l =
    word_test verdict_text l Verdict.None _
    (word_test verdict_text l Verdict.Unique _
    (word_test verdict_text l Verdict.Stalled _
    (word_test verdict_text l Verdict.Spent _ (told-fault Fault.Spelling))))

-- ---- kinds

pub kind-above : (k : Kind) → Above line_feed (kind_text k)
unfolding Above
kind-above Kind.Poly = omega arith
kind-above Kind.Linear = omega arith
kind-above Kind.Eigen = omega arith

pub kind-back : (k : Kind) → kind_of (kind_text k) ≡ Ok k
unfolding kind_of same_bytes starts_with
kind-back Kind.Poly = refl
kind-back Kind.Linear = refl
kind-back Kind.Eigen = refl

pub kind-told : (l : List ℕ) → Told (λ k. kind_text k ≡ l) (kind_of l)
unfolding kind_of
kind-told l =
    word_test kind_text l Kind.Poly _
    (word_test kind_text l Kind.Linear _ (word_test kind_text l Kind.Eigen _ (told-fault Fault.Spelling)))
