-- What the numbers that are carried stand for comes back as it was.
use Prim.Native.Nat.{ℕ, ◌+◌, ◌-◌, ◌≤◌}
use native.Mathlib.Omega.{arith}
use mathlib.Core.Path.{◌≡◌, refl, sym}
use mathlib.Core.Bool.{Bool, true, false, cond}
use lib.Dec.{eqb}
use borrow.Author.Tests.{ne_eqb, eqb-true, eqb-false}
use Rattle.faults.specs.declared.Fault.{Fault}
use Rattle.faults.specs.Words.{fault_number, fault_of}
use Rattle.reading.specs.Lines.{State}
use Rattle.jobs.specs.declared.Kind.{Kind}
use Rattle.jobs.specs.declared.Job.{Job}
use Rattle.jobs.specs.declared.JobLine.{JobLine}
use Rattle.next_line.specs.declared.Read.{Read}
use Rattle.next_line.specs.State.{kind_number, kind_of, place_of, line_in, state_of, with_state}
use Rattle.next_line.specs.Limits.{kind_max}

pub kind-back : (k : Kind) → kind_of (kind_number k) ≡ k
unfolding kind_of
kind-back Kind.Poly = refl
kind-back Kind.Linear = refl
kind-back Kind.Eigen = refl

-- within its limit the number of a kind comes back too
pub kind-same : (k : ℕ) → k ≤ kind_max → kind_number (kind_of k) ≡ k
unfolding kind_of
kind-same k h = go (eqb k 0) (eqb k 1) refl refl
  where
    go : (a b : Bool) → eqb k 0 ≡ a → eqb k 1 ≡ b
        → kind_number (cond a Kind.Poly (cond b Kind.Linear Kind.Eigen)) ≡ k
    go true b e w = sym (eqb-true k 0 e)
    go false true e w = sym (eqb-true k 1 w)
    go false false e w = omega (arith, eqb-false k 0 e, eqb-false k 1 w)

past : (i k : ℕ) → k ≤ 8 → eqb (9 + i) k ≡ false
past i k h = ne_eqb (9 + i) k (λ e. omega arith)

pub line-back : (k : JobLine) → line_in (place_of k) ≡ k
unfolding line_in
line-back JobLine.Number = refl
line-back JobLine.Kind = refl
line-back JobLine.Unknowns = refl
line-back JobLine.Pin = refl
line-back JobLine.Lo = refl
line-back JobLine.Hi = refl
line-back JobLine.Inv = refl
line-back JobLine.Steps = refl
line-back (JobLine.System i) =
    let e : 9 + i - 9 ≡ i = omega arith in
    rw (
      past i 0 (omega arith),
      past i 1 (omega arith),
      past i 2 (omega arith),
      past i 3 (omega arith),
      past i 4 (omega arith),
      past i 5 (omega arith),
      past i 6 (omega arith),
      past i 7 (omega arith),
      past i 8 (omega arith),
      e,
    )
line-back JobLine.End = refl

fault-back : (f : Fault) → fault_of (fault_number f) ≡ f
unfolding fault_of
fault-back Fault.LongText = refl
fault-back Fault.Spelling = refl
fault-back Fault.Unknowns = refl
fault-back Fault.Beyond = refl
fault-back Fault.Crossed = refl
fault-back Fault.Terms = refl
fault-back Fault.ShortBuffer = refl
fault-back Fault.Steps = refl
fault-back Fault.Pin = refl
fault-back Fault.Full = refl
fault-back Fault.Visits = refl
fault-back Fault.NotOpen = refl
fault-back Fault.Table = refl

fault-some : (f : Fault) → eqb (fault_number f) 0 ≡ false
fault-some Fault.LongText = refl
fault-some Fault.Spelling = refl
fault-some Fault.Unknowns = refl
fault-some Fault.Beyond = refl
fault-some Fault.Crossed = refl
fault-some Fault.Terms = refl
fault-some Fault.ShortBuffer = refl
fault-some Fault.Steps = refl
fault-some Fault.Pin = refl
fault-some Fault.Full = refl
fault-some Fault.Visits = refl
fault-some Fault.NotOpen = refl
fault-some Fault.Table = refl

-- where no line is bad yet
pub state-back : (r : Read) (s : State Fault JobLine Job) → r.fault ≡ 0 → state_of (with_state r s) ≡ s
unfolding state_of
state-back r (State.at k j) e = rw (e, line-back k, kind-back j.head.kind)
state-back r (State.bad f m) e = rw (fault-some f, fault-back f)
