-- The numbers that are carried stay within their limits.
use Prim.Native.Nat.{ℕ, ◌+◌, ◌-◌, ◌≤◌, ◌<◌}
use native.Mathlib.Omega.{arith}
use mathlib.Core.Path.{◌≡◌, refl, sym, subst}
use mathlib.Core.List.{List}
use mathlib.Core.Bool.{Bool, true, false, cond}
use lib.Dec.{eqb, ltb}
use borrow.Author.Tests.{ltb-true, eqb-true, eqb-false}
use Rattle.sizes.specs.Sizes.{n_max}
use Rattle.faults.specs.declared.Fault.{Fault}
use Rattle.faults.specs.Words.{fault_number, fault_max}
use Rattle.text.specs.Keys.{starts_with}
use Rattle.text.specs.Words.{pin_key}
use Rattle.reading.specs.Results.{Blamed, after}
use Rattle.reading.specs.Lines.{Next, State, heard, step}
use Rattle.reading.proofs.Told.{fault-got}
use Rattle.scan.specs.Lines.{line_of}
use Rattle.jobs.specs.declared.Kind.{Kind}
use Rattle.jobs.specs.declared.Head.{Head}
use Rattle.jobs.specs.declared.Job.{Job}
use Rattle.jobs.specs.declared.JobLine.{JobLine}
use Rattle.jobs.specs.Lines.{after_n, job_number, LineFits}
use Rattle.jobs.proofs.LineLaws.{pin-lines-few}
use Rattle.checks.proofs.CheckLaws.{unknowns-fine}
use Rattle.lines.specs.Lines.{unknowns_of}
use Rattle.lines.proofs.Faults.{OfLine, spelling}
use Rattle.lines.proofs.Unknowns.{unknowns-told}
use Rattle.job_form.specs.JobForm.{job_form_of, job_says, system_says, after_system}
use Rattle.job_form.proofs.Faults.{job-says}
use Rattle.next_line.specs.declared.Read.{Read}
use Rattle.next_line.specs.State.{kind_number, place_of, line_in, job_of, with_state, line_taken}
use Rattle.next_line.specs.Limits.{place_max, line_max, kind_max}
use Rattle.std.specs.Prelude.{Ok, Err}
use Rattle.faults.specs.Checked.{Found}

-- ---- the place of the next line

pub after-room : (k : Kind) → place_of (after_n k) ≤ place_max
after-room Kind.Poly = omega arith
after-room Kind.Linear = omega arith
after-room Kind.Eigen = omega arith

pub system-room : (i n : ℕ) → n ≤ n_max → i < n_max → place_of (after_system i n) ≤ place_max
unfolding after_system
system-room i n few h = go (ltb (i + 1) n) refl
  where
    go : (b : Bool) → ltb (i + 1) n ≡ b → place_of (cond b (JobLine.System (i + 1)) JobLine.End) ≤ place_max
    go true e = omega (arith, ltb-true (i + 1) n e)
    go false e = omega arith

-- (omega takes so many tests at a time)
pub from-four : (k : ℕ) → (k ≡ 0 → ⊥) → (k ≡ 1 → ⊥) → (k ≡ 2 → ⊥) → (k ≡ 3 → ⊥) → 4 ≤ k
from-four k a b c d = omega arith

-- the line of a place has that place
pub place-back : (k : ℕ) → place_of (line_in k) ≡ k
unfolding line_in
place-back k =
    go (eqb k 0) (eqb k 1) (eqb k 2) (eqb k 3) (eqb k 4) (eqb k 5) (eqb k 6) (eqb k 7) (eqb k 8)
    refl refl refl refl refl refl refl refl refl
  where
    go : (a b c d e f g h i : Bool) → eqb k 0 ≡ a → eqb k 1 ≡ b → eqb k 2 ≡ c → eqb k 3 ≡ d → eqb k 4 ≡ e → eqb k 5 ≡ f
        → eqb k 6 ≡ g → eqb k 7 ≡ h → eqb k 8 ≡ i
        → place_of (cond a JobLine.End (cond b JobLine.Number (cond c JobLine.Kind (cond d JobLine.Unknowns
        (cond e JobLine.Pin (cond f JobLine.Lo (cond g JobLine.Hi (cond h JobLine.Inv
        (cond i JobLine.Steps (JobLine.System (k - 9)))))))))))
        ≡ k
    go true b c d e f g h i p _ _ _ _ _ _ _ _ = sym (eqb-true k 0 p)
    go false true c d e f g h i _ p _ _ _ _ _ _ _ = sym (eqb-true k 1 p)
    go false false true d e f g h i _ _ p _ _ _ _ _ _ = sym (eqb-true k 2 p)
    go false false false true e f g h i _ _ _ p _ _ _ _ _ = sym (eqb-true k 3 p)
    go false false false false true f g h i _ _ _ _ p _ _ _ _ = sym (eqb-true k 4 p)
    go false false false false false true g h i _ _ _ _ _ p _ _ _ = sym (eqb-true k 5 p)
    go false false false false false false true h i _ _ _ _ _ _ p _ _ = sym (eqb-true k 6 p)
    go false false false false false false false true i _ _ _ _ _ _ _ p _ = sym (eqb-true k 7 p)
    go false false false false false false false false true _ _ _ _ _ _ _ _ p = sym (eqb-true k 8 p)
    go false false false false false false false false false p0 p1 p2 p3 p4 p5 p6 p7 p8 =
        let low = from-four k (eqb-false k 0 p0) (eqb-false k 1 p1) (eqb-false k 2 p2) (eqb-false k 3 p3) in
        past-eight low (eqb-false k 4 p4) (eqb-false k 5 p5) (eqb-false k 6 p6) (eqb-false k 7 p7) (eqb-false k 8 p8)
      where
        past-eight : 4 ≤ k → (k ≡ 4 → ⊥) → (k ≡ 5 → ⊥) → (k ≡ 6 → ⊥) → (k ≡ 7 → ⊥) → (k ≡ 8 → ⊥) → 9 + (k - 9) ≡ k
        past-eight low a b c d e = let nine : 9 ≤ k = omega arith in omega (arith, nine)

-- ---- a line

-- the number of a line that is reached
number-room : (k : JobLine) (h : Head) → place_of k ≤ place_max → h.n ≤ n_max → job_number k h ≤ line_max
number-room JobLine.Number h p q = omega arith
number-room JobLine.Kind h p q = omega arith
number-room JobLine.Unknowns h p q = omega arith
number-room JobLine.Pin h p q = omega arith
number-room JobLine.Lo h p q = omega (arith, pin-lines-few h)
number-room JobLine.Hi h p q = omega (arith, pin-lines-few h)
number-room JobLine.Inv h p q = omega (arith, pin-lines-few h)
number-room JobLine.Steps h p q = omega (arith, pin-lines-few h)
number-room (JobLine.System i) h p q = omega (arith, pin-lines-few h)
number-room JobLine.End h p q = omega (arith, pin-lines-few h)

pub line-fits : (k : JobLine) (h : Head) → place_of k ≤ place_max → h.n ≤ n_max → LineFits k h
line-fits JobLine.Number h p q = tt
line-fits JobLine.Kind h p q = tt
line-fits JobLine.Unknowns h p q = tt
line-fits JobLine.Pin h p q = tt
line-fits JobLine.Lo h p q = tt
line-fits JobLine.Hi h p q = tt
line-fits JobLine.Inv h p q = tt
line-fits JobLine.Steps h p q = tt
line-fits (JobLine.System i) h p q = omega arith
line-fits JobLine.End h p q = q

abbrev NextRoom : Next JobLine Job → Type 0
NextRoom x = (place_of x.kind ≤ place_max) × (x.value.head.n ≤ n_max)

abbrev StateRoom : State Fault JobLine Job → Type 0
StateRoom (State.at k j) = (place_of k ≤ place_max) × (j.head.n ≤ n_max)
StateRoom (State.bad f m) = (m ≤ line_max) × (fault_number f ≤ fault_max)

abbrev Room : Found (Next JobLine Job) → Type 0
Room g = (x : Next JobLine Job) → g ≡ Ok x → NextRoom x

heard-room : (m : ℕ) → m ≤ line_max → (g : Found (Next JobLine Job)) → Room g → Blamed OfLine g
    → StateRoom (heard m g)
unfolding heard
heard-room m h (Ok x) p of = p x refl
heard-room m h (Err f) p of = (h, (of.blamed f refl).of-text)

after_next : {A : Type 0} (g : Found A) (put : A → Next JobLine Job) → ((x : A) → g ≡ Ok x → NextRoom (put x))
    → Room (after g put)
unfolding after
after_next (Ok x) put p y e = let z : put x ≡ y = cc in subst NextRoom z (p x refl)
after_next (Err f) put p y e = fault-got e

either : (b : Bool) {g h : Found (Next JobLine Job)} → Room g → Room h → Room (cond b g h)
either true p q = p
either false p q = q

-- n is looked at where it is read, and no other line changes it
says-room : (k : JobLine) (j : Job) (l : List ℕ) → place_of k ≤ place_max → j.head.n ≤ n_max
    → Room (job_says k j l)
unfolding job_says system_says
says-room JobLine.Number j l p q = after_next _ _ (λ x e. (omega arith, q))
says-room JobLine.Kind j l p q = after_next _ _ (λ x e. (omega arith, q))
says-room JobLine.Unknowns j l p q =
    after_next (unknowns_of l) _ (λ x e.
    (after-room j.head.kind, (unknowns-fine x ((unknowns-told l).told x e).fine).1))
says-room JobLine.Pin j l p q =
    either (starts_with pin_key l) (after_next _ _ (λ x e. (omega arith, q)))
    (after_next _ _ (λ x e. (omega arith, q)))
says-room JobLine.Lo j l p q = after_next _ _ (λ x e. (omega arith, q))
says-room JobLine.Hi j l p q = after_next _ _ (λ x e. (omega arith, q))
says-room JobLine.Inv j l p q = after_next _ _ (λ x e. (omega arith, q))
says-room JobLine.Steps j l p q = after_next _ _ (λ x e. (omega arith, q))
says-room (JobLine.System i) j l p q = go j.head.kind
  where
    next : place_of (after_system i j.head.n) ≤ place_max
    next = system-room i j.head.n q (omega arith)

    go : (k : Kind) → Room (system_says k i j l)
    go Kind.Poly = after_next _ _ (λ x e. (next, q))
    go Kind.Linear = after_next _ _ (λ x e. (next, q))
    go Kind.Eigen = after_next _ _ (λ x e. (next, q))
says-room JobLine.End j l p q = λ x e. fault-got e

step_room : (k : JobLine) (j : Job) (l : List ℕ) → place_of k ≤ place_max → j.head.n ≤ n_max
    → StateRoom (step job_form_of (State.at k j) l)
unfolding step
step_room k j l p q = go (job_form_of.last k)
  where
    m : ℕ
    m = job_number k j.head

    go : (b : Bool) → StateRoom (cond b (State.bad Fault.Spelling m) (heard m (job_says k j l)))
    go true = (number-room k j.head p q, spelling.of-text)
    go false =
        heard-room m (number-room k j.head p q) (job_says k j l) (says-room k j l p q) (job-says k j l)

-- ---- all that is read

pub record ReadFits (r : Read) : Type 0 where
  pub fault : r.fault ≤ fault_max
  pub line : r.line ≤ line_max
  pub next : r.next ≤ place_max
  pub kind : r.kind ≤ kind_max
  pub few : r.n ≤ n_max

kind-room : (k : Kind) → kind_number k ≤ kind_max
kind-room Kind.Poly = omega arith
kind-room Kind.Linear = omega arith
kind-room Kind.Eigen = omega arith

pub line-taken-fits : (r : Read) (bytes : List ℕ) → ReadFits r → ReadFits (line_taken r bytes)
unfolding line_taken
line-taken-fits r bytes h = go (eqb r.fault 0)
  where
    next : State Fault JobLine Job
    next = step job_form_of (State.at (line_in r.next) (job_of r)) (line_of bytes 0)

    left : (s : State Fault JobLine Job) → StateRoom s → ReadFits (with_state r s)
    left (State.at k j) p = record {
      fault = h.fault;
      line = h.line;
      next = p.0;
      kind = kind-room j.head.kind;
      few = p.1;
    }
    left (State.bad f m) p =
        record { fault = p.1; line = p.0; next = h.next; kind = h.kind; few = h.few }

    go : (b : Bool) → ReadFits (cond b (with_state r next) r)
    go true =
        left next (step_room (line_in r.next) (job_of r) (line_of bytes 0)
        (rw (place-back r.next) h.next) h.few)
    go false = h
