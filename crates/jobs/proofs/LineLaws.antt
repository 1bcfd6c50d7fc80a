-- What the numbers of a job's lines say.
use Prim.Native.Nat.{◌≤◌}
use native.Mathlib.Omega.{arith}
use mathlib.Core.Path.{◌≡◌, refl}
use mathlib.Core.Bool.{Bool, true, false, cond}
use Rattle.jobs.specs.declared.Kind.{Kind}
use Rattle.jobs.specs.declared.Head.{Head}
use Rattle.jobs.specs.Lines.{pin_stands, pin_lines, after_n, job_number, LineFits}

-- at most one pin line
pub pin-lines-few : (h : Head) → pin_lines h ≤ 1
unfolding pin_lines
pin-lines-few h = go (pin_stands h.kind h.n h.pin)
  where
    go : (b : Bool) → cond b 1 0 ≤ 1
    go true = omega arith
    go false = omega arith

-- for the functions whose proofs need it
pub ruleset few_pins = (pin-lines-few)

-- the line after n is line 4
pub after-n-fourth : (h : Head) → job_number (after_n h.kind) h ≡ 4
unfolding pin_lines
after-n-fourth h = go h.kind refl
  where
    go : (k : Kind) → h.kind ≡ k → job_number (after_n h.kind) h ≡ 4
    go Kind.Poly e = rw e
    go Kind.Linear e = rw e
    go Kind.Eigen e = rw e

pub after-n-fits : (h : Head) → LineFits (after_n h.kind) h
after-n-fits h = go h.kind
  where
    go : (k : Kind) → LineFits (after_n k) h
    go Kind.Poly = tt
    go Kind.Linear = tt
    go Kind.Eigen = tt
