use mathlib.Core.List.{List}
use mathlib.Core.Path.{◌≡◌, sym, ◌∙◌}
use Prim.Native.Nat.{ℕ, ◌-◌, ◌≤◌, ◌<◌}
use native.Mathlib.Nat.{sub-zero}
use native.Mathlib.Omega.{arith}
use lib.IntN.{ℤ}
use borrow.Author.Rules.{rules}
use Rattle.intervals.specs.Interval.{point_i}
use Rattle.intervals.specs.Places.{entry_at, side_at, cell_at, vector_of}
use Rattle.intervals.specs.declared.Interval.{Interval}
use Rattle.jobs.specs.Places.{equation_at}
use Rattle.jobs.specs.declared.Equation.{Equation}
use Rattle.step.specs.Ranges.{StepIn}
use Rattle.step.specs.Step.{middle_of, image_from, image_box}
use Rattle.step.specs.Decide.{decide_of}
use Rattle.step.specs.declared.Decision.{Decision}
use Rattle.step.proofs.Imaged.{m-in, asked, image-is}
use Rattle.step.proofs.Filled.{Filled, room-zero, filled_none, filled_more}
use Rattle.step.proofs.Filled.{filled-values, filled-slopes, filled-room}
use Rattle.run.specs.Run.{run_of}
use Rattle.run.specs.declared.Outcome.{Outcome}
use Rattle.run.proofs.Turns.{turned, run-turn, run_end, next-box}
use Rattle.run.proofs.run_steps.Goals as goal

-- K, and the whole run at the decision of a turn, from what the turn has made
turn : (n : ℕ) (q : ℕ → Equation) (C : ℕ → ℕ → ℤ) (x m f : List Interval) (s : List (List Interval))
    (allowance done i : ℕ) {k : List Interval} {d : Decision} {o : Outcome}
    → done < allowance → StepIn n q C (side_at x) × (run_of n q C (allowance - done) done x ≡ o)
    → m ≡ vector_of n (λ j. point_i (middle_of (side_at x) j)) → Filled n i q (side_at m) (side_at x) f s → n ≤ i
    → k ≡ vector_of n (image_from n C (side_at x) (side_at m) (side_at f) (cell_at s)) → d ≡ decide_of n x k
    → (k ≡ image_box n q C x) × (o ≡ turned n q C allowance done d)
unfolding image_box
turn n q C x m f s allowance done i l h a g e w v =
    let image = w ∙ image-is h.0 a (filled-values _ _ _ _ g e) (filled-slopes _ _ _ _ g e) in
    (image, run-turn n q C allowance done x l image v h.1)

pub loop-done-init : goal.loop-done-init
loop-done-init c = ((omega arith, room-zero _), (c.requires, rw sub-zero))

-- the allowance is used up
pub ended-requires-2 : goal.ended-requires-2
ended-requires-2 c = search rules

pub returns : goal.returns
returns c =
    let l = c.loop-done in
    c.ended-2.ensures ∙ sym (sym l.invariant.1.1 ∙ run_end _ _ _ _ _ _ l.invariant.0.0 (omega arith))

-- ---- a turn
pub middles-m-requires : goal.middles-m-requires
middles-m-requires c = c.loop-done.invariant.1.0.box

-- F and S
pub loop-i-init : goal.loop-i-init
loop-i-init c = filled_none _ _ _ _ c.loop-done.invariant.0.1

pub equation_over-requires : goal.equation_over-requires
equation_over-requires c =
    let h = c.loop-done.invariant.1.0 in record {
      m_in = m-in h c.middles-m.ensures;
      x_in = h.box;
      q_in = h.system.each c.loop-i.i c.loop-i-test.true;
    }

pub loop-i-preserved : goal.loop-i-preserved
loop-i-preserved c =
    filled_more _ _ _ _ c.loop-i.invariant c.loop-i-test.true c.equation_over.ensures

-- K
pub image-k-requires : goal.image-k-requires
image-k-requires c =
    asked c.loop-done.invariant.1.0 c.middles-m.ensures
    (filled-values _ _ _ _ c.loop-i.invariant c.loop-i-test.false)
    (filled-slopes _ _ _ _ c.loop-i.invariant c.loop-i-test.false)

pub decide-d-requires : goal.decide-d-requires
decide-d-requires c = c.loop-done.invariant.1.0.box.places

pub returns-in-None : goal.returns-in-None
returns-in-None c =
    let t = turn c.args.n (equation_at c.args.eqs) (entry_at c.args.c) c.loop-done.x c.middles-m.result c.loop-i.f
    c.loop-i.s c.args.allowance c.loop-done.done c.loop-i.i (omega arith) c.loop-done.invariant.1 c.middles-m.ensures
    c.loop-i.invariant c.loop-i-test.false c.image-k.ensures c.decide-d.ensures in
    c.ended.ensures ∙ sym (rw c.in-None.is at t.1)

pub returns-in-Unique : goal.returns-in-Unique
returns-in-Unique c =
    let t = turn c.args.n (equation_at c.args.eqs) (entry_at c.args.c) c.loop-done.x c.middles-m.result c.loop-i.f
    c.loop-i.s c.args.allowance c.loop-done.done c.loop-i.i (omega arith) c.loop-done.invariant.1 c.middles-m.ensures
    c.loop-i.invariant c.loop-i-test.false c.image-k.ensures c.decide-d.ensures in
    c.ended-in-Unique.ensures ∙ sym (rw c.in-Unique.is at t.1)

pub returns-in-Stalled : goal.returns-in-Stalled
returns-in-Stalled c =
    let t = turn c.args.n (equation_at c.args.eqs) (entry_at c.args.c) c.loop-done.x c.middles-m.result c.loop-i.f
    c.loop-i.s c.args.allowance c.loop-done.done c.loop-i.i (omega arith) c.loop-done.invariant.1 c.middles-m.ensures
    c.loop-i.invariant c.loop-i-test.false c.image-k.ensures c.decide-d.ensures in
    c.ended-in-Stalled.ensures ∙ sym (rw c.in-Stalled.is at t.1)

pub loop-done-preserved : goal.loop-done-preserved
loop-done-preserved c =
    let t = turn c.args.n (equation_at c.args.eqs) (entry_at c.args.c) c.loop-done.x c.middles-m.result c.loop-i.f
    c.loop-i.s c.args.allowance c.loop-done.done c.loop-i.i (omega arith) c.loop-done.invariant.1 c.middles-m.ensures
    c.loop-i.invariant c.loop-i-test.false c.image-k.ensures c.decide-d.ensures in
    let l = c.loop-done in
    let box = next-box l.x l.invariant.1.0 t.0 c.decide-d.ensures c.in-Next.is in (
      (omega arith, filled-room _ _ _ _ c.loop-i.invariant c.loop-i-test.false),
      (
        record { system = l.invariant.1.0.system; inverse = l.invariant.1.0.inverse; box = box },
        sym (rw c.in-Next.is at t.1),
      ),
    )
