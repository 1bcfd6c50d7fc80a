-- Which verdict a run gives: that of the step that decides, which comes exactly where document 01 says.
use mathlib.Core.Path.{◌≡◌, refl, sym, ap, ◌∙◌}
use mathlib.Core.List.{List}
use mathlib.Core.Logic.{◌↔◌}
use Prim.Native.Nat.{ℕ, ◌+◌, ◌-◌, ◌≤◌}
use native.Mathlib.Omega.{arith}
use Rattle.intervals.specs.declared.Interval.{Interval}
use Rattle.intervals.specs.Places.{side_at}
use Rattle.jobs.specs.declared.Verdict.{Verdict}
use Rattle.step.specs.declared.Move.{Move}
use Rattle.step.specs.Step.{image_box}
use Rattle.step.specs.Decide.{cut_box, decide_of, step_of}
use Rattle.step.proofs.Decisions.{zero_one, Decided, none, unique, stalled, next, decided}
use Rattle.step.proofs.Exactly.{none-exactly, unique-exactly, stalled-exactly}
use Rattle.run.specs.declared.Outcome.{Outcome}
use Rattle.run.specs.Run.{outcome, settle, run_of}
use Rattle.promises.specs.Claims.{Ordered, System, run_with, Begins, Reaches, EmptyOn, StrictlyOn, UnchangedOn}
use Rattle.runs.proofs.Runs.{verdict-of, more, whole-spent, run-one, run_on}
use Rattle.runs.proofs.Runs.{run-stays, image-ordered, run-ordered, deciding}

-- ---- a step's move as a verdict, "spent" for a step that goes on, and the box that comes with it
abbrev pub verdict_by : Move → Verdict
verdict_by Move.None = Verdict.None
verdict_by Move.Unique = Verdict.Unique
verdict_by Move.Stalled = Verdict.Stalled
verdict_by Move.Next = Verdict.Spent

abbrev pub move_by : Verdict → Move
move_by Verdict.None = Move.None
move_by Verdict.Unique = Move.Unique
move_by Verdict.Stalled = Move.Stalled
move_by Verdict.Spent = Move.Next

abbrev pub box_by : ℕ → List Interval → List Interval → Move → List Interval
box_by n x k Move.None = x
box_by n x k Move.Unique = k
box_by n x k Move.Stalled = x
box_by n x k Move.Next = cut_box n x k

move-verdict : (m : Move) → move_by (verdict_by m) ≡ m
move-verdict Move.None = refl
move-verdict Move.Unique = refl
move-verdict Move.Stalled = refl
move-verdict Move.Next = refl

verdict-move : (v : Verdict) → verdict_by (move_by v) ≡ v
verdict-move Verdict.None = refl
verdict-move Verdict.Unique = refl
verdict-move Verdict.Stalled = refl
verdict-move Verdict.Spent = refl

settled : (m : Move) (y : List Interval) (t : ℕ) → settle m y t (outcome Verdict.Spent t) ≡ outcome (verdict_by m) t y
settled Move.None y t = refl
settled Move.Unique y t = refl
settled Move.Stalled y t = refl
settled Move.Next y t = refl

decided-box : (n : ℕ) (x k : List Interval) → (decide_of n x k).sides ≡ box_by n x k (decide_of n x k).what
decided-box n x k = by (decided n x k)
  where
    by : Decided n x k → (decide_of n x k).sides ≡ box_by n x k (decide_of n x k).what
    by (none e m) = rw e refl
    by (unique e s) = rw e refl
    by (stalled e s) = rw e refl
    by (next e m) = rw e refl

module _ (s : System) where
  abbrev what : List Interval → Move
  what x = (step_of s.n s.equations s.inverse x).what

  abbrev box_on : List Interval → Move → List Interval
  box_on x = box_by s.n x (image_box s.n s.equations s.inverse x)

  -- ---- the step on x, begun after t
  one : (t : ℕ) (x : List Interval) → run_of s.n s.equations s.inverse 1 t x
      ≡ outcome (verdict_by (what x)) (t + 1) (box_on x (what x))
  unfolding step_of
  one t x =
      run-one s.n s.equations s.inverse t x
      ∙ settled (what x) (step_of s.n s.equations s.inverse x).sides (t + 1)
      ∙ ap (outcome (verdict_by (what x)) (t + 1)) (decided-box s.n x (image_box s.n s.equations s.inverse x))

  -- the box of step t + 1
  pub sides-of : {t : ℕ} {x : List Interval} → Begins (run_with s) t x → (run_with s t).sides ≡ x
  sides-of = ap (λ (o : Outcome). o.sides)

  pub step-ordered : {t : ℕ} {x : List Interval} → Begins (run_with s) t x → Ordered s.n (side_at x)
  step-ordered {t} b =
      rw (← sides-of b)
      (run-ordered s.n s.equations s.inverse s.room s.degrees t 0 s.start s.order)

  pub step-none : (x : List Interval) → (what x ≡ Move.None) ↔ EmptyOn s.n s.equations s.inverse x
  unfolding step_of
  step-none x = none-exactly s.n x (image_box s.n s.equations s.inverse x)

  pub step-unique : {t : ℕ} {x : List Interval} → Begins (run_with s) t x
      → (what x ≡ Move.Unique) ↔ StrictlyOn s.n s.equations s.inverse x
  unfolding step_of
  step-unique {x = x} b =
      unique-exactly s.n x (image_box s.n s.equations s.inverse x)
      (image-ordered s.n s.equations s.inverse s.room s.degrees x (step-ordered b))

  pub step-stalled : 1 ≤ s.n → {t : ℕ} {x : List Interval} → Begins (run_with s) t x
      → (what x ≡ Move.Stalled) ↔ UnchangedOn s.n s.equations s.inverse x
  unfolding step_of
  step-stalled some {x = x} b =
      stalled-exactly s.n x (image_box s.n s.equations s.inverse x) some (step-ordered b)

  -- ---- a verdict v other than "spent" stays, for a larger allowance (`cc` shows that v is another one, as an
  -- equation that never holds)
  pub answer-stays : {a b : ℕ} {v : Verdict} → a ≤ b → (run_with s a).verdict ≡ v
      → (v ≡ Verdict.Spent → ◌≡◌ {A = ℕ} 0 1) → run_with s b ≡ run_with s a
  answer-stays {a} {b} l says other =
      let decided : (run_with s a).verdict ≡ Verdict.Spent → ⊥ = λ spent. zero_one (other (sym says ∙ spent)) in
      rw (more l) (run-stays s.n s.equations s.inverse a (b - a) 0 s.start decided)

  -- such a verdict comes exactly where a step decides it, which is where P holds of the box that the step begins on
  module _ (v : Verdict) (other : v ≡ Verdict.Spent → ◌≡◌ {A = ℕ} 0 1) (P : List Interval → Type 0)
      (exactly : (t : ℕ) (x : List Interval) → Begins (run_with s) t x → (what x ≡ move_by v) ↔ P x) (a : ℕ) where
    pub reached-answer : (r : Reaches (run_with s) a P) → run_with s a ≡ outcome v (r.t + 1) (box_on r.x (move_by v))
    reached-answer r = answer-stays (omega (arith, r.within)) (verdict-of told) other ∙ told
      where
        told : run_with s (r.t + 1) ≡ outcome v (r.t + 1) (box_on r.x (move_by v))
        told =
            run_on s.n s.equations s.inverse r.t 1 0 s.start r.begins
            ∙ rw ((exactly r.t r.x r.begins).1 r.holds, verdict-move v) at (one r.t r.x)

    pub reached-exactly : ((run_with s a).verdict ≡ v) ↔ Reaches (run_with s) a P
    reached-exactly = (only, λ r. verdict-of (reached-answer r))
      where
        only : (run_with s a).verdict ≡ v → Reaches (run_with s) a P
        only says =
            let decided : (run_with s a).verdict ≡ Verdict.Spent → ⊥ = λ spent. zero_one (other (sym says ∙ spent)) in
            let d = deciding s.n s.equations s.inverse a s.start decided in
            let verdict = sym (verdict-of (d.answer ∙ one d.t d.x)) ∙ says in
            let move = sym (move-verdict (what d.x)) ∙ ap move_by verdict in
            record {
              t = d.t;
              x = d.x;
              within = d.within;
              begins = d.begins;
              holds = (exactly d.t d.x d.begins).0 move;
            }

  abbrev E : List Interval → Type 0
  E = EmptyOn s.n s.equations s.inverse

  abbrev S : List Interval → Type 0
  S = StrictlyOn s.n s.equations s.inverse

  abbrev U : List Interval → Type 0
  U = UnchangedOn s.n s.equations s.inverse

  pub none-reached : (a : ℕ) → ((run_with s a).verdict ≡ Verdict.None) ↔ Reaches (run_with s) a E
  none-reached = reached-exactly Verdict.None (λ spent. cc) E (λ t x b. step-none x)

  pub none-answer : (a : ℕ) (r : Reaches (run_with s) a E) → run_with s a ≡ outcome Verdict.None (r.t + 1) r.x
  none-answer = reached-answer Verdict.None (λ spent. cc) E (λ t x b. step-none x)

  pub unique-reached : (a : ℕ) → ((run_with s a).verdict ≡ Verdict.Unique) ↔ Reaches (run_with s) a S
  unique-reached = reached-exactly Verdict.Unique (λ spent. cc) S (λ t x b. step-unique b)

  pub unique-answer : (a : ℕ) (r : Reaches (run_with s) a S)
      → run_with s a ≡ outcome Verdict.Unique (r.t + 1) (image_box s.n s.equations s.inverse r.x)
  unique-answer = reached-answer Verdict.Unique (λ spent. cc) S (λ t x b. step-unique b)

  pub spent-begins : (a : ℕ) → (run_with s a).verdict ≡ Verdict.Spent → Begins (run_with s) a (run_with s a).sides
  spent-begins a = whole-spent s.n s.equations s.inverse a s.start

  module _ (some : 1 ≤ s.n) where
    pub stalled-reached : (a : ℕ) → ((run_with s a).verdict ≡ Verdict.Stalled) ↔ Reaches (run_with s) a U
    stalled-reached = reached-exactly Verdict.Stalled (λ spent. cc) U (λ t x b. step-stalled some b)

    pub stalled-answer : (a : ℕ) (r : Reaches (run_with s) a U) → run_with s a ≡ outcome Verdict.Stalled (r.t + 1) r.x
    stalled-answer = reached-answer Verdict.Stalled (λ spent. cc) U (λ t x b. step-stalled some b)

    pub spent-reached : (a : ℕ) → ((run_with s a).verdict ≡ Verdict.Spent)
        ↔ ((Reaches (run_with s) a E → ⊥) × ((Reaches (run_with s) a S → ⊥) × (Reaches (run_with s) a U → ⊥)))
    spent-reached a = (only, by (run_with s a).verdict refl)
      where
        only : (run_with s a).verdict ≡ Verdict.Spent
            → (Reaches (run_with s) a E → ⊥) × ((Reaches (run_with s) a S → ⊥) × (Reaches (run_with s) a U → ⊥))
        only spent = (
          λ r. zero_one (cc ((none-reached a).1 r)),
          (λ r. zero_one (cc ((unique-reached a).1 r)), λ r. zero_one (cc ((stalled-reached a).1 r))),
        )

        by : (v : Verdict) → (run_with s a).verdict ≡ v
            → (Reaches (run_with s) a E → ⊥) × ((Reaches (run_with s) a S → ⊥) × (Reaches (run_with s) a U → ⊥))
            → (run_with s a).verdict ≡ Verdict.Spent
        by Verdict.None e h = absurd (h.0 ((none-reached a).0 e))
        by Verdict.Unique e h = absurd (h.1.0 ((unique-reached a).0 e))
        by Verdict.Stalled e h = absurd (h.1.1 ((stalled-reached a).0 e))
        by Verdict.Spent e h = e
