-- Runs of steps: what their definition says of one step and of several, that boxes only shrink, that a decided answer
-- stays, and that no zero is lost.
use mathlib.Core.Path.{◌≡◌, refl, sym, ap, ◌∙◌}
use mathlib.Core.Bool.{Bool, true, false}
use mathlib.Core.List.{List}
use mathlib.Core.Logic.{◌⊎◌, inl, inr, ⊎_elim}
use Prim.Native.Nat.{ℕ, zero, suc, ◌+◌, ◌-◌, ◌≤◌, ◌<◌}
use native.Mathlib.Nat.{zero-add, suc-add}
use native.Mathlib.Numerals.{add-one}
use native.Mathlib.Omega.{arith}
use lib.IntN.{ℤ, pos}
use lib.ListN.{length}
use Rattle.sizes.specs.Sizes.{n_max}
use Rattle.integers.proofs.Parts.{zorder}
use Rattle.lists.proofs.Tab.{length-tab}
use Rattle.intervals.specs.declared.Interval.{Interval}
use Rattle.intervals.specs.Interval.{zero_i}
use Rattle.intervals.specs.Places.{side_at}
use Rattle.intervals.proofs.Hold.{hold-order}
use Rattle.intervals.proofs.Meeting.{hold-cut}
use Rattle.intervals.proofs.Inclusion.{inside-trans}
use Rattle.jobs.specs.declared.Equation.{Equation}
use Rattle.jobs.specs.declared.Verdict.{Verdict}
use Rattle.slopes.specs.Fractions.{InBox, DegreesIn, equation_num}
use Rattle.step.specs.Step.{image_of, image_box}
use Rattle.step.specs.Newton.{newton_den, newton_num}
use Rattle.step.specs.Decide.{all_meet, cut_box, decide_of, step_of}
use Rattle.step.specs.Meanings.{Strictly}
use Rattle.step.specs.Values.{box_of, ends_of}
use Rattle.step.proofs.Given.{box-back}
use Rattle.step.proofs.Hold.{middle-in, image_holds, image-keeps, image-at}
use Rattle.step.proofs.Decisions.{zero_one, Decided, none, unique, stalled, next}
use Rattle.step.proofs.Decisions.{decided, all_meet_lem, cut_at, cut_inside, cut-ordered, step_is}
use Rattle.run.specs.declared.Outcome.{Outcome}
use Rattle.run.specs.Run.{outcome, settle, run_of}
use Rattle.runs.specs.Boxes.{Ordered, BoxInside}

false-true : {b : Bool} → b ≡ false → b ≡ true → ⊥
false-true e h = zero_one (cc)

pub spent-or : (v : Verdict) → (v ≡ Verdict.Spent) ⊎ (v ≡ Verdict.Spent → ⊥)
spent-or Verdict.Spent = inl refl
spent-or Verdict.None = inr (λ e. zero_one (cc))
spent-or Verdict.Unique = inr (λ e. zero_one (cc))
spent-or Verdict.Stalled = inr (λ e. zero_one (cc))

pub verdict-of : {o p : Outcome} → o ≡ p → o.verdict ≡ p.verdict
verdict-of = ap (λ (o : Outcome). o.verdict)

-- ---- boxes in boxes
box-same : {n : ℕ} (x : List Interval) → BoxInside n x x
box-same x = record { each = λ k l. record { low = omega zorder; high = omega zorder } }

box-trans : {n : ℕ} {x y z : List Interval} → BoxInside n x y → BoxInside n y z → BoxInside n x z
box-trans h g = record { each = λ k l. inside-trans (h.each k l) (g.each k l) }

-- what a larger allowance has more
pub more : {a b : ℕ} → a ≤ b → b ≡ a + (b - a)
more l = omega arith

module _ (n : ℕ) (q : ℕ → Equation) (C : ℕ → ℕ → ℤ) where
  abbrev K : List Interval → List Interval
  K x = image_box n q C x

  abbrev cut : List Interval → List Interval
  cut x = cut_box n x (K x)

  run_none : (done : ℕ) (x : List Interval) → run_of n q C 0 done x ≡ outcome Verdict.Spent done x
  unfolding run_of
  run_none done x = refl

  -- a run that may begin a step, by what the step on x decides: a claim Z about it, for any number of further steps
  by-step : (x : List Interval) (done : ℕ) (Z : (ℕ → Outcome) → Type 0)
      → (all_meet n x (K x) ≡ false → Z (λ a. outcome Verdict.None (done + 1) x))
      → (Strictly n (side_at x) (side_at (K x)) → Z (λ a. outcome Verdict.Unique (done + 1) (K x)))
      → Z (λ a. outcome Verdict.Stalled (done + 1) x)
      → (all_meet n x (K x) ≡ true → Z (λ a. run_of n q C a (done + 1) (cut x)))
      → Z (λ a. run_of n q C (suc a) done x)
  unfolding run_of
  by-step x done Z on_none on_unique on_stalled on_next = rw (step_is n q C x) (by (decided n x (K x)))
    where
      by : Decided n x (K x)
          → Z (λ a. settle (decide_of n x (K x)).what (decide_of n x (K x)).sides (done + 1)
          (run_of n q C a (done + 1)))
      by (none e m) = rw e (on_none m)
      by (unique e s) = rw e (on_unique s)
      by (stalled e s) = rw e on_stalled
      by (next e m) = rw e (on_next m)

  -- what holds of a box, of every image and of every cut, holds of the box that is left
  sides-keep : (P : List Interval → Type 0) → ((y : List Interval) → P (K y)) → ((y : List Interval) → P (cut y))
      → (a done : ℕ) (x : List Interval) → P x → P (run_of n q C a done x).sides
  sides-keep P image left zero done x e = rw run_none e
  sides-keep P image left (suc a) done x e =
      by-step x done (λ f. P (f a).sides) (λ m. e) (λ s. image x) e
      (λ m. sides-keep P image left a (done + 1) (cut x) (left x))

  -- the code's array keeps its length
  pub run_length : (a done : ℕ) (x : List Interval) → length x ≡ n_max → length (run_of n q C a done x).sides ≡ n_max
  unfolding image_box cut_box
  run_length = sides-keep (λ y. length y ≡ n_max) (λ y. length-tab zero_i n_max n _) (λ y. length-tab zero_i n_max n _)

  -- and zeros past n: a box goes into its ends and comes back
  pub run-back : n ≤ n_max → (a done : ℕ) (x : List Interval) → box_of n (ends_of n x) ≡ x
      → box_of n (ends_of n (run_of n q C a done x).sides) ≡ (run_of n q C a done x).sides
  unfolding image_box cut_box
  run-back few =
      sides-keep (λ y. box_of n (ends_of n y) ≡ y) (λ y. box-back n few _ refl) (λ y. box-back n few _ refl)

  -- ---- several steps
  pub run-one : (t : ℕ) (x : List Interval) → run_of n q C 1 t x
      ≡ settle (step_of n q C x).what (step_of n q C x).sides (t + 1) (outcome Verdict.Spent (t + 1))
  unfolding run_of
  run-one t x = refl

  -- an undecided run has begun every step that it may
  run-spent : (a done : ℕ) (x : List Interval) → (run_of n q C a done x).verdict ≡ Verdict.Spent
      → run_of n q C a done x ≡ outcome Verdict.Spent (done + a) (run_of n q C a done x).sides
  run-spent zero done x e = rw run_none (ap (λ (t : ℕ). outcome Verdict.Spent t x) (omega arith))
  run-spent (suc a) done x e =
      by-step x done (λ f. (f a).verdict ≡ Verdict.Spent → f a ≡ outcome Verdict.Spent (done + suc a) (f a).sides)
      (λ m e. absurd (zero_one (cc))) (λ s e. absurd (zero_one (cc))) (λ e. absurd (zero_one (cc)))
      (λ m e. run-spent a (done + 1) (cut x) e
      ∙ ap (λ (t : ℕ). outcome Verdict.Spent t (run_of n q C a (done + 1) (cut x)).sides) (omega arith)) e

  pub whole-spent : (a : ℕ) (x : List Interval) → (run_of n q C a 0 x).verdict ≡ Verdict.Spent
      → run_of n q C a 0 x ≡ outcome Verdict.Spent a (run_of n q C a 0 x).sides
  whole-spent a x e = rw zero-add at (run-spent a 0 x e)

  pub run-count : (a done : ℕ) (x : List Interval) → (run_of n q C a done x).steps ≤ done + a
  run-count zero done x = rw run_none (omega arith)
  run-count (suc a) done x =
      by-step x done (λ f. (f a).steps ≤ done + suc a) (λ m. omega arith) (λ s. omega arith) (omega arith)
      (λ m. omega (arith, run-count a (done + 1) (cut x)))

  -- what it leaves, a longer run takes up
  pub run_on : (a b done : ℕ) (x : List Interval) {t : ℕ} {y : List Interval}
      → run_of n q C a done x ≡ outcome Verdict.Spent t y
      → run_of n q C (a + b) done x ≡ run_of n q C b t y
  run_on zero b done x {t} {y} e =
      let s : outcome Verdict.Spent done x ≡ outcome Verdict.Spent t y = sym (run_none done x) ∙ e in
      rw (zero-add b, ap (λ (o : Outcome). o.steps) s, ap (λ (o : Outcome). o.sides) s)
  run_on (suc a) b done x {t} {y} e =
      rw (suc-add a b)
      (by-step x done (λ f. f a ≡ outcome Verdict.Spent t y → f (a + b) ≡ run_of n q C b t y)
      (λ m e. absurd (zero_one (cc (verdict-of e)))) (λ s e. absurd (zero_one (cc (verdict-of e))))
      (λ e. absurd (zero_one (cc (verdict-of e))))
      (λ m. run_on a b (done + 1) (cut x)) e)

  -- a decided answer stays, with box and count
  pub run-stays : (a b done : ℕ) (x : List Interval) → ((run_of n q C a done x).verdict ≡ Verdict.Spent → ⊥)
      → run_of n q C (a + b) done x ≡ run_of n q C a done x
  run-stays zero b done x h = absurd (h (verdict-of (run_none done x)))
  run-stays (suc a) b done x h =
      rw (suc-add a b)
      (by-step x done (λ f. ((f a).verdict ≡ Verdict.Spent → ⊥) → f (a + b) ≡ f a) (λ m h. refl)
      (λ s h. refl) (λ h. refl)
      (λ m. run-stays a b (done + 1) (cut x)) h)

  -- ---- the step that decides
  -- it begins on the box x, after t steps that decided nothing
  pub record Deciding (start : List Interval) (a : ℕ) : Type 0 where
    pub t : ℕ
    pub x : List Interval
    pub within : t < a
    pub begins : run_of n q C t 0 start ≡ outcome Verdict.Spent t x
    pub answer : run_of n q C a 0 start ≡ run_of n q C 1 t x

  pub deciding : (a : ℕ) (start : List Interval) → ((run_of n q C a 0 start).verdict ≡ Verdict.Spent → ⊥)
      → Deciding start a
  deciding zero start h = absurd (h (verdict-of (run_none 0 start)))
  deciding (suc a) start h =
      ⊎_elim here (λ decided. later decided (deciding a start decided)) (spent-or (run_of n q C a 0 start).verdict)
    where
      here : (run_of n q C a 0 start).verdict ≡ Verdict.Spent → Deciding start (suc a)
      here v =
          let begins = whole-spent a start v in
          record {
            t = a;
            x = (run_of n q C a 0 start).sides;
            within = omega arith;
            begins = begins;
            answer = rw (← add-one a) (run_on a 1 0 start begins);
          }

      later : ((run_of n q C a 0 start).verdict ≡ Verdict.Spent → ⊥) → Deciding start a → Deciding start (suc a)
      later decided d = record {
        t = d.t;
        x = d.x;
        within = omega (arith, d.within);
        begins = d.begins;
        answer = rw (← add-one a) (run-stays a 1 0 start decided ∙ d.answer);
      }

  module _ (room : n ≤ n_max) where
    -- ---- boxes only shrink
    image-inside : (x : List Interval) → Strictly n (side_at x) (side_at (K x)) → BoxInside n (K x) x
    image-inside x s =
        record { each = λ i l. record { low = omega (zorder, (s i l).0); high = omega (zorder, (s i l).1) } }

    pub run-shrinks : (a done : ℕ) (x : List Interval) → BoxInside n (run_of n q C a done x).sides x
    run-shrinks zero done x = rw run_none (box-same x)
    run-shrinks (suc a) done x =
        by-step x done (λ f. BoxInside n (f a).sides x) (λ m. box-same x) (image-inside x) (box-same x)
        (λ m. box-trans (run-shrinks a (done + 1) (cut x)) (record { each = cut_inside n x (K x) room }))

    pub run-nested : (a b done : ℕ) (x : List Interval)
        → BoxInside n (run_of n q C (a + b) done x).sides (run_of n q C a done x).sides
    run-nested zero b done x = rw (zero-add b, run_none done x) (run-shrinks b done x)
    run-nested (suc a) b done x =
        rw (suc-add a b)
        (by-step x done (λ f. BoxInside n (f (a + b)).sides (f a).sides) (λ m. box-same x)
        (λ s. box-same (K x)) (box-same x)
        (λ m. run-nested a b (done + 1) (cut x)))

    module _ (degrees : (k : ℕ) → k < n → DegreesIn n (q k)) where
      -- what lies in the image, place by place, lies in it as a box
      in-box : (x : List Interval) {P : ℕ → ℤ} {d : ℤ} → InBox n P d (image_of n q C (side_at x))
          → InBox n P d (side_at (K x))
      in-box x h = record { den = h.den; each = λ i l. rw (image-at n room q C x i l) (h.each i l) }

      pub image-box : (x : List Interval) {P : ℕ → ℤ} {d : ℤ} → InBox n P d (side_at x)
          → InBox n (newton_num n q C P d) (newton_den d) (side_at (K x))
      image-box x h = in-box x (image_holds n q C (side_at x) degrees h)

      -- ---- the ends of every box stand in order
      pub image-ordered : (x : List Interval) → Ordered n (side_at x) → Ordered n (side_at (K x))
      image-ordered x o i l = hold-order ((image-box x (middle-in n (side_at x) {d = pos 1} (omega zorder) o)).each i l)

      pub run-ordered : (a done : ℕ) (x : List Interval) → Ordered n (side_at x)
          → Ordered n (side_at (run_of n q C a done x).sides)
      run-ordered zero done x o = rw run_none o
      run-ordered (suc a) done x o =
          by-step x done (λ f. Ordered n (side_at (f a).sides)) (λ m. o) (λ s. image-ordered x o) o
          (λ m. run-ordered a (done + 1) (cut x)
          (λ i l. cut-ordered n x (K x) room m i l (o i l) (image-ordered x o i l)))

      -- ---- no zero is lost
      module _ {P : ℕ → ℤ} {d : ℤ} (zeros : (k : ℕ) → k < n → equation_num n (q k) P d ≡ pos 0) where
        image-zero : (x : List Interval) → InBox n P d (side_at x) → InBox n P d (side_at (K x))
        image-zero x h = in-box x (image-keeps n q C (side_at x) degrees h zeros)

        cut-zero : (x : List Interval) → InBox n P d (side_at x) → InBox n P d (side_at (cut x))
        cut-zero x h = record {
          den = h.den;
          each = λ i l. rw (cut_at n x (K x) room i l) (hold-cut (h.each i l) ((image-zero x h).each i l));
        }

        -- it stays in the box, and the verdict is not none
        pub run-keeps : (a done : ℕ) (x : List Interval) → InBox n P d (side_at x)
            → InBox n P d (side_at (run_of n q C a done x).sides) × ((run_of n q C a done x).verdict ≡ Verdict.None → ⊥)
        run-keeps zero done x h = rw run_none (h, λ e. zero_one (cc))
        run-keeps (suc a) done x h =
            by-step x done (λ f. InBox n P d (side_at (f a).sides) × ((f a).verdict ≡ Verdict.None → ⊥))
            (λ m. absurd (false-true m (all_meet_lem n x (K x) P h.each (image-zero x h).each)))
            (λ s. (image-zero x h, λ e. zero_one (cc))) (h, λ e. zero_one (cc))
            (λ m. run-keeps a (done + 1) (cut x) (cut-zero x h))
