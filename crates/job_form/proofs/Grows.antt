-- A line of a job text that is read is the line that is shown for what it leaves.
use Prim.Native.Nat.{ℕ, zero, suc, ◌+◌, ◌≤◌, ◌<◌}
use native.Mathlib.Omega.{arith}
use mathlib.Core.Path.{◌≡◌, refl, sym, ap, ap₂, subst, ◌∙◌}
use mathlib.Core.List.{List, [], ◌∷◌, ◌++◌, map-append, append_assoc, append-nil}
use mathlib.Core.Bool.{false}
use Rattle.sizes.specs.Sizes.{n_max}
use Rattle.faults.specs.declared.Fault.{Fault}
use Rattle.jobs.specs.Parts.{with_number, with_kind, with_hi, with_inverse, with_steps, with_system}
use Rattle.checks.specs.Checks.{system_check, line_check}
use Rattle.jobs.specs.declared.Body.{Body}
use Rattle.jobs.specs.declared.Job.{Job}
use Rattle.jobs.specs.declared.JobLine.{JobLine}
use Rattle.reading.specs.Results.{Told}
use Rattle.reading.specs.Shows.{lines_of, before, Passed, Kept}
use Rattle.reading.proofs.Told.{told-fault, told-after}
use Rattle.reading.proofs.Trips.{Grown, line_same}
use Rattle.reading.proofs.Walk.{passed-join, passed-next, passed-front, passed-rest}
use Rattle.lines.proofs.Was.{LineWas, number-told, steps-told, kind-was}
use Rattle.lines.proofs.Unknowns.{unknowns-told}
use Rattle.lines.proofs.Told.{low_told, high-told, inverse-told}
use Rattle.job_form.specs.JobForm.{after_system, job_says, job_end}
use Rattle.job_form.specs.JobBytes.{system_text, box_kinds, system_kinds, job_prior, shown_check, job_shows}
use Rattle.job_form.specs.Live.{live_system, upto_system, job_upto}
use Rattle.job_form.proofs.Order.{kinds-next, passed-each, each-passed, after-prior}
use Rattle.job_form.proofs.System.{Said, said_text, said_check, said_live, said_put, text-is, check-is}
use Rattle.job_form.proofs.System.{says_is, said-told, at_other, at_same, system-put}
use Rattle.job_form.proofs.Reached.{Sized, Has}
use Rattle.job_form.proofs.Lows.{Alike, alike-lines, alike-passed}
use Rattle.job_form.proofs.Lows.{low_alike, high-alike, inverse-alike, box-alike}
use Rattle.job_form.proofs.FourthRead.{unknowns-grown, fourth-grows, low-grown}
use Rattle.job_form.proofs.Back.{after-upto, after-has, upto-none}
use Rattle.std.specs.Prelude.{Ok}

-- ---- a line of the system

module _ (v : Job) (i : ℕ) (l : List ℕ) (size : Sized v) (live : i < v.head.n)
    (p : Kept job_shows (JobLine.System i) v) (x : Said v.head.kind) where
  s : Body
  s = said_put v.head.kind v.system i x

  put : Job
  put = with_system v s

  room : i < n_max
  room = omega (arith, size.1)

  only : live_system v.head.kind v.head.n i v.system ≡ v.system
  only = ap (λ (j : Job). j.system) p.only

  -- ---- the lines before stay

  text-stays : (m : ℕ) → m < i → system_text v.head.kind put m ≡ system_text v.head.kind v m
  unfolding put s
  text-stays m h =
      text-is v.head.kind put m
      ∙ ap (said_text v.head.kind v.head.n) (at_other v.head.n i room v.head.kind v.system x m h)
      ∙ sym (text-is v.head.kind v m)

  check-stays : (m : ℕ) → m < i → system_check v.head.kind put m ≡ system_check v.head.kind v m
  unfolding put s
  check-stays m h =
      check-is v.head.kind put m
      ∙ ap (said_check v.head.kind v.head.n) (at_other v.head.n i room v.head.kind v.system x m h)
      ∙ sym (check-is v.head.kind v m)

  lines_stay : (m : ℕ) → m ≤ i → lines_of job_shows put (system_kinds m) ≡ lines_of job_shows v (system_kinds m)
  unfolding system_kinds put
  lines_stay zero h = refl
  lines_stay (suc m) h =
      map-append _ (system_kinds m) (JobLine.System m ∷ [])
      ∙ ap₂ (λ (ls : List (List ℕ)) (y : List ℕ). ls ++ (y ∷ [])) (lines_stay m (omega arith)) (text-stays m h)
      ∙ sym (map-append _ (system_kinds m) (JobLine.System m ∷ []))

  same-box : Alike v put (box_kinds v) (box_kinds put)
  unfolding put
  same-box = box-alike v put refl refl refl refl refl

  system-alike : Alike v put (box_kinds v ++ system_kinds i) (box_kinds put ++ system_kinds i)
  unfolding put
  system-alike = record {
    lines = map-append (λ k. job_shows.line k put) (box_kinds put) (system_kinds i)
        ∙ ap₂ (λ (a b : List (List ℕ)). a ++ b) same-box.lines (lines_stay i (omega arith))
        ∙ sym (map-append (λ k. job_shows.line k v) (box_kinds v) (system_kinds i));
    passed = λ q. passed-join job_shows put (box_kinds put) (system_kinds i)
        (same-box.passed (passed-front job_shows v (box_kinds v) (system_kinds i) q))
        (each-passed put i (λ m h. check-stays m h
        ∙ passed-each v i (passed-rest job_shows v (box_kinds v) (system_kinds i) q) m h));
  }

  -- its line comes after these
  prior-put : job_prior (after_system i v.head.n) put ≡ (box_kinds put ++ system_kinds i) ++ (JobLine.System i ∷ [])
  unfolding put
  prior-put =
      after-prior i put live
      ∙ ap (λ (ks : List JobLine). box_kinds put ++ ks) (kinds-next i)
      ∙ sym (append_assoc (box_kinds put) (system_kinds i) (JobLine.System i ∷ []))

  -- ---- what the line leaves

  module _ (e : LineWas (said_text v.head.kind v.head.n) (said_check v.head.kind v.head.n)
      (said_live v.head.kind v.head.n) l x) where
    text-put : system_text v.head.kind put i ≡ l
    unfolding put s
    text-put =
        text-is v.head.kind put i
        ∙ ap (said_text v.head.kind v.head.n) (at_same v.head.n i room v.head.kind v.system x only)
        ∙ e.shown

    check-put : system_check v.head.kind put i ≡ Ok tt
    unfolding put s
    check-put =
        check-is v.head.kind put i
        ∙ ap (said_check v.head.kind v.head.n) (at_same v.head.n i room v.head.kind v.system x only)
        ∙ e.fine

    lines-put : before job_shows (after_system i v.head.n) put ≡ before job_shows (JobLine.System i) v ++ (l ∷ [])
    unfolding put
    lines-put =
        ap (lines_of job_shows put) prior-put ∙ alike-lines v put system-alike (JobLine.System i) text-put

    passed-put : Passed job_shows (job_prior (after_system i v.head.n) put) put
    unfolding put shown_check line_check
    passed-put = rw prior-put (alike-passed v put system-alike (JobLine.System i) p.passed check-put)

    only-put : upto_system (i + 1) put ≡ put
    unfolding put s
    only-put =
        ap (with_system (with_steps (job_upto JobLine.Steps v) v.steps))
        (system-put v.head.n i room v.head.kind v.system x only e.whole)
        ∙ ap (λ (j : Job). with_system j s) p.only

    put-grown : Grown job_shows Has (JobLine.System i) v l (record { kind = after_system i v.head.n; value = put })
    unfolding put
    put-grown = record {
      lines = lines-put;
      kept = record {
        passed = passed-put;
        only = sym (after-upto i put live) ∙ only-put;
      };
      has = after-has i put size live;
    }

system-grows : (v : Job) (i : ℕ) (l : List ℕ) → Kept job_shows (JobLine.System i) v → Has v (JobLine.System i)
    → Told (Grown job_shows Has (JobLine.System i) v l) (job_says (JobLine.System i) v l)
unfolding job_says put s
system-grows v i l p h =
    rw (says_is v.head.kind v i l)
    (told-after _ _ (said-told v.head.kind v.head.n h.0.0 h.0.1 l)
    (λ x e. put-grown v i l h.0 h.1 p x e))

-- ---- each line

pub grows : (k : JobLine) (v : Job) (l : List ℕ) → job_end k ≡ false → Kept job_shows k v → Has v k
    → Told (Grown job_shows Has k v l) (job_says k v l)
unfolding job_says shown_check line_check system_kinds
grows JobLine.Number v l o p h =
    told-after _ _ (number-told l) (λ m e. record {
      lines = line_same job_shows JobLine.Number v e.shown;
      kept = record { passed = (e.fine, tt); only = ap (λ (u : Job). with_number u m) p.only };
      has = tt;
    })
grows JobLine.Kind v l o p h =
    told-after _ _ (kind-was l) (λ k e. record {
      lines = line_same job_shows JobLine.Kind v e.shown;
      kept = record {
        passed = passed-next job_shows (with_kind v k) JobLine.Kind p.passed e.fine;
        only = ap (λ (u : Job). with_kind u k) p.only;
      };
      has = tt;
    })
grows JobLine.Unknowns v l o p h =
    told-after _ _ (unknowns-told l) (λ n e. unknowns-grown v l p n e)
grows JobLine.Pin v l o p h = fourth-grows v l h.0 h.1 p
grows JobLine.Lo v l o p h =
    told-after _ _ (low_told v.head.n h.0.0 h.0.1 l) (λ xs e. low-grown v l h.0 xs e p h.1)
grows JobLine.Hi v l o p h =
    told-after _ _ (high-told v.head.n h.0 h.1 l v.ends.lo) (λ xs e.
    let u = with_hi v xs in
    let a = low_alike v u refl refl in
    record {
      lines = alike-lines v u a JobLine.Hi e.shown;
      kept = record {
        passed = alike-passed v u a JobLine.Hi p.passed e.fine;
        only = ap₂ with_hi p.only e.whole;
      };
      has = h;
    })
grows JobLine.Inv v l o p h =
    told-after _ _ (inverse-told v.head.n h.0 h.1 l) (λ rows e.
    let u = with_inverse v rows in
    let a = high-alike v u refl refl refl in
    record {
      lines = alike-lines v u a JobLine.Inv e.shown;
      kept = record {
        passed = alike-passed v u a JobLine.Inv p.passed e.fine;
        only = ap₂ with_inverse p.only e.whole;
      };
      has = h;
    })
grows JobLine.Steps v l o p h =
    told-after _ _ (steps-told l) (λ m e.
    let u = with_steps v m in
    let a = inverse-alike v u refl refl refl refl in
    record {
      lines = ap (lines_of job_shows u) (append-nil (box_kinds u)) ∙ alike-lines v u a JobLine.Steps e.shown;
      kept = record {
        passed = subst (λ (ks : List JobLine). Passed job_shows ks u) (sym (append-nil (box_kinds u)))
            (alike-passed v u a JobLine.Steps p.passed e.fine);
        only = upto-none u ∙ ap (λ (j : Job). with_steps j m) p.only;
      };
      has = (h, h.0);
    })
grows (JobLine.System i) v l o p h = system-grows v i l p h
grows JobLine.End v l o p h = told-fault Fault.Spelling
