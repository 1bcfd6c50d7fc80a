-- "Values handed over without text get the same checks in the same line order": what the checks of a job's lines find,
-- one after another, is what `check_job` finds.
use Prim.Native.Nat.{ℕ, zero, suc, ◌+◌}
use mathlib.Core.Path.{◌≡◌, refl, sym, ap, ◌∙◌}
use mathlib.Core.List.{List, [], ◌∷◌, ◌++◌, append-nil}
use mathlib.Core.Bool.{Bool, true, false, cond}
use Rattle.faults.specs.Checked.{Status, Finding, status_of}
use Rattle.faults.specs.Checks.{first_of, and_then}
use Rattle.faults.specs.Checks as checks
use Rattle.faults.proofs.Laws.{then-assoc, fine-skips, line_first}
use Rattle.checks.specs.Checks.{line_check, job_line_status, head_lines, system_lines, body_lines, check_job}
use Rattle.checks.specs.Accepted.{Accepted}
use Rattle.checks.proofs.AcceptedLaws.{check_done}
use Rattle.jobs.specs.declared.Kind.{Kind}
use Rattle.jobs.specs.declared.Head.{Head}
use Rattle.jobs.specs.declared.Job.{Job}
use Rattle.jobs.specs.declared.JobLine.{JobLine}
use Rattle.jobs.specs.Lines.{pin_stands, pin_lines, after_n, job_number}
use Rattle.reading.specs.Shows.{Passed, findings, judged}
use Rattle.reading.proofs.Walk.{passed-done}
use Rattle.lines.specs.Answered.{answered}
use Rattle.lines.proofs.Answered.{status-then}
use Rattle.job_form.specs.JobForm.{job_form_of}
use Rattle.job_form.specs.JobBytes.{system_kinds, pin_written, job_prior, shown_check, job_shows}
use Rattle.job_form.specs.Live.{live_pin, job_upto}
use Rattle.job_form.proofs.Order.{kinds-rest, Shape, shape}
use Rattle.job_form.proofs.Fourth.{first_alone}
use Rattle.job_form.proofs.Lows.{plain-pin}
use Rattle.std.specs.Prelude.{Ok, Err}

then-done : (s : Status) → and_then s (Ok tt) ≡ s
unfolding and_then
then-done (Ok tt) = refl
then-done (Err r) = refl

-- a line's number, from what is read by then and from the whole
live-stands : (k : Kind) (n pin : ℕ) → pin_stands k n (live_pin k pin) ≡ pin_stands k n pin
live-stands Kind.Poly n pin = refl
live-stands Kind.Linear n pin = refl
live-stands Kind.Eigen n pin = refl

live-lines : (h : Head)
    → pin_lines (record { number = h.number; kind = h.kind; n = h.n; pin = live_pin h.kind h.pin }) ≡ pin_lines h
unfolding pin_lines
live-lines h = ap (λ (b : Bool). cond b 1 0) (live-stands h.kind h.n h.pin)

number-upto : (k : JobLine) (j : Job) → job_number k (job_upto k j).head ≡ job_number k j.head
number-upto JobLine.Number j = refl
number-upto JobLine.Kind j = refl
number-upto JobLine.Unknowns j = refl
number-upto JobLine.Pin j = refl
number-upto JobLine.Lo j = ap (λ (p : ℕ). 4 + p) (live-lines j.head)
number-upto JobLine.Hi j = ap (λ (p : ℕ). 5 + p) (live-lines j.head)
number-upto JobLine.Inv j = ap (λ (p : ℕ). 6 + p) (live-lines j.head)
number-upto JobLine.Steps j = ap (λ (p : ℕ). 7 + p) (live-lines j.head)
number-upto (JobLine.System i) j = ap (λ (p : ℕ). 7 + p + 1 + i) (live-lines j.head)
number-upto JobLine.End j = ap (λ (p : ℕ). 7 + p + 1 + j.head.n) (live-lines j.head)

module _ (j : Job) where
  abbrev status_from : List JobLine → Status
  status_from ks = status_of (answered (findings job_form_of job_shows j ks))

  line-status : (k : JobLine) (ks : List JobLine) {s : Status} → status_from ks ≡ s
      → status_from (k ∷ ks) ≡ and_then (checks.on_line (shown_check k j) (job_number k j.head)) s
  unfolding findings
  line-status k ks {s} e =
      status-then (shown_check k j) _ _ _ e
      ∙ ap (λ (n : ℕ). and_then (checks.on_line (shown_check k j) n) s) (number-upto k j)

  -- the first m lines of the system
  abbrev system_to : ℕ → Status
  system_to m = checks.lines_of m (λ i. job_line_status (JobLine.System i) j)

  -- and what follows them
  system-status : (m : ℕ) (ks : List JobLine) (s : Status) → status_from ks ≡ s
      → status_from (system_kinds m ++ ks) ≡ and_then (system_to m) s
  unfolding system_kinds checks.lines_of and_then job_line_status shown_check
  system-status zero ks s e = e
  system-status (suc m) ks s e =
      let line = job_line_status (JobLine.System m) j in
      let one : status_from (JobLine.System m ∷ ks) ≡ and_then line s = line-status (JobLine.System m) ks e in
      ap status_from (kinds-rest m ks)
      ∙ system-status m (JobLine.System m ∷ ks) (and_then line s) one
      ∙ sym (then-assoc (system_to m) line s)

  none-status : status_from [] ≡ Ok tt
  unfolding findings
  none-status = refl

  -- from hi on
  abbrev high_lines : Status
  high_lines =
      and_then (job_line_status JobLine.Hi j)
      (and_then (job_line_status JobLine.Inv j) (and_then (job_line_status JobLine.Steps j) (system_lines j)))

  high-status : status_from (JobLine.Hi ∷ JobLine.Inv ∷ JobLine.Steps ∷ system_kinds j.head.n) ≡ high_lines
  unfolding system_lines job_line_status shown_check
  high-status =
      line-status JobLine.Hi _ (line-status JobLine.Inv _ (line-status JobLine.Steps _
      (ap status_from (sym (append-nil (system_kinds j.head.n)))
      ∙ system-status j.head.n [] (Ok tt) none-status
      ∙ then-done _)))

  -- from the line after n on: lo, lo in the pin's place, or the pin and lo
  abbrev from_fourth : List JobLine
  from_fourth =
      after_n j.head.kind ∷ ((((cond (pin_written j) (JobLine.Lo ∷ []) [] ++ (JobLine.Hi ∷ [])) ++ (JobLine.Inv ∷ []))
      ++ (JobLine.Steps ∷ [])) ++ system_kinds j.head.n)

  abbrev fourth_lines : Status
  fourth_lines = and_then (job_line_status JobLine.Pin j) (and_then (job_line_status JobLine.Lo j) high_lines)

  -- the check after n, and the number of lo
  shown-last : pin_written j ≡ false
      → shown_check JobLine.Pin j ≡ first_of (line_check JobLine.Pin j) (line_check JobLine.Lo j)
  unfolding shown_check
  shown-last b = rw b

  shown-pinned : pin_written j ≡ true → shown_check JobLine.Pin j ≡ line_check JobLine.Pin j
  unfolding shown_check
  shown-pinned b = rw b (sym (first_alone (line_check JobLine.Pin j)))

  low-fourth : pin_written j ≡ false → job_number JobLine.Lo j.head ≡ 4
  unfolding pin_lines
  low-fourth b = rw b

  -- lo in the pin's place: both checks under one number
  both-fourth : pin_written j ≡ false → checks.on_line (shown_check JobLine.Pin j) 4
      ≡ and_then (job_line_status JobLine.Pin j) (job_line_status JobLine.Lo j)
  unfolding job_line_status
  both-fourth b =
      ap (λ (f : Finding). checks.on_line f 4) (shown-last b)
      ∙ line_first (line_check JobLine.Pin j) (line_check JobLine.Lo j) 4
      ∙ ap (λ (n : ℕ). and_then (checks.on_line (line_check JobLine.Pin j) 4)
      (checks.on_line (line_check JobLine.Lo j) n))
      (sym (low-fourth b))

  no_pin : after_n j.head.kind ≡ JobLine.Lo → (s : Status) → and_then (job_line_status JobLine.Pin j) s ≡ s
  unfolding job_line_status line_check
  no_pin e s =
      ap (λ (f : Finding). and_then (checks.on_line f 4) s) (plain-pin j.head.kind j.head.n j.head.pin e)
      ∙ fine-skips 4 s

  abbrev from_high : List JobLine
  from_high = JobLine.Hi ∷ JobLine.Inv ∷ JobLine.Steps ∷ system_kinds j.head.n

  fourth-status : Shape j → status_from from_fourth ≡ fourth_lines
  unfolding job_line_status shown_check
  fourth-status (Shape.plain e b) =
      let kinds : from_fourth ≡ JobLine.Lo ∷ from_high = rw (e, b) in
      ap status_from kinds ∙ line-status JobLine.Lo _ high-status ∙ sym (no_pin e _)
  fourth-status (Shape.last e b) =
      let kinds : from_fourth ≡ JobLine.Pin ∷ from_high = rw (ap after_n e, b) in
      ap status_from kinds
      ∙ line-status JobLine.Pin _ high-status
      ∙ ap (λ (s : Status). and_then s high_lines) (both-fourth b)
      ∙ then-assoc _ _ _
  fourth-status (Shape.pinned e b) =
      let kinds : from_fourth ≡ JobLine.Pin ∷ JobLine.Lo ∷ from_high = rw (ap after_n e, b) in
      ap status_from kinds
      ∙ line-status JobLine.Pin _ (line-status JobLine.Lo _ high-status)
      ∙ ap (λ (f : Finding). and_then (checks.on_line f 4) (and_then (job_line_status JobLine.Lo j) high_lines))
      (shown-pinned b)

  pub judged-status : status_of (answered (judged job_form_of job_shows j)) ≡ check_job j
  unfolding check_job head_lines body_lines job_line_status shown_check
  judged-status =
      line-status JobLine.Number _
      (line-status JobLine.Kind _ (line-status JobLine.Unknowns _ (fourth-status (shape j))))
      ∙ ap (λ (s : Status). and_then (job_line_status JobLine.Number j) (and_then (job_line_status JobLine.Kind j) s))
      (sym (then-assoc _ _ _))
      ∙ ap (and_then (job_line_status JobLine.Number j)) (sym (then-assoc _ _ _))
      ∙ sym (then-assoc _ _ _)

  pub passed-accepted : Passed job_shows (job_prior JobLine.End j) j → Accepted j
  passed-accepted p =
      check_done j
      (sym judged-status
      ∙ ap (λ a. status_of (answered a)) (passed-done job_form_of job_shows j (job_prior JobLine.End j) p))
