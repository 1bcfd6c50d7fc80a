-- The lines of a system, one after another.
use Prim.Native.Nat.{ℕ, ◌+◌, ◌≤◌, ◌<◌}
use mathlib.Core.Path.{◌≡◌, refl, sym, ap, ◌∙◌, fun_ext}
use mathlib.Core.List.{List}
use mathlib.Core.Bool.{cond}
use lib.ListN.{length, set}
use lib.Dec.{ltb}
use lib.IntN.{ℤ}
use borrow.Author.Tests.{lt-ltb, le-ltb}
use Rattle.faults.specs.declared.Fault.{Fault}
use Rattle.faults.specs.declared.Refusal.{Refusal}
use Rattle.faults.specs.Checked.{Found, Checked}
use Rattle.faults.specs.Checks.{on_line}
use Rattle.jobs.specs.declared.Body.{Body}
use Rattle.jobs.specs.declared.Equation.{Equation}
use Rattle.jobs.specs.declared.Head.{Head}
use Rattle.jobs.specs.declared.Job.{Job}
use Rattle.jobs.specs.declared.JobLine.{JobLine}
use Rattle.jobs.specs.declared.Kind.{Kind}
use Rattle.jobs.specs.Lines.{job_number}
use Rattle.jobs.specs.Parts.{with_head, with_system}
use Rattle.jobs.specs.Zero.{zero_body, no_job}
use Rattle.reading.specs.Results.{after}
use Rattle.reading.proofs.Goes.{goes_none}
use Rattle.scan.specs.declared.At.{At}
use Rattle.lines.specs.declared.Sided.{Sided}
use Rattle.lines.specs.Lines.{equation_of, row_of, sided_of}
use Rattle.line_read.specs.At.{said, onward, line_from}
use Rattle.line_read.specs.States.{Leads}
use Rattle.line_read.proofs.Ways.{line-leads, leads-inside, leads-on, leads-stop}
use Rattle.job_form.specs.JobForm.{job_form_of, job_says, system_says, after_system}
use Rattle.job_read.specs.Parts.{holding, LineAdds, LineFrom, SystemFrom, SystemEnds}
use Rattle.std.specs.Prelude.{Ok, Err}

-- the kind of line i, where the system has n
abbrev system_from : ℕ → ℕ → JobLine
system_from i n = cond (ltb i n) (JobLine.System i) JobLine.End

-- ---- what one line adds

abbrev pub add_equation : ℕ → Body → Equation → Body
add_equation i b q = record { eqs = set b.eqs i q; rows = b.rows; right = b.right }

abbrev pub add_row : ℕ → Body → List ℤ → Body
add_row i b xs = record { eqs = b.eqs; rows = set b.rows i (record { at = xs }); right = b.right }

abbrev pub add_sided : ℕ → Body → Sided → Body
add_sided i b x =
    record { eqs = b.eqs; rows = set b.rows i (record { at = x.row }); right = set b.right i x.side }

-- a kind of system: what its line i says is added to what the lines before say
pub record Adds (head : Head) {A : Type 0} (f : List ℕ → Found A) (add : ℕ → Body → A → Body) : Type 0 where
  pub says : (i : ℕ) (j : Job) → j.head ≡ head
      → job_says (JobLine.System i) j
      ≡ (λ l. after (f l) (λ x. record { kind = after_system i head.n; value = with_system j (add i j.system x) }))

module _ (head : Head) where
  pub poly-adds : head.kind ≡ Kind.Poly → Adds head (equation_of head.n) add_equation
  unfolding job_says system_says
  poly-adds k = record {
    says = λ i j p.
        let kind = ap (λ (h : Head). h.kind) p ∙ k in
        let n = ap (λ (h : Head). h.n) p in
        fun_ext (λ l. rw (kind, n));
  }

  pub linear-adds : head.kind ≡ Kind.Linear → Adds head (sided_of head.n) add_sided
  unfolding job_says system_says
  linear-adds k = record {
    says = λ i j p.
        let kind = ap (λ (h : Head). h.kind) p ∙ k in
        let n = ap (λ (h : Head). h.n) p in
        fun_ext (λ l. rw (kind, n));
  }

  pub eigen-adds : head.kind ≡ Kind.Eigen → Adds head (row_of head.n) add_row
  unfolding job_says system_says
  eigen-adds k = record {
    says = λ i j p.
        let kind = ap (λ (h : Head). h.kind) p ∙ k in
        let n = ap (λ (h : Head). h.n) p in
        fun_ext (λ l. rw (kind, n));
  }

-- a line that adds to the system, as its function answers
module _ (t : List ℕ) (a : ℕ) (head : Head) {A : Type 0} {f : List ℕ → Found A} {add : ℕ → Body → A → Body}
    (adds : Adds head f add) (h : a ≤ length t)
  where
    line-adds : (i : ℕ) (j : Job) → j.head ≡ head → {r : Found (At A)} → r ≡ line_from (said f t a) (onward t a)
        → Leads job_form_of t a (JobLine.System i) j (on_line r (job_number (JobLine.System i) head))
        (λ x. after_system i head.n) (λ x. with_system j (add i j.system x))
    line-adds i j p e =
        line-leads job_form_of t (JobLine.System i) j a h refl f
        (λ x. record { kind = after_system i head.n; value = with_system j (add i j.system x) })
        (adds.says i j p) e (ap (job_number (JobLine.System i)) (sym p)) refl

    pub adds-ok : {y : At A} → Ok y ≡ line_from (said f t a) (onward t a) → (i : ℕ) (old : Body)
        → LineAdds t a head i old (add i old y.value) (Ok y.next)
    unfolding on_line
    adds-ok e i old = record { leads = λ j p. record { goes = (line-adds i (with_system j old) p e).goes } }

    pub adds-bad : {d : Fault} → Err d ≡ line_from (said f t a) (onward t a) → (i : ℕ) (old new : Body)
        → LineAdds t a head i old new (Err d)
    unfolding on_line
    adds-bad e i old new = record { leads = λ j p. record { goes = (line-adds i (with_system j old) p e).goes } }

    -- whatever it is that it adds
    pub from-ok : {y : At A} → Ok y ≡ line_from (said f t a) (onward t a) → LineFrom t a head (Ok y.next)
    from-ok {y} e = record { add = λ i b. add i b y.value; adds = adds-ok e }

    pub from-bad : {d : Fault} → Err d ≡ line_from (said f t a) (onward t a) → LineFrom t a head (Err d)
    from-bad e = record { add = λ i b. b; adds = λ i old. adds-bad e i old old }

-- ---- line after line

module _ (t : List ℕ) (from : ℕ) (head : Head) where
  -- i lines are read, they say `body`, and the next one begins at a
  pub record Walked (body : Body) (i a : ℕ) : Type 0 where
    pub inside : a ≤ length t
    pub leads : (j : Job) → j.head ≡ head → j.system ≡ zero_body
        → Leads job_form_of t from (JobLine.System 0) j (Ok (record { value = body; next = a }))
        (λ s. system_from i head.n) (with_system j)

  pub walked_none : 0 < head.n → from ≤ length t → Walked zero_body 0 from
  walked_none some h = record {
    inside = h;
    leads = λ j p z.
        let same : with_system j zero_body ≡ j = ap (with_system j) (sym z) in
        record {
          goes = rw (same, lt-ltb 0 head.n some) (goes_none job_form_of t from (JobLine.System 0) j h);
        };
  }

  -- one more line is read, after which the lines say `grown`
  module _ {body grown : Body} {i a : ℕ} (walked : Walked body i a) (more : i < head.n) {r : Found ℕ}
      (line : LineAdds t a head i body grown r)
    where
      line_on : {q : Checked ℕ} → q ≡ on_line r (job_number (JobLine.System i) head) → (j : Job) → j.head ≡ head
          → j.system ≡ zero_body
          → Leads job_form_of t from (JobLine.System 0) j (holding grown q) (λ s. system_from (i + 1) head.n)
          (with_system j)
      unfolding after_system
      line_on e j p z =
          rw e
          (leads-on job_form_of t (rw (lt-ltb i head.n more) at (walked.leads j p z)) (line.leads j p))

      pub walked_more : {b : ℕ} → Ok b ≡ on_line r (job_number (JobLine.System i) head) → Walked grown (i + 1) b
      walked_more e = record {
        inside = leads-inside job_form_of t (line_on e (with_head no_job head) refl refl);
        leads = line_on e;
      }

      pub walked-bad : {e : Refusal} → Err e ≡ on_line r (job_number (JobLine.System i) head)
          → SystemFrom t from head (Err e)
      walked-bad e = record { leads = λ j p z. leads-stop job_form_of t (line_on e j p z) }

  pub walked-done : {body : Body} {i a : ℕ} → Walked body i a → head.n ≤ i
      → SystemFrom t from head (Ok (record { value = body; next = a }))
  walked-done {body} {i} {a} w k =
      record { leads = λ j p z. record { goes = rw (le-ltb i head.n k) at (w.leads j p z).goes } }

-- ---- the same, whatever the lines say

module _ (t : List ℕ) (from : ℕ) (head : Head) where
  -- i lines are read, and the next one begins at a
  pub record Passed (i a : ℕ) : Type 0 where
    pub body : Body
    pub walked : Walked t from head body i a

  pub passed_none : 0 < head.n → from ≤ length t → Passed 0 from
  passed_none some h = record { body = zero_body; walked = walked_none t from head some h }

  module _ {i a : ℕ} (passed : Passed i a) (more : i < head.n) {r : Found ℕ} (line : LineFrom t a head r)
    where
      pub passed-more : {b : ℕ} → Ok b ≡ on_line r (job_number (JobLine.System i) head) → Passed (i + 1) b
      passed-more e =
          record { body = _; walked = walked_more t from head passed.walked more (line.adds i passed.body) e }

      pub passed-bad : {e : Refusal} → Err e ≡ on_line r (job_number (JobLine.System i) head)
          → SystemEnds t from head (Err e)
      passed-bad e = record {
        system = zero_body;
        from = walked-bad t from head passed.walked more (line.adds i passed.body) e;
      }

  pub passed-done : {i a : ℕ} → Passed i a → head.n ≤ i → SystemEnds t from head (Ok a)
  passed-done p k = record { system = p.body; from = walked-done t from head p.walked k }
