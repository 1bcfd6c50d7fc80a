-- `answers::parts::hand_over` meets its contract.
use Rattle.std.proofs.Common.{◌≡◌, ℕ, List, [], ◌++◌, true, refl, sym, ap, ◌∙◌, append_assoc}
use Rattle.job_parts.specs.declared.Parts.{Parts}
use Rattle.job_parts.specs.declared.Taken.{Taken}
use Rattle.job_parts.specs.Limits.{fits}
use Rattle.job_parts.specs.Parts.{begun, bytes_taken, part_taken}
use Rattle.job_parts.proofs.Whole.{text-fits, bytes-append}
use Rattle.answers.proofs.parts.hand_over.Goals as goal

taken-fits : (p : Parts) (part : List ℕ) → fits p ≡ true → (part_taken p part).parts ≡ bytes_taken p part
unfolding part_taken
taken-fits p part e = rw e

handed-on : (done part : List ℕ) {p : Parts} {r : Taken} → p ≡ bytes_taken begun done → r ≡ part_taken p part
    → r.parts ≡ bytes_taken begun (done ++ part)
handed-on done part e w =
    ap (λ (s : Taken). s.parts) w
    ∙ taken-fits _ part (ap fits e ∙ text-fits done)
    ∙ ap (λ (q : Parts). bytes_taken q part) e
    ∙ bytes-append begun done part

pub loop-length-init : goal.loop-length-init
unfolding bytes_taken
loop-length-init c = ([], refl, c.begin-p.ensures)

pub loop-length-preserved : goal.loop-length-preserved
loop-length-preserved c =
    let (done, split, taken) = c.loop-length.invariant in
    let part = c.split_at.result.0.now in
    let behind = c.split_at.result.1.now in (
      done ++ part,
      split ∙ ap (λ l. done ++ l) c.split_at.ensures.by_index.0 ∙ sym (append_assoc done part behind),
      handed-on done part taken c.take.ensures,
    )

pub returns : goal.returns
returns c =
    let (done, split, taken) = c.loop-length.invariant in
    handed-on done _ taken c.take-2.ensures ∙ ap (bytes_taken begun) (sym split)
