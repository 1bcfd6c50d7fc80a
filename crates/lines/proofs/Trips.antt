-- Both trips of a text, by the status that the checks of its values give. "Values handed over without text get the same
-- checks in the same line order."
use Prim.Native.Nat.{◌≤◌}
use mathlib.Core.Path.{◌≡◌, sym, ap, ◌∙◌}
use mathlib.Core.List.{List}
use mathlib.Core.Logic.{◌↔◌}
use Prim.Native.Nat.{ℕ}
use lib.ListN.{length}
use Rattle.faults.specs.declared.Fault.{Fault}
use Rattle.faults.specs.Checked.{Status, status_of}
use Rattle.reading.specs.Lines.{Form, Answer, read, bytes}
use Rattle.reading.specs.Shows.{Shows, shown, live, Passed, judged}
use Rattle.reading.proofs.Trips.{Laws}
use Rattle.reading.proofs.Trips as trips
use Rattle.reading.proofs.Walk as walk
use Rattle.lines.specs.Answered.{answered}
use Rattle.lines.proofs.Answered.{status-done}
use Rattle.std.specs.Prelude.{Ok}

module _ {L X : Type 0} (g : Form Fault L X) (w : Shows Fault L X) (Has Spelt : X → L → Type 0)
    (laws : Laws g w Has Spelt) (check : X → Status)
    (is : (q : X) → status_of (answered (judged g w q)) ≡ check q) where
  pub same-order : (q : X) → ((k : L) → Has q k → Spelt q k) → length (bytes (shown w q)) ≤ g.most
      → status_of (answered (read g (bytes (shown w q)))) ≡ check q
  same-order q s h = ap (λ a. status_of (answered a)) (trips.same-order g w Has Spelt laws q s h) ∙ is q

  pub done-passed : (q : X) → check q ≡ Ok tt → Passed w (w.prior w.end q) q
  done-passed q e =
      let d = status-done (judged g w q) (is q ∙ e) in
      walk.done-passed g w q (w.prior w.end q) d.0 d.1

  passed-done : (q : X) → Passed w (w.prior w.end q) q → check q ≡ Ok tt
  passed-done q p = sym (is q) ∙ ap (λ a. status_of (answered a)) (walk.passed-done g w q (w.prior w.end q) p)

  pub read-write : (q : X) → check q ≡ Ok tt → read g (bytes (shown w q)) ≡ Answer.done (live w q)
  read-write q e = trips.read-write g w Has Spelt laws q (done-passed q e)

  pub exactly : (t : List ℕ) (q : X)
      → (read g t ≡ Answer.done q) ↔ ((bytes (shown w q) ≡ t) × (check q ≡ Ok tt) × (live w q ≡ q))
  exactly t q =
      let whole = trips.exactly g w Has Spelt laws t q in (
        λ e. let r = whole.0 e in (r.0, passed-done q r.1.passed, r.1.only),
        λ r. whole.1 (r.0, record { passed = done-passed q r.1; only = r.2 }),
      )
