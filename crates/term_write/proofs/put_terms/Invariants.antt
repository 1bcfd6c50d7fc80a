-- `term_write::put_terms` meets its contract.
use Prim.Native.Nat.{ℕ}
use mathlib.Core.List.{List, []}
use lib.ListN.{get_or}
use Rattle.lists.specs.Loops.{tab}
use Rattle.text.specs.Lists.{joined}
use Rattle.jobs.specs.Places.{no_term}
use Rattle.writing.specs.Wrote.{Wrote}
use Rattle.jobs.specs.declared.Term.{Term}
use Rattle.term_write.specs.ShowTerms.{show_term}
use Rattle.term_write.proofs.put_terms.Given as goal

abbrev pub text_at : ℕ → List Term → ℕ → List ℕ
text_at n terms k = show_term n (get_or terms k no_term)

abbrev pub invariant-loop-i : goal.invariant-loop-i
invariant-loop-i l = Wrote l.initial.buf l.buf l.at l.p (joined (tab l.i l.i [] (text_at l.n l.fn.q.terms)))
