-- `term_write::put_exponents` meets its contract.
use Prim.Native.Nat.{ℕ, ◌+◌}
use mathlib.Core.List.{List}
use lib.ListN.{get_or}
use Rattle.lists.specs.Loops.{tab}
use Rattle.digits.specs.Bytes.{digit0}
use Rattle.writing.specs.Wrote.{Wrote}
use Rattle.term_write.proofs.put_exponents.Given as goal

abbrev pub digit_at : List ℕ → ℕ → ℕ
digit_at exps i = digit0 + get_or exps i 0

abbrev pub invariant-loop-e : goal.invariant-loop-e
invariant-loop-e l = Wrote l.initial.buf l.buf l.at l.p (tab l.e-index l.e-index 0 (digit_at l.fn.t.exps))
