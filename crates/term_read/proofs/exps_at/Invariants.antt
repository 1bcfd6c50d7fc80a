-- `term_read::exps_at` meets its contract.
use Prim.Native.Nat.{ℕ, ◌+◌, ◌-◌, ◌≤◌}
use mathlib.Core.Path.{◌≡◌}
use mathlib.Core.List.{List}
use mathlib.Core.Bool.{true}
use lib.ListN.{get_or}
use Rattle.sizes.specs.Sizes.{n_max}
use Rattle.lists.specs.Loops.{tab, all_b}
use Rattle.digits.specs.Bytes.{digit0}
use Rattle.digits.specs.Digits.{is_digit}
use Rattle.reading.specs.Places.{part}
use Rattle.term_read.proofs.exps_at.Given as goal

-- k exponents are read
pub record Inv (l : List ℕ) (n : ℕ) (exps : List ℕ) (k : ℕ) : Type 0 where
  pub few : k ≤ n
  pub spelled : all_b k (λ i. is_digit (get_or l i 0)) ≡ true
  pub values : exps ≡ tab n_max k 0 (λ i. get_or l i 0 - digit0)

abbrev pub invariant-loop-k : goal.invariant-loop-k
invariant-loop-k l = Inv (part l.s l.from (l.from + l.n)) l.n l.exps l.k
