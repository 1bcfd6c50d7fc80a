-- What the checks of n say.
use mathlib.Core.Path.{◌≡◌}
use Prim.Native.Nat.{ℕ, ◌≤◌}
use borrow.Author.Tests.{leb-true}
use Rattle.sizes.specs.Sizes.{n_max}
use Rattle.faults.specs.declared.Fault.{Fault}
use Rattle.faults.proofs.Laws.{fine-first, fine-next, unless-fine}
use Rattle.checks.specs.Checks.{unknowns_check}
use Rattle.checks.specs.CheckResult.{count_check}
use Rattle.term_checks.proofs.RangeLaws.{one-to}
use Rattle.std.specs.Prelude.{Ok}

pub unknowns-fine : (n : ℕ) → unknowns_check n ≡ Ok tt → (1 ≤ n) × (n ≤ n_max)
unfolding unknowns_check
unknowns-fine n e = one-to n_max n (unless-fine _ Fault.Unknowns e)

pub count-fine : (n : ℕ) → count_check n ≡ Ok tt → (1 ≤ n) × (n ≤ n_max)
unfolding count_check
count-fine n e = (
  leb-true 1 n (unless-fine _ Fault.Spelling (fine-first _ _ e)),
  leb-true n n_max (unless-fine _ Fault.Unknowns (fine-next _ _ e)),
)
