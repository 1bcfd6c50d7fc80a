-- `phrases::tell` meets its contract.
use native.Mathlib.Omega.{arith}
use Rattle.digits.proofs.Show.{show-short}
use Rattle.phrases.specs.Words.{count_digits}
use Rattle.phrases.proofs.Says.{says_then, says-count}
use Rattle.phrases.proofs.tell.Goals as goal

pub say-requires : goal.say-requires
say-requires c =
    omega (
      arith,
      show-short count_digits c.args.m,
      c.put_magnitude-b.ensures.next,
      c.say-a.ensures.near,
      c.requires.0,
      c.requires.1,
      c.requires.2,
    )

pub returns : goal.returns
returns c =
    says_then (says_then c.say-a.ensures (says-count _ c.put_magnitude-b.ensures))
    c.say.ensures
