-- The lines of a job that are reached where no check before them finds a fault, and those whose values can be spelled.
use Prim.Native.Nat.{◌≤◌, ◌<◌, ◌^◌}
use mathlib.Core.Path.{◌≡◌}
use mathlib.Core.Bool.{Bool, true, false}
use mathlib.Core.Logic.{◌⊎◌}
use Rattle.sizes.specs.Sizes.{n_max}
use Rattle.digits.specs.Number.{digits_max}
use Rattle.text.specs.Lists.{Small}
use Rattle.jobs.specs.declared.Kind.{Kind}
use Rattle.jobs.specs.declared.Job.{Job}
use Rattle.jobs.specs.declared.JobLine.{JobLine}
use Rattle.jobs.specs.Lines.{after_n}
use Rattle.reading.specs.NumberLines.{placed}
use Rattle.lines.specs.Texts.{matrix_list}
use Rattle.job_form.specs.JobBytes.{pin_written, SpelledLine}

abbrev pub Sized : Job → Type 0
Sized j = (0 < j.head.n) × (j.head.n ≤ n_max)

-- lo stands by itself: after n in a job that is no eigenpair's, or after the pin
abbrev pub LowStands : Job → Type 0
LowStands j = ((after_n j.head.kind ≡ JobLine.Lo) × (pin_written j ≡ false))
    ⊎ ((j.head.kind ≡ Kind.Eigen) × (pin_written j ≡ true))

abbrev pub Has : Job → JobLine → Type 0
Has j JobLine.Number = Unit {0}
Has j JobLine.Kind = Unit {0}
Has j JobLine.Unknowns = Unit {0}
Has j JobLine.Pin = Sized j × (j.head.kind ≡ Kind.Eigen)
Has j JobLine.Lo = Sized j × LowStands j
Has j JobLine.Hi = Sized j
Has j JobLine.Inv = Sized j
Has j JobLine.Steps = Sized j
Has j (JobLine.System i) = Sized j × (i < j.head.n)
Has j JobLine.End = Sized j

abbrev pub SpeltLow : Job → Type 0
SpeltLow j = Small (placed j.head.n j.head.n j.ends.lo)

-- the pin, or lo in its place
abbrev pub SpeltPin : Bool → Job → Type 0
SpeltPin true j = j.head.pin < 10 ^ digits_max
SpeltPin false j = SpeltLow j

abbrev pub Spelt : Job → JobLine → Type 0
Spelt j JobLine.Number = j.head.number < 10 ^ digits_max
Spelt j JobLine.Kind = Unit {0}
Spelt j JobLine.Unknowns = j.head.n < 10
Spelt j JobLine.Pin = SpeltPin (pin_written j) j
Spelt j JobLine.Lo = SpeltLow j
Spelt j JobLine.Hi = Small (placed j.head.n j.head.n j.ends.hi)
Spelt j JobLine.Inv = Small (matrix_list j.inv j.head.n)
Spelt j JobLine.Steps = j.steps < 10 ^ digits_max
Spelt j (JobLine.System i) = SpelledLine j.head.kind j i
Spelt j JobLine.End = Unit {0}
