-- What the writer of a result relies on.
use Rattle.std.specs.Prelude.{◌≤◌}
use Rattle.sizes.specs.Sizes.{n_max}
use Rattle.text.specs.Lists.{Small}
use Rattle.reading.specs.NumberLines.{placed}
use Rattle.jobs.specs.declared.Result.{Result}

pub record Ready (r : Result) : Type 0 where
  pub few : r.n ≤ n_max
  pub low : Small (placed r.n r.n r.lo)
  pub high : Small (placed r.n r.n r.hi)
