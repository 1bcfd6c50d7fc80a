-- The width of an edge in range fits its type.
use Rattle.sizes.specs.Sizes.{end_max}
use Rattle.integers.proofs.Ranges.{sub-fits}
use Rattle.intervals.specs.Ranges.{InI}
use Rattle.intervals.specs.declared.Interval.{Interval}
use Rattle.edges.specs.Edges.{FitsWidth}

pub fits_width : {a : Interval} → InI end_max a → FitsWidth a
fits_width h = record { width = sub-fits h.high h.low tt }
