-- An interval is known by its two ends.
use mathlib.Core.Path.{◌≡◌, ap₂}
use lib.IntN.{ℤ}
use Rattle.intervals.specs.declared.Interval.{Interval}

pub ends : {a b p q : ℤ} → a ≡ p → b ≡ q → ◌≡◌ {A = Interval} (record { lo = a; hi = b }) (record { lo = p; hi = q })
ends e f = ap₂ (λ (x : ℤ) (y : ℤ). record { lo = x; hi = y }) e f
