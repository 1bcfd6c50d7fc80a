-- K from its parts.
use mathlib.Core.Path.{◌≡◌, ap, ap₂}
use Rattle.intervals.specs.declared.Interval.{Interval}
use Rattle.intervals.specs.Interval.{add_i, neg_i}

pub sum_of : {m m' d d' e e' : Interval}
    → m ≡ m' → d ≡ d' → e ≡ e' → add_i (add_i m (neg_i d)) e ≡ add_i (add_i m' (neg_i d')) e'
sum_of p q r = ap₂ add_i (ap₂ add_i p (ap neg_i q)) r
