-- Digit by digit, a count that no u64 holds stands as the greatest one.
use Prim.Native.Nat.{ℕ, ◌+◌, ◌-◌, ◌*◌}
use native.Mathlib.Omega.{arith}
use mathlib.Core.Path.{◌≡◌, refl, ap, ◌∙◌}
use mathlib.Core.List.{List, [], ◌∷◌}
use Rattle.std.specs.List.{fold}
use Rattle.digits.specs.Bytes.{digit0}
use Rattle.arguments.specs.Counts.{capped, value_from}

abbrev pub longer : ℕ → ℕ → ℕ
longer v b = capped (v * 10 + (b - digit0))

longer-capped : (w b : ℕ) → longer (capped w) b ≡ capped (w * 10 + (b - digit0))
longer-capped w b = omega arith

pub fold-capped : (s : List ℕ) (w : ℕ) → fold longer (capped w) s ≡ capped (value_from w s)
unfolding value_from
fold-capped [] w = refl
fold-capped (b ∷ bs) w =
    ap (λ v. fold longer v bs) (longer-capped w b) ∙ fold-capped bs (w * 10 + (b - digit0))
