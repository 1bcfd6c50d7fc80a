-- A text handed over from place to place.
use Prim.Native.Nat.{ℕ, zero, suc, ◌-◌, ◌≤◌}
use native.Mathlib.Omega.{arith}
use mathlib.Core.Path.{◌≡◌, ap, ◌∙◌}
use mathlib.Core.List.{List, [], ◌∷◌, ◌++◌}
use mathlib.Core.Bool.{true}
use lib.ListN.{take, drop, drop_of_length-le}
use lib.Seq.{take_all}
use Rattle.job_parts.specs.declared.Parts.{Parts}
use Rattle.job_parts.specs.declared.Taken.{Taken}
use Rattle.job_parts.specs.Limits.{fits}
use Rattle.job_parts.specs.Parts.{begun, bytes_taken, part_taken}
use Rattle.job_parts.proofs.Whole.{text-fits, bytes-append}

take_on : (t : List ℕ) (a b : ℕ) → a ≤ b → take a t ++ take (b - a) (drop a t) ≡ take b t
take_on [] a b h =
    rw (
      drop_of_length-le {A = ℕ} [] {i = a} (omega arith),
      take_all {A = ℕ} a [] (omega arith),
      take_all {A = ℕ} b [] (omega arith),
      take_all {A = ℕ} (b - a) [] (omega arith),
    )
take_on (x ∷ t) zero b h = let e : b - 0 ≡ b = omega arith in rw e
take_on (x ∷ t) (suc a) zero h = absurd (omega arith)
take_on (x ∷ t) (suc a) (suc b) h =
    let e : suc b - suc a ≡ b - a = omega arith in
    rw e (ap (λ (l : List ℕ). x ∷ l) (take_on t a b (omega arith)))

taken-fits : (p : Parts) (part : List ℕ) → fits p ≡ true → (part_taken p part).parts ≡ bytes_taken p part
unfolding part_taken
taken-fits p part e = rw e

-- the bytes from a to b come after those before a
pub handed-on : (t : List ℕ) (a b : ℕ) {p : Parts} {r : Taken} → a ≤ b → p ≡ bytes_taken begun (take a t)
    → r ≡ part_taken p (take (b - a) (drop a t)) → r.parts ≡ bytes_taken begun (take b t)
handed-on t a b {p} h e w =
    ap (λ (s : Taken). s.parts) w
    ∙ taken-fits p (take (b - a) (drop a t)) (ap fits e ∙ text-fits (take a t))
    ∙ ap (λ (q : Parts). bytes_taken q (take (b - a) (drop a t))) e
    ∙ bytes-append begun (take a t) (take (b - a) (drop a t))
    ∙ ap (bytes_taken begun) (take_on t a b h)
