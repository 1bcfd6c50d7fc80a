use native.Mathlib.Omega.{arith}
use Prim.Native.Nat.{ℕ, ◌^◌, ◌<◌, zero, suc}
use mathlib.Core.Path.{◌≡◌, refl}
use mir.Syntax.{w64}
use mir.Val.{SFits, to_z, of_z}
use mir.Facts.{to_z-of_z}
use lib.IntN.{pos, neg_ℤ, ◌-ℤ◌, +ℤ_idl}
use borrow.Author.Rules.{rules}
use Rattle.scan.proofs.Numbers.{digits-inside, digits-after, no_number, plain-number, no-minus-zero, minus_number}
use Rattle.scan.proofs.number_at.Goals as goal

neg-fits : (m : ℕ) → m < 2 ^ 63 → SFits w64 (neg_ℤ (pos m))
neg-fits zero h = record { sfits = omega arith }
neg-fits (suc m) h = record { sfits = omega arith }

turned : (m : ℕ) → SFits w64 (pos m) → to_z w64 (of_z w64 (pos 0 -ℤ to_z w64 (of_z w64 (pos m)))) ≡ neg_ℤ (pos m)
turned m f = rw (to_z-of_z f, +ℤ_idl (neg_ℤ (pos m))) (to_z-of_z (neg-fits m (omega (arith, f.sfits))))

pub magnitude_at-requires : goal.magnitude_at-requires
magnitude_at-requires c =
    let a = c.args in
    rw c.digits_from-a.ensures (digits-inside a.s.now a.from c.requires)

pub returns-in_err-digits : goal.returns-in_err-digits
returns-in_err-digits c =
    rw c.from_residual.ensures
    (no_number _ _ _ _ _ c.digits_from-a.ensures c.in_err-digits.ensures refl)

pub returns-then-a-from : goal.returns-then-a-from
returns-then-a-from c =
    let d = c.in_ok-digits.ensures in
    let fits : SFits w64 c.from-m.result = search rules in (
      omega arith,
      rw (to_z-of_z fits, c.from-m.ensures)
          (plain-number _ _ _ _ _ c.digits_from-a.ensures d.1 c.if-a-from.true),
    )

pub returns-then-m-eq0 : goal.returns-then-m-eq0
returns-then-m-eq0 c =
    no-minus-zero _ _ _ _ _ c.digits_from-a.ensures c.in_ok-digits.ensures.1 c.if-a-from.false
    (rw c.from-m.ensures at c.if-m-eq0.true)

pub returns : goal.returns
returns c =
    let d = c.in_ok-digits.ensures in
    let fits : SFits w64 c.from-m.result = search rules in (
      omega (arith, c.digits_from-a.ensures, digits-after c.args.s.now c.args.from),
      rw (c.from-m.ensures, turned c.in_ok-digits.digits.value (rw c.from-m.ensures at fits))
          (minus_number _ _ _ _ _ c.digits_from-a.ensures d.1 c.if-a-from.false (λ z. omega (arith, d.0, z))
          (λ z. c.if-m-eq0.false (rw (c.from-m.ensures, z)))),
    )
