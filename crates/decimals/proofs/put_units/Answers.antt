-- `decimals::put_units` meets its contract.
use borrow.Author.Tests.{ltb-true}
use native.Mathlib.Omega.{arith}
use mir.Facts.{to_z-of_z}
use mathlib.Core.Path.{◌≡◌, refl, ap, ◌∙◌}
use mathlib.Core.Bool.{true, false, true≢false}
use mathlib.Core.List.{◌∷◌}
use lib.IntN.{ℤ, pos, negsuc, nat_abs}
use lib.Signed.{lt_z}
use Rattle.digits.specs.Bytes.{minus_sign}
use Rattle.writing.proofs.Wrote.{wrote-append}
use Rattle.decimals.specs.Units.{show_size, show_units}
use Rattle.decimals.proofs.put_units.Goals as goal

neg : (v : ℤ) → lt_z v (pos 0) ≡ true → show_units v ≡ minus_sign ∷ show_size (nat_abs v)
unfolding show_units
neg (pos n) t = absurd (omega (arith, ltb-true n 0 t))
neg (negsuc n) t = refl

non : (v : ℤ) → lt_z v (pos 0) ≡ false → show_units v ≡ show_size (nat_abs v)
unfolding show_units
non (pos n) t = refl
non (negsuc n) t = absurd (true≢false t)

pub returns-then-v-lt0 : goal.returns-then-v-lt0
returns-then-v-lt0 c =
    let e = to_z-of_z c.ranges.v in
    rw (neg c.args.v (rw e at c.if-v-lt0.true), ← (c.abs-m.ensures ∙ ap nat_abs e))
    (wrote-append c.put_byte-next.ensures c.put_size.ensures)

pub returns : goal.returns
returns c =
    let e = to_z-of_z c.ranges.v in
    rw (non c.args.v (rw e at c.if-v-lt0.false), ← (c.abs-m.ensures ∙ ap nat_abs e))
    c.put_size-2.ensures
