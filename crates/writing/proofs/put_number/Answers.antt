-- `writing::put_number` meets its contract.
use mathlib.Core.Path.{◌≡◌, refl, ap, ◌∙◌}
use mir.Facts.{to_z-of_z}
use lib.IntN.{ℤ, pos, negsuc, nat_abs}
use lib.Signed.{lt_z}
use mathlib.Core.Bool.{true, false, true≢false}
use mathlib.Core.List.{◌∷◌}
use Prim.Native.Nat.{ℕ}
use native.Mathlib.Omega.{arith}
use native.Mathlib.Nat.{pow-le-pow_right}
use borrow.Author.Tests.{ltb-true}
use Rattle.writing.proofs.Wrote.{wrote-append}
use Rattle.digits.specs.Bytes.{minus_sign}
use Rattle.digits.specs.Show.{show_magnitude, show_signed}
use Rattle.writing.proofs.put_number.Goals as goal

neg : (k : ℕ) (v : ℤ) → lt_z v (pos 0) ≡ true → show_signed k v ≡ minus_sign ∷ show_magnitude k (nat_abs v)
unfolding show_signed
neg k (pos n) t = absurd (omega (arith, ltb-true n 0 t))
neg k (negsuc n) t = refl

non : (k : ℕ) (v : ℤ) → lt_z v (pos 0) ≡ false → show_signed k v ≡ show_magnitude k (nat_abs v)
unfolding show_signed
non k (pos n) t = refl
non k (negsuc n) t = absurd (true≢false t)

pub abs-m-requires : goal.abs-m-requires
abs-m-requires c =
    let h = pow-le-pow_right {n = 10} (omega arith) c.requires.0 in
    rw (to_z-of_z c.ranges.v) (omega (arith, h, c.requires.2))

pub returns-then-v-lt0 : goal.returns-then-v-lt0
returns-then-v-lt0 c =
    let test = c.if-v-lt0.true in
    let abs = c.abs-m.ensures in
    let e = to_z-of_z c.ranges.v in
    rw (neg c.args.k c.args.v (rw e at test), ← (abs ∙ ap nat_abs e))
    (wrote-append c.put_byte-next.ensures
    c.put_magnitude.ensures)

pub returns : goal.returns
returns c =
    let e = to_z-of_z c.ranges.v in
    rw (
      non c.args.k c.args.v (rw e at c.if-v-lt0.false),
      ← (c.abs-m.ensures ∙ ap nat_abs e),
    )
    c.put_magnitude-2.ensures
