use Prim.Native.Nat.{suc, ◌*◌, ◌^◌}
use native.Mathlib.Omega.{arith}
use native.Mathlib.Nat.{pow-suc}
use native.Mathlib.Numerals.{add-one}
use mathlib.Core.Path.{◌≡◌}
use Rattle.digits.proofs.Show.{show-short, show-over, show-under}
use Rattle.writing.proofs.digits_of.Goals as goal

pub returns-then-tenth-bound : goal.returns-then-tenth-bound
returns-then-tenth-bound c =
    let a = c.args in
    let l = c.loop-i in
    let p : 10 ^ suc l.i ≡ 10 ^ l.i * 10 = pow-suc 10 l.i in
    let over = show-over a.k l.i a.m c.loop-i-test.true l.invariant.low in
    let under = show-under a.k l.i a.m (omega (arith, l.invariant.power, c.if-tenth-bound.true)) in
    omega arith

pub loop-i-preserved : goal.loop-i-preserved
loop-i-preserved c =
    let a = c.args in
    let l = c.loop-i in
    let p : 10 ^ suc l.i ≡ 10 ^ l.i * 10 = pow-suc 10 l.i in
    let over = show-over a.k l.i a.m c.loop-i-test.true l.invariant.low in
    rw (add-one l.i)
    (record {
      power = omega (arith, l.invariant.power);
      low = λ q. omega (arith, l.invariant.power, c.if-tenth-bound.false);
      room = omega arith;
    })

pub returns : goal.returns
returns c =
    let a = c.args in
    omega (arith, show-short a.k a.m, c.loop-i.invariant.room)
