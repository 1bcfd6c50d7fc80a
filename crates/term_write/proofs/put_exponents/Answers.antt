-- `term_write::put_exponents` meets its contract.
use borrow.Author.Rules.{rules}
use Prim.Native.Nat.{◌<◌}
use native.Mathlib.Omega.{arith}
use mathlib.Core.Path.{◌≡◌}
use lib.ListN.{length, length-take}
use lib.Seq.{length-take-le, get_or-take}
use Rattle.sizes.specs.Sizes.{n_max}
use Rattle.lists.specs.Loops.{tab}
use Rattle.lists.proofs.Tab.{length-tab}
use Rattle.writing.proofs.Wrote.{wrote-append, wrote_none}
use Rattle.term_write.specs.ShowTerms.{show_exponents}
use Rattle.term_write.proofs.Joined.{tab-next}
use Rattle.term_write.proofs.put_exponents.Invariants.{digit_at}
use Rattle.term_write.proofs.put_exponents.Goals as goal

pub loop-e-init : goal.loop-e-init
unfolding tab
loop-e-init c = wrote_none _ _

pub put_byte-p-requires : goal.put_byte-p-requires
put_byte-p-requires c =
    let l = c.loop-e in
    let exps = c.args.t.exps in
    omega (
      arith,
      l.invariant.next,
      length-tab 0 l.e-index l.e-index (digit_at exps),
      length-take c.args.n exps,
      c.requires.room,
      c.requires.few,
      c.loop-e-test.true,
    )

pub loop-e-preserved : goal.loop-e-preserved
loop-e-preserved c =
    let i = c.loop-e.e-index in
    let exps = c.args.t.exps in
    let live : i < c.args.n = omega (arith, c.loop-e-test.true, length-take c.args.n exps) in
    rw (tab-next 0 i (digit_at exps))
    (wrote-append c.loop-e.invariant (rw (get_or-take c.args.n exps i 0 live) at c.put_byte-p.ensures))

pub returns : goal.returns
unfolding show_exponents
returns c =
    let l = c.loop-e in
    let long : length c.args.t.exps ≡ n_max = search rules in
    let whole = length-take-le c.args.n c.args.t.exps (omega (arith, c.requires.few)) in
    let all : l.e-index ≡ c.args.n = omega (arith, whole, l.auto.e-index-end, c.loop-e-test.false) in
    rw all at l.invariant
