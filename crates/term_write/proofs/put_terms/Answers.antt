-- `term_write::put_terms` meets its contract.
use borrow.Author.Rules.{rules}
use Prim.Native.Nat.{◌<◌}
use native.Mathlib.Omega.{arith}
use mathlib.Core.Path.{◌≡◌}
use lib.ListN.{length, length-take}
use lib.Seq.{length-take-le, get_or-take}
use Rattle.sizes.specs.Sizes.{terms_max}
use Rattle.lists.specs.Loops.{tab}
use Rattle.text.specs.Lists.{joined}
use Rattle.jobs.specs.Places.{exp_of, term_at, no_term}
use Rattle.writing.proofs.Wrote.{wrote-append, wrote_none}
use Rattle.term_write.specs.ShowTerms.{term_texts}
use Rattle.term_write.proofs.Joined.{joined-next, comma-short}
use Rattle.term_write.proofs.Terms.{digit_low, terms-short}
use Rattle.term_write.proofs.put_terms.Invariants.{text_at}
use Rattle.term_write.proofs.put_terms.Goals as goal

pub loop-i-init : goal.loop-i-init
unfolding tab joined
loop-i-init c = wrote_none _ _

pub put_comma-p-requires : goal.put_comma-p-requires
unfolding term_texts
put_comma-p-requires c =
    let l = c.loop-i in
    omega (
      arith,
      l.invariant.next,
      terms-short c.args.n c.args.q l.i c.requires.few,
      length-take c.args.q.count c.args.q.terms,
      c.requires.room,
      c.requires.good.few,
      c.loop-i-test.true,
    )

pub put_term-p-requires : goal.put_term-p-requires
unfolding term_texts
put_term-p-requires c =
    let l = c.loop-i in
    let q = c.args.q in
    let n = c.args.n in
    let good = c.requires.good in
    let live : l.i < q.count = omega (arith, c.loop-i-test.true, length-take q.count q.terms) in
    rw (get_or-take q.count q.terms l.i no_term live)
    (record {
      few = c.requires.few;
      room = omega (
        arith,
        l.invariant.next,
        c.put_comma-p.ensures.next,
        comma-short l.i,
        terms-short n q l.i c.requires.few,
        c.requires.room,
        good.few,
        live,
      );
      size = good.size l.i live;
      digits = λ k h. omega (arith, digit_low (exp_of (term_at q l.i)) n k h, good.deg l.i live);
    })

pub loop-i-preserved : goal.loop-i-preserved
loop-i-preserved c =
    let l = c.loop-i in
    let q = c.args.q in
    let live : l.i < q.count = omega (arith, c.loop-i-test.true, length-take q.count q.terms) in
    rw (joined-next l.i (text_at c.args.n q.terms))
    (wrote-append
    (wrote-append l.invariant c.put_comma-p.ensures)
    (rw (get_or-take q.count q.terms l.i no_term live) at c.put_term-p.ensures))

pub returns : goal.returns
unfolding term_texts
returns c =
    let l = c.loop-i in
    let q = c.args.q in
    let long : length q.terms ≡ terms_max = search rules in
    let whole = length-take-le q.count q.terms (omega (arith, c.requires.good.few)) in
    let all : l.i ≡ q.count = omega (arith, whole, l.auto.i-end, c.loop-i-test.false) in
    rw all at l.invariant
