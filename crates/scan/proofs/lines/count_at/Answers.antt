use Prim.Native.Nat.{ℕ, ◌+◌}
use native.Mathlib.Omega.{arith}
use mathlib.Core.Path.{◌≡◌, sym, ap, ◌∙◌}
use mir.Syntax.{w64}
use mir.Val.{SFits}
use mir.Facts.{to_z-of_z}
use borrow.Author.Rules.{rules}
use Rattle.std.specs.Prelude.{Result, None, Some}
use Rattle.text.specs.declared.Uncounted.{Uncounted}
use Rattle.scan.proofs.Keyed.{key-long}
use Rattle.scan.proofs.Counting.{other_key, no-count, one-count}
use Rattle.scan.proofs.lines.count_at.Goals as goal

pub returns-then-not-key_at : goal.returns-then-not-key_at
returns-then-not-key_at c = other_key _ _ _ c.requires.0 _ (sym c.key_at.ensures ∙ c.if-not-key_at.true)

pub number_at-requires : goal.number_at-requires
number_at-requires c =
    let a = c.args in
    key-long a.s.now a.key.now a.from c.requires.0 (sym c.key_at.ensures ∙ c.if-not-key_at.false)

pub returns-in_err-number : goal.returns-in_err-number
returns-in_err-number c =
    let a = c.args in
    let p = c.requires in
    let e : c.from_residual.result ≡ None = search rules in
    rw e
    (no-count a.s.now a.key.now _ p.0 _ p.1 (sym c.key_at.ensures ∙ c.if-not-key_at.false) c.in_err-number.ensures
    (λ g. absurd (omega (arith, g))))

pub returns-then-not-is_at : goal.returns-then-not-is_at
returns-then-not-is_at c =
    let a = c.args in
    let p = c.requires in
    no-count a.s.now a.key.now _ p.0 _ p.1 (sym c.key_at.ensures ∙ c.if-not-key_at.false) c.in_ok-number.ensures.1
    (λ g. sym c.is_at.ensures ∙ c.if-not-is_at.true)

pub returns : goal.returns
returns c =
    let a = c.args in
    let p = c.requires in
    let n = c.in_ok-number in
    let fits : SFits w64 n.number.value = search rules in
    ap (λ (r : Result ℕ Uncounted). Some (record { value = r; next = n.number.next + 1 }))
    (rw (to_z-of_z fits) at c.in_count.ensures)
    ∙ one-count a.s.now a.key.now _ p.0 _ p.1 (sym c.key_at.ensures ∙ c.if-not-key_at.false) n.ensures.1
    (λ z. omega (arith, n.ensures.0, z)) (sym c.is_at.ensures ∙ c.if-not-is_at.false)
