-- `term_write::put_term` meets its contract.
use borrow.Author.Rules.{rules}
use native.Mathlib.Omega.{arith}
use mathlib.Core.List.{[], ◌∷◌, append_assoc}
use mir.Syntax.{w64}
use mir.Facts.{to_z-of_z}
use Rattle.digits.specs.Number.{digits_max}
use Rattle.digits.specs.Show.{show_number}
use Rattle.digits.proofs.Show.{number_short}
use Rattle.writing.proofs.Wrote.{wrote-append}
use Rattle.term_text.specs.Terms.{colon}
use Rattle.term_write.specs.ShowTerms.{show_exponents, show_term}
use Rattle.term_write.proofs.put_term.Goals as goal

pub put_byte-b-requires : goal.put_byte-b-requires
put_byte-b-requires c =
    let v = c.args.t.coef in
    let number = rw (to_z-of_z {w = w64} {z = v} (search rules)) at c.put_number-a.ensures in
    omega (arith, number.next, number_short digits_max v, c.requires.room)

pub put_exponents-requires : goal.put_exponents-requires
put_exponents-requires c =
    let v = c.args.t.coef in
    let number = rw (to_z-of_z {w = w64} {z = v} (search rules))
    at c.put_number-a.ensures in
    record {
      few = c.requires.few;
      room = omega (
        arith,
        number.next,
        number_short digits_max v,
        c.put_byte-b.ensures.next,
        c.requires.room,
      );
      digits = c.requires.digits;
    }

pub returns : goal.returns
unfolding show_term
returns c =
    let t = c.args.t in
    let n = c.args.n in
    let number = rw (to_z-of_z {w = w64} {z = t.coef} (search rules))
    at c.put_number-a.ensures in
    rw (append_assoc (show_number t.coef) (colon ∷ []) (show_exponents n t)) at
    (wrote-append (wrote-append number c.put_byte-b.ensures)
    c.put_exponents.ensures)
