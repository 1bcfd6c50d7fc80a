-- The limits as a test and as facts.
use mathlib.Core.Path.{◌≡◌}
use mathlib.Core.Bool.{true, ◌&&◌}
use lib.Dec.{leb}
use borrow.Author.Tests.{leb-true, le-leb}
use Rattle.sizes.specs.Sizes.{n_max}
use Rattle.faults.specs.Words.{fault_max}
use Rattle.term_checks.proofs.RangeLaws.{and_left, and_right}
use Rattle.next_line.specs.declared.Read.{Read}
use Rattle.next_line.specs.Limits.{place_max, line_max, kind_max, read_fits}
use Rattle.next_line.proofs.Rooms.{ReadFits}

pub read_fits_lem : (r : Read) → read_fits r ≡ true → ReadFits r
unfolding read_fits
read_fits_lem r e =
    let a = leb r.fault fault_max in
    let b = leb r.line line_max in
    let c = leb r.next place_max in
    let d = leb r.kind kind_max in
    let e4 = and_left (a && b && c && d) (leb r.n n_max) e in
    let e3 = and_left (a && b && c) d e4 in
    let e2 = and_left (a && b) c e3 in
    record {
      fault = leb-true _ _ (and_left a b e2);
      line = leb-true _ _ (and_right a b e2);
      next = leb-true _ _ (and_right (a && b) c e3);
      kind = leb-true _ _ (and_right (a && b && c) d e4);
      few = leb-true _ _ (and_right (a && b && c && d) (leb r.n n_max) e);
    }

pub fits_read : (r : Read) → ReadFits r → read_fits r ≡ true
unfolding read_fits
fits_read r h =
    rw (
      le-leb _ _ h.fault,
      le-leb _ _ h.line,
      le-leb _ _ h.next,
      le-leb _ _ h.kind,
      le-leb _ _ h.few,
    )
