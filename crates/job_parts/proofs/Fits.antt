-- The limits as a test and as facts.
use Prim.Native.Nat.{◌≤◌}
use mathlib.Core.Path.{◌≡◌}
use mathlib.Core.Bool.{true, ◌&&◌}
use lib.Dec.{leb}
use borrow.Author.Tests.{leb-true, le-leb}
use Rattle.sizes.specs.Sizes.{text_max}
use Rattle.term_checks.proofs.RangeLaws.{and_left, and_right}
use Rattle.next_line.specs.Limits.{read_fits}
use Rattle.next_line.proofs.Rooms.{ReadFits}
use Rattle.next_line.proofs.Fits.{read_fits_lem, fits_read}
use Rattle.job_parts.specs.declared.Parts.{Parts}
use Rattle.job_parts.specs.Limits.{size_max, fits}

pub record Fits (p : Parts) : Type 0 where
  pub size : p.size ≤ size_max
  pub come : p.held ≤ p.size
  pub held : p.held ≤ text_max
  pub read : ReadFits p.read

pub has-fits : (p : Parts) → fits p ≡ true → Fits p
unfolding fits
has-fits p e =
    let a = leb p.size size_max in
    let b = leb p.held p.size in
    let c = leb p.held text_max in
    let e3 = and_left (a && b && c) (read_fits p.read) e in
    let e2 = and_left (a && b) c e3 in
    record {
      size = leb-true _ _ (and_left a b e2);
      come = leb-true _ _ (and_right a b e2);
      held = leb-true _ _ (and_right (a && b) c e3);
      read = read_fits_lem p.read (and_right (a && b && c) (read_fits p.read) e);
    }

pub fits-has : (p : Parts) → Fits p → fits p ≡ true
unfolding fits
fits-has p h =
    rw (le-leb _ _ h.size, le-leb _ _ h.come, le-leb _ _ h.held, fits_read p.read h.read)
