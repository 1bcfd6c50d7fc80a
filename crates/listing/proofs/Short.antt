-- No piece is longer than a piece may be.
use Prim.Native.Nat.{ℕ, ◌+◌, ◌*◌, ◌≤◌}
use native.Mathlib.Numerals.{add-one}
use native.Mathlib.Omega.{arith}
use mathlib.Core.Bool.{Bool, true, false}
use mathlib.Core.List.{List, ◌++◌}
use lib.ListN.{length, take, drop, length-take}
use lib.IntN.{ℤ}
use Rattle.sizes.specs.Sizes.{n_max}
use Rattle.digits.specs.Number.{long_max}
use Rattle.text.specs.Lists.{show_all}
use Rattle.text.specs.Words.{job_key, lo_key, hi_key}
use Rattle.writing.specs.Wrote.{Wrote, line}
use Rattle.writing.proofs.Wrote.{wrote-append, wrote_none, wrote-length}
use Rattle.writing.proofs.Lines.{count-line-short, list-line-short, end-length, end_none}
use Rattle.halving.specs.Lists.{listed_places}
use Rattle.listing.specs.Lines.{boxes_key, box_text, head_lines, box_lines, unique_in, entry_lines}
use Rattle.listing.specs.Lines.{first_lines, piece_max, Piece}

pub word-short : (unique : Bool) → length (line (box_text unique)) ≤ 11
unfolding line
word-short true = omega arith
word-short false = omega arith

pub taken-few : (n : ℕ) (xs : List ℤ) → n ≤ n_max → length (take n xs) ≤ n_max
taken-few n xs few = rw (length-take n xs) (omega arith)

-- a line of at most n_max numbers
pub row-short : (key : List ℕ) (n : ℕ) (xs : List ℤ) → length key ≤ 3 → n ≤ n_max
    → length (line (key ++ show_all long_max (take n xs))) ≤ 4 + (long_max + 2) * n_max
row-short key n xs k few = omega (arith, list-line-short long_max key (take n xs), taken-few n xs few)

pub head-short : (number boxes : ℕ) → length (head_lines number boxes) ≤ piece_max
unfolding head_lines
head-short number boxes =
    rw (end-length _ _, end-length _ _, end_none)
    (omega (arith, count-line-short job_key number, count-line-short boxes_key boxes))

pub entry-short : (n : ℕ) (list : List ℤ) (i : ℕ) → n ≤ n_max → length (entry_lines n list i) ≤ piece_max
unfolding entry_lines box_lines
entry-short n list i few =
    rw (end-length _ _, end-length _ _, end-length _ _, end_none)
    (omega (
      arith,
      word-short (unique_in list i),
      row-short lo_key n (drop (listed_places * i + 1) list) (omega arith) few,
      row-short hi_key n (drop (listed_places * i + 1 + n_max) list) (omega arith) few,
    ))

pub piece : {old new : List ℕ} {at r : ℕ} {bs : List ℕ} → Wrote old new at r bs → length bs ≤ piece_max
    → Piece old new at r bs
piece w h = record { wrote = w; short = omega (arith, w.next); size = wrote-length w }

-- ---- piece after piece
module _ (n : ℕ) (list : List ℤ) where
  pub boxes-none : (old : List ℕ) (at : ℕ) → Wrote old old at at (first_lines n list 0)
  unfolding first_lines
  boxes-none old at = wrote_none old at

  pub boxes-more : (i : ℕ) {old mid new : List ℕ} {first at r : ℕ} → Wrote old mid first at (first_lines n list i)
      → Wrote mid new at r (entry_lines n list i) → Wrote old new first r (first_lines n list (i + 1))
  unfolding first_lines
  boxes-more i w v = rw (add-one i) (wrote-append w v)
