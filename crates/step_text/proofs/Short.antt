-- No lines of a step are longer than a text may be.
use Prim.Native.Nat.{ℕ, ◌+◌, ◌*◌, ◌≤◌}
use native.Mathlib.Omega.{arith}
use mathlib.Core.Path.{◌≡◌}
use mathlib.Core.List.{List}
use lib.ListN.{length, take, get_or, length-append}
use lib.IntN.{ℤ, pos}
use Rattle.sizes.specs.Sizes.{n_max, text_max}
use Rattle.lists.proofs.Tab.{length-tab}
use Rattle.digits.specs.Number.{long_max}
use Rattle.text.specs.Words.{lo_key, hi_key}
use Rattle.reading.specs.NumberLines.{placed}
use Rattle.writing.specs.Wrote.{Wrote, line}
use Rattle.writing.proofs.Wrote.{wrote-append}
use Rattle.writing.proofs.Answer.{taken-whole}
use Rattle.writing.proofs.Lines.{list-line-short, end-length, end_none}
use Rattle.jobs.specs.declared.Ends.{Ends}
use Rattle.step.specs.declared.Move.{Move}
use Rattle.one_step.specs.declared.Decided.{Decided}
use Rattle.step_text.specs.Lines.{klo_key, khi_key, move_text, ends_text, image_lines, move_lines, step_lines}

-- bytes of a line of ends
abbrev ends_room : ℕ
ends_room = 5 + (long_max + 2) * n_max

pub ends-short : (key : List ℕ) (n : ℕ) (xs : List ℤ) → length key ≤ 4 → n ≤ n_max
    → length (line (ends_text key n xs)) ≤ ends_room
ends-short key n xs k few =
    omega (
      arith,
      list-line-short long_max key (placed n n xs),
      length-tab (pos 0) n n (λ i. get_or xs i (pos 0)),
    )

pub word-short : (what : Move) → length (line (move_text what)) ≤ 16
unfolding line
word-short Move.None = omega arith
word-short Move.Unique = omega arith
word-short Move.Stalled = omega arith
word-short Move.Next = omega arith

-- half a text each
pub image-short : (n : ℕ) (k : Ends) → n ≤ n_max → 2 * length (image_lines n k) ≤ text_max
unfolding image_lines
image-short n k few =
    rw (end-length _ _, end-length _ _, end_none)
    (omega (arith, ends-short klo_key n k.lo (omega arith) few, ends-short khi_key n k.hi (omega arith) few))

pub move-short : (n : ℕ) (d : Decided) → n ≤ n_max → 2 * length (move_lines n d) ≤ text_max
unfolding move_lines
move-short n d few =
    rw (end-length _ _, end-length _ _, end-length _ _, end_none)
    (omega (
      arith,
      word-short d.what,
      ends-short lo_key n d.ends.lo (omega arith) few,
      ends-short hi_key n d.ends.hi (omega arith) few,
    ))

pub step-short : (n : ℕ) (k : Ends) (d : Decided) → n ≤ n_max → length (step_lines n k d) ≤ text_max
unfolding step_lines
step-short n k d few =
    rw (length-append (image_lines n k) (move_lines n d)) (omega (arith, image-short n k few, move-short n d few))

-- in a buffer of a text's size they stand whole, and fill no more of it
pub record Stands (t new : List ℕ) (len : ℕ) : Type 0 where
  pub short : len ≤ text_max
  pub text : take len new ≡ t

stands : {t old new : List ℕ} {len : ℕ} → length old ≡ text_max → length t ≤ text_max → Wrote old new 0 len t
    → Stands t new len
stands room h w = record { short = omega (arith, w.next); text = (taken-whole (omega arith) w).text }

module _ {old new : List ℕ} {len : ℕ} (n : ℕ) (few : n ≤ n_max) (room : length old ≡ text_max) where
  pub image-stands : (k : Ends) → Wrote old new 0 len (image_lines n k) → Stands (image_lines n k) new len
  image-stands k w = stands room (omega (arith, image-short n k few)) w

  pub move-stands : (d : Decided) → Wrote old new 0 len (move_lines n d) → Stands (move_lines n d) new len
  move-stands d w = stands room (omega (arith, move-short n d few)) w

  pub step-stands : (k : Ends) (d : Decided) {mid : List ℕ} {at : ℕ} → Wrote old mid 0 at (image_lines n k)
      → Wrote mid new at len (move_lines n d) → Stands (step_lines n k d) new len
  unfolding step_lines
  step-stands k d v w = stands room (step-short n k d few) (wrote-append v w)
