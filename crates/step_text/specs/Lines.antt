-- The lines of an image and of what it decides, for the trainer.
use Rattle.std.specs.Prelude.{ℕ, ◌≤◌, List, [], ◌∷◌, ◌++◌, ℤ}
use Rattle.sizes.specs.Sizes.{n_max}
use Rattle.digits.specs.Bytes.{line_feed}
use Rattle.digits.specs.Number.{long_max}
use Rattle.text.specs.Cut.{end_each}
use Rattle.text.specs.Words.{lo_key, hi_key, verdict_key}
use Rattle.text.specs.Lists.{show_all, Below}
use Rattle.reading.specs.NumberLines.{placed}
use Rattle.lines.specs.Words.{verdict_word}
use Rattle.jobs.specs.declared.Ends.{Ends}
use Rattle.jobs.specs.declared.Verdict.{Verdict}
use Rattle.step.specs.declared.Move.{Move}
use Rattle.one_step.specs.declared.Decided.{Decided}

-- `klo=`
abbrev pub klo_key : List ℕ
klo_key = 107 ∷ 108 ∷ 111 ∷ 61 ∷ []

-- `khi=`
abbrev pub khi_key : List ℕ
khi_key = 107 ∷ 104 ∷ 105 ∷ 61 ∷ []

-- the verdict's word, or `next`
abbrev pub move_word : Move → List ℕ
move_word Move.None = verdict_word Verdict.None
move_word Move.Unique = verdict_word Verdict.Unique
move_word Move.Stalled = verdict_word Verdict.Stalled
move_word Move.Next = 110 ∷ 101 ∷ 120 ∷ 116 ∷ []

abbrev pub move_text : Move → List ℕ
move_text what = verdict_key ++ move_word what

-- a key and the first n numbers
abbrev pub ends_text : List ℕ → ℕ → List ℤ → List ℕ
ends_text key n xs = key ++ show_all long_max (placed n n xs)

-- K
unfoldable pub image_lines : ℕ → Ends → List ℕ
image_lines n k = end_each line_feed (ends_text klo_key n k.lo ∷ ends_text khi_key n k.hi ∷ [])

-- what is decided, and the box
unfoldable pub move_lines : ℕ → Decided → List ℕ
move_lines n d =
    end_each line_feed (move_text d.what ∷ ends_text lo_key n d.ends.lo ∷ ends_text hi_key n d.ends.hi ∷ [])

unfoldable pub step_lines : ℕ → Ends → Decided → List ℕ
step_lines n k d = image_lines n k ++ move_lines n d

-- what the writers rely on
pub record EndsFit (n : ℕ) (e : Ends) : Type 0 where
  pub few : n ≤ n_max
  pub low : Below long_max (placed n n e.lo)
  pub high : Below long_max (placed n n e.hi)
