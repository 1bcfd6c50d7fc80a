-- The lines of a listing: `job=`, `boxes=`, then for each box `box=unique` or `box=open`, `lo=`, `hi=`.
use Rattle.std.specs.Prelude.{ℕ, zero, suc, ◌+◌, ◌-◌, ◌*◌, ◌≤◌, ◌<◌, Bool, true, false, List, [], ◌∷◌, ◌++◌, ◌≡◌, ℤ}
use Rattle.std.specs.Prelude.{pos, length, take, drop, get_or}
use Rattle.sizes.specs.Sizes.{n_max}
use Rattle.integers.specs.Equal.{eq_ℤ}
use Rattle.digits.specs.Bytes.{line_feed}
use Rattle.digits.specs.Number.{digits_max, long_max}
use Rattle.digits.specs.Show.{show_magnitude}
use Rattle.text.specs.Cut.{end_each}
use Rattle.text.specs.Lists.{show_all, Below}
use Rattle.text.specs.Words.{job_key, lo_key, hi_key}
use Rattle.lines.specs.Words.{verdict_word}
use Rattle.jobs.specs.declared.Verdict.{Verdict}
use Rattle.writing.specs.Wrote.{place_max, Wrote}
use Rattle.halving.specs.Lists.{listed_places}
use Rattle.listing.specs.declared.Listing.{Listing}

-- `boxes=`
abbrev pub boxes_key : List ℕ
boxes_key = 98 ∷ 111 ∷ 120 ∷ 101 ∷ 115 ∷ 61 ∷ []

-- `box=`
abbrev pub box_key : List ℕ
box_key = 98 ∷ 111 ∷ 120 ∷ 61 ∷ []

-- `open`
abbrev pub open_word : List ℕ
open_word = 111 ∷ 112 ∷ 101 ∷ 110 ∷ []

-- `box=unique` or `box=open`
abbrev pub box_text : Bool → List ℕ
box_text true = box_key ++ verdict_word Verdict.Unique
box_text false = box_key ++ open_word

-- whose boxes they are, and how many
unfoldable pub head_lines : ℕ → ℕ → List ℕ
head_lines number boxes =
    end_each line_feed
    ((job_key ++ show_magnitude digits_max number) ∷ (boxes_key ++ show_magnitude digits_max boxes) ∷ [])

abbrev pub head_of : Listing → List ℕ
head_of l = head_lines l.number l.boxes

-- a box, with its low ends and its high ends
unfoldable pub box_lines : Bool → List ℤ → List ℤ → List ℕ
box_lines unique lo hi =
    end_each line_feed
    (box_text unique ∷ (lo_key ++ show_all long_max lo) ∷ (hi_key ++ show_all long_max hi) ∷ [])

-- ---- box i of a list of numbers
-- 1 says unique
abbrev pub unique_in : List ℤ → ℕ → Bool
unique_in list i = eq_ℤ (get_or list (listed_places * i) (pos 0)) (pos 1)

-- n numbers from a place on, and a line of them
abbrev pub ends_at : List ℤ → ℕ → ℕ → List ℤ
ends_at list from n = take n (drop from list)

abbrev pub ends_from : List ℕ → List ℤ → ℕ → ℕ → List ℕ
ends_from key list from n = key ++ show_all long_max (ends_at list from n)

abbrev pub low_in : ℕ → List ℤ → ℕ → List ℤ
low_in n list i = ends_at list (listed_places * i + 1) n

abbrev pub high_in : ℕ → List ℤ → ℕ → List ℤ
high_in n list i = ends_at list (listed_places * i + 1 + n_max) n

unfoldable pub entry_lines : ℕ → List ℤ → ℕ → List ℕ
entry_lines n list i = box_lines (unique_in list i) (low_in n list i) (high_in n list i)

-- the first k boxes of a list
unfoldable pub first_lines : ℕ → List ℤ → ℕ → List ℕ
first_lines n list zero = []
first_lines n list (suc k) = first_lines n list k ++ entry_lines n list k

-- all pieces
unfoldable pub all_lines : Listing → List ℤ → List ℕ
all_lines l list = head_of l ++ first_lines l.n list l.boxes

-- what the writer of a line of ends relies on
pub record EndsIn (at : ℕ) (key : List ℕ) (list : List ℤ) (from n : ℕ) : Type 0 where
  pub few : n ≤ n_max
  pub room : at + length key + (long_max + 2) * (1 + n_max) < place_max
  pub inside : from + n ≤ length list
  pub small : Below long_max (ends_at list from n)

-- and that of a box
pub record EntryIn (n : ℕ) (list : List ℤ) (i : ℕ) : Type 0 where
  pub few : n ≤ n_max
  pub inside : listed_places * (i + 1) ≤ length list
  pub low : Below long_max (low_in n list i)
  pub high : Below long_max (high_in n list i)

-- ---- pieces
-- the most bytes of a piece: a word's line, and two lines of n_max numbers
abbrev pub piece_max : ℕ
piece_max = 11 + 2 * (4 + (long_max + 2) * n_max)

-- the last place where a piece may begin
abbrev pub last_max : ℕ
last_max = place_max - 2 * piece_max

pub record Piece (old new : List ℕ) (at r : ℕ) (bs : List ℕ) : Type 0 where
  pub wrote : Wrote old new at r bs
  pub short : r ≤ at + piece_max
  pub size : length new ≡ length old
