-- An answer for people: the result's text, and then a line for each unknown in units.
use Rattle.std.specs.Prelude.{ℕ, zero, suc, ◌+◌, ◌*◌, ◌≤◌, ◌≡◌, List, [], ◌∷◌, ◌++◌, length, get_or, ℤ, pos}
use Rattle.sizes.specs.Sizes.{n_max, text_max}
use Rattle.digits.specs.Number.{digits_max}
use Rattle.digits.specs.Show.{show_magnitude}
use Rattle.text.specs.Lists.{Small}
use Rattle.jobs.specs.declared.Job.{Job}
use Rattle.jobs.specs.declared.Result.{Result}
use Rattle.writing.specs.Wrote.{place_max, line}
use Rattle.result_form.specs.ResultShows.{show_result}
use Rattle.result_write.specs.Ready.{Ready}
use Rattle.reading.specs.NumberLines.{placed}
use Rattle.job_form.specs.JobForm.{read_job}
use Rattle.checks.specs.Answered.{job_in, result_in}
use Rattle.run.specs.Job.{run_job}
use Rattle.decimals.specs.Units.{show_units}

-- `unknown `
abbrev pub unknown_word : List ℕ
unknown_word = 117 ∷ 110 ∷ 107 ∷ 110 ∷ 111 ∷ 119 ∷ 110 ∷ 32 ∷ []

-- `: `
abbrev pub colon : List ℕ
colon = 58 ∷ 32 ∷ []

-- ` to `
abbrev pub to_word : List ℕ
to_word = 32 ∷ 116 ∷ 111 ∷ 32 ∷ []

unfoldable pub show_ends : ℤ → ℤ → List ℕ
show_ends lo hi = (show_units lo ++ to_word) ++ show_units hi

unfoldable pub unknown_line : ℕ → ℤ → ℤ → List ℕ
unknown_line k lo hi = line (((unknown_word ++ show_magnitude digits_max k) ++ colon) ++ show_ends lo hi)

-- the first n unknowns, counted from 1
unfoldable pub unknown_lines : ℕ → List ℤ → List ℤ → List ℕ
unknown_lines zero lo hi = []
unknown_lines (suc k) lo hi = unknown_lines k lo hi ++ unknown_line (suc k) (get_or lo k (pos 0)) (get_or hi k (pos 0))

unfoldable pub units_of : Result → List ℕ
units_of r = show_result r ++ unknown_lines r.n r.lo r.hi

unfoldable pub units_run : Job → List ℕ
units_run j = units_of (result_in (run_job j))

-- a job text is read, run and answered
unfoldable pub units_text : List ℕ → List ℕ
units_text t = units_run (job_in (read_job t))

-- bytes that no line of an unknown reaches
abbrev pub unknown_max : ℕ
unknown_max = 100

-- what the writer of the lines relies on
pub record LinesFit (at : ℕ) (lo hi : List ℤ) (n : ℕ) : Type 0 where
  pub few : n ≤ n_max
  pub room : at + unknown_max * (n_max + 2) ≤ place_max
  pub low : Small (placed n n lo)
  pub high : Small (placed n n hi)

-- what the writer of both relies on: the text is the result's
pub record TextFits (r : Result) (t : List ℕ) : Type 0 where
  pub text : t ≡ show_result r
  pub short : length t ≤ text_max
  pub ready : Ready r
