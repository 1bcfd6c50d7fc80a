-- What each call does to the rooms: the one that it is about, and every other.
use Prim.Native.Nat.{ℕ, ◌+◌, ◌≤◌, ◌<◌}
use native.Mathlib.Omega.{arith}
use mathlib.Core.Path.{◌≡◌, refl, sym, ap, ◌∙◌}
use mathlib.Core.Bool.{true, true≢false}
use mathlib.Core.List.{List, [], ◌∷◌}
use mathlib.Core.Logic.{◌⊎◌, inl, inr}
use lib.ListN.{length, drop, length-drop}
use Rattle.digits.proofs.Cases.{either}
use lib.Seq.{sets, length-sets, length-take-le}
use Rattle.faults.specs.Checked.{Checked, status_of}
use Rattle.faults.specs.Checks.{is_bad}
use Rattle.text.specs.Cut.{feeds}
use Rattle.jobs.specs.declared.Job.{Job}
use Rattle.jobs.specs.declared.Result.{Result}
use Rattle.checks.specs.CheckResult.{check_result}
use Rattle.reading.specs.Lines.{closed, more, opened, ended, read}
use Rattle.job_form.specs.JobForm.{read_job}
use Rattle.result_form.specs.ResultForm.{read_result}
use Rattle.result_form.specs.ResultShows.{show_result, live}
use Rattle.result_form.proofs.Answers as result
use Rattle.cells.specs.Cells.{number_at, cell, text_at}
use Rattle.cells.proofs.Parts.{part-before, part-behind, part-inside}
use Rattle.cells.proofs.Cells.{number-before, text-before, text-behind, number_behind}
use Rattle.cells.proofs.Cells.{length_back, text-back, cell-length}
use Rattle.room_form.specs.Table.{rooms_max, reading_from, reading_most, job_from, job_most, slot_size, table_size}
use Rattle.room_form.specs.Table.{slot_from}
use Rattle.room_form.specs.Table.{slot_in, last_in, is_visit}
use Rattle.room_form.proofs.PutReading.{reading-short}
use Rattle.room_form.proofs.Opening.{job-short}
use Rattle.room_form.proofs.Visited.{Visited}
use Rattle.std.specs.Prelude.{Ok}

-- ---- places

-- two slots do not overlap
apart : (i k : ℕ) → (i ≡ k → ⊥) → (slot_from i + slot_size ≤ slot_from k) ⊎ (slot_from k + slot_size ≤ slot_from i)
apart i k ne = either i k (λ l. inl (omega arith)) (λ l. inr (omega (arith, less l)))
  where
    less : k ≤ i → k < i
    less l = omega (arith, ne)

module _ (t : List ℕ) (k : ℕ) (at : ℕ) (xs : List ℕ) (room : at + length xs ≤ slot_size) where
  -- what is set in slot k leaves every other slot as it is
  pub other-slot : (i : ℕ) → (i ≡ k → ⊥) → slot_in (sets t (slot_from k + at) xs) i ≡ slot_in t i
  other-slot i ne = go (apart i k ne)
    where
      go : (slot_from i + slot_size ≤ slot_from k) ⊎ (slot_from k + slot_size ≤ slot_from i)
          → slot_in (sets t (slot_from k + at) xs) i ≡ slot_in t i
      go (inl l) = part-before t (slot_from i) slot_size (slot_from k + at) xs (omega arith)
      go (inr l) = part-behind t (slot_from i) slot_size (slot_from k + at) xs (omega arith)

  pub own-slot : slot_in (sets t (slot_from k + at) xs) k ≡ sets (slot_in t k) at xs
  own-slot = part-inside t (slot_from k) slot_size at xs room

  -- and the last visit number
  pub same-last : last_in (sets t (slot_from k + at) xs) ≡ last_in t
  same-last = number-before t 0 (slot_from k + at) xs (omega arith)

-- what is set in the head leaves every slot as it is
pub head-set : (t xs : List ℕ) (i : ℕ) → length xs ≤ 4 → slot_in (sets t 0 xs) i ≡ slot_in t i
head-set t xs i h = part-behind t (slot_from i) slot_size 0 xs (omega arith)

-- a slot has all its bytes
pub slot-long : (t : List ℕ) (k : ℕ) → table_size ≤ length t → k < rooms_max → length (slot_in t k) ≡ slot_size
slot-long t k h l = length-take-le slot_size (drop (slot_from k) t) (omega (arith, length-drop (slot_from k) t))

-- no right text is empty
text-some : (text : List ℕ) → status_of (read_job text) ≡ Ok tt → length text ≡ 0 → ⊥
unfolding read_job read closed more opened ended feeds
text-some [] e none = true≢false (ap is_bad e)
text-some (x ∷ xs) e none = omega arith

-- ---- a reading that is written into a slot which holds a visit

module _ (s : List ℕ) (j : Job) (r : Result) (long : length s ≡ slot_size) (right : check_result r ≡ Ok tt)
    (alive : live r ≡ r) where
  abbrev shown : List ℕ
  shown = show_result r

  abbrev s' : List ℕ
  s' = sets s reading_from (cell shown)

  short : length shown ≤ reading_most
  short = reading-short r right

  before-job : reading_from + length (cell shown) ≤ job_from
  before-job = omega (arith, short, cell-length shown)

  text-there : text_at s' reading_from ≡ shown
  text-there = text-back s reading_from shown (omega (arith, long, short)) (omega (arith, short))

  length-there : number_at s' reading_from ≡ length shown
  length-there = length_back s reading_from shown (omega (arith, long, short)) (omega (arith, short))

  reading-there : read_result (text_at s' reading_from) ≡ Ok r
  reading-there = ap read_result text-there ∙ (result.exactly shown r).1 (refl, right, alive)

  job-length : number_at s' job_from ≡ number_at s job_from
  job-length = number_behind s job_from reading_from (cell shown) before-job

  job-there : text_at s' job_from ≡ text_at s job_from
  job-there = text-behind s job_from reading_from (cell shown) before-job

  pub read_again : {last : ℕ} {was : Result} → Visited last s j was → is_visit last j r ≡ true → Visited last s' j r
  read_again v visit = record {
    some = λ e. v.some (sym job-length ∙ e);
    reading-fits = omega (arith, length-there, short);
    job-fits = omega (arith, job-length, v.job-fits);
    job = ap read_job job-there ∙ v.job;
    reading = reading-there;
    visit = visit;
  }

  -- and a job text behind it
  module _ (text : List ℕ) (read : read_job text ≡ Ok j) where
    fits : length text ≤ job_most
    fits = job-short text (ap (λ (x : Checked Job). status_of x) read)

    abbrev s'' : List ℕ
    s'' = sets s' job_from (cell text)

    long' : length s' ≡ slot_size
    long' = length-sets s reading_from (cell shown) ∙ long

    room : job_from + 4 + length text ≤ length s'
    room = omega (arith, long', fits)

    pub visitor-there : {last : ℕ} → is_visit last j r ≡ true → Visited last s'' j r
    visitor-there visit = record {
      some = λ e.
          text-some text (ap (λ (x : Checked Job). status_of x) read)
          (sym (length_back s' job_from text room (omega (arith, fits))) ∙ e);
      reading-fits = omega (
        arith,
        number-before s' reading_from job_from (cell text) (omega arith),
        length-there,
        short,
      );
      job-fits = omega (arith, length_back s' job_from text room (omega (arith, fits)), fits);
      job = ap read_job (text-back s' job_from text room (omega (arith, fits))) ∙ read;
      reading = ap read_result (text-before s' reading_from job_from (cell text) (omega (arith, length-there, short)))
          ∙ reading-there;
      visit = visit;
    }
