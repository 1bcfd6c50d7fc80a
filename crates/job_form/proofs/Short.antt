-- How long a job without fault is: an end has at most 6 digits, an entry 7, the allowance 4, and n one.
use Prim.Native.Nat.{ℕ, zero, suc, ◌+◌, ◌*◌, ◌≤◌, ◌<◌}
use native.Mathlib.Omega.{arith}
use mathlib.Core.Path.{◌≡◌, refl, ap, ◌∙◌}
use mathlib.Core.List.{List, [], ◌∷◌, ◌++◌, map-append}
use mathlib.Core.Bool.{Bool, true, false, false≢true}
use lib.ListN.{length, get_or, length-append}
use lib.IntN.{ℤ, pos}
use Rattle.sizes.specs.Sizes.{n_max, terms_max, text_max, end_max, entry_max}
use Rattle.lists.proofs.Tab.{length-tab}
use Rattle.digits.specs.Number.{digits_max}
use Rattle.digits.specs.Show.{show_magnitude}
use Rattle.digits.proofs.Show.{show-under}
use Rattle.text.specs.Words.{job_key, n_key, pin_key, lo_key, hi_key, inv_key, steps_key, row_key}
use Rattle.text.specs.Lists.{places_max, show_list}
use Rattle.writing.specs.Wrote
use Rattle.writing.proofs.Lists.{list-under}
use Rattle.writing.proofs.Lines.{line-long, count-line-short, end-length, end-append, end_none}
use Rattle.jobs.specs.Places.{row_at, equation_at}
use Rattle.jobs.specs.Lines.{pin_stands}
use Rattle.jobs.specs.declared.Kind.{Kind}
use Rattle.jobs.specs.declared.Job.{Job}
use Rattle.jobs.specs.declared.JobLine.{JobLine}
use Rattle.reading.specs.Lines.{bytes}
use Rattle.reading.specs.NumberLines.{placed}
use Rattle.reading.specs.Shows.{lines_of, Passed}
use Rattle.checks.specs.Accepted.{AllWithin, GoodSystem, GoodPin, Accepted}
use Rattle.term_write.proofs.Terms.{equation-under}
use Rattle.lines.specs.Texts.{count_text, kind_text, row_text, matrix_list}
use Rattle.lines.proofs.Checks.{within-below, below-snoc}
use Rattle.lines.proofs.Squares.{square-fits}
use Rattle.lines.proofs.Rows.{matrix-long, matrix-within}
use Rattle.job_form.specs.JobBytes.{system_text, low_text, job_line, pin_written, low_kinds, high_kinds}
use Rattle.job_form.specs.JobBytes.{inverse_kinds, box_kinds, system_kinds, job_prior, job_shows, job_bytes}
use Rattle.job_form.proofs.Lows.{pin_first, low-lines-are}
use Rattle.job_form.proofs.Judged.{passed-accepted}

-- lo or hi: a comma, a minus and 6 digits for each number
abbrev ends_width : ℕ
ends_width = 4 + 8 * n_max

-- the longest line of a system, `eq`: a comma, a minus, 7 digits, a colon and the exponents for each term
abbrev system_width : ℕ
system_width = 4 + (10 + n_max) * terms_max

-- job, kind, n, the pin and lo
abbrev low_width : ℕ
low_width = 14 + 12 + 4 + 6 + ends_width

-- with hi, inv, steps and the system
abbrev pub job_width : ℕ
job_width = low_width + ends_width + (5 + 9 * places_max) + 11 + system_width * n_max

word-short : (k : Kind) → length (Wrote.line (kind_text k)) ≤ 12
unfolding Wrote.line
word-short Kind.Poly = omega arith
word-short Kind.Linear = omega arith
word-short Kind.Eigen = omega arith

-- a pin that is written is one digit
pin-small : (k : Kind) (n pin : ℕ) → n ≤ n_max → GoodPin k n pin → pin_stands k n pin ≡ true → pin < 10
pin-small Kind.Poly n pin few good w = absurd (false≢true w)
pin-small Kind.Linear n pin few good w = absurd (false≢true w)
pin-small Kind.Eigen n pin few good w = omega (arith, good.1)

ends-append : (a b : List (List ℕ)) → length (bytes (a ++ b)) ≡ length (bytes a) + length (bytes b)
ends-append a b = ap length (end-append a b) ∙ length-append (bytes a) (bytes b)

module _ (j : Job) (a : Accepted j) where
  abbrev n : ℕ
  n = j.head.n

  -- a line of n ends
  ends-short : (key : List ℕ) (xs : List ℤ) → AllWithin xs n end_max
      → length (Wrote.line (row_text key n xs)) ≤ length key + 8 * n_max + 1
  ends-short key xs w =
      rw (line-long key (show_list (placed n n xs)))
      (omega (
        arith,
        list-under digits_max 5 (placed n n xs) (within-below n xs 6 end_max (omega arith) w),
        length-tab (pos 0) n n (λ i. get_or xs i (pos 0)),
        a.few,
      ))

  kind-short : (k : Kind) (i : ℕ) → GoodSystem k j i → length (Wrote.line (system_text k j i)) ≤ system_width
  unfolding system_text
  kind-short Kind.Poly i g =
      omega (
        arith,
        equation-under n (equation_at j.system.eqs i) 6 a.few (λ k l. omega (arith, (g.size k l).abs)),
        g.few,
      )
  kind-short Kind.Linear i g =
      let row = placed n n (row_at j.system.rows i) in
      let right = get_or j.system.right i (pos 0) in
      rw (line-long row_key (show_list (row ++ (right ∷ []))))
      (omega (
        arith,
        list-under digits_max 6 (row ++ (right ∷ []))
            (below-snoc 7 row right (within-below n (row_at j.system.rows i) 7 entry_max (omega arith) g.0)
            (omega (arith, g.1.abs))),
        length-append row (right ∷ []),
        length-tab (pos 0) n n (λ k. get_or (row_at j.system.rows i) k (pos 0)),
        a.few,
      ))
  kind-short Kind.Eigen i g =
      let row = placed n n (row_at j.system.rows i) in
      rw (line-long row_key (show_list row))
      (omega (
        arith,
        list-under digits_max 6 row (within-below n (row_at j.system.rows i) 7 entry_max (omega arith) g),
        length-tab (pos 0) n n (λ k. get_or (row_at j.system.rows i) k (pos 0)),
        a.few,
      ))

  system-short : (m : ℕ) → m ≤ n → length (bytes (lines_of job_shows j (system_kinds m))) ≤ system_width * m
  unfolding system_kinds
  system-short zero h = rw end_none (omega arith)
  system-short (suc m) h =
      let l = system_text j.head.kind j m in
      rw (map-append (λ k. job_shows.line k j) (system_kinds m) (JobLine.System m ∷ []))
      (omega (
        arith,
        ends-append (lines_of job_shows j (system_kinds m)) (l ∷ []),
        end-length l [],
        end_none,
        kind-short j.head.kind m (a.system m h),
        system-short m (omega arith),
      ))

  -- the lines up to lo: job, kind, n, lo and perhaps the pin
  low-short : length (bytes (lines_of job_shows j (low_kinds j))) ≤ low_width
  low-short = rw (low-lines-are j) (go (pin_written j) refl)
    where
      count : (key : List ℕ) (m : ℕ) → m < 10 → length (Wrote.line (count_text key m)) ≤ length key + 2
      count key m h = rw (line-long key (show_magnitude digits_max m)) (omega (arith, show-under digits_max 0 m h))

      number : length (Wrote.line (count_text job_key j.head.number)) ≤ 14
      number = omega (arith, count-line-short job_key j.head.number)

      pin : (b : Bool) → pin_written j ≡ b
          → length (bytes (pin_first b (count_text pin_key j.head.pin) (low_text j))) ≤ 6 + ends_width
      pin true w =
          let small = pin-small j.head.kind n j.head.pin a.few a.pin w in
          rw (end-length _ _, end-length _ _, end_none)
          (omega (arith, count pin_key j.head.pin small, ends-short lo_key j.ends.lo a.low))
      pin false w = rw (end-length _ _, end_none) (omega (arith, ends-short lo_key j.ends.lo a.low))

      go : (b : Bool) → pin_written j ≡ b
          → length (bytes (count_text job_key j.head.number ∷ kind_text j.head.kind ∷ count_text n_key n
          ∷ pin_first b (count_text pin_key j.head.pin) (low_text j))) ≤ low_width
      go b w =
          rw (end-length _ _, end-length _ _, end-length _ _)
          (omega (
            arith,
            number,
            word-short j.head.kind,
            count n_key n (omega (arith, a.few)),
            pin b w,
          ))

  -- one line more
  next-long : (ks : List JobLine) (k : JobLine)
      → length (bytes (lines_of job_shows j (ks ++ (k ∷ []))))
      ≡ length (bytes (lines_of job_shows j ks)) + length (Wrote.line (job_line k j))
  next-long ks k =
      rw (map-append (λ k. job_shows.line k j) ks (k ∷ []))
      (omega (
        arith,
        ends-append (lines_of job_shows j ks) (job_line k j ∷ []),
        end-length (job_line k j) [],
        end_none,
      ))

  inverse-short : length (Wrote.line (job_line JobLine.Inv j)) ≤ 5 + 9 * places_max
  inverse-short =
      rw (line-long inv_key (show_list (matrix_list j.inv n)))
      (omega (
        arith,
        list-under digits_max 6 (matrix_list j.inv n)
            (matrix-within n a.some a.few j.inv 7 (omega arith) a.inverse),
        matrix-long j.inv n,
        square-fits n a.few,
      ))

  steps-short : length (Wrote.line (job_line JobLine.Steps j)) ≤ 11
  steps-short =
      rw (line-long steps_key (show_magnitude digits_max j.steps))
      (omega (arith, show-under digits_max 3 j.steps (omega (arith, a.steps))))

  pub job-width : length (job_bytes j) ≤ job_width
  job-width =
      rw (map-append (λ k. job_shows.line k j) (box_kinds j) (system_kinds n))
      (omega (
        arith,
        ends-append (lines_of job_shows j (box_kinds j)) (lines_of job_shows j (system_kinds n)),
        next-long (inverse_kinds j) JobLine.Steps,
        next-long (high_kinds j) JobLine.Inv,
        next-long (low_kinds j) JobLine.Hi,
        low-short,
        ends-short hi_key j.ends.hi a.high,
        inverse-short,
        steps-short,
        system-short n (omega arith),
        a.few,
      ))

-- no job without fault is longer than a text may be
pub passed-short : (j : Job) → Passed job_shows (job_prior JobLine.End j) j → length (job_bytes j) ≤ text_max
passed-short j p = omega (arith, job-width j (passed-accepted j p))
