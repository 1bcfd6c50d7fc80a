-- How a result is written, what is read of it before each line, and what its checks find.
use Rattle.std.specs.Prelude.{ℕ, ◌-◌, ◌<◌, ◌^◌, List, [], ◌∷◌, take}
use Rattle.sizes.specs.Sizes.{n_max}
use Rattle.digits.specs.Number.{digits_max}
use Rattle.text.specs.Lists.{Small}
use Rattle.jobs.specs.Zero.{no_result}
use Rattle.faults.specs.declared.Fault.{Fault}
use Rattle.jobs.specs.declared.Result.{Result}
use Rattle.reading.specs.Lines.{bytes}
use Rattle.reading.specs.NumberLines.{placed}
use Rattle.reading.specs.Shows.{Shows, shown}
use Rattle.jobs.specs.declared.ResultLine.{ResultLine}
use Rattle.jobs.specs.Lines.{result_number}
use Rattle.checks.specs.CheckResult.{result_check}
use Rattle.text.specs.Words.{job_key, visit_key, steps_key, lo_key, hi_key}
use Rattle.lines.specs.Texts.{count_text, verdict_text, row_text}
use Rattle.result_form.specs.ResultForm.{with_number, with_visit, with_verdict, with_steps, with_low, with_high}

abbrev pub line : ResultLine → Result → List ℕ
line ResultLine.Number r = count_text job_key r.number
line ResultLine.Visit r = count_text visit_key r.visit
line ResultLine.Verdict r = verdict_text r.verdict
line ResultLine.Steps r = count_text steps_key r.steps
line ResultLine.Lo r = row_text lo_key r.n r.lo
line ResultLine.Hi r = row_text hi_key r.n r.hi
line ResultLine.End r = []

abbrev pub next : ResultLine → ResultLine
next ResultLine.Number = ResultLine.Visit
next ResultLine.Visit = ResultLine.Verdict
next ResultLine.Verdict = ResultLine.Steps
next ResultLine.Steps = ResultLine.Lo
next ResultLine.Lo = ResultLine.Hi
next ResultLine.Hi = ResultLine.End
next ResultLine.End = ResultLine.End

abbrev pub kinds : List ResultLine
kinds =
    ResultLine.Number ∷ ResultLine.Visit ∷ ResultLine.Verdict ∷ ResultLine.Steps ∷ ResultLine.Lo ∷ ResultLine.Hi ∷ []

-- ---- what is read of a result: "places past n play no part; a reader and every result leave them zero"

abbrev pub upto_visit : Result → Result
upto_visit r = with_number no_result r.number

abbrev pub upto_verdict : Result → Result
upto_verdict r = with_visit (upto_visit r) r.visit

abbrev pub upto_steps : Result → Result
upto_steps r = with_verdict (upto_verdict r) r.verdict

abbrev pub upto_low : Result → Result
upto_low r = with_steps (upto_steps r) r.steps

abbrev pub upto_high : Result → Result
upto_high r = with_low (upto_low r) (record { count = r.n; row = placed n_max r.n r.lo })

abbrev pub upto : ResultLine → Result → Result
upto ResultLine.Number r = no_result
upto ResultLine.Visit r = upto_visit r
upto ResultLine.Verdict r = upto_verdict r
upto ResultLine.Steps r = upto_steps r
upto ResultLine.Lo r = upto_low r
upto ResultLine.Hi r = upto_high r
upto ResultLine.End r = with_high (upto_high r) (placed n_max r.n r.hi)

-- "the same values in the live places"
abbrev pub live : Result → Result
live = upto ResultLine.End

abbrev pub result_shows : Shows Fault ResultLine Result
result_shows = record {
  line = line;
  prior = λ k r. take (result_number k - 1) kinds;
  next = λ k r. next k;
  end = ResultLine.End;
  check = result_check;
  upto = upto;
}

abbrev pub show_result : Result → List ℕ
show_result r = bytes (shown result_shows r)

-- each number has at most nine digits, so that it can be spelled
pub record Spelled (r : Result) : Type 0 where
  pub number : r.number < 10 ^ digits_max
  pub visit : r.visit < 10 ^ digits_max
  pub steps : r.steps < 10 ^ digits_max
  pub low : Small (placed r.n r.n r.lo)
  pub high : Small (placed r.n r.n r.hi)
