-- What a result text says to the program of before request P12: document 01's lines, "job, verdict, steps, lo, hi",
-- with no visit. What each line says is as in `result_form_of`.
use Rattle.std.specs.Prelude.{ℕ, List}
use Rattle.sizes.specs.Sizes.{text_max}
use Rattle.faults.specs.declared.Fault.{Fault}
use Rattle.jobs.specs.Zero.{no_result}
use Rattle.jobs.specs.declared.Result.{Result}
use Rattle.jobs.specs.declared.ResultLine.{ResultLine}
use Rattle.reading.specs.Results.{after}
use Rattle.reading.specs.Lines.{Next, Form}
use Rattle.lines.specs.Lines.{number_of, misspelled}
use Rattle.result_form.specs.ResultForm.{with_number, leaves, result_says, result_end}
use Rattle.faults.specs.Checked.{Found}

-- the verdict stands after the number, and no line is a visit's
unfoldable pub unvisited_says : ResultLine → Result → List ℕ → Found (Next ResultLine Result)
unvisited_says ResultLine.Number v l = after (number_of l) (λ m. leaves ResultLine.Verdict (with_number v m))
unvisited_says ResultLine.Visit v l = misspelled
unvisited_says ResultLine.Verdict v l = result_says ResultLine.Verdict v l
unvisited_says ResultLine.Steps v l = result_says ResultLine.Steps v l
unvisited_says ResultLine.Lo v l = result_says ResultLine.Lo v l
unvisited_says ResultLine.Hi v l = result_says ResultLine.Hi v l
unvisited_says ResultLine.End v l = result_says ResultLine.End v l

abbrev pub unvisited_number : ResultLine → ℕ
unvisited_number ResultLine.Number = 1
unvisited_number ResultLine.Visit = 2
unvisited_number ResultLine.Verdict = 2
unvisited_number ResultLine.Steps = 3
unvisited_number ResultLine.Lo = 4
unvisited_number ResultLine.Hi = 5
unvisited_number ResultLine.End = 6

abbrev pub unvisited_form : Form Fault ResultLine Result
unvisited_form = record {
  first = ResultLine.Number;
  none = no_result;
  last = result_end;
  number = λ k v. unvisited_number k;
  says = unvisited_says;
  most = text_max;
  long = Fault.LongText;
  odd = Fault.Spelling;
}
