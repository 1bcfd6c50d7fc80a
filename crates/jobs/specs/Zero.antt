-- The zero values: "places past n play no part; a reader and every result leave them zero". Beside a fault all is zero.
use Rattle.std.specs.Prelude.{pos, replicate}
use Rattle.sizes.specs.Sizes.{n_max, terms_max}
use Rattle.jobs.specs.declared.Term.{Term}
use Rattle.jobs.specs.declared.Equation.{Equation}
use Rattle.jobs.specs.declared.Row.{Row}
use Rattle.jobs.specs.declared.Kind.{Kind}
use Rattle.jobs.specs.declared.Head.{Head}
use Rattle.jobs.specs.declared.Ends.{Ends}
use Rattle.jobs.specs.declared.Body.{Body}
use Rattle.jobs.specs.declared.Job.{Job}
use Rattle.jobs.specs.declared.Verdict.{Verdict}
use Rattle.jobs.specs.declared.Result.{Result}

abbrev pub zero_term : Term
zero_term = record { coef = pos 0; exps = replicate n_max 0 }

abbrev pub zero_equation : Equation
zero_equation = record { count = 0; terms = replicate terms_max zero_term }

abbrev pub zero_row : Row
zero_row = record { at = replicate n_max (pos 0) }

abbrev pub zero_head : Head
zero_head = record { number = 0; kind = Kind.Poly; n = 0; pin = 0 }

abbrev pub zero_ends : Ends
zero_ends = record { lo = replicate n_max (pos 0); hi = replicate n_max (pos 0) }

abbrev pub zero_body : Body
zero_body = record {
  eqs = replicate n_max zero_equation;
  rows = replicate n_max zero_row;
  right = replicate n_max (pos 0);
}

abbrev pub no_job : Job
no_job = record { head = zero_head; ends = zero_ends; inv = replicate n_max zero_row; steps = 0; system = zero_body }

abbrev pub no_result : Result
no_result = record {
  number = 0;
  visit = 0;
  verdict = Verdict.None;
  steps = 0;
  n = 0;
  lo = replicate n_max (pos 0);
  hi = replicate n_max (pos 0);
}
