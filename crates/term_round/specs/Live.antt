-- An equation with zeros in its dead places.
use Rattle.std.specs.Prelude.{ℕ}
use Rattle.sizes.specs.Sizes.{n_max, terms_max}
use Rattle.lists.specs.Loops.{tab}
use Rattle.jobs.specs.Places.{exp_of, term_at}
use Rattle.jobs.specs.Zero.{zero_term}
use Rattle.jobs.specs.declared.Term.{Term}
use Rattle.jobs.specs.declared.Equation.{Equation}

unfoldable pub live_term : ℕ → Term → Term
live_term n t = record { coef = t.coef; exps = tab n_max n 0 (exp_of t) }

-- "places past n play no part; a reader and every result leave them zero"
unfoldable pub live_equation : ℕ → Equation → Equation
live_equation n q = record { count = q.count; terms = tab terms_max q.count zero_term (λ k. live_term n (term_at q k)) }
