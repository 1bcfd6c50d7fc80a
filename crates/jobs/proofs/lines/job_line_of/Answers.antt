-- `lines::job_line_of` meets its contract: the line after n is line 4.
use Rattle.jobs.proofs.LineLaws.{after-n-fourth}
use Rattle.jobs.proofs.lines.job_line_of.Goals as goal

pub returns-in-4 : goal.returns-in-4
returns-in-4 c some few = rw (c.after_n.ensures, c.in-4.is) (after-n-fourth c.args.head)
