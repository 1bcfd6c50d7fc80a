-- A part taken, as C has it.
use Rattle.faults.specs.Words.{number_of, line_of}
use Rattle.job_parts.specs.declared.Taken as job
use Rattle.floodrafter_c.specs.declared.parts.Taken.{Taken}

abbrev pub numbers_taken : job.Taken → Taken
numbers_taken t = record { fault = number_of t.status; line = line_of t.status; parts = t.parts }
