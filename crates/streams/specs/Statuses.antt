-- The exit status: "0 answered; 1 a fault; 2 not run".
use Rattle.std.specs.Prelude.{ℕ}
use Rattle.streams.specs.declared.outcomes.Outcome.{Outcome}

abbrev pub status_of : Outcome → ℕ
status_of Outcome.Answered = 0
status_of Outcome.Fault = 1
status_of Outcome.NotRun = 2
status_of (Outcome.Unread e) = 2
status_of (Outcome.Unwritten e) = 2
