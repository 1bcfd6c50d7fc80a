-- What a pin line says, by the number that it holds.
use Rattle.std.specs.Prelude.{ℕ, ℤ, cond, ◌&&◌, leb, ltb, pos, negsuc, Ok, Err, Some, None, Option}
use Rattle.faults.specs.declared.Fault.{Fault}
use Rattle.faults.specs.Checked.{Found}

-- "9 for a written pin of n, or any pin not 1 to n, .. after 2": what is left is 1 to n - 1
abbrev pub pin_by : ℕ → Option ℤ → Found ℕ
pin_by n None = Err Fault.Spelling
pin_by n (Some (pos p)) = cond (leb 1 p && ltb p n) (Ok p) (Err Fault.Pin)
pin_by n (Some (negsuc m)) = Err Fault.Pin
