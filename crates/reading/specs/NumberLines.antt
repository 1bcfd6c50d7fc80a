-- Lines of a key and numbers, for any faults: `odd` is that of a line that is wrongly spelled.
use Rattle.std.specs.Prelude.{ℕ, List, not, take, get_or, eqb, ℤ, pos, Ok, Err, Result}
use Rattle.lists.specs.Loops.{tab}
use Rattle.digits.specs.Number.{read_number}
use Rattle.text.specs.Keys.{body_of}
use Rattle.text.specs.Counts.{count_of}
use Rattle.text.specs.Lists.{Numbers, read_list}
use Rattle.reading.specs.declared.Listed.{Listed}
use Rattle.reading.specs.Results.{refuse}
use Rattle.text.specs.declared.Uncounted.{Uncounted}

-- the first n numbers in m places, and zeros past them
abbrev pub placed : ℕ → ℕ → List ℤ → List ℤ
placed m n xs = tab m n (pos 0) (λ i. get_or xs i (pos 0))

module _ {F : Type 0} (odd : F) where
  -- a number from 0 to its limit
  unfoldable pub counted : F → Result ℕ Uncounted → Result ℕ F
  counted out (Err Uncounted.Bad) = Err odd
  counted out (Err Uncounted.Out) = Err out
  counted out (Ok m) = Ok m

  unfoldable pub count_line : F → List ℕ → ℕ → List ℕ → Result ℕ F
  count_line out key most l = counted out (count_of most (read_number (body_of key l)))

  -- a list of any length, of which m places are kept
  unfoldable pub listed : ℕ → Numbers → Result Listed F
  listed m a = refuse (not a.ok) odd (Ok (record { count = a.count; row = take m a.vals }))

  unfoldable pub list_line : List ℕ → ℕ → List ℕ → Result Listed F
  list_line key m l = listed m (read_list (body_of key l))

  -- "a list of the wrong count": one of n numbers
  unfoldable pub rowed : ℕ → ℕ → Numbers → Result (List ℤ) F
  rowed m n a = refuse (not a.ok) odd (refuse (not (eqb a.count n)) odd (Ok (take m a.vals)))

  unfoldable pub row_line : List ℕ → ℕ → ℕ → List ℕ → Result (List ℤ) F
  row_line key m n l = rowed m n (read_list (body_of key l))
