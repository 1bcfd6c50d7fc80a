-- The lengths of `parts L1,L2,..`: counts joined by commas.
use Rattle.std.specs.Prelude.{ℕ, List, Bool, true, ◌&&◌}
use Rattle.digits.specs.Bytes.{comma}
use Rattle.text.specs.Cut.{fresh, feeds}
use Rattle.arguments.specs.Counts.{is_spelled}

-- one field more
abbrev pub and_spelled : Bool → List ℕ → Bool
and_spelled good field = good && is_spelled field

-- each field is a count, the one behind the last comma too
unfoldable pub are_lengths : List ℕ → Bool
are_lengths s =
    and_spelled (feeds and_spelled comma (fresh true) s).st (feeds and_spelled comma (fresh true) s).held
