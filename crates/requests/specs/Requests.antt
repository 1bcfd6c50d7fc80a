-- The line of a request, without its LF: what is asked with its arguments, one space, and the length of the text that
-- follows.
use Rattle.std.specs.Prelude.{ℕ, zero, suc, ◌-◌, List, [], ◌∷◌, Bool, true, cond, length, get_or, take, drop, eqb}
use Rattle.std.specs.Prelude.{Some, None, Option, is_some}
use Rattle.text.specs.Keys.{same_bytes}
use Rattle.arguments.specs.Counts.{count_by}
use Rattle.arguments.specs.Words.{space, before, behind}
use Rattle.arguments.specs.Lengths.{are_lengths}
use Rattle.arguments.specs.Boxes.{boxed_by, told_by}
use Rattle.arguments.specs.Depths.{deep_by}
use Rattle.arguments.specs.Visits.{shown_by, read_by}
use Rattle.requests.specs.declared.Op.{Op}
use Rattle.requests.specs.declared.Call.{Call}
use Rattle.requests.specs.declared.Named.{Named}
use Rattle.requests.specs.declared.Request.{Request}

-- `solve`
abbrev pub solve_word : List ℕ
solve_word = 115 ∷ 111 ∷ 108 ∷ 118 ∷ 101 ∷ []

-- `job`
abbrev pub job_word : List ℕ
job_word = 106 ∷ 111 ∷ 98 ∷ []

-- `result`
abbrev pub result_word : List ℕ
result_word = 114 ∷ 101 ∷ 115 ∷ 117 ∷ 108 ∷ 116 ∷ []

-- `parts`
abbrev pub parts_word : List ℕ
parts_word = 112 ∷ 97 ∷ 114 ∷ 116 ∷ 115 ∷ []

-- `image`
abbrev pub image_word : List ℕ
image_word = 105 ∷ 109 ∷ 97 ∷ 103 ∷ 101 ∷ []

-- `decide`
abbrev pub decide_word : List ℕ
decide_word = 100 ∷ 101 ∷ 99 ∷ 105 ∷ 100 ∷ 101 ∷ []

-- `halve`
abbrev pub halve_word : List ℕ
halve_word = 104 ∷ 97 ∷ 108 ∷ 118 ∷ 101 ∷ []

-- `clear`
abbrev pub clear_word : List ℕ
clear_word = 99 ∷ 108 ∷ 101 ∷ 97 ∷ 114 ∷ []

-- `open`
abbrev pub open_word : List ℕ
open_word = 111 ∷ 112 ∷ 101 ∷ 110 ∷ []

-- `step`
abbrev pub step_word : List ℕ
step_word = 115 ∷ 116 ∷ 101 ∷ 112 ∷ []

-- `reading`
abbrev pub reading_word : List ℕ
reading_word = 114 ∷ 101 ∷ 97 ∷ 100 ∷ 105 ∷ 110 ∷ 103 ∷ []

-- `close`
abbrev pub close_word : List ℕ
close_word = 99 ∷ 108 ∷ 111 ∷ 115 ∷ 101 ∷ []

-- the calls on the table of rooms without arguments
unfoldable pub plain_call : List ℕ → Option Named
plain_call w =
    cond (same_bytes clear_word w) (Some (Named.Calls Call.Clear))
    (cond (same_bytes open_word w) (Some (Named.Calls Call.Open))
    None)

-- the operations without arguments
unfoldable pub plain_of : List ℕ → Option Named
plain_of w =
    cond (same_bytes solve_word w) (Some (Named.Is Op.Solve))
    (cond (same_bytes job_word w) (Some (Named.Is Op.Job))
    (cond (same_bytes result_word w) (Some (Named.Is Op.Result))
    (cond (same_bytes image_word w) (Some (Named.Is Op.Image))
    (plain_call w))))

unfoldable pub named_if : Bool → Named → Option Named
named_if good name = cond good (Some name) None

-- `step SLOT VISIT`, `reading SLOT VISIT ROOM`, `close SLOT VISIT`
unfoldable pub argued_call : List ℕ → List ℕ → Option Named
argued_call first rest =
    cond (same_bytes step_word first) (named_if (is_some (shown_by rest)) (Named.Calls Call.Step))
    (cond (same_bytes reading_word first) (named_if (is_some (read_by rest)) (Named.Calls Call.Reading))
    (cond (same_bytes close_word first) (named_if (is_some (shown_by rest)) (Named.Calls Call.Close))
    None))

-- those with arguments: `parts L1,L2,..`, `image LO HI`, `decide N LO HI KLO KHI`, `halve DEPTH ROOM`, and
-- calls on the table
unfoldable pub argued_of : List ℕ → List ℕ → Option Named
argued_of first rest =
    cond (same_bytes parts_word first) (named_if (are_lengths rest) (Named.Is Op.Parts))
    (cond (same_bytes image_word first) (named_if (is_some (boxed_by rest)) (Named.Is Op.ImageIn))
    (cond (same_bytes decide_word first) (named_if (is_some (told_by rest)) (Named.Is Op.Decide))
    (cond (same_bytes halve_word first) (named_if (is_some (deep_by rest)) Named.Lists)
    (argued_call first rest))))

unfoldable pub or_named : Option Named → Option Named → Option Named
or_named (Some name) next = Some name
or_named None next = next

-- the table of the operations
unfoldable pub operation_of : List ℕ → Option Named
operation_of w = or_named (plain_of w) (argued_of (before space w) (behind space w))

-- `decide` has no text
unfoldable pub takes_text : Op → ℕ → Bool
takes_text Op.Solve n = true
takes_text Op.Job n = true
takes_text Op.Parts n = true
takes_text Op.Result n = true
takes_text Op.Image n = true
takes_text Op.ImageIn n = true
takes_text Op.Decide n = eqb n 0

-- of the calls on the table, `open` alone has a text
unfoldable pub call_takes : Call → ℕ → Bool
call_takes Call.Clear n = eqb n 0
call_takes Call.Open n = true
call_takes Call.Step n = eqb n 0
call_takes Call.Reading n = eqb n 0
call_takes Call.Close n = eqb n 0

unfoldable pub takes : Named → ℕ → Bool
takes (Named.Is op) n = takes_text op n
takes Named.Lists n = true
takes (Named.Calls call) n = call_takes call n

-- what so many bytes of the line ask, of a text of so many
unfoldable pub asked : Option Named → Option ℕ → ℕ → Option Request
asked (Some name) (Some n) words =
    cond (takes name n) (Some (record { named = name; length = n; words = words })) None
asked (Some name) None words = None
asked None n words = None

-- the place behind the last space among the first i bytes; 0 where there is none
unfoldable pub after_space : ℕ → List ℕ → ℕ
after_space zero l = 0
after_space (suc i) l = cond (eqb (get_or l i 0) space) (suc i) (after_space i l)

-- what is asked stands before the last space, the length behind it
unfoldable pub split : ℕ → List ℕ → Option Request
split at l = cond (eqb at 0) None (asked (operation_of (take (at - 1) l)) (count_by (drop at l)) (at - 1))

unfoldable pub request_of : List ℕ → Option Request
request_of l = split (after_space (length l) l) l
