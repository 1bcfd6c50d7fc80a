-- The bytes of a request: its line, and what is kept of its text.
use Rattle.std.specs.Prelude.{ℕ, ◌+◌, ◌-◌, ◌≤◌, min, ◌≡◌, List, cond, length, None, Some, Option, take, ltb, leb}
use Rattle.sizes.specs.Sizes.{text_max}
use Rattle.digits.specs.Bytes.{line_feed}
use Rattle.text.specs.Cut.{place_of}
use Rattle.requests.specs.Requests.{request_of}
use Rattle.requests.specs.declared.Request.{Request}
use Rattle.requests.specs.declared.packets.Seen.{Seen}

-- bytes of a request's line, its LF included
abbrev pub header_max : ℕ
header_max = 4096

-- of a text that is too long, one byte more than may be is kept, and the others are passed over
abbrev pub kept_of : ℕ → ℕ
kept_of n = min n (text_max + 1)

abbrev pub passed_of : ℕ → ℕ
passed_of n = n - kept_of n

-- of n bytes at hand, those from `from` on are of the text
unfoldable pub text_of : Request → ℕ → ℕ → Seen
text_of r from n =
    cond (ltb n (from + kept_of r.length)) Seen.More
    (Seen.Whole
    (record {
      named = r.named;
      words = r.words;
      from = from;
      to = from + kept_of r.length;
      passed = passed_of r.length;
    }))

unfoldable pub text_at : Option Request → ℕ → ℕ → Seen
text_at None from n = Seen.Bad
text_at (Some r) from n = text_of r from n

unfoldable pub look_at : ℕ → List ℕ → Seen
look_at end have =
    cond (leb header_max end) Seen.Bad
    (cond (leb (length have) end) Seen.More
    (text_at (request_of (take end have)) (end + 1) (length have)))

-- a line has at most so many bytes; while it has fewer and no LF, more may come
unfoldable pub look_of : List ℕ → Seen
look_of have = look_at (place_of line_feed have) have

-- of n bytes at hand, a packet's words are the first, and behind them stands its text
abbrev pub PlacesIn : Seen → ℕ → Type 0
PlacesIn Seen.More n = Unit {0}
PlacesIn Seen.Bad n = Unit {0}
PlacesIn (Seen.Whole p) n = (p.words ≤ p.from) × (p.from ≤ p.to) × (p.to ≤ n)

-- what is seen of n bytes at hand, and that a packet's places are among them
pub record Inside (r is : Seen) (n : ℕ) : Type 0 where
  pub same : r ≡ is
  pub places : PlacesIn r n
