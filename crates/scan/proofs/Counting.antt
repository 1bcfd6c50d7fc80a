-- The one number of a line, and a line of known bytes.
use Prim.Native.Nat.{ℕ, ◌+◌, ◌-◌, ◌≤◌, ◌<◌}
use native.Mathlib.Omega.{arith}
use mathlib.Core.Path.{◌≡◌, refl, sym, ap, ◌∙◌}
use mathlib.Core.List.{List, []}
use mathlib.Core.Bool.{Bool, true, false, cond, ◌&&◌}
use lib.ListN.{length, drop, get_or}
use lib.Dec.{eqb, ltb}
use lib.IntN.{ℤ}
use borrow.Author.Tests.{lt-ltb, le-ltb, eq-eqb, ne_eqb}
use Rattle.digits.specs.Bytes.{line_feed}
use Rattle.digits.specs.Number.{read_number}
use Rattle.digits.proofs.Cases.{either}
use Rattle.text.specs.Keys.{starts_with, same_bytes, body_of}
use Rattle.text.specs.Counts.{in_count}
use Rattle.reading.specs.Places.{line_end}
use Rattle.reading.proofs.Ends.{line-end, end_is}
use Rattle.scan.specs.Fields.{is_at, Stops, OnlyNumber}
use Rattle.scan.specs.Lines.{no_feed, line_of, number_of, counted_of, CountFrom, line_is}
use Rattle.scan.proofs.Parts.{part_length}
use Rattle.scan.proofs.Tests.{at-yes, at-no, not-ended, is-ended}
use Rattle.scan.proofs.Keyed.{key-long, no_key, no_body, has_key, same_end, body_at}
use Rattle.scan.proofs.Listing.{empty-bad, number-here, number-other}
use Rattle.std.specs.Prelude.{Option, Some, None}

-- the LF at m ends the line, where none stands before it
pub ends_at : (t : List ℕ) (a m : ℕ) → a ≤ m → ((k : ℕ) → a ≤ k → k < m → line_feed < get_or t k 0)
    → is_at t m line_feed ≡ true → m ≡ line_end t a
ends_at t a m p b z =
    let y = at-yes t m line_feed z in
    end_is t a
    (record {
      after = p;
      inside = omega (arith, y.0);
      ends = λ h. y.1;
      none = λ k x l e.
          omega (arith, b k x l, e);
    })

-- where the line ends no digit stands
stops-line : (t : List ℕ) (a : ℕ) → a ≤ length t → Stops t (line_end t a)
stops-line t a h =
    let p = line-end t a h in
    record { inside = p.inside; other = λ x y z. omega (arith, p.ends x) }

module _ (t : List ℕ) (a : ℕ) (h : a ≤ length t) (v : ℤ) (next : ℕ) (n : OnlyNumber t a v next) where
  number-end : is_at t next line_feed ≡ true → next ≡ line_end t a
  number-end z = ends_at t a next n.after (λ k x l. omega (arith, n.bytes k x l)) z

  number-line : (next ≡ a → ⊥) → is_at t next line_feed ≡ true → number_of [] t a ≡ Some v
  unfolding body_of starts_with
  number-line o z =
      let w = number-end z in
      let s = stops-line t a h in
      rw (lt-ltb (line_end t a) (length t) (omega (arith, (at-yes t next line_feed z).0)), ← w)
      (number-here t a v next n (either a next (λ g. g) (λ g. absurd (o (omega (arith, n.after))))) (rw w s))

  number-none : (a < next → is_at t next line_feed ≡ false) → number_of [] t a ≡ None
  unfolding body_of starts_with
  number-none o =
      let p = line-end t a h in
      either (line_end t a) (length t)
      (λ l.
      rw (lt-ltb (line_end t a) (length t) l)
      (number-other t a v next n (line_end t a) p.after (stops-line t a h)
      (λ g w. at-no t next line_feed (o g) (omega arith) (rw (← w) (p.ends l)))))
      (λ l. rw (le-ltb (line_end t a) (length t) l))

module _ (t key : List ℕ) (from : ℕ) (h : from ≤ length t) where
  no_number : starts_with key (drop from t) ≡ false → number_of key t from ≡ None
  no_number z = rw (no_body t key from h z, empty-bad) (go (ltb (line_end t from) (length t)))
    where
      go : (b : Bool) → cond {A = Option ℤ} b None None ≡ None
      go true = refl
      go false = refl

  number-keyed : no_feed key ≡ true → starts_with key (drop from t) ≡ true
      → number_of key t from ≡ number_of [] t (from + length key)
  unfolding body_of starts_with
  number-keyed a y = rw (ap read_number (body_at t key from h a y), same_end t key from h a y)

  module _ (most : ℕ) where
    pub other_key : starts_with key (drop from t) ≡ false → CountFrom most key t from None
    unfolding counted_of
    other_key z = rw (no_number z)

    module _ (a : no_feed key ≡ true) (y : starts_with key (drop from t) ≡ true)
        {v : ℤ} {next : ℕ} (n : OnlyNumber t (from + length key) v next) where
      room : from + length key ≤ length t
      room = key-long t key from h y

      pub no-count : (from + length key < next → is_at t next line_feed ≡ false)
          → CountFrom most key t from None
      unfolding counted_of
      no-count o = rw (number-keyed a y, number-none t (from + length key) room v next n o)

      pub one-count : (next ≡ from + length key → ⊥) → is_at t next line_feed ≡ true
          → CountFrom most key t from (Some (record { value = in_count most v; next = next + 1 }))
      unfolding counted_of
      one-count o z =
          rw (
            number-keyed a y,
            number-line t (from + length key) room v next n o z,
            ← same_end t key from h a y,
            ← number-end t (from + length key) room v next n z,
          )

module _ (t line : List ℕ) (from : ℕ) (h : from ≤ length t) where
  same-no : (b : Bool) → b && false ≡ false
  same-no true = refl
  same-no false = refl

  line-long : length (line_of t from) ≡ line_end t from - from
  line-long = let p = line-end t from h in part_length t from (line_end t from) p.after p.inside

  pub other-line : starts_with line (drop from t) ≡ false → line_is line t from ≡ false
  unfolding same_bytes
  other-line z =
      not-ended t from (same_bytes line (line_of t from))
      (λ l. rw (no_key t line from h z) (same-no (eqb (length (line_of t from)) (length line))))

  pub line-is : no_feed line ≡ true → starts_with line (drop from t) ≡ true
      → is_at t (from + length line) line_feed ≡ line_is line t from
  unfolding same_bytes
  line-is a y = go (is_at t (from + length line) line_feed) refl
    where
      other : is_at t (from + length line) line_feed ≡ false → line_end t from < length t
          → line_end t from - from ≡ length line → ⊥
      other z l w =
          let p = line-end t from h in
          let u : from + length line ≡ line_end t from = omega (arith, p.after) in
          at-no t (from + length line) line_feed z (omega arith) (rw u (p.ends l))

      go : (b : Bool) → is_at t (from + length line) line_feed ≡ b → b ≡ line_is line t from
      go true z =
          let w = ends_at t (from + length line) (from + length line) (omega arith) (λ k x l. absurd (omega arith)) z
          ∙ same_end t line from h a y in
          sym (is-ended t from (same_bytes line (line_of t from))
          (omega (arith, (at-yes t (from + length line) line_feed z).0))
          (rw (line-long, eq-eqb (line_end t from - from) (length line) (omega arith), has_key t line from h a y)))
      go false z =
          sym (not-ended t from (same_bytes line (line_of t from))
          (λ l. rw (line-long, ne_eqb (line_end t from - from) (length line) (other z l))))
