-- The form of the table, test by test.
use Prim.Native.Nat.{ℕ, ◌≤◌, ◌<◌}
use mathlib.Core.Path.{◌≡◌, refl}
use mathlib.Core.Bool.{Bool, true, false}
use mathlib.Core.List.{List}
use lib.ListN.{length}
use lib.Dec.{leb}
use borrow.Author.Tests.{le-leb, lt-leb, leb-true}
use Rattle.sizes.specs.Sizes.{visit_max}
use Rattle.term_checks.proofs.RangeLaws.{and_left, and_right}
use Rattle.reading.proofs.Goes.{and-false}
use Rattle.lists.specs.Loops.{all_b}
use Rattle.lists.proofs.All.{all-each}
use Rattle.room_form.specs.Table.{rooms_max, table_size, last_in, room_at, is_whole, whole}

module _ (t : List ℕ) where
  abbrev Each : Bool
  Each = all_b rooms_max (λ k. is_whole (room_at t k))

  pub too_few : length t < table_size → whole t ≡ false
  unfolding whole
  too_few h = rw (lt-leb table_size (length t) h) refl

  pub too_many : visit_max < last_in t → whole t ≡ false
  unfolding whole
  too_many h = rw (lt-leb (last_in t) visit_max h) (and-false (leb table_size (length t)))

  pub by-rooms : table_size ≤ length t → last_in t ≤ visit_max → whole t ≡ Each
  unfolding whole
  by-rooms h l = rw (le-leb table_size (length t) h, le-leb (last_in t) visit_max l) refl

  module _ (e : whole t ≡ true) where
    pub whole_long : table_size ≤ length t
    unfolding whole
    whole_long = leb-true table_size (length t) (and_left _ _ e)

    pub whole-last : last_in t ≤ visit_max
    unfolding whole
    whole-last = leb-true (last_in t) visit_max (and_left _ _ (and_right (leb table_size (length t)) _ e))

    pub whole_each : (k : ℕ) → k < rooms_max → is_whole (room_at t k) ≡ true
    unfolding whole
    whole_each k l =
        all-each _ rooms_max k l (and_right (leb (last_in t) visit_max) _ (and_right (leb table_size (length t)) _ e))
