-- A loop over the fields of a list: what one turn does to the places that it fills.
use Prim.Native.Nat.{ℕ, suc, ◌+◌, ◌-◌, ◌≤◌, ◌<◌}
use native.Mathlib.Omega.{arith}
use mathlib.Core.Path.{◌≡◌, sym, ap, ◌∙◌}
use mathlib.Core.List.{List}
use mathlib.Core.Bool.{cond}
use lib.ListN.{length, take, drop, set, length-drop}
use lib.Seq.{drop-drop}
use lib.Dec.{ltb}
use lib.IntN.{ℤ}
use borrow.Author.Tests.{lt-ltb, le-ltb}
use Rattle.sizes.specs.Sizes.{n_max}
use Rattle.digits.specs.Bytes.{comma}
use Rattle.text.specs.Cut.{place_of, PieceEnd}
use Rattle.text.proofs.Ends.{end-from}
use Rattle.arguments.specs.Longs.{long_of}
use Rattle.arguments.specs.Words.{before, behind}
use Rattle.arguments.specs.Lists.{if_number, places_from, places_of}
use Rattle.std.specs.Prelude.{Some, None}

-- the fields from `from` on come to the places from i on
pub record Inv (s : List ℕ) (at : List ℤ) (from i : ℕ) : Type 0 where
  pub few : i ≤ n_max
  pub inside : from ≤ length s
  pub same : places_from (n_max - i) i at (drop from s) ≡ places_of s

module _ (k i : ℕ) (at : List ℤ) (t : List ℕ) where
  first-bad : long_of (before comma t) ≡ None → places_from (suc k) i at t ≡ None
  unfolding places_from if_number
  first-bad e = rw e

  first_good : (v : ℤ) → long_of (before comma t) ≡ Some v
      → places_from (suc k) i at t
      ≡ cond (ltb (place_of comma t) (length t)) (places_from k (i + 1) (set at i v) (behind comma t))
      (Some (set at i v))
  unfolding places_from if_number
  first_good v e = rw e

module _ {s : List ℕ} {at : List ℤ} {from i e : ℕ} (inv : Inv s at from i) (p : PieceEnd s comma from e)
    (h : i < n_max) where
  first-is : before comma (drop from s) ≡ take (e - from) (drop from s)
  unfolding before
  first-is = rw (end-from p)

  rest-is : behind comma (drop from s) ≡ drop (e + 1) s
  unfolding behind
  rest-is =
      let z : from + (e - from + 1) ≡ e + 1 = omega (arith, p.after) in
      rw (end-from p, drop-drop, z)

  from-here : places_from (suc (n_max - (i + 1))) i at (drop from s) ≡ places_of s
  from-here = let z : n_max - i ≡ suc (n_max - (i + 1)) = omega arith in rw z at inv.same

  pub field-bad : None ≡ long_of (take (e - from) (drop from s)) → None ≡ places_of s
  field-bad b = sym (first-bad _ i at (drop from s) (ap long_of first-is ∙ sym b)) ∙ from-here

  module _ {v : ℤ} (n : Some v ≡ long_of (take (e - from) (drop from s))) where
    next : cond (ltb (e - from) (length (drop from s)))
        (places_from (n_max - (i + 1)) (i + 1) (set at i v) (drop (e + 1) s)) (Some (set at i v))
        ≡ places_of s
    next =
        rw (end-from p, rest-is) at (sym (first_good _ i at (drop from s) v (ap long_of first-is ∙ sym n)) ∙ from-here)

    pub field-last : e ≡ length s → Some (set at i v) ≡ places_of s
    field-last q = rw (le-ltb (e - from) (length (drop from s)) (omega (arith, length-drop from s))) at next

    pub field-more : (e ≡ length s → ⊥) → Inv s (set at i v) (e + 1) (i + 1)
    field-more q =
        let g : e < length s = omega (arith, p.inside) in
        record {
          few = omega arith;
          inside = omega arith;
          same = rw (lt-ltb (e - from) (length (drop from s)) (omega (arith, length-drop from s, p.after))) at next;
        }

pub fields-over : {s : List ℕ} {at : List ℤ} {from i : ℕ} → Inv s at from i → n_max ≤ i → None ≡ places_of s
unfolding places_from
fields-over {s} {at} {from} {i} inv h = let z : n_max - i ≡ 0 = omega arith in rw z at inv.same
