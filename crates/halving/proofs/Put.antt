-- Numbers put into a list one after the other.
use Prim.Native.Nat.{ℕ, ◌+◌, ◌≤◌}
use native.Mathlib.Omega.{arith}
use mathlib.Core.Path.{◌≡◌, refl, sym, ap, ◌∙◌}
use mathlib.Core.List.{List, [], ◌∷◌, ◌++◌, append_assoc}
use lib.ListN.{length, set, take, drop, length-append}
use lib.Seq.{length-sets, sets-eq}
use Rattle.std.proofs.lemmas.List.{drop-drop}
use borrow.Rule.Slice.PartMut.{put_mid}
use lib.IntN.{ℤ}
use Rattle.lists.proofs.Sets.{sets-append}
use Rattle.halving.specs.Lists.{Put}

pub put-append : {x y z : List ℤ} {at r s : ℕ} {a b : List ℤ} → Put x y at r a → Put y z r s b
    → Put x z at s (a ++ b)
put-append {x} {y} {z} {at} {r} {s} {a} {b} p q = record {
  next = rw (length-append) (omega (arith, p.next, q.next));
  list = q.list ∙ rw (p.list, p.next) (sym (sets-append x at a b));
}

pub put_one : (x : List ℤ) (at : ℕ) (v : ℤ) → Put x (set x at v) at (at + 1) (v ∷ [])
put_one x at v = record { next = refl; list = refl }

-- a row over the places from `at` on
pub put-copied : {old new row : List ℤ} (at k : ℕ) → new ≡ row → k ≡ length row → at + length row ≤ length old
    → Put old (put_mid at k old new) at (at + length row) row
put-copied {old} {new} {row} at k e l h = record {
  next = refl;
  list = rw (e, l)
      (ap (λ (rest : List ℤ). take at old ++ (row ++ rest)) (drop-drop (length row) at old) ∙ sym (append_assoc (take at old) row (drop (at + length row) old))
      ∙ sym (sets-eq row old at h));
}

pub put-length : {x y : List ℤ} {at r : ℕ} {a : List ℤ} → Put x y at r a → length y ≡ length x
put-length {x} {y} {at} {r} {a} p = rw p.list (length-sets x at a)
