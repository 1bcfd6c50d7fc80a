-- Laws of a writing, and of two writings, one after the other.
use Prim.Native.Nat.{ℕ, suc, ◌<◌}
use native.Mathlib.Omega.{arith}
use native.Mathlib.Nat.{add-zero}
use mathlib.Core.Path.{◌≡◌, refl, sym, ap, ◌∙◌}
use mathlib.Core.List.{List, [], ◌∷◌, ◌++◌, append_assoc}
use lib.ListN.{length, set, length-append}
use lib.Seq.{sets, set_comm, length-sets}
use Rattle.lists.proofs.Sets.{sets-append}
use Rattle.digits.specs.Bytes.{line_feed}
use Rattle.text.specs.Cut.{end_each}
use Rattle.writing.specs.Wrote.{Wrote, line}

-- a byte right before what stands already
pub sets-before : (l : List ℕ) (i p : ℕ) (bs : List ℕ) (b : ℕ) → p < i → set (sets l i bs) p b ≡ sets (set l p b) i bs
sets-before l i p [] b h = refl
sets-before l i p (x ∷ bs) b h =
    sets-before (set l i x) (suc i) p bs b (omega arith)
    ∙ ap (λ (m : List ℕ). sets m (suc i) bs) (set_comm l i p x b (λ e. omega arith))

pub wrote-append : {x y z : List ℕ} {at r s : ℕ} {a b : List ℕ} → Wrote x y at r a → Wrote y z r s b
    → Wrote x z at s (a ++ b)
wrote-append {x} {y} {z} {at} {r} {s} {a} {b} p q = record {
  next = rw (length-append) (omega (arith, p.next, q.next));
  text = q.text ∙ rw (p.text, p.next) (sym (sets-append x at a b));
}

pub wrote_none : (x : List ℕ) (at : ℕ) → Wrote x x at at []
wrote_none x at = record { next = sym (add-zero at); text = refl }

-- the same bytes
pub wrote_as : {x y : List ℕ} {at r : ℕ} {a b : List ℕ} → a ≡ b → Wrote x y at r a → Wrote x y at r b
wrote_as e w = rw e at w

pub wrote-length : {x y : List ℕ} {at r : ℕ} {a : List ℕ} → Wrote x y at r a → length y ≡ length x
wrote-length {x} {y} {at} {r} {a} p = rw p.text (length-sets x at a)

-- a line, and the lines after it
pub wrote-line : (l : List ℕ) (ls : List (List ℕ)) {x y z : List ℕ} {at r s : ℕ}
    → Wrote x y at r (line l) → Wrote y z r s (end_each line_feed ls) → Wrote x z at s (end_each line_feed (l ∷ ls))
unfolding line end_each
wrote-line l ls p q = rw (append_assoc l (line_feed ∷ []) (end_each line_feed ls)) at (wrote-append p q)

pub wrote-last : (l : List ℕ) {x y : List ℕ} {at r : ℕ} → Wrote x y at r (line l)
    → Wrote x y at r (end_each line_feed (l ∷ []))
unfolding line end_each
wrote-last l p = p

-- a line: its key, what stands behind it, and LF
pub wrote_keyed : {w x y z : List ℕ} {at r s e : ℕ} {key body : List ℕ} → Wrote w x at r key → Wrote x y r s body
    → Wrote y z s e (line_feed ∷ []) → Wrote w z at e (line (key ++ body))
unfolding line
wrote_keyed key body feed = wrote-append (wrote-append key body) feed
