-- A text that arrives in parts: two parts are the one that they join to.
use Prim.Native.Nat.{ℕ, zero, suc, ◌+◌, ◌≤◌, ◌<◌}
use native.Mathlib.Omega.{arith}
use mathlib.Core.Path.{◌≡◌, refl, sym, ap, ap₂, ◌∙◌}
use mathlib.Core.List.{List, [], ◌∷◌, ◌++◌}
use lib.ListN.{length, take, set, length-append}
use Rattle.digits.specs.Bytes.{line_feed}
use Rattle.text.specs.Cut.{Cut, feeds}
use Rattle.text.proofs.Pieces.{feeds-append}
use Rattle.reading.specs.Lines.{Form, State, Answer, Part, step, opened, more, closed, read}
use Rattle.reading.specs.Refused.{Decides}
use Rattle.reading.proofs.Decided.{decided}

module _ {F L X : Type 0} (g : Form F L X) where
  abbrev part_of : Cut (State F L X) → ℕ → Part F L X
  part_of c n = record { cut = c; size = n }

  pub more-append : (p : Part F L X) (a b : List ℕ) → more g (more g p a) b ≡ more g p (a ++ b)
  unfolding more
  more-append p a b =
      let size : p.size + length a + length b ≡ p.size + length (a ++ b) = omega (arith, length-append a b) in
      ap₂ part_of (sym (feeds-append (step g) line_feed p.cut a b)) size

  pub more-none : (p : Part F L X) → more g p [] ≡ p
  unfolding more feeds
  more-none p = let e : p.size + 0 ≡ p.size = omega arith in ap (part_of p.cut) e

  -- the first bad line decides, whatever bytes come
  pub decided-text : (a b : List ℕ) (f : F) (n : ℕ) → Decides g a f n → length (a ++ b) ≤ g.most
      → read g (a ++ b) ≡ Answer.refused f n
  unfolding read
  decided-text a b f n d h =
      ap (closed g) (sym (more-append (opened g) a b)) ∙ decided g (more g (opened g) a) b f n d (fits_both h)
    where
      fits_both : length (a ++ b) ≤ g.most → (more g (opened g) a).size + length b ≤ g.most
      fits_both h = unfold more in (unfold opened in (omega (arith, length-append a b)))

-- one byte more in a buffer
pub take_put : (xs : List ℕ) (n b : ℕ) → n < length xs → take (suc n) (set xs n b) ≡ take n xs ++ (b ∷ [])
take_put [] n b h = absurd (omega arith)
take_put (x ∷ xs) zero b h = refl
take_put (x ∷ xs) (suc n) b h = ap (λ (l : List ℕ). x ∷ l) (take_put xs n b (omega arith))
