-- Where a piece ends is the place of the first separator.
use Prim.Native.Nat.{ℕ, zero, suc, ◌+◌, ◌-◌, ◌≤◌, ◌<◌}
use native.Mathlib.Omega.{arith}
use mathlib.Core.Path.{◌≡◌, ap, ◌∙◌}
use mathlib.Core.List.{List, [], ◌∷◌}
use lib.ListN.{length, drop, get_or, length-drop}
use lib.Seq.{get_or-drop}
use borrow.Author.Tests.{eq-eqb, ne_eqb}
use Rattle.text.specs.Cut.{place_of, PieceEnd}

place_at : (sep : ℕ) (l : List ℕ) (e : ℕ) → e ≤ length l → (e < length l → get_or l e 0 ≡ sep)
    → ((k : ℕ) → k < e → get_or l k 0 ≡ sep → ⊥) → place_of sep l ≡ e
unfolding place_of
place_at sep [] e h p n = omega arith
place_at sep (b ∷ l) zero h p n = rw (eq-eqb b sep (p (omega arith)))
place_at sep (b ∷ l) (suc e) h p n =
    rw (ne_eqb b sep (n 0 (omega arith)))
    (ap suc (place_at sep l e (omega arith) (λ q. p (omega arith)) (λ k q. n (suc k) (omega arith))))

module _ {s : List ℕ} {sep e : ℕ} where
  pub end_is : PieceEnd s sep 0 e → place_of sep s ≡ e
  end_is p = place_at sep s e p.inside p.ends (λ k q. p.none k (omega arith) q)

  pub end-from : {a : ℕ} → PieceEnd s sep a e → place_of sep (drop a s) ≡ e - a
  end-from {a} p =
      let n = length-drop a s in
      let h : a ≤ e = p.after in
      let l : e ≤ length s = p.inside in
      let z : a + (e - a) ≡ e = omega arith in
      place_at sep (drop a s) (e - a) (omega arith)
      (λ q. get_or-drop a s (e - a) 0 ∙ ap (λ (i : ℕ). get_or s i 0) z ∙ p.ends (omega arith))
      (λ k q r. p.none (a + k) (omega arith) (omega arith) (rw (← get_or-drop a s k 0) r))
