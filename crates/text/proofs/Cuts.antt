-- A loop that goes through a slice byte by byte and hands on each piece between separators: what one turn does to the
-- fold that it computes.
use Prim.Native.Nat.{ℕ, zero, suc, ◌+◌, ◌-◌, ◌≤◌, ◌<◌}
use native.Mathlib.Omega.{arith}
use native.Mathlib.Numerals.{add-one}
use mathlib.Core.Path.{◌≡◌, refl, ◌∙◌}
use mathlib.Core.List.{List, [], ◌∷◌, ◌++◌}
use lib.ListN.{length, take, drop, get_or, length-drop, drop_of_length-le}
use lib.Seq.{take-suc, drop-cons, get_or-drop}
use borrow.Author.Tests.{eq-eqb, ne_eqb}
use Rattle.text.specs.Cut.{Cut, PieceEnd, fresh, feed, feeds}

-- the part from a to i, and one byte more of it
part-more : (s : List ℕ) (a i : ℕ)
    → a ≤ i → i < length s → take (i + 1 - a) (drop a s) ≡ take (i - a) (drop a s) ++ (get_or s i 0 ∷ [])
part-more s a i p q =
    let e : i + 1 - a ≡ suc (i - a) = omega arith in
    let f : a + (i - a) ≡ i = omega arith in
    rw e (take-suc (drop a s) (i - a) 0 (omega (arith, length-drop a s)) ∙ rw (get_or-drop, f) refl)

-- the state st with the part from a to i held
abbrev pub at_part : {S : Type 0} → S → List ℕ → ℕ → ℕ → Cut S
at_part st s a i = record { st = st; held = take (i - a) (drop a s) }

module _ {S : Type 0} (step : S → List ℕ → S) (sep : ℕ) where
  pub feed-sep : (k : Cut S) (b : ℕ) → b ≡ sep → feed step sep k b ≡ fresh (step k.st k.held)
  unfolding feed
  feed-sep k b e = rw (eq-eqb b sep e)

  pub feed-held : (k : Cut S) (b : ℕ) → (b ≡ sep → ⊥)
      → feed step sep k b ≡ record { st = k.st; held = k.held ++ (b ∷ []) }
  unfolding feed
  feed-held k b n = rw (ne_eqb b sep n)

  pub feeds-none : (k : Cut S) → feeds step sep k [] ≡ k
  unfolding feeds
  feeds-none k = refl

  pub feeds-cons : (k : Cut S) (b : ℕ) (bs : List ℕ) → feeds step sep k (b ∷ bs) ≡ feeds step sep (feed step sep k b) bs
  unfolding feeds
  feeds-cons k b bs = refl

  -- at the end nothing is left to feed
  pub all-fed : (s : List ℕ) (k : Cut S) (i : ℕ) → length s ≤ i → feeds step sep k (drop i s) ≡ k
  unfolding feeds
  all-fed s k i h = rw (drop_of_length-le s h)

  module _ (s : List ℕ) (st : S) (a i : ℕ) (p : a ≤ i) (q : i < length s) where
    pub ended : get_or s i 0 ≡ sep
        → feeds step sep (at_part st s a i) (drop i s)
        ≡ feeds step sep (at_part (step st (take (i - a) (drop a s))) s (i + 1) (i + 1)) (drop (i + 1) s)
    ended e =
        let z : i + 1 - (i + 1) ≡ 0 = omega arith in
        rw (z, drop-cons s i 0 q, add-one i, feeds-cons, feed-sep (at_part st s a i) (get_or s i 0) e)

    pub kept : (get_or s i 0 ≡ sep → ⊥)
        → feeds step sep (at_part st s a i) (drop i s) ≡ feeds step sep (at_part st s a (i + 1)) (drop (i + 1) s)
    kept n =
        rw (
          part-more s a i p q,
          drop-cons s i 0 q,
          add-one i,
          feeds-cons,
          feed-held (at_part st s a i) (get_or s i 0) n,
        )

  -- up to its end a piece is held
  held-from : (s : List ℕ) (st : S) (a : ℕ) (d i : ℕ) → a ≤ i → i + d ≤ length s
      → ((k : ℕ) → a ≤ k → k < i + d → get_or s k 0 ≡ sep → ⊥)
      → feeds step sep (at_part st s a i) (drop i s) ≡ feeds step sep (at_part st s a (i + d)) (drop (i + d) s)
  held-from s st a zero i p q n = let e : i + 0 ≡ i = omega arith in rw e
  held-from s st a (suc d) i p q n =
      let e : i + suc d ≡ i + 1 + d = omega arith in
      let f : feeds step sep (at_part st s a i) (drop i s) ≡ feeds step sep (at_part st s a (i + 1)) (drop (i + 1) s) =
      kept s st a i p (omega arith) (n i p (omega arith)) in
      f ∙ rw e (held-from s st a d (i + 1) (omega arith) (omega arith) (λ k x y. n k x (omega arith)))

  pub held : (s : List ℕ) (st : S) (a e : ℕ) → PieceEnd s sep a e
      → feeds step sep (fresh st) (drop a s) ≡ feeds step sep (at_part st s a e) (drop e s)
  held s st a e p =
      let z : a - a ≡ 0 = omega arith in
      let f : a + (e - a) ≡ e = omega (arith, p.after) in
      rw f at (rw z at (held-from s st a (e - a) a (omega arith) (omega (arith, p.inside, p.after))
      (λ k x y. p.none k x (omega (arith, p.after)))))

  -- a piece that a separator ends
  pub piece : (s : List ℕ) (st : S) (a e : ℕ) → PieceEnd s sep a e → e < length s
      → feeds step sep (fresh st) (drop a s)
      ≡ feeds step sep (fresh (step st (take (e - a) (drop a s)))) (drop (e + 1) s)
  piece s st a e p h =
      let z : e + 1 - (e + 1) ≡ 0 = omega arith in
      held s st a e p ∙ rw z at (ended s st a e p.after h (p.ends h))

-- the last piece too, which no separator ends
abbrev pub closed : {S : Type 0} → (S → List ℕ → S) → Cut S → S
closed step k = step k.st k.held
