-- Where a line ends.
use Prim.Native.Nat.{ℕ, zero, suc, ◌+◌, ◌-◌, ◌≤◌, ◌<◌}
use native.Mathlib.Omega.{arith}
use mathlib.Core.Path.{◌≡◌, refl, ap, ◌∙◌}
use mathlib.Core.List.{List, [], ◌∷◌}
use mathlib.Core.Bool.{Bool, true, false, cond}
use lib.ListN.{length, drop, get_or, length-drop}
use lib.Seq.{get_or-drop}
use lib.Dec.{eqb, ltb}
use borrow.Author.Tests.{eqb-true, eqb-false}
use Rattle.digits.specs.Bytes.{line_feed}
use Rattle.text.specs.Cut.{place_of, PieceEnd}
use Rattle.text.proofs.Ends.{end-from}
use Rattle.reading.specs.Results.{after}
use Rattle.reading.specs.Places.{part, line_length, line_end, line_at}
use Rattle.std.specs.Prelude.{Err, Result}

-- the first line of a text
first-end : (s : List ℕ) → PieceEnd s line_feed 0 (line_length s)
unfolding place_of
first-end [] = record {
  after = omega arith;
  inside = omega arith;
  ends = λ h. absurd (omega arith);
  none = λ k p q. absurd (omega arith);
}
first-end (b ∷ bs) = go (eqb b line_feed) refl (first-end bs)
  where
    later : (eqb b line_feed ≡ false) → PieceEnd bs line_feed 0 (line_length bs) → (k : ℕ) → k < suc (line_length bs)
        → get_or (b ∷ bs) k 0 ≡ line_feed → ⊥
    later n r zero q e = eqb-false b line_feed n e
    later n r (suc k) q e = r.none k (omega arith) (omega arith) e

    go : (t : Bool) → eqb b line_feed ≡ t → PieceEnd bs line_feed 0 (line_length bs)
        → PieceEnd (b ∷ bs) line_feed 0 (cond t 0 (suc (line_length bs)))
    go true e r = record {
      after = omega arith;
      inside = omega arith;
      ends = λ h. eqb-true b line_feed e;
      none = λ k p q. absurd (omega arith);
    }
    go false e r = record {
      after = omega arith;
      inside = omega arith;
      ends = λ h. r.ends (omega arith);
      none = λ k p q. later e r k q;
    }

module _ (t : List ℕ) (a : ℕ) where
  pub line-end : a ≤ length t → PieceEnd t line_feed a (line_end t a)
  unfolding line_end
  line-end h =
      let p = first-end (drop a t) in
      let n = length-drop a t in
      record {
        after = omega arith;
        inside = omega arith;
        ends = λ k. rw get_or-drop at (p.ends (omega arith));
        none = λ k x y z.
            let e : a + (k - a) ≡ k = omega arith in
            p.none (k - a) (omega arith) (omega arith) (get_or-drop a t (k - a) 0 ∙ ap (λ (i : ℕ). get_or t i 0) e ∙ z);
      }

  pub end_is : {e : ℕ} → PieceEnd t line_feed a e → e ≡ line_end t a
  unfolding line_end
  end_is p = omega (arith, end-from p, p.after)

pub line_after : {F A B : Type 0} (odd : F) (f : List ℕ → Result A F) (h : A → B) (t : List ℕ) (a : ℕ)
    → line_at odd (λ l. after (f l) h) t a ≡ after (line_at odd f t a) h
unfolding line_at after
line_after {F} {A} odd f h t a = go (ltb (line_end t a) (length t)) (f (part t a (line_end t a)))
  where
    go : (b : Bool) (r : Result A F) → cond b (after r h) (Err odd) ≡ after (cond b r (Err odd)) h
    go true r = refl
    go false r = refl
