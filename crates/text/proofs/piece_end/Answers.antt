use Prim.Native.Nat.{ℕ, ◌+◌, ◌-◌, ◌≤◌, ◌<◌}
use native.Mathlib.Omega.{arith}
use mathlib.Core.Path.{◌≡◌, sym, ap, ◌∙◌}
use mathlib.Core.List.{List}
use lib.ListN.{length, drop, get_or, length-drop}
use lib.Seq.{get_or-drop}
use Rattle.digits.proofs.Lists.{to_end}
use Rattle.text.specs.Cut.{PieceEnd}
use Rattle.text.proofs.piece_end.Goals as goal

module _ (s : List ℕ) (sep a n : ℕ) where
  at_end : a ≤ length s → n ≤ length (drop a s) → (n < length (drop a s) → get_or (drop a s) n 0 ≡ sep)
      → ((k : ℕ) → k < n → get_or (drop a s) k 0 ≡ sep → ⊥) → PieceEnd s sep a (a + n)
  at_end h w f b =
      let l = length-drop a s in
      record {
        after = omega arith;
        inside = omega arith;
        ends = λ q. sym (get_or-drop a s n 0) ∙ f (omega arith);
        none = λ k p q e.
            let z : a + (k - a) ≡ k = omega arith in
            b (k - a) (omega arith) (get_or-drop a s (k - a) 0 ∙ ap (λ (i : ℕ). get_or s i 0) z ∙ e);
      }

pub returns : goal.returns
returns c =
    let e = c.len_before.ensures in
    let t = to_end c.args.a c.args.s.now in
    at_end c.args.s.now c.args.sep c.args.a c.len_before.result c.requires (rw t at e.within) (rw t at e.found)
    (rw t at e.before)
