-- Worked goals: how the laws close what a loop leaves. `i` is the counter, `n` the number of live places.
use mathlib.Core.Path.{◌≡◌, ◌∙◌}
use mathlib.Core.Bool.{Bool, true, false}
use mathlib.Core.List.{List}
use Prim.Native.Nat.{ℕ, ◌+◌, ◌*◌, ◌<◌, ◌≤◌}
use native.Mathlib.Omega.{arith}
use lib.ListN.{set, replicate}
use Rattle.sizes.specs.Sizes.{n_max}
use Rattle.lists.specs.Loops.{tab, carry, all_b}
use Rattle.lists.proofs.Tab.{tab-none, tab-more, tab-done}
use Rattle.lists.proofs.Carry.{carry-none, carry-more, carry-done}
use Rattle.lists.proofs.All.{all_none, all_more, all_done, all-stop}

-- `let mut s = [0; N]; for i in 0..n { s[i] = square(i); }`, with the invariant (i ≤ n) × (s ≡ tab n_max i 0 square)
module _ (n : ℕ) (room : n ≤ n_max) where
  abbrev square : ℕ → ℕ
  square i = i * i

  fill_holds : replicate n_max 0 ≡ tab n_max 0 0 square
  fill_holds = tab-none 0 n_max square

  fill-again : (i : ℕ) (s : List ℕ) (v : ℕ)
      → i < n → s ≡ tab n_max i 0 square → v ≡ i * i → set s i v ≡ tab n_max (i + 1) 0 square
  fill-again i s v l inv e = tab-more 0 n_max i square (omega arith) inv e

  fill-returns : (i : ℕ) (s : List ℕ) → i ≤ n → n ≤ i → s ≡ tab n_max i 0 square → s ≡ tab n_max n 0 square
  fill-returns i s h k inv = tab-done 0 n_max square h k inv

-- `let mut s = 0; for i in 0..n { s = plus(s, i); }`, with the invariant (i ≤ n) × (s ≡ carry i 0 plus)
module _ (n : ℕ) where
  abbrev plus : ℕ → ℕ → ℕ
  plus i s = s + i

  sum-holds : 0 ≡ carry 0 0 plus
  sum-holds = carry-none 0 plus

  sum-again : (i s r : ℕ) → r ≡ s + i → s ≡ carry i 0 plus → r ≡ carry (i + 1) 0 plus
  sum-again i s r e inv = e ∙ carry-more 0 plus i inv

  sum-returns : (i s : ℕ) → i ≤ n → n ≤ i → s ≡ carry i 0 plus → s ≡ carry n 0 plus
  sum-returns i s h k inv = carry-done 0 plus h k inv

-- `for i in 0..n { if !good(i) { return false; } } true`, with the invariant (i ≤ n) × (all_b i good ≡ true)
module _ (n : ℕ) (good : ℕ → Bool) where
  ask_holds : all_b 0 good ≡ true
  ask_holds = all_none good

  ask-again : (i : ℕ) → all_b i good ≡ true → good i ≡ true → all_b (i + 1) good ≡ true
  ask-again i inv e = all_more good i inv e

  ask-no : (i : ℕ) → i < n → good i ≡ false → all_b n good ≡ false
  ask-no i l e = all-stop good n i l e

  ask-yes : (i : ℕ) → i ≤ n → n ≤ i → all_b i good ≡ true → all_b n good ≡ true
  ask-yes i h k inv = all_done good h k inv
