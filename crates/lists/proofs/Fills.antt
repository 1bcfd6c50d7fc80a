-- A turn of a loop that fills a list, as `grind` finds it: from the list's next state.
use mathlib.Core.Path.{◌≡◌, refl, sym}
use Prim.Native.Nat.{ℕ, ◌+◌, ◌<◌}
use lib.ListN.{set, replicate}
use Rattle.lists.specs.Loops.{tab}
use Rattle.lists.proofs.Tab.{tab-none, tab-more}

pub tab_none : {A : Type 0} (m : ℕ) (d : A) (f : ℕ → A) → tab m 0 d f ≡ replicate m d
tab_none m d f = sym (tab-none d m f)

pub tab_next : {A : Type 0} (m n : ℕ) (d : A) (f : ℕ → A) → n < m → tab m (n + 1) d f ≡ set (tab m n d f) n (f n)
tab_next m n d f l = sym (tab-more d m n f l refl refl)

pub ruleset fills = (tab_none, tab_next)
