-- `arguments::longs::long_number` meets its contract.
use mathlib.Core.Path.{◌≡◌, refl, sym, ◌∙◌}
use mathlib.Core.List.{List, [], ◌∷◌}
use Prim.Native.Nat.{ℕ}
use lib.ListN.{take}
use lib.Dec.{eqb}
use Rattle.std.specs.Cmp.Lexicographic.{pointwise}
use Rattle.digits.specs.Bytes.{minus_sign}
use Rattle.text.specs.Keys.{starts_with}
use Rattle.arguments.specs.Longs.{long_of}
use Rattle.arguments.proofs.longs.long_number.Goals as goal

first-minus : (s : List ℕ) → pointwise eqb (take 1 s) (minus_sign ∷ []) ≡ starts_with (minus_sign ∷ []) s
unfolding starts_with
first-minus [] = refl
first-minus (b ∷ bs) = refl

pub returns-in-Some : goal.returns-in-Some
unfolding long_of
returns-in-Some c =
    let h = c.in-Some.ensures.cases in
    rw (sym (first-minus c.args.s.now) ∙ h.0, ← h.1) c.minus.ensures

pub returns-in-None : goal.returns-in-None
unfolding long_of
returns-in-None c = rw (sym (first-minus c.args.s.now) ∙ c.in-None.ensures.cases) c.plus.ensures
