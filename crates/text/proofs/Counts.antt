-- A line of a key and a count, written and read.
use Prim.Native.Nat.{ℕ, ◌≤◌}
use native.Mathlib.Omega.{arith}
use mathlib.Core.Path.{◌≡◌, ap, ◌∙◌}
use mathlib.Core.List.{List, [], ◌++◌}
use mathlib.Core.Bool.{Bool, true, false, cond}
use lib.Dec.{ltb}
use lib.IntN.{ℤ, pos, negsuc}
use borrow.Author.Tests.{lt-ltb}
use Rattle.digits.proofs.Cases.{either}
use Rattle.digits.specs.Number.{digits_max, read_number}
use Rattle.digits.specs.Show.{show_magnitude, show_signed}
use Rattle.digits.proofs.WriteBack.{number-was}
use Rattle.text.specs.Counts.{in_count, count_of}
use Rattle.text.specs.Keys.{body_of}
use Rattle.text.proofs.Keys.{body-was}
use Rattle.std.specs.Prelude.{Ok, Err, Some, None, Option}
use Rattle.text.specs.declared.Uncounted.{Uncounted}

cond-was : (t : Bool) (a m : ℕ) → cond t (Err Uncounted.Out) (Ok a) ≡ Ok m → a ≡ m
cond-was true a m e = absurd (let z : ◌≡◌ {A = ℕ} 0 1 = cc in omega arith)
cond-was false a m e = cc

cond-size : (most a m : ℕ) → cond (ltb most a) (Err Uncounted.Out) (Ok a) ≡ Ok m → m ≤ most
cond-size most a m e =
    either most a
    (λ h. absurd (let f = rw (lt-ltb most a h) at e in let z : ◌≡◌ {A = ℕ} 0 1 = cc in omega arith))
    (λ h. let k = cond-was (ltb most a) a m e in omega arith)

pub count-size : (most : ℕ) (n : Option ℤ) (m : ℕ) → count_of most n ≡ Ok m → m ≤ most
unfolding count_of in_count
count-size most None m e = absurd (let z : ◌≡◌ {A = ℕ} 0 1 = cc in omega arith)
count-size most (Some (pos k)) m e = cond-size most k m e
count-size most (Some (negsuc k)) m e = absurd (let z : ◌≡◌ {A = ℕ} 0 1 = cc in omega arith)

number_of : (most : ℕ) (n : Option ℤ) (m : ℕ) → count_of most n ≡ Ok m → n ≡ Some (pos m)
unfolding count_of in_count
number_of most None m e = absurd (let z : ◌≡◌ {A = ℕ} 0 1 = cc in omega arith)
number_of most (Some (pos k)) m e = ap (λ (x : ℕ). Some (pos x)) (cond-was (ltb most k) k m e)
number_of most (Some (negsuc k)) m e = absurd (let z : ◌≡◌ {A = ℕ} 0 1 = cc in omega arith)

-- nothing is no number
no_number : (b : List ℕ) (v : ℤ) → read_number b ≡ Some v → b ≡ [] → ⊥
unfolding read_number
no_number b v e n = let f = rw n at e in let z : ◌≡◌ {A = ℕ} 0 1 = cc in omega arith

pub count-was : (most : ℕ) (key l : List ℕ) (m : ℕ) → count_of most (read_number (body_of key l)) ≡ Ok m
    → key ++ show_magnitude digits_max m ≡ l
unfolding show_signed
count-was most key l m e =
    let n = number_of most (read_number (body_of key l)) m e in
    ap (λ (x : List ℕ). key ++ x) (number-was (body_of key l) (pos m) n)
    ∙ body-was key l (no_number (body_of key l) (pos m) n)
