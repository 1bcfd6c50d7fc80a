-- A part of some bytes, after others were set.
use Prim.Native.Nat.{ℕ, suc, ◌+◌, ◌-◌, ◌≤◌, ◌<◌}
use native.Mathlib.Omega.{arith}
use mathlib.Core.Path.{◌≡◌, refl, ap, ◌∙◌}
use mathlib.Core.List.{List, [], ◌∷◌, ◌++◌, append_assoc}
use lib.ListN.{length, take, drop, set, get_or}
use lib.Seq.{sets, sets-eq, length-take-le, drop_at, take-append_seam, take-set-le, take-set-lt, drop-set-lt}
use lib.Seq.{drop-set-add, get_or-take, get_or-drop}
use Rattle.cells.specs.Cells.{part}

-- what was set there
pub part_same : (bs : List ℕ) (a : ℕ) (xs : List ℕ) → a + length xs ≤ length bs → part a (length xs) (sets bs a xs) ≡ xs
part_same bs a xs h =
    ap (part a (length xs)) (sets-eq xs bs a h ∙ append_assoc (take a bs) xs (drop (a + length xs) bs))
    ∙ ap (take (length xs)) (drop_at (take a bs) (xs ++ drop (a + length xs) bs) a (length-take-le a bs (omega arith)))
    ∙ take-append_seam xs (drop (a + length xs) bs)

-- what stands before it
set_before : (bs : List ℕ) (a n i x : ℕ) → a + n ≤ i → part a n (set bs i x) ≡ part a n bs
set_before bs a n i x h =
    let e : i ≡ a + (i - a) = omega arith in
    ap (λ (k : ℕ). part a n (set bs k x)) e
    ∙ ap (take n) (drop-set-add a bs (i - a) x)
    ∙ take-set-le n (drop a bs) (i - a) x (omega arith)

pub part-before : (bs : List ℕ) (a n b : ℕ) (xs : List ℕ) → a + n ≤ b → part a n (sets bs b xs) ≡ part a n bs
part-before bs a n b [] h = refl
part-before bs a n b (x ∷ xs) h =
    part-before (set bs b x) a n (suc b) xs (omega arith) ∙ set_before bs a n b x h

-- what stands behind it
drop-behind : (bs : List ℕ) (a b : ℕ) (xs : List ℕ) → b + length xs ≤ a → drop a (sets bs b xs) ≡ drop a bs
drop-behind bs a b [] h = refl
drop-behind bs a b (x ∷ xs) h =
    drop-behind (set bs b x) a (suc b) xs (omega arith) ∙ drop-set-lt a bs b x (omega arith)

pub part-behind : (bs : List ℕ) (a n b : ℕ) (xs : List ℕ) → b + length xs ≤ a → part a n (sets bs b xs) ≡ part a n bs
part-behind bs a n b xs h = ap (take n) (drop-behind bs a b xs h)

-- set inside a part
pub part-inside : (bs : List ℕ) (a n b : ℕ) (xs : List ℕ) → b + length xs ≤ n
    → part a n (sets bs (a + b) xs) ≡ sets (part a n bs) b xs
part-inside bs a n b [] h = refl
part-inside bs a n b (x ∷ xs) h =
    let e : suc (a + b) ≡ a + suc b = omega arith in
    ap (λ (k : ℕ). part a n (sets (set bs (a + b) x) k xs)) e
    ∙ part-inside (set bs (a + b) x) a n (suc b) xs (omega arith)
    ∙ ap (λ (ys : List ℕ). sets ys (suc b) xs)
    (ap (take n) (drop-set-add a bs b x) ∙ take-set-lt n (drop a bs) b x (omega arith))

-- a byte of a part
pub part-byte : (bs : List ℕ) (a n i : ℕ) → i < n → get_or (part a n bs) i 0 ≡ get_or bs (a + i) 0
part-byte bs a n i h = get_or-take n (drop a bs) i 0 h ∙ get_or-drop a bs i 0

-- as the code cuts a part: from a place on, so many bytes
pub cut-part : (bs : List ℕ) (a n : ℕ) → take (a + n - a) (drop a bs) ≡ part a n bs
cut-part bs a n = let e : a + n - a ≡ n = omega arith in ap (λ (k : ℕ). take k (drop a bs)) e

-- and where their number is told
pub cut-told : (bs : List ℕ) (a : ℕ) {m n : ℕ} → m ≡ n → take (a + m - a) (drop a bs) ≡ part a n bs
cut-told bs a {m} {n} e = let k : a + m - a ≡ n = omega (arith, e) in ap (λ (k : ℕ). take k (drop a bs)) k
