-- A number and a text come back from the bytes that they were put into.
use Prim.Native.Nat.{ℕ, ◌+◌, ◌*◌, ◌/◌, ◌%◌, ◌≤◌, ◌<◌}
use native.Mathlib.Omega.{arith}
use mathlib.Core.Path.{◌≡◌, sym, ap, ◌∙◌}
use mathlib.Core.List.{List, [], ◌++◌}
use lib.ListN.{length, get_or, length-append, length-replicate, get_or-replicate}
use lib.Seq.{sets, length-sets}
use Rattle.lists.proofs.Sets.{sets-append}
use Rattle.cells.specs.Cells.{part, number_at, number_end, number_bytes, cell, text_at, zeros}
use Rattle.cells.proofs.Parts.{part_same, part-before, part-behind, part-byte}

four : (v : ℕ) → v < number_end
    → v % 256 + 256 * (v / 256 % 256 + 256 * (v / 256 / 256 % 256 + 256 * (v / 256 / 256 / 256 % 256))) ≡ v
four v h = omega arith

-- a byte that was set, and one that was not
byte-set : (bs : List ℕ) (a : ℕ) (xs : List ℕ) (i : ℕ) → a + length xs ≤ length bs → i < length xs
    → get_or (sets bs a xs) (a + i) 0 ≡ get_or xs i 0
byte-set bs a xs i h l =
    sym (part-byte (sets bs a xs) a (length xs) i l) ∙ ap (λ (ys : List ℕ). get_or ys i 0) (part_same bs a xs h)

module _ (bs : List ℕ) (a : ℕ) (v : ℕ) (rest : List ℕ) where
  -- the number comes back, whatever stands behind it
  pub number-back : a + 4 + length rest ≤ length bs → v < number_end
      → number_at (sets bs a (number_bytes v ++ rest)) a ≡ v
  unfolding number_at number_bytes
  number-back h l =
      let xs = number_bytes v ++ rest in
      let byte : (i : ℕ) → i < 4 → get_or (sets bs a xs) (a + i) 0 ≡ get_or xs i 0 =
      λ i m. byte-set bs a xs i (omega arith) (omega arith) in
      let first : a + 0 ≡ a = omega arith in
      rw (rw first at (byte 0 (omega arith)), byte 1 (omega arith), byte 2 (omega arith), byte 3 (omega arith))
      (four v l)

pub number-alone : (bs : List ℕ) (a v : ℕ) → a + 4 ≤ length bs → v < number_end
    → number_at (sets bs a (number_bytes v)) a ≡ v
unfolding number_bytes
number-alone bs a v h = number-back bs a v [] (omega arith)

-- a number of a part
pub number_in : (bs : List ℕ) (a n i : ℕ) → i + 4 ≤ n → number_at (part a n bs) i ≡ number_at bs (a + i)
unfolding number_at
number_in bs a n i h =
    let byte : (k : ℕ) → k < 4 → get_or (part a n bs) (i + k) 0 ≡ get_or bs (a + i + k) 0 =
    λ k l. part-byte bs a n (i + k) (omega arith) ∙ ap (λ (p : ℕ). get_or bs p 0) (omega arith) in
    let first : i + 0 ≡ i = omega arith in
    let place : a + i + 0 ≡ a + i = omega arith in
    rw (rw (first, place) at (byte 0 (omega arith)), byte 1 (omega arith), byte 2 (omega arith), byte 3 (omega arith))

-- a number depends on its four bytes alone
number-part : (bs : List ℕ) (a : ℕ) → number_at (part a 4 bs) 0 ≡ number_at bs a
number-part bs a =
    let place : a + 0 ≡ a = omega arith in number_in bs a 4 0 (omega arith) ∙ ap (number_at bs) place

number_same : (bs cs : List ℕ) (a : ℕ) → part a 4 bs ≡ part a 4 cs → number_at bs a ≡ number_at cs a
number_same bs cs a e = sym (number-part bs a) ∙ ap (λ (p : List ℕ). number_at p 0) e ∙ number-part cs a

-- what is set elsewhere leaves numbers and texts as they are
module _ (bs : List ℕ) (a b : ℕ) (xs : List ℕ) where
  pub number-before : a + 4 ≤ b → number_at (sets bs b xs) a ≡ number_at bs a
  number-before h = number_same (sets bs b xs) bs a (part-before bs a 4 b xs h)

  pub number_behind : b + length xs ≤ a → number_at (sets bs b xs) a ≡ number_at bs a
  number_behind h = number_same (sets bs b xs) bs a (part-behind bs a 4 b xs h)

  pub text-before : a + 4 + number_at bs a ≤ b → text_at (sets bs b xs) a ≡ text_at bs a
  text-before h =
      rw (number-before (omega arith)) (part-before bs (a + 4) (number_at bs a) b xs h)

  pub text-behind : b + length xs ≤ a → text_at (sets bs b xs) a ≡ text_at bs a
  text-behind h =
      rw (number_behind h) (part-behind bs (a + 4) (number_at bs a) b xs (omega arith))

-- a text comes back
module _ (bs : List ℕ) (a : ℕ) (t : List ℕ) (room : a + 4 + length t ≤ length bs) (short : length t < number_end) where
  pub length_back : number_at (sets bs a (cell t)) a ≡ length t
  length_back = number-back bs a (length t) t room short

  pub text-back : text_at (sets bs a (cell t)) a ≡ t
  unfolding number_bytes
  text-back =
      rw length_back
      (ap (part (a + 4) (length t)) (sets-append bs a (number_bytes (length t)) t)
      ∙ part_same (sets bs a (number_bytes (length t))) (a + 4) t
      (omega (arith, length-sets bs a (number_bytes (length t)))))

pub cell-length : (t : List ℕ) → length (cell t) ≡ 4 + length t
unfolding number_bytes
cell-length t = length-append (number_bytes (length t)) t

-- ---- zeros

pub zeros-length : (n : ℕ) → length (zeros n) ≡ n
unfolding zeros
zeros-length n = length-replicate {A = ℕ} n 0

pub wiped-number : (bs : List ℕ) (b n i : ℕ) → b + n ≤ length bs → i + 4 ≤ n
    → number_at (sets bs b (zeros n)) (b + i) ≡ 0
unfolding number_at zeros
wiped-number bs b n i h l =
    let byte : (k : ℕ) → k < 4 → get_or (sets bs b (zeros n)) (b + i + k) 0 ≡ 0 =
    λ k m.
    let place : b + i + k ≡ b + (i + k) = omega arith in
    ap (λ (p : ℕ). get_or (sets bs b (zeros n)) p 0) place
    ∙ byte-set bs b (zeros n) (i + k) (omega (arith, zeros-length n)) (omega (arith, zeros-length n))
    ∙ get_or-replicate {A = ℕ} n (i + k) 0 0 (omega arith) in
    let first : b + i + 0 ≡ b + i = omega arith in
    rw (rw first at (byte 0 (omega arith)), byte 1 (omega arith), byte 2 (omega arith), byte 3 (omega arith))
