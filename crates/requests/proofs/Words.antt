-- The words of a request stand in its line, before its last space.
use Prim.Native.Nat.{ℕ, zero, suc, ◌+◌, ◌-◌, ◌≤◌, ◌<◌}
use native.Mathlib.Omega.{arith}
use mathlib.Core.Path.{◌≡◌}
use mathlib.Core.List.{List}
use mathlib.Core.Bool.{Bool, true, false, cond}
use lib.ListN.{length, get_or, take, drop}
use lib.Dec.{eqb}
use borrow.Author.Tests.{eq-eqb, ne_eqb}
use Rattle.digits.proofs.Cases.{same_or}
use Rattle.arguments.specs.Words.{space}
use Rattle.arguments.specs.Counts.{count_by}
use Rattle.requests.specs.declared.Named.{Named}
use Rattle.requests.specs.declared.Request.{Request}
use Rattle.requests.specs.Requests.{operation_of, takes, asked, after_space, split, request_of}
use Rattle.std.specs.Prelude.{Some, None, Option, IfSome}

-- no space stands at the places i.. below j
NoSpace : List ℕ → ℕ → ℕ → Type 0
NoSpace l i j = (k : ℕ) → i ≤ k → k < j → get_or l k 0 ≡ space → ⊥

after-none : (l : List ℕ) (i j : ℕ) → i ≤ j → NoSpace l i j → after_space j l ≡ after_space i l
unfolding after_space NoSpace
after-none l i zero h n = let z : i ≡ 0 = omega arith in rw z
after-none l i (suc j) h n =
    same_or i (suc j)
    (λ e. rw e)
    (λ m.
    let q : i ≤ j = omega arith in
    rw (ne_eqb (get_or l j 0) space (n j q (omega arith)))
    (after-none l i j q (λ k a b. n k a (omega arith))))

module _ (l : List ℕ) where
  pub no-request : ((k : ℕ) → k < length l → get_or l k 0 ≡ space → ⊥) → None ≡ request_of l
  unfolding request_of split after_space NoSpace
  no-request n = rw (after-none l 0 (length l) (omega arith) (λ k a b. n k b))

  module _ (i : ℕ) (h : i < length l) (here : get_or l i 0 ≡ space)
      (n : (k : ℕ) → i < k → k < length l → get_or l k 0 ≡ space → ⊥) where
    at-last : after_space (length l) l ≡ suc i
    unfolding after_space NoSpace
    at-last =
        rw (
          after-none l (suc i) (length l) (omega arith) (λ k a b. n k (omega arith) b),
          eq-eqb (get_or l i 0) space here,
        )

    pub request-at : request_of l ≡ asked (operation_of (take i l)) (count_by (drop (i + 1) l)) i
    unfolding request_of split
    request-at =
        let z : suc i - 1 ≡ i = omega arith in
        let y : i + 1 ≡ suc i = omega arith in
        let x : suc i ≡ 0 → ⊥ = omega arith in
        rw (at-last, ne_eqb (suc i) 0 x, z, y)

words-asked : (name : Option Named) (n : Option ℕ) (words : ℕ) → IfSome (asked name n words) (λ r. r.words ≤ words)
unfolding asked
words-asked (Some name) (Some n) words = by (takes name n)
  where
    by : (t : Bool)
        → IfSome {T = Request} (cond t (Some (record { named = name; length = n; words = words })) None)
        (λ r. r.words ≤ words)
    by true = omega arith
    by false = tt
words-asked (Some name) None words = tt
words-asked None n words = tt

space-inside : (i : ℕ) (l : List ℕ) → after_space i l ≤ i
unfolding after_space
space-inside zero l = omega arith
space-inside (suc i) l = by (eqb (get_or l i 0) space) (space-inside i l)
  where
    by : (t : Bool) → after_space i l ≤ i → cond t (suc i) (after_space i l) ≤ suc i
    by true h = omega arith
    by false h = omega arith

weaker : (r : Option Request) (a b : ℕ) → a ≤ b → IfSome r (λ q. q.words ≤ a) → IfSome r (λ q. q.words ≤ b)
weaker None a b h p = tt
weaker (Some q) a b h p = omega arith

words-split : (at : ℕ) (l : List ℕ) → at ≤ length l → IfSome (split at l) (λ r. r.words ≤ length l)
unfolding split
words-split at l h =
    by (eqb at 0)
    (weaker _ (at - 1) (length l) (omega arith)
    (words-asked (operation_of (take (at - 1) l)) (count_by (drop at l)) (at - 1)))
  where
    by : (t : Bool)
        → IfSome (asked (operation_of (take (at - 1) l)) (count_by (drop at l)) (at - 1)) (λ r. r.words ≤ length l)
        → IfSome (cond t None (asked (operation_of (take (at - 1) l)) (count_by (drop at l)) (at - 1)))
        (λ r. r.words ≤ length l)
    by true few = tt
    by false few = few

pub words_inside : (l : List ℕ) → IfSome (request_of l) (λ r. r.words ≤ length l)
unfolding request_of
words_inside l = words-split (after_space (length l) l) l (space-inside (length l) l)
