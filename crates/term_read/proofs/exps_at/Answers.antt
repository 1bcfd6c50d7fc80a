use borrow.Author.Rules.{rules}
use Prim.Native.Nat.{ℕ, ◌+◌, ◌-◌, ◌≤◌, ◌<◌}
use native.Mathlib.Omega.{arith}
use mathlib.Core.Path.{◌≡◌, sym, ◌∙◌}
use mathlib.Core.List.{List}
use mathlib.Core.Bool.{true, false}
use lib.ListN.{length, get_or, set}
use Rattle.sizes.specs.Sizes.{n_max}
use Rattle.lists.proofs.Tab.{tab-none, tab-more, tab-done}
use Rattle.lists.proofs.All.{all_none, all_more, all_done, all-stop}
use Rattle.digits.specs.Bytes.{digit0}
use Rattle.term_text.specs.Terms.{exponents}
use Rattle.digits.specs.Digits.{is_digit, all_digits}
use Rattle.reading.specs.Places.{part}
use Rattle.scan.proofs.Parts.{part_length, part_at}
use Rattle.term_read.proofs.Single.{digit_low}
use Rattle.term_read.specs.Terms.{exps_of}
use Rattle.term_read.proofs.exps_at.Invariants.{Inv}
use Rattle.term_read.proofs.exps_at.Goals as goal

module _ (s : List ℕ) (from n : ℕ) (room : from + n ≤ length s) where
  long : length (part s from (from + n)) ≡ n
  long = part_length s from (from + n) (omega arith) room ∙ omega arith

  at : (k : ℕ) → k < n → get_or (part s from (from + n)) k 0 ≡ get_or s (from + k) 0
  at k h = part_at s from (from + n) k (omega arith)

  stop : (k : ℕ) → k < n → is_digit (get_or s (from + k) 0) ≡ false → all_digits (part s from (from + n)) ≡ false
  unfolding all_digits
  stop k h e = rw long (all-stop (λ i. is_digit (get_or (part s from (from + n)) i 0)) n k h (rw (at k h) e))

  again : (exps : List ℕ) (k : ℕ) → Inv (part s from (from + n)) n exps k → k < n → n ≤ n_max
      → is_digit (get_or s (from + k) 0) ≡ true
      → Inv (part s from (from + n)) n (set exps k (get_or s (from + k) 0 - digit0)) (k + 1)
  again exps k v h q e =
      record {
        few = omega arith;
        spelled = all_more (λ i. is_digit (get_or (part s from (from + n)) i 0)) k v.spelled (rw (at k h) e);
        values =
            tab-more 0 n_max k (λ i. get_or (part s from (from + n)) i 0 - digit0) (omega arith) v.values
            (rw (at k h));
      }

  done : (exps : List ℕ) (k : ℕ) → Inv (part s from (from + n)) n exps k → n ≤ k
      → (all_digits (part s from (from + n)) ≡ true) × (exps ≡ exponents n (part s from (from + n)))
  unfolding all_digits exponents
  done exps k v h = (
    rw long (all_done (λ i. is_digit (get_or (part s from (from + n)) i 0)) v.few h v.spelled),
    tab-done 0 n_max
        _ v.few h v.values,
  )

pub loop-k-init : goal.loop-k-init
loop-k-init c = record { few = omega arith; spelled = all_none _; values = tab-none 0 n_max _ }

pub returns-then-not-is_digit : goal.returns-then-not-is_digit
unfolding exps_of
returns-then-not-is_digit c =
    let l = c.loop-k in
    let p = c.requires in
    rw (stop _ _ _ p.1 l.k c.loop-k-test.true
    (sym c.is_digit.ensures ∙ c.if-not-is_digit.true))

pub overflow_sub-exps : goal.overflow_sub-exps
overflow_sub-exps c =
    let h = digit_low _ (sym c.is_digit.ensures ∙ c.if-not-is_digit.false) in
    search rules

pub loop-k-preserved : goal.loop-k-preserved
loop-k-preserved c =
    let l = c.loop-k in
    let p = c.requires in
    again _ _ _ p.1 _ _ l.invariant c.loop-k-test.true p.0
    (sym c.is_digit.ensures ∙ c.if-not-is_digit.false)

pub returns : goal.returns
unfolding exps_of
returns c =
    let d = done _ _ _ c.requires.1 _ _ c.loop-k.invariant c.loop-k-test.false in
    rw (d.0, d.1)
