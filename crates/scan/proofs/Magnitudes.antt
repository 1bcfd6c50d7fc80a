-- A number with no sign, taken digit by digit, is the field that it ends.
use Prim.Native.Nat.{ℕ, ◌+◌, ◌-◌, ◌*◌, ◌^◌, ◌≤◌, ◌<◌}
use native.Mathlib.Omega.{arith}
use native.Mathlib.Nat.{pow-suc}
use native.Mathlib.Numerals.{add-one}
use mathlib.Core.Path.{◌≡◌, refl, sym, ◌∙◌}
use mathlib.Core.List.{List, [], ◌∷◌}
use mathlib.Core.Bool.{Bool, true, false, cond}
use lib.ListN.{length, get_or}
use lib.Dec.{eqb, ltb}
use borrow.Author.Tests.{lt-ltb, le-ltb, eq-eqb, ne_eqb}
use Rattle.digits.specs.Bytes.{digit0, digit9}
use Rattle.digits.specs.Number.{digits_max, digits_from, read_magnitude}
use Rattle.digits.proofs.Cases.{either, same_or}
use Rattle.reading.specs.Places.{part}
use Rattle.scan.specs.Fields.{Stops, OnlyMagnitude}
use Rattle.scan.proofs.Parts.{part_length, part_none, part-cons}
use Rattle.std.specs.Prelude.{Option, Some, None}

cond-bad : (t : Bool) → cond {A = Option ℕ} t None None ≡ None
cond-bad true = refl
cond-bad false = refl

-- ---- one field

other-first : (b : ℕ) (bs : List ℕ) → (digit0 ≤ b → b ≤ digit9 → ⊥) → (v : ℕ) → digits_from v (b ∷ bs) ≡ None
unfolding digits_from
other-first b bs n v =
    either b digit0
    (λ p. rw (lt-ltb b digit0 p))
    (λ p. rw (le-ltb b digit0 p, lt-ltb digit9 b (either digit9 b (λ q. q) (λ q. absurd (n p q)))))

digit-first : (b : ℕ) (bs : List ℕ) → digit0 ≤ b → b ≤ digit9 → (v : ℕ)
    → digits_from v (b ∷ bs) ≡ digits_from (v * 10 + (b - digit0)) bs
unfolding digits_from
digit-first b bs p q v = rw (le-ltb b digit0 p, le-ltb digit9 b q)

ended : (v : ℕ) → digits_from v [] ≡ Some v
unfolding digits_from
ended v = refl

long-bad : (l : List ℕ) → digits_max < length l → read_magnitude l ≡ None
unfolding read_magnitude
long-bad l h = rw (ne_eqb (length l) 0 (omega arith), lt-ltb digits_max (length l) h)

digits-bad : (l : List ℕ) → (get_or l 0 0 ≡ digit0 → ⊥) → digits_from 0 l ≡ None
    → read_magnitude l ≡ None
unfolding read_magnitude
digits-bad l n e =
    rw (ne_eqb (get_or l 0 0) digit0 n, e, cond-bad (ltb digits_max (length l)), cond-bad (eqb (length l) 0))

digits-good : (l : List ℕ) → 0 < length l → length l ≤ digits_max → (get_or l 0 0 ≡ digit0 → ⊥)
    → read_magnitude l ≡ digits_from 0 l
unfolding read_magnitude
digits-good l p q n =
    rw (ne_eqb (length l) 0 (omega arith), le-ltb digits_max (length l) q, ne_eqb (get_or l 0 0) digit0 n)

zero-alone : read_magnitude (digit0 ∷ []) ≡ Some 0
unfolding read_magnitude
zero-alone = refl

zero-first : (b : ℕ) (bs : List ℕ) → b ≡ digit0 → 0 < length bs → read_magnitude (b ∷ bs) ≡ None
unfolding read_magnitude
zero-first b bs e h =
    rw (
      eq-eqb b digit0 e,
      lt-ltb 1 (length (b ∷ bs)) (omega arith),
      cond-bad (ltb digits_max (length (b ∷ bs))),
      cond-bad (eqb (length (b ∷ bs)) 0),
    )

-- ---- the bytes of a text from a on

module _ (s : List ℕ) (a : ℕ) where
  -- no digit stands there
  pub none-at : Stops s a → OnlyMagnitude s a 0 a
  none-at n =
      record {
        after = omega arith;
        inside = n.inside;
        none = λ q. refl;
        bytes = λ k p q. absurd (omega arith);
        reads = λ e p t.
            let l : e ≤ length s = t.inside in
            rw (ne_eqb e a (λ q. omega (arith, q)), part-cons s a e p l)
            (digits-bad (get_or s a 0 ∷ part s (a + 1) e)
            (λ z. n.other (omega arith) (omega (arith, z)) (omega (arith, z)))
            (other-first (get_or s a 0) (part s (a + 1) e) (n.other (omega arith)) 0));
      }

  pub zero-at : a < length s → get_or s a 0 ≡ digit0 → OnlyMagnitude s a 0 (a + 1)
  zero-at h z =
      record {
        after = omega arith;
        inside = omega arith;
        none = λ q. refl;
        bytes = λ k p q. let x : k ≡ a = omega arith in rw x (omega (arith, z));
        reads = λ e p t.
            let l : e ≤ length s = t.inside in
            same_or e (a + 1)
            (λ q. rw (eq-eqb e (a + 1) q, part-cons s a e p l, part_none s (a + 1) e (omega arith), z) zero-alone)
            (λ q.
            rw (ne_eqb e (a + 1) q, part-cons s a e p l)
            (zero-first (get_or s a 0) (part s (a + 1) e) z
            (rw (part_length s (a + 1) e (omega arith) l)
            (either (a + 1) e (λ x. omega arith) (λ x. absurd (q (omega arith)))))));
      }

-- the digits from a up to i spell m, and go on there
pub record Run (s : List ℕ) (a m i : ℕ) : Type 0 where
  pub begun : a < i
  pub inside : i ≤ length s
  pub few : i ≤ a + digits_max
  pub small : m < 10 ^ (i - a)
  pub first : get_or s a 0 ≡ digit0 → ⊥
  pub bytes : (k : ℕ) → a ≤ k → k < i → digit0 ≤ get_or s k 0
  pub past : (e : ℕ) → a < e → Stops s e → i ≤ e
  pub same : (e : ℕ) → i ≤ e → e ≤ length s → digits_from m (part s i e) ≡ digits_from 0 (part s a e)

module _ (s : List ℕ) (a : ℕ) where
  pub run-start : a < length s → digit0 < get_or s a 0 → get_or s a 0 ≤ digit9 → Run s a (get_or s a 0 - digit0) (a + 1)
  run-start h p q =
      let w : a + 1 - a ≡ 1 = omega arith in
      record {
        begun = omega arith;
        inside = omega arith;
        few = omega arith;
        small = rw w (omega arith);
        first = λ z. omega (arith, z);
        bytes = λ k x y. let z : k ≡ a = omega arith in rw z (omega arith);
        past = λ e x t. omega arith;
        same = λ e x y.
            let z : 0 * 10 + (get_or s a 0 - digit0) ≡ get_or s a 0 - digit0 = omega arith in
            rw (part-cons s a e (omega arith) y, digit-first (get_or s a 0) (part s (a + 1) e) (omega arith) q 0, z);
      }

  pub run_more : (m i : ℕ) → Run s a m i → i < length s → i < a + digits_max → digit0 ≤ get_or s i 0
      → get_or s i 0 ≤ digit9
      → Run s a (m * 10 + (get_or s i 0 - digit0)) (i + 1)
  run_more m i r h k p q =
      let w : i + 1 - a ≡ i - a + 1 = omega (arith, r.begun) in
      record {
        begun = omega (arith, r.begun);
        inside = omega arith;
        few = omega arith;
        small = rw (w, add-one (i - a), pow-suc 10 (i - a)) (omega (arith, r.small));
        first = r.first;
        bytes =
            λ j x y. same_or j i (λ z. rw z p)
            (λ z. r.bytes j x (either j i (λ g. g) (λ g. absurd (z (omega arith)))));
        past = λ e x t. let g : i ≤ e = r.past e x t in
            same_or e i (λ z. absurd (t.other (omega (arith, z)) (rw z p) (rw z q)))
            (λ z. either i e (λ b. omega arith) (λ b. absurd (z (omega arith))));
        same = λ e x y.
            sym (digit-first (get_or s i 0) (part s (i + 1) e) p q m)
            ∙ rw (part-cons s i e (omega arith) y) at (r.same e (omega arith) y);
      }

  first-of : (e : ℕ) → a < e → e ≤ length s → (get_or s a 0 ≡ digit0 → ⊥) → get_or (part s a e) 0 0 ≡ digit0 → ⊥
  first-of e p q n = rw (part-cons s a e p q) n

  pub run_ends : (m i : ℕ) → Run s a m i
      → (i < length s → i < a + digits_max → digit0 ≤ get_or s i 0 → get_or s i 0 ≤ digit9 → ⊥) → OnlyMagnitude s a m i
  run_ends m i r n =
      record {
        after = omega (arith, r.begun);
        inside = r.inside;
        none = λ q. absurd (omega (arith, r.begun));
        bytes = r.bytes;
        reads = λ e p t.
            let g : i ≤ e = r.past e p t in
            let l : e ≤ length s = t.inside in
            let w : length (part s a e) ≡ e - a = part_length s a e (omega arith) l in
            let f : (get_or (part s a e) 0 0 ≡ digit0 → ⊥) = first-of e p l r.first in
            same_or e i
            (λ q.
            rw (eq-eqb e i q)
            (digits-good (part s a e) (omega arith) (omega (arith, r.few, q)) f
            ∙ sym (r.same e g l)
            ∙ rw (part_none s i e (omega arith)) (ended m)))
            (λ q.
            let x : i < e = either i e (λ b. b) (λ b. absurd (q (omega arith))) in
            rw (ne_eqb e i q)
            (either digits_max (e - a)
            (λ b. long-bad (part s a e) (omega arith))
            (λ b.
            digits-bad (part s a e) f
            (sym (r.same e g l)
            ∙ rw (part-cons s i e x l)
            (other-first (get_or s i 0) (part s (i + 1) e) (n (omega arith) (omega arith)) m)))));
      }
