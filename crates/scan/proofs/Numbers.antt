-- A signed number, by what stands at its place.
use Prim.Native.Nat.{ℕ, suc, ◌+◌, ◌≤◌, ◌<◌}
use native.Mathlib.Omega.{arith}
use mathlib.Core.Path.{◌≡◌, refl, ap, ◌∙◌}
use mathlib.Core.List.{List, [], ◌∷◌}
use mathlib.Core.Bool.{Bool, true, false, cond}
use lib.ListN.{length, get_or}
use lib.IntN.{pos, neg_ℤ}
use lib.Dec.{eqb}
use borrow.Author.Tests.{eq-eqb, ne_eqb}
use Rattle.digits.specs.Bytes.{minus_sign}
use Rattle.digits.specs.Number.{read_magnitude, with_minus, without_minus, read_number}
use Rattle.digits.proofs.Cases.{either, same_or}
use Rattle.reading.specs.Places.{part}
use Rattle.scan.specs.Fields.{is_at, digits_at, OnlyMagnitude, OnlyNumber}
use Rattle.scan.proofs.Parts.{part_none, part-cons}
use Rattle.scan.proofs.Tests.{at-yes, at-no}
use Rattle.std.specs.Prelude.{Some, None}

-- ---- one field

minus-first : (b : ℕ) (bs : List ℕ) → b ≡ minus_sign → read_number (b ∷ bs) ≡ with_minus (read_magnitude bs)
unfolding read_number
minus-first b bs e = rw (ne_eqb (suc (length bs)) 0 (omega arith), eq-eqb b minus_sign e)

plain-first : (b : ℕ) (bs : List ℕ) → (b ≡ minus_sign → ⊥) → read_number (b ∷ bs)
    ≡ without_minus (read_magnitude (b ∷ bs))
unfolding read_number
plain-first b bs n = rw (ne_eqb (suc (length bs)) 0 (omega arith), ne_eqb b minus_sign n)

without : (t : Bool) (m : ℕ)
    → without_minus (cond t (Some m) None) ≡ cond t (Some (pos m)) None
unfolding without_minus
without true m = refl
without false m = refl

with-some : (t : Bool) (m : ℕ) → (m ≡ 0 → ⊥)
    → with_minus (cond t (Some m) None) ≡ cond t (Some (neg_ℤ (pos m))) None
unfolding with_minus
with-some true m n = rw (ne_eqb m 0 n)
with-some false m n = refl

with-zero : (t : Bool) (m : ℕ) → m ≡ 0 → with_minus (cond t (Some m) None) ≡ None
unfolding with_minus
with-zero true m e = rw (eq-eqb m 0 e)
with-zero false m e = refl

none : with_minus None ≡ None
unfolding with_minus
none = refl

empty-bad : with_minus (read_magnitude []) ≡ None
unfolding with_minus read_magnitude
empty-bad = refl

-- ---- the bytes of a text from a on

module _ (s : List ℕ) (a : ℕ) where
  plain : (a < length s → get_or s a 0 ≡ minus_sign → ⊥) → (m next : ℕ) → OnlyMagnitude s a m next
      → OnlyNumber s a (pos m) next
  plain n m next d =
      record {
        after = d.after;
        inside = d.inside;
        none = λ q. ap pos (d.none q);
        bytes = λ k p q. omega (arith, d.bytes k p q);
        reads = λ e p t.
            let l : e ≤ length s = t.inside in
            let f : part s a e ≡ get_or s a 0 ∷ part s (a + 1) e = part-cons s a e p l in
            ap read_number f ∙ plain-first (get_or s a 0) (part s (a + 1) e) (n (omega arith))
            ∙ ap (λ (x : List ℕ). without_minus (read_magnitude x)) (rw f)
            ∙ ap without_minus (d.reads e p t) ∙ without (eqb e next) m;
      }

  module _ (h : a < length s) (z : get_or s a 0 ≡ minus_sign) where
    signed : (e : ℕ) → a < e → e ≤ length s → read_number (part s a e) ≡ with_minus (read_magnitude (part s (a + 1) e))
    signed e p l = rw (part-cons s a e p l) (minus-first (get_or s a 0) (part s (a + 1) e) z)

    -- the sign alone
    alone : (e : ℕ) → a < e → e ≤ length s → e ≤ a + 1 → read_number (part s a e) ≡ None
    alone e p l q = signed e p l ∙ rw (part_none s (a + 1) e q) empty-bad

    minus-bad : (m next : ℕ) → OnlyMagnitude s (a + 1) m next → next ≡ a + 1 → OnlyNumber s a (pos 0) a
    minus-bad m next d q =
        record {
          after = omega arith;
          inside = omega arith;
          none = λ x. refl;
          bytes = λ k x y. absurd (omega arith);
          reads = λ e p t.
              let l : e ≤ length s = t.inside in
              rw (ne_eqb e a (λ x. omega (arith, x)))
              (either (a + 1) e
              (λ x. signed e p l ∙ ap with_minus (rw (ne_eqb e next (λ y. omega (arith, y))) at (d.reads e x t))
              ∙ none)
              (alone e p l));
        }

    minus-zero : (m next : ℕ) → OnlyMagnitude s (a + 1) m next → m ≡ 0 → OnlyNumber s a (pos 0) a
    minus-zero m next d q =
        record {
          after = omega arith;
          inside = omega arith;
          none = λ x. refl;
          bytes = λ k x y. absurd (omega arith);
          reads = λ e p t.
              let l : e ≤ length s = t.inside in
              rw (ne_eqb e a (λ x. omega (arith, x)))
              (either (a + 1) e (λ x. signed e p l ∙ ap with_minus (d.reads e x t) ∙ with-zero (eqb e next) m q)
              (alone e p l));
        }

    minus-good : (m next : ℕ) → OnlyMagnitude s (a + 1) m next → (next ≡ a + 1 → ⊥) → (m ≡ 0 → ⊥)
        → OnlyNumber s a (neg_ℤ (pos m)) next
    minus-good m next d n o =
        record {
          after = omega (arith, d.after);
          inside = d.inside;
          none = λ x. absurd (omega (arith, d.after));
          bytes =
              λ k x y. same_or k a (λ q. rw (q, z) (omega arith))
              (λ q. omega (arith, d.bytes k (either a k (λ g. omega arith) (λ g. absurd (q (omega arith)))) y));
          reads = λ e p t.
              let l : e ≤ length s = t.inside in
              either (a + 1) e
              (λ x. signed e p l ∙ ap with_minus (d.reads e x t) ∙ with-some (eqb e next) m o)
              (λ x. rw (ne_eqb e next (λ y. n (omega (arith, d.after, y)))) (alone e p l x));
        }

-- ---- by where its digits begin

module _ (s : List ℕ) (a : ℕ) where
  -- with a minus or without
  sign-or : {A : Type 0} → (is_at s a minus_sign ≡ true → A) → (is_at s a minus_sign ≡ false → A) → A
  sign-or {A} f g = go (is_at s a minus_sign) refl
    where
      go : (t : Bool) → is_at s a minus_sign ≡ t → A
      go true e = f e
      go false e = g e

  after-sign : is_at s a minus_sign ≡ true → digits_at s a ≡ a + 1
  after-sign z = rw z

  at_once : is_at s a minus_sign ≡ false → digits_at s a ≡ a
  at_once z = rw z

  pub digits-inside : a ≤ length s → digits_at s a ≤ length s
  digits-inside h =
      sign-or (λ z. omega (arith, after-sign z, (at-yes s a minus_sign z).0)) (λ z. omega (arith, at_once z))

  pub digits-after : a ≤ digits_at s a
  digits-after = sign-or (λ z. omega (arith, after-sign z)) (λ z. omega (arith, at_once z))

  module _ (b m next : ℕ) (e : b ≡ digits_at s a) (d : OnlyMagnitude s b m next) where
    with-sign : is_at s a minus_sign ≡ true → OnlyMagnitude s (a + 1) m next
    with-sign z = rw (e ∙ after-sign z) at d

    no_sign : is_at s a minus_sign ≡ false → OnlyNumber s a (pos m) next
    no_sign z = plain s a (at-no s a minus_sign z) m next (rw (e ∙ at_once z) at d)

    pub no_number : next ≡ b → OnlyNumber s a (pos 0) a
    no_number q =
        sign-or
        (λ z. let y = at-yes s a minus_sign z in minus-bad s a y.0 y.1 m next (with-sign z)
        (q ∙ e ∙ after-sign z))
        (λ z. rw (d.none q, q ∙ e ∙ at_once z) at (no_sign z))

    pub plain-number : b ≡ a → OnlyNumber s a (pos m) next
    plain-number q = sign-or (λ z. absurd (omega (arith, after-sign z))) no_sign

    module _ (n : b ≡ a → ⊥) where
      pub no-minus-zero : m ≡ 0 → OnlyNumber s a (pos 0) a
      no-minus-zero q =
          sign-or (λ z. let y = at-yes s a minus_sign z in minus-zero s a y.0 y.1 m next (with-sign z) q)
          (λ z. absurd (n (e ∙ at_once z)))

      pub minus_number : (next ≡ b → ⊥) → (m ≡ 0 → ⊥) → OnlyNumber s a (neg_ℤ (pos m)) next
      minus_number o q =
          sign-or
          (λ z. let y = at-yes s a minus_sign z in minus-good s a y.0 y.1 m next (with-sign z)
          (λ w. o (omega (arith, after-sign z))) q)
          (λ z. absurd (n (e ∙ at_once z)))
