-- The places of a term where an unknown stands, as a loop over its exponents collects them, and what lies between them.
use mathlib.Core.Path.{◌≡◌, refl, sym, ap, ◌∙◌}
use mathlib.Core.Bool.{Bool, true, false, cond}
use mathlib.Core.List.{List}
use mathlib.Core.Logic.{◌⊎◌, inl, inr, ⊎_elim}
use Prim.Native.Nat.{ℕ, zero, suc, ◌+◌, ◌<◌, ◌≤◌}
use native.Mathlib.Nat.{not-suc-le-zero, le_of_suc-le-suc, le_antisymm, eq-or-lt_of_le}
use native.Mathlib.Numerals.{add-one}
use native.Mathlib.Omega.{arith}
use lib.Dec.{ltb}
use lib.IntN.{ℤ}
use lib.ListN.{length, get_or, take, set}
use lib.Seq.{get_or-set_same, get_or-set_other}
use borrow.Author.Tests.{lt-ltb, le-ltb, ltb-true}
use Rattle.std.proofs.lemmas.List.{length-take-le, get_or-take}
use Rattle.intervals.specs.Interval.{point_i}
use Rattle.intervals.specs.declared.Interval.{Interval}
use Rattle.jobs.specs.declared.Equation.{Equation}
use Rattle.slopes.specs.Terms.{coef_of, exps_of, factor_i, term_over, term_slope}
use Rattle.slopes.proofs.Cases.{factor-none, term-next, term-none, term-more, slope-none}
use Rattle.slopes.proofs.Rows.{totals, partly, row-start, row-end, row-skip}

module _ (n : ℕ) (at : List ℕ) (count : ℕ) where
  -- place w of the first `count`, and n behind the last
  pub stop : ℕ → ℕ
  stop w = cond (ltb w count) (get_or at w 0) n

  pub stop-live : (w : ℕ) → w < count → stop w ≡ get_or at w 0
  unfolding stop
  stop-live w l = rw (lt-ltb w count l)

  pub stop-end : (w : ℕ) → count ≤ w → stop w ≡ n
  unfolding stop
  stop-end w l = rw (le-ltb w count l)

-- behind the place before
abbrev pub begins : List ℕ → ℕ → ℕ
begins at zero = 0
begins at (suc w) = get_or at w 0 + 1

-- the first `count` places are those below n where an unknown stands, in rising order
pub record LiveIn (n : ℕ) (e : ℕ → ℕ) (at : List ℕ) (count : ℕ) : Type 0 where
  pub few : count ≤ n
  pub inside : (w : ℕ) → w < count → get_or at w 0 < n
  pub stands : (w : ℕ) → w < count → e (get_or at w 0) ≡ 0 → ⊥
  pub rising : (w : ℕ) → w ≤ count → begins at w ≤ stop n at count w
  pub none : (w : ℕ) → w ≤ count → (k : ℕ) → begins at w ≤ k → k < stop n at count w → e k ≡ 0

pub stop-inside : {n : ℕ} {e : ℕ → ℕ} {at : List ℕ} {count : ℕ} → LiveIn n e at count → (w : ℕ) → stop n at count w ≤ n
unfolding stop
stop-inside {n} {e} {at} {count} live w = go (ltb w count) refl
  where
    go : (b : Bool) → ltb w count ≡ b → cond b (get_or at w 0) n ≤ n
    go true p = omega (arith, live.inside w (ltb-true w count p))
    go false p = omega arith

pub live-start : (e : ℕ → ℕ) (at : List ℕ) → LiveIn 0 e at 0
live-start e at = record {
  few = omega arith;
  inside = λ w l. absurd (not-suc-le-zero l);
  stands = λ w l. absurd (not-suc-le-zero l);
  rising = rising;
  none = λ w h k b l. absurd (not-suc-le-zero (rw (stop-end 0 at 0 w (omega arith)) at l));
}
  where
    rising : (w : ℕ) → w ≤ 0 → begins at w ≤ stop 0 at 0 w
    rising zero h = omega arith
    rising (suc w) h = absurd (not-suc-le-zero h)

module _ (k : ℕ) (e : ℕ → ℕ) (at : List ℕ) (count : ℕ) (live : LiveIn k e at count) where
  -- nothing stands at k
  pub live-skip : e k ≡ 0 → LiveIn (k + 1) e at count
  live-skip z = record {
    few = omega (arith, live.few);
    inside = λ w l. omega (arith, live.inside w l);
    stands = live.stands;
    rising = rising;
    none = none;
  }
    where
      rising : (w : ℕ) → w ≤ count → begins at w ≤ stop (k + 1) at count w
      rising w h =
          ⊎_elim
          (λ q. omega (
            arith,
            stop-end (k + 1) at count w (omega (arith, q)),
            stop-end k at count w (omega (arith, q)),
            live.rising w h,
          ))
          (λ l. rw (stop-live (k + 1) at count w l) (rw (stop-live k at count w l) at (live.rising w h)))
          (eq-or-lt_of_le h)

      none : (w : ℕ) → w ≤ count → (i : ℕ) → begins at w ≤ i → i < stop (k + 1) at count w → e i ≡ 0
      none w h i b l =
          ⊎_elim
          (λ q. ⊎_elim (λ p. rw p z)
          (λ m. live.none w h i b (omega (arith, m, stop-end k at count w (omega (arith, q)))))
          (eq-or-lt_of_le {n = i} {m = k} (omega (arith, l, stop-end (k + 1) at count w (omega (arith, q))))))
          (λ m. live.none w h i b (rw (stop-live k at count w m) (rw (stop-live (k + 1) at count w m) at l)))
          (eq-or-lt_of_le h)

  -- an unknown stands at k
  pub live-add : (e k ≡ 0 → ⊥) → count < length at → LiveIn (k + 1) e (set at count k) (count + 1)
  live-add some room = record {
    few = omega (arith, live.few);
    inside = λ w l. by w (omega (arith, l)) (λ q p. omega (arith, p)) (λ m p. omega (arith, p, live.inside w m));
    stands = λ w l z. by w (omega (arith, l)) (λ q p. some (rw p at z)) (λ m p. live.stands w m (rw p at z));
    rising = rising;
    none = none;
  }
    where
      put : List ℕ
      put = set at count k

      upto : (w : ℕ) → w ≤ count + 1 → (w ≡ suc count) ⊎ (w ≤ count)
      upto w h =
          ⊎_elim (λ q. inl q) (λ l. inr (le_of_suc-le-suc l)) (eq-or-lt_of_le {n = w} {m = suc count} (omega arith))

      here : get_or put count 0 ≡ k
      here = get_or-set_same at count k 0 room

      other : (w : ℕ) → w < count → get_or put w 0 ≡ get_or at w 0
      other w l = get_or-set_other at count w k 0 (λ q. omega arith)

      -- the new place, or one of those before
      by : {A : Type 0} (w : ℕ) → w ≤ count → (w ≡ count → get_or put w 0 ≡ k → A)
          → (w < count → get_or put w 0 ≡ get_or at w 0 → A) → A
      by w h new old =
          ⊎_elim (λ q. new q (ap (λ (i : ℕ). get_or put i 0) q ∙ here)) (λ m. old m (other w m)) (eq-or-lt_of_le h)

      -- up to the new place nothing changes
      same_stop : (w : ℕ) → w ≤ count → stop (k + 1) put (count + 1) w ≡ stop k at count w
      same_stop w h =
          stop-live (k + 1) put (count + 1) w (omega arith)
          ∙ by w h
          (λ q p. p ∙ sym (stop-end k at count w (omega arith)))
          (λ m p. p ∙ sym (stop-live k at count w m))

      same-begins : (w : ℕ) → w ≤ count → begins put w ≡ begins at w
      same-begins zero h = refl
      same-begins (suc w) h = ap (λ (i : ℕ). i + 1) (other w h)

      -- behind it
      last_begins : (w : ℕ) → w ≡ suc count → begins put w ≡ k + 1
      last_begins w q = ap (begins put) q ∙ ap (λ (i : ℕ). i + 1) here

      last-stop : (w : ℕ) → w ≡ suc count → stop (k + 1) put (count + 1) w ≡ k + 1
      last-stop w q = stop-end (k + 1) put (count + 1) w (omega arith)

      rising : (w : ℕ) → w ≤ count + 1 → begins put w ≤ stop (k + 1) put (count + 1) w
      rising w h =
          ⊎_elim
          (λ q. omega (arith, last_begins w q, last-stop w q))
          (λ m. rw (same-begins w m, same_stop w m) (live.rising w m))
          (upto w h)

      none : (w : ℕ) → w ≤ count + 1 → (i : ℕ) → begins put w ≤ i → i < stop (k + 1) put (count + 1) w → e i ≡ 0
      none w h i b l =
          ⊎_elim
          (λ q. absurd (omega (arith, b, l, last_begins w q, last-stop w q)))
          (λ m. live.none w m i (rw (same-begins w m) at b) (rw (same_stop w m) at l))
          (upto w h)

-- the places of all unknowns of a term, as a list of their own
pub live-taken : {n k count : ℕ} {e : ℕ → ℕ} {at : List ℕ} → k ≤ n → n ≤ k → count ≤ length at → LiveIn k e at count
    → LiveIn n e (take count at) (length (take count at))
live-taken {n} {k} {count} {e} {at} h g room live = rw (le_antisymm g h, long) (record {
  few = live.few;
  inside = λ w l. rw (read w l) (live.inside w l);
  stands = λ w l z. live.stands w l (rw (read w l) at z);
  rising = λ w l. rw (same_begins w l, same_stop w l) (live.rising w l);
  none = λ w l i b m. live.none w l i (rw (same_begins w l) at b) (rw (same_stop w l) at m);
})
  where
    long : length (take count at) ≡ count
    long = length-take-le count at room

    read : (w : ℕ) → w < count → get_or (take count at) w 0 ≡ get_or at w 0
    read w l = get_or-take count at w 0 l

    same_begins : (w : ℕ) → w ≤ count → begins (take count at) w ≡ begins at w
    same_begins zero l = refl
    same_begins (suc w) l = ap (λ (i : ℕ). i + 1) (read w l)

    same_stop : (w : ℕ) → w ≤ count → stop k (take count at) count w ≡ stop k at count w
    same_stop w l =
        ⊎_elim
        (λ q. stop-end k (take count at) count w (omega (arith, q)) ∙ sym (stop-end k at count w (omega (arith, q))))
        (λ m. stop-live k (take count at) count w m ∙ read w m ∙ sym (stop-live k at count w m))
        (eq-or-lt_of_le l)

-- ---- a term over the places where an unknown stands

module _ (c : ℤ) (e : ℕ → ℕ) (X : ℕ → Interval) where
  -- the others make no product
  term-skip : (i j : ℕ) → i ≤ j → ((k : ℕ) → i ≤ k → k < j → e k ≡ 0) → term_over i c e X ≡ term_over j c e X
  term-skip i zero h z = ap (λ (m : ℕ). term_over m c e X) (omega arith)
  term-skip i (suc j) h z =
      ⊎_elim
      (λ q. ap (λ (m : ℕ). term_over m c e X) q)
      (λ l. term-skip i j (le_of_suc-le-suc l) (λ k b m. z k b (omega arith))
      ∙ sym (term-next c e X j ∙ factor-none (e j) _ (X j) (z j (omega arith) (omega arith))))
      (eq-or-lt_of_le h)

  -- where o are the exponents that were looked at: nothing that stands nowhere in them stands in e
  module _ (n : ℕ) (o : ℕ → ℕ) (at : List ℕ) (count : ℕ) (live : LiveIn n o at count)
      (zero-too : (k : ℕ) → o k ≡ 0 → e k ≡ 0) where
    skip : (w : ℕ) → w ≤ count → term_over (begins at w) c e X ≡ term_over (stop n at count w) c e X
    skip w h =
        term-skip (begins at w) (stop n at count w) (live.rising w h) (λ k b l. zero-too k (live.none w h k b l))

    -- before the loop, a turn, after it
    pub live-none : point_i c ≡ term_over (stop n at count 0) c e X
    live-none = term-none c e X ∙ skip 0 (omega arith)

    pub live_at : {w : ℕ} {a : Interval} → w < count → a ≡ term_over (stop n at count w) c e X
        → a ≡ term_over (get_or at w 0) c e X
    live_at {w} l p = p ∙ ap (λ (k : ℕ). term_over k c e X) (stop-live n at count w l)

    pub live_more : (w : ℕ) → w < count → {m : ℕ} {a r : Interval} → r ≡ factor_i m a (X (get_or at w 0))
        → m ≡ e (get_or at w 0) → a ≡ term_over (stop n at count w) c e X
        → r ≡ term_over (stop n at count (w + 1)) c e X
    live_more w l p q h =
        rw (add-one w)
        (term-more c e X (get_or at w 0) p q (live_at l h) ∙ skip (suc w) l)

    pub live-done : {w : ℕ} {a : Interval} → count ≤ w → a ≡ term_over (stop n at count w) c e X → a ≡ term_over n c e X
    live-done {w} h p = p ∙ ap (λ (k : ℕ). term_over k c e X) (stop-end n at count w h)

-- ---- the row of slopes, to which a term adds at these places alone

module _ (n : ℕ) (q : Equation) (X : ℕ → Interval) (i : ℕ) (at : List ℕ) (count : ℕ)
    (live : LiveIn n (exps_of q i) at count) where
  abbrev g : ℕ → ℕ → Interval
  g k t = term_slope n (coef_of q t) (exps_of q t) k X

  module _ {s : List Interval} where
    skip-row : (w : ℕ) → w ≤ count → s ≡ partly n g i (begins at w) → s ≡ partly n g i (stop n at count w)
    skip-row w h =
        row-skip n g i (begins at w) (stop n at count w) (live.rising w h) (stop-inside live w)
        (λ k b l. slope-none (coef_of q i) (exps_of q i) X n k (live.none w h k b l))

    -- before the loop, a turn, after it
    pub live-row-none : s ≡ totals n g i → s ≡ partly n g i (stop n at count 0)
    live-row-none e = skip-row 0 (omega arith) (row-start n g i e)

    pub live-row-at : (w : ℕ) → w < count → s ≡ partly n g i (stop n at count w) → s ≡ partly n g i (get_or at w 0)
    live-row-at w l e = e ∙ ap (partly n g i) (stop-live n at count w l)

    pub live-row-more : (w : ℕ) → w < count → s ≡ partly n g i (get_or at w 0 + 1)
        → s ≡ partly n g i (stop n at count (w + 1))
    live-row-more w l e = rw (add-one w) (skip-row (suc w) l e)

    pub live-row-done : {w : ℕ} → count ≤ w → s ≡ partly n g i (stop n at count w) → s ≡ totals n g (i + 1)
    live-row-done {w} h e = row-end n g i (stop n at count w) (omega (arith, stop-end n at count w h)) e
