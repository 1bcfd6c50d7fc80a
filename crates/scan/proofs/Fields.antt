-- Fields taken where they stand are the fields between the commas, whatever a field does.
use Prim.Native.Nat.{ℕ, zero, suc, ◌+◌, ◌-◌, ◌≤◌, ◌<◌}
use native.Mathlib.Omega.{arith}
use mathlib.Core.Path.{◌≡◌, refl, sym, ap, ◌∙◌}
use mathlib.Core.List.{List, [], ◌∷◌, ◌++◌}
use mathlib.Core.Bool.{Bool, true, false}
use lib.ListN.{length, get_or}
use Rattle.digits.specs.Bytes.{line_feed, comma, minus_sign}
use Rattle.digits.proofs.Cases.{either, same_or}
use Rattle.text.specs.Cut.{Cut, PieceEnd, fresh, feeds}
use Rattle.text.proofs.Cuts.{closed, feed-sep, feed-held, feeds-none, feeds-cons}
use Rattle.text.proofs.Pieces.{Above, feeds-held, feeds-piece}
use Rattle.reading.specs.Places.{part, line_end}
use Rattle.reading.proofs.Ends.{line-end}
use Rattle.scan.specs.Fields.{is_at, Stops}
use Rattle.scan.proofs.Parts.{part_none, part-cons, part-more, part-split}
use Rattle.scan.proofs.Tests.{at-yes, at-no}

-- what a field does to what is read so far; what is once bad stays so
pub record Steps (S : Type 0) : Type 0 where
  pub step : S → List ℕ → S
  pub ok : S → Bool
  pub stuck : (a : S) (f : List ℕ) → ok a ≡ false → ok (step a f) ≡ false

-- of the fields that begin at a, only the one up to `next` is good, and it makes `new` of what is read
pub record OnlyField {S : Type 0} (g : Steps S) (t : List ℕ) (a next : ℕ) (new : S → S) : Type 0 where
  pub after : a ≤ next
  pub inside : next ≤ length t
  pub bytes : (k : ℕ) → a ≤ k → k < next → minus_sign ≤ get_or t k 0
  pub field : a < next → Stops t next → (acc : S) → g.step acc (part t a next) ≡ new acc
  pub other : (f : ℕ) → a ≤ f → Stops t f → (a < next → f ≡ next → ⊥) → (acc : S)
      → g.ok (g.step acc (part t a f)) ≡ false

-- what the fields from a up to e make of acc
abbrev fields_from : {S : Type 0} → Steps S → List ℕ → ℕ → ℕ → S → S
fields_from g t e a acc = closed g.step (feeds g.step comma (fresh acc) (part t a e))

-- the fields from a on, in the line that begins at `from`, make `whole` of acc
pub record Onward {S : Type 0} (g : Steps S) (t : List ℕ) (from a : ℕ) (acc whole : S) : Type 0 where
  pub start : from ≤ length t
  pub begun : from ≤ a
  pub room : a ≤ line_end t from
  pub makes : fields_from g t (line_end t from) a acc ≡ whole

above : (t : List ℕ) (d a m : ℕ) → m - a ≡ d → m ≤ length t → ((k : ℕ) → a ≤ k → k < m → minus_sign ≤ get_or t k 0)
    → Above comma (part t a m)
unfolding Above
above t zero a m z h b = rw (part_none t a m (omega arith)) tt
above t (suc d) a m z h b =
    rw (part-cons t a m (omega arith) h) (
      omega (arith, b a (omega arith) (omega arith)),
      above t d (a + 1) m (omega arith) h
          (λ k x y. b k (omega arith) y),
    )

module _ {S : Type 0} (g : Steps S) where
  abbrev fed : Cut S → List ℕ → S
  fed k bs = closed g.step (feeds g.step comma k bs)

  feeds-stuck : (k : Cut S) (bs : List ℕ) → g.ok k.st ≡ false → g.ok (fed k bs) ≡ false
  feeds-stuck k [] e = rw (feeds-none g.step comma k) (g.stuck k.st k.held e)
  feeds-stuck k (b ∷ bs) e =
      rw (feeds-cons g.step comma k b bs)
      (same_or b comma
      (λ z.
      rw (feed-sep g.step comma k b z)
      (feeds-stuck (fresh (g.step k.st k.held)) bs (g.stuck k.st k.held e)))
      (λ n.
      rw (feed-held g.step comma k b n)
      (feeds-stuck (record { st = k.st; held = k.held ++ (b ∷ []) }) bs e)))

  -- wherever the field at a could end, it is bad
  module _ (t : List ℕ) (e : ℕ) (l : e ≤ length t) (acc : S) (a : ℕ)
      (bad : (f : ℕ) → a ≤ f → f ≤ e → (f < e → get_or t f 0 ≡ comma) → g.ok (g.step acc (part t a f)) ≡ false) where
    abbrev held : ℕ → Cut S
    held i = record { st = acc; held = part t a i }

    bad-from : (d i : ℕ) → e - i ≡ d → a ≤ i → i ≤ e → g.ok (fed (held i) (part t i e)) ≡ false
    bad-from zero i z p q =
        rw (part_none t i e (omega arith), feeds-none g.step comma) (bad i p q (λ x. absurd (omega arith)))
    bad-from (suc d) i z p q =
        rw (part-cons t i e (omega arith) l, feeds-cons g.step comma)
        (same_or (get_or t i 0) comma
        (λ y.
        rw (feed-sep g.step comma (held i) (get_or t i 0) y)
        (feeds-stuck (fresh (g.step acc (part t a i))) (part t (i + 1) e) (bad i p q (λ x. y))))
        (λ y.
        rw (feed-held g.step comma (held i) (get_or t i 0) y, ← part-more t a i p (omega arith))
        (bad-from d (i + 1) (omega arith) (omega arith) (omega arith))))

    all-bad : a ≤ e → g.ok (fields_from g t e a acc) ≡ false
    all-bad p = rw (part_none t a a (omega arith)) at (bad-from (e - a) a refl (omega arith) p)

  module _ {t : List ℕ} {from a : ℕ} {acc whole : S} {next : ℕ} {new : S → S}
      (on : Onward g t from a acc whole) (n : OnlyField g t a next new) where
    ends : PieceEnd t line_feed from (line_end t from)
    ends = line-end t from on.start

    stops : (f : ℕ) → f ≤ line_end t from → (f < line_end t from → get_or t f 0 ≡ comma) → Stops t f
    stops f q c =
        record {
          inside = omega (arith, ends.inside);
          other = λ x y z.
              either f (line_end t from)
              (λ h. omega (arith, c h))
              (λ h. let w : f ≡ line_end t from = omega arith in omega (arith, rw (← w) at (ends.ends (omega arith))));
        }

    in-line : next ≤ line_end t from
    in-line =
        either (line_end t from) next
        (λ q. absurd (omega (arith, n.bytes (line_end t from) on.room q, ends.ends (omega (arith, n.inside)))))
        (λ q. q)

    no-comma : Above comma (part t a next)
    no-comma = above t (next - a) a next refl n.inside n.bytes

    module _ (some : next ≡ a → ⊥) where
      some_bytes : a < next
      some_bytes = either a next (λ h. h) (λ h. absurd (some (omega (arith, n.after))))

      -- a comma stands after the field
      pub next_field : is_at t next comma ≡ true → Onward g t from (next + 1) (new acc) whole
      next_field c =
          let m = at-yes t next comma c in
          let i : next < line_end t from =
          either next (line_end t from) (λ q. q)
          (λ q.
          let w : next ≡ line_end t from = omega (arith, in-line) in
          absurd (omega (arith, m.1, rw (← w) at (ends.ends (omega (arith, m.0)))))) in
          let split : part t a (line_end t from) ≡ part t a next ++ (comma ∷ part t (next + 1) (line_end t from)) =
          part-split t a (line_end t from) next n.after (omega arith)
          ∙ ap (λ (l : List ℕ). part t a next ++ l)
          (part-cons t next (line_end t from) i ends.inside
          ∙ ap (λ (b : ℕ). b ∷ part t (next + 1) (line_end t from)) m.1) in
          let fed-one = feeds-piece g.step comma acc (part t a next) (part t (next + 1) (line_end t from))
          no-comma in
          record {
            start = on.start;
            begun = omega (arith, on.begun, n.after);
            room = omega arith;
            makes =
                ap (λ (x : S). fields_from g t (line_end t from) (next + 1) x)
                (sym (n.field some_bytes (stops next (omega arith) (λ x. m.1)) acc))
                ∙ sym (ap (λ (l : List ℕ). fed (fresh acc) l) split ∙ ap (closed g.step) fed-one)
                ∙ on.makes;
          }

      -- the LF stands after the field
      pub last-field : is_at t next line_feed ≡ true
          → (next ≡ line_end t from) × (line_end t from < length t) × (new acc ≡ whole)
      last-field c =
          let m = at-yes t next line_feed c in
          let i : next ≡ line_end t from =
          either next (line_end t from)
          (λ q. absurd (ends.none next (omega (arith, on.begun, n.after)) q m.1))
          (λ q. omega (arith, in-line)) in
          let fed-all = ap (closed g.step) (feeds-held g.step comma acc [] (part t a next) no-comma) in (
            i,
            omega (arith, m.0),
            sym (n.field some_bytes (stops next in-line (λ x. absurd (omega arith))) acc)
                ∙ sym fed-all
                ∙ rw (← i) at on.makes,
          )

    pub no_field : next ≡ a → g.ok whole ≡ false
    no_field z =
        sym (ap g.ok on.makes)
        ∙ all-bad t (line_end t from) ends.inside acc a
        (λ f x y c. n.other f x (stops f y c) (λ h w. omega arith) acc) on.room

    -- neither stands after it
    pub no-mark : is_at t next line_feed ≡ false → is_at t next comma ≡ false → line_end t from < length t
        → g.ok whole ≡ false
    no-mark d c l =
        sym (ap g.ok on.makes)
        ∙ all-bad t (line_end t from) ends.inside acc a
        (λ f x y k.
        n.other f x (stops f y k)
        (λ h w.
        either f (line_end t from)
        (λ q. at-no t next comma c (omega arith) (rw (← w) (k q)))
        (λ q.
        let u : next ≡ line_end t from = omega arith in
        at-no t next line_feed d (omega arith) (rw u (ends.ends l))))
        acc)
        on.room
