-- A key that stands at a place of a text is the key of the line that begins there.
use Prim.Native.Nat.{ℕ, zero, suc, ◌+◌, ◌-◌, ◌≤◌, ◌<◌}
use native.Mathlib.Omega.{arith}
use mathlib.Core.Path.{◌≡◌, refl, sym, ap₂, ◌∙◌}
use mathlib.Core.List.{List, [], ◌∷◌}
use mathlib.Core.Bool.{Bool, true, false, cond, ◌&&◌, true≢false, false≢true}
use lib.ListN.{length, take, drop, get_or, length-drop}
use lib.Seq.{get_or-drop}
use lib.Dec.{eqb}
use borrow.Author.Tests.{eq-eqb, eqb-true}
use Rattle.digits.specs.Bytes.{line_feed}
use Rattle.text.specs.Keys.{starts_with, body_of}
use Rattle.text.proofs.Keys.{both, starts-length}
use Rattle.reading.specs.Places.{line_end}
use Rattle.reading.proofs.Ends.{line-end, end_is}
use Rattle.scan.specs.Lines.{line_of, no_feed}
use Rattle.scan.proofs.Parts.{part-drop}

rest-true : (b c : Bool) → cond b false c ≡ true → c ≡ true
rest-true true c e = absurd (false≢true e)
rest-true false c e = e

-- a key has no LF, so it ends before the line does
key_fits : (key l : List ℕ) (m : ℕ) → no_feed key ≡ true → starts_with key l ≡ true
    → (m < length l → get_or l m 0 ≡ line_feed) → length key ≤ m
unfolding starts_with
key_fits [] l m a e h = omega arith
key_fits (k ∷ ks) [] m a e h = absurd (false≢true e)
key_fits (k ∷ ks) (b ∷ bs) zero a e h =
    let p = both (eqb b k) (starts_with ks bs) e in
    absurd (false≢true (rw (eq-eqb k line_feed (sym (eqb-true b k p.0) ∙ h (omega arith))) at a))
key_fits (k ∷ ks) (b ∷ bs) (suc m) a e h =
    let p = both (eqb b k) (starts_with ks bs) e in
    omega (arith, key_fits ks bs m (rest-true (eqb k line_feed) (no_feed ks) a) p.1 (λ x. h (omega arith)))

starts-in : (key l : List ℕ) (m : ℕ) → length key ≤ m → starts_with key l ≡ true → starts_with key (take m l) ≡ true
unfolding starts_with
starts-in [] l m h e = refl
starts-in (k ∷ ks) [] m h e = absurd (false≢true e)
starts-in (k ∷ ks) (b ∷ bs) zero h e = absurd (omega arith)
starts-in (k ∷ ks) (b ∷ bs) (suc m) h e =
    let p = both (eqb b k) (starts_with ks bs) e in
    ap₂ ◌&&◌ p.0 (starts-in ks bs m (omega arith) p.1)

starts-out : (key l : List ℕ) (m : ℕ) → starts_with key (take m l) ≡ true → starts_with key l ≡ true
unfolding starts_with
starts-out [] l m e = refl
starts-out (k ∷ ks) [] zero e = e
starts-out (k ∷ ks) [] (suc m) e = e
starts-out (k ∷ ks) (b ∷ bs) zero e = absurd (false≢true e)
starts-out (k ∷ ks) (b ∷ bs) (suc m) e =
    let p = both (eqb b k) (starts_with ks (take m bs)) e in
    ap₂ ◌&&◌ p.0 (starts-out ks bs m p.1)

module _ (t key : List ℕ) (from : ℕ) (h : from ≤ length t) where
  pub key-long : starts_with key (drop from t) ≡ true → from + length key ≤ length t
  key-long y = omega (arith, length-drop from t, starts-length key (drop from t) y)

  pub no_key : starts_with key (drop from t) ≡ false → starts_with key (line_of t from) ≡ false
  no_key n = go (starts_with key (line_of t from)) refl
    where
      go : (b : Bool) → starts_with key (line_of t from) ≡ b → starts_with key (line_of t from) ≡ false
      go true z = absurd (true≢false (sym (starts-out key (drop from t) (line_end t from - from) z) ∙ n))
      go false z = z

  pub no_body : starts_with key (drop from t) ≡ false → body_of key (line_of t from) ≡ []
  unfolding body_of
  no_body n = rw (no_key n)

  module _ (a : no_feed key ≡ true) (y : starts_with key (drop from t) ≡ true) where
    line-ends : line_end t from - from < length (drop from t)
        → get_or (drop from t) (line_end t from - from) 0 ≡ line_feed
    line-ends l =
        let p = line-end t from h in
        let z : from + (line_end t from - from) ≡ line_end t from = omega (arith, p.after) in
        rw (get_or-drop, z) (p.ends (omega (arith, length-drop from t)))

    key-room : from + length key ≤ line_end t from
    key-room =
        omega (arith, (line-end t from h).after, key_fits key (drop from t) (line_end t from - from) a y line-ends)

    pub same_end : line_end t (from + length key) ≡ line_end t from
    same_end =
        let p = line-end t from h in
        sym (end_is t (from + length key)
        (record {
          after = key-room;
          inside = p.inside;
          ends = p.ends;
          none = λ k x z. p.none k (omega arith)
              z;
        }))

    pub has_key : starts_with key (line_of t from) ≡ true
    has_key = starts-in key (drop from t) (line_end t from - from) (omega (arith, key-room)) y

    pub body_at : body_of key (line_of t from) ≡ line_of t (from + length key)
    unfolding body_of
    body_at =
        let z : from + length key - from ≡ length key = omega arith in
        rw (has_key, same_end) (rw z at (part-drop t from (line_end t from) (from + length key) (omega arith) key-room))
