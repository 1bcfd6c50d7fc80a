-- A line's numbers, taken where they stand, are its list.
use Prim.Native.Nat.{ℕ, zero, suc, ◌+◌, ◌≤◌, ◌<◌}
use native.Mathlib.Omega.{arith}
use mathlib.Core.Path.{◌≡◌, refl, sym, ap, ap₂, ◌∙◌}
use mathlib.Core.List.{List, [], ◌∷◌, ◌++◌}
use mathlib.Core.Bool.{true, false}
use lib.ListN.{length, take, drop, set, replicate, length-set}
use lib.IntN.{ℤ, pos}
use borrow.Author.Tests.{eq-eqb, ne_eqb}
use Rattle.digits.specs.Bytes.{line_feed, comma}
use Rattle.digits.specs.Number.{read_number}
use Rattle.digits.proofs.Cases.{either, same_or}
use Rattle.text.specs.Cut.{Cut, fresh, feeds}
use Rattle.text.specs.Keys.{starts_with, body_of}
use Rattle.text.specs.Lists.{places_max, no_numbers, put_number, add_read, add_field, last_field, read_list}
use Rattle.text.specs.Lists.{Numbers}
use Rattle.text.proofs.Cuts.{closed, feed-sep, feed-held, feeds-none, feeds-cons}
use Rattle.text.proofs.Lists.{take-zeros}
use Rattle.reading.specs.Places.{part}
use Rattle.reading.proofs.Ends.{line-end}
use Rattle.scan.specs.Fields.{is_at, Stops, OnlyNumber}
use Rattle.scan.specs.Lines.{line_of, ended_and, no_feed, numbers_at, list_at_of, places_of, Ready, ListFrom}
use Rattle.scan.specs.declared.At.{At}
use Rattle.scan.proofs.Parts.{part_none}
use Rattle.scan.proofs.Tests.{not-ended, is-ended}
use Rattle.scan.proofs.Fields.{Steps, OnlyField, Onward, next_field, last-field, no_field, no-mark}
use Rattle.scan.proofs.Keyed.{no_body, body_at, same_end}
use Rattle.std.specs.Prelude.{Some, None, Option}

-- ---- a number is a field

pub stuck : (l : Numbers) (f : List ℕ) → l.ok ≡ false → (add_field l f).ok ≡ false
unfolding add_field add_read put_number
stuck l f e = go (read_number f)
  where
    go : (n : Option ℤ) → (add_read l n).ok ≡ false
    go (Some v) = e
    go None = refl

abbrev numbers : Steps Numbers
numbers = record { step = add_field; ok = λ l. l.ok; stuck = stuck }

pub empty-bad : read_number [] ≡ None
unfolding read_number
empty-bad = refl

bad-field : (l : Numbers) (f : List ℕ) → read_number f ≡ None → (add_field l f).ok ≡ false
unfolding add_field add_read
bad-field l f z = rw z

good-field : (l : Numbers) (f : List ℕ) (v : ℤ) → read_number f ≡ Some v → add_field l f ≡ put_number l v
unfolding add_field add_read
good-field l f v z = rw z

module _ (t : List ℕ) (a : ℕ) (v : ℤ) (next : ℕ) (n : OnlyNumber t a v next) where
  pub number-here : a < next → Stops t next → read_number (part t a next) ≡ Some v
  number-here g s = rw (eq-eqb next next refl) at (n.reads next g s)

  pub number-other : (f : ℕ) → a ≤ f → Stops t f → (a < next → f ≡ next → ⊥) → read_number (part t a f) ≡ None
  number-other f p s o =
      either a f
      (λ g. n.reads f g s ∙ rw (ne_eqb f next (λ z. o (omega (arith, z)) z)))
      (λ g. rw (part_none t a f g) empty-bad)

  number-field : OnlyField numbers t a next (λ l. put_number l v)
  number-field =
      record {
        after = n.after;
        inside = n.inside;
        bytes = n.bytes;
        field = λ g s l. good-field l (part t a next) v (number-here g s);
        other = λ f p s o l. bad-field l (part t a f) (number-other f p s o);
      }

-- ---- the first k places of a list's numbers

abbrev cut_to : ℕ → Numbers → Numbers
cut_to k l = record { ok = l.ok; count = l.count; vals = take k l.vals }

take-set : (k i : ℕ) (xs : List ℤ) (v : ℤ) → take k (set xs i v) ≡ set (take k xs) i v
take-set zero i xs v = refl
take-set (suc k) i [] v = refl
take-set (suc k) zero (x ∷ xs) v = refl
take-set (suc k) (suc i) (x ∷ xs) v = ap (λ (l : List ℤ). x ∷ l) (take-set k i xs v)

cut-add : (k : ℕ) (l : Numbers) (f : List ℕ) → cut_to k (add_field l f) ≡ add_field (cut_to k l) f
unfolding add_field add_read put_number
cut-add k l f = go (read_number f)
  where
    go : (n : Option ℤ) → cut_to k (add_read l n) ≡ add_read (cut_to k l) n
    go (Some v) = ap (λ (x : List ℤ). record { ok = l.ok; count = l.count + 1; vals = x })
        (take-set k l.count l.vals v)
    go None = refl

cut-fed : (k : ℕ) (c : Cut Numbers) (bs : List ℕ)
    → closed add_field (feeds add_field comma (record { st = cut_to k c.st; held = c.held }) bs) ≡ cut_to k
    (closed add_field (feeds add_field comma c bs))
cut-fed k c [] =
    rw (feeds-none add_field comma (record { st = cut_to k c.st; held = c.held }), feeds-none add_field comma c)
    (sym (cut-add k c.st c.held))
cut-fed k c (b ∷ bs) =
    let now : Cut Numbers = record { st = cut_to k c.st; held = c.held } in
    rw (feeds-cons add_field comma now b bs, feeds-cons add_field comma c b bs)
    (same_or b comma
    (λ z. rw (feed-sep add_field comma now b z, feed-sep add_field comma c b z, ← cut-add k c.st c.held)
    (cut-fed k (fresh (add_field c.st c.held)) bs))
    (λ n. rw (feed-held add_field comma now b n, feed-held add_field comma c b n)
    (cut-fed k (record { st = c.st; held = c.held ++ (b ∷ []) }) bs)))

abbrev listed : ℕ → List ℤ → Numbers
listed count vals = record { ok = true; count = count; vals = vals }

cut-none : (k : ℕ) → k ≤ places_max → cut_to k no_numbers ≡ listed 0 (replicate k (pos 0))
unfolding no_numbers
cut-none k h = ap (listed 0) (take-zeros k places_max h)

-- ---- the loop

-- `count` numbers are read, and the next one begins at a
pub record Inv (t : List ℕ) (from : ℕ) (old vals : List ℤ) (a count : ℕ) : Type 0 where
  pub on : Onward numbers t from a (listed count vals) (cut_to (length old) (numbers_at [] t from))
  pub inside : a ≤ length t
  pub few : count ≤ a
  pub long : length vals ≡ length old

pub begins : (t : List ℕ) (from : ℕ) (vals : List ℤ) → from ≤ length t → Ready vals
    → Inv t from vals vals from 0
unfolding read_list last_field body_of starts_with
begins t from vals h r =
    let none = ap (listed 0) r.zero ∙ sym (cut-none (length vals) r.few) in
    record {
      on =
          record {
            start = h;
            begun = omega arith;
            room = (line-end t from h).after;
            makes =
                ap (λ (l : Numbers). closed add_field (feeds add_field comma (fresh l) (line_of t from))) none
                ∙ cut-fed (length vals) (fresh no_numbers) (line_of t from);
          };
      inside = h;
      few = omega arith;
      long = refl;
    }

module _ {t : List ℕ} {from : ℕ} {old vals : List ℤ} {a count : ℕ} (inv : Inv t from old vals a count)
    {v : ℤ} {next : ℕ} (n : OnlyNumber t a v next) where
  pub none-there : next ≡ a → ended_and t from (numbers_at [] t from).ok ≡ false
  none-there z =
      not-ended t from (numbers_at [] t from).ok (λ l. no_field numbers inv.on (number-field t a v next n) z)

  pub other-mark : is_at t next line_feed ≡ false → is_at t next comma ≡ false
      → ended_and t from (numbers_at [] t from).ok ≡ false
  other-mark y z =
      not-ended t from (numbers_at [] t from).ok (λ l. no-mark numbers inv.on (number-field t a v next n) y z l)

  module _ (some : next ≡ a → ⊥) where
    pub again : is_at t next comma ≡ true → Inv t from old (set vals count v) (next + 1) (count + 1)
    unfolding put_number
    again z =
        let o = next_field numbers inv.on (number-field t a v next n) some z in
        record {
          on = o;
          inside = omega (arith, o.room, (line-end t from o.start).inside);
          few = omega (arith, inv.few, n.after);
          long = length-set vals count v ∙ inv.long;
        }

    pub ends : is_at t next line_feed ≡ true
        → ListFrom [] t from (Some (record { value = count + 1; next = next + 1 })) old (set vals count v)
    unfolding put_number list_at_of places_of
    ends z =
        let f = last-field numbers inv.on (number-field t a v next n) some z in
        let y = is-ended t from (numbers_at [] t from).ok f.1 (sym (ap (λ (l : Numbers). l.ok) f.2)) in
        record {
          answer =
              rw y
              (ap₂ (λ (c x : ℕ). Some (record { value = c; next = x }))
              (ap (λ (l : Numbers). l.count) f.2) (ap (λ (i : ℕ). i + 1) f.0));
          places = rw y (ap (λ (l : Numbers). l.vals) f.2);
        }

-- the places are zero again, as many as they were
pub no-list : {key t : List ℕ} {from : ℕ} {r : Option (At ℕ)} {old : List ℤ} (now : List ℤ) {vals : List ℤ}
    → ended_and t from (numbers_at key t from).ok ≡ false → r ≡ None
    → length now ≡ length old → vals ≡ replicate (length now) (pos 0) → ListFrom key t from r old vals
unfolding list_at_of places_of
no-list now z p l q = record { answer = rw z p; places = rw (z, ← l) q }

-- ---- after the key

nothing : (read_list []).ok ≡ false
unfolding read_list last_field add_field add_read read_number feeds
nothing = refl

module _ (t key : List ℕ) (from : ℕ) (h : from ≤ length t) where
  pub other_key : starts_with key (drop from t) ≡ false → ended_and t from (numbers_at key t from).ok ≡ false
  other_key n =
      not-ended t from (numbers_at key t from).ok
      (λ x. ap (λ (l : List ℕ). (read_list l).ok) (no_body t key from h n) ∙ nothing)

  pub keyed : no_feed key ≡ true → starts_with key (drop from t) ≡ true → (r : Option (At ℕ)) (old vals : List ℤ)
      → ListFrom [] t (from + length key) r old vals → ListFrom key t from r old vals
  unfolding body_of starts_with
  keyed a y r old vals l =
      let same = ap read_list (body_at t key from h a y) in
      record {
        answer = rw (same, ← same_end t key from h a y) l.answer;
        places = rw (same, ← same_end t key from h a y) l.places;
      }
