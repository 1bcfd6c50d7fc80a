-- A line's terms, taken where they stand, are its equation.
use Prim.Native.Nat.{ℕ, ◌+◌, ◌-◌, ◌≤◌, ◌<◌}
use native.Mathlib.Omega.{arith}
use mathlib.Core.Path.{◌≡◌, refl, sym, ap, ◌∙◌}
use mathlib.Core.List.{List}
use mathlib.Core.Bool.{Bool, true, false, cond, ◌||◌, true≢false}
use lib.ListN.{length, take, drop, get_or, set}
use lib.Dec.{leb, eqb}
use lib.IntN.{ℤ}
use borrow.Author.Tests.{ne_eqb}
use Rattle.digits.specs.Bytes.{line_feed, comma}
use Rattle.digits.specs.Number.{read_number}
use Rattle.digits.proofs.Cases.{either}
use Rattle.jobs.specs.Zero.{zero_equation}
use Rattle.jobs.specs.declared.Equation.{Equation}
use Rattle.jobs.specs.declared.Term.{Term}
use Rattle.text.specs.Cut.{fresh, feeds}
use Rattle.text.specs.Keys.{starts_with}
use Rattle.text.specs.Words.{eq_key}
use Rattle.term_text.specs.Terms.{colon, exponents, no_terms, misspelled, put_term}
use Rattle.digits.specs.Digits.{all_digits}
use Rattle.term_text.specs.Terms.{add_coef, add_parts, add_term, last_term, read_terms, read_equation}
use Rattle.term_text.specs.Terms.{Terms}
use Rattle.reading.specs.Places.{line_end}
use Rattle.reading.proofs.Ends.{line-end}
use Rattle.scan.specs.Fields.{is_at}
use Rattle.scan.specs.Lines.{line_of, ended_and}
use Rattle.scan.proofs.Parts.{part_length, part_none}
use Rattle.scan.proofs.Tests.{at-yes, at-no, not-ended, is-ended}
use Rattle.scan.proofs.Fields.{Steps, OnlyField, Onward, next_field, last-field, no_field, no-mark}
use Rattle.scan.proofs.Counting.{ends_at}
use Rattle.scan.proofs.Keyed.{no_key, has_key, same_end, body_at}
use Rattle.term_read.specs.Terms.{OnlyTerm}
use Rattle.term_read.specs.Lines.{is_mark, is_far, TermsOf, TermsFrom}
use Rattle.scan.specs.declared.At.{At}
use Rattle.term_read.specs.declared.Terms.{Terms as Taken}
use Rattle.std.specs.Prelude.{Result, Ok, Err, Some, None, Option}

-- ---- a term is a field

cond-stuck : (t : Bool) (x y : Terms) → x.ok ≡ false → y.ok ≡ false → (cond t x y).ok ≡ false
cond-stuck true x y p q = p
cond-stuck false x y p q = q

bad : (l : Terms) → (misspelled l).ok ≡ false
unfolding misspelled
bad l = refl

coef-stuck : (l : Terms) (v : Option ℤ) (exps : List ℕ) → l.ok ≡ false → (add_coef l v exps).ok ≡ false
unfolding add_coef put_term
coef-stuck l None exps e = bad l
coef-stuck l (Some c) exps e = e

pub stuck : (n : ℕ) (l : Terms) (f : List ℕ) → l.ok ≡ false → (add_term n l f).ok ≡ false
unfolding add_term add_parts
stuck n l f e =
    cond-stuck (leb (length f) n) _ _ (bad l)
    (cond-stuck (eqb (get_or f (length f - n - 1) 0) colon) _ _
    (cond-stuck (all_digits (drop (length f - n - 1 + 1) f)) _ _
    (coef-stuck l (read_number (take (length f - n - 1) f)) (exponents n (drop (length f - n - 1 + 1) f)) e) (bad l))
    (bad l))

abbrev term_steps : ℕ → Steps Terms
term_steps n = record { step = add_term n; ok = λ l. l.ok; stuck = stuck n }

term-field : {t : List ℕ} {a n : ℕ} {x : Term} {next : ℕ} → OnlyTerm t a n x next
    → OnlyField (term_steps n) t a next (λ l. put_term l x)
term-field h =
    record {
      after = h.after;
      inside = h.inside;
      bytes = h.bytes;
      field = λ g s l. h.field g l;
      other = λ f p s o l. ap (λ (y : Terms). y.ok) (h.other f p s.inside o l) ∙ bad l;
    }

-- ---- the loop

abbrev whole_of : ℕ → List ℕ → ℕ → Terms
whole_of n t from = last_term n (feeds (add_term n) comma (fresh no_terms) (line_of t from))

abbrev read_so : Bool → Equation → Terms
read_so far q = record { ok = true; far = far; equation = q }

-- the terms before a are read
pub record Inv (t : List ℕ) (from n : ℕ) (q : Equation) (far : Bool) (a : ℕ) : Type 0 where
  pub start : from ≤ length t
  pub some : is_at t from line_feed ≡ false
  pub inside : a ≤ length t
  pub few : q.count ≤ a
  pub left : Onward (term_steps n) t from a (read_so far q) (whole_of n t from)

pub begins : (t : List ℕ) (from n : ℕ) → from ≤ length t → is_at t from line_feed ≡ false
    → Inv t from n zero_equation false from
unfolding no_terms last_term
begins t from n h z =
    record {
      start = h;
      some = z;
      inside = h;
      few = omega arith;
      left = record { start = h; begun = omega arith; room = (line-end t from h).after; makes = refl };
    }

-- a line that is not empty
reads_whole : (t : List ℕ) (from n : ℕ) → from ≤ length t → is_at t from line_feed ≡ false → line_end t from < length t
    → read_terms n (line_of t from) ≡ whole_of n t from
unfolding read_terms
reads_whole t from n h z l =
    let p = line-end t from h in
    let f : from < line_end t from =
    either from (line_end t from) (λ g. g)
    (λ g.
    let y : from ≡ line_end t from = omega (arith, p.after) in
    absurd (at-no t from line_feed z (omega arith) (rw y (p.ends l)))) in
    let k = part_length t from (line_end t from) p.after p.inside in
    rw (ne_eqb (length (line_of t from)) 0 (λ y. omega (arith, y, k)))

module _ (read : List ℕ → Terms) (t : List ℕ) (from : ℕ) where
  no-terms : (count next : ℕ) → count ≤ next → next ≤ length t → ended_and t from (read (line_of t from)).ok ≡ false
      → TermsFrom read t from (Err (record { value = count; next = next }))
  unfolding TermsOf
  no-terms count next p q z = record { answer = rw z refl; few = p; inside = q }

  all-terms : (l : Terms) (next : ℕ) → next ≡ line_end t from + 1 → l.equation.count ≤ next → line_end t from < length t
      → read (line_of t from) ≡ l → l.ok ≡ true
      → TermsFrom read t from (Ok (record { value = record { far = l.far; equation = l.equation }; next = next }))
  unfolding TermsOf
  all-terms l next e p h w y =
      record {
        answer = rw (w, is-ended t from l.ok h y, e) refl;
        few = p;
        inside = omega (arith, h, e);
      }

pub empty-line : (t : List ℕ) (from n : ℕ) → is_at t from line_feed ≡ true
    → TermsFrom (read_terms n) t from
    (Ok (record { value = record { far = false; equation = zero_equation }; next = from + 1 }))
unfolding read_terms no_terms
empty-line t from n z =
    let y = at-yes t from line_feed z in
    let w : from ≡ line_end t from = ends_at t from from (omega arith) (λ k p q. absurd (omega arith)) z in
    all-terms (read_terms n) t from no_terms (from + 1) (omega arith) (omega arith) (omega (arith, y.0))
    (rw (part_none t from (line_end t from) (omega arith))) refl

or_fst : (b c : Bool) → (b || c) ≡ false → b ≡ false
or_fst true c e = e
or_fst false c e = refl

or_snd : (b c : Bool) → (b || c) ≡ false → c ≡ false
or_snd true c e = absurd (true≢false e)
or_snd false c e = e

mark-is : (c l : Bool) → (c || l) ≡ true → l ≡ false → c ≡ true
mark-is true l e z = refl
mark-is false l e z = sym z ∙ e

module _ {t : List ℕ} {from n : ℕ} {q : Equation} {far : Bool} {a : ℕ} (inv : Inv t from n q far a)
    {x : Term} {next : ℕ} (h : OnlyTerm t a n x next) where
  -- a bad field makes a bad line
  not-whole : (line_end t from < length t → (whole_of n t from).ok ≡ false)
      → TermsFrom (read_terms n) t from (Err (record { value = q.count; next = a }))
  not-whole w =
      no-terms (read_terms n) t from q.count a inv.few inv.inside
      (not-ended t from (read_terms n (line_of t from)).ok
      (λ l. ap (λ (y : Terms). y.ok) (reads_whole t from n inv.start inv.some l) ∙ w l))

  pub none-there : next ≡ a → TermsFrom (read_terms n) t from (Err (record { value = q.count; next = a }))
  none-there z = not-whole (λ l. no_field (term_steps n) inv.left (term-field h) z)

  pub other-mark : is_mark t next ≡ false
      → TermsFrom (read_terms n) t from (Err (record { value = q.count; next = a }))
  other-mark z =
      not-whole
      (λ l.
      no-mark (term_steps n) inv.left (term-field h)
      (or_snd (is_at t next comma) (is_at t next line_feed) z)
      (or_fst (is_at t next comma) (is_at t next line_feed) z) l)

  module _ (some : a < next) {new : List Term} (put : new ≡ set q.terms q.count x) where
    pub again : is_mark t next ≡ true → is_at t next line_feed ≡ false
        → Inv t from n (record { count = q.count + 1; terms = new }) (far || is_far x) (next + 1)
    unfolding put_term
    again mark z =
        let c = mark-is (is_at t next comma) (is_at t next line_feed) mark z in
        record {
          start = inv.start;
          some = inv.some;
          inside = omega (arith, (at-yes t next comma c).0);
          few = omega (arith, inv.few);
          left = rw put (next_field (term_steps n) inv.left (term-field h) (λ z. omega (arith, z)) c);
        }

    pub all_read : is_at t next line_feed ≡ true
        → TermsFrom (read_terms n) t from
        (Ok
        (record {
          value = record { far = far || is_far x; equation = record { count = q.count + 1; terms = new } };
          next = next + 1;
        }))
    unfolding put_term
    all_read z =
        let f = last-field (term_steps n) inv.left (term-field h) (λ z. omega (arith, z)) z in
        let l = read_so (far || is_far x) (record { count = q.count + 1; terms = new }) in
        all-terms (read_terms n) t from l (next + 1) (omega (arith, f.0)) (omega (arith, inv.few)) f.1
        (reads_whole t from n inv.start inv.some f.1 ∙ rw put (sym f.2)) refl

-- ---- after the key

module _ (t : List ℕ) (from n : ℕ) (h : from ≤ length t) where
  pub other_key : starts_with eq_key (drop from t) ≡ false
      → TermsFrom (read_equation n) t from (Err (record { value = 0; next = from }))
  unfolding read_equation
  other_key z =
      no-terms (read_equation n) t from 0 from (omega arith) h
      (not-ended t from (read_equation n (line_of t from)).ok (λ l. rw (no_key t eq_key from h z) (bad no_terms)))

  pub keyed : starts_with eq_key (drop from t) ≡ true → {r : Result (At Taken) (At ℕ)}
      → TermsFrom (read_terms n) t (from + length eq_key) r → TermsFrom (read_equation n) t from r
  unfolding read_equation
  keyed y e =
      record {
        answer =
            rw (has_key t eq_key from h refl y, body_at t eq_key from h refl y, ← same_end t eq_key from h refl y)
            e.answer;
        few = e.few;
        inside = e.inside;
      }
