-- What the lines that hold a list say, before their values are checked.
use Prim.Native.Nat.{ℕ}
use mathlib.Core.Path.{◌≡◌, refl, sym, ap, ◌∙◌, fun_ext}
use mathlib.Core.List.{List}
use mathlib.Core.Bool.{Bool, true, false, cond, not, true≢false, false≢true}
use lib.ListN.{length, take}
use lib.Dec.{eqb}
use lib.IntN.{ℤ}
use borrow.Author.Tests.{eq-eqb, ne_eqb}
use Rattle.faults.specs.declared.Fault.{Fault}
use Rattle.faults.specs.Checked.{Found}
use Rattle.faults.specs.Checks.{bad_unless, first_of}
use Rattle.jobs.specs.declared.Equation.{Equation}
use Rattle.checks.specs.Checks.{equation_check}
use Rattle.term_checks.specs.Terms.{good_terms}
use Rattle.text.specs.Lists.{Numbers}
use Rattle.term_text.specs.Terms.{Terms, read_equation}
use Rattle.reading.specs.Results.{after, passing, refuse}
use Rattle.reading.specs.Places.{line_end, line_at}
use Rattle.reading.specs.declared.Listed.{Listed}
use Rattle.reading.specs.NumberLines.{listed, list_line, rowed, row_line}
use Rattle.reading.proofs.Ends.{line_after}
use Rattle.reading.proofs.Told.{fault-got}
use Rattle.scan.specs.declared.At.{At}
use Rattle.scan.specs.Lines.{line_of, ended_and, list_at_of, places_of, ListFrom}
use Rattle.scan.specs.Lines as scan
use Rattle.term_read.specs.declared.Terms.{Terms as Taken}
use Rattle.term_read.specs.Lines.{TermsOf, TermsFrom}
use Rattle.term_read.proofs.Near.{near-coefs}
use Rattle.lines.specs.Lines.{misspelled, numbers_of, terms_by, equation_of}
use Rattle.line_read.specs.At.{said, onward, line_from}
use Rattle.line_read.proofs.Checked.{odd-line}
use Rattle.std.specs.Prelude.{Some, None, Ok, Err}

some-none : {A B : Type 0} {x : A} → Some x ≡ None → B
some-none e = absurd (let z : ◌≡◌ {A = Bool} true false = cc in true≢false z)

-- ---- numbers

-- the line that begins at a, after its key: m places for its numbers
module _ (key t : List ℕ) (a m : ℕ) where
  abbrev those : Numbers
  those = scan.numbers_at key t a

  abbrev Row : ℕ → Found (At (List ℤ)) → Type 0
  Row n r = r ≡ line_from (said (numbers_of key m n) t a) (onward t a)

  abbrev Any : Found (At Listed) → Type 0
  Any r = r ≡ line_from {A = Listed} (said (list_line Fault.Spelling key m) t a) (onward t a)

  module _ {old vals : List ℤ} (l : length old ≡ m) {y : At ℕ} (w : ListFrom key t a (Some y) old vals) where
    module _ (n : ℕ) where
      pub row-line-yes : y.value ≡ n → Row n (Ok (record { value = vals; next = y.next }))
      unfolding line_at row_line rowed list_at_of places_of
      row-line-yes e = rw odd-line (go (ended_and t a those.ok) w.answer (rw l at w.places))
        where
          go : (b : Bool) → Some y ≡ list_at_of b those (line_end t a) → vals ≡ places_of b those m
              → Ok (record { value = vals; next = y.next })
              ≡ line_from
              (cond b (refuse (not (eqb those.count n)) Fault.Spelling (Ok (take m those.vals))) misspelled)
              (onward t a)
          go true p q =
              let z : y ≡ record { value = those.count; next = onward t a } = cc in
              rw (eq-eqb those.count n (ap (λ (v : At ℕ). v.value) (sym z) ∙ e), ← q, z) refl
          go false p q = some-none p

      pub row-line-no : (y.value ≡ n → ⊥) → Row n (Err Fault.Spelling)
      unfolding line_at row_line rowed list_at_of places_of
      row-line-no o = rw odd-line (go (ended_and t a those.ok) w.answer)
        where
          go : (b : Bool) → Some y ≡ list_at_of b those (line_end t a)
              → Err Fault.Spelling
              ≡ line_from
              (cond b (refuse (not (eqb those.count n)) Fault.Spelling (Ok (take m those.vals))) misspelled)
              (onward t a)
          go true p =
              let z : y ≡ record { value = those.count; next = onward t a } = cc in
              rw (ne_eqb those.count n (λ e. o (ap (λ (v : At ℕ). v.value) z ∙ e))) refl
          go false p = some-none p

    pub list-line-yes : Any (Ok (record { value = record { count = y.value; row = vals }; next = y.next }))
    unfolding line_at list_line listed list_at_of places_of
    list-line-yes = rw odd-line (go (ended_and t a those.ok) w.answer (rw l at w.places))
      where
        go : (b : Bool) → Some y ≡ list_at_of b those (line_end t a) → vals ≡ places_of b those m
            → Ok (record { value = record { count = y.value; row = vals }; next = y.next })
            ≡ line_from {A = Listed} (cond b (Ok (record { count = those.count; row = take m those.vals })) misspelled)
            (onward t a)
        go true p q =
            let z : y ≡ record { value = those.count; next = onward t a } = cc in
            rw (← q, z) refl
        go false p q = some-none p

  module _ {old vals : List ℤ} (w : ListFrom key t a None old vals) where
    pub row-line-none : (n : ℕ) → Row n (Err Fault.Spelling)
    unfolding line_at row_line rowed list_at_of
    row-line-none n = rw odd-line (go (ended_and t a those.ok) w.answer)
      where
        go : (b : Bool) → None ≡ list_at_of b those (line_end t a)
            → Err Fault.Spelling
            ≡ line_from (cond b (refuse (not (eqb those.count n)) Fault.Spelling (Ok (take m those.vals))) misspelled)
            (onward t a)
        go true p = some-none (sym p)
        go false p = refl

    pub list-line-none : Any (Err Fault.Spelling)
    unfolding line_at list_line listed list_at_of
    list-line-none = rw odd-line (go (ended_and t a those.ok) w.answer)
      where
        go : (b : Bool) → None ≡ list_at_of b those (line_end t a)
            → Err Fault.Spelling
            ≡ line_from {A = Listed} (cond b (Ok (record { count = those.count; row = take m those.vals })) misspelled)
            (onward t a)
        go true p = some-none (sym p)
        go false p = refl

-- what is made of a line's value before it is checked
module _ {A B : Type 0} (f : List ℕ → Found A) (h : A → B) (t : List ℕ) (a b : ℕ) where
  pub after-yes : {y : At A} → Ok y ≡ line_from (said f t a) b
      → Ok (record { value = h y.value; next = y.next }) ≡ line_from (said (λ l. after (f l) h) t a) b
  unfolding after
  after-yes {y} w = rw (line_after Fault.Spelling f h t a) (go (said f t a) w)
    where
      go : (g : Found A) → Ok y ≡ line_from g b
          → Ok (record { value = h y.value; next = y.next }) ≡ line_from (after g h) b
      go (Ok x) p = let z : y ≡ record { value = x; next = b } = cc in rw z refl
      go (Err d) p = fault-got (sym p)

  pub after-no : {e : Fault} → Err e ≡ line_from (said f t a) b → Err e ≡ line_from (said (λ l. after (f l) h) t a) b
  unfolding after
  after-no {e} w = rw (line_after Fault.Spelling f h t a) (go (said f t a) w)
    where
      go : (g : Found A) → Err e ≡ line_from g b → Err e ≡ line_from (after g h) b
      go (Ok x) p = fault-got p
      go (Err d) p = let z : e ≡ d = cc in rw z refl

-- ---- terms

-- terms, well spelled, with coefficients in their range: their equation before it is checked
unfoldable pub terms_is : Terms → Found Equation
terms_is a = refuse (not a.ok) Fault.Spelling (refuse a.far Fault.Beyond (Ok a.equation))

module _ (n : ℕ) (t : List ℕ) (a : ℕ) where
  abbrev terms : Terms
  terms = read_equation n (line_of t a)

  abbrev Line : Found (At Equation) → Type 0
  Line r = r ≡ line_from (said (λ l. terms_is (read_equation n l)) t a) (onward t a)

  pub terms-none : {w : At ℕ} → TermsFrom (read_equation n) t a (Err w) → Line (Err Fault.Spelling)
  unfolding line_at terms_is TermsOf
  terms-none {w} r = rw odd-line (go (ended_and t a terms.ok) r.answer)
    where
      go : (b : Bool) → TermsOf b terms (line_end t a) (Err w)
          → Err Fault.Spelling
          ≡ line_from (cond b (refuse terms.far Fault.Beyond (Ok terms.equation)) misspelled) (onward t a)
      go true p = fault-got p
      go false p = refl

  module _ {y : At Taken} (r : TermsFrom (read_equation n) t a (Ok y)) where
    read-is : (ended_and t a terms.ok ≡ true)
        × (y ≡ record { value = record { far = terms.far; equation = terms.equation }; next = onward t a })
    unfolding TermsOf
    read-is = go (ended_and t a terms.ok) refl r.answer
      where
        go : (b : Bool) → ended_and t a terms.ok ≡ b → TermsOf b terms (line_end t a) (Ok y)
            → (ended_and t a terms.ok ≡ true)
            × (y ≡ record { value = record { far = terms.far; equation = terms.equation }; next = onward t a })
        go true e p = (e, cc)
        go false e p = absurd (false≢true p)

    pub terms-far : y.value.far ≡ true → Line (Err Fault.Beyond)
    unfolding line_at terms_is
    terms-far e =
        let far : terms.far ≡ true = ap (λ (v : At Taken). v.value.far) (sym read-is.1) ∙ e in
        rw (odd-line, read-is.0, far) refl

    module _ (e : y.value.far ≡ false) where
      near : terms.far ≡ false
      near = ap (λ (v : At Taken). v.value.far) (sym read-is.1) ∙ e

      pub terms-near : Line (Ok (record { value = y.value.equation; next = y.next }))
      unfolding line_at terms_is
      terms-near = rw (odd-line, read-is.0, near, read-is.1) refl

      -- coefficients in their range need no second look
      pub shape-alone : equation_check n y.value.equation ≡ bad_unless (good_terms y.value.equation n) Fault.Terms
      unfolding equation_check first_of bad_unless
      shape-alone = rw (read-is.1, near-coefs n (line_of t a) near) refl

-- an equation's line is its terms, then their check
pub equation-is : (n : ℕ) → (λ l. passing (terms_is (read_equation n l)) (equation_check n)) ≡ equation_of n
unfolding equation_of terms_by terms_is passing after
equation-is n = fun_ext (λ l. go (read_equation n l).ok (read_equation n l).far (read_equation n l).equation)
  where
    go : (ok far : Bool) (q : Equation)
        → passing (refuse (not ok) Fault.Spelling (refuse far Fault.Beyond (Ok q))) (equation_check n)
        ≡ refuse (not ok) Fault.Spelling (refuse far Fault.Beyond (passing (Ok q) (equation_check n)))
    go true true q = refl
    go true false q = refl
    go false true q = refl
    go false false q = refl
