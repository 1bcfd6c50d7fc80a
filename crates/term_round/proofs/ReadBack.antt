-- An `eq` line that is written is read back, with zeros in its dead places.
use Prim.Native.Nat.{ℕ, zero, suc, ◌+◌, ◌-◌, ◌≤◌, ◌<◌, min}
use native.Mathlib.Omega.{arith}
use native.Mathlib.Numerals.{add-one}
use mathlib.Core.Path.{◌≡◌, refl, sym, ap, ap₂, ◌∙◌}
use mathlib.Core.List.{List, [], ◌∷◌, ◌++◌, foldl, foldl-append}
use mathlib.Core.Bool.{Bool, true, false, not, ◌||◌}
use lib.ListN.{length, get_or, length-append}
use lib.Seq.{get_or-append_seam, take-append_seam, drop-append-add}
use lib.IntN.{pos}
use borrow.Author.Tests.{ne_eqb, le-leb, lt-leb}
use Rattle.sizes.specs.Sizes.{n_max, terms_max, entry_max}
use Rattle.lists.specs.Loops.{both, all_b, tab}
use Rattle.lists.proofs.Tab.{get_or-tab, tab-none, tab-more, tab-cong}
use Rattle.digits.specs.Bytes.{comma, minus_sign, digit0, digit9}
use Rattle.digits.specs.Number.{digits_max}
use Rattle.digits.specs.Show.{show_number}
use Rattle.digits.proofs.ReadBack.{number-back}
use Rattle.text.specs.Keys.{starts_with}
use Rattle.text.specs.Lists.{after_commas, joined}
use Rattle.text.proofs.Keys.{body_own}
use Rattle.text.proofs.Pieces.{Above, AllAbove, above-append, number-above, commas-above, fed-joined}
use Rattle.jobs.specs.Places.{exp_of, term_at}
use Rattle.jobs.specs.Zero.{zero_term}
use Rattle.term_checks.specs.Ranges.{is_within}
use Rattle.term_checks.specs.Terms.{good_coefs}
use Rattle.term_checks.proofs.RangeLaws.{each_all}
use Rattle.text.specs.Words.{eq_key}
use Rattle.term_text.specs.Terms.{colon, exponents, no_terms, put_term, add_coef, add_parts}
use Rattle.digits.specs.Digits.{is_digit, all_digits}
use Rattle.term_text.specs.Terms.{add_term, last_term, read_terms, read_equation}
use Rattle.term_write.specs.ShowTerms.{show_exponents, show_term, term_texts, equation_text}
use Rattle.term_write.proofs.Joined.{tab-next, tab-empty}
use Rattle.term_write.proofs.Terms.{exponents-long}
use Rattle.jobs.specs.declared.Term.{Term}
use Rattle.jobs.specs.declared.Equation.{Equation}
use Rattle.term_text.specs.Terms.{Terms}
use Rattle.term_round.specs.Live.{live_term, live_equation}
use Rattle.term_round.specs.Spelled.{SpelledTerm, SpelledEquation}

-- ---- no separator stands in a term

module _ (sep : ℕ) (h : sep < minus_sign) where
  digits_above : (n : ℕ) (e : ℕ → ℕ) → Above sep (tab n n 0 (λ k. digit0 + e k))
  unfolding tab Above
  digits_above zero e = tt
  digits_above (suc n) e = (omega arith, digits_above n (λ k. e (suc k)))

  term-above : (n : ℕ) (t : Term) → Above sep (show_term n t)
  unfolding show_term show_exponents Above
  term-above n t =
      above-append sep (show_number t.coef) _ (number-above sep h digits_max t.coef)
      (omega arith, digits_above n (exp_of t))

texts-above : (sep : ℕ) (m : ℕ) (f : ℕ → List ℕ) → ((k : ℕ) → Above sep (f k)) → AllAbove sep (tab m m [] f)
unfolding tab AllAbove
texts-above sep zero f h = tt
texts-above sep (suc m) f h = (h zero, texts-above sep m (λ k. f (suc k)) (λ k. h (suc k)))

joined-above : (sep : ℕ) → sep < comma → (xs : List (List ℕ)) → AllAbove sep xs → Above sep (joined xs)
unfolding joined AllAbove Above
joined-above sep h [] a = tt
joined-above sep h (x ∷ xs) a = above-append sep x (after_commas xs) a.0 (commas-above sep h xs a.1)

key_above : (sep : ℕ) → sep < comma → Above sep eq_key
unfolding Above
key_above sep h = omega arith

pub equation-above : (sep : ℕ) → sep < comma → (n : ℕ) (q : Equation) → Above sep (equation_text n q)
unfolding equation_text term_texts
equation-above sep h n q =
    above-append sep eq_key _ (key_above sep h)
    (joined-above sep h _ (texts-above sep q.count (λ k. show_term n (term_at q k))
    (λ k. term-above sep (omega arith) n (term_at q k))))

-- ---- one term

module _ (n : ℕ) (t : Term) (spelled : SpelledTerm n t) where
  ds : List ℕ
  ds = show_exponents n t

  digit_at : (k : ℕ) → k < n → get_or ds k 0 ≡ digit0 + exp_of t k
  unfolding ds show_exponents
  digit_at k l = get_or-tab 0 n n _ 0 k l (omega arith)

  is_digit_lem : (b : ℕ) → digit0 ≤ b → b ≤ digit9 → is_digit b ≡ true
  unfolding is_digit
  is_digit_lem b p q = rw (le-leb digit0 b p, le-leb b digit9 q)

  digits-good : all_digits ds ≡ true
  unfolding all_digits ds
  digits-good =
      rw (exponents-long n t)
      (each_all _ n (λ k l.
      is_digit_lem _ (omega (arith, digit_at k l)) (omega (arith, digit_at k l, spelled.digits k l))))

  exponents-back : exponents n ds ≡ tab n_max n 0 (exp_of t)
  unfolding exponents
  exponents-back = tab-cong 0 n_max n _ (exp_of t) (λ k l. omega (arith, digit_at k l))

  term-back : (a : Terms) → add_term n a (show_term n t) ≡ put_term a (live_term n t)
  unfolding add_term add_parts add_coef show_term ds live_term
  term-back a =
      let num = show_number t.coef in
      let f = num ++ (colon ∷ ds) in
      let long = length-append num (colon ∷ ds) in
      let e = exponents-long n t in
      let at : length f - n - 1 ≡ length num = omega arith in
      rw (
        at,
        lt-leb (length f) n (omega arith),
        get_or-append_seam num colon ds 0,
        take-append_seam num (colon ∷ ds),
        drop-append-add num (colon ∷ ds) 1,
        digits-good,
        number-back t.coef spelled.coef,
        exponents-back,
      )

-- ---- all terms

-- a term has its colon at least
some_bytes : (n : ℕ) (t : Term) (xs : List (List ℕ)) → length (joined (show_term n t ∷ xs)) ≡ 0 → ⊥
unfolding joined show_term
some_bytes n t xs e =
    omega (
      arith,
      e,
      length-append (show_number t.coef ++ (colon ∷ show_exponents n t)) (after_commas xs),
      length-append (show_number t.coef) (colon ∷ show_exponents n t),
    )

no_fields : (n : ℕ) → read_terms n (joined []) ≡ no_terms
unfolding read_terms joined
no_fields n = refl

-- the size of coefficient k
abbrev sized : Equation → ℕ → Bool
sized q k = is_within (term_at q k).coef (pos entry_max)

abbrev read_to : ℕ → Equation → ℕ → Terms
read_to n q m = record {
  ok = true;
  far = not (all_b m (sized q));
  equation = record { count = m; terms = tab terms_max m zero_term (λ k. live_term n (term_at q k)) };
}

not-both : (a b : Bool) → not a || not b ≡ not (both a b)
not-both true b = refl
not-both false b = refl

-- one coefficient more
far-next : (p : ℕ → Bool) (m : ℕ) → not (all_b m p) || not (p m) ≡ not (all_b (m + 1) p)
unfolding all_b
far-next p m = rw add-one (not-both (all_b m p) (p m))

module _ (n : ℕ) (q : Equation) (spelled : SpelledEquation n q) where
  put_next : (m : ℕ) → m < q.count → put_term (read_to n q m) (live_term n (term_at q m)) ≡ read_to n q (m + 1)
  unfolding put_term live_term
  put_next m l =
      ap₂ (λ (b : Bool) (ts : List Term). record {
        ok = true;
        far = b;
        equation = record { count = m + 1; terms = ts };
      })
      (far-next (sized q) m)
      (tab-more zero_term terms_max m _ (omega (arith, spelled.few)) refl refl)

  fold-terms : (m : ℕ) → m ≤ q.count → foldl (add_term n) no_terms (term_texts n q m) ≡ read_to n q m
  unfolding term_texts no_terms all_b
  fold-terms zero l =
      ap (foldl (add_term n) no_terms) (tab-empty [] _)
      ∙ ap (λ (ts : List Term). record { ok = true; far = false; equation = record { count = 0; terms = ts } })
      (tab-none zero_term terms_max _)
  fold-terms (suc m) l =
      let f : ℕ → List ℕ = λ k. show_term n (term_at q k) in
      ap (λ (x : ℕ). foldl (add_term n) no_terms (tab x x [] f)) (sym (add-one m))
      ∙ ap (foldl (add_term n) no_terms) (tab-next [] m f)
      ∙ foldl-append (add_term n) no_terms (tab m m [] f) (f m ∷ [])
      ∙ ap (λ (a : Terms). add_term n a (f m)) (fold-terms m (omega arith))
      ∙ term-back n (term_at q m) (spelled.terms m l) (read_to n q m)
      ∙ put_next m l
      ∙ ap (read_to n q) (add-one m)

  terms-back : (m : ℕ) → m ≤ q.count → read_terms n (joined (term_texts n q m)) ≡ read_to n q m
  unfolding read_terms last_term term_texts tab
  terms-back zero l = no_fields n ∙ fold-terms zero l
  terms-back (suc m) l =
      let x = show_term n (term_at q 0) in
      let xs = tab m m [] (λ k. show_term n (term_at q (suc k))) in
      rw (ne_eqb (length (joined (x ∷ xs))) 0 (some_bytes n (term_at q 0) xs))
      (fed-joined (add_term n) no_terms x xs (term-above comma (omega arith) n (term_at q 0))
      (texts-above comma m _ (λ k. term-above comma (omega arith) n (term_at q (suc k))))
      ∙ fold-terms (suc m) l)

  -- all of it, and whether a coefficient is beyond its size
  pub equation-read : read_equation n (equation_text n q)
      ≡ record { ok = true; far = not (good_coefs q); equation = live_equation n q }
  unfolding read_equation equation_text starts_with live_equation good_coefs
  equation-read =
      let few : min q.count terms_max ≡ q.count = omega (arith, spelled.few) in
      rw few
      (ap (read_terms n) (body_own eq_key (joined (term_texts n q q.count))) ∙ terms-back q.count (omega arith))
