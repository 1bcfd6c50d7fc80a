-- An `eq` line that is read is written as it stood.
use Prim.Native.Nat.{ℕ, suc, ◌+◌, ◌-◌, ◌≤◌, ◌<◌}
use native.Mathlib.Omega.{arith}
use native.Mathlib.Numerals.{add-one}
use mathlib.Core.Path.{◌≡◌, refl, sym, ap, ap₂, ◌∙◌}
use mathlib.Core.List.{List, [], ◌∷◌, ◌++◌, map, append-nil, foldl}
use mathlib.Core.Bool.{Bool, true, false, cond, false≢true}
use lib.ListN.{length, take, drop, get_or, length-drop}
use lib.Seq.{split_at}
use lib.Dec.{eqb, leb}
use lib.IntN.{ℤ}
use borrow.Author.Tests.{eqb-true, eq-eqb, ne_eqb, leb-true, leb-false}
use Rattle.sizes.specs.Sizes.{n_max, terms_max}
use Rattle.lists.specs.Loops.{tab}
use Rattle.lists.proofs.All.{all-each}
use Rattle.lists.proofs.Tab.{get_or-tab, tab-cong}
use Rattle.digits.specs.Bytes.{digit0, digit9}
use Rattle.digits.specs.Number.{read_number}
use Rattle.digits.specs.Show.{show_number}
use Rattle.digits.proofs.WriteBack.{number-was}
use Rattle.text.specs.Keys.{starts_with, same_bytes, body_of}
use Rattle.text.specs.Lists.{joined}
use Rattle.text.proofs.Keys.{both, starts-length, same-was, body-was}
use Rattle.text.proofs.Pieces.{fields, fields-joined, fields-fold}
use Rattle.text.specs.Words.{eq_key}
use Rattle.term_text.specs.Terms.{colon, exponents, no_terms, misspelled, put_term, add_coef}
use Rattle.digits.specs.Digits.{is_digit, all_digits}
use Rattle.term_text.specs.Terms.{add_parts, add_term, last_term, read_terms, read_equation}
use Rattle.term_write.specs.ShowTerms.{show_exponents, show_term, equation_text}
use Rattle.jobs.specs.declared.Term.{Term}
use Rattle.jobs.specs.declared.Equation.{Equation}
use Rattle.term_text.specs.Terms.{Terms}
use Rattle.term_round.specs.Live.{live_term, live_equation}
use Rattle.term_round.proofs.Stored.{fold-count, stored-texts, stored-live}
use Rattle.std.specs.Prelude.{Some, None, Option}

zero_one : {A : Type 0} → ◌≡◌ {A = ℕ} 0 1 → A
zero_one z = absurd (omega arith)

-- what stands after its key, also where that is nothing
key-was : (key l : List ℕ) → starts_with key l ≡ true → key ++ body_of key l ≡ l
unfolding body_of same_bytes
key-was key l e = go (body_of key l) refl
  where
    go : (b : List ℕ) → body_of key l ≡ b → key ++ body_of key l ≡ l
    go (b ∷ bs) p = body-was key l (λ n. zero_one (cc))
    go [] p =
        let none = ap length p in
        let short : length l ≤ length key = omega (arith, rw (e, length-drop (length key) l) at none) in
        let same = eq-eqb (length l) (length key) (omega (arith, starts-length key l e)) in
        rw p (append-nil key ∙ same-was key l (rw (same, e)))

-- ---- one term

pub digit-is : (b : ℕ) → is_digit b ≡ true → (digit0 ≤ b) × (b ≤ digit9)
unfolding is_digit
digit-is b e =
    let p = both (leb digit0 b) (leb b digit9) e in
    (leb-true digit0 b p.0, leb-true b digit9 p.1)

tab-own : (ds : List ℕ) → tab (length ds) (length ds) 0 (λ k. get_or ds k 0) ≡ ds
unfolding tab
tab-own [] = refl
tab-own (d ∷ ds) = ap (λ (l : List ℕ). d ∷ l) (tab-own ds)

-- the exponents are written as they stood
exponents-was : (n : ℕ) (t : Term) (ds : List ℕ) → n ≤ n_max → length ds ≡ n → all_digits ds ≡ true
    → t.exps ≡ exponents n ds
    → show_exponents n t ≡ ds
unfolding show_exponents all_digits exponents
exponents-was n t ds h l e x =
    rw (x, ← l)
    (tab-cong 0 (length ds) (length ds) _ (λ k. get_or ds k 0) (λ k q.
    let d = digit-is (get_or ds k 0) (all-each _ (length ds) k q e) in
    rw (get_or-tab 0 n_max (length ds) (λ i. get_or ds i 0 - digit0) 0 k q (omega arith)) (omega (arith, d.0)))
    ∙ tab-own ds)

-- the parts of a field, put together
term-was : (n at : ℕ) (t : Term) (f : List ℕ) → at < length f → get_or f at 0 ≡ colon → show_number t.coef ≡ take at f
    → show_exponents n t ≡ drop (at + 1) f → show_term n t ≡ f
unfolding show_term
term-was n at t f l m x y =
    ap₂ (λ (a b : List ℕ). a ++ b) x
    (ap₂ (λ (b : ℕ) (bs : List ℕ). b ∷ bs) (sym m) (y ∙ ap (λ (k : ℕ). drop k f) (add-one at)))
    ∙ sym (split_at f at 0 l)

bad-ok : (a : Terms) → (misspelled a).ok ≡ false
unfolding misspelled
bad-ok a = refl

-- a test that decides whether the line is well spelled
if_ok : (b : Bool) (x y : Terms) → (cond b x y).ok ≡ true → y.ok ≡ false → (b ≡ true) × (x.ok ≡ true)
if_ok true x y e n = (refl, e)
if_ok false x y e n = absurd (false≢true (sym n ∙ e))

if-not : (b : Bool) (x y : Terms) → (cond b x y).ok ≡ true → x.ok ≡ false → (b ≡ false) × (y.ok ≡ true)
if-not true x y e n = absurd (false≢true (sym n ∙ e))
if-not false x y e n = (refl, e)

record FieldIs (n : ℕ) (a : Terms) (f : List ℕ) : Type 0 where
  t : Term
  text : show_term n t ≡ f
  read : add_term n a f ≡ put_term a t
  live : live_term n t ≡ t

-- digits that are read leave zeros past them
exponents-live : (n : ℕ) (c : ℤ) (ds : List ℕ) → n ≤ n_max
    → live_term n (record { coef = c; exps = exponents n ds }) ≡ record { coef = c; exps = exponents n ds }
unfolding live_term exponents
exponents-live n c ds h =
    ap (λ (l : List ℕ). record { coef = c; exps = l })
    (tab-cong 0 n_max n _ _ (λ k l. get_or-tab 0 n_max n (λ i. get_or ds i 0 - digit0) 0 k l h))

coef-is : (n at : ℕ) (a : Terms) (f : List ℕ) → n ≤ n_max → at + 1 + n ≡ length f → get_or f at 0 ≡ colon
    → all_digits (drop (at + 1) f) ≡ true
    → (c : Option ℤ) → read_number (take at f) ≡ c → (add_coef a c (exponents n (drop (at + 1) f))).ok ≡ true
    → add_term n a f ≡ add_coef a c (exponents n (drop (at + 1) f)) → FieldIs n a f
unfolding add_coef
coef-is n at a f h l m d None p k r = absurd (false≢true (sym (bad-ok a) ∙ k))
coef-is n at a f h l m d (Some v) p k r =
    let ds = drop (at + 1) f in
    let t : Term = record { coef = v; exps = exponents n ds } in
    record {
      t = t;
      text = term-was n at t f (omega arith) m (number-was (take at f) v p)
          (exponents-was n t ds h (length-drop (at + 1) f ∙ omega arith) d refl);
      read = r;
      live = exponents-live n v ds h;
    }

field_is : (n : ℕ) (a : Terms) (f : List ℕ) → n ≤ n_max → (add_term n a f).ok ≡ true → FieldIs n a f
unfolding add_term add_parts
field_is n a f h e =
    let at : ℕ = length f - n - 1 in
    let long = if-not (leb (length f) n) _ _ e (bad-ok a) in
    let mark = if_ok (eqb (get_or f at 0) colon) _ _ long.1 (bad-ok a) in
    let digits = if_ok (all_digits (drop (at + 1) f)) _ _ mark.1 (bad-ok a) in
    let l = leb-false (length f) n long.0 in
    coef-is n at a f h (omega arith) (eqb-true (get_or f at 0) colon mark.0) digits.0
    (read_number (take at f)) refl digits.1
    (rw (long.0, mark.0, digits.0))

-- ---- all terms

cond-not : (b : Bool) (x y : Terms) → x.ok ≡ false → y.ok ≡ false → (cond b x y).ok ≡ false
cond-not true x y p q = p
cond-not false x y p q = q

coef-not : (a : Terms) (c : Option ℤ) (exps : List ℕ) → a.ok ≡ false → (add_coef a c exps).ok ≡ false
unfolding add_coef put_term
coef-not a None exps e = bad-ok a
coef-not a (Some v) exps e = e

term-not : (n : ℕ) (a : Terms) (f : List ℕ) → a.ok ≡ false → (add_term n a f).ok ≡ false
unfolding add_term add_parts
term-not n a f e =
    let at : ℕ = length f - n - 1 in
    cond-not (leb (length f) n) _ _ (bad-ok a)
    (cond-not (eqb (get_or f at 0) colon) _ _
    (cond-not (all_digits (drop (at + 1) f)) _ _
    (coef-not a (read_number (take at f)) (exponents n (drop (at + 1) f)) e) (bad-ok a)) (bad-ok a))

-- a misspelled line stays so
stays-not : (n : ℕ) (fs : List (List ℕ)) (a : Terms) → a.ok ≡ false → (foldl (add_term n) a fs).ok ≡ false
stays-not n [] a e = e
stays-not n (f ∷ fs) a e = stays-not n fs (add_term n a f) (term-not n a f e)

record TermsAre (n : ℕ) (a : Terms) (fs : List (List ℕ)) : Type 0 where
  ts : List Term
  spelled : map (show_term n) ts ≡ fs
  read : foldl (add_term n) a fs ≡ foldl put_term a ts
  live : map (live_term n) ts ≡ ts

terms-are : (n : ℕ) (fs : List (List ℕ)) (a : Terms) → n ≤ n_max → (foldl (add_term n) a fs).ok ≡ true → TermsAre n a fs
terms-are n [] a h e = record { ts = []; spelled = refl; read = refl; live = refl }
terms-are n (f ∷ fs) a h e = go (add_term n a f).ok refl (λ x k. terms-are n fs x h k)
  where
    go : (b : Bool) → (add_term n a f).ok ≡ b → ((x : Terms) → (foldl (add_term n) x fs).ok ≡ true → TermsAre n x fs)
        → TermsAre n a (f ∷ fs)
    go false p ih = absurd (false≢true (sym (stays-not n fs (add_term n a f) p) ∙ e))
    go true p ih =
        let one = field_is n a f h p in
        let rest = ih (put_term a one.t) (ap (λ (x : Terms). (foldl (add_term n) x fs).ok) (sym one.read) ∙ e) in
        record {
          ts = one.t ∷ rest.ts;
          spelled = ap₂ (λ (x : List ℕ) (xs : List (List ℕ)). x ∷ xs) one.text rest.spelled;
          read = ap (λ (x : Terms). foldl (add_term n) x fs) one.read ∙ rest.read;
          live = ap₂ (λ (x : Term) (xs : List Term). x ∷ xs) one.live rest.live;
        }

-- the terms after `eq=`
record TermsWere (n : ℕ) (s : List ℕ) : Type 0 where
  ts : List Term
  text : joined (map (show_term n) ts) ≡ s
  read : read_terms n s ≡ foldl put_term no_terms ts
  live : map (live_term n) ts ≡ ts

terms-were : (n : ℕ) (s : List ℕ) → n ≤ n_max → (read_terms n s).ok ≡ true → TermsWere n s
unfolding read_terms last_term joined
terms-were n [] h e = record { ts = []; text = refl; read = refl; live = refl }
terms-were n (b ∷ bs) h e =
    let s = b ∷ bs in
    let some = ne_eqb (suc (length bs)) 0 (omega arith) in
    let all = terms-are n (fields s) no_terms h
    (ap (λ (x : Terms). x.ok) (sym (fields-fold (add_term n) no_terms s)) ∙ (rw some at e)) in
    record {
      ts = all.ts;
      text = ap joined all.spelled ∙ fields-joined s;
      read = rw some (fields-fold (add_term n) no_terms s ∙ all.read);
      live = all.live;
    }

-- a line is the one that is written for the equation that it says, and there are zeros in the dead places
pub record EquationWas (n : ℕ) (l : List ℕ) (q : Equation) : Type 0 where
  pub text : equation_text n q ≡ l
  pub live : live_equation n q ≡ q

terms-was : (n : ℕ) (s : List ℕ) → n ≤ n_max → (read_terms n s).ok ≡ true
    → (read_terms n s).equation.count ≤ terms_max
    → EquationWas n (eq_key ++ s) (read_terms n s).equation
unfolding equation_text
terms-was n s h e few =
    let w = terms-were n s h e in
    let count = ap (λ (x : Terms). x.equation.count) w.read ∙ fold-count w.ts in
    let short : length w.ts ≤ terms_max = omega arith in
    rw w.read (record {
      text = ap (λ (x : List (List ℕ)). eq_key ++ joined x) (stored-texts n w.ts short)
          ∙ ap (λ (x : List ℕ). eq_key ++ x) w.text;
      live = stored-live n w.ts short w.live;
    })

pub equation-was : (n : ℕ) (l : List ℕ) → n ≤ n_max → (read_equation n l).ok ≡ true
    → (read_equation n l).equation.count ≤ terms_max
    → EquationWas n l (read_equation n l).equation
unfolding read_equation
equation-was n l h e few =
    let key = if_ok (starts_with eq_key l) _ _ e (bad-ok no_terms) in
    let w = terms-was n (body_of eq_key l) h key.1 (rw key.0 at few) in
    rw key.0 (record { text = w.text ∙ key-was eq_key l key.0; live = w.live })
