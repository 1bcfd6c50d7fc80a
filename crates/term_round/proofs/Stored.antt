-- Terms at their places.
use Prim.Native.Nat.{ℕ, zero, suc, ◌+◌, ◌≤◌}
use native.Mathlib.Omega.{arith}
use native.Mathlib.Nat.{add-zero}
use mathlib.Core.Path.{◌≡◌, refl, sym, ap, ap₂, ◌∙◌}
use mathlib.Core.List.{List, [], ◌∷◌, ◌++◌, map, append_assoc, foldl}
use lib.ListN.{length, drop, get_or, set, replicate, length-append, length-replicate}
use lib.Seq.{set-append_seam}
use Rattle.sizes.specs.Sizes.{terms_max}
use Rattle.lists.specs.Loops.{tab}
use Rattle.lists.proofs.Tab.{tab-none}
use Rattle.jobs.specs.Places.{no_term, term_at}
use Rattle.jobs.specs.Zero.{zero_term, zero_equation}
use Rattle.term_text.specs.Terms.{put_term, no_terms}
use Rattle.term_write.specs.ShowTerms.{show_term, term_texts}
use Rattle.jobs.specs.declared.Term.{Term}
use Rattle.jobs.specs.declared.Equation.{Equation}
use Rattle.term_text.specs.Terms.{Terms}
use Rattle.term_round.specs.Live.{live_term, live_equation}

abbrev stored : ℕ → List Term → Equation
stored c ts = record { count = c; terms = ts }

-- one term more
abbrev store_next : Equation → Term → Equation
store_next q t = stored (q.count + 1) (set q.terms q.count t)

fold-equation : (ts : List Term) (a : Terms) → (foldl put_term a ts).equation ≡ foldl store_next a.equation ts
unfolding put_term
fold-equation [] a = refl
fold-equation (t ∷ ts) a = fold-equation ts (put_term a t)

store-one : (ps zs : List Term) (z t : Term)
    → store_next (stored (length ps) (ps ++ (z ∷ zs))) t ≡ stored (length (ps ++ (t ∷ []))) ((ps ++ (t ∷ [])) ++ zs)
store-one ps zs z t =
    ap₂ stored (sym (length-append ps (t ∷ []))) (set-append_seam ps z zs t ∙ sym (append_assoc ps (t ∷ []) zs))

store-all : (ps ts zs : List Term) → length ts ≤ length zs
    → foldl store_next (stored (length ps) (ps ++ zs)) ts
    ≡ stored (length ps + length ts) (ps ++ (ts ++ drop (length ts) zs))
store-all ps [] zs h = ap₂ stored (sym (add-zero (length ps))) refl
store-all ps (t ∷ ts) [] h = absurd (omega arith)
store-all ps (t ∷ ts) (z ∷ zs) h =
    let e : length (ps ++ (t ∷ [])) + length ts ≡ length ps + suc (length ts) =
    rw (length-append ps (t ∷ [])) (omega arith) in
    ap (λ (q : Equation). foldl store_next q ts) (store-one ps zs z t)
    ∙ store-all (ps ++ (t ∷ [])) ts zs (omega arith)
    ∙ ap₂ stored e (append_assoc ps (t ∷ []) (ts ++ drop (length ts) zs))

-- the terms, and zeros after them
pub fold-stored : (ts : List Term) → length ts ≤ terms_max
    → (foldl put_term no_terms ts).equation ≡ stored (length ts)
    (ts ++ drop (length ts) (replicate terms_max zero_term))
unfolding no_terms
fold-stored ts h =
    fold-equation ts no_terms
    ∙ store-all [] ts (replicate terms_max zero_term) (rw (length-replicate terms_max zero_term) h)
    ∙ ap₂ stored {x = 0 + length ts} (omega arith) refl

count-stored : (ts : List Term) (q : Equation) → (foldl store_next q ts).count ≡ q.count + length ts
count-stored [] q = sym (add-zero q.count)
count-stored (t ∷ ts) q = count-stored ts (store_next q t) ∙ omega arith

pub fold-count : (ts : List Term) → (foldl put_term no_terms ts).equation.count ≡ length ts
unfolding no_terms
fold-count ts = ap (λ (q : Equation). q.count) (fold-equation ts no_terms) ∙ count-stored ts zero_equation ∙ omega arith

tab-texts : (n : ℕ) (ts zs : List Term)
    → tab (length ts) (length ts) [] (λ k. show_term n (get_or (ts ++ zs) k no_term)) ≡ map (show_term n) ts
unfolding tab
tab-texts n [] zs = refl
tab-texts n (t ∷ ts) zs = ap (λ (l : List (List ℕ)). show_term n t ∷ l) (tab-texts n ts zs)

-- stored terms are written as they are
pub stored-texts : (n : ℕ) (ts : List Term) → length ts ≤ terms_max
    → let q = (foldl put_term no_terms ts).equation in term_texts n q q.count ≡ map (show_term n) ts
unfolding term_texts
stored-texts n ts h =
    ap (λ (q : Equation). tab q.count q.count [] (λ k. show_term n (term_at q k))) (fold-stored ts h)
    ∙ tab-texts n ts (drop (length ts) (replicate terms_max zero_term))

-- live terms, and zeros after them
live-texts : (n M : ℕ) (ts zs : List Term) → length ts ≤ M
    → tab M (length ts) zero_term (λ k. live_term n (get_or (ts ++ zs) k no_term))
    ≡ map (live_term n) ts ++ drop (length ts) (replicate M zero_term)
unfolding tab
live-texts n M [] zs h = sym (tab-none zero_term M _)
live-texts n zero (t ∷ ts) zs h = absurd (omega arith)
live-texts n (suc M) (t ∷ ts) zs h = ap (λ (l : List Term). live_term n t ∷ l) (live-texts n M ts zs (omega arith))

-- stored terms that are live make a live equation
pub stored-live : (n : ℕ) (ts : List Term) → length ts ≤ terms_max → map (live_term n) ts ≡ ts
    → let q = (foldl put_term no_terms ts).equation in live_equation n q ≡ q
unfolding live_equation
stored-live n ts h e =
    let zs = drop (length ts) (replicate terms_max zero_term) in
    ap (live_equation n) (fold-stored ts h)
    ∙ ap (stored (length ts)) (live-texts n terms_max ts zs h ∙ ap (λ (l : List Term). l ++ zs) e)
    ∙ sym (fold-stored ts h)
