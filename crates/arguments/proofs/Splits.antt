-- Lengths are what `split` gives at the commas.
use Prim.Native.Nat.{ℕ}
use mathlib.Core.Path.{◌≡◌, refl, sym, ap, ◌∙◌}
use mathlib.Core.List.{List, [], ◌∷◌, ◌++◌, append_assoc, append-nil}
use mathlib.Core.Bool.{Bool, true, false, cond, ◌&&◌}
use lib.Dec.{eqb}
use Rattle.std.specs.List.{slice_split, onto_first, list_all}
use Rattle.digits.specs.Bytes.{comma}
use Rattle.text.specs.Cut.{Cut, fresh, feed, feeds}
use Rattle.text.proofs.Cuts.{feeds-none, feeds-cons}
use Rattle.arguments.specs.Counts.{is_spelled}
use Rattle.arguments.specs.Lengths.{and_spelled, are_lengths}

abbrev is_comma : ℕ → Bool
is_comma b = eqb b comma

-- bytes that are held stand before the first field
abbrev onto : List ℕ → List (List ℕ) → List (List ℕ)
onto h [] = h ∷ []
onto h (f ∷ fs) = (h ++ f) ∷ fs

abbrev closed : Cut Bool → Bool
closed k = and_spelled k.st k.held

abbrev fields : List ℕ → List (List ℕ)
fields = slice_split is_comma

onto-none : (fs : List (List ℕ)) (b : ℕ) → onto [] (onto_first b fs) ≡ onto_first b fs
onto-none [] b = refl
onto-none (f ∷ fs) b = refl

onto-fields : (s : List ℕ) → onto [] (fields s) ≡ fields s
onto-fields [] = refl
onto-fields (b ∷ bs) = by (is_comma b)
  where
    by : (t : Bool)
        → onto [] (cond t ([] ∷ fields bs) (onto_first b (fields bs)))
        ≡ cond t ([] ∷ fields bs) (onto_first b (fields bs))
    by true = refl
    by false = onto-none (fields bs) b

onto-more : (h : List ℕ) (b : ℕ) (fs : List (List ℕ)) → onto (h ++ (b ∷ [])) fs ≡ onto h (onto_first b fs)
onto-more h b [] = refl
onto-more h b (f ∷ fs) = ap (λ l. l ∷ fs) (append_assoc h (b ∷ []) f)

and-assoc : (a b c : Bool) → (a && b) && c ≡ a && (b && c)
and-assoc true b c = refl
and-assoc false b c = refl

and-true : (a b : Bool) → a && b ≡ a && (b && true)
and-true true true = refl
and-true true false = refl
and-true false b = refl

abbrev Fed : List ℕ → Type 0
Fed s =
    (good : Bool) (h : List ℕ)
    → closed (feeds and_spelled comma (record { st = good; held = h }) s)
    ≡ good && list_all is_spelled (onto h (fields s))

fed-cons : (bs : List ℕ) → Fed bs → (b : ℕ) → Fed (b ∷ bs)
unfolding feed
fed-cons bs fed b good h =
    ap closed (feeds-cons and_spelled comma (record { st = good; held = h }) b bs) ∙ by (is_comma b)
  where
    by : (t : Bool)
        → closed
        (feeds and_spelled comma
        (cond t (fresh (and_spelled good h)) (record { st = good; held = h ++ (b ∷ []) })) bs)
        ≡ good && list_all is_spelled (onto h (cond t ([] ∷ fields bs) (onto_first b (fields bs))))
    by true =
        fed (good && is_spelled h) []
        ∙ and-assoc good (is_spelled h) (list_all is_spelled (onto [] (fields bs)))
        ∙ ap (λ l. good && (is_spelled h && list_all is_spelled l)) (onto-fields bs)
        ∙ ap (λ l. good && (is_spelled l && list_all is_spelled (fields bs))) (sym (append-nil h))
    by false = fed good (h ++ (b ∷ [])) ∙ ap (λ fs. good && list_all is_spelled fs) (onto-more h b (fields bs))

fed : (s : List ℕ) → Fed s
fed [] good h =
    ap closed (feeds-none and_spelled comma (record { st = good; held = h }))
    ∙ and-true good (is_spelled h) ∙ ap (λ l. good && (is_spelled l && true)) (sym (append-nil h))
fed (b ∷ bs) good h = fed-cons bs (λ g k. fed bs g k) b good h

pub lengths-split : (s : List ℕ) → list_all is_spelled (slice_split is_comma s) ≡ are_lengths s
unfolding are_lengths
lengths-split s = ap (λ fs. list_all is_spelled fs) (sym (onto-fields s)) ∙ sym (fed s true [])
