-- Which faults a line can have.
use Prim.Native.Nat.{ℕ}
use mathlib.Core.Path.{◌≡◌, refl, sym}
use mathlib.Core.List.{List}
use mathlib.Core.Bool.{Bool, true, false, cond, not}
use lib.ListN.{take}
use lib.Dec.{eqb}
use Rattle.digits.specs.Number.{read_number}
use Rattle.text.specs.Keys.{body_of}
use Rattle.text.specs.Counts.{count_of}
use Rattle.text.specs.Lists.{read_list}
use Rattle.reading.specs.Results.{after, passing, refuse, Blamed}
use Rattle.reading.specs.NumberLines.{counted, count_line, listed, list_line, rowed, row_line}
use Rattle.reading.proofs.Told.{fault-got}
use Rattle.std.specs.Prelude.{Ok, Err, Result}
use Rattle.text.specs.declared.Uncounted.{Uncounted}

module _ {F : Type 0} {P : F → Type 0} where
  pub blamed-got : {A : Type 0} (x : A) → Blamed P (Ok x)
  blamed-got x = record { blamed = λ f e. fault-got (sym e) }

  pub blamed-fault : {A : Type 0} (f : F) → P f → Blamed {A = A} P (Err f)
  blamed-fault f p = record { blamed = λ f' e. let same : f ≡ f' = cc in rw (← same) p }

  pub blamed-either : {A : Type 0} (t : Bool) (r s : Result A F) → Blamed P r → Blamed P s → Blamed P (cond t r s)
  blamed-either true r s p q = p
  blamed-either false r s p q = q

  pub blamed-unless : {A : Type 0} (t : Bool) (f : F) (r : Result A F) → P f → Blamed P r → Blamed P (refuse t f r)
  blamed-unless t f r p q = blamed-either t (Err f) r (blamed-fault f p) q

  pub blamed-after : {A B : Type 0} (r : Result A F) (h : A → B) → Blamed P r → Blamed P (after r h)
  unfolding after
  blamed-after (Ok x) h p = blamed-got (h x)
  blamed-after (Err f) h p = blamed-fault f (p.blamed f refl)

  pub blamed-passing : {A : Type 0} (r : Result A F) (check : A → Result (Unit {0}) F) → Blamed P r
      → ((x : A) → Blamed P (check x)) → Blamed P (passing r check)
  unfolding passing
  blamed-passing (Ok x) check p q = blamed-after (check x) (λ u. x) (q x)
  blamed-passing (Err f) check p q = blamed-fault f (p.blamed f refl)

  -- ---- lines of numbers

  module _ (odd : F) (is : P odd) (key l : List ℕ) where
    pub count-blamed : (out : F) → P out → (most : ℕ) → Blamed P (count_line odd out key most l)
    unfolding count_line counted
    count-blamed out p most = go (count_of most (read_number (body_of key l)))
      where
        go : (c : Result ℕ Uncounted) → Blamed P (counted odd out c)
        go (Err Uncounted.Bad) = blamed-fault odd is
        go (Err Uncounted.Out) = blamed-fault out p
        go (Ok m) = blamed-got m

    pub list-blamed : (m : ℕ) → Blamed P (list_line odd key m l)
    unfolding list_line listed
    list-blamed m = blamed-unless (not (read_list (body_of key l)).ok) odd (Ok _) is (blamed-got _)

    pub row-blamed : (m n : ℕ) → Blamed P (row_line odd key m n l)
    unfolding row_line rowed
    row-blamed m n =
        let a = read_list (body_of key l) in
        blamed-unless (not a.ok) odd _ is
        (blamed-unless (not (eqb a.count n)) odd (Ok _) is (blamed-got (take m a.vals)))
