-- A list that is written is read back, and a list that is read is written as it stood.
use Prim.Native.Nat.{ℕ, zero, suc, ◌+◌, ◌≤◌, ◌<◌}
use native.Mathlib.Omega.{arith}
use native.Mathlib.Nat.{add-zero}
use mathlib.Core.Path.{◌≡◌, refl, sym, ap, ap₂, ◌∙◌}
use mathlib.Core.List.{List, [], ◌∷◌, ◌++◌, map, append_assoc, foldl}
use mathlib.Core.Bool.{true, false, false≢true}
use lib.ListN.{length, drop, take, replicate, length-append}
use lib.Seq.{set-append_seam}
use lib.IntN.{ℤ, pos}
use Rattle.digits.specs.Bytes.{comma, minus_sign}
use Rattle.digits.specs.Number.{digits_max, read_number}
use Rattle.digits.specs.Show.{show_signed, show_number}
use Rattle.digits.proofs.ReadBack.{number-back}
use Rattle.digits.proofs.WriteBack.{number-was}
use Rattle.text.specs.Lists.{Numbers}
use Rattle.text.specs.Lists.{places_max, no_numbers, put_number, add_read, add_field}
use Rattle.text.specs.Lists.{last_field, read_list, joined, show_all, show_list, Below, Small}
use Rattle.text.proofs.Pieces.{Above, AllAbove, above-append, commas-above, number-above}
use Rattle.text.proofs.Pieces.{fed-joined, fields, fields-joined, fields-fold}
use Rattle.std.specs.Prelude.{Some, None, Option}

-- ---- numbers at their places

abbrev listed : ℕ → List ℤ → Numbers
listed c l = record { ok = true; count = c; vals = l }

abbrev pub zeros : List ℤ
zeros = replicate places_max (pos 0)

put_one : (ps zs : List ℤ) (z v : ℤ)
    → put_number (listed (length ps) (ps ++ (z ∷ zs))) v ≡ listed (length (ps ++ (v ∷ []))) ((ps ++ (v ∷ [])) ++ zs)
unfolding put_number
put_one ps zs z v =
    ap₂ listed (sym (length-append ps (v ∷ []))) (set-append_seam ps z zs v ∙ sym (append_assoc ps (v ∷ []) zs))

put_all : (ps vs zs : List ℤ) → length vs ≤ length zs
    → foldl put_number (listed (length ps) (ps ++ zs)) vs
    ≡ listed (length ps + length vs) (ps ++ (vs ++ drop (length vs) zs))
put_all ps [] zs h = ap₂ listed (sym (add-zero (length ps))) refl
put_all ps (v ∷ vs) [] h = absurd (omega arith)
put_all ps (v ∷ vs) (z ∷ zs) h =
    let e : length (ps ++ (v ∷ [])) + length vs ≡ length ps + suc (length vs) =
    rw (length-append ps (v ∷ [])) (omega arith) in
    ap (λ (t : Numbers). foldl put_number t vs) (put_one ps zs z v)
    ∙ put_all (ps ++ (v ∷ [])) vs zs (omega arith)
    ∙ ap₂ listed e (append_assoc ps (v ∷ []) (vs ++ drop (length vs) zs))

-- the numbers, and zeros after them
put-list : (vs : List ℤ)
    → length vs ≤ places_max → foldl put_number no_numbers vs ≡ listed (length vs) (vs ++ drop (length vs) zeros)
unfolding no_numbers
put-list vs h = put_all [] vs zeros h ∙ ap₂ listed {x = 0 + length vs} (omega arith) refl

put_count : (vs : List ℤ) (a : Numbers) → (foldl put_number a vs).count ≡ a.count + length vs
unfolding put_number
put_count [] a = sym (add-zero a.count)
put_count (v ∷ vs) a = put_count vs (put_number a v) ∙ omega arith

put-ok : (vs : List ℤ) (a : Numbers) → (foldl put_number a vs).ok ≡ a.ok
unfolding put_number
put-ok [] a = refl
put-ok (v ∷ vs) a = put-ok vs (put_number a v)

from-none : (vs : List ℤ) → (foldl put_number no_numbers vs).count ≡ length vs
unfolding no_numbers
from-none vs = put_count vs no_numbers ∙ omega arith

-- ---- a list that is written

fold-shown : (a : Numbers) (vs : List ℤ) → Small vs → foldl add_field a (map show_number vs) ≡ foldl put_number a vs
unfolding Below add_field add_read
fold-shown a [] s = refl
fold-shown a (v ∷ vs) s =
    ap (λ (x : Numbers). foldl add_field x (map show_number vs)) (ap (add_read a) (number-back v s.0))
    ∙ fold-shown (put_number a v) vs s.1

module _ (sep : ℕ) (h : sep < minus_sign) (k : ℕ) where
  all_above : (vs : List ℤ) → AllAbove sep (map (show_signed k) vs)
  unfolding AllAbove
  all_above [] = tt
  all_above (v ∷ vs) = (number-above sep h k v, all_above vs)

pub list-above : (sep : ℕ) → sep < comma → (k : ℕ) (vs : List ℤ) → Above sep (show_all k vs)
unfolding show_all joined AllAbove Above
list-above sep h k [] = tt
list-above sep h k (v ∷ vs) =
    above-append sep (show_signed k v) _ (number-above sep (omega arith) k v)
    (commas-above sep h (map (show_signed k) vs) (all_above sep (omega arith) k vs))

list_put : (vs : List ℤ) → 0 < length vs → Small vs → read_list (show_list vs) ≡ foldl put_number no_numbers vs
unfolding read_list last_field show_all
list_put [] n s = absurd (omega arith)
list_put (v ∷ vs) n s =
    fed-joined add_field no_numbers (show_number v) (map show_number vs) (number-above comma (omega arith) digits_max v)
    (all_above comma (omega arith) digits_max vs)
    ∙ fold-shown no_numbers (v ∷ vs) s

pub list_back : (vs : List ℤ) → 0 < length vs → Small vs → length vs ≤ places_max
    → read_list (show_list vs) ≡ listed (length vs) (vs ++ drop (length vs) zeros)
list_back vs n s h = list_put vs n s ∙ put-list vs h

-- numbers past the last place are counted too
pub list_counts : (vs : List ℤ) → 0 < length vs → Small vs
    → ((read_list (show_list vs)).ok ≡ true) × ((read_list (show_list vs)).count ≡ length vs)
unfolding no_numbers
list_counts vs n s =
    let e = list_put vs n s in
    (ap (λ (a : Numbers). a.ok) e ∙ put-ok vs no_numbers, ap (λ (a : Numbers). a.count) e ∙ from-none vs)

-- ---- a list that is read

not-ok : (fs : List (List ℕ)) (a : Numbers) → a.ok ≡ false → (foldl add_field a fs).ok ≡ false
unfolding add_field add_read put_number
not-ok [] a e = e
not-ok (f ∷ fs) a e = not-ok fs (add_field a f) (add-not (read_number f))
  where
    add-not : (n : Option ℤ) → (add_read a n).ok ≡ false
    add-not (Some v) = e
    add-not None = refl

record Shown (a : Numbers) (fs : List (List ℕ)) : Type 0 where
  vs : List ℤ
  spelled : map show_number vs ≡ fs
  read : foldl add_field a fs ≡ foldl put_number a vs

shown : (fs : List (List ℕ)) (a : Numbers) → (foldl add_field a fs).ok ≡ true → Shown a fs
unfolding add_field add_read
shown [] a e = record { vs = []; spelled = refl; read = refl }
shown (f ∷ fs) a e = go (read_number f) refl (λ x q. shown fs x q)
  where
    go : (n : Option ℤ)
        → read_number f ≡ n → ((x : Numbers) → (foldl add_field x fs).ok ≡ true → Shown x fs) → Shown a (f ∷ fs)
    go None q ih = absurd (false≢true (sym (not-ok fs _ (ap (λ (x : Option ℤ). (add_read a x).ok) q)) ∙ e))
    go (Some v) q ih =
        let step : add_field a f ≡ put_number a v = ap (add_read a) q in
        let t = ih (put_number a v) (ap (λ (x : Numbers). (foldl add_field x fs).ok) (sym step) ∙ e) in
        record {
          vs = v ∷ t.vs;
          spelled = ap₂ (λ (x : List ℕ) (xs : List (List ℕ)). x ∷ xs) (number-was f v q) t.spelled;
          read = ap (λ (x : Numbers). foldl add_field x fs) step ∙ t.read;
        }

pub record ListIs (f : List ℕ) : Type 0 where
  pub vs : List ℤ
  pub text : show_list vs ≡ f
  pub count : (read_list f).count ≡ length vs
  pub vals : length vs ≤ places_max → (read_list f).vals ≡ vs ++ drop (length vs) zeros

pub list-was : (f : List ℕ) → (read_list f).ok ≡ true → ListIs f
unfolding read_list last_field show_all
list-was f e =
    let whole = fields-fold add_field no_numbers f in
    let t = shown (fields f) no_numbers (ap (λ (x : Numbers). x.ok) (sym whole) ∙ e) in
    let read = whole ∙ t.read in
    record {
      vs = t.vs;
      text = ap joined t.spelled ∙ fields-joined f;
      count = ap (λ (x : Numbers). x.count) read ∙ from-none t.vs;
      vals = λ h. ap (λ (x : Numbers). x.vals) (read ∙ put-list t.vs h);
    }

-- ---- a row of N places

pub take-zeros : (k m : ℕ) → k ≤ m → take k (replicate m (pos 0)) ≡ replicate k (pos 0)
take-zeros zero m h = refl
take-zeros (suc k) zero h = absurd (omega arith)
take-zeros (suc k) (suc m) h = ap (λ (l : List ℤ). pos 0 ∷ l) (take-zeros k m (omega arith))
