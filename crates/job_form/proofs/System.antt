-- A line of the system, whatever its kind: what it says, where that stands, and what is read of it.
use Prim.Native.Nat.{ℕ, ◌+◌, ◌≤◌, ◌<◌}
use native.Mathlib.Omega.{arith}
use mathlib.Core.Path.{◌≡◌, refl, sym, ap, ap₂, ◌∙◌}
use mathlib.Core.List.{List, []}
use lib.ListN.{length, get_or, set}
use lib.Seq.{get_or-set_same, get_or-set_other}
use lib.IntN.{ℤ, pos}
use Rattle.sizes.specs.Sizes.{n_max}
use Rattle.lists.specs.Loops.{tab}
use Rattle.lists.proofs.Tab.{length-tab, tab-none, tab-more, tab-cong}
use Rattle.text.specs.Words.{row_key}
use Rattle.faults.specs.Checked.{Finding, Found}
use Rattle.jobs.specs.Places.{no_equation, row_at, equation_at}
use Rattle.jobs.specs.Zero.{zero_equation, zero_row, zero_body}
use Rattle.jobs.specs.Parts.{with_system}
use Rattle.checks.specs.Checks.{equation_check, row_check, sided_check, system_check}
use Rattle.jobs.specs.declared.Kind.{Kind}
use Rattle.jobs.specs.declared.Row.{Row}
use Rattle.jobs.specs.declared.Equation.{Equation}
use Rattle.jobs.specs.declared.Body.{Body}
use Rattle.jobs.specs.declared.Job.{Job}
use Rattle.reading.specs.Results.{after, Told}
use Rattle.reading.specs.NumberLines.{placed}
use Rattle.term_write.specs.ShowTerms.{equation_text}
use Rattle.term_round.specs.Live.{live_equation}
use Rattle.lines.specs.Lines.{equation_of, row_of, live_sided, sided_of}
use Rattle.lines.specs.declared.Sided.{Sided}
use Rattle.lines.specs.Places.{live_row, live_rows}
use Rattle.lines.specs.Texts.{row_text, sided_text}
use Rattle.lines.proofs.Was.{LineWas}
use Rattle.lines.proofs.Checks.{row_small, sided-small}
use Rattle.lines.proofs.Back.{row_back, sided-back}
use Rattle.lines.proofs.Told.{row_told, sided-told}
use Rattle.lines.proofs.Equations.{equation-back, equation-told, equation-spelled}
use Rattle.job_form.specs.JobForm.{after_system, system_says}
use Rattle.job_form.specs.JobBytes.{system_text, SpelledLine}
use Rattle.job_form.specs.Live.{live_system}
use Rattle.std.specs.Prelude.{Ok}

-- ---- what a line says, by its kind

abbrev pub Said : Kind → Type 0
Said Kind.Poly = Equation
Said Kind.Linear = Sided
Said Kind.Eigen = List ℤ

abbrev pub said_of : (k : Kind) → ℕ → List ℕ → Found (Said k)
said_of Kind.Poly n l = equation_of n l
said_of Kind.Linear n l = sided_of n l
said_of Kind.Eigen n l = row_of n l

abbrev pub said_text : (k : Kind) → ℕ → Said k → List ℕ
said_text Kind.Poly n q = equation_text n q
said_text Kind.Linear n x = sided_text n x.row x.side
said_text Kind.Eigen n xs = row_text row_key n xs

abbrev pub said_check : (k : Kind) → ℕ → Said k → Finding
said_check Kind.Poly n q = equation_check n q
said_check Kind.Linear n x = sided_check n x.row x.side
said_check Kind.Eigen n xs = row_check n xs

abbrev pub said_live : (k : Kind) → ℕ → Said k → Said k
said_live Kind.Poly n q = live_equation n q
said_live Kind.Linear n x = live_sided n x
said_live Kind.Eigen n xs = placed n_max n xs

-- where line i stands in the system
abbrev pub said_at : (k : Kind) → Body → ℕ → Said k
said_at Kind.Poly s i = equation_at s.eqs i
said_at Kind.Linear s i = record { row = row_at s.rows i; side = get_or s.right i (pos 0) }
said_at Kind.Eigen s i = row_at s.rows i

abbrev pub said_put : (k : Kind) → Body → ℕ → Said k → Body
said_put Kind.Poly s i q = record { eqs = set s.eqs i q; rows = s.rows; right = s.right }
said_put Kind.Linear s i x = record {
  eqs = s.eqs;
  rows = set s.rows i (record { at = x.row });
  right = set s.right i x.side;
}
said_put Kind.Eigen s i xs = record { eqs = s.eqs; rows = set s.rows i (record { at = xs }); right = s.right }

-- ---- the definitions by kinds say the same

pub text-is : (k : Kind) (j : Job) (i : ℕ) → system_text k j i ≡ said_text k j.head.n (said_at k j.system i)
unfolding system_text
text-is Kind.Poly j i = refl
text-is Kind.Linear j i = refl
text-is Kind.Eigen j i = refl

pub check-is : (k : Kind) (j : Job) (i : ℕ) → system_check k j i ≡ said_check k j.head.n (said_at k j.system i)
unfolding system_check
check-is Kind.Poly j i = refl
check-is Kind.Linear j i = refl
check-is Kind.Eigen j i = refl

pub says_is : (k : Kind) (j : Job) (i : ℕ) (l : List ℕ)
    → system_says k i j l
    ≡ after (said_of k j.head.n l)
    (λ x. record { kind = after_system i j.head.n; value = with_system j (said_put k j.system i x) })
unfolding system_says
says_is Kind.Poly j i l = refl
says_is Kind.Linear j i l = refl
says_is Kind.Eigen j i l = refl

-- ---- the laws of a line, by its kind

pub said-back : (k : Kind) (j : Job) (i : ℕ) → 0 < j.head.n → j.head.n ≤ n_max → SpelledLine k j i
    → said_of k j.head.n (system_text k j i)
    ≡ after (system_check k j i) (λ u. said_live k j.head.n (said_at k j.system i))
unfolding system_text system_check
said-back Kind.Poly j i some few s = equation-back j.head.n few (equation_at j.system.eqs i) s
said-back Kind.Linear j i some few s =
    sided-back j.head.n some few (row_at j.system.rows i) (get_or j.system.right i (pos 0)) s
said-back Kind.Eigen j i some few s = row_back j.head.n some few (row_at j.system.rows i) s

pub said-spelled : (k : Kind) (j : Job) (i : ℕ) → system_check k j i ≡ Ok tt → SpelledLine k j i
unfolding system_check
said-spelled Kind.Poly j i e = equation-spelled j.head.n (equation_at j.system.eqs i) e
said-spelled Kind.Linear j i e =
    sided-small j.head.n (row_at j.system.rows i) (get_or j.system.right i (pos 0)) e
said-spelled Kind.Eigen j i e = row_small j.head.n (row_at j.system.rows i) e

pub said-told : (k : Kind) (n : ℕ) → 0 < n → n ≤ n_max → (l : List ℕ)
    → Told (LineWas (said_text k n) (said_check k n) (said_live k n) l) (said_of k n l)
said-told Kind.Poly n some few l = equation-told n few l
said-told Kind.Linear n some few l = sided-told n some few l
said-told Kind.Eigen n some few l = row_told n some few l

-- ---- one line more

-- before the first one nothing is read
pub system-none : (k : Kind) (n : ℕ) (s : Body) → live_system k n 0 s ≡ zero_body
unfolding live_system live_rows
system-none Kind.Poly n s =
    ap (λ (eqs : List Equation). record { eqs = eqs; rows = zero_body.rows; right = zero_body.right })
    (sym (tab-none zero_equation n_max _))
system-none Kind.Linear n s =
    ap₂ (λ (rows : List Row) (right : List ℤ). record { eqs = zero_body.eqs; rows = rows; right = right })
    (sym (tab-none zero_row n_max _)) (sym (tab-none (pos 0) n_max _))
system-none Kind.Eigen n s =
    ap (λ (rows : List Row). record { eqs = zero_body.eqs; rows = rows; right = zero_body.right })
    (sym (tab-none zero_row n_max _))

-- the line after those that are read
pub system-more : (k : Kind) (n i : ℕ) (s : Body) → i < n_max
    → said_put k (live_system k n i s) i (said_live k n (said_at k s i)) ≡ live_system k n (i + 1) s
unfolding live_system live_rows
system-more Kind.Poly n i s l =
    ap (λ (eqs : List Equation). record { eqs = eqs; rows = zero_body.rows; right = zero_body.right })
    (tab-more zero_equation n_max i _ l refl refl)
system-more Kind.Linear n i s l =
    ap₂ (λ (rows : List Row) (right : List ℤ). record { eqs = zero_body.eqs; rows = rows; right = right })
    (tab-more zero_row n_max i _ l refl refl) (tab-more (pos 0) n_max i _ l refl refl)
system-more Kind.Eigen n i s l =
    ap (λ (rows : List Row). record { eqs = zero_body.eqs; rows = rows; right = zero_body.right })
    (tab-more zero_row n_max i _ l refl refl)

-- ---- a line that is put where only those before it are read

-- of a list whose first i places are live: g makes a place live, d is one that is dead
module _ {A : Type 0} (d e : A) (g : A → A) (xs : List A) (i : ℕ) (x : A) (room : i < n_max)
    (only : tab n_max i d (λ p. g (get_or xs p e)) ≡ xs) where
  put_same : get_or (set xs i x) i e ≡ x
  put_same =
      get_or-set_same xs i x e
      (rw (← ap length only, length-tab d n_max i (λ p. g (get_or xs p e))) room)

  put-live : g x ≡ x → tab n_max (i + 1) d (λ p. g (get_or (set xs i x) p e)) ≡ set xs i x
  put-live live =
      sym (tab-more d n_max i (λ p. g (get_or (set xs i x) p e)) room
      (sym only ∙ tab-cong d n_max i _ _ (λ p l. ap g (sym (get_or-set_other xs i p x e (λ s. omega arith)))))
      (sym (ap g put_same ∙ live)))

module _ (n i : ℕ) (room : i < n_max) where
  pub at_other : (k : Kind) (s : Body) (x : Said k) (p : ℕ) → p < i → said_at k (said_put k s i x) p ≡ said_at k s p
  at_other Kind.Poly s q p l = get_or-set_other s.eqs i p q no_equation (λ e. omega arith)
  at_other Kind.Linear s x p l =
      ap₂ (λ (r : Row) (z : ℤ). record { row = r.at; side = z })
      (get_or-set_other s.rows i p (record { at = x.row }) (record { at = [] }) (λ e. omega arith))
      (get_or-set_other s.right i p x.side (pos 0) (λ e. omega arith))
  at_other Kind.Eigen s xs p l =
      ap (λ (r : Row). r.at)
      (get_or-set_other s.rows i p (record { at = xs }) (record { at = [] }) (λ e. omega arith))

  pub at_same : (k : Kind) (s : Body) (x : Said k) → live_system k n i s ≡ s → said_at k (said_put k s i x) i ≡ x
  unfolding live_system live_rows
  at_same Kind.Poly s q e =
      put_same zero_equation no_equation (live_equation n) s.eqs i q room (ap (λ (b : Body). b.eqs) e)
  at_same Kind.Linear s x e =
      ap₂ (λ (r : Row) (z : ℤ). record { row = r.at; side = z })
      (put_same zero_row (record { at = [] }) (live_row n) s.rows i (record { at = x.row }) room
      (ap (λ (b : Body). b.rows) e))
      (put_same (pos 0) (pos 0) (λ z. z) s.right i x.side room (ap (λ (b : Body). b.right) e))
  at_same Kind.Eigen s xs e =
      ap (λ (r : Row). r.at)
      (put_same zero_row (record { at = [] }) (live_row n) s.rows i (record { at = xs }) room
      (ap (λ (b : Body). b.rows) e))

  pub system-put : (k : Kind) (s : Body) (x : Said k) → live_system k n i s ≡ s → said_live k n x ≡ x
      → live_system k n (i + 1) (said_put k s i x) ≡ said_put k s i x
  unfolding live_system live_rows
  system-put Kind.Poly s q e live =
      let more = put-live zero_equation no_equation (live_equation n) s.eqs i q room
      (ap (λ (b : Body). b.eqs) e) live in
      ap₂ (λ (eqs : List Equation) (b : Body). record { eqs = eqs; rows = b.rows; right = b.right }) more e
  system-put Kind.Linear s x e live =
      let rows = put-live zero_row (record { at = [] }) (live_row n) s.rows i (record { at = x.row }) room
      (ap (λ (b : Body). b.rows) e) (ap (λ (y : Sided). record { at = y.row }) live) in
      let right = put-live (pos 0) (pos 0) (λ z. z) s.right i x.side room (ap (λ (b : Body). b.right) e) refl in
      let put = said_put Kind.Linear s i x in
      ap₂ (λ (xs : List Row) (ys : List ℤ). record { eqs = zero_body.eqs; rows = xs; right = ys }) rows right
      ∙ ap (λ (b : Body). record { eqs = b.eqs; rows = put.rows; right = put.right }) e
  system-put Kind.Eigen s xs e live =
      let rows = put-live zero_row (record { at = [] }) (live_row n) s.rows i (record { at = xs }) room
      (ap (λ (b : Body). b.rows) e) (ap (λ (ys : List ℤ). record { at = ys }) live) in
      ap₂ (λ (rs : List Row) (b : Body). record { eqs = b.eqs; rows = rs; right = b.right }) rows e
