-- F and S as a loop fills them, equation by equation, in the places of those that stood there before.
use mathlib.Core.Path.{◌≡◌, refl, ◌∙◌}
use mathlib.Core.List.{List}
use Prim.Native.Nat.{ℕ, ◌+◌, ◌≤◌, ◌<◌}
use native.Mathlib.Omega.{arith}
use lib.ListN.{set, replicate}
use Rattle.sizes.specs.Sizes.{n_max}
use Rattle.lists.specs.Loops.{tab}
use Rattle.intervals.specs.declared.Interval.{Interval}
use Rattle.intervals.specs.Interval.{zero_i}
use Rattle.jobs.specs.declared.Equation.{Equation}
use Rattle.slopes.specs.Terms.{equation_over, values_over, slope_row, slopes_over}
use Rattle.slopes.proofs.Mixed.{tab-same, mixed, mixed-none, mixed-more, mixed-done}

module _ {A : Type 0} (d : A) (n : ℕ) (new : ℕ → A) where
  -- n live places, the first i of them new
  pub record Renewed (i : ℕ) (xs : List A) : Type 0 where
    pub old : ℕ → A
    pub is : xs ≡ tab n_max n d (mixed new old i)

  pub renewed-none : {xs : List A} (old : ℕ → A) → xs ≡ tab n_max n d old → Renewed 0 xs
  renewed-none old e = record { old = old; is = e ∙ mixed-none new old d n_max n }

  pub renewed-more : {i : ℕ} {xs : List A} → Renewed i xs → i < n → {v : A} → v ≡ new i → Renewed (i + 1) (set xs i v)
  renewed-more r l e = record { old = r.old; is = mixed-more new r.old d n_max n l r.is e }

  pub renewed-done : {i : ℕ} {xs : List A} → Renewed i xs → n ≤ i → xs ≡ tab n_max n d new
  renewed-done r h = r.is ∙ mixed-done new r.old d n_max n h

-- no live place holds anything yet
pub all_old : {A : Type 0} (d : A) (n : ℕ) → replicate n_max d ≡ tab n_max n d (λ k. d)
all_old d n = tab-same d n_max n (λ k. d) (λ k. refl)

-- ---- F and S

abbrev Row : Type 0
Row = List Interval

abbrev zero_row : Row
zero_row = replicate n_max zero_i

-- those of the first i equations, and of others behind them
pub record Filled (n i : ℕ) (q : ℕ → Equation) (M X : ℕ → Interval) (f : Row) (s : List Row) : Type 0 where
  pub few : i ≤ n
  pub values : Renewed zero_i n (λ k. equation_over n (q k) M) i f
  pub slopes : Renewed zero_row n (λ k. slope_row n (q k) X) i s

-- room for them
pub record Room (n : ℕ) (f : Row) (s : List Row) : Type 0 where
  pub values : ℕ → Interval
  pub values-are : f ≡ tab n_max n zero_i values
  pub slopes : ℕ → Row
  pub slopes-are : s ≡ tab n_max n zero_row slopes

pub room-zero : (n : ℕ) → Room n zero_row (replicate n_max zero_row)
room-zero n = record {
  values = λ k. zero_i;
  values-are = all_old zero_i n;
  slopes = λ k. zero_row;
  slopes-are = all_old zero_row n;
}

module _ (n : ℕ) (q : ℕ → Equation) (M X : ℕ → Interval) {f : Row} {s : List Row} where
  pub filled_none : Room n f s → Filled n 0 q M X f s
  filled_none r = record {
    few = omega arith;
    values = renewed-none zero_i n _ r.values r.values-are;
    slopes = renewed-none zero_row n _ r.slopes r.slopes-are;
  }

  module _ {i : ℕ} (h : Filled n i q M X f s) where
    pub filled_more : i < n → {v : Interval} {row : Row} → (v ≡ equation_over n (q i) M) × (row ≡ slope_row n (q i) X)
        → Filled n (i + 1) q M X (set f i v) (set s i row)
    filled_more l e = record {
      few = omega arith;
      values = renewed-more zero_i n _ h.values l e.0;
      slopes = renewed-more zero_row n _ h.slopes l e.1;
    }

    pub filled-values : n ≤ i → f ≡ values_over n q M
    unfolding values_over
    filled-values = renewed-done zero_i n _ h.values

    pub filled-slopes : n ≤ i → s ≡ slopes_over n q X
    unfolding slopes_over
    filled-slopes = renewed-done zero_row n _ h.slopes

    -- the next step finds room
    pub filled-room : n ≤ i → Room n f s
    filled-room done = record {
      values = λ k. equation_over n (q k) M;
      values-are = renewed-done zero_i n _ h.values done;
      slopes = λ k. slope_row n (q k) X;
      slopes-are = renewed-done zero_row n _ h.slopes done;
    }
