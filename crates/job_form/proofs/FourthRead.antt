-- The line after n, and lo, as they are read: each is the line that is shown for what it leaves.
use Prim.Native.Nat.{ℕ}
use mathlib.Core.Path.{◌≡◌, refl, sym, ap, ap₂, subst, ◌∙◌}
use mathlib.Core.List.{List, [], ◌∷◌, ◌++◌}
use mathlib.Core.Bool.{Bool, true, false, cond, not}
use mathlib.Core.Logic.{inl, inr}
use lib.IntN.{ℤ}
use borrow.Author.Tests.{eq-eqb}
use Rattle.sizes.specs.Sizes.{n_max}
use Rattle.text.specs.Keys.{starts_with}
use Rattle.text.specs.Words.{n_key, pin_key, lo_key}
use Rattle.faults.proofs.Laws.{both-fine}
use Rattle.jobs.specs.declared.Kind.{Kind}
use Rattle.jobs.specs.declared.Job.{Job}
use Rattle.jobs.specs.declared.JobLine.{JobLine}
use Rattle.jobs.specs.Lines.{after_n}
use Rattle.jobs.specs.Parts.{with_unknowns, with_pin, with_lo, last_pin}
use Rattle.checks.specs.Checks.{unknowns_check, low_check, line_check}
use Rattle.checks.proofs.CheckLaws.{unknowns-fine}
use Rattle.reading.specs.Results.{after, Told}
use Rattle.reading.specs.NumberLines.{placed}
use Rattle.reading.specs.Shows.{lines_of, Passed, Kept}
use Rattle.reading.proofs.Told.{told-after}
use Rattle.reading.proofs.Trips.{Grown, line_same}
use Rattle.reading.proofs.Walk.{passed-join, passed-next}
use Rattle.lines.specs.Lines.{pin_of, low_of}
use Rattle.lines.specs.Texts.{count_text, row_text}
use Rattle.lines.proofs.Was.{LineWas}
use Rattle.lines.proofs.Pins.{PinWas, pin-told}
use Rattle.lines.proofs.Told.{low_told}
use Rattle.job_form.specs.JobForm.{job_says}
use Rattle.job_form.specs.JobBytes.{pin_written, head_kinds, job_prior, shown_check, job_shows}
use Rattle.job_form.specs.Live.{live_pin}
use Rattle.job_form.proofs.Reached.{Sized, LowStands, Has}
use Rattle.job_form.proofs.Fourth.{leaves, after-unknowns, unknowns-has, last-passes}
use Rattle.std.specs.Prelude.{Ok}

-- ---- n

-- the lines before the one after n
prior-fourth : (v : Job) (n : ℕ) → job_prior (after_n v.head.kind) (with_unknowns v n) ≡ head_kinds
prior-fourth v n = go v.head.kind refl
  where
    go : (k : Kind) → v.head.kind ≡ k → job_prior (after_n v.head.kind) (with_unknowns v n) ≡ head_kinds
    go Kind.Poly e = rw e
    go Kind.Linear e = rw e
    go Kind.Eigen e = rw e

pub unknowns-grown : (v : Job) (l : List ℕ) → Kept job_shows JobLine.Unknowns v → (n : ℕ)
    → LineWas (count_text n_key) unknowns_check (λ m. m) l n
    → Grown job_shows Has JobLine.Unknowns v l (leaves (after_n v.head.kind) (with_unknowns v n))
unfolding shown_check line_check
unknowns-grown v l p n was =
    let u = with_unknowns v n in
    record {
      lines = ap (lines_of job_shows u) (prior-fourth v n) ∙ line_same job_shows JobLine.Unknowns v was.shown;
      kept = record {
        passed = rw (prior-fourth v n) (passed-next job_shows u JobLine.Unknowns p.passed was.fine);
        only = sym (after-unknowns u) ∙ ap (λ (j : Job). with_unknowns j n) p.only;
      };
      has = unknowns-has u (unknowns-fine n was.fine);
    }

-- ---- lo

module _ (v : Job) (l : List ℕ) (size : Sized v) (xs : List ℤ)
    (was : LineWas (row_text lo_key v.head.n) (low_check v.head.n) (placed n_max v.head.n) l xs) where
  abbrev u : Job
  u = with_lo v xs

  -- the lines before it, where it stands by itself
  low-lines : (b : Bool) → pin_written v ≡ b
      → lines_of job_shows u ((head_kinds ++ cond b (JobLine.Pin ∷ []) []) ++ (JobLine.Lo ∷ []))
      ≡ lines_of job_shows v (head_kinds ++ cond b (JobLine.Pin ∷ []) []) ++ (l ∷ [])
  low-lines true w =
      rw w
      (ap (λ (y : List ℕ). (lines_of job_shows v head_kinds ++ (count_text pin_key v.head.pin ∷ [])) ++ (y ∷ []))
      was.shown)
  low-lines false w = ap (λ (y : List ℕ). lines_of job_shows v head_kinds ++ (y ∷ [])) was.shown

  low-passed : (b : Bool) → pin_written v ≡ b → Passed job_shows (head_kinds ++ cond b (JobLine.Pin ∷ []) []) v
      → Passed job_shows (head_kinds ++ cond b (JobLine.Pin ∷ []) []) u
  unfolding shown_check line_check
  low-passed true w q = (q.0, (q.1.0, (q.1.1.0, (rw w (rw w at q.1.1.1.0), tt))))
  low-passed false w q = q

  prior-high : LowStands v → job_prior JobLine.Hi u ≡ job_prior JobLine.Lo v ++ (JobLine.Lo ∷ [])
  prior-high (inl (e, b)) = rw (e, b)
  prior-high (inr (e, b)) = rw (ap after_n e, b)

  pub low-grown : Kept job_shows JobLine.Lo v → LowStands v → Grown job_shows Has JobLine.Lo v l (leaves JobLine.Hi u)
  unfolding shown_check line_check
  low-grown p stands = record {
    lines = ap (lines_of job_shows u) (prior-high stands) ∙ low-lines (pin_written v) refl;
    kept = record {
      passed = subst (λ (ks : List JobLine). Passed job_shows ks u) (sym (prior-high stands))
          (passed-join job_shows u (job_prior JobLine.Lo v) (JobLine.Lo ∷ []) (low-passed (pin_written v) refl p.passed)
          (was.fine, tt));
      only = ap₂ with_lo p.only was.whole;
    };
    has = size;
  }

  -- in the pin's place
  module _ (eigen : v.head.kind ≡ Kind.Eigen) (unwritten : pin_written v ≡ false) where
    prior-last : job_prior JobLine.Hi u ≡ head_kinds ++ (JobLine.Pin ∷ [])
    prior-last = rw (ap after_n eigen, unwritten)

    last-lines : lines_of job_shows u (head_kinds ++ (JobLine.Pin ∷ [])) ≡ lines_of job_shows v head_kinds ++ (l ∷ [])
    last-lines = rw unwritten (ap (λ (y : List ℕ). lines_of job_shows v head_kinds ++ (y ∷ [])) was.shown)

    last-check : shown_check JobLine.Pin u ≡ Ok tt
    unfolding shown_check line_check
    last-check = rw unwritten (both-fine (last-passes v size eigen unwritten) was.fine)

    pub last-grown : Kept job_shows JobLine.Pin v → Grown job_shows Has JobLine.Pin v l (leaves JobLine.Hi u)
    unfolding shown_check line_check
    last-grown p = record {
      lines = ap (lines_of job_shows u) prior-last ∙ last-lines;
      kept = record {
        passed = subst (λ (ks : List JobLine). Passed job_shows ks u) (sym prior-last)
            (passed-join job_shows u head_kinds (JobLine.Pin ∷ []) p.passed (last-check, tt));
        only = ap₂ with_lo
            (ap₂ with_pin p.only (ap (λ (k : Kind). live_pin k v.head.pin) eigen)) was.whole;
      };
      has = size;
    }

-- ---- the pin

module _ (v : Job) (l : List ℕ) (size : Sized v) (eigen : v.head.kind ≡ Kind.Eigen) (p : Kept job_shows JobLine.Pin v)
  where
    -- where none is read yet, the last is pinned
    unwritten : pin_written v ≡ false
    unwritten =
        let pin : v.head.n ≡ v.head.pin =
        ap (λ (k : Kind). last_pin k v.head.n) (sym eigen) ∙ ap (λ (j : Job). j.head.pin) p.only in
        rw eigen (ap not (eq-eqb v.head.pin v.head.n (sym pin)))

    pin-grown : (pin : ℕ) → PinWas v.head.n l pin
        → Grown job_shows Has JobLine.Pin v l (leaves JobLine.Lo (with_pin v pin))
    unfolding shown_check line_check
    pin-grown pin e =
        let u = with_pin v pin in
        let written : pin_written u ≡ true = rw eigen (ap not e.other) in
        let prior : job_prior JobLine.Lo u ≡ head_kinds ++ (JobLine.Pin ∷ []) = rw written in
        let check : shown_check JobLine.Pin u ≡ (Ok tt) =
        rw (written, eigen) (both-fine e.was.fine refl) in
        record {
          lines = ap (lines_of job_shows u) prior
              ∙ rw written (ap (λ (y : List ℕ). lines_of job_shows v head_kinds ++ (y ∷ [])) e.was.shown);
          kept = record {
            passed = subst (λ (ks : List JobLine). Passed job_shows ks u) (sym prior)
                (passed-join job_shows u head_kinds (JobLine.Pin ∷ []) p.passed (check, tt));
            only = ap₂ with_pin p.only (ap (λ (k : Kind). live_pin k pin) eigen);
          };
          has = (size, inr (eigen, written));
        }

    pub fourth-grows : Told (Grown job_shows Has JobLine.Pin v l) (job_says JobLine.Pin v l)
    unfolding job_says
    fourth-grows = go (starts_with pin_key l)
      where
        go : (b : Bool) → Told (Grown job_shows Has JobLine.Pin v l)
            (cond b (after (pin_of v.head.n l) (λ pin. leaves JobLine.Lo (with_pin v pin)))
            (after (low_of v.head.n l) (λ xs. leaves JobLine.Hi (with_lo v xs))))
        go true = told-after _ _ (pin-told v.head.n l) pin-grown
        go false =
            told-after _ _ (low_told v.head.n size.0 size.1 l)
            (λ xs was. last-grown v l size xs was eigen unwritten p)
