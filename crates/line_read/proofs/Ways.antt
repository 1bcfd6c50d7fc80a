-- A reader's way through the text by the answers of the line functions.
use Prim.Native.Nat.{ℕ, ◌+◌, ◌≤◌, ◌<◌}
use native.Mathlib.Omega.{arith}
use mathlib.Core.Path.{◌≡◌, refl, sym, ap, ◌∙◌}
use mathlib.Core.List.{List}
use mathlib.Core.Bool.{Bool, true, false, cond}
use lib.ListN.{length}
use lib.Dec.{ltb}
use borrow.Author.Tests.{lt-ltb, ltb-true}
use Rattle.faults.specs.declared.Fault.{Fault}
use Rattle.faults.specs.declared.Refusal.{Refusal}
use Rattle.faults.specs.Checked.{Found, Checked}
use Rattle.faults.specs.Checks.{on_line}
use Rattle.reading.specs.Results.{after, passing}
use Rattle.reading.specs.Lines.{Next, Form, State, Answer, read}
use Rattle.reading.specs.Places.{part, line_end, line_at, rest, Goes}
use Rattle.reading.proofs.Told.{fault-got, told-passing}
use Rattle.reading.proofs.Ends.{line_after}
use Rattle.reading.proofs.Goes.{goes-line, goes-fault, goes_on, goes-bad, goes-read, end-done, end-extra}
use Rattle.scan.specs.declared.At.{At}
use Rattle.scan.specs.Lines.{line_of}
use Rattle.lines.specs.Lines.{misspelled}
use Rattle.line_read.specs.At.{said, line_from}
use Rattle.line_read.specs.States.{state_of, next_of, Leads}
use Rattle.std.specs.Prelude.{Ok, Err}

-- ---- one line

-- what a line function answers is what the line says, where an LF ends it
module _ {A : Type 0} (f : List ℕ → Found A) (t : List ℕ) (b : ℕ) (ends : line_end t 0 < length t) where
  pub said-ok : {y : At A} → Ok y ≡ line_from (said f t 0) b → f (line_of t 0) ≡ Ok y.value
  unfolding line_at
  said-ok {y} = rw (lt-ltb (line_end t 0) (length t) ends) (go (f (line_of t 0)))
    where
      go : (g : Found A) → Ok y ≡ line_from g b → g ≡ Ok y.value
      go (Ok x) e = let z : y ≡ record { value = x; next = b } = cc in rw z
      go (Err d) e = fault-got (sym e)

  pub said-err : {d : Fault} → Err d ≡ line_from (said f t 0) b → f (line_of t 0) ≡ Err d
  unfolding line_at
  said-err {d} = rw (lt-ltb (line_end t 0) (length t) ends) (go (f (line_of t 0)))
    where
      go : (g : Found A) → Err d ≡ line_from g b → g ≡ Err d
      go (Ok x) e = fault-got e
      go (Err h) e = let z : d ≡ h = cc in rw z

-- a line that is read ends in the text
module _ {A : Type 0} (f : List ℕ → Found A) (t : List ℕ) (a : ℕ) where
  pub next-inside : {y : At A} → Ok y ≡ line_from (said f t a) (line_end t a + 1) → y.next ≤ length t
  unfolding line_at
  next-inside {y} = go (ltb (line_end t a) (length t)) refl (f (part t a (line_end t a)))
    where
      go : (c : Bool) → ltb (line_end t a) (length t) ≡ c → (g : Found A)
          → Ok y ≡ line_from (cond c g misspelled) (line_end t a + 1) → y.next ≤ length t
      go true w (Ok x) e =
          let z : y ≡ record { value = x; next = line_end t a + 1 } = cc in
          rw z (omega (arith, ltb-true (line_end t a) (length t) w))
      go true w (Err d) e = fault-got (sym e)
      go false w g e = fault-got (sym e)

  pub told-inside : (m : ℕ) {r : Found (At A)} {y : At A} → r ≡ line_from (said f t a) (line_end t a + 1)
      → Ok y ≡ on_line r m → y.next ≤ length t
  unfolding on_line
  told-inside m {r} {y} e = go r e
    where
      go : (s : Found (At A)) → s ≡ line_from (said f t a) (line_end t a + 1) → Ok y ≡ on_line s m → y.next ≤ length t
      go (Ok x) e w = let z : y ≡ x = cc in rw z (next-inside e)
      go (Err d) e w = fault-got (sym w)

module _ {L X : Type 0} (form : Form Fault L X) (t : List ℕ) where
  module _ {A : Type 0} (k : L) (v : X) (a : ℕ) (h : a ≤ length t) (left : form.last k ≡ false)
      (f : List ℕ → Found A) (put : A → Next L X) where
    -- the line that stands here says what f makes of it
    pub line-leads-here : line_at form.odd (form.says k v) t a ≡ after (line_at form.odd f t a) put
        → {r : Found (At A)} {m : ℕ} {q : Checked (At A)} → r ≡ line_from (line_at form.odd f t a) (line_end t a + 1)
        → m ≡ form.number k v → q ≡ on_line r m → Leads form t a k v q (λ x. (put x).kind) (λ x. (put x).value)
    unfolding on_line after
    line-leads-here says e w is = rw (is, e, w) record { goes = go (line_at form.odd f t a) refl }
      where
        made : (g : Found A) → line_at form.odd f t a ≡ g → line_at form.odd (form.says k v) t a ≡ after g put
        made g e = says ∙ ap (λ (g : Found A). after g put) e

        answer : Found A → Checked (At A)
        answer g = on_line (line_from g (line_end t a + 1)) (form.number k v)

        go : (g : Found A) → line_at form.odd f t a ≡ g
            → Goes form t a k v (state_of (answer g) (λ x. (put x).kind) (λ x. (put x).value)) (next_of (answer g))
        go (Ok y) e = goes-line form t k v a h left (put y) (made (Ok y) e)
        go (Err d) e = goes-fault form t k v a h left d (made (Err d) e) 0 (omega arith)

    -- every line does
    pub line-leads : form.says k v ≡ (λ l. after (f l) put)
        → {r : Found (At A)} {m : ℕ} {q : Checked (At A)} → r ≡ line_from (line_at form.odd f t a) (line_end t a + 1)
        → m ≡ form.number k v → q ≡ on_line r m → Leads form t a k v q (λ x. (put x).kind) (λ x. (put x).value)
    line-leads says =
        line-leads-here (ap (λ (s : List ℕ → Found (Next L X)). line_at form.odd s t a) says
        ∙ line_after form.odd f put t a)

  -- ---- line after line

  module _ {a : ℕ} {k : L} {v : X} {Y : Type 0} {kind : Y → L} {value : Y → X} where
    pub leads-inside : {y : At Y} → Leads form t a k v (Ok y) kind value → y.next ≤ length t
    leads-inside p = p.goes.inside

    pub leads-on : {y : At Y} {Z : Type 0} {r : Checked (At Z)} {kind' : Z → L} {value' : Z → X}
        → Leads form t a k v (Ok y) kind value → Leads form t y.next (kind y.value) (value y.value) r kind' value'
        → Leads form t a k v r kind' value'
    leads-on p q = record { goes = goes_on form t p.goes q.goes }

    -- after a bad line all is the same
    pub leads-stop : {e : Refusal} {Z : Type 0} {kind' : Z → L} {value' : Z → X}
        → Leads form t a k v (Err e) kind value → Leads form t a k v (Err e) kind' value'
    leads-stop {e} p = record { goes = p.goes }

  -- ---- the whole text

  module _ (few : length t ≤ form.most) {Y : Type 0} {kind : Y → L} {value : Y → X} where
    -- "the first bad line decides"
    pub read-bad : {e : Refusal} → Leads form t 0 form.first form.none (Err e) kind value
        → read form t ≡ Answer.refused e.fault e.line
    read-bad p = goes-read form t few ∙ goes-bad form t p.goes

    module _ {y : At Y} (p : Leads form t 0 form.first form.none (Ok y) kind value)
        (last : form.last (kind y.value) ≡ true) where
      to_end : read form t ≡ rest form t (State.at (kind y.value) (value y.value)) y.next
      to_end = goes-read form t few ∙ p.goes.same

      pub read-done : length t ≤ y.next → read form t ≡ Answer.done (value y.value)
      read-done h =
          to_end
          ∙ end-done form t (kind y.value) (value y.value) y.next p.goes.inside last
          (omega (arith, p.goes.inside))

      -- "bytes after the last line are an extra line"
      pub read-extra : y.next < length t
          → read form t ≡ Answer.refused form.odd (form.number (kind y.value) (value y.value))
      read-extra h = to_end ∙ end-extra form t (kind y.value) (value y.value) y.next p.goes.inside last h

-- a line that is found fine has passed its check
module _ {A : Type 0} (f : List ℕ → Found A) (check : A → Found (Unit {0})) (t : List ℕ) (a b : ℕ) where
  line-passed : {y : At A} → Ok y ≡ line_from (said (λ l. passing (f l) check) t a) b → check y.value ≡ Ok tt
  unfolding line_at
  line-passed {y} = go (ltb (line_end t a) (length t))
    where
      those : Found A
      those = passing (f (part t a (line_end t a))) check

      passed : (g : Found A) → those ≡ g → Ok y ≡ line_from g b → check y.value ≡ Ok tt
      passed (Ok x) e w =
          let z : y ≡ record { value = x; next = b } = cc in
          rw z
          ((told-passing {P = λ z. Unit {0}} (f (part t a (line_end t a))) check (record { told = λ y u. tt })).told x
          e).1
      passed (Err d) e w = fault-got (sym w)

      go : (c : Bool) → Ok y ≡ line_from (cond c those misspelled) b → check y.value ≡ Ok tt
      go true w = passed those refl w
      go false w = fault-got (sym w)

  pub told-passed : (m : ℕ) {r : Found (At A)} {y : At A} → r ≡ line_from (said (λ l. passing (f l) check) t a) b
      → Ok y ≡ on_line r m → check y.value ≡ Ok tt
  unfolding on_line
  told-passed m {r} {y} e = go r e
    where
      go : (s : Found (At A)) → s ≡ line_from (said (λ l. passing (f l) check) t a) b → Ok y ≡ on_line s m
          → check y.value ≡ Ok tt
      go (Ok x) e w = let z : y ≡ x = cc in rw z (line-passed e)
      go (Err d) e w = fault-got (sym w)
