-- Lines that hold a word, or one count.
use Prim.Native.Nat.{ℕ, ◌+◌, ◌≤◌}
use native.Mathlib.Omega.{arith}
use mathlib.Core.Path.{◌≡◌, refl, sym, ap, ◌∙◌}
use mathlib.Core.List.{List}
use mathlib.Core.Bool.{Bool, true, false, cond, false≢true}
use lib.ListN.{length}
use lib.Dec.{ltb}
use lib.IntN.{ℤ}
use Rattle.faults.specs.declared.Fault.{Fault}
use Rattle.digits.specs.Number.{read_number}
use Rattle.text.specs.Counts.{count_of}
use Rattle.text.specs.Keys.{same_bytes, body_of}
use Rattle.jobs.specs.declared.Kind.{Kind}
use Rattle.jobs.specs.declared.Verdict.{Verdict}
use Rattle.reading.specs.NumberLines.{counted, count_line}
use Rattle.reading.specs.Places.{line_end, line_at}
use Rattle.reading.proofs.Ends.{line-end}
use Rattle.text.proofs.Keys.{same-was}
use Rattle.scan.proofs.Parts.{part_length}
use Rattle.scan.specs.declared.At.{At}
use Rattle.text.specs.declared.Uncounted.{Uncounted}
use Rattle.scan.specs.Lines.{line_of, number_of, counted_of, line_is}
use Rattle.lines.specs.Lines.{misspelled, word_or, kind_of, verdict_of}
use Rattle.lines.specs.Texts.{kind_text, verdict_text}
use Rattle.line_read.specs.At.{said, onward, line_from, word_from}
use Rattle.std.specs.Prelude.{Result, Ok, Err, Some, None, Option}
use Rattle.faults.specs.Checked.{Found}
use Rattle.std.specs.Option.{ok_or}

-- ---- a word

pub said-word : {A : Type 0} (w : List ℕ) (v : A) (f : List ℕ → Found A) (t : List ℕ) (a : ℕ)
    → said (λ l. word_or l w v (f l)) t a ≡ cond (line_is w t a) (Ok v) (said f t a)
unfolding line_at
said-word {A} w v f t a = go (ltb (line_end t a) (length t)) (same_bytes w (line_of t a)) (f (line_of t a))
  where
    go : (e s : Bool) (g : Found A)
        → cond e (cond s (Ok v) g) misspelled ≡ cond (cond e s false) (Ok v) (cond e g misspelled)
    go true true g = refl
    go true false g = refl
    go false true g = refl
    go false false g = refl

said-none : {A : Type 0} (t : List ℕ) (a : ℕ) → said {A = A} (λ l. misspelled) t a ≡ misspelled
unfolding line_at
said-none {A} t a = go (ltb (line_end t a) (length t))
  where
    go : (e : Bool) → cond e (misspelled {A = A}) misspelled ≡ misspelled
    go true = refl
    go false = refl

pub kind-is : (t : List ℕ) (a : ℕ)
    → said kind_of t a
    ≡ cond (line_is (kind_text Kind.Poly) t a) (Ok Kind.Poly)
    (cond (line_is (kind_text Kind.Linear) t a) (Ok Kind.Linear)
    (cond (line_is (kind_text Kind.Eigen) t a) (Ok Kind.Eigen) misspelled))
unfolding kind_of
kind-is t a = simp (said-word, said-none)

pub verdict-is : (t : List ℕ) (a : ℕ)
    → said verdict_of t a
    ≡ cond (line_is (verdict_text Verdict.None) t a) (Ok Verdict.None)
    (cond (line_is (verdict_text Verdict.Unique) t a) (Ok Verdict.Unique)
    (cond (line_is (verdict_text Verdict.Stalled) t a) (Ok Verdict.Stalled)
    (cond (line_is (verdict_text Verdict.Spent) t a) (Ok Verdict.Spent) misspelled)))
unfolding verdict_of
verdict-is t a = simp (said-word, said-none)

-- what stands there, or else what stands here
abbrev pub or_else : {A : Type 0} → Option A → Option A → Option A
or_else (Some x) other = Some x
or_else None other = other

abbrev kind_there : Kind → List ℕ → ℕ → Option (At Kind)
kind_there k t a = word_from (kind_text k) k t a

pub kind-line : (t : List ℕ) (a : ℕ)
    → ok_or (or_else (or_else (kind_there Kind.Poly t a) (kind_there Kind.Linear t a)) (kind_there Kind.Eigen t a))
    Fault.Spelling
    ≡ line_from (said kind_of t a) (onward t a)
kind-line t a =
    rw (kind-is t a)
    (go (line_is (kind_text Kind.Poly) t a) (line_is (kind_text Kind.Linear) t a) (line_is (kind_text Kind.Eigen) t a))
  where
    at : Bool → Kind → Option (At Kind)
    at b k = cond b (Some (record { value = k; next = onward t a })) None

    go : (p l e : Bool)
        → ok_or (or_else (or_else (at p Kind.Poly) (at l Kind.Linear)) (at e Kind.Eigen)) Fault.Spelling
        ≡ line_from (cond p (Ok Kind.Poly) (cond l (Ok Kind.Linear) (cond e (Ok Kind.Eigen) misspelled))) (onward t a)
    go true l e = refl
    go false true e = refl
    go false false true = refl
    go false false false = refl

abbrev verdict_there : Verdict → List ℕ → ℕ → Option (At Verdict)
verdict_there v t a = word_from (verdict_text v) v t a

pub verdict-line : (t : List ℕ) (a : ℕ)
    → ok_or
    (or_else
    (or_else
    (or_else (verdict_there Verdict.None t a) (verdict_there Verdict.Unique t a))
    (verdict_there Verdict.Stalled t a))
    (verdict_there Verdict.Spent t a))
    Fault.Spelling
    ≡ line_from (said verdict_of t a) (onward t a)
verdict-line t a =
    rw (verdict-is t a)
    (go (line_is (verdict_text Verdict.None) t a) (line_is (verdict_text Verdict.Unique) t a)
    (line_is (verdict_text Verdict.Stalled) t a) (line_is (verdict_text Verdict.Spent) t a))
  where
    at : Bool → Verdict → Option (At Verdict)
    at b v = cond b (Some (record { value = v; next = onward t a })) None

    go : (n u s p : Bool)
        → ok_or
        (or_else (or_else (or_else (at n Verdict.None) (at u Verdict.Unique)) (at s Verdict.Stalled))
        (at p Verdict.Spent))
        Fault.Spelling
        ≡ line_from
        (cond n (Ok Verdict.None)
        (cond u (Ok Verdict.Unique) (cond s (Ok Verdict.Stalled) (cond p (Ok Verdict.Spent) misspelled))))
        (onward t a)
    go true u s p = refl
    go false true s p = refl
    go false false true p = refl
    go false false false true = refl
    go false false false false = refl

-- ---- a count

-- a count as a line's value; what is no count as a fault
abbrev pub told : Fault → Option (At (Result ℕ Uncounted)) → Found (At ℕ)
told out (Some c) = line_from (counted Fault.Spelling out c.value) c.next
told out None = Err Fault.Spelling

module _ (out : Fault) (key : List ℕ) (most : ℕ) (t : List ℕ) (a : ℕ) {x : Option (At (Result ℕ Uncounted))}
    (w : x ≡ counted_of most (number_of key t a) (line_end t a)) where
  pub count-is : told out x ≡ line_from (said (count_line Fault.Spelling out key most) t a) (onward t a)
  unfolding line_at count_line counted counted_of count_of
  count-is = go (ltb (line_end t a) (length t)) (read_number (body_of key (line_of t a))) w
    where
      go : (e : Bool) (v : Option ℤ) → x ≡ counted_of most (cond e v None) (line_end t a)
          → told out x ≡ line_from (cond e (counted Fault.Spelling out (count_of most v)) misspelled) (onward t a)
      go true (Some v) p = rw p
      go true None p = rw p
      go false v p = rw p

  pub no-number : x ≡ None
      → Err Fault.Spelling ≡ line_from (said (count_line Fault.Spelling out key most) t a) (onward t a)
  no-number e = ap (told out) (sym e) ∙ count-is

  pub one-number : {c : At (Result ℕ Uncounted)} {r : Result ℕ Uncounted} → x ≡ Some c → c.value ≡ r
      → line_from (counted Fault.Spelling out r) c.next
      ≡ line_from (said (count_line Fault.Spelling out key most) t a) (onward t a)
  one-number {c} e v =
      ap (λ r. line_from (counted Fault.Spelling out r) c.next) (sym v) ∙ ap (told out) (sym e) ∙ count-is

-- a line that is these bytes ends after them
pub line-past : (w t : List ℕ) (a : ℕ) → a ≤ length t → line_is w t a ≡ true
    → a + length w + 1 ≡ onward t a
line-past w t a h y =
    let end = line-end t a h in
    let same = ap length
    (same-was w (line_of t a) (ended (ltb (line_end t a) (length t)) (same_bytes w (line_of t a)) y)) in
    omega (arith, end.after, end.inside, same, part_length t a (line_end t a) end.after end.inside)
  where
    ended : (e s : Bool) → cond e s false ≡ true → s ≡ true
    ended true s z = z
    ended false s z = absurd (false≢true z)
