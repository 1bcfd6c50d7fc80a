-- Old texts keep their meaning: a text without a pin line is read as document 01 has it.
use Prim.Native.Nat.{ℕ, ◌+◌}
use native.Mathlib.Omega.{arith}
use mathlib.Core.Path.{◌≡◌, refl, sym, ap, ◌∙◌}
use mathlib.Core.List.{List, [], ◌∷◌, foldl}
use mathlib.Core.Bool.{Bool, true, false, cond, not, true≢false}
use lib.ListN.{length, get_or}
use lib.Dec.{eqb, ltb}
use borrow.Author.Tests.{eq-eqb}
use Rattle.digits.specs.Bytes.{line_feed}
use Rattle.text.specs.Cut.{pieces, rest}
use Rattle.text.specs.Keys.{starts_with}
use Rattle.text.specs.Words.{pin_key}
use Rattle.text.proofs.Pieces.{cut-fold}
use Rattle.sizes.specs.Sizes.{text_max}
use Rattle.faults.specs.declared.Fault.{Fault}
use Rattle.faults.specs.Checked.{Found, status_of}
use Rattle.reading.specs.Results.{after}
use Rattle.reading.specs.Lines.{Next, State, Answer, heard, step, begin, opened, more, ended, ended_cut, closed, read}
use Rattle.reading.specs.Shows.{before, shown}
use Rattle.reading.proofs.Reading.{was}
use Rattle.reading.proofs.Trips.{lines-were}
use Rattle.reading.proofs.Goes.{and-false}
use Rattle.jobs.specs.declared.Kind.{Kind}
use Rattle.jobs.specs.declared.Job.{Job}
use Rattle.jobs.specs.declared.JobLine.{JobLine}
use Rattle.jobs.specs.Lines.{pin_lines, after_n, job_number}
use Rattle.jobs.specs.Parts.{last_pin, with_number, with_kind, with_unknowns}
use Rattle.jobs.specs.Zero.{no_job}
use Rattle.checks.specs.Answered.{job_in}
use Rattle.lines.specs.Answered.{answered}
use Rattle.lines.proofs.Answered.{answer-done}
use Rattle.lines.specs.Lines.{number_of, kind_of, unknowns_of}
use Rattle.job_form.specs.JobForm.{after_system, system_says, job_says, low_says, job_form_of, read_job}
use Rattle.job_form.specs.JobBytes.{pin_written, job_shows}
use Rattle.job_form.specs.Live.{live_pin, live}
use Rattle.job_form.proofs.Order.{ends, Shape, shape}
use Rattle.job_form.proofs.Reached.{Has, Spelt}
use Rattle.job_form.proofs.Fourth.{pin-last}
use Rattle.job_form.proofs.Trips.{laws}
use Rattle.job_form.proofs.Answers.{whole}
use Rattle.job_form.specs.Before.{says_before, form_before, read_before, Unpinned}
use Rattle.std.specs.Prelude.{Ok, Err}

abbrev Job·State : Type 0
Job·State = State Fault JobLine Job

-- ---- from lo on

-- the kinds from lo on, which neither reading leaves again
abbrev Late : JobLine → Type 0
Late JobLine.Number = ⊥
Late JobLine.Kind = ⊥
Late JobLine.Unknowns = ⊥
Late JobLine.Pin = ⊥
Late JobLine.Lo = Unit {0}
Late JobLine.Hi = Unit {0}
Late JobLine.Inv = Unit {0}
Late JobLine.Steps = Unit {0}
Late (JobLine.System i) = Unit {0}
Late JobLine.End = Unit {0}

abbrev LateState : Job·State → Type 0
LateState (State.at k v) = Late k
LateState (State.bad f n) = Unit {0}

heard-late : {A : Type 0} (n : ℕ) (r : Found A) (put : A → Next JobLine Job) → ((x : A) → Late (put x).kind)
    → LateState (heard n (after r put))
unfolding heard after
heard-late n (Ok x) put h = h x
heard-late n (Err f) put h = tt

after-late : (i n : ℕ) → Late (after_system i n)
unfolding after_system
after-late i n = go (ltb (i + 1) n)
  where
    go : (b : Bool) → Late (cond b (JobLine.System (i + 1)) JobLine.End)
    go true = tt
    go false = tt

late-stays : (s : Job·State) (l : List ℕ) → LateState s → LateState (step job_form_of s l)
unfolding step job_says system_says
late-stays (State.bad f n) l h = tt
late-stays (State.at JobLine.Number v) l h = absurd h
late-stays (State.at JobLine.Kind v) l h = absurd h
late-stays (State.at JobLine.Unknowns v) l h = absurd h
late-stays (State.at JobLine.Pin v) l h = absurd h
late-stays (State.at JobLine.Lo v) l h = heard-late _ _ _ (λ x. tt)
late-stays (State.at JobLine.Hi v) l h = heard-late _ _ _ (λ x. tt)
late-stays (State.at JobLine.Inv v) l h = heard-late _ _ _ (λ x. tt)
late-stays (State.at JobLine.Steps v) l h = heard-late _ _ _ (λ x. tt)
late-stays (State.at (JobLine.System i) v) l h = go v.head.kind
  where
    go : (k : Kind) → LateState (heard (job_number (JobLine.System i) v.head) (system_says k i v l))
    go Kind.Poly = heard-late _ _ _ (λ x. after-late i v.head.n)
    go Kind.Linear = heard-late _ _ _ (λ x. after-late i v.head.n)
    go Kind.Eigen = heard-late _ _ _ (λ x. after-late i v.head.n)
late-stays (State.at JobLine.End v) l h = tt

late-same : (s : Job·State) (l : List ℕ) → LateState s → step job_form_of s l ≡ step form_before s l
unfolding step says_before
late-same (State.bad f n) l h = refl
late-same (State.at JobLine.Number v) l h = absurd h
late-same (State.at JobLine.Kind v) l h = absurd h
late-same (State.at JobLine.Unknowns v) l h = absurd h
late-same (State.at JobLine.Pin v) l h = absurd h
late-same (State.at JobLine.Lo v) l h = refl
late-same (State.at JobLine.Hi v) l h = refl
late-same (State.at JobLine.Inv v) l h = refl
late-same (State.at JobLine.Steps v) l h = refl
late-same (State.at (JobLine.System i) v) l h = refl
late-same (State.at JobLine.End v) l h = refl

late-fold : (ls : List (List ℕ)) (s : Job·State) → LateState s
    → foldl (step job_form_of) s ls ≡ foldl (step form_before) s ls
late-fold [] s h = refl
late-fold (l ∷ ls) s h =
    late-fold ls (step job_form_of s l) (late-stays s l h)
    ∙ ap (λ (u : Job·State). foldl (step form_before) u ls) (late-same s l h)

-- ---- the first lines, and the bytes held after the last

module _ (held : ℕ) where
  -- what the lines make of two states
  abbrev Same : Job·State → Job·State → List (List ℕ) → Type 0
  Same s u ls = ended job_form_of (foldl (step job_form_of) s ls) held
      ≡ ended form_before (foldl (step form_before) u ls) held

  same_ended : (s : Job·State) → ended job_form_of s held ≡ ended form_before s held
  unfolding ended
  same_ended (State.at k v) = refl
  same_ended (State.bad f n) = refl

  from-late : (ls : List (List ℕ)) (s : Job·State) → LateState s → Same s s ls
  from-late ls s h =
      same_ended (foldl (step job_form_of) s ls)
      ∙ ap (λ (u : Job·State). ended form_before u held) (late-fold ls s h)

  -- the line after an eigenpair's n
  from-fourth : (v : Job) → pin_written v ≡ false → (ls : List (List ℕ)) → starts_with pin_key (get_or ls 0 []) ≡ false
      → Same (State.at JobLine.Pin v) (State.at JobLine.Lo v) ls
  unfolding ended step job_says says_before pin_lines
  from-fourth v w [] key = rw (w, and-false (eqb held 0))
  from-fourth v w (l ∷ ls) key =
      rw (key, w)
      (from-late ls (heard 4 (low_says v l)) (heard-late 4 _ _ (λ x. tt)))

  -- n, after which the two readings part
  after-n : (k : Kind) (v : Job) → v.head.kind ≡ k → (n : ℕ) (ls : List (List ℕ))
      → starts_with pin_key (get_or ls 0 []) ≡ false
      → Same (State.at (after_n k) (with_unknowns v n)) (State.at JobLine.Lo (with_unknowns v n)) ls
  after-n Kind.Poly v e n ls key = from-late ls (State.at JobLine.Lo (with_unknowns v n)) tt
  after-n Kind.Linear v e n ls key = from-late ls (State.at JobLine.Lo (with_unknowns v n)) tt
  after-n Kind.Eigen v e n ls key =
      let unwritten : pin_written (with_unknowns v n) ≡ false = rw e (ap not (eq-eqb n n refl)) in
      from-fourth (with_unknowns v n) unwritten ls key

  -- a line that both readings make the same of, or n
  from-line : {A : Type 0} (n : ℕ) (r : Found A) (one two : A → Next JobLine Job) (ls : List (List ℕ))
      → ((x : A) → Same (State.at (one x).kind (one x).value) (State.at (two x).kind (two x).value) ls)
      → Same (heard n (after r one)) (heard n (after r two)) ls
  unfolding heard after
  from-line n (Ok x) one two ls h = h x
  from-line n (Err f) one two ls h = from-late ls (State.bad f n) tt

  from-third : (v : Job) (ls : List (List ℕ)) → starts_with pin_key (get_or ls 1 []) ≡ false
      → Same (State.at JobLine.Unknowns v) (State.at JobLine.Unknowns v) ls
  unfolding step job_says says_before
  from-third v [] key = same_ended (State.at JobLine.Unknowns v)
  from-third v (l ∷ ls) key = from-line 3 (unknowns_of l) _ _ ls (λ n. after-n v.head.kind v refl n ls key)

  from_second : (v : Job) (ls : List (List ℕ)) → starts_with pin_key (get_or ls 2 []) ≡ false
      → Same (State.at JobLine.Kind v) (State.at JobLine.Kind v) ls
  unfolding step job_says says_before
  from_second v [] key = same_ended (State.at JobLine.Kind v)
  from_second v (l ∷ ls) key = from-line 2 (kind_of l) _ _ ls (λ k. from-third (with_kind v k) ls key)

  from_first : (ls : List (List ℕ)) → starts_with pin_key (get_or ls 3 []) ≡ false
      → Same (begin job_form_of) (begin form_before) ls
  unfolding step job_says says_before
  from_first [] key = same_ended (begin job_form_of)
  from_first (l ∷ ls) key = from-line 1 (number_of l) _ _ ls (λ m. from_second (with_number no_job m) ls key)

-- ---- the whole text

pub read-before : (t : List ℕ) → Unpinned t → read job_form_of t ≡ read form_before t
unfolding read closed more opened
read-before t u =
    ap (cond (ltb text_max (0 + length t)) (Answer.refused Fault.LongText 0))
    (ap (ended_cut job_form_of) (cut-fold (step job_form_of) line_feed (begin job_form_of) t)
    ∙ from_first (length (rest line_feed t)) (pieces line_feed t) u.fourth
    ∙ ap (ended_cut form_before) (sym (cut-fold (step form_before) line_feed (begin form_before) t)))

-- ---- and the last is pinned

plain-last : (k : Kind) (n pin : ℕ) → after_n k ≡ JobLine.Lo → live_pin k pin ≡ pin → pin ≡ last_pin k n
plain-last Kind.Poly n pin e p = sym p
plain-last Kind.Linear n pin e p = sym p
plain-last Kind.Eigen n pin e p = absurd (let z : ◌≡◌ {A = ℕ} 0 1 = cc in omega arith)

pinned-fourth : (j : Job) → j.head.kind ≡ Kind.Eigen → pin_written j ≡ true
    → starts_with pin_key (get_or (shown job_shows j) 3 []) ≡ true
unfolding starts_with
pinned-fourth j k b = rw (ap after_n k, b)

pub last-pinned : (t : List ℕ) (j : Job) → Unpinned t → read job_form_of t ≡ Answer.done j
    → j.head.pin ≡ last_pin j.head.kind j.head.n
last-pinned t j u e =
    let w = was job_form_of t j e in
    let end = ends w.kind w.last in
    let were = lines-were job_form_of job_shows Has Spelt laws w.lines w.kind j w.reads in
    go (shape j) (ap (λ (k : JobLine). before job_shows k j) (sym end) ∙ were.0 ∙ w.are) (rw end at were.1).only
  where
    go : Shape j → shown job_shows j ≡ pieces line_feed t → live j ≡ j
        → j.head.pin ≡ last_pin j.head.kind j.head.n
    go (Shape.plain k b) s only =
        plain-last j.head.kind j.head.n j.head.pin k (ap (λ (x : Job). x.head.pin) only)
    go (Shape.last k b) s only = pin-last j k b ∙ ap (λ (x : Kind). last_pin x j.head.n) (sym k)
    go (Shape.pinned k b) s only =
        absurd (true≢false (sym (pinned-fourth j k b) ∙ ap (λ (ls : List (List ℕ)). starts_with pin_key
        (get_or ls 3 [])) s
        ∙ u.fourth))

-- ---- the reader's answers

module _ (t : List ℕ) (u : Unpinned t) where
  pub old-read : read_job t ≡ read_before t
  unfolding read_job read_before
  old-read = ap answered (read-before t u)

  pub old-last : status_of (read_job t) ≡ Ok tt
      → (job_in (read_job t)).head.pin ≡ last_pin (job_in (read_job t)).head.kind (job_in (read_job t)).head.n
  unfolding read_job
  old-last e =
      last-pinned t (job_in (read_job t)) u (answer-done (read job_form_of t) (job_in (read_job t)) (whole t e))
