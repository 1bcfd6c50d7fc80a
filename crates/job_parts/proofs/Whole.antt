-- "Its answer, fault number and line must be those of the whole text read at once, wherever the cuts fall."
use Prim.Native.Nat.{ℕ, zero, suc, ◌+◌, ◌-◌, ◌≤◌, ◌<◌, min}
use native.Mathlib.Omega.{arith}
use native.Mathlib.Numerals.{add-one}
use mathlib.Core.Path.{◌≡◌, refl, sym, ap, ap₂, ◌∙◌}
use mathlib.Core.List.{List, [], ◌∷◌, ◌++◌, foldl, foldl-append}
use mathlib.Core.Bool.{Bool, true, false}
use mathlib.Core.Logic.{◌⊎◌, inl, inr}
use lib.ListN.{length, take, get_or, set, length-set, length-take}
use lib.Seq.{get_or-set_same, get_or-set_other}
use lib.Dec.{ltb, eqb}
use borrow.Author.Tests.{lt-ltb, le-ltb, eq-eqb, ltb-true, ltb-false, eqb-true, eqb-false}
use Rattle.sizes.specs.Sizes.{text_max}
use Rattle.digits.specs.Bytes.{line_feed}
use Rattle.text.specs.Cut.{Cut, feed, feeds, pieces, rest, PieceEnd}
use Rattle.text.proofs.Cuts.{feed-sep, feed-held}
use Rattle.text.proofs.Pieces.{cut-fold}
use Rattle.faults.specs.declared.Fault.{Fault}
use Rattle.faults.specs.Words.{fault_of}
use Rattle.reading.specs.Lines.{State, Part, step, begin, opened, more, closed, read, joined_parts}
use Rattle.reading.specs.Places.{line_end}
use Rattle.reading.proofs.Ends.{end_is}
use Rattle.reading.proofs.Parts.{more-append, more-none, take_put}
use Rattle.scan.specs.Lines.{line_of}
use Rattle.lines.specs.Answered.{answered}
use Rattle.jobs.specs.declared.Job.{Job}
use Rattle.jobs.specs.declared.JobLine.{JobLine}
use Rattle.job_form.specs.JobForm.{job_form_of, read_job}
use Rattle.next_line.specs.declared.Read.{Read}
use Rattle.job_parts.specs.declared.Parts.{Parts}
use Rattle.next_line.specs.State.{kind_of, line_in, job_of, state_of, line_taken}
use Rattle.job_parts.specs.Limits.{size_max, fits}
use Rattle.job_parts.specs.Parts.{begun, byte_taken, bytes_taken, part_taken, whole, end_of, given}
use Rattle.next_line.proofs.Backs.{state-back}
use Rattle.job_parts.proofs.Fits.{Fits, fits-has}
use Rattle.job_parts.proofs.Takes.{byte-over, byte-line, byte-held, bytes_fit, line_stays}

-- ---- the line that is held

take-set : (xs : List ℕ) (n b : ℕ) → take n (set xs n b) ≡ take n xs
take-set [] n b = refl
take-set (x ∷ xs) zero b = refl
take-set (x ∷ xs) (suc n) b = ap (λ (l : List ℕ). x ∷ l) (take-set xs n b)

-- no LF stands in the first n of the bytes
abbrev NoFeed : List ℕ → ℕ → Type 0
NoFeed bytes n = (k : ℕ) → k < n → get_or bytes k 0 ≡ line_feed → ⊥

-- the LF that comes makes them the line
line-held : (bytes : List ℕ) (n b : ℕ) → n < length bytes → NoFeed bytes n → b ≡ line_feed
    → line_of (set bytes n b) 0 ≡ take n bytes
line-held bytes n b h none e =
    let ends : line_end put 0 - 0 ≡ n = omega (arith, end_is put 0 piece) in
    ap (λ (m : ℕ). take m put) ends ∙ take-set bytes n b
  where
    put : List ℕ
    put = set bytes n b

    piece : PieceEnd put line_feed 0 n
    piece = record {
      after = omega arith;
      inside = omega (arith, length-set bytes n b);
      ends = λ w. get_or-set_same bytes n b 0 h ∙ e;
      none = λ k p q w. none k q (sym (get_or-set_other bytes n k b 0 (λ z. omega arith)) ∙ w);
    }

good-state : (r : Read) → r.fault ≡ 0 → state_of r ≡ State.at (line_in r.next) (job_of r)
unfolding state_of
good-state r e = rw (eq-eqb r.fault 0 e)

good-line : (r : Read) (bytes : List ℕ) → r.fault ≡ 0
    → state_of (line_taken r bytes) ≡ step job_form_of (state_of r) (line_of bytes 0)
unfolding line_taken
good-line r bytes e =
    rw (eq-eqb r.fault 0 e)
    (state-back r (step job_form_of (State.at (line_in r.next) (job_of r)) (line_of bytes 0)) e
    ∙ ap (λ (s : State Fault JobLine Job). step job_form_of s (line_of bytes 0)) (sym (good-state r e)))

bad-state : (r : Read) → eqb r.fault 0 ≡ false → state_of r ≡ State.bad (fault_of r.fault) r.line
unfolding state_of
bad-state r e = rw e

bad-line : (r : Read) (bytes : List ℕ) → eqb r.fault 0 ≡ false
    → state_of (line_taken r bytes) ≡ step job_form_of (state_of r) (line_of bytes 0)
unfolding step
bad-line r bytes e =
    ap state_of (line_stays r bytes (eqb-false r.fault 0 e))
    ∙ bad-state r e
    ∙ sym (ap (λ (s : State Fault JobLine Job). step job_form_of s (line_of bytes 0)) (bad-state r e))

-- the next line takes what is read a step further
line-state : (r : Read) (bytes : List ℕ) → state_of (line_taken r bytes)
    ≡ step job_form_of (state_of r) (line_of bytes 0)
line-state r bytes = go (eqb r.fault 0) refl
  where
    go : (b : Bool) → eqb r.fault 0 ≡ b → state_of (line_taken r bytes)
        ≡ step job_form_of (state_of r) (line_of bytes 0)
    go true e = good-line r bytes (eqb-true r.fault 0 e)
    go false e = bad-line r bytes e

-- ---- beside the whole text's reader

-- the same is read, held and counted, as long as the text is not too long
record Same (p : Parts) (q : Part Fault JobLine Job) : Type 0 where
  few : p.size ≤ text_max
  size : q.size ≡ p.size
  state : q.cut.st ≡ state_of p.read
  line : q.cut.held ≡ take p.held p.bytes
  plain : NoFeed p.bytes p.held
  come : p.held ≤ p.size
  long : length p.bytes ≡ text_max

record Over (p : Parts) (q : Part Fault JobLine Job) : Type 0 where
  full : p.size ≡ size_max
  over : text_max < q.size

abbrev Like : Parts → Part Fault JobLine Job → Type 0
Like p q = Same p q ⊎ Over p q

abbrev fed : Part Fault JobLine Job → ℕ → Part Fault JobLine Job
fed q b = record { cut = feed (step job_form_of) line_feed q.cut b; size = q.size + 1 }

module _ {p : Parts} {q : Part Fault JobLine Job} (b : ℕ) where
  over-byte : Over p q → Over (byte_taken p b) (fed q b)
  over-byte o = rw (byte-over p b (omega (arith, o.full))) record { full = refl; over = omega (arith, o.over) }

  full-byte : Same p q → text_max ≤ p.size → Over (byte_taken p b) (fed q b)
  full-byte s h = rw (byte-over p b h) record { full = refl; over = omega (arith, s.size) }

  line-byte : Same p q → p.size < text_max → b ≡ line_feed → Same (byte_taken p b) (fed q b)
  line-byte s h e =
      let held = line-held p.bytes p.held b (omega (arith, s.come, s.long)) s.plain e in
      rw (byte-line p b h e, feed-sep (step job_form_of) line_feed q.cut b e) record {
        few = omega arith;
        size = omega (arith, s.size);
        state =
            ap₂ (step job_form_of) s.state (s.line ∙ sym held)
            ∙ sym (line-state p.read (set p.bytes p.held b));
        line = refl;
        plain = λ k w. absurd (omega arith);
        come = omega arith;
        long = length-set p.bytes p.held b ∙ s.long;
      }

  held-byte : Same p q → p.size < text_max → (b ≡ line_feed → ⊥) → Same (byte_taken p b) (fed q b)
  held-byte s h n =
      let room : p.held < length p.bytes = omega (arith, s.come, s.long) in
      rw (byte-held p b h n, feed-held (step job_form_of) line_feed q.cut b n) record {
        few = omega arith;
        size = omega (arith, s.size);
        state = s.state;
        line =
            ap (λ (l : List ℕ). l ++ (b ∷ [])) s.line
            ∙ sym (rw (add-one p.held) (take_put p.bytes p.held b room));
        plain = plain room;
        come = omega (arith, s.come);
        long = length-set p.bytes p.held b ∙ s.long;
      }
    where
      plain : p.held < length p.bytes → NoFeed (set p.bytes p.held b) (p.held + 1)
      plain room k w e = go (eqb k p.held) refl
        where
          go : (t : Bool) → eqb k p.held ≡ t → ⊥
          go true z =
              n (sym (get_or-set_same p.bytes p.held b 0 room)
              ∙ ap (λ (j : ℕ). get_or (set p.bytes p.held b) j 0) (sym (eqb-true k p.held z))
              ∙ e)
          go false z =
              let other = eqb-false k p.held z in
              s.plain k (omega (arith, other)) (sym (get_or-set_other p.bytes p.held k b 0 other) ∙ e)

  like-byte : Like p q → Like (byte_taken p b) (fed q b)
  like-byte (inr o) = inr (over-byte o)
  like-byte (inl s) = go (ltb p.size text_max) refl (eqb b line_feed) refl
    where
      go : (r : Bool) → ltb p.size text_max ≡ r → (l : Bool) → eqb b line_feed ≡ l → Like (byte_taken p b) (fed q b)
      go true h true e = inl (line-byte s (ltb-true p.size text_max h) (eqb-true b line_feed e))
      go true h false e = inl (held-byte s (ltb-true p.size text_max h) (eqb-false b line_feed e))
      go false h l e = inr (full-byte s (ltb-false p.size text_max h))

one : (q : Part Fault JobLine Job) (b : ℕ) → fed q b ≡ more job_form_of q (b ∷ [])
unfolding more feeds
one q b = refl

like-bytes : (bs : List ℕ) {p : Parts} {q : Part Fault JobLine Job} → Like p q
    → Like (bytes_taken p bs) (more job_form_of q bs)
unfolding bytes_taken
like-bytes [] {p} {q} h = rw (more-none job_form_of q) h
like-bytes (b ∷ bs) {p} {q} h =
    rw (← more-append job_form_of q (b ∷ []) bs) (like-bytes bs (rw (← one q b) (like-byte b h)))

like-begun : Like begun (opened job_form_of)
unfolding opened state_of line_in kind_of
like-begun = inl record {
  few = omega arith;
  size = refl;
  state = refl;
  line = refl;
  plain = λ k w. absurd (omega arith);
  come = omega arith;
  long = refl;
}

like-whole : {p : Parts} {q : Part Fault JobLine Job} → Like p q → whole p ≡ answered (closed job_form_of q)
unfolding whole closed
like-whole {p} {q} (inr o) =
    rw (lt-ltb text_max p.size (omega (arith, o.full)), lt-ltb text_max q.size o.over)
like-whole {p} {q} (inl s) =
    let few : q.size ≤ text_max = omega (arith, s.size, s.few) in
    let long : length q.cut.held ≡ p.held =
    ap (λ (l : List ℕ). length l) s.line ∙ length-held in
    rw (le-ltb text_max p.size s.few, le-ltb text_max q.size few, s.state, long)
  where
    length-held : length (take p.held p.bytes) ≡ p.held
    length-held = omega (arith, length-take p.held p.bytes, s.come, s.few, s.long)

-- ---- what comes in is the text

pub begun-fits : Fits begun
begun-fits = record {
  size = omega arith;
  come = omega arith;
  held = omega arith;
  read =
      record { fault = omega arith; line = omega arith; next = omega arith; kind = omega arith; few = omega arith };
}

pub text-fits : (t : List ℕ) → fits (bytes_taken begun t) ≡ true
text-fits t = fits-has (bytes_taken begun t) (bytes_fit t begun begun-fits)

pub text-whole : (t : List ℕ) → end_of (bytes_taken begun t) ≡ read_job t
unfolding end_of read_job read
text-whole t = rw (text-fits t) (like-whole (like-bytes t like-begun))

-- what is carried then
module _ (t : List ℕ) (few : length t ≤ text_max) where
  same : Same (bytes_taken begun t) (more job_form_of (opened job_form_of) t)
  unfolding more opened
  same = go (like-bytes t like-begun)
    where
      go : Like (bytes_taken begun t) (more job_form_of (opened job_form_of) t)
          → Same (bytes_taken begun t) (more job_form_of (opened job_form_of) t)
      go (inl s) = s
      go (inr o) = absurd (omega (arith, o.over, few))

  cut : (more job_form_of (opened job_form_of) t).cut
      ≡ record { st = foldl (step job_form_of) (begin job_form_of) (pieces line_feed t); held = rest line_feed t }
  unfolding more opened
  cut = cut-fold (step job_form_of) line_feed (begin job_form_of) t

  pub held-line : take (bytes_taken begun t).held (bytes_taken begun t).bytes ≡ rest line_feed t
  held-line = sym same.line ∙ ap (λ (c : Cut (State Fault JobLine Job)). c.held) cut

  pub read-lines : state_of (bytes_taken begun t).read ≡ foldl (step job_form_of) (begin job_form_of)
      (pieces line_feed t)
  read-lines = sym same.state ∙ ap (λ (c : Cut (State Fault JobLine Job)). c.st) cut

-- the count stops one over the limit
pub size-counted : (t : List ℕ) → (bytes_taken begun t).size ≡ min (length t) size_max
size-counted t = go (like-bytes t like-begun)
  where
    come : (more job_form_of (opened job_form_of) t).size ≡ length t
    come = unfold more in (unfold opened in (omega arith))

    go : Like (bytes_taken begun t) (more job_form_of (opened job_form_of) t)
        → (bytes_taken begun t).size ≡ min (length t) size_max
    go (inl s) = omega (arith, s.few, s.size, come)
    go (inr o) = omega (arith, o.full, o.over, come)

-- ---- part after part

bytes-none : (p : Parts) → p ≡ bytes_taken p []
unfolding bytes_taken
bytes-none p = refl

pub bytes-append : (p : Parts) (a b : List ℕ) → bytes_taken (bytes_taken p a) b ≡ bytes_taken p (a ++ b)
unfolding bytes_taken
bytes-append p a b = sym (foldl-append byte_taken p a b)

given-from : (ps : List (List ℕ)) (p : Parts) → Fits p
    → foldl (λ q part. (part_taken q part).parts) p ps ≡ bytes_taken p (joined_parts ps)
unfolding joined_parts part_taken
given-from [] p f = bytes-none p
given-from (part ∷ ps) p f =
    rw (fits-has p f) (given-from ps (bytes_taken p part) (bytes_fit part p f) ∙ bytes-append p part (joined_parts ps))

pub given-all : (ps : List (List ℕ)) → given ps ≡ bytes_taken begun (joined_parts ps)
unfolding given
given-all ps = given-from ps begun begun-fits
