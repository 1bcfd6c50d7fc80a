-- A byte of a part, and a loop over them.
use Prim.Native.Nat.{ℕ, ◌+◌, ◌≤◌, ◌<◌}
use native.Mathlib.Omega.{arith}
use native.Mathlib.Numerals.{add-one}
use mathlib.Core.Path.{◌≡◌, refl, sym, ap, ◌∙◌}
use mathlib.Core.List.{List, [], ◌∷◌}
use mathlib.Core.Bool.{Bool, true, false, cond}
use lib.ListN.{length, drop, get_or, set, length-set, drop_of_length-le}
use lib.Seq.{drop-cons, get_or-set_same}
use lib.Dec.{ltb, eqb}
use borrow.Author.Tests.{lt-ltb, le-ltb, eq-eqb, ne_eqb, ltb-true, ltb-false}
use Rattle.sizes.specs.Sizes.{text_max}
use Rattle.digits.specs.Bytes.{line_feed}
use Rattle.reading.specs.Places.{line_end}
use Rattle.reading.proofs.Ends.{line-end}
use Rattle.next_line.specs.declared.Read.{Read}
use Rattle.job_parts.specs.declared.Parts.{Parts}
use Rattle.next_line.specs.State.{line_taken}
use Rattle.job_parts.specs.Parts.{with_byte, too_long, byte_taken, bytes_taken}
use Rattle.next_line.proofs.Rooms.{line-taken-fits}
use Rattle.job_parts.proofs.Fits.{Fits}

-- ---- one byte

-- the bytes with one more
abbrev grown : Parts → ℕ → List ℕ
grown p b = set p.bytes p.held b

-- an LF has come
abbrev pub ended : Parts → ℕ → Parts
ended p b = record { size = p.size + 1; held = 0; read = line_taken p.read (grown p b); bytes = grown p b }

-- another byte
abbrev pub held : Parts → ℕ → Parts
held p b = record { size = p.size + 1; held = p.held + 1; read = p.read; bytes = grown p b }

module _ (p : Parts) (b : ℕ) where
  pub byte-over : text_max ≤ p.size → byte_taken p b ≡ too_long p
  unfolding byte_taken
  byte-over h = rw (le-ltb p.size text_max h)

  module _ (room : p.size < text_max) where
    pub byte-line : b ≡ line_feed → byte_taken p b ≡ ended p b
    unfolding byte_taken with_byte
    byte-line e = rw (lt-ltb p.size text_max room, eq-eqb b line_feed e)

    pub byte-held : (b ≡ line_feed → ⊥) → byte_taken p b ≡ held p b
    unfolding byte_taken with_byte
    byte-held n = rw (lt-ltb p.size text_max room, ne_eqb b line_feed n)

  pub ended-fits : Fits p → p.size < text_max → Fits (ended p b)
  ended-fits f room = record {
    size = omega arith;
    come = omega arith;
    held = omega arith;
    read = line-taken-fits p.read (grown p b) f.read;
  }

  pub held_fits : Fits p → p.size < text_max → Fits (held p b)
  held_fits f room = record {
    size = omega arith;
    come = omega (arith, f.come);
    held = omega (arith, f.come);
    read = f.read;
  }

  pub byte_fits : Fits p → Fits (byte_taken p b)
  unfolding byte_taken with_byte
  byte_fits f = go (ltb p.size text_max) refl (eqb b line_feed)
    where
      go : (r : Bool) → ltb p.size text_max ≡ r → (l : Bool)
          → Fits (cond r (cond l (ended p b) (held p b)) (too_long p))
      go true e true = ended-fits f (ltb-true p.size text_max e)
      go true e false = held_fits f (ltb-true p.size text_max e)
      go false e l = record {
        size = omega arith;
        come = omega (arith, f.held);
        held = f.held;
        read = f.read;
      }

pub bytes_fit : (bs : List ℕ) (p : Parts) → Fits p → Fits (bytes_taken p bs)
unfolding bytes_taken
bytes_fit [] p f = f
bytes_fit (b ∷ bs) p f = bytes_fit bs (byte_taken p b) (byte_fits p b f)

-- past the limit nothing changes any more
pub bytes-over : (bs : List ℕ) (p : Parts) → bytes_taken (too_long p) bs ≡ too_long p
unfolding bytes_taken
bytes-over [] p = refl
bytes-over (b ∷ bs) p =
    ap (λ (q : Parts). bytes_taken q bs) (byte-over (too_long p) b (omega arith)) ∙ bytes-over bs p

-- after a bad line no line is read
pub line_stays : (r : Read) (bytes : List ℕ) → (r.fault ≡ 0 → ⊥) → line_taken r bytes ≡ r
unfolding line_taken
line_stays r bytes n = rw (ne_eqb r.fault 0 n)

-- the LF that has come ends the line
pub feed-ends : (bytes : List ℕ) (n b : ℕ) → n < length bytes → b ≡ line_feed
    → line_end (set bytes n b) 0 < length (set bytes n b)
feed-ends bytes n b h e = go (ltb n (line_end put 0)) refl
  where
    put : List ℕ
    put = set bytes n b

    go : (t : Bool) → ltb n (line_end put 0) ≡ t → line_end put 0 < length put
    go true w =
        absurd ((line-end put 0 (omega arith)).none n (omega arith) (ltb-true n (line_end put 0) w)
        (get_or-set_same bytes n b 0 h ∙ e))
    go false w = omega (arith, ltb-false n (line_end put 0) w, length-set bytes n b)

-- ---- a loop over the bytes

module _ (part : List ℕ) (whole : Parts) where
  -- from place i of the part on, what is left takes p to the whole
  pub record Going (p : Parts) (i : ℕ) : Type 0 where
    pub inside : i ≤ length part
    pub fit : Fits p
    pub same : bytes_taken p (drop i part) ≡ whole

  pub going_done : {p : Parts} {i : ℕ} → Going p i → length part ≤ i → p ≡ whole
  unfolding bytes_taken
  going_done {p} g h = sym (ap (bytes_taken p) (drop_of_length-le part h)) ∙ g.same

  module _ {p : Parts} {i : ℕ} (g : Going p i) (h : i < length part) where
    next : bytes_taken (byte_taken p (get_or part i 0)) (drop (i + 1) part) ≡ whole
    unfolding bytes_taken
    next = rw (add-one i) (sym (ap (bytes_taken p) (drop-cons part i 0 h)) ∙ g.same)

    pub going-over : text_max ≤ p.size → too_long p ≡ whole
    going-over over =
        sym (ap (λ (q : Parts). bytes_taken q (drop (i + 1) part)) (byte-over p (get_or part i 0) over)
        ∙ bytes-over (drop (i + 1) part) p)
        ∙ next

    module _ (room : p.size < text_max) where
      pub going-line : get_or part i 0 ≡ line_feed → Going (ended p (get_or part i 0)) (i + 1)
      going-line e = record {
        inside = omega arith;
        fit = ended-fits p (get_or part i 0) g.fit room;
        same = rw (byte-line p (get_or part i 0) room e) at next;
      }

      pub going-byte : (get_or part i 0 ≡ line_feed → ⊥) → Going (held p (get_or part i 0)) (i + 1)
      going-byte n = record {
        inside = omega arith;
        fit = held_fits p (get_or part i 0) g.fit room;
        same = rw (byte-held p (get_or part i 0) room n) at next;
      }
