-- What the contract of a sentence says, by the status that the reader gives.
use Prim.Native.Nat.{ℕ, ◌≤◌, ◌<◌}
use native.Mathlib.Omega.{arith}
use mathlib.Core.Path.{◌≡◌, sym, ap, ◌∙◌}
use mathlib.Core.List.{List, ◌++◌}
use lib.ListN.{length, drop}
use lib.Seq.{sets-eq}
use Rattle.faults.specs.declared.Fault.{Fault}
use Rattle.faults.specs.Checked.{Checked, Finding, status_of}
use Rattle.faults.specs.Words.{fault_number}
use Rattle.slips.specs.Slips.{found_in}
use Rattle.phrases.specs.Says.{sentence_max}
use Rattle.sentences.specs.Sentences.{slip_words, Explains}
use Rattle.sentences.proofs.Told.{slip-some, slip-none}
use Rattle.entries.specs.Numbers.{told}
use Rattle.std.specs.Prelude.{Ok, Err}

-- a fault has a number
pub number-some : (f : Fault) → 0 < fault_number f
number-some Fault.LongText = omega arith
number-some Fault.Spelling = omega arith
number-some Fault.Unknowns = omega arith
number-some Fault.Beyond = omega arith
number-some Fault.Crossed = omega arith
number-some Fault.Terms = omega arith
number-some Fault.ShortBuffer = omega arith
number-some Fault.Steps = omega arith
number-some Fault.Pin = omega arith
number-some Fault.Full = omega arith
number-some Fault.Visits = omega arith
number-some Fault.NotOpen = omega arith
number-some Fault.Table = omega arith

module _ {old new : List ℕ} {r : ℕ} where
  pub no-fault : {A : Type 0} (a : Checked A) → Explains (found_in (status_of a)) old new r → (told a).number ≡ 0
      → (r ≡ 0) × (new ≡ old)
  no-fault (Ok x) e h =
      let none = slip-none e.slip e.fault in
      let words = rw none at e.words in
      (words.next, words.text)
  no-fault (Err r) e h = absurd (omega (arith, number-some r.fault, h))

  pub a-fault : {A : Type 0} (a : Checked A) → Explains (found_in (status_of a)) old new r → 0 < (told a).number → 0 < r
  a-fault (Ok x) e h = absurd (omega arith)
  a-fault (Err r) e h = omega (arith, e.words.next, slip-some e.slip e.fault)

  pub whole : {found : Finding} (e : Explains found old new r) → sentence_max ≤ length old
      → new ≡ slip_words e.slip ++ drop r old
  whole e h =
      let w = e.words in
      w.text ∙ sets-eq (slip_words e.slip) old 0 (omega (arith, w.next, e.short, h))
      ∙ ap (λ (k : ℕ). slip_words e.slip ++ drop k old) (sym w.next)
