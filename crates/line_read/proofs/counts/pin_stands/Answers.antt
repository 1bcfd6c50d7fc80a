-- `line_read::counts::pin_stands` meets its contract: no LF stands in the key.
use Prim.Native.Nat.{ℕ, ◌≤◌}
use mathlib.Core.Path.{◌≡◌, refl, sym, ◌∙◌}
use mathlib.Core.List.{List}
use mathlib.Core.Bool.{Bool, true, false}
use lib.ListN.{length, drop}
use Rattle.text.specs.Keys.{starts_with}
use Rattle.text.specs.Words.{pin_key}
use Rattle.scan.specs.Lines.{line_of}
use Rattle.scan.proofs.Keyed.{no_key, has_key}
use Rattle.line_read.proofs.counts.pin_stands.Goals as goal

key-of-line : (t : List ℕ) (a : ℕ) → a ≤ length t → starts_with pin_key (drop a t) ≡ starts_with pin_key (line_of t a)
key-of-line t a h = go (starts_with pin_key (drop a t)) refl
  where
    go : (b : Bool) → starts_with pin_key (drop a t) ≡ b → b ≡ starts_with pin_key (line_of t a)
    go true e = sym (has_key t pin_key a h refl e)
    go false e = sym (no_key t pin_key a h e)

pub returns : goal.returns
returns c =
    c.key_at.ensures ∙ key-of-line c.args.text.now c.args.from c.requires
