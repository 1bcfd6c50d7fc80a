-- `arguments::words::first_word` meets its contract.
use Rattle.std.proofs.Common.{◌≡◌, ℕ, ◌+◌, ◌≤◌, List, [], arith, length, take, drop, sym, ◌∙◌, drop_of_length-le}
use Rattle.std.proofs.lemmas.List.{take_all, take_rest}
use Rattle.text.specs.Cut.{PieceEnd}
use Rattle.text.proofs.Ends.{end_is}
use Rattle.arguments.specs.Words.{space, before, behind}
use Rattle.arguments.proofs.words.first_word.Goals as goal

module _ {s : List ℕ} {e : ℕ} (p : PieceEnd s space 0 e) where
  word : take e s ≡ before space s
  unfolding before
  word = rw (end_is p)

  tail : drop (e + 1) s ≡ behind space s
  unfolding behind
  tail = rw (end_is p)

  all-word : length s ≤ e → s ≡ before space s
  all-word h = sym (take_all e s h) ∙ word

  no-tail : length s ≤ e → [] ≡ behind space s
  no-tail h = let past : length s ≤ e + 1 = omega arith in sym (drop_of_length-le s past) ∙ tail

pub returns-then-end-s : goal.returns-then-end-s
returns-then-end-s c =
    let end = c.piece_end-end.ensures in
    record { first = word end; rest = take_rest c.args.s.now (c.piece_end-end.result + 1) ∙ tail end }

pub returns : goal.returns
returns c =
    let end = c.piece_end-end.ensures in
    record { first = all-word end c.if-end-s.false; rest = no-tail end c.if-end-s.false }
