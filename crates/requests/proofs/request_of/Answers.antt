-- `requests::request_of` meets its contract.
use mathlib.Core.Path.{sym, ◌∙◌}
use Prim.Native.Nat.{◌+◌}
use Rattle.std.proofs.lemmas.List.{take_rest}
use Rattle.requests.specs.Requests.{asked}
use Rattle.requests.proofs.Words.{no-request, request-at}
use Rattle.requests.proofs.request_of.Goals as goal

pub returns-in_err-words : goal.returns-in_err-words
returns-in_err-words c = c.from_residual.ensures ∙ no-request c.args.line.now c.in_err-words.ensures

pub returns-in_err-named : goal.returns-in_err-named
unfolding asked
returns-in_err-named c =
    let l = c.args.line.now in
    let (h, here, none) = c.in_ok-words.ensures in
    rw (request-at l c.in_ok-words.words h here none, ← c.in_err-named.ensures) c.from_residual-in_err-named.ensures

pub returns-in_err-length : goal.returns-in_err-length
unfolding asked
returns-in_err-length c =
    let l = c.args.line.now in
    let i = c.in_ok-words.words in
    let (h, here, none) = c.in_ok-words.ensures in
    rw (request-at l i h here none, ← c.in_ok-named.ensures, ← take_rest l (i + 1), ← c.in_err-length.ensures)
    c.from_residual-in_err-length.ensures

pub returns-then-not-takes : goal.returns-then-not-takes
unfolding asked
returns-then-not-takes c =
    let l = c.args.line.now in
    let i = c.in_ok-words.words in
    let (h, here, none) = c.in_ok-words.ensures in
    rw (
      request-at l i h here none,
      ← c.in_ok-named.ensures,
      ← take_rest l (i + 1),
      ← c.in_ok-length.ensures,
      sym c.takes.ensures ∙ c.if-not-takes.true,
    )

pub returns : goal.returns
unfolding asked
returns c =
    let l = c.args.line.now in
    let i = c.in_ok-words.words in
    let (h, here, none) = c.in_ok-words.ensures in
    rw (
      request-at l i h here none,
      ← c.in_ok-named.ensures,
      ← take_rest l (i + 1),
      ← c.in_ok-length.ensures,
      sym c.takes.ensures ∙ c.if-not-takes.false,
    )
