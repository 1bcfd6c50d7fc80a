-- `requests::packets::look` meets its contract.
use borrow.Author.Tests.{le-leb, lt-leb}
use native.Mathlib.Omega.{arith}
use lib.ListN.{take, length-take}
use Rattle.std.specs.Prelude.{◌≤◌, length}
use Rattle.text.proofs.Ends.{end_is}
use Rattle.requests.specs.Packets.{look_at, look_of, text_at}
use Rattle.requests.proofs.Words.{words_inside}
use Rattle.requests.proofs.packets.look.Goals as goal

pub returns-then-end-ge-HEADER : goal.returns-then-end-ge-HEADER
unfolding look_of look_at
returns-then-end-ge-HEADER c =
    record { same = rw (end_is c.piece_end-end.ensures, le-leb _ _ c.if-end-ge-HEADER.true); places = tt }

pub returns-then-have-end : goal.returns-then-have-end
unfolding look_of look_at
returns-then-have-end c = record {
  same = rw (
    end_is c.piece_end-end.ensures,
    lt-leb _ _ c.if-end-ge-HEADER.false,
    le-leb _ _ c.if-have-end.true,
  );
  places = tt;
}

pub text_of-requires-clause-words_le_from : goal.text_of-requires-clause-words_le_from
text_of-requires-clause-words_le_from c =
    let line = take c.piece_end-end.result c.args.have.now in
    let few : c.in-Some.request.words ≤ length line = rw (← c.in-Some.ensures) at (words_inside line) in
    omega (arith, few, length-take c.piece_end-end.result c.args.have.now)

pub returns-in-Some : goal.returns-in-Some
unfolding look_of look_at text_at
returns-in-Some c = record {
  same = rw (
    end_is c.piece_end-end.ensures,
    lt-leb _ _ c.if-end-ge-HEADER.false,
    lt-leb _ _ c.if-have-end.false,
    ← c.in-Some.ensures,
  )
      c.text_of.ensures.same;
  places = c.text_of.ensures.places;
}

pub returns-in-None : goal.returns-in-None
unfolding look_of look_at text_at
returns-in-None c = record {
  same = rw (
    end_is c.piece_end-end.ensures,
    lt-leb _ _ c.if-end-ge-HEADER.false,
    lt-leb _ _ c.if-have-end.false,
    ← c.in-None.ensures,
  );
  places = tt;
}
