-- `sentences::values::put_beyond` meets its contract.
use native.Mathlib.Omega.{arith}
use mir.Syntax.{w64}
use mir.Val.{SFits}
use mir.Facts.{to_z-of_z}
use borrow.Author.Rules.{rules}
use Rattle.sentences.specs.Sentences.{beyond_words}
use Rattle.phrases.proofs.Says.{says-most}
use Rattle.sentences.proofs.values.put_beyond.Goals as goal

pub returns-in-Job : goal.returns-in-Job
unfolding beyond_words
returns-in-Job c =
    let fits : SFits w64 c.in-Job.v = search rules in
    rw c.in-Job.is
    (says-most _ (omega arith) (rw (to_z-of_z fits) at c.put_count_far.ensures))

pub returns-in-Visit : goal.returns-in-Visit
unfolding beyond_words
returns-in-Visit c =
    let fits : SFits w64 c.in-Visit.v = search rules in
    rw c.in-Visit.is
    (says-most _ (omega arith) (rw (to_z-of_z fits) at c.put_count_far-in-Visit.ensures))

pub returns-in-End : goal.returns-in-End
unfolding beyond_words
returns-in-End c =
    let fits : SFits w64 c.in-End.v = search rules in
    rw c.in-End.is
    (says-most _ (omega arith) (rw (to_z-of_z fits) at c.put_far_not.ensures))

pub returns-in-Entry : goal.returns-in-Entry
unfolding beyond_words
returns-in-Entry c =
    let fits : SFits w64 c.in-Entry.v = search rules in
    rw c.in-Entry.is
    (says-most _ (omega arith) (rw (to_z-of_z fits) at c.put_far_not-in-Entry.ensures))

pub returns-in-Coefficient : goal.returns-in-Coefficient
unfolding beyond_words
returns-in-Coefficient c =
    let fits : SFits w64 c.in-Coefficient.v = search rules in
    rw c.in-Coefficient.is
    (says-most _ (omega arith) (rw (to_z-of_z fits) at c.put_far_not-in-Coefficient.ensures))
