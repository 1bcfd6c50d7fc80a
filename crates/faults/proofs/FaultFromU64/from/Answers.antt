-- A fault from its number.
use borrow.Author.Tests.{ne_eqb}
use Rattle.faults.specs.Words.{fault_of}
use Rattle.faults.proofs.FaultFromU64.from.Goals as goal

pub returns-in-1 : goal.returns-in-1
unfolding fault_of
returns-in-1 c = rw c.in-1.is

pub returns-in-2 : goal.returns-in-2
unfolding fault_of
returns-in-2 c = rw c.in-2.is

pub returns-in-3 : goal.returns-in-3
unfolding fault_of
returns-in-3 c = rw c.in-3.is

pub returns-in-4 : goal.returns-in-4
unfolding fault_of
returns-in-4 c = rw c.in-4.is

pub returns-in-5 : goal.returns-in-5
unfolding fault_of
returns-in-5 c = rw c.in-5.is

pub returns-in-6 : goal.returns-in-6
unfolding fault_of
returns-in-6 c = rw c.in-6.is

pub returns-in-7 : goal.returns-in-7
unfolding fault_of
returns-in-7 c = rw c.in-7.is

pub returns-in-8 : goal.returns-in-8
unfolding fault_of
returns-in-8 c = rw c.in-8.is

pub returns-in-9 : goal.returns-in-9
unfolding fault_of
returns-in-9 c = rw c.in-9.is

pub returns-in-13 : goal.returns-in-13
unfolding fault_of
returns-in-13 c = rw c.in-13.is

pub returns-in-14 : goal.returns-in-14
unfolding fault_of
returns-in-14 c = rw c.in-14.is

pub returns-in-15 : goal.returns-in-15
unfolding fault_of
returns-in-15 c = rw c.in-15.is

pub returns-in_default : goal.returns-in_default
unfolding fault_of
returns-in_default c =
    let r = c.in_default.in_default-own.rest in
    rw (
      ne_eqb _ 1 r.0.0.0.0.0.0.0.0.0.0.0.1,
      ne_eqb _ 2 r.0.0.0.0.0.0.0.0.0.0.1,
      ne_eqb _ 3 r.0.0.0.0.0.0.0.0.0.1,
      ne_eqb _ 4 r.0.0.0.0.0.0.0.0.1,
      ne_eqb _ 5 r.0.0.0.0.0.0.0.1,
      ne_eqb _ 6 r.0.0.0.0.0.0.1,
      ne_eqb _ 7 r.0.0.0.0.0.1,
      ne_eqb _ 8 r.0.0.0.0.1,
      ne_eqb _ 9 r.0.0.0.1,
      ne_eqb _ 13 r.0.0.1,
      ne_eqb _ 14 r.0.1,
      ne_eqb _ 15 r.1,
    )
