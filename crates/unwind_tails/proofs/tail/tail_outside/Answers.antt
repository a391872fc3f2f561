use Rattle.std.proofs.Common.{◌^◌, Bool, Option, sym, subst}
use Rattle.std.specs.Prelude.{IfSome}
use Rattle.unwind_tails.specs.TailEnds.{IsEnded}
use Rattle.unwind_tails.proofs.LaterTails.{none_outside, some_outside}
use Rattle.unwind_tails.proofs.tail.tail_outside.Goals as goal

pub returns-in-None-fetched_length-clause-tail : goal.returns-in-None-fetched_length-clause-tail
returns-in-None-fetched_length-clause-tail g c = sym c.in-None-fetched_length.ensures.value

pub returns-in-Some-fetched_length-clause-tail : goal.returns-in-Some-fetched_length-clause-tail
returns-in-Some-fetched_length-clause-tail g c = (
  c.in-Some-fetched_length.field-0,
  sym c.in-Some-fetched_length.ensures.value,
  c.in-Some-fetched_length.ensures.more,
)

pub returns-then-ends-clause-tail : goal.returns-then-ends-clause-tail
returns-then-ends-clause-tail g c =
    let m = g.S.CodeSpace.memory c.args.space.now in
    some_outside m c.args.register c.args.at c.args.count c.requires.few
    (subst (IsEnded (2 ^ 62) m c.args.at) c.if-ends.true
    (subst (λ (o : Option Bool). IfSome o (IsEnded (2 ^ 62) m c.args.at)) c.in-Some.is
    c.in_ok-ended.ensures.ended))

pub returns-else-ends-clause-tail : goal.returns-else-ends-clause-tail
returns-else-ends-clause-tail g c =
    let m = g.S.CodeSpace.memory c.args.space.now in
    none_outside m c.args.register c.args.at c.args.count c.requires.few
    (subst (IsEnded (2 ^ 62) m c.args.at) c.if-ends.false
    (subst (λ (o : Option Bool). IfSome o (IsEnded (2 ^ 62) m c.args.at)) c.in-Some.is
    c.in_ok-ended.ensures.ended))
