use Rattle.std.proofs.Common.{Some, sym, subst}
use Rattle.x64_machine.specs.Effect.{state}
use Rattle.x64_decoded.specs.Fixed.{KeepsFixed}
use Rattle.x64_decoded.proofs.Effects.{execute_keeps}
use Rattle.x64_decoded.proofs.Staying.{cache_stays}
use Rattle.x64_decoded.proofs.stepping.step.Goals as goal

pub returns-in-Some-clause-after : goal.returns-in-Some-clause-after
returns-in-Some-clause-after g c =
    let m = g.S.CodeSpace.memory c.args.space.now in
    cache_stays m (g.S.CodeSpace.memory c.runs.new.space) c.args.cache.now
    (subst (KeepsFixed m) (sym c.runs.ensures.memory)
    (execute_keeps (state c.args.cpu.now m)
    (Some (c.in-Some.entry.now.instr, c.in-Some.entry.now.len))))
    c.requires

pub returns-in-Some-read-clause-after : goal.returns-in-Some-read-clause-after
returns-in-Some-read-clause-after g c =
    let m = g.S.CodeSpace.memory c.args.space.now in
    cache_stays m (g.S.CodeSpace.memory c.runs-in-Some-read.new.space) c.read.new.self
    (subst (KeepsFixed m) (sym c.runs-in-Some-read.ensures.memory)
    (execute_keeps (state c.args.cpu.now m) (Some (c.in-Some-read.instr, c.in-Some-read.len))))
    c.read.ensures.coherent
