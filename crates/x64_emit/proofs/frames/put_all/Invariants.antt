use Rattle.std.proofs.Common.{◌≡◌, ◌++◌, take}
use Rattle.x64_emit.specs.Words.{spelled}
use Rattle.x64_emit.proofs.frames.put_all.Given as goal

abbrev pub invariant-loop-instr : goal.invariant-loop-instr
invariant-loop-instr l = l.code.items ≡ l.initial.code.items
    ++ spelled (take l.instr-index l.instrs)
