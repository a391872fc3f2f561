use Rattle.std.proofs.Common.{sym, subst}
use Rattle.x64_encode.specs.Words.{IsEncoding}
use Rattle.x64_encode.proofs.Written.{spells}
use Rattle.x64_encode.proofs.encoding.encode.Goals as goal

pub returns-clause-spelled : goal.returns-clause-spelled
returns-clause-spelled c = subst (IsEncoding c.args.instr.now) (sym c.put_instr.ensures)
    (spells c.args.instr.now c.requires)
