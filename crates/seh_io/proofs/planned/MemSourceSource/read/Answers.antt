use Rattle.std.proofs.Common.{arith, rules}
use Rattle.seh_io.proofs.Moves.{laid}
use Rattle.seh_io.proofs.planned.MemSourceSource.read.Goals as goal

pub returns-clause-moved : goal.returns-clause-moved
returns-clause-moved c = laid c.args.self.now.bytes.items c.copy_from_slice.new.self c.args.buf.now
    c.args.self.now.given c.min-count.result (omega arith) (search rules)
