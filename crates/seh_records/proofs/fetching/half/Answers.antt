use Rattle.std.proofs.Common.{arith}
use Rattle.seh_records.specs.Vocabulary.{W32, may_read, RECORD_SIZE}
use Rattle.seh_records.proofs.Runs.{granted, none_within}
use Rattle.seh_records.proofs.fetching.half.Goals as goal

pub returns-in-Err : goal.returns-in-Err
returns-in-Err g c =
    let m = g.S.CodeSpace.memory c.args.space.now in
    absurd (granted m _ W32 c.in-Err.field-0 (none_within (may_read m) RECORD_SIZE c.args.offset 4
    c.args.at (omega arith) (omega arith) c.requires.readable) c.in-Err.ensures.value)
