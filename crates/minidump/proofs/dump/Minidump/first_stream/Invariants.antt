use Rattle.std.proofs.Common.{◌≡◌}
use Rattle.minidump.specs.Streams as spec
use Rattle.minidump.proofs.Found.{found_from}
use Rattle.minidump.proofs.dump.Minidump.first_stream.Given as goal

abbrev pub invariant-loop-index : goal.invariant-loop-index
invariant-loop-index l =
    found_from l.fn.self l.fn.directory l.fn.kind l.index
    ≡ spec.first_stream l.fn.self l.fn.directory l.fn.kind
