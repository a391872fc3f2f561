use Rattle.std.proofs.Common.{◌≡◌}
use Rattle.std.specs.Prelude.{drop}
use Rattle.unwind_check.specs.Prologues.{has_bytes}
use Rattle.unwind_check.proofs.probe.has_bytes.Given as goal

-- all bytes are there exactly where those that are left are
abbrev pub invariant-loop-byte : goal.invariant-loop-byte
invariant-loop-byte g l =
    has_bytes (g.S.CodeSpace.memory l.space) l.initial.at l.bytes
    ≡ has_bytes (g.S.CodeSpace.memory l.space) l.next (drop l.byte-index l.bytes)
