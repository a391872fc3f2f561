-- What a program is resolved to, wherever it lies in memory.
use Rattle.std.specs.Prelude.{◌≡◌, None}
use Rattle.c_check.specs.declared.check.Resolved.{Resolved as Resolved'}
use Rattle.c_checked.specs.Program.{program_of}
use Rattle.c_expressions.specs.Kept.{least_of, kept}
use Rattle.c_resolved.specs.Program.{Resolved}

pub record IsResolved (p : Resolved') (r : Resolved) : Type 0 where
  pub program : program_of p.functions.items p.main p.globals.items ≡ r.program
  pub faults : least_of p.faults ≡ kept None r.faults
