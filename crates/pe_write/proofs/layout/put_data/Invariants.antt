use Rattle.std.proofs.Common.{◌≡◌, ◌++◌, drop}
use Rattle.std.specs.List.{flat_map}
use Rattle.pe_write.specs.Written.{raw_data}
use Rattle.pe_write.proofs.layout.put_data.Given as goal

abbrev pub invariant-loop-section : goal.invariant-loop-section
invariant-loop-section l = l.out.items ++ flat_map raw_data (drop l.section-index l.sections)
    ≡ l.initial.out.items ++ flat_map raw_data l.sections
