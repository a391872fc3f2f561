use Rattle.std.proofs.Common.{◌≡◌, ◌+◌, drop}
use Rattle.std.specs.Prelude.{sum_by}
use Rattle.pe_write.specs.Written.{pages, code_base, end_of}
use Rattle.pe_write.proofs.layout.code_base.Given as goal

abbrev pub invariant-loop-section : goal.invariant-loop-section
invariant-loop-section l = record {
  same : code_base l.address (drop l.section-index l.sections) ≡ code_base 0x1000 l.sections;
  end : l.address + sum_by (λ s. pages s.size) (drop l.section-index l.sections)
      ≡ end_of l.sections;
}
