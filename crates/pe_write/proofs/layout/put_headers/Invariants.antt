use Rattle.std.proofs.Common.{◌≡◌, ◌+◌, ◌≤◌, ◌++◌, drop}
use Rattle.std.specs.Prelude.{sum_by}
use Rattle.pe_write.specs.Written.{pages, end_of, placed, section_table}
use Rattle.pe_write.proofs.layout.put_headers.Given as goal

abbrev pub invariant-loop-section : goal.invariant-loop-section
invariant-loop-section l = record {
  same : l.out.items ++ section_table (placed l.address l.raw_at (drop l.section-index l.sections))
      ≡ l.initial.out.items ++ section_table (placed 0x1000 1024 l.sections);
  end : l.address + sum_by (λ s. pages s.size) (drop l.section-index l.sections)
      ≡ end_of l.sections;
  below : l.raw_at ≤ l.address;
}
