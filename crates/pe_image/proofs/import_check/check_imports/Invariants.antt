use Rattle.std.proofs.Common.{◌≡◌, ◌+◌, ◌-◌, ◌*◌, ◌≤◌}
use Rattle.pe_image.specs.Imports.{libraries, max_count, counted}
use Rattle.pe_image.specs.Names.{AreEnds}
use Rattle.pe_image.proofs.import_check.check_imports.Given as goal

abbrev pub invariant-loop-n : goal.invariant-loop-n
invariant-loop-n l = record {
  so_far : counted l.index (libraries (max_count - l.n) l.sections l.index
      (l.directory.rva + 20 * l.n)) ≡ counted 0 (libraries max_count l.sections 0 l.directory.rva);
  few : l.index ≤ l.n * 4294967295;
  ends : AreEnds l.sections l.ends;
}
