use Rattle.std.proofs.Common.{◌≡◌, ◌+◌, ◌-◌, ◌*◌}
use Rattle.pe_image.specs.Imports.{library, max_count, counted}
use Rattle.pe_image.specs.Names.{AreEnds}
use Rattle.pe_image.proofs.import_check.check_library.Given as goal

abbrev pub invariant-loop-n : goal.invariant-loop-n
invariant-loop-n l = record {
  so_far :
      counted (l.index + l.n) (library (max_count - l.n) l.sections (l.index + l.n)
      (l.lookups + 8 * l.n) (l.slots + 8 * l.n))
      ≡ counted l.index (library max_count l.sections l.index l.lookups l.slots);
  ends : AreEnds l.sections l.ends;
}
