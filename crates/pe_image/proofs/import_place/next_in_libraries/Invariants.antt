use Rattle.std.proofs.Common.{◌≡◌}
use Rattle.pe_image.specs.Imports.{or_none}
use Rattle.pe_image.specs.ImportsLeft.{others, CanReadOthers}
use Rattle.pe_image.proofs.import_place.next_in_libraries.Given as goal

abbrev pub invariant-loop-library : goal.invariant-loop-library
invariant-loop-library l = record {
  so_far : or_none (others l.sections l.directory l.library)
      ≡ or_none (others l.sections l.directory l.fn.first);
  reads : CanReadOthers l.sections l.directory l.library;
}
