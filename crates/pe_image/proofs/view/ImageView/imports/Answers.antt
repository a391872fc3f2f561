use Rattle.std.proofs.Common.{◌<◌, ◌^◌, List, length, sym, subst}
use Rattle.pe_image.specs.Image.{Section}
use Rattle.pe_image.specs.Imports.{Import}
use Rattle.pe_image.specs.Names.{AreEnds}
use Rattle.pe_image.proofs.ImportCount.{imports_fit}
use Rattle.pe_image.proofs.view.ImageView.imports.Goals as goal

pub new-requires-clause-ends : goal.new-requires-clause-ends
new-requires-clause-ends c = subst (λ (ss : List Section). AreEnds ss c.self.inside.name_ends)
    (sym c.deref.ensures.value) c.self.invariant.2

pub returns-clause-fits : goal.returns-clause-fits
returns-clause-fits c = subst (λ (is : List Import). length is < 2 ^ 64) (sym c.new.ensures)
    (imports_fit c.deref.result.now c.self.inside.import_directory)
