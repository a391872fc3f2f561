use Rattle.std.proofs.Common.{refl}
use Rattle.pe_image.specs.NameRows.{rows_from}
use Rattle.pe_image.proofs.name_table.NameRows.empty.Goals as goal

pub invariant_of-result : goal.invariant_of-result
unfolding rows_from
invariant_of-result c = refl

pub returns : goal.returns
unfolding rows_from
returns c = refl
