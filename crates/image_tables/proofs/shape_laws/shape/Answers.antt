use Rattle.image_tables.proofs.Shape.{tables_have_shape, handlers_differ}
use Rattle.image_tables.proofs.shape_laws.shape.Goals as goal

pub returns : goal.returns
returns c = record { shape = tables_have_shape; handlers = handlers_differ }
