use Rattle.x64_laws.proofs.Effects.{imul_is_product, imul_by_is_product}
use Rattle.x64_laws.proofs.arithmetic.products.Goals as goal

pub returns : goal.returns
returns c = record { two = imul_is_product; by = imul_by_is_product }
