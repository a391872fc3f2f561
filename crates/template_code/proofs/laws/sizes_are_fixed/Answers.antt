use Rattle.template_code.proofs.Sizes.{template_sizes}
use Rattle.template_code.proofs.laws.sizes_are_fixed.Goals as goal

pub returns : goal.returns
returns c = template_sizes
