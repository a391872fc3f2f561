use Rattle.x64_laws.proofs.Bitwise.{not_is_complement}
use Rattle.x64_laws.proofs.logic.complements.Goals as goal

pub returns : goal.returns
returns c = not_is_complement
