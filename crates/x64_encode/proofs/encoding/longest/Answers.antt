use Rattle.x64_encode.proofs.Lengths.{longest}
use Rattle.x64_encode.proofs.encoding.longest.Goals as goal

pub returns : goal.returns
returns c = longest
