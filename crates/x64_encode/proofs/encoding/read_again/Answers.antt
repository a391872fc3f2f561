use Rattle.x64_encode.proofs.Written.{read_again}
use Rattle.x64_encode.proofs.encoding.read_again.Goals as goal

pub returns : goal.returns
returns c = read_again
