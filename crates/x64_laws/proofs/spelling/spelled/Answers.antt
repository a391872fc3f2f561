use Rattle.x64_laws.proofs.Spelled.{spelled_is_encodable, spelled_is_short}
use Rattle.x64_laws.proofs.spelling.spelled.Goals as goal

pub returns : goal.returns
returns c = record { encodable = spelled_is_encodable; short = spelled_is_short }
