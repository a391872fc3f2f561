use Rattle.c_text.proofs.NotRefused.{accepted_is_not_refused, accepted_is_one}
use Rattle.c_text.proofs.laws.laws.Goals as goal

pub returns : goal.returns
returns c = record { not_refused = accepted_is_not_refused; one = accepted_is_one }
