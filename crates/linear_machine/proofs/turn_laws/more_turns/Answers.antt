use Rattle.linear_machine.proofs.MoreTurns as lemma
use Rattle.linear_machine.proofs.turn_laws.more_turns.Goals as goal

pub returns : goal.returns
returns c = record { shows_more = lemma.shows_more; end_stays = lemma.end_stays }
