use Rattle.source_machine.proofs.Tameness.{tame_is_calm, ended_is_tame}
use Rattle.source_machine.proofs.RunPrefixes.{plain_before, one_run, comes_to_end, raises_show}
use Rattle.source_machine.proofs.calm_laws.laws.Goals as goal

pub returns-clause-tame_is_calm : goal.returns-clause-tame_is_calm
returns-clause-tame_is_calm c = tame_is_calm

pub returns-clause-ended_is_tame : goal.returns-clause-ended_is_tame
returns-clause-ended_is_tame c = ended_is_tame

pub returns-clause-plain_before : goal.returns-clause-plain_before
returns-clause-plain_before c = plain_before

pub returns-clause-one_run : goal.returns-clause-one_run
returns-clause-one_run c = one_run

pub returns-clause-comes_to_end : goal.returns-clause-comes_to_end
returns-clause-comes_to_end c = comes_to_end

pub returns-clause-raises_show : goal.returns-clause-raises_show
returns-clause-raises_show c = raises_show
