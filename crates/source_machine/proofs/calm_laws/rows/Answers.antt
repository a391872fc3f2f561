use Rattle.source_machine.proofs.CalmRows as rows
use Rattle.source_machine.proofs.calm_laws.rows.Goals as goal

pub returns-clause-tame : goal.returns-clause-tame
returns-clause-tame c = rows.tame_rows

pub returns-clause-plain : goal.returns-clause-plain
returns-clause-plain c = rows.plain_rows

pub returns-clause-raises_in_filters : goal.returns-clause-raises_in_filters
returns-clause-raises_in_filters c = rows.raises_in_filters

pub returns-clause-raises_in_vectored : goal.returns-clause-raises_in_vectored
returns-clause-raises_in_vectored c = rows.raises_in_vectored

pub returns-clause-raises_in_finallys : goal.returns-clause-raises_in_finallys
returns-clause-raises_in_finallys c = rows.raises_in_finallys

pub returns-clause-flag_one_at_return : goal.returns-clause-flag_one_at_return
returns-clause-flag_one_at_return c = rows.flag_one_at_return

pub returns-clause-flag_zero_at_end : goal.returns-clause-flag_zero_at_end
returns-clause-flag_zero_at_end c = rows.flag_zero_at_end

pub returns-clause-flag_zero_at_leave : goal.returns-clause-flag_zero_at_leave
returns-clause-flag_zero_at_leave c = rows.flag_zero_at_leave
