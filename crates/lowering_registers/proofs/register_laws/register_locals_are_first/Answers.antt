use Rattle.lowering_registers.proofs.RegisterLocals.{are_few, are_unshared, are_in_order, are_first, are_all}
use Rattle.lowering_registers.proofs.register_laws.register_locals_are_first.Goals as goal

pub returns-clause-few : goal.returns-clause-few
returns-clause-few c = are_few

pub returns-clause-unshared : goal.returns-clause-unshared
returns-clause-unshared c = are_unshared

pub returns-clause-ordered : goal.returns-clause-ordered
returns-clause-ordered c = are_in_order

pub returns-clause-first : goal.returns-clause-first
returns-clause-first c = are_first

pub returns-clause-all : goal.returns-clause-all
returns-clause-all c = are_all
