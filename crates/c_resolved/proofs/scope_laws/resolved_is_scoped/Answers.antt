use Rattle.c_resolved.proofs.ProgramScopes as lemma
use Rattle.c_resolved.proofs.scope_laws.resolved_is_scoped.Goals as goal

pub returns : goal.returns
returns c = record { scoped = lemma.resolved_is_scoped }
