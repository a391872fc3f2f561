use Rattle.seh.proofs.TamePrograms.{tame_programs_walk, tame_programs_end}
use Rattle.seh.proofs.laws.tame_programs.Goals as goal

pub returns : goal.returns
returns c = record { walk = tame_programs_walk; end = tame_programs_end }
