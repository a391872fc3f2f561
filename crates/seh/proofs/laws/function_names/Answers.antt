use Rattle.seh.proofs.FunctionNames.{names_are_there, others_show_no_walk}
use Rattle.seh.proofs.laws.function_names.Goals as goal

pub returns : goal.returns
returns c = record { there = names_are_there; others = others_show_no_walk }
