use Rattle.std.proofs.Common.{◌≡◌, ◌++◌, map, drop}
use Rattle.image_link.specs.Words.{linear_function, linear_funclet, linear_program}
use Rattle.image_link.specs.Routines as spec
use Rattle.image_link.proofs.routine.routines.Given as goal

abbrev pub invariant-loop-function : goal.invariant-loop-function
invariant-loop-function l = record {
  done : l.routines.items ++ spec.functions_from l.program.main l.index
      (map linear_function (drop l.function-index l.program.functions.items))
      ≡ spec.functions_from l.program.main 0 (map linear_function l.program.functions.items);
  at : l.index ≡ l.function-index;
}

abbrev pub invariant-loop-funclet : goal.invariant-loop-funclet
invariant-loop-funclet l = l.routines.items ++ map (spec.funclet (linear_program l.program))
    (map linear_funclet (drop l.funclet-index l.program.funclets.items))
    ≡ spec.routines (linear_program l.program)
