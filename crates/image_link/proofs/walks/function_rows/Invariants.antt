use Rattle.std.proofs.Common.{◌≡◌, ◌++◌, drop, map}
use Rattle.image_link.specs.Words.{linear_function}
use Rattle.image_link.specs.Walks as spec
use Rattle.image_link.proofs.walks.function_rows.Given as goal

abbrev pub invariant-loop-function : goal.invariant-loop-function
invariant-loop-function l = record {
  done : l.rows.items ++ spec.function_rows l.index l.bounds
      (map linear_function (drop l.function-index l.functions))
      ≡ spec.function_rows 0 l.bounds (map linear_function l.functions);
  at : l.index ≡ l.function-index;
}
