-- What the functions of the live activations represent.
use Rattle.std.specs.Prelude.{ℕ, List, map}
use Rattle.source_steps.specs.declared.functions.LiveFunctions.{LiveFunctions}

abbrev pub numbers_of : LiveFunctions → List ℕ
numbers_of functions = map (λ f. f.value) functions.numbers.items
