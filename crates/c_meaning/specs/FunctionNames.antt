-- The names of a program's functions, numbered from 1 in the order of their definitions.
--
-- The main definition: `names_of`.
use Rattle.std.specs.Prelude.{ℕ, zero, suc, List, slice_get, Option, None, option_map}
use Rattle.c_checked.specs.Program.{Program}
use Rattle.c_checked.specs.Whole as whole
use Rattle.c_meaning.specs.declared.function_names.FunctionNames.{FunctionNames}

-- the names of a program's functions, numbered from 1
abbrev pub names_of : Program → ℕ → Option (List ℕ)
names_of program zero = None
names_of program (suc number) = option_map (λ f. f.name) (slice_get program.functions number)

-- what `FunctionNames` names
abbrev pub named_by : FunctionNames → ℕ → Option (List ℕ)
named_by names = names_of (whole.program names.program.now)
