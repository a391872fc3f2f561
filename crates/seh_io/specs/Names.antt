-- The names of functions, by their numbers.
use Rattle.std.specs.Prelude.{ℕ, List, Option, None}
use Rattle.seh_io.specs.declared.names.NoNames.{NoNames}

-- no number has a name
abbrev pub no_names : ℕ → Option (List ℕ)
no_names number = None

-- what `NoNames` names
abbrev pub none_named : NoNames → ℕ → Option (List ℕ)
none_named names = no_names
