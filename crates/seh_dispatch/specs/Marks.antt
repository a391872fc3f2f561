-- Marks of the remainders that addresses of funclets have.
use Rattle.std.specs.Prelude.{◌≡◌, ◌%◌, Bool, true, false, List, slice_index_or}
use Rattle.std.specs.List.{All}
use Rattle.host_model.specs.declared.funclet.Funclet.{Funclet}
use Rattle.seh_dispatch.specs.declared.filter.TheConstants.{REMAINDERS}

-- the remainder of each funclet's address is marked
abbrev pub AreMarked : List Bool → List Funclet → Type 0
AreMarked marks fs = All (λ f. slice_index_or marks (f.address % REMAINDERS) false ≡ true) fs
