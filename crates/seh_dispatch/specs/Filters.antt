-- Filters that let funclets pass.
use Rattle.std.specs.Prelude.{List}
use Rattle.host_model.specs.declared.funclet.Funclet.{Funclet}
use Rattle.seh_dispatch.specs.declared.filter.FuncletFilter.{FuncletFilter}
use Rattle.seh_dispatch.specs.Marks.{AreMarked}

-- the filter says of no funclet's address that none begins there
abbrev pub Admits : FuncletFilter → List Funclet → Type 0
Admits filter fs = AreMarked filter.marks.items fs
