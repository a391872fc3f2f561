-- A function with its variables where these stand, wherever it lies in memory.
use Rattle.std.specs.Prelude.{◌≡◌, ℕ, List, ◌++◌, map, option_map}
use Rattle.c_checked.specs.Program.{data_frame_of}
use Rattle.c_checked.specs.Statement.{Statement, statements, statement}
use Rattle.c_operations.specs.declared.operation.Size.{Size}
use Rattle.c_resolved.specs.declared.variable.Variable.{Variable}
use Rattle.c_resolved.specs.Layout as definitions
use Rattle.c_resolved.specs.Layout.{Layout, layout_of, base_local}
use Rattle.c_resolved.specs.Placed.{place_statements}
use Rattle.c_stacked.specs.declared.functions.Placed.{Placed}

abbrev pub layout_in : List Variable → List Statement → Layout
layout_in variables body = layout_of variables (statements body)

pub record IsPlaced (parameters : ℕ) (own : List Size) (l : Layout) (drafted : List Statement)
    (p : Placed) : Type 0 where
  pub locals : p.locals.items ≡ own ++ base_local l
  pub frame : option_map data_frame_of p.data_frame ≡ definitions.data_frame_of parameters l
  pub body : statements (map statement p.body.items) ≡ place_statements l (statements drafted)
