-- What is claimed of every text that is a list of external declarations.
use Rattle.std.specs.Prelude.{ℕ, ◌+◌, ◌*◌, ◌≤◌, List}
use Rattle.c_syntax.specs.Program.{ExternalDeclaration}
use Rattle.c_syntax.specs.Nodes.{nodes_of}
use Rattle.c_resolved.specs.Program.{resolve}
use Rattle.text_bounds.specs.Weights.{Weights, NodesAdd, StatementsAdd, FunctionsAdd}

-- a local is declared by a node, for which its function may weigh 1 more
abbrev pub WeightIsBounded : Type 0
WeightIsBounded =
    (w : Weights) → NodesAdd w → StatementsAdd w → FunctionsAdd w
    → (text : List ℕ) (xs : List ExternalDeclaration)
    → w.functions (resolve text xs).program.functions ≤ (w.each + 1) * nodes_of xs
