-- What is claimed of every accepted text within the limits and the linear code of its program.
use Rattle.std.specs.Prelude.{◌≤◌, ℕ, ◌*◌, List, length}
use Rattle.std.specs.List.{AllByRecursion}
use Rattle.host_layout.specs.declared.limit.TheConstants.{MOST_TEXT}
use Rattle.c_lex.specs.declared.token.Token.{Token}
use Rattle.c_lex.specs.Text.{IsTokens}
use Rattle.c_syntax.specs.Limits.{Within}
use Rattle.c_syntax.specs.Program.{ExternalDeclaration}
use Rattle.c_syntax.specs.Programs.{IsProgram}
use Rattle.c_syntax.specs.Nodes.{nodes_of}
use Rattle.c_resolved.specs.Accepted.{Accepted}
use Rattle.c_resolved.specs.Program.{resolve}
use Rattle.seh_ir.specs.Lowered.{lowered}
use Rattle.image_link.specs.Fits.{FitsProgram}
use Rattle.image_link.specs.Walks.{IsNamed}
use Rattle.text_bounds.specs.Names.{name_bytes}
use Rattle.text_bounds.specs.Rooms.{functions_room}

-- no text's code takes more than 237 bytes for each of its nodes
abbrev pub CodeIsBounded : Type 0
CodeIsBounded =
    (text : List ℕ) (xs : List ExternalDeclaration)
    → functions_room (resolve text xs).program.functions ≤ 237 * nodes_of xs

-- each accepted text within the limits can be linked, where its nodes, and the bytes of its
-- functions' names, are no more than the bytes of the longest text, and these are names
abbrev pub AcceptedFits : Type 0
AcceptedFits =
    (text : List ℕ) (xs : List ExternalDeclaration) → Within text xs → Accepted text xs
    → nodes_of xs ≤ MOST_TEXT → name_bytes xs ≤ MOST_TEXT
    → AllByRecursion IsNamed (lowered (resolve text xs).program).functions
    → FitsProgram (lowered (resolve text xs).program)

-- the program of tokens of a text
abbrev pub TextsFit : Type 0
TextsFit =
    (text : List ℕ) (tokens : List Token) (xs : List ExternalDeclaration) → IsTokens text tokens
    → IsProgram text xs tokens → Within text xs → Accepted text xs
    → length text ≤ MOST_TEXT → FitsProgram (lowered (resolve text xs).program)
