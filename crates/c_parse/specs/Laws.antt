-- What holds of each list of tokens.
use Rattle.std.specs.Prelude.{ℕ, List}
use Rattle.c_lex.specs.declared.token.Token.{Token}
use Rattle.c_syntax.specs.Limits.{Within}
use Rattle.c_syntax.specs.Program.{ExternalDeclaration}
use Rattle.c_syntax.specs.Programs.{IsProgram}
use Rattle.c_syntax.specs.Viable.{IsSyntaxFault}

-- the tokens are those of no program within all limits
abbrev pub IsNoProgram : List ℕ → List Token → Type 0
IsNoProgram text ts = (xs : List ExternalDeclaration) → IsProgram text xs ts → Within text xs → ⊥

-- the tokens have no first fault
abbrev pub HasNoFault : List ℕ → List Token → Type 0
HasNoFault text ts = (n at : ℕ) → IsSyntaxFault n at text ts → ⊥

-- No tokens are neither a program within the limits nor have a first fault.
abbrev pub ProgramOrFault : Type 0
ProgramOrFault = (text : List ℕ) (ts : List Token) → IsNoProgram text ts → HasNoFault text ts → ⊥
