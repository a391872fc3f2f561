-- Which tokens begin a program, and where a list of tokens first doesn't.
--
-- The main definitions: `Viable`, `IsSyntaxFault`.
use Rattle.std.specs.Prelude.{◌≡◌, ℕ, suc, List, [], ◌∷◌, ◌++◌}
use Rattle.c_lex.specs.declared.token.Token.{Token}
use Rattle.c_syntax.specs.Faults.{place}
use Rattle.c_syntax.specs.Limits.{every_limit, WithinFirst, Within}
use Rattle.c_syntax.specs.Program.{ExternalDeclaration}
use Rattle.c_syntax.specs.Programs.{IsProgram}

-- some program within the first n limits begins with these tokens, in some text that continues this
-- one. Names are read from the text, so that a program that continues may have names that the text
-- hasn't.
pub record Viable (n : ℕ) (text : List ℕ) (front : List Token) : Type 0 where
  pub beyond : List ℕ
  pub more : List Token
  pub program : List ExternalDeclaration
  pub derives : IsProgram (text ++ beyond) program (front ++ more)
  pub within : WithinFirst n (text ++ beyond) program

-- It begins with the first token of the others too; where there is none, the tokens are a program.
abbrev pub ContinuesWithin : ℕ → List ℕ → List Token → List Token → Type 0
ContinuesWithin n text front [] =
    (xs : List ExternalDeclaration) × IsProgram text xs front × WithinFirst n text xs
ContinuesWithin n text front (t ∷ ts) = Viable n text (front ++ t ∷ [])

-- the first fault. What is before the place is Viable with all limits. With the token there it
-- isn't with the first n, though it is with one limit fewer; at the end of the text the tokens are
-- no program. With n = 0 no program continues at all: the refusal is Unexpected; with 1 it is
-- TooDeep, and above TooMany. `OneFirstFault` says that tokens have one at most, of one kind, and
-- `NoFaultInProgram` that those of a program within the limits have none. `ProgramOrFault` (crate
-- `c_parse`) says that no tokens are neither such a program nor have a fault.
pub record IsSyntaxFault (n at : ℕ) (text : List ℕ) (ts : List Token) : Type 0 where
  pub front : List Token
  pub fault : List Token
  pub split : ts ≡ front ++ fault
  pub located : at ≡ place text fault
  pub viable : Viable every_limit text front
  pub stops : ContinuesWithin n text front fault → ⊥
  pub fewer : (k : ℕ) → n ≡ suc k → ContinuesWithin k text front fault

-- A list of tokens has one first fault at most, of one kind.
abbrev pub OneFirstFault : Type 0
OneFirstFault =
    (text : List ℕ) (ts : List Token) (n m at to : ℕ) → IsSyntaxFault n at text ts
    → IsSyntaxFault m to text ts → (n ≡ m) × (at ≡ to)

-- The tokens of a program within all limits have none.
abbrev pub NoFaultInProgram : Type 0
NoFaultInProgram =
    (text : List ℕ) (ts : List Token) (n at : ℕ) (xs : List ExternalDeclaration)
    → IsSyntaxFault n at text ts → IsProgram text xs ts → Within text xs → ⊥
