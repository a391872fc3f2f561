-- Parts of statements with what ends them; that none is at the front; and that tokens are such a
-- part, whatever follows. The first n limits are in force.
use Rattle.std.specs.Prelude.{◌≡◌, ◌≤◌, ◌⊎◌, ℕ, List, [], ◌++◌, length, Option, Some}
use Rattle.c_lex.specs.declared.punctuator.Punctuator.{Punctuator}
use Rattle.c_lex.specs.declared.punctuator.Punctuator.TheVariants as punctuators
use Rattle.c_lex.specs.declared.token.Token.{Token}
use Rattle.c_syntax.specs.declared.declaration.Length.{Length}
use Rattle.c_syntax.specs.declared.expression.Base.{Base}
use Rattle.c_syntax.specs.declared.limit.Count.TheVariants.{Locals, ArrayBytes}
use Rattle.c_syntax.specs.declared.limit.TheConstants.{MOST_EXPRESSIONS, MOST_ARRAY_BYTES}
use Rattle.c_syntax.specs.Expression.{Expression, height}
use Rattle.c_syntax.specs.Expressions.{IsInteger}
use Rattle.c_syntax.specs.Follow.{Stops}
use Rattle.c_syntax.specs.Limits.{Nesting, Number, IsInForce, height_of, one_over, height_of_locals, one_over_locals, height_of_for_initialiser, locals_of_for_initialiser, end_of_local, end_of_locals, end_of_for_initialiser}
use Rattle.c_syntax.specs.Operators.{assignment}
use Rattle.c_syntax.specs.Phrases.{InTurn}
use Rattle.c_syntax.specs.Statement.{Local, ForInitialiser}
use Rattle.c_syntax.specs.Statements.{IsLength, IsInitialiser, IsLocal, AreMoreLocals, AreLocals, IsDeclaration, IsUpTo, IsCondition, IsForInitialiser}
use Rattle.c_syntax.specs.Tokens.{Phrase, HasPunctuator}
use Rattle.c_parse_stmt.specs.ArrayBytes.{bytes_so_far}
use Rattle.c_parse_stmt.specs.declared.remaining.Remaining.{Remaining}

-- ---- a punctuator

abbrev pub NoPunctuator : Punctuator → ℕ → List ℕ → List Token → Type 0
NoPunctuator punctuator n text ts = (end : List Token) → HasPunctuator punctuator ts end → ⊥

abbrev pub APunctuator : Punctuator → ℕ → List ℕ → List Token → Type 0
APunctuator punctuator n text ts =
    (other : List Token) → HasPunctuator punctuator (ts ++ other) other

-- ---- expressions

abbrev pub NoCondition : ℕ → List ℕ → List Token → Type 0
NoCondition n text ts =
    (e : Expression) (end : List Token) → IsCondition text e ts end
    → (IsInForce Nesting n → height e ≤ MOST_EXPRESSIONS) → ⊥

pub record HasCondition (n : ℕ) (text : List ℕ) (ts : List Token) : Type 0 where
  pub tree : Expression
  pub is : (other : List Token) → IsCondition text tree (ts ++ other) other
  pub low : IsInForce Nesting n → height tree ≤ MOST_EXPRESSIONS

abbrev pub NoneUpTo : Punctuator → ℕ → ℕ → List ℕ → List Token → Type 0
NoneUpTo punctuator room n text ts =
    (e : Option Expression) (end : List Token) → IsUpTo text punctuator e ts end
    → (IsInForce Nesting n → height_of e ≤ MOST_EXPRESSIONS)
    → (IsInForce Nesting n → one_over e ≤ room) → ⊥

pub record HasUpTo (punctuator : Punctuator) (room n : ℕ) (text : List ℕ)
    (ts : List Token) : Type 0 where
  pub tree : Option Expression
  pub is : (other : List Token) → IsUpTo text punctuator tree (ts ++ other) other
  pub low : IsInForce Nesting n → height_of tree ≤ MOST_EXPRESSIONS
  pub over : IsInForce Nesting n → one_over tree ≤ room

-- ---- locals

abbrev pub NoInitialiser : ℕ → ℕ → List ℕ → List Token → Type 0
NoInitialiser room n text ts =
    (e : Option Expression) (end : List Token) → IsInitialiser text e ts end → Stops assignment end
    → (IsInForce Nesting n → height_of e ≤ MOST_EXPRESSIONS)
    → (IsInForce Nesting n → one_over e ≤ room) → ⊥

pub record HasInitialiser (room n : ℕ) (text : List ℕ) (ts : List Token) : Type 0 where
  pub tree : Option Expression
  pub is : (other : List Token) → IsInitialiser text tree (ts ++ other) other
  pub low : IsInForce Nesting n → height_of tree ≤ MOST_EXPRESSIONS
  pub over : IsInForce Nesting n → one_over tree ≤ room

-- after `[`
abbrev pub IsBracketed : Length → Phrase
IsBracketed n = InTurn (IsInteger n.value n.at) (HasPunctuator punctuators.CloseBracket)

-- an array of this type is placed after so many bytes of others
abbrev pub NoneBracketed : Base → ℕ → ℕ → ℕ → List ℕ → List Token → Type 0
NoneBracketed base pointers at n text ts =
    (l : Length) (end : List Token) → IsBracketed l ts end
    → (IsInForce (Number ArrayBytes) n
    → end_of_local base pointers (Some l) at ≤ MOST_ARRAY_BYTES) → ⊥

pub record HasBracketed (base : Base) (pointers at n : ℕ) (text : List ℕ)
    (ts : List Token) : Type 0 where
  pub tree : Length
  pub is : (other : List Token) → IsBracketed tree (ts ++ other) other
  pub low : IsInForce (Number ArrayBytes) n
      → end_of_local base pointers (Some tree) at ≤ MOST_ARRAY_BYTES

-- what is after the name of a local: its length and its initialiser
pub record IsAfterName (text : List ℕ) (l : Option Length) (e : Option Expression)
    (ts rest : List Token) : Type 0 where
  pub after_length : List Token
  pub length : IsLength l ts after_length
  pub initialiser : IsInitialiser text e after_length rest

-- The length counts, and what is after it only has to be there.
abbrev pub NoLength : Base → ℕ → ℕ → ℕ → List ℕ → List Token → Type 0
NoLength base pointers at n text ts =
    (l : Option Length) (e : Option Expression) (end : List Token) → IsAfterName text l e ts end
    → Stops assignment end
    → (IsInForce (Number ArrayBytes) n → end_of_local base pointers l at ≤ MOST_ARRAY_BYTES) → ⊥

pub record HasLength (base : Base) (pointers at n : ℕ) (text : List ℕ)
    (ts : List Token) : Type 0 where
  pub tree : Length
  pub is : (other : List Token) → IsLength (Some tree) (ts ++ other) other
  pub low : IsInForce (Number ArrayBytes) n
      → end_of_local base pointers (Some tree) at ≤ MOST_ARRAY_BYTES

abbrev pub NoLocal : Base → ℕ → ℕ → ℕ → List ℕ → List Token → Type 0
NoLocal base at room n text ts =
    (l : Local) (end : List Token) → IsLocal text l ts end → Stops assignment end
    → (IsInForce Nesting n → height_of l.initialiser ≤ MOST_EXPRESSIONS)
    → (IsInForce Nesting n → one_over l.initialiser ≤ room)
    → (IsInForce (Number ArrayBytes) n
    → end_of_local base l.pointers l.length at ≤ MOST_ARRAY_BYTES) → ⊥

pub record HasLocal (base : Base) (at room n : ℕ) (text : List ℕ) (ts : List Token) : Type 0 where
  pub tree : Local
  pub is : (other : List Token) → IsLocal text tree (ts ++ other) other
  pub low : IsInForce Nesting n → height_of tree.initialiser ≤ MOST_EXPRESSIONS
  pub over : IsInForce Nesting n → one_over tree.initialiser ≤ room
  pub bytes : IsInForce (Number ArrayBytes) n
      → end_of_local base tree.pointers tree.length at ≤ MOST_ARRAY_BYTES

-- at most so many, with not too many expressions around each expression, and one statement where
-- there may be one; and the arrays among them end within their bytes
pub record LocalsWithin (base : Base) (n room : ℕ) (left : Remaining)
    (ls : List Local) : Type 0 where
  pub expressions : IsInForce Nesting n → height_of_locals ls ≤ MOST_EXPRESSIONS
  pub statements : IsInForce Nesting n → one_over_locals ls ≤ room
  pub count : IsInForce (Number Locals) n → length ls ≤ left.locals
  pub bytes : IsInForce (Number ArrayBytes) n
      → end_of_locals base ls (bytes_so_far left.bytes) ≤ MOST_ARRAY_BYTES

abbrev pub NoMoreLocals : Base → ℕ → Remaining → ℕ → List ℕ → List Token → Type 0
NoMoreLocals base room left n text ts =
    (ls : List Local) (end : List Token) → AreMoreLocals text ls ts end
    → LocalsWithin base n room left ls → ⊥

abbrev pub NoLocals : Base → ℕ → Remaining → ℕ → List ℕ → List Token → Type 0
NoLocals base room left n text ts =
    (ls : List Local) (end : List Token) → AreLocals text ls ts end
    → LocalsWithin base n room left ls → ⊥

pub record HasLocals (base : Base) (room : ℕ) (left : Remaining) (n : ℕ) (text : List ℕ)
    (ts : List Token) : Type 0 where
  pub trees : List Local
  pub are : (other : List Token) → AreLocals text trees (ts ++ other) other
  pub within : LocalsWithin base n room left trees

abbrev pub NoDeclaration : ℕ → Remaining → ℕ → List ℕ → List Token → Type 0
NoDeclaration room left n text ts =
    (base : Base) (ls : List Local) (end : List Token) → IsDeclaration text base ls ts end
    → LocalsWithin base n room left ls → ⊥

pub record ADeclaration (room : ℕ) (left : Remaining) (n : ℕ) (text : List ℕ)
    (ts : List Token) : Type 0 where
  pub base : Base
  pub trees : List Local
  pub is : (other : List Token) → IsDeclaration text base trees (ts ++ other) other
  pub within : LocalsWithin base n room left trees

-- something else may take its place: where no local is left, there is no declaration
abbrev pub HasDeclaration : ℕ → Remaining → ℕ → List ℕ → List Token → Type 0
HasDeclaration room left n text ts = (ts ≡ []) ⊎ ADeclaration room left n text ts

abbrev pub NoForInitialiser : Remaining → ℕ → List ℕ → List Token → Type 0
NoForInitialiser left n text ts =
    (f : ForInitialiser) (end : List Token) → IsForInitialiser text f ts end
    → (IsInForce Nesting n → height_of_for_initialiser f ≤ MOST_EXPRESSIONS)
    → (IsInForce (Number Locals) n → locals_of_for_initialiser f ≤ left.locals)
    → (IsInForce (Number ArrayBytes) n
    → end_of_for_initialiser f (bytes_so_far left.bytes) ≤ MOST_ARRAY_BYTES) → ⊥

pub record HasForInitialiser (left : Remaining) (n : ℕ) (text : List ℕ)
    (ts : List Token) : Type 0 where
  pub tree : ForInitialiser
  pub is : (other : List Token) → IsForInitialiser text tree (ts ++ other) other
  pub low : IsInForce Nesting n → height_of_for_initialiser tree ≤ MOST_EXPRESSIONS
  pub count : IsInForce (Number Locals) n → locals_of_for_initialiser tree ≤ left.locals
  pub bytes : IsInForce (Number ArrayBytes) n
      → end_of_for_initialiser tree (bytes_so_far left.bytes) ≤ MOST_ARRAY_BYTES
