-- Parts of external declarations; that none is at the front; and that tokens are such a part,
-- whatever follows. The first n limits are in force.
use Rattle.std.specs.Prelude.{◌≤◌, ◌+◌, ◌*◌, ◌⊎◌, ℕ, List, length, ◌∷◌, ◌++◌, Option, Some}
use Rattle.c_lex.specs.declared.punctuator.Punctuator.TheVariants as punctuators
use Rattle.c_lex.specs.declared.keyword.Keyword.TheVariants as keywords
use Rattle.c_lex.specs.declared.token.Token.{Token}
use Rattle.c_syntax.specs.declared.declaration.Constant.{Constant}
use Rattle.c_syntax.specs.declared.declaration.Length.{Length}
use Rattle.c_syntax.specs.declared.declaration.Parameter.{Parameter}
use Rattle.c_syntax.specs.declared.expression.Base.{Base}
use Rattle.c_syntax.specs.declared.expression.Identifier.{Identifier}
use Rattle.c_syntax.specs.declared.limit.Count.TheVariants.{Parameters, Globals, Funclets}
use Rattle.c_syntax.specs.declared.limit.TheConstants.{MOST_GLOBALS, MOST_PARAMETERS}
use Rattle.c_syntax.specs.Follow.{Stops}
use Rattle.c_syntax.specs.Limits.{Number, IsInForce, FunctionWithinFirst, size, elements, aligned}
use Rattle.c_syntax.specs.Limits.{end_of_globals, funclets_of_all}
use Rattle.c_syntax.specs.Operators.{postfix, assignment}
use Rattle.c_syntax.specs.Phrases.{InTurn}
use Rattle.c_syntax.specs.Program.{Initialiser, Single, Several, Global}
use Rattle.c_syntax.specs.Programs.{IsConstant, AreConstants, IsInitialiser}
use Rattle.c_syntax.specs.Programs.{AreMoreGlobals, AreGlobals, IsParameter, AreParameters}
use Rattle.c_syntax.specs.Statement.{Statements}
use Rattle.c_syntax.specs.Statements.{IsLength, IsBlock, AreBlockItems}
use Rattle.c_syntax.specs.Tokens.{Phrase, IsPunctuator, IsIdentifier, HasPunctuator, HasKeyword}
use Rattle.c_syntax.specs.Types.{IsBase, AreStars}
use Rattle.c_parse_stmt.specs.Parts.{IsBracketed}

-- ---- initialisers

abbrev pub NoConstant : ℕ → List ℕ → List Token → Type 0
NoConstant n text ts = (c : Constant) (end : List Token) → IsConstant c ts end → ⊥

pub record HasConstant (n : ℕ) (text : List ℕ) (ts : List Token) : Type 0 where
  pub tree : Constant
  pub is : (other : List Token) → IsConstant tree (ts ++ other) other

abbrev pub NoConstants : ℕ → List ℕ → List Token → Type 0
NoConstants n text ts = (cs : List Constant) (end : List Token) → AreConstants cs ts end → ⊥

pub record HasConstants (n : ℕ) (text : List ℕ) (ts : List Token) : Type 0 where
  pub trees : List Constant
  pub are : (other : List Token) → AreConstants trees (ts ++ other) other

-- what is after `=`
abbrev pub IsGiven : Initialiser → Phrase
IsGiven (Single c) = IsConstant c
IsGiven (Several at cs) = InTurn (IsPunctuator punctuators.OpenBrace at) (AreConstants cs)

abbrev pub NoneGiven : ℕ → List ℕ → List Token → Type 0
NoneGiven n text ts = (i : Initialiser) (end : List Token) → IsGiven i ts end → ⊥

pub record HasGiven (n : ℕ) (text : List ℕ) (ts : List Token) : Type 0 where
  pub tree : Initialiser
  pub is : (other : List Token) → IsGiven tree (ts ++ other) other

abbrev pub NoInitialiser : ℕ → List ℕ → List Token → Type 0
NoInitialiser n text ts =
    (i : Option Initialiser) (end : List Token) → IsInitialiser i ts end → Stops assignment end → ⊥

pub record HasInitialiser (n : ℕ) (text : List ℕ) (ts : List Token) : Type 0 where
  pub tree : Option Initialiser
  pub is : (other : List Token) → IsInitialiser tree (ts ++ other) other

-- ---- globals

-- where a global ends that is placed after the bytes of others
abbrev pub end_of : Base → ℕ → Option Length → ℕ → ℕ
end_of base pointers n at = aligned at (size base pointers) + size base pointers * elements n

abbrev pub NoneBracketed : Base → ℕ → ℕ → ℕ → List ℕ → List Token → Type 0
NoneBracketed base pointers at n text ts =
    (l : Length) (end : List Token) → IsBracketed l ts end → Stops postfix end
    → (IsInForce (Number Globals) n → end_of base pointers (Some l) at ≤ MOST_GLOBALS) → ⊥

pub record HasBracketed (base : Base) (pointers at n : ℕ) (text : List ℕ)
    (ts : List Token) : Type 0 where
  pub tree : Length
  pub is : (other : List Token) → IsBracketed tree (ts ++ other) other
  pub low : IsInForce (Number Globals) n → end_of base pointers (Some tree) at ≤ MOST_GLOBALS

-- what is after the name of a global, up to the semicolon: its length and its initialiser, and
-- further globals
pub record IsAfterName (l : Option Length) (i : Option Initialiser) (gs : List Global)
    (ts rest : List Token) : Type 0 where
  pub after_length : List Token
  pub after_initialiser : List Token
  pub length : IsLength l ts after_length
  pub initialiser : IsInitialiser i after_length after_initialiser
  pub others : AreMoreGlobals gs after_initialiser rest

-- The length counts, and what is after it only has to be there.
abbrev pub NoLength : Base → ℕ → ℕ → ℕ → List ℕ → List Token → Type 0
NoLength base pointers at n text ts =
    (l : Option Length) (i : Option Initialiser) (gs : List Global) (end : List Token)
    → IsAfterName l i gs ts end → (IsInForce (Number Globals) n
    → end_of base pointers l at ≤ MOST_GLOBALS) → ⊥

pub record HasLength (base : Base) (pointers at n : ℕ) (text : List ℕ)
    (ts : List Token) : Type 0 where
  pub length : Option Length
  pub initialiser : Option Initialiser
  pub others : List Global
  pub is : (other : List Token) → IsAfterName length initialiser others (ts ++ other) other
  pub low : IsInForce (Number Globals) n
      → end_of_globals base others (end_of base pointers length at) ≤ MOST_GLOBALS

-- a punctuator that is after the name of a scalar
abbrev pub EndsScalar : List Token → Type 0
EndsScalar ts =
    (rest : List Token) × (HasPunctuator punctuators.Semicolon ts rest
    ⊎ (HasPunctuator punctuators.Comma ts rest ⊎ HasPunctuator punctuators.Assign ts rest))

-- here too, the global counts
abbrev pub NoGlobal : Base → ℕ → ℕ → List ℕ → List Token → Type 0
NoGlobal base at n text ts =
    (g : Global) (gs : List Global) (end : List Token) → AreGlobals (g ∷ gs) ts end
    → (IsInForce (Number Globals) n → end_of base g.pointers g.length at ≤ MOST_GLOBALS) → ⊥

abbrev pub NoGlobals : Base → ℕ → ℕ → List ℕ → List Token → Type 0
NoGlobals base at n text ts =
    (gs : List Global) (end : List Token) → AreGlobals gs ts end
    → (IsInForce (Number Globals) n → end_of_globals base gs at ≤ MOST_GLOBALS) → ⊥

pub record HasGlobals (base : Base) (at n : ℕ) (text : List ℕ) (ts : List Token) : Type 0 where
  pub trees : List Global
  pub are : (other : List Token) → AreGlobals trees (ts ++ other) other
  pub low : IsInForce (Number Globals) n → end_of_globals base trees at ≤ MOST_GLOBALS

-- ---- functions

abbrev pub NoParameter : ℕ → List ℕ → List Token → Type 0
NoParameter n text ts = (p : Parameter) (end : List Token) → IsParameter p ts end → ⊥

pub record HasParameter (n : ℕ) (text : List ℕ) (ts : List Token) : Type 0 where
  pub tree : Parameter
  pub is : (other : List Token) → IsParameter tree (ts ++ other) other

-- `void` before the parenthesis
abbrev pub IsVoid : Phrase
IsVoid = InTurn (HasKeyword keywords.Void) (HasPunctuator punctuators.CloseParenthesis)

-- none but nothing and `void`
abbrev pub NoListed : ℕ → List ℕ → List Token → Type 0
NoListed n text ts =
    (p : Parameter) (ps : List Parameter) (end : List Token) → AreParameters (p ∷ ps) ts end
    → (IsInForce (Number Parameters) n → length (p ∷ ps) ≤ MOST_PARAMETERS) → ⊥

pub record HasListed (n : ℕ) (text : List ℕ) (ts : List Token) : Type 0 where
  pub first : Parameter
  pub others : List Parameter
  pub are : (other : List Token) → AreParameters (first ∷ others) (ts ++ other) other
  pub few : IsInForce (Number Parameters) n → length (first ∷ others) ≤ MOST_PARAMETERS

abbrev pub NoParameters : ℕ → List ℕ → List Token → Type 0
NoParameters n text ts =
    (ps : List Parameter) (end : List Token) → AreParameters ps ts end
    → (IsInForce (Number Parameters) n → length ps ≤ MOST_PARAMETERS) → ⊥

pub record HasParameters (n : ℕ) (text : List ℕ) (ts : List Token) : Type 0 where
  pub trees : List Parameter
  pub are : (other : List Token) → AreParameters trees (ts ++ other) other
  pub few : IsInForce (Number Parameters) n → length trees ≤ MOST_PARAMETERS

-- what is after the name and the parenthesis
pub record IsTail (text : List ℕ) (ps : List Parameter) (items : Statements)
    (ts rest : List Token) : Type 0 where
  pub after_parameters : List Token
  pub parameters : AreParameters ps ts after_parameters
  pub body : IsBlock (AreBlockItems text items) after_parameters rest

abbrev pub NoTail : ℕ → ℕ → List ℕ → List Token → Type 0
NoTail funclets n text ts =
    (ps : List Parameter) (body : Statements) (end : List Token) → IsTail text ps body ts end
    → FunctionWithinFirst n ps body → (IsInForce (Number Funclets) n
    → length (funclets_of_all text body) ≤ funclets) → ⊥

pub record HasTail (funclets n : ℕ) (text : List ℕ) (ts : List Token) : Type 0 where
  pub parameters : List Parameter
  pub body : Statements
  pub is : (other : List Token) → IsTail text parameters body (ts ++ other) other
  pub within : FunctionWithinFirst n parameters body
  pub numbered : IsInForce (Number Funclets) n → length (funclets_of_all text body) ≤ funclets

-- ---- external declarations

-- a base, stars and a name
pub record IsDeclarationHead (b : Base) (pointers : ℕ) (called : Identifier)
    (ts declarators rest : List Token) : Type 0 where
  pub after_stars : List Token
  pub base : IsBase b ts declarators
  pub stars : AreStars pointers declarators after_stars
  pub name : IsIdentifier called after_stars rest

abbrev pub NoHead : ℕ → List ℕ → List Token → Type 0
NoHead n text ts =
    (base : Base) (pointers : ℕ) (name : Identifier) (declarators end : List Token)
    → IsDeclarationHead base pointers name ts declarators end → ⊥

pub record HasHead (n : ℕ) (text : List ℕ) (ts : List Token) : Type 0 where
  pub base : Base
  pub pointers : ℕ
  pub name : Identifier
  pub is : (other : List Token) → (declarators : List Token)
      × IsDeclarationHead base pointers name (ts ++ other) declarators other
