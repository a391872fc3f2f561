-- The grammar of statements, one case for each production (C11, 6.8 and annex A.2.3; Microsoft C
-- reference, "try-except statement", "try-finally statement").
--
-- `IsBlockItem`, `IsExternalDeclaration`, `IsProgram`: a case for each production (C11, annexes
-- A.2.2 to A.2.4; Microsoft C reference, "try-except statement", "try-finally statement").
use Rattle.std.specs.Prelude.{◌≡◌, ℕ, Bool, true, false, List, Option, Some, None, IsFalse}
use Rattle.c_lex.specs.declared.keyword.Keyword.{Keyword}
use Rattle.c_lex.specs.declared.keyword.Keyword.TheVariants as keywords
use Rattle.c_lex.specs.declared.punctuator.Punctuator.{Punctuator}
use Rattle.c_lex.specs.declared.punctuator.Punctuator.TheVariants as punctuators
use Rattle.c_lex.specs.declared.token.Token.{Token}
use Rattle.c_syntax.specs.declared.declaration.Length.{Length}
use Rattle.c_syntax.specs.declared.expression.Base.{Base}
use Rattle.c_syntax.specs.Expression.{Expression}
use Rattle.c_syntax.specs.Expressions.{Derives, IsInteger}
use Rattle.c_syntax.specs.Operators.{assignment, comma}
use Rattle.c_syntax.specs.Phrases.{InTurn, IsEnclosed, AreMore, AreSeparated}
use Rattle.c_syntax.specs.Statement.{Local, ForInitialiser, Declaring, Evaluating, Statement}
use Rattle.c_syntax.specs.Statement.{Declare, Block, Evaluate, If, IfElse, While, DoWhile, For}
use Rattle.c_syntax.specs.Statement.{Return, Break, Continue, Leave, TryExcept, TryFinally}
use Rattle.c_syntax.specs.Statement.{Statements, Empty, Then}
use Rattle.c_syntax.specs.Tokens.{Phrase, IsIdentifier, IsKeyword, HasPunctuator, HasKeyword}
use Rattle.c_syntax.specs.Types.{IsBase, AreStars}

-- ---- declarations

abbrev pub IsLength : Option Length → Phrase
IsLength None ts rest = ts ≡ rest
IsLength (Some n) ts rest =
    IsEnclosed (HasPunctuator punctuators.OpenBracket) (IsInteger n.value n.at)
    punctuators.CloseBracket ts rest

abbrev pub IsInitialiser : List ℕ → Option Expression → Phrase
IsInitialiser text None ts rest = ts ≡ rest
IsInitialiser text (Some e) ts rest =
    InTurn (HasPunctuator punctuators.Assign) (Derives text assignment e) ts rest

pub record IsLocal (text : List ℕ) (l : Local) (ts rest : List Token) : Type 0 where
  pub after_stars : List Token
  pub after_name : List Token
  pub after_length : List Token
  pub stars : AreStars l.pointers ts after_stars
  pub name : IsIdentifier l.name after_stars after_name
  pub length : IsLength l.length after_name after_length
  pub initialiser : IsInitialiser text l.initialiser after_length rest

-- further locals, and the semicolon
abbrev pub AreMoreLocals : List ℕ → List Local → Phrase
AreMoreLocals text = AreMore (IsLocal text) punctuators.Semicolon

abbrev pub AreLocals : List ℕ → List Local → Phrase
AreLocals text = AreSeparated (IsLocal text) punctuators.Semicolon

abbrev pub IsDeclaration : List ℕ → Base → List Local → Phrase
IsDeclaration text base ls = InTurn (IsBase base) (AreLocals text ls)

-- ---- parts of statements

abbrev pub IsOptional : List ℕ → Option Expression → Phrase
IsOptional text None ts rest = ts ≡ rest
IsOptional text (Some e) ts rest = Derives text comma e ts rest

-- an optional expression, and the punctuator that ends it
abbrev pub IsUpTo : List ℕ → Punctuator → Option Expression → Phrase
IsUpTo text end e = InTurn (IsOptional text e) (HasPunctuator end)

abbrev pub IsCondition : List ℕ → Expression → Phrase
IsCondition text e =
    IsEnclosed (HasPunctuator punctuators.OpenParenthesis) (Derives text comma e)
    punctuators.CloseParenthesis

abbrev pub IsForInitialiser : List ℕ → ForInitialiser → Phrase
IsForInitialiser text (Declaring base ls) = IsDeclaration text base ls
IsForInitialiser text (Evaluating e) = IsUpTo text punctuators.Semicolon e

-- a declaration is in a block alone, and is no statement
abbrev pub is_declaration : Statement → Bool
is_declaration (Declare base ls) = true
is_declaration (Block ss) = false
is_declaration (Evaluate e) = false
is_declaration (If at c s) = false
is_declaration (IfElse at c s t) = false
is_declaration (While at c s) = false
is_declaration (DoWhile s at c) = false
is_declaration (For at f c n s) = false
is_declaration (Return at e) = false
is_declaration (Break at) = false
is_declaration (Continue at) = false
is_declaration (Leave at) = false
is_declaration (TryExcept b at f h) = false
is_declaration (TryFinally b at l) = false

-- An `else` belongs to the nearest `if` (C11, 6.8.4.1): before it is no statement that ends with
-- an `if` without one.
abbrev pub dangles : Statement → Bool
dangles (Declare base ls) = false
dangles (Block ss) = false
dangles (Evaluate e) = false
dangles (If at c s) = true
dangles (IfElse at c s t) = dangles t
dangles (While at c s) = dangles s
dangles (DoWhile s at c) = false
dangles (For at f c n s) = dangles s
dangles (Return at e) = false
dangles (Break at) = false
dangles (Continue at) = false
dangles (Leave at) = false
dangles (TryExcept b at f h) = false
dangles (TryFinally b at l) = false

-- ---- what statements are made of: each phrase in its place

-- a statement is an item of a block, and no declaration
pub record IsStatement (s : Statement) (Item : Phrase) (ts rest : List Token) : Type 0 where
  pub no_declaration : IsFalse (is_declaration s)
  pub item : Item ts rest

-- a brace, and items with the brace that ends them
pub record IsBlock (Items : Phrase) (ts rest : List Token) : Type 0 where
  pub after_brace : List Token
  pub brace : HasPunctuator punctuators.OpenBrace ts after_brace
  pub items : Items after_brace rest

-- `if` without `else`, and `while`
pub record IsConditional (k : Keyword) (at : ℕ) (Condition Body : Phrase)
    (ts rest : List Token) : Type 0 where
  pub after_keyword : List Token
  pub after_condition : List Token
  pub keyword : IsKeyword k at ts after_keyword
  pub condition : Condition after_keyword after_condition
  pub body : Body after_condition rest

pub record IsIfElse (at : ℕ) (s : Statement) (Condition Body Other : Phrase)
    (ts rest : List Token) : Type 0 where
  pub after_if : List Token
  pub after_condition : List Token
  pub after_body : List Token
  pub after_else : List Token
  pub keyword : IsKeyword keywords.If at ts after_if
  pub condition : Condition after_if after_condition
  pub complete : IsFalse (dangles s)
  pub body : Body after_condition after_body
  pub else_keyword : HasKeyword keywords.Else after_body after_else
  pub else_body : Other after_else rest

pub record IsDoWhile (at : ℕ) (Body Condition : Phrase) (ts rest : List Token) : Type 0 where
  pub after_do : List Token
  pub after_body : List Token
  pub after_while : List Token
  pub after_condition : List Token
  pub do_keyword : HasKeyword keywords.Do ts after_do
  pub body : Body after_do after_body
  pub keyword : IsKeyword keywords.While at after_body after_while
  pub condition : Condition after_while after_condition
  pub semicolon : HasPunctuator punctuators.Semicolon after_condition rest

-- `for`, up to its closing parenthesis
pub record IsForHead (at : ℕ) (First Condition Next : Phrase)
    (ts rest : List Token) : Type 0 where
  pub after_keyword : List Token
  pub after_opening : List Token
  pub after_first : List Token
  pub after_condition : List Token
  pub keyword : IsKeyword keywords.For at ts after_keyword
  pub opening : HasPunctuator punctuators.OpenParenthesis after_keyword after_opening
  pub first : First after_opening after_first
  pub condition : Condition after_first after_condition
  pub next : Next after_condition rest

pub record IsFor (at : ℕ) (First Condition Next Body : Phrase)
    (ts rest : List Token) : Type 0 where
  pub after_head : List Token
  pub head : IsForHead at First Condition Next ts after_head
  pub open head use *
  pub body : Body after_head rest

pub record IsTryExcept (at : ℕ) (Body Filter Handler : Phrase)
    (ts rest : List Token) : Type 0 where
  pub after_try : List Token
  pub after_body : List Token
  pub after_except : List Token
  pub after_filter : List Token
  pub try_keyword : HasKeyword keywords.Try ts after_try
  pub body : Body after_try after_body
  pub keyword : IsKeyword keywords.Except at after_body after_except
  pub filter : Filter after_except after_filter
  pub handler : Handler after_filter rest

pub record IsTryFinally (at : ℕ) (Body Last : Phrase) (ts rest : List Token) : Type 0 where
  pub after_try : List Token
  pub after_body : List Token
  pub after_finally : List Token
  pub try_keyword : HasKeyword keywords.Try ts after_try
  pub body : Body after_try after_body
  pub keyword : IsKeyword keywords.Finally at after_body after_finally
  pub last : Last after_finally rest

-- a keyword, and the semicolon
abbrev pub IsJump : Keyword → ℕ → Phrase
IsJump k at = InTurn (IsKeyword k at) (HasPunctuator punctuators.Semicolon)

-- ---- statements

-- The tokens before the rest are the statement, or the declaration.
abbrev mutual
  pub IsBlockItem : List ℕ → Statement → Phrase
  IsBlockItem text (Declare base ls) = IsDeclaration text base ls
  IsBlockItem text (Block ss) = IsBlock (AreBlockItems text ss)
  IsBlockItem text (Evaluate e) = IsUpTo text punctuators.Semicolon e
  IsBlockItem text (If at c s) =
      IsConditional keywords.If at (IsCondition text c) (IsStatement s (IsBlockItem text s))
  IsBlockItem text (IfElse at c s t) =
      IsIfElse at s (IsCondition text c) (IsStatement s (IsBlockItem text s))
      (IsStatement t (IsBlockItem text t))
  IsBlockItem text (While at c s) =
      IsConditional keywords.While at (IsCondition text c) (IsStatement s (IsBlockItem text s))
  IsBlockItem text (DoWhile s at c) =
      IsDoWhile at (IsStatement s (IsBlockItem text s)) (IsCondition text c)
  IsBlockItem text (For at f c n s) =
      IsFor at (IsForInitialiser text f) (IsUpTo text punctuators.Semicolon c)
      (IsUpTo text punctuators.CloseParenthesis n) (IsStatement s (IsBlockItem text s))
  IsBlockItem text (Return at e) =
      InTurn (IsKeyword keywords.Return at) (IsUpTo text punctuators.Semicolon e)
  IsBlockItem text (Break at) = IsJump keywords.Break at
  IsBlockItem text (Continue at) = IsJump keywords.Continue at
  IsBlockItem text (Leave at) = IsJump keywords.Leave at
  IsBlockItem text (TryExcept body at f handler) =
      IsTryExcept at (IsBlock (AreBlockItems text body)) (IsCondition text f)
      (IsBlock (AreBlockItems text handler))
  IsBlockItem text (TryFinally body at finally_block) =
      IsTryFinally at (IsBlock (AreBlockItems text body))
      (IsBlock (AreBlockItems text finally_block))

  -- the items of a block, and the brace that ends it
  pub AreBlockItems : List ℕ → Statements → Phrase
  AreBlockItems text Empty = HasPunctuator punctuators.CloseBrace
  AreBlockItems text (Then s ss) = InTurn (IsBlockItem text s) (AreBlockItems text ss)
