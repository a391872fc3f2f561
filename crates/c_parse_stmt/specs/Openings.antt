-- What statements begin with, up to the first statement or block that is in them; and that, with
-- what is in them.
use Rattle.std.specs.Prelude.{◌≡◌, ◌≤◌, ℕ, ◌+◌, max, List, option_map}
use Rattle.c_lex.specs.declared.keyword.Keyword.{Keyword}
use Rattle.c_lex.specs.declared.keyword.Keyword.TheVariants as keywords
use Rattle.c_lex.specs.declared.punctuator.Punctuator.TheVariants as punctuators
use Rattle.c_lex.specs.declared.token.Token.{Token}
use Rattle.c_syntax.specs.declared.limit.TheConstants.{MOST_EXPRESSIONS}
use Rattle.c_syntax.specs.Expression.{expression, height}
use Rattle.c_syntax.specs.Limits.{height_of, height_of_for_initialiser, locals_of_for_initialiser, end_of_for_initialiser}
use Rattle.c_syntax.specs.Phrases.{InTurn}
use Rattle.c_syntax.specs.Statement.{Statement, Statements, first, statement}
use Rattle.c_syntax.specs.Statements.{IsUpTo, IsCondition, IsForInitialiser, IsForHead, AreBlockItems}
use Rattle.c_syntax.specs.Tokens.{Phrase, IsKeyword, HasPunctuator, HasKeyword}
use Rattle.c_parse_stmt.specs.ArrayBytes.{bytes_so_far}
use Rattle.c_parse_stmt.specs.declared.remaining.Remaining.{Remaining}
use Rattle.c_parse_stmt.specs.declared.openings.Head.{Head}
use Rattle.c_parse_stmt.specs.declared.openings.Head.TheVariants as heads
use Rattle.c_parse_stmt.specs.declared.openings.Opening.{Opening}
use Rattle.c_parse_stmt.specs.declared.openings.Opening.TheVariants as openings
use Rattle.c_parse_stmt.specs.Within.{AllTaken, IsStatementWithin, AfterKeyword}

-- ---- what is before the first statement

abbrev pub IsStatementHead : List ℕ → Head → Phrase
IsStatementHead text (heads.If at c) = InTurn (IsKeyword keywords.If at)
    (IsCondition text (expression c))
IsStatementHead text (heads.While at c) =
    InTurn (IsKeyword keywords.While at) (IsCondition text (expression c))
IsStatementHead text heads.Do = HasKeyword keywords.Do
IsStatementHead text (heads.For at f c n) =
    IsForHead at (IsForInitialiser text (first f))
    (IsUpTo text punctuators.Semicolon (option_map expression c))
    (IsUpTo text punctuators.CloseParenthesis (option_map expression n))

abbrev pub expressions_over : Head → ℕ
expressions_over (heads.If at c) = height (expression c)
expressions_over (heads.While at c) = height (expression c)
expressions_over heads.Do = 0
expressions_over (heads.For at f c n) =
    max (height_of_for_initialiser (first f))
    (max (height_of (option_map expression c)) (height_of (option_map expression n)))

abbrev pub locals : Head → ℕ
locals (heads.If at c) = 0
locals (heads.While at c) = 0
locals heads.Do = 0
locals (heads.For at f c n) = locals_of_for_initialiser (first f)

-- where the arrays end that begin at a place
abbrev pub end_of_arrays : Head → ℕ → ℕ
end_of_arrays (heads.If at c) from = from
end_of_arrays (heads.While at c) from = from
end_of_arrays heads.Do from = from
end_of_arrays (heads.For at f c n) from = end_of_for_initialiser (first f) from

-- within the limits, with room for the statement, and of the counts so much is left after it
pub record Heads (text : List ℕ) (room : ℕ) (left after : Remaining) (h : Head)
    (ts rest : List Token) : Type 0 where
  pub is : IsStatementHead text h ts rest
  pub some : 1 ≤ room
  pub low : expressions_over h ≤ MOST_EXPRESSIONS
  pub locals : after.locals + locals h ≡ left.locals
  pub bytes : bytes_so_far after.bytes ≡ end_of_arrays h (bytes_so_far left.bytes)
  pub funclets : after.funclets ≡ left.funclets

abbrev pub IsTry : Phrase
IsTry = InTurn (HasKeyword keywords.Try) (HasPunctuator punctuators.OpenBrace)

abbrev pub Opens : List ℕ → ℕ → Remaining → Remaining → Opening → List Token → List Token → Type 0
Opens text room left after (openings.Whole s) ts rest =
    IsStatementWithin text room left after (statement s) ts rest
Opens text room left after openings.Block ts rest =
    (after ≡ left) × HasPunctuator punctuators.OpenBrace ts rest
Opens text room left after openings.Try ts rest =
    (after ≡ left) × (1 ≤ room + left.funclets) × IsTry ts rest
Opens text room left after (openings.Head h) ts rest = Heads text room left after h ts rest

-- ---- with what is after it

-- a head and the statement after it
pub record Holds (text : List ℕ) (room : ℕ) (left after : Remaining) (h : Head) (s : Statement)
    (ts rest : List Token) : Type 0 where
  pub less : ℕ
  pub more : less + 1 ≡ room
  pub between : Remaining
  pub mid : List Token
  pub head : Heads text room left between h ts mid
  pub inner : IsStatementWithin text less between after s mid rest

-- `__try` and its block, after which it can continue
pub record Guards (text : List ℕ) (room : ℕ) (left after : Remaining) (body : Statements)
    (ts rest : List Token) : Type 0 where
  pub some : 1 ≤ room + left.funclets
  pub mid : List Token
  pub is : IsTry ts mid
  pub are : AreBlockItems text body mid rest
  pub taken : AllTaken text room left after body

-- ---- what follows the first tokens

-- the keyword of a statement, which is at a place
abbrev pub OpensAfter : Keyword → ℕ → List ℕ → ℕ → Remaining → Remaining → Opening → List Token
    → List Token
    → Type 0
OpensAfter keyword at text room left after o following rest =
    AfterKeyword keyword at following (λ ts. Opens text room left after o ts rest)

-- the head of a statement
abbrev pub ReadsAfterHead : Head → List ℕ → ℕ → Remaining → Remaining → Statement → List Token
    → List Token
    → Type 0
ReadsAfterHead h text room left after s following rest =
    (whole : Remaining) (ts : List Token) → Heads text room whole left h ts following
    → IsStatementWithin text room whole after s ts rest

-- `__try` and a brace
abbrev pub ReadsAfterTry : List ℕ → ℕ → Remaining → Remaining → Statement → List Token → List Token
    → Type 0
ReadsAfterTry text room left after s following rest =
    (ts : List Token) → IsTry ts following → IsStatementWithin text room left after s ts rest
