-- How statements continue after the first statement or block in them.
use Rattle.std.specs.Prelude.{◌≡◌, ◌≤◌, ℕ, ◌+◌, List}
use Rattle.c_lex.specs.declared.keyword.Keyword.{Keyword}
use Rattle.c_lex.specs.declared.keyword.Keyword.TheVariants as keywords
use Rattle.c_lex.specs.declared.punctuator.Punctuator.TheVariants as punctuators
use Rattle.c_lex.specs.declared.token.Token.{Token}
use Rattle.c_syntax.specs.declared.limit.TheConstants.{MOST_EXPRESSIONS}
use Rattle.c_syntax.specs.Expression as trees
use Rattle.c_syntax.specs.Expression.{expression}
use Rattle.c_syntax.specs.Limits.{accepts}
use Rattle.c_syntax.specs.Phrases.{InTurn}
use Rattle.c_syntax.specs.Statement.{Statement, TryExcept, TryFinally, Statements, statement}
use Rattle.c_syntax.specs.Statements.{IsCondition}
use Rattle.c_syntax.specs.Tokens.{Phrase, IsKeyword, HasPunctuator, HasKeyword}
use Rattle.c_parse_stmt.specs.declared.endings.Clause.{Clause}
use Rattle.c_parse_stmt.specs.declared.endings.Clause.TheVariants as clauses
use Rattle.c_parse_stmt.specs.declared.endings.Ending.{Ending}
use Rattle.c_parse_stmt.specs.declared.endings.Ending.TheVariants as endings
use Rattle.c_parse_stmt.specs.declared.remaining.Remaining.{Remaining}
use Rattle.c_parse_stmt.specs.declared.openings.Head.{Head}
use Rattle.c_parse_stmt.specs.declared.openings.Head.TheVariants as heads
use Rattle.c_parse_stmt.specs.Filters.{numbers_of}
use Rattle.c_parse_stmt.specs.Openings.{Holds}
use Rattle.c_parse_stmt.specs.Within.{IsStatementWithin, AfterKeyword}

-- With the head and the first statement it is a whole statement, or an `else` follows that belongs
-- to the head's `if`.
abbrev pub Ends : List ℕ → Head → Statement → Ending → List Token → List Token → Type 0
Ends text h s (endings.Whole z) ts rest =
    (room : ℕ) (left after : Remaining) (start : List Token)
    → Holds text room left after h s start ts
    → IsStatementWithin text room left after (statement z) start rest
Ends text h s (endings.Else at c t) ts rest =
    (h ≡ heads.If at c) × (statement t ≡ s) × HasKeyword keywords.Else ts rest

-- ---- after the block of a `__try`, up to the brace of the second one

pub record IsExceptClause (at : ℕ) (Filter : Phrase) (ts rest : List Token) : Type 0 where
  pub after_keyword : List Token
  pub after_filter : List Token
  pub keyword : IsKeyword keywords.Except at ts after_keyword
  pub filter : Filter after_keyword after_filter
  pub brace : HasPunctuator punctuators.OpenBrace after_filter rest

abbrev pub IsClause : List ℕ → Clause → Phrase
IsClause text (clauses.Except at f) = IsExceptClause at (IsCondition text (expression f))
IsClause text (clauses.Finally at) =
    InTurn (IsKeyword keywords.Finally at) (HasPunctuator punctuators.OpenBrace)

-- how many statements are around its filter
abbrev pub statements_over : Clause → ℕ
statements_over (clauses.Except at f) = 1
statements_over (clauses.Finally at) = 0

abbrev pub height : Clause → ℕ
height (clauses.Except at f) = trees.height (expression f)
height (clauses.Finally at) = 0

abbrev pub numbers : List ℕ → Clause → ℕ
numbers text (clauses.Except at f) = numbers_of (accepts text (expression f))
numbers text (clauses.Finally at) = 1

-- within the limits, and of the counts so much is left after it
pub record ClauseIsTaken (text : List ℕ) (room : ℕ) (left after : Remaining) (c : Clause)
    (ts rest : List Token) : Type 0 where
  pub is : IsClause text c ts rest
  pub statements : statements_over c ≤ room
  pub low : height c ≤ MOST_EXPRESSIONS
  pub locals : after.locals ≡ left.locals
  pub bytes : after.bytes ≡ left.bytes
  pub funclets : after.funclets + numbers text c ≡ left.funclets

-- after the keyword of the clause, which is at a place
abbrev pub ContinuesAfterKeyword : Keyword → ℕ → List ℕ → ℕ → Remaining → Remaining → Clause
    → List Token
    → List Token → Type 0
ContinuesAfterKeyword keyword at text room left after c following rest =
    AfterKeyword keyword at following (λ ts. ClauseIsTaken text room left after c ts rest)

abbrev pub with_clause : Statements → Clause → Statements → Statement
with_clause body (clauses.Except at f) last = TryExcept body at (expression f) last
with_clause body (clauses.Finally at) finally_block = TryFinally body at finally_block
