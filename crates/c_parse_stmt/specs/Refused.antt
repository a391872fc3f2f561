-- What a refusal of each reader says.
use Rattle.std.specs.Prelude.{ℕ, List}
use Rattle.c_lex.specs.declared.keyword.Keyword.{Keyword}
use Rattle.c_lex.specs.declared.punctuator.Punctuator.{Punctuator}
use Rattle.c_lex.specs.declared.token.Token.{Token}
use Rattle.c_syntax.specs.declared.expression.Base.{Base}
use Rattle.c_syntax.specs.Statement.{Statement, Statements}
use Rattle.c_parse_expr.specs.declared.refusal.ParseErr.{ParseErr}
use Rattle.c_parse_expr.specs.Refusals.{IsPlacedRefusal}
use Rattle.c_parse_stmt.specs.declared.remaining.Remaining.{Remaining}
use Rattle.c_parse_stmt.specs.declared.openings.Head.{Head}
use Rattle.c_parse_stmt.specs.Filters.{NoFilter, HasFilter}
use Rattle.c_parse_stmt.specs.Openings.{Heads, Holds, Guards, IsTry}
use Rattle.c_parse_stmt.specs.Parts.{NoPunctuator, APunctuator, NoCondition, HasCondition, NoneUpTo, HasUpTo, NoInitialiser, HasInitialiser, NoneBracketed, HasBracketed, NoLength, HasLength, NoLocal, HasLocal, NoLocals, HasLocals, NoDeclaration, HasDeclaration, NoForInitialiser, HasForInitialiser}
use Rattle.c_parse_stmt.specs.Within.{NoStatement, HasStatement, NoEvaluation, HasEvaluation, NoBlockItem, HasBlockItem, NoBlockItems, HasBlockItems, AfterKeyword}

-- ---- parts

abbrev pub RefusesPunctuator : ParseErr → Punctuator → List ℕ → List Token → Type 0
RefusesPunctuator e wanted text ts = IsPlacedRefusal e (NoPunctuator wanted)
    (APunctuator wanted) text ts

abbrev pub RefusesCondition : ParseErr → List ℕ → List Token → Type 0
RefusesCondition e text ts = IsPlacedRefusal e NoCondition HasCondition text ts

abbrev pub RefusesUpTo : ParseErr → Punctuator → ℕ → List ℕ → List Token → Type 0
RefusesUpTo e end room text ts = IsPlacedRefusal e (NoneUpTo end room) (HasUpTo end room) text ts

abbrev pub RefusesFilter : ParseErr → ℕ → List ℕ → List Token → Type 0
RefusesFilter e funclets text ts = IsPlacedRefusal e (NoFilter funclets)
    (HasFilter funclets) text ts

-- ---- locals

abbrev pub RefusesInitialiser : ParseErr → ℕ → List ℕ → List Token → Type 0
RefusesInitialiser e room text ts = IsPlacedRefusal e (NoInitialiser room)
    (HasInitialiser room) text ts

abbrev pub RefusesBracketed : ParseErr → Base → ℕ → ℕ → List ℕ → List Token → Type 0
RefusesBracketed e base pointers at text ts =
    IsPlacedRefusal e (NoneBracketed base pointers at) (HasBracketed base pointers at) text ts

abbrev pub RefusesLength : ParseErr → Base → ℕ → ℕ → List ℕ → List Token → Type 0
RefusesLength e base pointers at text ts =
    IsPlacedRefusal e (NoLength base pointers at) (HasLength base pointers at) text ts

abbrev pub RefusesLocal : ParseErr → Base → ℕ → ℕ → List ℕ → List Token → Type 0
RefusesLocal e base at room text ts =
    IsPlacedRefusal e (NoLocal base at room) (HasLocal base at room) text ts

abbrev pub RefusesLocals : ParseErr → Base → ℕ → Remaining → List ℕ → List Token → Type 0
RefusesLocals e base room left text ts =
    IsPlacedRefusal e (NoLocals base room left) (HasLocals base room left) text ts

abbrev pub RefusesDeclaration : ParseErr → ℕ → Remaining → List ℕ → List Token → Type 0
RefusesDeclaration e room left text ts =
    IsPlacedRefusal e (NoDeclaration room left) (HasDeclaration room left) text ts

abbrev pub RefusesForInitialiser : ParseErr → Remaining → List ℕ → List Token → Type 0
RefusesForInitialiser e left text ts =
    IsPlacedRefusal e (NoForInitialiser left) (HasForInitialiser left) text ts

-- ---- statements

abbrev pub RefusesStatement : ParseErr → ℕ → Remaining → List ℕ → List Token → Type 0
RefusesStatement e room left text ts =
    IsPlacedRefusal e (NoStatement room left) (HasStatement room left) text ts

abbrev pub RefusesEvaluation : ParseErr → ℕ → Remaining → List ℕ → List Token → Type 0
RefusesEvaluation e room left text ts =
    IsPlacedRefusal e (NoEvaluation room left) (HasEvaluation room left) text ts

abbrev pub RefusesBlockItem : ParseErr → ℕ → Remaining → List ℕ → List Token → Type 0
RefusesBlockItem e room left text ts =
    IsPlacedRefusal e (NoBlockItem room left) (HasBlockItem room left) text ts

abbrev pub RefusesBlockItems : ParseErr → ℕ → Remaining → List ℕ → List Token → Type 0
RefusesBlockItems e room left text ts =
    IsPlacedRefusal e (NoBlockItems room left) (HasBlockItems room left) text ts

-- ---- statements whose first tokens were read

-- their keyword, which is at a place
abbrev pub RefusesAfter : Keyword → ℕ → ParseErr → ℕ → Remaining → List ℕ → List Token → Type 0
RefusesAfter keyword at e room left text following =
    AfterKeyword keyword at following (λ ts. RefusesStatement e room left text ts)

-- their head
abbrev pub RefusesAfterHead : Head → ParseErr → ℕ → Remaining → List ℕ → List Token → Type 0
RefusesAfterHead h e room left text following =
    (whole : Remaining) (ts : List Token) → Heads text room whole left h ts following
    → RefusesStatement e room whole text ts

-- their head and the statement after it
abbrev pub RefusesEnd : Head → Statement → ParseErr → List ℕ → List Token → Type 0
RefusesEnd h s e text following =
    (room : ℕ) (left after : Remaining) (ts : List Token)
    → Holds text room left after h s ts following
    → RefusesStatement e room left text ts

-- `__try` and a brace
abbrev pub RefusesAfterTry : ParseErr → ℕ → Remaining → List ℕ → List Token → Type 0
RefusesAfterTry e room left text following =
    (ts : List Token) → IsTry ts following → RefusesStatement e room left text ts

-- `__try` and its block
abbrev pub RefusesClause : ParseErr → ℕ → Remaining → List ℕ → List Token → Type 0
RefusesClause e room left text following =
    (whole : Remaining) (body : Statements) (ts : List Token)
    → Guards text room whole left body ts following → RefusesStatement e room whole text ts

-- and the keyword of the clause, which is at a place
abbrev pub RefusesClauseAfter : Keyword → ℕ → ParseErr → ℕ → Remaining → List ℕ → List Token
    → Type 0
RefusesClauseAfter keyword at e room left text following =
    AfterKeyword keyword at following (λ ts. RefusesClause e room left text ts)
