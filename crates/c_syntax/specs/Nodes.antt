-- How many nodes a program has: each expression, statement, declarator, parameter, constant of an
-- initialiser and function is one.
--
-- The main definition: `nodes_of`.
use Rattle.std.specs.Prelude.{ℕ, ◌+◌, List, [], ◌∷◌, length, Option, Some, None}
use Rattle.c_syntax.specs.Expression.{Expression, Constant, Variable, Information, Call}
use Rattle.c_syntax.specs.Expression.{Parentheses, Index, Postfix, Prefix, Unary, Cast, Binary}
use Rattle.c_syntax.specs.Expression.{Conditional, Assign, Comma, Arguments, Done, Next}
use Rattle.c_syntax.specs.Program.{Initialiser, Single, Several, Global, ExternalDeclaration}
use Rattle.c_syntax.specs.Program.{Globals, Function}
use Rattle.c_syntax.specs.Statement.{Local, ForInitialiser, Declaring, Evaluating, Statement}
use Rattle.c_syntax.specs.Statement.{Declare, Block, Evaluate, If, IfElse, While, DoWhile, For}
use Rattle.c_syntax.specs.Statement.{Return, Break, Continue, Leave, TryExcept, TryFinally}
use Rattle.c_syntax.specs.Statement.{Statements, Empty, Then}

-- ---- expressions

abbrev mutual
  pub nodes : Expression → ℕ
  nodes (Constant at literal) = 1
  nodes (Variable name) = 1
  nodes (Information at field) = 1
  nodes (Call name es) = 1 + nodes_of_arguments es
  nodes (Parentheses at e) = 1 + nodes e
  nodes (Index e at i) = 1 + (nodes e + nodes i)
  nodes (Postfix e op at) = 1 + nodes e
  nodes (Prefix at op e) = 1 + nodes e
  nodes (Unary at op e) = 1 + nodes e
  nodes (Cast at to e) = 1 + nodes e
  nodes (Binary e at op f) = 1 + (nodes e + nodes f)
  nodes (Conditional e at f g) = 1 + (nodes e + (nodes f + nodes g))
  nodes (Assign e at op f) = 1 + (nodes e + nodes f)
  nodes (Comma e at f) = 1 + (nodes e + nodes f)

  pub nodes_of_arguments : Arguments → ℕ
  nodes_of_arguments Done = 0
  nodes_of_arguments (Next e es) = nodes e + nodes_of_arguments es

abbrev pub nodes_of_optional : Option Expression → ℕ
nodes_of_optional None = 0
nodes_of_optional (Some e) = nodes e

-- ---- statements

abbrev pub nodes_of_locals : List Local → ℕ
nodes_of_locals [] = 0
nodes_of_locals (l ∷ ls) = 1 + (nodes_of_optional l.initialiser + nodes_of_locals ls)

abbrev pub nodes_of_for_initialiser : ForInitialiser → ℕ
nodes_of_for_initialiser (Declaring base ls) = nodes_of_locals ls
nodes_of_for_initialiser (Evaluating e) = nodes_of_optional e

abbrev mutual
  pub nodes_of_statement : Statement → ℕ
  nodes_of_statement (Declare base ls) = 1 + nodes_of_locals ls
  nodes_of_statement (Block ss) = 1 + nodes_of_statements ss
  nodes_of_statement (Evaluate e) = 1 + nodes_of_optional e
  nodes_of_statement (If at c s) = 1 + (nodes c + nodes_of_statement s)
  nodes_of_statement (IfElse at c s t) =
      1 + (nodes c + (nodes_of_statement s + nodes_of_statement t))
  nodes_of_statement (While at c s) = 1 + (nodes c + nodes_of_statement s)
  nodes_of_statement (DoWhile s at c) = 1 + (nodes_of_statement s + nodes c)
  nodes_of_statement (For at f c n s) =
      1 + (nodes_of_for_initialiser f + (nodes_of_optional c
      + (nodes_of_optional n + nodes_of_statement s)))
  nodes_of_statement (Return at e) = 1 + nodes_of_optional e
  nodes_of_statement (Break at) = 1
  nodes_of_statement (Continue at) = 1
  nodes_of_statement (Leave at) = 1
  nodes_of_statement (TryExcept body at f handler) =
      1 + (nodes_of_statements body + (nodes f + nodes_of_statements handler))
  nodes_of_statement (TryFinally body at finally_block) =
      1 + (nodes_of_statements body + nodes_of_statements finally_block)

  pub nodes_of_statements : Statements → ℕ
  nodes_of_statements Empty = 0
  nodes_of_statements (Then s ss) = nodes_of_statement s + nodes_of_statements ss

-- ---- programs

abbrev pub nodes_of_initialiser : Option Initialiser → ℕ
nodes_of_initialiser None = 0
nodes_of_initialiser (Some (Single c)) = 1
nodes_of_initialiser (Some (Several at cs)) = length cs

abbrev pub nodes_of_globals : List Global → ℕ
nodes_of_globals [] = 0
nodes_of_globals (g ∷ gs) = 1 + (nodes_of_initialiser g.initialiser + nodes_of_globals gs)

abbrev pub nodes_of_external_declaration : ExternalDeclaration → ℕ
nodes_of_external_declaration (Globals base gs) = nodes_of_globals gs
nodes_of_external_declaration (Function returns name ps body) =
    1 + (length ps + nodes_of_statements body)

-- how many expressions, statements, declarators, parameters, constants and functions a program has;
-- at most as many as its tokens
abbrev pub nodes_of : List ExternalDeclaration → ℕ
nodes_of [] = 0
nodes_of (x ∷ xs) = nodes_of_external_declaration x + nodes_of xs
