-- What a function is once it is known where its variables stand: the uses of those on the data
-- stack become places above the base. While it isn't known, each variable is named by its number,
-- and the address of an array by an offset of 0 above it.
use Rattle.std.specs.Prelude.{ℕ, List, [], ◌∷◌, slice_get, Option, Some, None}
use Rattle.c_operations.specs.declared.operation.Size.TheVariants as sizes
use Rattle.c_checked.specs.Expression as nodes
use Rattle.c_checked.specs.Expression.{Expression, On, Node, Lvalue, Local, Global, Stacked, Indirection, Element, Arguments, Done, Next}
use Rattle.c_checked.specs.Statement.{Declared, Filter, Always, Funclet, Statement, Declare, Block, Evaluate, If, IfElse, For, DoWhile, Return, Break, Continue, Leave, TryExcept, TryFinally, Statements, Empty, Then}
use Rattle.c_checked.specs.declared.statement.StackedVariable.{StackedVariable}
use Rattle.c_resolved.specs.declared.variable.Place.{Place}
use Rattle.c_resolved.specs.Layout.{Layout}

abbrev pub only_place : Option (Option Place) → Option Place
only_place None = None
only_place (Some p) = p

-- where the variable of a number stands, if that is the data stack
abbrev pub place_of : Layout → ℕ → Option Place
place_of l x = only_place (slice_get l.places x)

-- ---- a variable, its address, and an array's

abbrev pub variable_at : ℕ → ℕ → Option Place → Lvalue
variable_at base x None = Local x
variable_at base x (Some p) = Stacked p.access base p.offset

-- what has no address, which never is an operand of `&`
abbrev pub no_address : Node
no_address = nodes.Constant sizes.Long 0

abbrev pub address_of : Lvalue → Node
address_of (Local x) = no_address
address_of p = nodes.AddressOf p

abbrev pub array_at : ℕ → Option Place → Node
array_at base None = no_address
array_at base (Some p) = nodes.StackedArray base p.offset

abbrev pub stacked_at : ℕ → Option Place → Option StackedVariable
stacked_at base None = None
stacked_at base (Some p) =
    Some (record {
      base = base;
      width = p.access.width;
      offset = p.offset;
      elements = p.elements;
    })

-- ---- expressions

abbrev mutual
  pub place_expression : Layout → Expression → Expression
  place_expression l (On n c) = On (place_node l n) c

  pub place_node : Layout → Node → Node
  place_node l (nodes.Constant z n) = nodes.Constant z n
  place_node l (nodes.StackedArray x offset) = array_at l.base (place_of l x)
  place_node l (nodes.Read p) = nodes.Read (place_lvalue l p)
  place_node l (nodes.AddressOf p) = address_of (place_lvalue l p)
  place_node l (nodes.Assign p e) = nodes.Assign (place_lvalue l p) (place_expression l e)
  place_node l (nodes.CompoundAssign p before o e after) =
      nodes.CompoundAssign (place_lvalue l p) before o (place_expression l e) after
  place_node l (nodes.Increment m p before o n after) =
      nodes.Increment m (place_lvalue l p) before o n after
  place_node l (nodes.Unary o e) = nodes.Unary o (place_expression l e)
  place_node l (nodes.Binary o e f) =
      nodes.Binary o (place_expression l e) (place_expression l f)
  place_node l (nodes.PointerDifference n e f) =
      nodes.PointerDifference n (place_expression l e) (place_expression l f)
  place_node l (nodes.Not e) = nodes.Not (place_expression l e)
  place_node l (nodes.And e f) = nodes.And (place_expression l e) (place_expression l f)
  place_node l (nodes.Or e f) = nodes.Or (place_expression l e) (place_expression l f)
  place_node l (nodes.Conditional c e f) =
      nodes.Conditional (place_expression l c) (place_expression l e) (place_expression l f)
  place_node l (nodes.Comma e f) = nodes.Comma (place_expression l e) (place_expression l f)
  place_node l (nodes.Call f es) = nodes.Call f (place_arguments l es)
  place_node l (nodes.CallBuiltIn k es) = nodes.CallBuiltIn k (place_arguments l es)
  place_node l nodes.ExceptionCode = nodes.ExceptionCode
  place_node l (nodes.Information f) = nodes.Information f
  place_node l nodes.AbnormalTermination = nodes.AbnormalTermination

  pub place_lvalue : Layout → Lvalue → Lvalue
  place_lvalue l (Local x) = variable_at l.base x (place_of l x)
  place_lvalue l (Global access a) = Global access a
  place_lvalue l (Stacked access x offset) = variable_at l.base x (place_of l x)
  place_lvalue l (Indirection access e) = Indirection access (place_expression l e)
  place_lvalue l (Element access e i) =
      Element access (place_expression l e) (place_expression l i)

  pub place_arguments : Layout → Arguments → Arguments
  place_arguments l Done = Done
  place_arguments l (Next e es) = Next (place_expression l e) (place_arguments l es)

-- ---- statements

abbrev pub place_optional : Layout → Option Expression → Option Expression
place_optional l None = None
place_optional l (Some e) = Some (place_expression l e)

abbrev pub place_declared : Layout → Declared → Declared
place_declared l d =
    record {
      local = d.local;
      stacked = stacked_at l.base (place_of l d.local);
      value = place_optional l d.value;
    }

abbrev pub place_all_declared : Layout → List Declared → List Declared
place_all_declared l [] = []
place_all_declared l (d ∷ ds) = place_declared l d ∷ place_all_declared l ds

abbrev pub place_filter : Layout → Filter → Filter
place_filter l Always = Always
place_filter l (Funclet k e) = Funclet k (place_expression l e)

abbrev mutual
  pub place_statement : Layout → Statement → Statement
  place_statement l (Declare d) = Declare (place_declared l d)
  place_statement l (Block ss) = Block (place_statements l ss)
  place_statement l (Evaluate e) = Evaluate (place_optional l e)
  place_statement l (If c s) = If (place_expression l c) (place_statement l s)
  place_statement l (IfElse c s t) =
      IfElse (place_expression l c) (place_statement l s) (place_statement l t)
  place_statement l (For ds first c next s) =
      For (place_all_declared l ds) (place_optional l first) (place_optional l c)
      (place_optional l next) (place_statement l s)
  place_statement l (DoWhile s c) = DoWhile (place_statement l s) (place_expression l c)
  place_statement l (Return e) = Return (place_optional l e)
  place_statement l Break = Break
  place_statement l Continue = Continue
  place_statement l Leave = Leave
  place_statement l (TryExcept body filter block) =
      TryExcept (place_statements l body) (place_filter l filter) (place_statements l block)
  place_statement l (TryFinally body k finally_block) =
      TryFinally (place_statements l body) k (place_statements l finally_block)

  pub place_statements : Layout → Statements → Statements
  place_statements l Empty = Empty
  place_statements l (Then s ss) = Then (place_statement l s) (place_statements l ss)
