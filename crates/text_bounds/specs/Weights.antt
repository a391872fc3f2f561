-- A weight for each part of a checked program, and how much each node adds to what its parts weigh.
--
-- The main definitions: `Weights`, `NodesAdd`, `StatementsAdd`, `FunctionsAdd`.
use Rattle.std.specs.Prelude.{ℕ, ◌+◌, ◌≡◌, ◌≤◌, List, [], ◌∷◌, length, Option, None, Some}
use Rattle.c_operations.specs.declared.built_in.BuiltIn.{BuiltIn}
use Rattle.c_operations.specs.declared.field.Field.{Field}
use Rattle.c_operations.specs.declared.operation.Operation.{Operation}
use Rattle.c_operations.specs.declared.operation.Pure.{Pure}
use Rattle.c_operations.specs.declared.operation.Size.{Size}
use Rattle.c_checked.specs.declared.expression.Access.{Access}
use Rattle.c_checked.specs.declared.expression.Conversion.{Conversion}
use Rattle.c_checked.specs.declared.expression.Conversion.TheVariants.{Kept}
use Rattle.c_checked.specs.declared.expression.Fixity.{Fixity}
use Rattle.c_checked.specs.Expression.{Expression, On, Node, Constant, StackedArray, Read, AddressOf, Assign, CompoundAssign, Increment, Unary, Binary, PointerDifference, Not, And, Or, Conditional, Comma, Call, CallBuiltIn, ExceptionCode, Information, AbnormalTermination, Lvalue, Local, Global, Stacked, Indirection, Element, Arguments, Done, Next}
use Rattle.c_checked.specs.Program.{Function}
use Rattle.c_checked.specs.Statement.{Declared, Always, Funclet, Statement, Declare, Block, Evaluate, If, IfElse, For, DoWhile, Return, Break, Continue, Leave, TryExcept, TryFinally, Statements, Empty, Then}
use Rattle.c_syntax.specs.declared.expression.CType.{CType}
use Rattle.c_resolved.specs.Types.{conversion}

-- what each part weighs; what a node adds at most, what a conversion adds at most, and what one
-- from a type to a type does
pub record Weights : Type 0 where
  pub conversion : Conversion → ℕ
  pub expression : Expression → ℕ
  pub node : Node → ℕ
  pub arguments : Arguments → ℕ
  pub declared : List Declared → ℕ
  pub statement : Statement → ℕ
  pub statements : Statements → ℕ
  pub functions : List Function → ℕ
  pub each : ℕ
  pub converted : ℕ
  pub retyped : ℕ

abbrev pub optional : Weights → Option Expression → ℕ
optional w None = 0
optional w (Some e) = w.expression e

-- a node, with any conversion of its value, adds at most so much to its operands; the place that an
-- assignment changes is one that was read
pub record NodesAdd (w : Weights) : Type 0 where
  pub value : (n : Node) (c : Conversion) → w.expression (On n c) ≡ w.node n + w.conversion c
  pub any_conversion : (c : Conversion) → w.conversion c ≤ w.converted
  pub no_conversion : w.conversion Kept ≤ w.retyped
  pub of_types : (from to : CType) → w.conversion (conversion from to) ≤ w.retyped
  pub constant : (z : Size) (n : ℕ) → w.node (Constant z n) + w.converted ≤ w.each
  pub of_local : (x : ℕ) → w.node (Read (Local x)) + w.converted ≤ w.each
  pub of_stacked : (access : Access) (base offset : ℕ)
      → w.node (Read (Stacked access base offset)) + w.converted ≤ w.each
  pub array : (base offset : ℕ) → w.node (StackedArray base offset) + w.converted ≤ w.each
  pub of_global : (access : Access) (a : ℕ) → w.node (Read (Global access a)) + w.converted ≤ w.each
  pub indirection : (access : Access) (e : Expression)
      → w.node (Read (Indirection access e)) + w.converted ≤ w.each + w.expression e
  pub element : (access : Access) (e i : Expression)
      → w.node (Read (Element access e i)) + w.converted
      ≤ w.each + (w.expression e + w.expression i)
  pub address : (p : Lvalue) → w.node (AddressOf p) ≤ w.each + w.node (Read p)
  pub assignment : (p : Lvalue) (e : Expression)
      → w.node (Assign p e) ≤ w.each + (w.node (Read p) + w.expression e)
  pub compound_assignment : (p : Lvalue) (before : Conversion) (o : Operation) (e : Expression)
      (after : Conversion) → w.conversion before ≤ w.retyped → w.conversion after ≤ w.retyped
      → w.node (CompoundAssign p before o e after) ≤ w.each + (w.node (Read p) + w.expression e)
  pub increment : (m : Fixity) (p : Lvalue) (o : Operation) (n : ℕ) (after : Conversion)
      → w.conversion after ≤ w.retyped
      → w.node (Increment m p Kept o n after) ≤ w.each + w.node (Read p)
  pub unary : (o : Pure) (e : Expression)
      → w.node (Unary o e) + w.converted ≤ w.each + w.expression e
  pub binary : (o : Operation) (e f : Expression)
      → w.node (Binary o e f) + w.converted ≤ w.each + (w.expression e + w.expression f)
  pub difference : (n : ℕ) (e f : Expression)
      → w.node (PointerDifference n e f) + w.converted
      ≤ w.each + (w.expression e + w.expression f)
  pub negation : (e : Expression) → w.node (Not e) + w.converted ≤ w.each + w.expression e
  pub conjunction : (e f : Expression)
      → w.node (And e f) + w.converted ≤ w.each + (w.expression e + w.expression f)
  pub disjunction : (m n : Node)
      → w.node (Or (On m Kept) (On n Kept)) ≤ w.each + (w.node m + (w.converted + w.node n))
  pub conditional : (c e f : Expression)
      → w.node (Conditional c e f) + w.converted
      ≤ w.each + (w.expression c + (w.expression e + w.expression f))
  pub comma : (e f : Expression)
      → w.node (Comma e f) + w.converted ≤ w.each + (w.expression e + w.expression f)
  pub call : (f : ℕ) (es : Arguments) → w.node (Call f es) + w.converted ≤ w.each + w.arguments es
  pub built_in_call : (k : BuiltIn) (es : Arguments)
      → w.node (CallBuiltIn k es) + w.converted ≤ w.each + w.arguments es
  pub exception_code : w.node ExceptionCode + w.converted ≤ w.each
  pub information : (f : Field) → w.node (Information f) + w.converted ≤ w.each
  pub abnormal_termination : w.node AbnormalTermination + w.converted ≤ w.each
  pub no_argument : w.arguments Done ≡ 0
  pub argument : (e : Expression) (es : Arguments)
      → w.arguments (Next e es) ≡ w.expression e + w.arguments es

-- the same of statements, with the filters and blocks in them
pub record StatementsAdd (w : Weights) : Type 0 where
  pub declaration : (d : Declared) → w.statement (Declare d) ≤ w.each + optional w d.value
  pub block : (ss : Statements) → w.statement (Block ss) ≤ w.each + w.statements ss
  pub evaluation : (e : Option Expression) → w.statement (Evaluate e) ≤ w.each + optional w e
  pub if_alone : (c : Expression) (s : Statement)
      → w.statement (If c s) ≤ w.each + (w.expression c + w.statement s)
  pub if_else : (c : Expression) (s t : Statement)
      → w.statement (IfElse c s t) ≤ w.each + (w.expression c + (w.statement s + w.statement t))
  pub for_loop : (ds : List Declared) (first c next : Option Expression) (s : Statement)
      → w.statement (For ds first c next s)
      ≤ w.each
      + (w.declared ds + (optional w first + (optional w c + (optional w next + w.statement s))))
  pub do_loop : (s : Statement) (c : Expression)
      → w.statement (DoWhile s c) ≤ w.each + (w.statement s + w.expression c)
  pub returning : (e : Option Expression) → w.statement (Return e) ≤ w.each + optional w e
  pub breaking : w.statement Break ≤ w.each
  pub continuing : w.statement Continue ≤ w.each
  pub leaving : w.statement Leave ≤ w.each
  pub accepting : (body block : Statements)
      → w.statement (TryExcept body Always block)
      ≤ w.each + (w.statements body + w.statements block)
  pub filtering : (body : Statements) (k : ℕ) (e : Expression) (block : Statements)
      → w.statement (TryExcept body (Funclet k e) block)
      ≤ w.each + (w.statements body + (w.expression e + w.statements block))
  pub finishing : (body : Statements) (k : ℕ) (last : Statements)
      → w.statement (TryFinally body k last) ≤ w.each + (w.statements body + w.statements last)
  pub no_statement : w.statements Empty ≡ 0
  pub sequence : (s : Statement) (ss : Statements)
      → w.statements (Then s ss) ≡ w.statement s + w.statements ss
  pub no_declared : w.declared [] ≡ 0
  pub several_declared : (d : Declared) (ds : List Declared)
      → w.declared (d ∷ ds) ≡ w.statement (Declare d) + w.declared ds

-- and of functions: one adds at most 1 for each of its locals
pub record FunctionsAdd (w : Weights) : Type 0 where
  pub no_function : w.functions [] ≡ 0
  pub several_functions : (f : Function) (fs : List Function)
      → w.functions (f ∷ fs)
      ≤ w.each + (length f.locals + (w.statements f.body + w.functions fs))
