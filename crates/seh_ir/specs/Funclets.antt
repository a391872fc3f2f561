-- Filters and `__finally` blocks, in the order of their numbers.
--
-- The main definition: `finally_begin`.
use Rattle.std.specs.Prelude.{ℕ, ◌-◌, List, [], ◌∷◌, ◌++◌, Option, None, Some}
use Rattle.c_checked.specs.Expression.{Expression}
use Rattle.c_checked.specs.Statement.{Filter, Always, Funclet, Statement, Declare, Block, Evaluate, If, IfElse, For, DoWhile, Return, Break, Continue, Leave, TryExcept, TryFinally, Statements, Empty, Then}
use Rattle.linear_code.specs.declared.slot.Slot.TheVariants.{Local, Temporary}
use Rattle.linear_code.specs.declared.instruction.Instruction.TheVariants as instructions
use Rattle.linear_code.specs.declared.program.FuncletKind.TheVariants as kinds
use Rattle.linear_code.specs.Program.{LinearFunclet}
use Rattle.lowering_expressions.specs.declared.scope.Names.{Names}
use Rattle.lowering_expressions.specs.Scope.{except_names, filter_names, finally_names, finally_scope}
use Rattle.seh_ir.specs.declared.funclets.Owner.{Owner}
use Rattle.seh_ir.specs.Slots.{body_with}
use Rattle.lowering_expressions.specs.Expressions.{expression_code}
use Rattle.seh_ir.specs.Statements.{set_pointer, statements_code}
use Rattle.linear_code.specs.declared.instruction.Instruction.{Instruction}
use Rattle.linear_code.specs.declared.instruction.Instruction.TheVariants.{JumpIfZero, Separator}
use Rattle.c_checked.specs.declared.function.DataPart.{DataPart}
use Rattle.seh_ir.specs.Regions.{statements_regions}

-- a filter with these names in it
abbrev pub filter_funclet : Owner → Names → Expression → LinearFunclet
filter_funclet owner names e = record {
  kind = kinds.Filter;
  function = owner.function;
  parent = owner.parent;
  body =
      body_with owner.locals (expression_code names e 0 0 ++ instructions.Return (Temporary 0) ∷ [])
      [] [];
}

abbrev pub filter_funclets : Owner → Names → Filter → List LinearFunclet
filter_funclets owner names Always = []
filter_funclets owner names (Funclet k e) = filter_funclet owner names e ∷ []

-- where its flag isn't 0, a `__finally` block begins with the data stack's pointer where the
-- function's own statements have it
abbrev pub finally_begin : Option DataPart → (flag : ℕ) → List Instruction
finally_begin None x = Separator ∷ Separator ∷ Separator ∷ []
finally_begin (Some part) x =
    JumpIfZero (Local x) 2 ∷ set_pointer part.base part.size ∷ Separator ∷ []

-- a `__finally` block with these names around it; its flag is in the first free local
abbrev pub finally_funclet : Owner → Names → Statements → LinearFunclet
finally_funclet owner names last = record {
  kind = kinds.Finally names.free;
  function = owner.function;
  parent = owner.parent;
  body =
      body_with owner.locals (finally_begin names.part names.free
      ++ (statements_code (finally_scope names) last 3
      ++ instructions.Return (Local names.free) ∷ [])) (statements_regions last 3) [];
}

-- in the body of a funclet
abbrev pub in_funclet : ℕ → Owner → Owner
in_funclet k owner = record { function = owner.function; locals = owner.locals; parent = Some k }

abbrev mutual
  pub statement_funclets : Owner → Names → Statement → List LinearFunclet
  statement_funclets owner names (Declare d) = []
  statement_funclets owner names (Block ss) = statements_funclets owner names ss
  statement_funclets owner names (Evaluate e) = []
  statement_funclets owner names (If c s) = statement_funclets owner names s
  statement_funclets owner names (IfElse c s t) =
      statement_funclets owner names s ++ statement_funclets owner names t
  statement_funclets owner names (For ds first c next s) = statement_funclets owner names s
  statement_funclets owner names (DoWhile s c) = statement_funclets owner names s
  statement_funclets owner names (Return e) = []
  statement_funclets owner names Break = []
  statement_funclets owner names Continue = []
  statement_funclets owner names Leave = []
  statement_funclets owner names (TryExcept body filter block) =
      statements_funclets owner names body
      ++ (filter_funclets owner (filter_names names) filter
      ++ statements_funclets owner (except_names names) block)
  statement_funclets owner names (TryFinally body k finally_block) =
      statements_funclets owner names body
      ++ (finally_funclet owner names finally_block
      ∷ statements_funclets (in_funclet (k - 1) owner) (finally_names names) finally_block)

  pub statements_funclets : Owner → Names → Statements → List LinearFunclet
  statements_funclets owner names Empty = []
  statements_funclets owner names (Then s ss) =
      statement_funclets owner names s ++ statements_funclets owner names ss
