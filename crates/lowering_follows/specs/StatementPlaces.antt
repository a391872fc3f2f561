-- The code of statements is at its places, inside its regions, and it is code that means
-- something.
--
-- The main definitions: `Placed`, `IsLinked`.
use Rattle.std.specs.Prelude.{◌≡◌, ◌<◌, ◌≤◌, ℕ, ◌+◌, ◌-◌, ◌^◌, true, false, List, [], ◌∷◌, ◌++◌, length, slice_get, Option, Some, None}
use Rattle.c_checked.specs.Expression.{Expression}
use Rattle.c_checked.specs.Statement.{Declared, Filter, Always, Funclet, Statement, Declare, Block, Evaluate, If, IfElse, For, DoWhile, Break, Continue, Leave, TryExcept, TryFinally, Statements, Empty, Then}
use Rattle.c_checked.specs.Statement as statements
use Rattle.c_checked.specs.declared.function.StackedParameter.{StackedParameter}
use Rattle.c_checked.specs.declared.statement.StackedVariable.{StackedVariable}
use Rattle.c_checked.specs.Program.{DataFrame, Program, Function, frame_surplus, data_surplus, surplus, weight}
use Rattle.seh_num.specs.declared.limit.TheConstants.{MOST_PARAMETERS}
use Rattle.source_meaning.specs.declared.depth.TheConstants.{DEEPEST}
use Rattle.linear_code.specs.declared.slot.Slot.TheVariants.{Local, Temporary}
use Rattle.linear_code.specs.declared.instruction.Instruction.TheVariants.{Jump, JumpIfZero, CallFinally, Landing, Separator, Return}
use Rattle.linear_code.specs.declared.instruction.Instruction.TheVariants as instructions
use Rattle.linear_code.specs.declared.program.Region.{Region}
use Rattle.linear_code.specs.declared.program.FuncletKind.TheVariants as kinds
use Rattle.linear_code.specs.declared.program.RegionKind.TheVariants as regions
use Rattle.linear_code.specs.Program.{LinearProgram, LinearFunction, LinearFunclet}
use Rattle.linear_machine.specs.Frames.{BodyName, FunctionBody, FuncletBody}
use Rattle.lowering_expressions.specs.declared.scope.Names.{Names}
use Rattle.lowering_expressions.specs.declared.scope.Way.{Way}
use Rattle.lowering_expressions.specs.declared.scope.LoweringContext.{LoweringContext}
use Rattle.lowering_expressions.specs.declared.scope.Way.TheVariants.{Nowhere, Jumps, Unwinds}
use Rattle.lowering_expressions.specs.Scope.{filter_names, finally_scope, in_loop, in_try, in_except, in_guarded}
use Rattle.lowering_sizes.specs.Sizes.{expression_size, discarded_size, condition_size, declared_size, all_declared_size, returned_size, statement_size, statements_size}
use Rattle.lowering_expressions.specs.Expressions.{constant, expression_code}
use Rattle.seh_ir.specs.Funclets.{finally_begin}
use Rattle.seh_ir.specs.Lowered.{own_locals, all_locals, first_separators, first_count, open_code, close_code, body_start, scope_of}
use Rattle.seh_ir.specs.Regions.{except_kind, region}
use Rattle.seh_ir.specs.Statements.{jump_code, return_code, leave_code, discarded_code, returned_code, condition_code, declared_code, reset_code}
use Rattle.lowering_follows.specs.Fits.{ExpressionFits, IsStackedPlace}
use Rattle.lowering_follows.specs.Weights.{expression_weight, statements_weight}
use Rattle.lowering_follows.specs.Places.{HasAt}

-- something leads there
abbrev pub IsWay : Way → Type 0
IsWay Nowhere = ⊥
IsWay (Jumps label) = Unit {0}
IsWay (Unwinds label) = Unit {0}

abbrev pub IsPlace : Option ℕ → Type 0
IsPlace None = ⊥
IsPlace (Some label) = Unit {0}

-- a funclet of this kind at a number
abbrev pub HasFunclet : LinearProgram → ℕ → (LinearFunclet → Type 0) → Type 0
HasFunclet linear j P =
    (funclet : LinearFunclet) × (slice_get linear.funclets j ≡ Some funclet) × P funclet

-- the last instruction of `for`, and of `do`, where a `break` leads
abbrev pub for_end : Option Expression → Option Expression → Statement → ℕ → ℕ
for_end c next s iteration =
    iteration + condition_size c + statement_size s + 1 + discarded_size next + 1

abbrev pub do_end : Statement → Expression → ℕ → ℕ
do_end s c at = at + statement_size s + 1 + expression_size c + 2

-- ---- what is said of the parts of a statement, by their names

pub record FilterParts (Numbered Kind Code Fits Light : Type 0) : Type 0 where
  pub numbered : Numbered
  pub funclet : Kind
  pub code : Code
  pub fits : Fits
  pub light : Light

pub record IfElseParts (Condition Test Yes Skip No Joins : Type 0) : Type 0 where
  pub condition : Condition
  pub test : Test
  pub yes : Yes
  pub skip : Skip
  pub no : No
  pub joins : Joins

-- what is declared and evaluated first, and the iterations
pub record ForParts (Declared' First Begins Iterations : Type 0) : Type 0 where
  pub declared : Declared'
  pub first : First
  pub begins : Begins
  pub iterations : Iterations

pub record IterationParts (Condition Next Tests Body End Steps Repeats Lands : Type 0) : Type 0
  where
    pub condition : Condition
    pub next : Next
    pub tests : Tests
    pub body : Body
    pub end : End
    pub steps : Steps
    pub repeats : Repeats
    pub lands : Lands

pub record DoParts (Condition Body End Tests Repeats Lands : Type 0) : Type 0 where
  pub condition : Condition
  pub body : Body
  pub end : End
  pub tests : Tests
  pub repeats : Repeats
  pub lands : Lands

pub record ReturnParts (Value Computes Returns Leads : Type 0) : Type 0 where
  pub value : Value
  pub computes : Computes
  pub returns : Returns
  pub leads : Leads

pub record ExceptParts (Body End Landing' Block' Filter' : Type 0) : Type 0 where
  pub body : Body
  pub end : End
  pub landing : Landing'
  pub block : Block'
  pub filter : Filter'

pub record GuardedParts (Body End Calls Block' : Type 0) : Type 0 where
  pub body : Body
  pub end : End
  pub calls : Calls
  pub block : Block'

pub record FinallyParts (Numbered Kind Begins Code Returns : Type 0) : Type 0 where
  pub numbered : Numbered
  pub funclet : Kind
  pub begins : Begins
  pub code : Code
  pub returns : Returns

-- ---- the data stack

-- an array has so few elements that the number of its bytes is one of 64 bits
abbrev pub ElementsFit : Option ℕ → Type 0
ElementsFit None = Unit {0}
ElementsFit (Some n) = n < 2 ^ 32

abbrev pub StackedFits : ℕ → Option StackedVariable → Type 0
StackedFits own None = Unit {0}
StackedFits own (Some v) = IsStackedPlace own v.base v.offset × ElementsFit v.elements

abbrev pub ParametersFit : ℕ → List StackedParameter → Type 0
ParametersFit own [] = Unit {0}
ParametersFit own (p ∷ ps) = (p.parameter < own) × ParametersFit own ps

-- a function's part of the data stack: its base is a local, and no more parameters stand there than
-- the function has
abbrev pub FrameFits : (own parameters : ℕ) → Option DataFrame → Type 0
FrameFits own parameters None = Unit {0}
FrameFits own parameters (Some d) =
    (d.base < own) × (length d.parameters ≤ parameters) × ParametersFit own d.parameters

-- in a function with so many locals
module _ (program : Program) (linear : LinearProgram) (steps_per_turn body own : ℕ) where
  abbrev pub OptionalFits : Option Expression → Type 0
  OptionalFits None = Unit {0}
  OptionalFits (Some e) = ExpressionFits program own false e

  abbrev pub FilterPlaced : Names → Filter → Type 0
  FilterPlaced names Always = Unit {0}
  FilterPlaced names (Funclet k e) =
      FilterParts (k ≡ k - 1 + 1)
      (HasFunclet linear (k - 1) (λ funclet. funclet.kind ≡ kinds.Filter))
      (HasAt linear (FuncletBody (k - 1)) [] 0
      (expression_code (filter_names names) e 0 0 ++ Return (Temporary 0) ∷ []))
      (ExpressionFits program own true e) (expression_weight e + body + 4 ≤ steps_per_turn)

  abbrev pub DeclaredPlaced : BodyName → Names → Declared → List Region → ℕ → Type 0
  DeclaredPlaced b names d rs at =
      (d.local < own) × OptionalFits d.value × StackedFits own d.stacked
      × HasAt linear b rs at (declared_code names d at)

  abbrev pub AllDeclaredPlaced : BodyName → Names → List Declared → List Region → ℕ → Type 0
  AllDeclaredPlaced b names [] rs at = Unit {0}
  AllDeclaredPlaced b names (d ∷ ds) rs at =
      DeclaredPlaced b names d rs at × AllDeclaredPlaced b names ds rs (at + declared_size d)

  abbrev mutual
    pub Placed : BodyName → LoweringContext → Statement → List Region → ℕ → Type 0
    Placed b scope (Declare d) rs at = DeclaredPlaced b scope.names d rs at
    Placed b scope (Block ss) rs at = AllPlaced b scope ss rs at
    Placed b scope (Evaluate e) rs at =
        OptionalFits e × HasAt linear b rs at (discarded_code scope.names e at)
    Placed b scope (If c s) rs at =
        let then = at + expression_size c + 1 in
        ExpressionFits program own false c
        × HasAt linear b rs at (expression_code scope.names c 0 at
        ++ JumpIfZero (Temporary 0) (then + statement_size s) ∷ [])
        × Placed b scope s rs then
    Placed b scope (IfElse c s t) rs at =
        let then = at + expression_size c + 1 in
        let otherwise = then + statement_size s + 1 in
        let end = otherwise + statement_size t + 1 in
        IfElseParts (ExpressionFits program own false c)
        (HasAt linear b rs at (expression_code scope.names c 0 at
        ++ JumpIfZero (Temporary 0) otherwise ∷ []))
        (Placed b scope s rs then)
        (HasAt linear b rs (then + statement_size s) (Jump end ∷ []))
        (Placed b scope t rs otherwise)
        (HasAt linear b rs (otherwise + statement_size t) (Jump end ∷ []))
    Placed b scope (For ds first c next s) rs at =
        let begin = at + all_declared_size ds in
        let iteration = begin + discarded_size first in
        let start = iteration + condition_size c in
        let again = start + statement_size s in
        let end = for_end c next s iteration in
        ForParts (AllDeclaredPlaced b scope.names ds rs at) (OptionalFits first)
        (HasAt linear b rs begin (discarded_code scope.names first begin))
        (IterationParts (OptionalFits c) (OptionalFits next)
        (HasAt linear b rs iteration (condition_code scope.names c end iteration))
        (Placed b (in_loop end again scope) s rs start)
        (HasAt linear b rs again (Separator ∷ []))
        (HasAt linear b rs (again + 1) (discarded_code scope.names next (again + 1)))
        (HasAt linear b rs (again + 1 + discarded_size next) (Jump iteration ∷ []))
        (HasAt linear b rs end (Separator ∷ [])))
    Placed b scope (DoWhile s c) rs at =
        let again = at + statement_size s in
        let end = do_end s c at in
        DoParts (ExpressionFits program own false c) (Placed b (in_loop end again scope) s rs at)
        (HasAt linear b rs again (Separator ∷ []))
        (HasAt linear b rs (again + 1) (expression_code scope.names c 0 (again + 1)
        ++ JumpIfZero (Temporary 0) end ∷ []))
        (HasAt linear b rs (again + 1 + expression_size c + 1) (Jump at ∷ []))
        (HasAt linear b rs end (Separator ∷ []))
    Placed b scope (statements.Return e) rs at =
        ReturnParts (OptionalFits e) (HasAt linear b rs at (returned_code scope.names e at))
        (HasAt linear b rs (at + returned_size e) (return_code scope.exit)) (IsWay scope.exit)
    Placed b scope Break rs at =
        IsWay scope.loop_end × HasAt linear b rs at (jump_code scope.loop_end)
    Placed b scope Continue rs at =
        IsWay scope.loop_next × HasAt linear b rs at (jump_code scope.loop_next)
    Placed b scope Leave rs at =
        IsPlace scope.leave × HasAt linear b rs at (leave_code scope.leave ∷ [])
    Placed b scope (TryExcept body filter block) rs at =
        let target = at + statements_size body + 1 in
        let end = target + 2 + statements_size block in
        ExceptParts
        (AllPlaced b (in_try end scope) body
        (region at target (except_kind filter target) ∷ rs) at)
        (HasAt linear b (region at target (except_kind filter target) ∷ rs)
        (at + statements_size body) (Jump end ∷ []))
        (HasAt linear b rs target (Landing (Local scope.names.free)
        ∷ reset_code scope.names.part ∷ []))
        (AllPlaced b (in_except scope) block rs (target + 2)) (FilterPlaced scope.names filter)
    Placed b scope (TryFinally body k last) rs at =
        let end = at + statements_size body in
        GuardedParts
        (AllPlaced b (in_guarded end scope) body
        (region at (end + 1) (regions.Finally (k - 1)) ∷ rs) at)
        (HasAt linear b (region at (end + 1) (regions.Finally (k - 1)) ∷ rs) end (Separator ∷ []))
        (HasAt linear b rs (end + 1) (CallFinally (k - 1) ∷ Separator ∷ []))
        (FinallyParts (k ≡ k - 1 + 1)
        (HasFunclet linear (k - 1) (λ funclet. funclet.kind ≡ kinds.Finally scope.names.free))
        (HasAt linear (FuncletBody (k - 1)) [] 0
        (finally_begin scope.names.part scope.names.free))
        (AllPlaced (FuncletBody (k - 1)) (finally_scope scope.names) last [] 3)
        (HasAt linear (FuncletBody (k - 1)) [] (3 + statements_size last)
        (Return (Local scope.names.free) ∷ [])))

    pub AllPlaced : BodyName → LoweringContext → Statements → List Region → ℕ → Type 0
    AllPlaced b scope Empty rs at = Unit {0}
    AllPlaced b scope (Then s ss) rs at =
        Placed b scope s rs at × AllPlaced b scope ss rs (at + statement_size s)

  abbrev pub ForPlaced : BodyName → LoweringContext → Option Expression → Option Expression
      → Statement
      → List Region → ℕ → Type 0
  ForPlaced b scope c next s rs at =
      let start = at + condition_size c in
      let again = start + statement_size s in
      let end = for_end c next s at in
      IterationParts (OptionalFits c) (OptionalFits next)
      (HasAt linear b rs at (condition_code scope.names c end at))
      (Placed b (in_loop end again scope) s rs start)
      (HasAt linear b rs again (Separator ∷ []))
      (HasAt linear b rs (again + 1) (discarded_code scope.names next (again + 1)))
      (HasAt linear b rs (again + 1 + discarded_size next) (Jump at ∷ []))
      (HasAt linear b rs end (Separator ∷ []))

  abbrev pub DoPlaced : BodyName → LoweringContext → Statement → Expression → List Region → ℕ
      → Type 0
  DoPlaced b scope s c rs at = Placed b scope (DoWhile s c) rs at

  abbrev pub FinallyPlaced : Names → ℕ → Statements → Type 0
  FinallyPlaced names k last =
      FinallyParts (k ≡ k - 1 + 1)
      (HasFunclet linear (k - 1) (λ funclet. funclet.kind ≡ kinds.Finally names.free))
      (HasAt linear (FuncletBody (k - 1)) [] 0 (finally_begin names.part names.free))
      (AllPlaced (FuncletBody (k - 1)) (finally_scope names) last [] 3)
      (HasAt linear (FuncletBody (k - 1)) [] (3 + statements_size last)
      (Return (Local names.free) ∷ []))

module _ (program : Program) (linear : LinearProgram) (steps_per_turn body : ℕ) where
  -- a function of this number is in the linear code
  pub record FunctionPlaced (k : ℕ) (fn : Function) (lf : LinearFunction) : Type 0 where
    pub parameters : lf.parameters ≡ length fn.parameters
    pub locals : lf.body.locals ≡ all_locals fn
    pub weighs : lf.surplus ≡ frame_surplus fn
    pub data_weighs : lf.data_surplus ≡ data_surplus fn
    pub frame : FrameFits (own_locals fn) (length fn.parameters) fn.data_frame
    pub few : length fn.parameters ≤ MOST_PARAMETERS
    pub starts : HasAt linear (FunctionBody k) [] 0 (first_separators fn)
    pub opens : HasAt linear (FunctionBody k) [] (first_count fn) (open_code fn.data_frame)
    pub placed : AllPlaced program linear steps_per_turn body (own_locals fn) (FunctionBody k)
        (scope_of fn) fn.body [] (body_start fn)
    pub ends : HasAt linear (FunctionBody k) [] (body_start fn + statements_size fn.body)
        (constant 0 0 ∷ (close_code fn.data_frame ++ instructions.Return (Temporary 0) ∷ []))
    pub light : surplus fn + statements_weight fn.body ≤ body
    pub quick : statements_weight fn.body + body + 4 ≤ steps_per_turn

  -- each function is in the linear code, beside globals and a `main` that are the same; an
  -- activation of `main` is not too deep
  pub record IsLinked : Type 0 where
    pub globals : linear.globals ≡ program.globals
    pub main : linear.main ≡ program.main
    pub least : 4 ≤ steps_per_turn
    pub functions : (k : ℕ) (fn : Function) → slice_get program.functions k ≡ Some fn
        → (lf : LinearFunction) × (slice_get linear.functions k ≡ Some lf) × FunctionPlaced k fn lf
    pub begins : Function
    pub is_main : slice_get program.functions program.main ≡ Some begins
    pub few : length begins.parameters ≤ 1
    pub shallow : weight begins ≤ DEEPEST
