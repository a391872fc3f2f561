-- The code of statements. No temporary is used across them.
--
-- The main definitions: `reset_code`, `put_code`, `clear_code`.
use Rattle.std.specs.Prelude.{ℕ, ◌+◌, ◌-◌, ◌*◌, List, [], ◌∷◌, ◌++◌, Option, None, Some}
use Rattle.seh_num.specs.Widths.{bytes_of}
use Rattle.c_operations.specs.declared.operation.Operation.TheVariants.{Pure, SetPointer, Place, Clear}
use Rattle.c_operations.specs.declared.operation.Pure.TheVariants.{Constant}
use Rattle.c_checked.specs.declared.statement.StackedVariable.{StackedVariable}
use Rattle.c_checked.specs.Expression.{Expression}
use Rattle.c_checked.specs.Statement.{Declared, Statement, Declare, Block, Evaluate, If, IfElse, For, DoWhile, Break, Continue, Leave, TryExcept, TryFinally, Statements, Empty, Then}
use Rattle.c_checked.specs.Statement as statements
use Rattle.linear_code.specs.declared.slot.Slot.TheVariants.{Local, Temporary}
use Rattle.linear_code.specs.declared.instruction.Instruction.{Instruction}
use Rattle.linear_code.specs.declared.instruction.Instruction.TheVariants.{Compute, Jump, JumpIfZero, CallFinally, LocalUnwind, Landing, Separator}
use Rattle.lowering_expressions.specs.declared.scope.Names.{Names}
use Rattle.c_checked.specs.declared.function.DataPart.{DataPart}
use Rattle.lowering_expressions.specs.declared.scope.Way.{Way}
use Rattle.lowering_expressions.specs.declared.scope.LoweringContext.{LoweringContext}
use Rattle.lowering_expressions.specs.declared.scope.Way.TheVariants.{Nowhere, Jumps, Unwinds}
use Rattle.lowering_expressions.specs.Scope.{in_loop, in_try, in_except, in_guarded}
use Rattle.lowering_sizes.specs.Sizes.{expression_size, discarded_size, condition_size, declared_size, all_declared_size, statement_size, statements_size}
use Rattle.lowering_expressions.specs.Expressions.{constant, copy, expression_code}

-- ---- ways out; each takes two instructions, so that no size depends on where it leads

abbrev pub jump_code : Way → List Instruction
jump_code Nowhere = Separator ∷ Separator ∷ []
jump_code (Jumps label) = Jump label ∷ Separator ∷ []
jump_code (Unwinds label) = LocalUnwind label ∷ Separator ∷ []

-- of a `return`, with the number in the first temporary
abbrev pub return_code : Way → List Instruction
return_code way = jump_code way

abbrev pub leave_code : Option ℕ → Instruction
leave_code None = Separator
leave_code (Some label) = Jump label

-- ---- expressions in statements

abbrev pub discarded_code : Names → Option Expression → ℕ → List Instruction
discarded_code names None at = []
discarded_code names (Some e) at = expression_code names e 0 at ++ Separator ∷ []

abbrev pub returned_code : Names → Option Expression → ℕ → List Instruction
returned_code names None at = constant 0 0 ∷ []
returned_code names (Some e) at = expression_code names e 0 at

-- to a label where the condition is 0
abbrev pub condition_code : Names → Option Expression → ℕ → ℕ → List Instruction
condition_code names None label at = []
condition_code names (Some e) label at =
    expression_code names e 0 at ++ JumpIfZero (Temporary 0) label ∷ []

abbrev pub initialiser_code : Names → ℕ → Option Expression → ℕ → List Instruction
initialiser_code names x None at = []
initialiser_code names x (Some e) at =
    expression_code names e 0 at ++ copy (Local x) (Temporary 0) ∷ Separator ∷ []

-- ---- variables on the data stack

-- the first temporary goes to a variable
abbrev pub put_code : StackedVariable → List Instruction
put_code v =
    Compute (Temporary 0) (Place v.width v.offset) (Local v.base) (Temporary 0) ∷ Separator ∷ []

abbrev pub put_initialiser_code : Names → StackedVariable → Option Expression → ℕ
    → List Instruction
put_initialiser_code names v None at = []
put_initialiser_code names v (Some e) at = expression_code names e 0 at ++ put_code v

-- a turn of the loop that clears an array, in which an element becomes 0
abbrev pub clearing : (rest : ℕ) → StackedVariable → (end begin : ℕ) → List Instruction
clearing x v end begin =
    JumpIfZero (Local x) end
    ∷ Compute (Local x) (Clear v.width v.offset) (Local v.base) (Local x)
    ∷ Jump begin ∷ []

-- the elements of an array become 0, the last one first: a free local has the bytes that are left
abbrev pub clear_code : (rest : ℕ) → StackedVariable → ℕ → ℕ → List Instruction
clear_code x v n at =
    Compute (Local x) (Pure (Constant (bytes_of v.width * n))) (Local x) (Local x)
    ∷ (clearing x v (at + 4) (at + 1) ++ Separator ∷ [])

abbrev pub stacked_declared_code : Names → StackedVariable → Option ℕ → Option Expression → ℕ
    → List Instruction
stacked_declared_code names v (Some n) value at = clear_code names.free v n at
stacked_declared_code names v None value at =
    constant 0 0 ∷ (put_code v ++ put_initialiser_code names v value (at + 3))

abbrev pub declared_at_code : Names → Option StackedVariable → (local : ℕ) → Option Expression → ℕ
    → List Instruction
declared_at_code names None x value at =
    Compute (Local x) (Pure (Constant 0)) (Local x) (Local x)
    ∷ initialiser_code names x value (at + 1)
declared_at_code names (Some v) x value at = stacked_declared_code names v v.elements value at

-- a declared local is 0 first
abbrev pub declared_code : Names → Declared → ℕ → List Instruction
declared_code names d at = declared_at_code names d.stacked d.local d.value at

abbrev pub all_declared_code : Names → List Declared → ℕ → List Instruction
all_declared_code names [] at = []
all_declared_code names (d ∷ ds) at =
    declared_code names d at ++ all_declared_code names ds (at + declared_size d)

-- ---- ends of parts

-- the data stack's pointer becomes so many bytes above the base, which stays in its local
abbrev pub set_pointer : (base size : ℕ) → Instruction
set_pointer base size = Compute (Local base) (SetPointer size) (Local base) (Local base)

-- the pointer is where the function's own statements have it
abbrev pub reset_code : Option DataPart → Instruction
reset_code None = Separator
reset_code (Some part) = set_pointer part.base part.size

-- of the body of a `__try`, with the beginning of its `__except` block
abbrev pub landed : Option DataPart → ℕ → ℕ → List Instruction
landed part end x = Jump end ∷ Landing (Local x) ∷ reset_code part ∷ []

-- of a `do`, whose condition was evaluated, with the place where it ends
abbrev pub repeated : ℕ → ℕ → List Instruction
repeated end begin = JumpIfZero (Temporary 0) end ∷ Jump begin ∷ Separator ∷ []

-- of the body of a `__try` with a `__finally` block
abbrev pub finally_called : ℕ → List Instruction
finally_called k = Separator ∷ CallFinally k ∷ Separator ∷ []

-- ---- statements, placed at an instruction; a loop ends with a separator, where a `break` leads;
-- an `else` branch ends with a jump, since it may stand apart

abbrev mutual
  pub statement_code : LoweringContext → Statement → ℕ → List Instruction
  statement_code scope (Declare d) at = declared_code scope.names d at
  statement_code scope (Block ss) at = statements_code scope ss at
  statement_code scope (Evaluate e) at = discarded_code scope.names e at
  statement_code scope (If c s) at =
      let then = at + expression_size c + 1 in
      expression_code scope.names c 0 at
      ++ (JumpIfZero (Temporary 0) (then + statement_size s)
      ∷ statement_code scope s then)
  statement_code scope (IfElse c s t) at =
      let then = at + expression_size c + 1 in
      let otherwise = then + statement_size s + 1 in
      let end = otherwise + statement_size t + 1 in
      expression_code scope.names c 0 at
      ++ (JumpIfZero (Temporary 0) otherwise
      ∷ (statement_code scope s then
      ++ (Jump end
      ∷ (statement_code scope t otherwise
      ++ Jump end ∷ []))))
  statement_code scope (For ds first c next s) at =
      let begin = at + all_declared_size ds in
      let iteration = begin + discarded_size first in
      let body = iteration + condition_size c in
      let again = body + statement_size s in
      let end = again + 1 + discarded_size next + 1 in
      all_declared_code scope.names ds at
      ++ (discarded_code scope.names first begin
      ++ (condition_code scope.names c end iteration
      ++ (statement_code (in_loop end again scope) s body
      ++ (Separator
      ∷ (discarded_code scope.names next (again + 1)
      ++ Jump iteration ∷ Separator ∷ [])))))
  statement_code scope (DoWhile s c) at =
      let again = at + statement_size s in
      let end = again + 1 + expression_size c + 2 in
      statement_code (in_loop end again scope) s at
      ++ (Separator
      ∷ (expression_code scope.names c 0 (again + 1)
      ++ repeated end at))
  statement_code scope (statements.Return e) at =
      returned_code scope.names e at ++ return_code scope.exit
  statement_code scope Break at = jump_code scope.loop_end
  statement_code scope Continue at = jump_code scope.loop_next
  statement_code scope Leave at = leave_code scope.leave ∷ []
  statement_code scope (TryExcept body filter block) at =
      let target = at + statements_size body + 1 in
      let end = target + 2 + statements_size block in
      statements_code (in_try end scope) body at
      ++ (landed scope.names.part end scope.names.free
      ++ statements_code (in_except scope) block (target + 2))
  statement_code scope (TryFinally body k finally_block) at =
      statements_code (in_guarded (at + statements_size body) scope) body at
      ++ Separator ∷ CallFinally (k - 1) ∷ Separator ∷ []

  pub statements_code : LoweringContext → Statements → ℕ → List Instruction
  statements_code scope Empty at = []
  statements_code scope (Then s ss) at =
      statement_code scope s at ++ statements_code scope ss (at + statement_size s)

-- ---- parts of statements, placed at an instruction

-- a condition, and a statement with a jump over it, and so many instructions more, where it is 0
abbrev pub when_code : LoweringContext → Expression → Statement → ℕ → ℕ → List Instruction
when_code scope c s more at =
    let then = at + expression_size c in
    expression_code scope.names c 0 at
    ++ JumpIfZero (Temporary 0) (then + (statement_size s + more))
    ∷ statement_code scope s (then + 1)

-- the body of a `__try` with an `__except` block of this size, and the beginning of that block
abbrev pub tried_code : LoweringContext → Statements → ℕ → ℕ → List Instruction
tried_code scope body block at =
    let end = at + (statements_size body + (block + 3)) in
    statements_code (in_try end scope) body at ++ landed scope.names.part end scope.names.free
