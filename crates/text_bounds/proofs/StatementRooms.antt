-- The code of statements, of the filters and `__finally` blocks in them, their scope records and
-- what their cold parts have beside their code take no more than their room.
use Rattle.std.proofs.Common.{◌≡◌, ℕ, ◌+◌, ◌-◌, ◌*◌, ◌≤◌, List, [], ◌∷◌, ◌++◌, length, Option, Some, None, sym, arith, zero-add, length-append}
use Rattle.text_bounds.specs.Words.{Expression, Local, Temporary, LinearBody, LinearFunclet, Owner, expression_size, copy, expression_code, statements_code, instruction_room, code_room, discarded_room, condition_room, initialiser_room, all_declared_room, returned_room, statement_room, statements_room, cold_room, discarded_size, condition_size, declared_size, all_declared_size, statement_size, statements_size, jump_code, return_code, leave_code, discarded_code, returned_code, condition_code, initialiser_code, put_code, put_initialiser_code, stacked_declared_code, declared_at_code, declared_code, all_declared_code, reset_code, landed, repeated, statement_code, put_initialiser_room, stacked_room, declared_at_room, declared_room, filter_room}
use Rattle.c_checked.specs.declared.function.DataPart.{DataPart}
use Rattle.c_checked.specs.declared.statement.StackedVariable.{StackedVariable}
use Rattle.c_checked.specs.Statement as statements
use Rattle.c_checked.specs.Statement.{Declared, Filter, Always, Funclet, Statement, Declare, Block, Evaluate, If, IfElse, For, DoWhile, Break, Continue, Leave, TryExcept, TryFinally, Statements, Empty, Then}
use Rattle.linear_code.specs.declared.instruction.Instruction.TheVariants as instructions
use Rattle.linear_code.specs.declared.program.RegionKind.TheVariants as kinds
use Rattle.lowering_expressions.specs.declared.scope.Names.{Names}
use Rattle.lowering_expressions.specs.declared.scope.LoweringContext.{LoweringContext}
use Rattle.lowering_expressions.specs.declared.scope.Way.{Way}
use Rattle.lowering_expressions.specs.declared.scope.Way.TheVariants.{Nowhere, Jumps, Unwinds}
use Rattle.lowering_expressions.specs.Scope.{except_names, filter_names, finally_names, finally_scope, in_loop, in_try, in_except, in_guarded}
use Rattle.seh_ir.specs.Regions.{region, except_kind, statement_regions, statements_regions}
use Rattle.seh_ir.specs.ColdParts.{branch_cold, statement_cold, statements_cold}
use Rattle.seh_ir.specs.Funclets.{filter_funclets, finally_begin, finally_funclet, in_funclet, statement_funclets, statements_funclets}
use Rattle.text_bounds.proofs.ColdParts.{branch_count}
use Rattle.text_bounds.proofs.ExpressionRooms.{room_append, expression_bound}

-- ---- funclets: their code, their scope records and their cold parts

abbrev pub body_room : LinearBody → ℕ
body_room b = code_room b.code + 16 * length b.regions + cold_room * length b.cold

abbrev pub funclets_room : List LinearFunclet → ℕ
funclets_room [] = 0
funclets_room (f ∷ fs) = body_room f.body + funclets_room fs

pub funclets_append : (fs gs : List LinearFunclet)
    → funclets_room (fs ++ gs) ≡ funclets_room fs + funclets_room gs
funclets_append [] gs = sym (zero-add (funclets_room gs))
funclets_append (f ∷ fs) gs = let r = funclets_append fs gs in omega arith

-- ---- ways out, and expressions

jumped : (w : Way) → code_room (jump_code w) ≤ 16
jumped Nowhere = omega arith
jumped (Jumps label) = omega arith
jumped (Unwinds label) = omega arith

left_by : (o : Option ℕ) → instruction_room (leave_code o) ≤ 5
left_by None = omega arith
left_by (Some label) = omega arith

discarded : (names : Names) (e : Option Expression) (at : ℕ)
    → code_room (discarded_code names e at) ≤ discarded_room e
discarded names None at = omega arith
discarded names (Some e) at = let a = expression_bound names e 0 at in
    omega (arith, room_append (expression_code names e 0 at) (instructions.Separator ∷ []))

returned : (names : Names) (e : Option Expression) (at : ℕ)
    → code_room (returned_code names e at) ≤ returned_room e
returned names None at = omega arith
returned names (Some e) at = expression_bound names e 0 at

tested : (names : Names) (e : Option Expression) (label at : ℕ)
    → code_room (condition_code names e label at) ≤ condition_room e
tested names None label at = omega arith
tested names (Some e) label at = let a = expression_bound names e 0 at in
    omega (
      arith,
      room_append (expression_code names e 0 at)
          (instructions.JumpIfZero (Temporary 0) label ∷ []),
    )

initialised : (names : Names) (x : ℕ) (e : Option Expression) (at : ℕ)
    → code_room (initialiser_code names x e at) ≤ initialiser_room e
initialised names x None at = omega arith
initialised names x (Some e) at = let a = expression_bound names e 0 at in
    omega (
      arith,
      room_append (expression_code names e 0 at)
          (copy (Local x) (Temporary 0) ∷ instructions.Separator ∷ []),
    )

-- ---- variables on the data stack

put_initialised : (names : Names) (v : StackedVariable) (e : Option Expression) (at : ℕ)
    → code_room (put_initialiser_code names v e at) ≤ put_initialiser_room e
put_initialised names v None at = omega arith
put_initialised names v (Some e) at = let a = expression_bound names e 0 at in
    omega (arith, room_append (expression_code names e 0 at) (put_code v))

stacked_bound : (names : Names) (v : StackedVariable) (elements : Option ℕ) (e : Option Expression)
    (at : ℕ) → code_room (stacked_declared_code names v elements e at) ≤ stacked_room elements e
stacked_bound names v None e at = let a = put_initialised names v e (at + 3) in omega arith
stacked_bound names v (Some n) e at = omega arith

declared_at_bound : (names : Names) (o : Option StackedVariable) (x : ℕ) (e : Option Expression)
    (at : ℕ) → code_room (declared_at_code names o x e at) ≤ declared_at_room o e
declared_at_bound names None x e at = let a = initialised names x e (at + 1) in omega arith
declared_at_bound names (Some v) x e at = stacked_bound names v v.elements e at

declared_bound : (names : Names) (d : Declared) (at : ℕ)
    → code_room (declared_code names d at) ≤ declared_room d
declared_bound names d at = declared_at_bound names d.stacked d.local d.value at

-- the pointer is set where a block begins
reset : (o : Option DataPart) → instruction_room (reset_code o) ≤ 69
reset None = omega arith
reset (Some part) = omega arith

finally_begins : (o : Option DataPart) (x : ℕ) → code_room (finally_begin o x) ≤ 96
finally_begins None x = omega arith
finally_begins (Some part) x = omega arith

-- ---- declarations, and filters

all_declared : (names : Names) (ds : List Declared) (at : ℕ)
    → code_room (all_declared_code names ds at) ≤ all_declared_room ds
all_declared names [] at = omega arith
all_declared names (d ∷ ds) at =
    let a = declared_bound names d at in
    let b = all_declared names ds (at + declared_size d) in
    omega (
      arith,
      room_append (declared_code names d at)
          (all_declared_code names ds (at + declared_size d)),
    )

filtered : (owner : Owner) (names : Names) (f : Filter)
    → funclets_room (filter_funclets owner names f) ≤ filter_room f
filtered owner names Always = omega arith
filtered owner names (Funclet k e) = let a = expression_bound names e 0 0 in
    omega (
      arith,
      room_append (expression_code names e 0 0)
          (instructions.Return (Temporary 0) ∷ []),
    )

-- ---- statements: the code is placed at one instruction, and the regions and cold parts at another

abbrev Bound : LoweringContext → ℕ → ℕ → Owner → Names → Statement → Type 0
Bound scope at from owner names s = code_room (statement_code scope s at)
    + 16 * length (statement_regions s from) + funclets_room (statement_funclets owner names s)
    + cold_room * length (statement_cold s from) ≤ statement_room s

abbrev Bounds : LoweringContext → ℕ → ℕ → Owner → Names → Statements → Type 0
Bounds scope at from owner names ss = code_room (statements_code scope ss at)
    + 16 * length (statements_regions ss from) + funclets_room (statements_funclets owner names ss)
    + cold_room * length (statements_cold ss from) ≤ statements_room ss

mutual
  statement_bound : (scope : LoweringContext) (at from : ℕ) (owner : Owner) (names : Names)
      (s : Statement) → Bound scope at from owner names s
  statement_bound scope at from owner names (Declare d) = let a = declared_bound scope.names d at in
      omega arith
  statement_bound scope at from owner names (Block ss) = statements_bound scope at from owner names
      ss
  statement_bound scope at from owner names (Evaluate e) = let a = discarded scope.names e at in
      omega arith
  statement_bound scope at from owner names (If c s) =
      let then = at + expression_size c + 1 in
      let a = expression_bound scope.names c 0 at in
      let b = statement_bound scope then (from + expression_size c + 1) owner names s in
      omega (
        arith,
        room_append (expression_code scope.names c 0 at)
            (instructions.JumpIfZero (Temporary 0) (then + statement_size s)
            ∷ statement_code scope s then),
      )
  statement_bound scope at from owner names (IfElse c s t) =
      let then = at + expression_size c + 1 in
      let otherwise = then + statement_size s + 1 in
      let then' = from + expression_size c + 1 in
      let otherwise' = then' + statement_size s + 1 in
      let a = expression_bound scope.names c 0 at in
      let b = statement_bound scope then then' owner names s in
      let d = statement_bound scope otherwise otherwise' owner names t in
      let end = otherwise + statement_size t + 1 in
      let joins = instructions.Jump end ∷ [] in
      let last = instructions.Jump end ∷ (statement_code scope t otherwise ++ joins) in
      let parts = branch_count t otherwise' in
      omega (
        arith,
        room_append (expression_code scope.names c 0 at)
            (instructions.JumpIfZero (Temporary 0) otherwise ∷
            (statement_code scope s then ++ last)),
        room_append (statement_code scope s then) last,
        room_append (statement_code scope t otherwise) joins,
        length-append (statement_regions s then') (statement_regions t otherwise'),
        length-append (statement_cold s then') (branch_cold t otherwise'),
        funclets_append (statement_funclets owner names s) (statement_funclets owner names t),
      )
  statement_bound scope at from owner names (For ds first c next s) =
      let begin = at + all_declared_size ds in
      let iteration = begin + discarded_size first in
      let body = iteration + condition_size c in
      let again = body + statement_size s in
      let end = again + 1 + discarded_size next + 1 in
      let a = all_declared scope.names ds at in
      let b = discarded scope.names first begin in
      let d = tested scope.names c end iteration in
      let e = statement_bound (in_loop end again scope) body
      (from + all_declared_size ds + discarded_size first + condition_size c) owner names s in
      let f = discarded scope.names next (again + 1) in
      let step = discarded_code scope.names next (again + 1) in
      let repeats = instructions.Jump iteration ∷ instructions.Separator ∷ [] in
      let last = instructions.Separator ∷ (step ++ repeats) in
      let inner = statement_code (in_loop end again scope) s body ++ last in
      let test = condition_code scope.names c end iteration in
      omega (
        arith,
        room_append (all_declared_code scope.names ds at)
            (discarded_code scope.names first begin ++ (test ++ inner)),
        room_append (discarded_code scope.names first begin) (test ++ inner),
        room_append test inner,
        room_append (statement_code (in_loop end again scope) s body) last,
        room_append step repeats,
      )
  statement_bound scope at from owner names (DoWhile s c) =
      let again = at + statement_size s in
      let end = again + 1 + expression_size c + 2 in
      let a = statement_bound (in_loop end again scope) at from owner names s in
      let b = expression_bound scope.names c 0 (again + 1) in
      omega (
        arith,
        room_append (statement_code (in_loop end again scope) s at)
            (instructions.Separator ∷ (expression_code scope.names c 0 (again + 1) ++ repeated end
            at)),
        room_append (expression_code scope.names c 0 (again + 1)) (repeated end at),
      )
  statement_bound scope at from owner names (statements.Return e) =
      let a = returned scope.names e at in
      let b = jumped scope.exit in
      omega (arith, room_append (returned_code scope.names e at) (return_code scope.exit))
  statement_bound scope at from owner names Break = let a = jumped scope.loop_end in omega arith
  statement_bound scope at from owner names Continue = let a = jumped scope.loop_next in omega arith
  statement_bound scope at from owner names Leave = let a = left_by scope.leave in omega arith
  statement_bound scope at from owner names (TryExcept body filter block) =
      let target = at + statements_size body + 1 in
      let end = target + 2 + statements_size block in
      let target' = from + statements_size body + 1 in
      let own = region from target' (except_kind filter target') in
      let a = statements_bound (in_try end scope) at from owner names body in
      let b = statements_bound (in_except scope) (target + 2) (target' + 2) owner
      (except_names names) block in
      let d = filtered owner (filter_names names) filter in
      let r = reset scope.names.part in
      let inner = filter_funclets owner (filter_names names) filter in
      let last = statements_funclets owner (except_names names) block in
      omega (
        arith,
        room_append (statements_code (in_try end scope) body at)
            (landed scope.names.part end scope.names.free
            ++ statements_code (in_except scope) block (target + 2)),
        length-append (statements_regions body from) (own ∷ statements_regions block (target' + 2)),
        funclets_append (statements_funclets owner names body) (inner ++ last),
        funclets_append inner last,
      )
  statement_bound scope at from owner names (TryFinally body k last) =
      let guarded = in_guarded (at + statements_size body) scope in
      let inner = finally_scope names in
      let owner' = in_funclet (k - 1) owner in
      let names' = finally_names names in
      let a = statements_bound guarded at from owner names body in
      let b = statements_bound inner 3 3 owner' names' last in
      let r = finally_begins names.part names.free in
      let ends = instructions.Return (Local names.free) ∷ [] in
      omega (
        arith,
        room_append (statements_code guarded body at)
            (instructions.Separator ∷ instructions.CallFinally (k - 1) ∷ instructions.Separator ∷
            []),
        length-append (statements_regions body from)
            (region from (from + statements_size body + 1) (kinds.Finally (k - 1)) ∷ []),
        funclets_append (statements_funclets owner names body)
            (finally_funclet owner names last ∷ statements_funclets owner' names' last),
        room_append (finally_begin names.part names.free) (statements_code inner last 3 ++ ends),
        room_append (statements_code inner last 3) ends,
      )

  pub statements_bound : (scope : LoweringContext) (at from : ℕ) (owner : Owner) (names : Names)
      (ss : Statements) → Bounds scope at from owner names ss
  statements_bound scope at from owner names Empty = omega arith
  statements_bound scope at from owner names (Then s ss) =
      let a = statement_bound scope at from owner names s in
      let b = statements_bound scope (at + statement_size s) (from + statement_size s) owner names
      ss in
      omega (
        arith,
        room_append (statement_code scope s at)
            (statements_code scope ss (at + statement_size s)),
        length-append (statement_regions s from) (statements_regions ss (from + statement_size s)),
        length-append (statement_cold s from) (statements_cold ss (from + statement_size s)),
        funclets_append (statement_funclets owner names s) (statements_funclets owner names ss),
      )
