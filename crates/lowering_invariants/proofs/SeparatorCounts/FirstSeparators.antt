-- The code of a function: it begins with its separators, and with what takes its part of the data
-- stack; then come its body and its end.
use Rattle.std.proofs.Common.{◌≡◌, ◌≤◌, ℕ, zero, suc, ◌+◌, List, [], ◌∷◌, ◌++◌, length, replicate, Option, None, Some, sym, subst, ◌∙◌, arith, append_assoc}
use Rattle.std.specs.List.{AllByRecursion}
use Rattle.c_checked.specs.Program.{DataFrame}
use Rattle.c_checked.specs.declared.function.StackedParameter.{StackedParameter}
use Rattle.c_operations.specs.declared.operation.Operation.TheVariants.{Allocate, Place}
use Rattle.seh_ir.specs.Lowered.{bring_code, open_code, close_code, body_start, function_code}
use Rattle.seh_ir.specs.Statements.{set_pointer}
use Rattle.seh_ir.proofs.FunctionCodes.{start_length}
use Rattle.lowering_invariants.specs.Words.{Function, surplus, asking, Local, Temporary, Instruction, Separator, constant, statements_code, first_separators, scope_of, lowered_function}
use Rattle.linear_code.specs.declared.instruction.Instruction.TheVariants.{Compute, Return}
use Rattle.lowering_invariants.proofs.Lemmas.{all_append, IsSegmentAt, back, whole_is_at}

-- what holds of a separator holds of so many
separators_every : (P : Instruction → Type 0) → P Separator → (n : ℕ)
    → AllByRecursion P (replicate n Separator)
separators_every P h zero = tt
separators_every P h (suc n) = (h, separators_every P h n)

pub first_every : (P : Instruction → Type 0) → P Separator → (f : Function)
    → AllByRecursion P (first_separators f)
first_every P h f = (h, separators_every P h (surplus f + asking f))

-- what takes a part of the data stack
pub open_every : (P : Instruction → Type 0) (d : Option DataFrame)
    → ((base size : ℕ) → P (Compute (Local base) (Allocate size) (Local base) (Local base)))
    → ((base : ℕ) (p : StackedParameter)
    → P (Compute (Local p.parameter) (Place p.width p.offset) (Local base) (Local p.parameter)))
    → AllByRecursion P (open_code d)
open_every P None of_allocate of_place = tt
open_every P (Some d) of_allocate of_place = (of_allocate d.base d.size, brought d.parameters)
  where
    brought : (ps : List StackedParameter) → AllByRecursion P (bring_code d.base ps)
    brought [] = tt
    brought (p ∷ ps) = (of_place d.base p, brought ps)

-- where the code of the body begins, and where it ends
abbrev pub function_begin : Function → List Instruction
function_begin f = first_separators f ++ open_code f.data_frame

abbrev pub function_body_code : Function → List Instruction
function_body_code f = statements_code (scope_of f) f.body (body_start f)

-- a function returns 0 at its end, and what its first temporary holds at its exit, where it gives
-- its part of the data stack back
abbrev pub function_end : Function → List Instruction
function_end f = constant 0 0 ∷ (close_code f.data_frame ++ Return (Temporary 0) ∷ [])

pub begin_every : (P : Instruction → Type 0) → P Separator → (f : Function)
    → AllByRecursion P (open_code f.data_frame) → AllByRecursion P (function_begin f)
begin_every P h f opens =
    all_append P (first_separators f) (open_code f.data_frame) (first_every P h f) opens

pub end_every : (P : Instruction → Type 0) → P (constant 0 0)
    → ((base : ℕ) → P (set_pointer base 0))
    → P (Return (Temporary 0)) → (f : Function) → AllByRecursion P (function_end f)
end_every P c s r f = (c, of f.data_frame)
  where
    of : (d : Option DataFrame) → AllByRecursion P (close_code d ++ Return (Temporary 0) ∷ [])
    of None = (r, tt)
    of (Some d) = (s d.base, (r, tt))

pub begin_length : (f : Function) → length (function_begin f) ≡ body_start f
begin_length f = start_length f

pub end_length : (f : Function) → 2 ≤ length (function_end f)
end_length f = of f.data_frame
  where
    of : (d : Option DataFrame) → 2 ≤ length (constant 0 0
        ∷ (close_code d ++ Return (Temporary 0) ∷ []))
    of None = omega arith
    of (Some d) = omega arith

-- the three of them
pub code_is : (f : Function) → (function_begin f ++ function_body_code f) ++ function_end f
    ≡ function_code f
code_is f =
    append_assoc (function_begin f) (function_body_code f) (function_end f)
    ∙ append_assoc (first_separators f) (open_code f.data_frame)
    (function_body_code f ++ function_end f)

-- what holds of each
pub code_every : (P : Instruction → Type 0) (f : Function) → AllByRecursion P (function_begin f)
    → AllByRecursion P (function_body_code f) → AllByRecursion P (function_end f)
    → AllByRecursion P (function_code f)
code_every P f begins body ends =
    subst (λ code. AllByRecursion P code) (code_is f)
    (all_append P (function_begin f ++ function_body_code f) (function_end f)
    (all_append P (function_begin f) (function_body_code f) begins body) ends)

-- the code of a function's body is at its place
pub body_at : (f : Function) → IsSegmentAt (lowered_function f).body.code (body_start f)
    (function_body_code f ++ function_end f)
body_at f =
    let code = (lowered_function f).body.code in
    let l = begin_length f in
    let rest = function_body_code f ++ function_end f in
    back code 0 (body_start f) (function_begin f) rest (omega arith)
    (subst (IsSegmentAt code 0)
    (sym (append_assoc (first_separators f) (open_code f.data_frame) rest)) (whole_is_at code))
