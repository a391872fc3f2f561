-- A lowered function begins with at least as many separators as its frame weighs.
use Rattle.std.proofs.Common.{◌≡◌, ℕ, zero, suc, ◌+◌, ◌≤◌, List, [], ◌∷◌, ◌++◌, map, Some, subst, arith}
use Rattle.std.specs.Prelude.{replicate, slice_get}
use Rattle.image_runs.specs.Words.{Program, Function, Instruction, LinearFunction, FunctionBody, body_of, function_body, lowered, lowered_function, weight, separators, separators_in}
use Rattle.c_checked.specs.Program.{frame_surplus, data_surplus}
use Rattle.linear_code.specs.declared.slot.Slot.TheVariants.{Temporary}
use Rattle.linear_code.specs.declared.instruction.Instruction.TheVariants.{Separator, Return}
use Rattle.lowering_expressions.specs.Expressions.{constant}
use Rattle.seh_ir.specs.Lowered.{asking, scope_of, body_start, open_code, close_code}
use Rattle.seh_ir.specs.Statements.{statements_code}

repeated : (n : ℕ) (code : List Instruction) → n ≤ separators (replicate n Separator ++ code)
repeated zero code = omega arith
repeated (suc n) code = let rest = repeated n code in omega arith

begins_with : (n k more : ℕ) (code : List Instruction)
    → 1 + n ≤ separators ((Separator ∷ replicate (n + k + more) Separator) ++ code)
begins_with n k more code = let rest = repeated (n + k + more) code in omega arith

same_function : (f g : LinearFunction) → Some f ≡ Some g → f ≡ g
same_function f g e = cc

in_list : (fs : List Function) (k : ℕ) (f : LinearFunction)
    → slice_get (map lowered_function fs) k ≡ Some f
    → weight f ≤ separators_in (function_body (slice_get (map lowered_function fs) k)) 0
in_list [] k f e = absurd cc
in_list (fn ∷ fs) zero f e =
    subst (λ (g : LinearFunction). weight g
    ≤ separators_in (function_body (slice_get (map lowered_function (fn ∷ fs)) zero)) 0)
    (same_function (lowered_function fn) f e)
    (begins_with (frame_surplus fn) (data_surplus fn) (asking fn) (open_code fn.data_frame
    ++ (statements_code (scope_of fn) fn.body (body_start fn)
    ++ constant 0 0 ∷ (close_code fn.data_frame ++ Return (Temporary 0) ∷ []))))
in_list (fn ∷ fs) (suc k) f e = in_list fs k f e

pub first_separators_weigh : (program : Program) (k : ℕ) (f : LinearFunction)
    → slice_get (lowered program).functions k ≡ Some f
    → weight f ≤ separators_in (body_of (lowered program) (FunctionBody k)) 0
first_separators_weigh program k f e = in_list program.functions k f e
