-- Each call in the code of an expression has as many arguments as its function takes, and what may
-- fault reads temporaries alone.
use Rattle.std.proofs.Common.{ℕ, ◌+◌, List, ◌++◌}
use Rattle.std.specs.List.{AllByRecursion}
use Rattle.std.specs.Prelude.{Bool}
use Rattle.lowering_invariants.specs.Words.{BuiltIn, Put, Protect, RaiseException, Walk, AddVectored, RemoveVectored, Operation, Expression, Program, Temporary, Instruction, LinearProgram, BodyName, ExceptionSource, NoException, OfFilter, KeptIn, Names, code_code, expression_code, IsCalled, IsVectoredHandler, BuiltInFits, ExpressionFits, IsCallee, IsVectoredCallee, IsInstructionOf, ReadsWell}
use Rattle.c_operations.specs.declared.operation.Operation.TheVariants as operations
use Rattle.linear_code.specs.declared.instruction.Instruction.TheVariants as instructions
use Rattle.lowering_invariants.proofs.Lemmas.{all_append}
use Rattle.lowering_invariants.proofs.EveryExpression.{HoldsOfOperations, expression_every}

-- an operation on one temporary and the next
combined : (o : Operation) (d : ℕ) → ReadsWell o (Temporary d) (Temporary (d + 1))
combined (operations.Pure p) d = tt
combined (operations.Allocate n) d = tt
combined (operations.SetPointer n) d = tt
combined (operations.Place w offset) d = tt
combined (operations.Clear w offset) d = tt
combined o d = (tt, tt)

-- what is called is in linear code, as it is in the program
pub record HasCallees (program : Program) (linear : LinearProgram) : Type 0 where
  pub callee : (f count : ℕ) → IsCalled program f count → IsCallee linear f count
  pub handler : (f : ℕ) → IsVectoredHandler program f → IsVectoredCallee linear f

module _ (program : Program) (linear : LinearProgram) (callees : HasCallees program linear)
    (name : BodyName) where
  abbrev pub AllCall : List Instruction → Type 0
  AllCall code = AllByRecursion (IsInstructionOf linear name) code

  pub append : (xs ys : List Instruction) → AllCall xs → AllCall ys → AllCall (xs ++ ys)
  append xs ys h k = all_append (IsInstructionOf linear name) xs ys h k

  operations_call : HoldsOfOperations (IsInstructionOf linear name)
  operations_call = record {
    of_constant = λ d n. tt;
    of_copy = λ to from. tt;
    of_change = λ d o. tt;
    of_combine = λ d o. combined o d;
    of_load = λ w address to. (tt, tt);
    of_place = λ d base. tt;
    of_store = λ access address from to. (tt, tt);
    of_jump = λ label. tt;
    of_test = λ d label. tt;
  }

  code_calls : (s : ExceptionSource) (d : ℕ) → IsInstructionOf linear name (code_code s d)
  code_calls NoException d = tt
  code_calls OfFilter d = tt
  code_calls (KeptIn x) d = tt

  built_in_calls : (k : BuiltIn) (d : ℕ) → BuiltInFits program k
      → IsInstructionOf linear name (instructions.CallBuiltIn k d)
  built_in_calls Put d h = tt
  built_in_calls Protect d h = tt
  built_in_calls RaiseException d h = tt
  built_in_calls Walk d h = tt
  built_in_calls (AddVectored f) d h = callees.handler f h
  built_in_calls (RemoveVectored f) d h = callees.handler f h

  pub expression_calls : (own : ℕ) (info : Bool) (names : Names) (e : Expression) (d at : ℕ)
      → ExpressionFits program own info e → AllCall (expression_code names e d at)
  expression_calls own info names e d at f =
      expression_every (IsInstructionOf linear name) operations_call program own info names
      (record {
        of_call = λ g first count h. callees.callee g count h;
        of_built_in = built_in_calls;
        of_code = code_calls names.exception;
        of_information = λ field to h. tt;
      }) e d at f
