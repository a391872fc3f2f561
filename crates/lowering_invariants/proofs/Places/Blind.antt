-- Only filters read their exception.
use Rattle.std.proofs.Common.{◌≡◌, ℕ, ◌+◌, ◌<◌, true, false, List, [], ◌∷◌, ◌++◌, map, refl, subst, arith}
use Rattle.std.specs.List.{AllByRecursion}
use Rattle.std.specs.Prelude.{slice_get, Option, Some, None}
use Rattle.c_checked.specs.declared.function.DataPart.{DataPart}
use Rattle.seh_ir.specs.Funclets.{finally_begin}
use Rattle.seh_ir.specs.Lowered.{body_start}
use Rattle.seh_ir.specs.Statements.{reset_code}
use Rattle.lowering_invariants.specs.Words.{Field, Program, Function, funclets, functions_sound, Statements, Slot, Local, Instruction, FuncletKind, LinearBody, LinearFunction, LinearFunclet, BodyName, FunctionBody, FuncletBody, function_body, funclet_body, body_of, Names, LoweringContext, finally_scope, statements_code, own_locals, all_locals, scope_of, lowered_function, lowered_funclets, all_funclets, lowered, IsBlind, IsFilterBody, statements_notes, ExpressionFits, LoweredInformsFilters}
use Rattle.linear_code.specs.declared.instruction.Instruction.TheVariants as instructions
use Rattle.linear_code.specs.declared.program.FuncletKind.TheVariants as kinds
use Rattle.lowering_invariants.proofs.Lemmas.{both_left, both_right, all_append, HoldsOfInstructions, statements_all, any_numbers, HoldsOfFunclets, all_funclets_every, StatementsFit, function_fits}
use Rattle.lowering_invariants.proofs.Places.BlindExpressions.{AllBlind, IsOutside, expression_blind}
use Rattle.lowering_invariants.proofs.SeparatorCounts.FirstSeparators.{open_every, begin_every, end_every, code_every}
use Rattle.lowering_invariants.proofs.Stacks.StackTargets.{all_at, same_it}

-- the code of a funclet is such, unless it is a filter's
abbrev IsBlindUnless : FuncletKind → List Instruction → Type 0
IsBlindUnless kinds.Filter code = Unit {0}
IsBlindUnless (kinds.Finally flag) code = AllBlind code

abbrev IsFine : LinearFunclet → Type 0
IsFine f = IsBlindUnless f.kind f.body.code

abbrev AllFine : List LinearFunclet → Type 0
AllFine fs = AllByRecursion IsFine fs

-- ---- statements

-- outside a filter
abbrev Outside : Names → ℕ → Type 0
Outside names m = IsOutside names.exception

reset_blind : (part : Option DataPart) → IsBlind (reset_code part)
reset_blind None = tt
reset_blind (Some p) = tt

begin_blind : (part : Option DataPart) (x : ℕ) → AllBlind (finally_begin part x)
begin_blind None x = (tt, (tt, (tt, tt)))
begin_blind (Some p) x = (tt, (tt, (tt, tt)))

module _ (program : Program) (own : ℕ) where
  instructions_blind : HoldsOfInstructions IsBlind (λ label. Unit {0}) (λ label. Unit {0}) Outside
      (ExpressionFits program own false) (λ x. x < own)
  instructions_blind = record {
    of_value = λ names m e at o f. expression_blind program own names o e 0 at f;
    of_constant = tt;
    of_zeroed = λ x d. tt;
    of_kept = λ x d. tt;
    of_separator = tt;
    of_jump = λ label l. tt;
    of_test = λ label l. tt;
    of_unwind = λ label l. tt;
    of_exit_jump = λ label l. tt;
    of_exit = λ label l. tt;
    of_put = λ v d. tt;
    of_counted = λ names m k le n. tt;
    of_rest_test = λ names m label le n l. tt;
    of_cleared = λ names m v le n d. tt;
    of_reset = λ names m le n. reset_blind names.part;
    of_landing = λ names m le o. tt;
    of_finally = λ k. tt;
  }

  statements_blind : (ss : Statements) (scope : LoweringContext) (at : ℕ)
      → IsOutside scope.names.exception → StatementsFit program own ss
      → AllBlind (statements_code scope ss at)
  statements_blind ss scope at o h = statements_all IsBlind Outside
      (ExpressionFits program own false)
      (ExpressionFits program own true) (λ x. x < own) (λ names m k le o. tt) instructions_blind ss
      scope at (statements_notes ss) (omega arith) o h

  funclets_fine : HoldsOfFunclets IsFine (λ owner. Unit {0}) (λ k. Unit {0}) Outside
      (ExpressionFits program own false) (ExpressionFits program own true) (λ x. x < own)
  funclets_fine = record {
    in_except = λ names m k le o. tt;
    in_finally = λ names m k le o. o;
    in_block = λ owner k o t. tt;
    of_filter = λ owner names m e o n f. tt;
    of_block = λ owner names m last o le n h. all_append IsBlind
        (finally_begin names.part names.free)
        (statements_code (finally_scope names) last 3 ++ instructions.Return (Local names.free)
        ∷ [])
        (begin_blind names.part names.free)
        (all_append IsBlind (statements_code (finally_scope names) last 3)
        (instructions.Return (Local names.free) ∷ [])
        (statements_blind last (finally_scope names) 3 n h) (tt, tt));
  }

-- ---- programs

module _ (program : Program) where
  functions_blind : (fs : List Function) → functions_sound program.functions fs ≡ true
      → AllByRecursion (λ (f : LinearFunction). AllBlind f.body.code) (map lowered_function fs)
  functions_blind [] ok = tt
  functions_blind (f ∷ fs) ok = (
    code_every IsBlind f
        (begin_every IsBlind tt f
        (open_every IsBlind f.data_frame (λ base size. tt) (λ base p. tt)))
        (statements_blind program (own_locals f) f.body (scope_of f) (body_start f) tt
        (function_fits program f (both_left _ _ ok)))
        (end_every IsBlind tt (λ base. tt) tt f),
    functions_blind fs (both_right _ _ ok),
  )

  fine : (number : ℕ) (fs : List Function) → functions_sound program.functions fs ≡ true
      → AllFine (all_funclets number fs)
  fine number [] ok = tt
  fine number (f ∷ fs) ok =
      let own = own_locals f in
      all_append IsFine (lowered_funclets number f) (all_funclets (number + 1) fs)
      (all_funclets_every IsFine (λ owner. Unit {0}) (λ k. Unit {0}) Outside
      (ExpressionFits program own false) (ExpressionFits program own true) (λ x. x < own)
      (funclets_fine program own) f.body
      (record { function = number; locals = all_locals f; parent = None }) (scope_of f).names
      (statements_notes f.body) (omega arith) tt tt (function_fits program f (both_left _ _ ok))
      (any_numbers (funclets f.body)))
      (fine (number + 1) fs (both_right _ _ ok))

  -- ---- bodies

  reads : (code : List Instruction) (label : ℕ) (to : Slot) (field : Field) → AllBlind code
      → slice_get code label ≡ Some (instructions.Information to field) → ⊥
  reads code label to field h e = all_at IsBlind code label (instructions.Information to field) h e

  in_function : (o : Option LinearFunction) (k : ℕ) (b : LinearBody)
      → functions_sound program.functions program.functions ≡ true
      → slice_get (lowered program).functions k ≡ o → function_body o ≡ Some b → AllBlind b.code
  in_function None k b ok e g = absurd (cc)
  in_function (Some f) k b ok e g =
      subst (λ (x : LinearBody). AllBlind x.code) (same_it f.body b g)
      (all_at (λ (f : LinearFunction). AllBlind f.body.code) (lowered program).functions k f
      (functions_blind program.functions ok) e)

  in_funclet_of : (f : LinearFunclet) (k : ℕ) (b : LinearBody) (label : ℕ) (to : Slot)
      (field : Field) → IsFine f → slice_get (lowered program).funclets k ≡ Some f → f.body ≡ b
      → slice_get b.code label ≡ Some (instructions.Information to field)
      → IsFilterBody (lowered program) (FuncletBody k)
  in_funclet_of f k b label to field h e same at = by f.kind refl
    where
      by : (kind : FuncletKind) → f.kind ≡ kind → IsFilterBody (lowered program) (FuncletBody k)
      by kinds.Filter q = record { number = k; is = refl; funclet = f; there = e; kind = q }
      by (kinds.Finally flag) q = absurd (reads b.code label to field
          (subst (λ (x : LinearBody). AllBlind x.code) same
          (subst (λ (z : FuncletKind). IsBlindUnless z f.body.code) q h)) at)

  in_funclet_if : (o : Option LinearFunclet) (k : ℕ) (b : LinearBody) (label : ℕ) (to : Slot)
      (field : Field) → functions_sound program.functions program.functions ≡ true
      → slice_get (lowered program).funclets k ≡ o → funclet_body o ≡ Some b
      → slice_get b.code label ≡ Some (instructions.Information to field)
      → IsFilterBody (lowered program) (FuncletBody k)
  in_funclet_if None k b label to field ok e g at = absurd (cc)
  in_funclet_if (Some f) k b label to field ok e g at =
      in_funclet_of f k b label to field (all_at IsFine (lowered program).funclets k f
      (fine 0 program.functions ok) e) e (same_it f.body b g) at

  in_body : functions_sound program.functions program.functions ≡ true
      → (name : BodyName) (b : LinearBody) (label : ℕ) (to : Slot) (field : Field)
      → body_of (lowered program) name ≡ Some b
      → slice_get b.code label ≡ Some (instructions.Information to field)
      → IsFilterBody (lowered program) name
  in_body ok (FunctionBody k) b label to field e at = absurd
      (reads b.code label to field (in_function (slice_get (lowered program).functions k) k b ok
      refl e) at)
  in_body ok (FuncletBody k) b label to field e at = in_funclet_if
      (slice_get (lowered program).funclets k) k b label to field ok refl e at

pub lowered_informs_filters : LoweredInformsFilters
lowered_informs_filters program h = in_body program
    (both_left _ _ (both_left _ _ (both_left _ _ (both_left _ _ (both_left _ _ h)))))
