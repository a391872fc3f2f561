-- A program imports the services of the built-in functions that it calls.
use Rattle.std.proofs.Common.{◌≡◌, ℕ, zero, suc, true, List, [], ◌∷◌, Some, refl, ap, ◌∙◌}
use Rattle.std.specs.Prelude.{slice_get}
use Rattle.std.proofs.lemmas.Bool.{or_left, or_right, eq-eqb}
use Rattle.c_operations.specs.declared.built_in.BuiltIn.{BuiltIn}
use Rattle.c_operations.specs.declared.built_in.BuiltIn.TheVariants.{Put, Protect, RaiseException, Walk, AddVectored, RemoveVectored}
use Rattle.host_layout.specs.Imported.{number_of}
use Rattle.linear_code.specs.declared.instruction.Instruction.TheVariants as instructions
use Rattle.linear_machine.specs.BuiltInCalls.{CallsBuiltIn}
use Rattle.image_link.specs.Services.{imported_service_of, is_call, has_call, functions_call, funclets_call, calls, IsImported}
use Rattle.image_states.specs.Words.{Instruction, LinearFunction, LinearFunclet, LinearProgram, BodyName, FunctionBody, FuncletBody, body_of, function_body, funclet_body, instruction_in}
use Rattle.image_states.proofs.Lemmas.{none_some, some_same}

module _ (k : BuiltIn) where
  call_is : (first : ℕ) → is_call (imported_service_of k) (instructions.CallBuiltIn k first) ≡ true
  call_is first =
      eq-eqb (number_of (imported_service_of k)) (number_of (imported_service_of k)) refl

  code_calls : (code : List Instruction) (label first : ℕ)
      → slice_get code label ≡ Some (instructions.CallBuiltIn k first)
      → has_call (imported_service_of k) code ≡ true
  code_calls [] label first e = absurd (none_some e)
  code_calls (i ∷ code) zero first e =
      or_left (is_call (imported_service_of k) i) (has_call (imported_service_of k) code)
      (ap (is_call (imported_service_of k)) (some_same e) ∙ call_is first)
  code_calls (i ∷ code) (suc label) first e =
      or_right (is_call (imported_service_of k) i) (has_call (imported_service_of k) code)
      (code_calls code label first e)

  function_calls : (fs : List LinearFunction) (f label first : ℕ)
      → instruction_in (function_body (slice_get fs f)) label
      ≡ Some (instructions.CallBuiltIn k first) → functions_call (imported_service_of k) fs ≡ true
  function_calls [] f label first e = absurd (none_some e)
  function_calls (g ∷ fs) zero label first e =
      or_left (has_call (imported_service_of k) g.body.code)
      (functions_call (imported_service_of k) fs)
      (code_calls g.body.code label first e)
  function_calls (g ∷ fs) (suc f) label first e =
      or_right (has_call (imported_service_of k) g.body.code)
      (functions_call (imported_service_of k) fs)
      (function_calls fs f label first e)

  funclet_calls : (fs : List LinearFunclet) (f label first : ℕ)
      → instruction_in (funclet_body (slice_get fs f)) label
      ≡ Some (instructions.CallBuiltIn k first) → funclets_call (imported_service_of k) fs ≡ true
  funclet_calls [] f label first e = absurd (none_some e)
  funclet_calls (g ∷ fs) zero label first e =
      or_left (has_call (imported_service_of k) g.body.code)
      (funclets_call (imported_service_of k) fs)
      (code_calls g.body.code label first e)
  funclet_calls (g ∷ fs) (suc f) label first e =
      or_right (has_call (imported_service_of k) g.body.code)
      (funclets_call (imported_service_of k) fs)
      (funclet_calls fs f label first e)

  body_calls : (program : LinearProgram) (name : BodyName) (label first : ℕ)
      → instruction_in (body_of program name) label ≡ Some (instructions.CallBuiltIn k first)
      → calls (imported_service_of k) program ≡ true
  body_calls program (FunctionBody f) label first e =
      or_left (functions_call (imported_service_of k) program.functions)
      (funclets_call (imported_service_of k) program.funclets)
      (function_calls program.functions f label first e)
  body_calls program (FuncletBody f) label first e =
      or_right (functions_call (imported_service_of k) program.functions)
      (funclets_call (imported_service_of k) program.funclets)
      (funclet_calls program.funclets f label first e)

  -- the service of a function that is called is called
  pub called : (program : LinearProgram) → CallsBuiltIn program k
      → calls (imported_service_of k) program ≡ true
  called program c = body_calls program c.name c.label c.first c.calls

-- and imported
pub called_is_imported : (program : LinearProgram) (k : BuiltIn) → CallsBuiltIn program k
    → IsImported program (imported_service_of k)
called_is_imported program Put c = tt
called_is_imported program Protect c = tt
called_is_imported program RaiseException c = tt
called_is_imported program Walk c = called Walk program c
called_is_imported program (AddVectored f) c = called (AddVectored f) program c
called_is_imported program (RemoveVectored f) c = called (RemoveVectored f) program c
