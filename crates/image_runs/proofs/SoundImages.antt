-- All that steps of the machine ask of the image of a sound program.
use Rattle.std.proofs.Common.{◌≡◌, ℕ, ◌<◌, [], ◌∷◌, ◌++◌, length, get_or, Some, refl, sym, ap, ◌∙◌, arith, length-append}
use Rattle.std.proofs.lemmas.Option.{slice_get-get_or}
use Rattle.image_runs.specs.Words.{Program, Local, Temporary, LinearBody, LinearProgram, FunctionBody, function_body, body_of, lowered, no_function, functions_of, funclets_of, plan_of, sites_of, IsLinkable, IsSoundImage, FunctionsApart, IsField, IsPlain, LoweredHasImage}
use Rattle.c_operations.specs.declared.field.Field.{Field}
use Rattle.linear_code.specs.declared.instruction.Instruction.TheVariants as instructions
use Rattle.linear_code.specs.declared.program.FuncletKind.{FuncletKind}
use Rattle.linear_code.specs.declared.program.FuncletKind.TheVariants.{Filter, Finally}
use Rattle.linear_machine.specs.Unwinding.{flag_in, flag_of}
use Rattle.lowering_expressions.specs.Scope.{finally_scope}
use Rattle.lowering_expressions.specs.Expressions.{expression_code}
use Rattle.seh_ir.specs.Funclets.{finally_begin}
use Rattle.seh_ir.specs.Statements.{statements_code}
use Rattle.lowering_invariants.proofs.Regions.CallRegions.{has_same_regions}
use Rattle.lowering_invariants.proofs.Flags.{has_flags}
use Rattle.lowering_invariants.proofs.SeparatorCounts.BlockSeparators.{lowered_is_followed}
use Rattle.lowering_invariants.proofs.Labels.UnwindLabels.{lowered_stays_inside}
use Rattle.lowering_invariants.proofs.Places.Blind.{lowered_informs_filters}
use Rattle.lowering_invariants.proofs.Regions.ReturnRegions.{lowered_is_apart}
use Rattle.lowering_invariants.proofs.EveryBody.{every_body}
use Rattle.image_runs.proofs.Lemmas.{lowered_is_whole, all_at, images_are_programs}
use Rattle.lowering_invariants.proofs.Room.{body_small, has_room}
use Rattle.x64_templates.specs.Exceptions as exceptions
use Rattle.c_operations.specs.declared.field.Field.TheVariants as fields
use Rattle.match_turns.specs.FilterInformation.{FiltersReadInformation}
use Rattle.match_turns.specs.FuncletEntry.{FlagsFit}
use Rattle.image_states.proofs.Leaves.{leaves_call_nothing, functions_apart}
use Rattle.image_runs.proofs.ImageCode.{lowered_is_compiled}

flag_kind : (kind : FuncletKind) (flag : ℕ) → flag_in kind ≡ Some flag → kind ≡ Finally flag
flag_kind Filter flag e = absurd (cc)
flag_kind (Finally own) flag e = ap Finally (same_flag own flag e)
  where
    same_flag : (x y : ℕ) → Some x ≡ Some y → x ≡ y
    same_flag x y e = cc

-- a field that may be read in linear code may be read by a template
same_field : (field : Field) → IsField field → exceptions.IsField field
same_field fields.ExceptionCode h = tt
same_field fields.ExceptionFlags h = tt
same_field fields.NumberParameters h = tt
same_field (fields.ExceptionInformation k) h = h

module _ (program : Program) (l : IsLinkable program) where
  abbrev linear : LinearProgram
  linear = lowered program

  -- code that ends with two instructions isn't empty
  some_code : (k : ℕ) (b : LinearBody) → body_of linear (FunctionBody k) ≡ Some b
      → 0 < length b.code
  some_code k b e = every_body (λ (b : LinearBody). 0 < length b.code)
      (λ owner names e. (let n = length-append (expression_code names e 0 0)
      (instructions.Return (Temporary 0) ∷ []) in omega arith))
      (λ owner names last.
      (let code = statements_code (finally_scope names) last 3 in
      let ends = instructions.Return (Local names.free) ∷ [] in
      let n = length-append code ends in
      let m = length-append (finally_begin names.part names.free) (code ++ ends) in omega arith))
      (λ f. omega arith)
      program (FunctionBody k) b e

  apart : FunctionsApart linear (plan_of linear) (sites_of linear)
  apart f k lt within =
      let function = get_or linear.functions f no_function in
      let there : body_of linear (FunctionBody f)
      ≡ Some function.body = ap function_body
      (slice_get-get_or linear.functions f no_function lt) in
      functions_apart linear (lowered_is_compiled program l) f k function.body there
      (some_code f function.body there) within

  flags : FlagsFit linear
  flags k flag f at e = has_flags program k flag f at
      (flag_kind f.kind flag (sym (ap flag_of at) ∙ e))

  informs : FiltersReadInformation linear
  informs name b label to field is at =
      let filter = lowered_informs_filters program l.sound name b label to field is at in
      let plain = all_at (IsPlain b.locals) b.code label (instructions.Information to field)
      (body_small program l.sound l.shallow name b is).code at in (
        record {
          number = filter.number;
          is = filter.is;
          funclet = filter.funclet;
          there = filter.there;
          kind = filter.kind;
        },
        same_field field plain.1,
      )

  pub image : IsSoundImage (functions_of linear) (funclets_of linear) linear (plan_of linear)
      (sites_of linear)
  image = record {
    image = images_are_programs linear (lowered_is_compiled program l);
    made = record {
      whole = lowered_is_whole program l.sound;
      room = has_room program l.sound l.shallow;
      apart = lowered_is_apart program;
      leaves = λ name b label i is leaf there. leaves_call_nothing linear
          (lowered_is_compiled program l) name b label i is leaf there;
    };
    apart = apart;
    flags = flags;
    separators = λ name b label k is there. lowered_is_followed program name b is label
        (instructions.CallFinally k) there refl;
    followed = lowered_is_followed program;
    inside = lowered_stays_inside program;
    informs = informs;
    regions = has_same_regions program;
  }

pub lowered_has_image : LoweredHasImage
lowered_has_image program l = image program l
