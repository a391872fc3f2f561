-- The linear code of an accepted text within the limits can be linked.
use Rattle.std.specs.Prelude.{slice_get}
use Rattle.std.proofs.Common.{false, ℕ, suc, ◌*◌, ◌≡◌, ◌+◌, ◌<◌, ◌≤◌, List, [], ◌∷◌, length, map, Option, Some, None, refl, ap, arith}
use Rattle.std.specs.List.{AllByRecursion}
use Rattle.std.proofs.lemmas.Bool.{leb-true}
use Rattle.text_bounds.specs.Words.{Program, Function, resolve, Local, Temporary, Instruction, LinearBody, LinearFunclet, LinearProgram, lowered_function, all_funclets, lowered, tables_room, function_bodies, funclet_bodies, IsSound, LinearFunction, FitsSlot, FitsInstruction, FitsBody, FitsFunction, FitsKind, FitsFunclet, text_room, program_tables_room, names_room, other_room, file_of, empty_file, AcceptedFits, TextsFit}
use Rattle.c_operations.specs.declared.field.Field.{Field}
use Rattle.c_operations.specs.declared.field.Field.TheVariants as fields
use Rattle.c_checked.specs.Sound as sound
use Rattle.c_lex.proofs.Covering.{few_tokens, ranges_rise, every_byte}
use Rattle.c_syntax.proofs.NodesOfPrograms.{program as program_nodes}
use Rattle.text_bounds.proofs.Lemmas.{accepted_is_sound}
use Rattle.linear_code.specs.declared.slot.Slot.{Slot}
use Rattle.linear_code.specs.declared.instruction.Instruction.TheVariants as instructions
use Rattle.linear_code.specs.declared.program.FuncletKind.{FuncletKind}
use Rattle.linear_code.specs.declared.program.FuncletKind.TheVariants as kinds
use Rattle.seh_ir.specs.Slots.{slot_temporaries, instruction_temporaries, temporaries_in}
use Rattle.seh_ir.proofs.EveryFunclet.{funclets_any}
use Rattle.lowering_follows.proofs.SoundExpressions.{both_left, both_right}
use Rattle.lowering_invariants.specs.Registers.{HasRegisters}
use Rattle.lowering_invariants.specs.Slots as small
use Rattle.lowering_invariants.specs.Slots.{IsAmong, IsField, IsPlain, IsSmallBody, HasFlag, IsSmallFunclet, IsSmallFunction}
use Rattle.lowering_invariants.proofs.SparedRegisters.{lowered_has}
use Rattle.lowering_invariants.proofs.ColdCode.ColdParts.{lowered_has_cold_parts}
use Rattle.linear_machine.specs.Frames.{FunctionBody, function_body}
use Rattle.text_bounds.proofs.StatementNesting.{accepted_is_small}
use Rattle.x64_emit.specs.Near.{IsFieldNear}
use Rattle.image_link.specs.Routines as links
use Rattle.template_code.specs.ColdParts.{AreParts, is_cold}
use Rattle.text_bounds.proofs.ColdParts.{are_parts, first_hot}
use Rattle.text_bounds.proofs.ProgramRooms.{lowered_is_bounded}
use Rattle.text_bounds.proofs.CodeIsBounded.{code_is_bounded}
use Rattle.text_bounds.proofs.NamesSpelled.{functions_spelled}
use Rattle.text_bounds.proofs.NamesWithin.{functions_named, names_within}
use Rattle.host_layout.specs.declared.limit.TheConstants.{MOST_IMAGE}

-- ---- bodies have the temporaries that their code uses, and cold parts one after another

abbrev IsCounted : LinearBody → Type 0
IsCounted b = b.temporaries ≡ temporaries_in b.code

abbrev HasParts : LinearBody → Type 0
HasParts b = AreParts 0 b.cold (length b.code)

abbrev FunctionIsCounted : LinearFunction → Type 0
FunctionIsCounted f = IsCounted f.body × (0 < length f.body.code)

abbrev FunctionHasParts : LinearFunction → Type 0
FunctionHasParts f = HasParts f.body × (is_cold f.body.cold 0 ≡ false)

-- a funclet has no cold part
abbrev FuncletIsCounted : LinearFunclet → Type 0
FuncletIsCounted f = IsCounted f.body × HasParts f.body

functions_counted : (fs : List Function) → AllByRecursion FunctionIsCounted
    (map lowered_function fs)
functions_counted [] = tt
functions_counted (f ∷ fs) = ((refl, omega arith), functions_counted fs)

funclets_counted : (number : ℕ) (fs : List Function)
    → AllByRecursion FuncletIsCounted (all_funclets number fs)
funclets_counted = funclets_any FuncletIsCounted (λ owner names e. (refl, omega arith))
    (λ owner names last. (refl, omega arith))

-- ---- instructions

slot_fits : (b : LinearBody) (x : Slot) → IsAmong b.locals x → slot_temporaries x ≤ b.temporaries
    → FitsSlot b x
slot_fits b (Local i) h le = h
slot_fits b (Temporary i) h le = omega arith

field_fits : (f : Field) → IsField f → IsFieldNear f
field_fits (fields.ExceptionInformation k) h = h
field_fits fields.ExceptionCode h = tt
field_fits fields.ExceptionFlags h = tt
field_fits fields.NumberParameters h = tt

instruction_fits : (b : LinearBody) (i : Instruction) → IsPlain b.locals i
    → instruction_temporaries i ≤ b.temporaries → FitsInstruction b i
instruction_fits b (instructions.Compute to o first second) h le = (
  slot_fits b to h.0 (omega arith),
  slot_fits b first h.1 (omega arith),
  slot_fits b second h.2 (omega arith),
)
instruction_fits b (instructions.Information to field) h
    le = (slot_fits b to h.0 le, field_fits field h.1)
instruction_fits b (instructions.Landing to) h le = slot_fits b to h le
instruction_fits b (instructions.Jump label) h le = tt
instruction_fits b (instructions.JumpIfZero slot label) h le = slot_fits b slot h le
instruction_fits b (instructions.Call f first count) h le = (omega arith, h)
instruction_fits b (instructions.CallBuiltIn f first) h le = omega arith
instruction_fits b (instructions.CallFinally k) h le = tt
instruction_fits b (instructions.LocalUnwind label) h le = tt
instruction_fits b instructions.Separator h le = tt
instruction_fits b (instructions.Return from) h le = slot_fits b from h le

code_fits : (b : LinearBody) (is : List Instruction) → AllByRecursion (IsPlain b.locals) is
    → temporaries_in is ≤ b.temporaries → AllByRecursion (FitsInstruction b) is
code_fits b [] h le = tt
code_fits b (i ∷ is) h le = (
  instruction_fits b i h.0 (omega arith),
  code_fits b is h.1 (omega arith),
)

-- ---- bodies

body_fits : (b : LinearBody) → IsSmallBody b → IsCounted b → HasParts b
    → 16 * length b.regions ≤ MOST_IMAGE → FitsBody b
body_fits b s c apart few =
    let p = s.passed in
    let t = s.temporaries in
    let l = s.locals in
    record {
      words = omega arith;
      locals = omega arith;
      code = code_fits b b.code s.code (omega arith);
      regions = few;
      cold = apart;
    }

-- what each has by its number, all have
all_of : (P : LinearFunction → Type 0) (fs : List LinearFunction)
    → ((k : ℕ) (f : LinearFunction) → slice_get fs k ≡ Some f → P f) → AllByRecursion P fs
all_of P [] h = tt
all_of P (f ∷ fs) h = (h 0 f refl, all_of P fs (λ k g e. h (suc k) g e))

functions_fit : (fs : List LinearFunction) → AllByRecursion IsSmallFunction fs
    → AllByRecursion FunctionIsCounted fs → AllByRecursion HasRegisters fs
    → AllByRecursion FunctionHasParts fs → tables_room (function_bodies fs) ≤ MOST_IMAGE
    → AllByRecursion FitsFunction fs
functions_fit [] s c r apart few = tt
functions_fit (f ∷ fs) s c r apart few =
    let p = s.0.body.passed in
    let t = s.0.body.temporaries in
    let l = s.0.locals in
    let light = s.0.surplus in (
      record {
        parameters = s.0.parameters;
        registers = r.0.few;
        some = c.0.1;
        first = apart.0.1;
        weight = omega arith;
        words = omega arith;
        body = body_fits f.body s.0.body c.0.0 apart.0.0 (omega arith);
      },
      functions_fit fs s.1 c.1 r.1 apart.1 (omega arith),
    )

kind_fits : (b : LinearBody) (k : FuncletKind) → HasFlag b k → FitsKind b k
kind_fits b kinds.Filter h = tt
kind_fits b (kinds.Finally flag) h = h

parent_fits : (p : LinearProgram) (o : Option ℕ) → small.HasParent p o → links.HasParent p o
parent_fits p None h = tt
parent_fits p (Some index) h = h

funclets_fit : (p : LinearProgram) (fs : List LinearFunclet) → AllByRecursion (IsSmallFunclet p) fs
    → AllByRecursion FuncletIsCounted fs → tables_room (funclet_bodies fs) ≤ MOST_IMAGE
    → AllByRecursion (FitsFunclet p) fs
funclets_fit p [] s c few = tt
funclets_fit p (f ∷ fs) s c few = (
  record {
    kind = kind_fits f.body f.kind s.0.kind;
    function = s.0.function;
    parent = parent_fits p f.parent s.0.parent;
    body = body_fits f.body s.0.body c.0.0 c.0.1 (omega arith);
  },
  funclets_fit p fs s.1 c.1 (omega arith),
)

-- ---- programs

-- how many functions, and how many filters and `__finally` blocks
record IsCountedProgram (program : Program) : Type 0 where
  functions : length program.functions ≤ 4096
  funclets : length (sound.all_funclets program.functions) ≤ 16384

sound_counts : (program : Program) → IsSound program → IsCountedProgram program
sound_counts program h =
    let a = both_left _ _ h in
    record {
      functions = leb-true (length program.functions) 4096 (both_right _ _ (both_left _ _ a));
      funclets = leb-true (length (sound.all_funclets program.functions)) 16384 (both_right _ _ a);
    }

pub accepted_fits : AcceptedFits
accepted_fits text xs within accepted few short named =
    let program = (resolve text xs).program in
    let p = lowered program in
    let s = accepted_is_small text xs within accepted in
    let n = sound_counts program (accepted_is_sound text xs within accepted) in
    let f = n.functions in
    let g = n.funclets in
    let b = lowered_is_bounded program (accepted_is_sound text xs within accepted) in
    let c = code_is_bounded text xs in
    let names = functions_named text (file_of text xs empty_file).scope xs 1 in
    let all : text_room p + program_tables_room p + names_room p.functions + other_room
    ≤ MOST_IMAGE = omega arith in
    let globals = s.globals in
    record {
      globals = omega arith;
      main = s.main;
      functions = functions_fit p.functions s.functions (functions_counted program.functions)
          (all_of HasRegisters p.functions (lowered_has program))
          (all_of FunctionHasParts p.functions (λ k f e.
          (let cold = lowered_has_cold_parts program (FunctionBody k) f.body (ap function_body e) in
          (are_parts f.body cold, first_hot f.body cold))))
          (omega arith);
      funclets = funclets_fit p p.funclets s.funclets (funclets_counted 0 program.functions)
          (omega arith);
      names = named;
      small = all;
    }

pub texts_fit : TextsFit
texts_fit text tokens xs lexed derives within accepted short =
    let a = few_tokens text tokens lexed in
    let b = program_nodes text xs tokens derives in
    let names = names_within text xs tokens 0 (length text) derives
    (ranges_rise text tokens lexed) in
    accepted_fits text xs within accepted (omega arith) (omega arith)
    (functions_spelled text (file_of text xs empty_file).scope xs tokens 0 text 1 refl
    (every_byte text tokens lexed) derives)
