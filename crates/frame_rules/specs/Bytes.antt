-- Instructions by their chosen spellings, and bytes of code in memory.
use Rattle.std.specs.Prelude.{◌≡◌, ℕ, ◌+◌, ◌^◌, ◌<◌, Bool, true, ◌&&◌, List, [], ◌∷◌, ◌++◌, length}
use Rattle.std.specs.List.{flat_map}
use Rattle.flat_memory.specs.Memory.{Memory}
use Rattle.x64_instr.specs.declared.instruction.Instr.{Instr}
use Rattle.x64_encode.specs.Chosen.{chosen}
use Rattle.virtual_unwind.specs.Tail.{FetchedInstr, is_plain}
use Rattle.x64_machine.specs.Contexts.{context_of}
use Rattle.x64_machine.specs.Effect.{State}
use Rattle.virtual_unwind.specs.CallerOf.{in_entry}
use Rattle.frame_rules.specs.Frame.{left_to}
use Rattle.frame_rules.specs.Plan.{IsSpelling, FramePlan, IsPlan, spelled_by, all_encodable, operations_of, instructions_of, turned, unwind_of, epilogue, are_inner, all_inner, function_of, frame_size}
use Rattle.frame_rules.specs.States.{registers, IsEntry, return_address, HasItems}
use Rattle.frame_rules.specs.Rules.{FramedFunction, FindsContext}
use Rattle.frame_rules.specs.Rules as states

abbrev pub spell : Instr → FetchedInstr
spell i =
    record {
      instr = i;
      size = length (chosen i);
      plain = is_plain (chosen i) (length (chosen i)) i;
    }

-- the bytes are at this address, to be executed
abbrev pub IsExecutableAt : Memory → ℕ → List ℕ → Type 0
IsExecutableAt m at [] = Unit {0}
IsExecutableAt m at (b ∷ bytes) =
    (m.byte at ≡ b) × ((m.protection at).execute ≡ true) × IsExecutableAt m (at + 1) bytes

abbrev pub code : List Instr → List ℕ
code is = flat_map chosen is

abbrev pub SpellsAll : Type 0
SpellsAll = IsSpelling spell

-- where the bytes of instructions are, the instructions are
abbrev pub CodeHasItems : Type 0
CodeHasItems =
    (m : Memory) (at : ℕ) (is : List Instr) → all_encodable is ≡ true
    → at + length (code is) < 2 ^ 63 → IsExecutableAt m at (code is)
    → HasItems m at (spelled_by spell is) (at + length (code is))

-- ---- the code of a planned function

abbrev pub prologue_code : FramePlan → List Instr
prologue_code p = flat_map (instructions_of p) (turned [] (operations_of p))

-- parts of a body, an epilogue after each
abbrev pub rest_code : FramePlan → List (List Instr) → List Instr → List Instr
rest_code p [] last = last
rest_code p (is ∷ parts) last = is ++ (epilogue p ++ rest_code p parts last)

abbrev pub all_code : FramePlan → List (List Instr) → List Instr → List Instr
all_code p parts last = prologue_code p ++ rest_code p parts last

abbrev pub spelled_parts : List (List Instr) → List (List FetchedInstr)
spelled_parts [] = []
spelled_parts (is ∷ parts) = spelled_by spell is ∷ spelled_parts parts

abbrev pub planned : FramePlan → List (List Instr) → List Instr → FramedFunction
planned p parts last = function_of spell p (spelled_parts parts) (spelled_by spell last)

abbrev pub all_parts : List (List Instr) → Bool
all_parts [] = true
all_parts (is ∷ parts) = all_encodable is && all_parts parts

abbrev pub PlansAreEncodable : Type 0
PlansAreEncodable =
    (p : FramePlan) → IsPlan p → (all_encodable (prologue_code p) ≡ true)
    × (all_encodable (epilogue p) ≡ true)

-- where the bytes of a planned function are, its caller is found in each of its states
abbrev pub PlannedFramesAreRight : Type 0
PlannedFramesAreRight =
    (p : FramePlan) (parts : List (List Instr)) (last : List Instr) (e s : State)
    (begin distance : ℕ)
    → IsPlan p → all_parts parts ≡ true → all_encodable last ≡ true
    → all_inner p (spelled_parts parts) ≡ true → are_inner p (spelled_by spell last) ≡ true
    → IsEntry (frame_size p) e → IsExecutableAt s.memory begin (code (all_code p parts last))
    → begin + length (code (all_code p parts last)) < 2 ^ 63 → s.cpu.rip ≡ begin + distance
    → states.IsInFunction (planned p parts last) e s distance
    → FindsContext (in_entry s.memory (unwind_of spell p) [] (context_of s.cpu) distance)
    (left_to (registers e) (return_address e)) (registers s 4)
