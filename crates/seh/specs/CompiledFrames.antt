-- The frames of a compiled image, by its bytes and its function table.
use Rattle.std.specs.Prelude.{◌≡◌, ℕ, ◌+◌, true, List, [], ◌∷◌, ◌++◌, slice_get, Some, None}
use Rattle.x64_machine.specs.Contexts.{context_of}
use Rattle.x64_machine.specs.Effect.{State}
use Rattle.eh_tables.specs.Tables.{Entry}
use Rattle.virtual_unwind.specs.Tail.{FetchedInstr}
use Rattle.virtual_unwind.specs.CallerOf.{distance, entry_of, caller_in}
use Rattle.frame_rules.specs.Body.{Body, following, is_body}
use Rattle.frame_rules.specs.Frame.{left_to}
use Rattle.frame_rules.specs.Prologue.{bytes}
use Rattle.frame_rules.specs.States.{registers, return_address, IsEntry, InBody, HasItems}
use Rattle.frame_rules.specs.Rules.{IsFound}
use Rattle.pe_image.specs.Image.{Section, Image, is_executable}
use Rattle.pe_write.specs.Program.{image_of}
use Rattle.image_link.specs.Linked.{linked}
use Rattle.seh_ir.specs.Lowered.{lowered}
use Rattle.c_resolved.specs.Program.{resolve}
use Rattle.unwind_check.specs.Laws.{IsInEntry}
use Rattle.host_model.specs.Machine.{functions_in}
use Rattle.image_code.specs.Code.{code_of}
use Rattle.image_code.specs.Frames.{HasCodeOf}
use Rattle.uncovered_code.specs.References.{Code, is_uncovered}
use Rattle.uncovered_code.specs.Routines.{IsUncoveredRoutine, IsInRoutine, IsFrameless}
use Rattle.text_routines.specs.Laws.{section_code}
use Rattle.seh.specs.Images.{IsCompiled}

-- the image that the bytes of a text's image are read as
abbrev pub image_read : (text image : List ℕ) → IsCompiled text image → Image
image_read text image compiled = image_of (linked (lowered (resolve text compiled.whole).program))

-- in every state of each entry of its function table, which spellings in its code tell, the walk
-- over the loaded image finds the caller, as it was at the first byte of its function (in state e)
abbrev pub CompiledEntriesAreFound : Type 0
CompiledEntriesAreFound =
    (text image : List ℕ) (compiled : IsCompiled text image) (entry : Entry) (e s : State) (d : ℕ)
    → let loaded = image_read text image compiled in
    let functions = functions_in loaded in
    HasCodeOf s.memory loaded → entry_of functions s.cpu.rip ≡ Some entry
    → distance functions.base s.cpu.rip ≡ entry.range.begin + d
    → s.cpu.rip ≡ functions.base + entry.range.begin + d
    → IsInEntry (code_of loaded) functions.entries entry e s d
    → IsFound (caller_in functions s.memory (context_of s.cpu))
    (left_to (registers e) (return_address e))

-- where no entry covers RIP, as in a leaf function, a thunk, a name thunk or a stub of a vectored
-- handler, or `__chkstk`, it finds the caller in every state that has RSP, the return address and
-- the nonvolatile registers of its first byte
abbrev pub CompiledLeavesAreFound : Type 0
CompiledLeavesAreFound =
    (text image : List ℕ) (compiled : IsCompiled text image) (rest : List FetchedInstr)
    (e s : State)
    → let functions = functions_in (image_read text image compiled) in
    entry_of functions s.cpu.rip ≡ None
    → is_body (following 0 0 [] rest (Body [])) ≡ true → IsEntry 0 e → InBody 0 [] rest e e s
    → IsFound (caller_in functions s.memory (context_of s.cpu))
    (left_to (registers e) (return_address e))

-- a section of the image of a text as code, with the entries of its function table
abbrev pub section_read : (text image : List ℕ) → IsCompiled text image → Section → Code
section_read text image compiled section =
    let read = image_read text image compiled in
    section_code read (functions_in read).entries section

-- Every byte of an executable section that no entry covers is in a routine without an entry
-- (`IsUncoveredRoutine`). Its bytes are instructions one after another from where it begins to
-- where it ends; of these none but a return or a jump out of it writes RSP, and none another
-- nonvolatile register.
abbrev pub CompiledCodeIsCovered : Type 0
CompiledCodeIsCovered =
    (text image : List ℕ) (compiled : IsCompiled text image) (index : ℕ) (section : Section)
    (rva : ℕ)
    → let code = section_read text image compiled section in
    slice_get (image_read text image compiled).sections index ≡ Some section
    → is_executable section ≡ true → is_uncovered code rva ≡ true
    → (routine : IsInRoutine code rva) × IsFrameless code routine.begin routine.end

-- and at each boundary of such a routine, which its bytes tell from where it begins, the walk finds
-- the caller in every state that has RSP, the return address and the nonvolatile registers of the
-- routine's first byte (in state e)
abbrev pub CompiledRoutinesAreFound : Type 0
CompiledRoutinesAreFound =
    (text image : List ℕ) (compiled : IsCompiled text image) (index : ℕ) (section : Section)
    (begin end : ℕ) (done : List FetchedInstr) (item : FetchedInstr) (left : List FetchedInstr)
    (e s : State)
    → let code = section_read text image compiled section in
    let functions = functions_in (image_read text image compiled) in
    slice_get (image_read text image compiled).sections index ≡ Some section
    → is_executable section ≡ true → IsUncoveredRoutine code begin end
    → HasItems code.memory begin (done ++ (item ∷ left)) end
    → distance functions.base s.cpu.rip ≡ begin + bytes done
    → IsEntry 0 e → InBody 0 [] (done ++ (item ∷ left)) e e s
    → IsFound (caller_in functions s.memory (context_of s.cpu))
    (left_to (registers e) (return_address e))
