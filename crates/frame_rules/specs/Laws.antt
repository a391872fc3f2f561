-- What holds of frames.
use Rattle.std.specs.Prelude.{◌≡◌, ◌≢◌, ℕ, ◌+◌, ◌<◌, ◌≤◌, ◌^◌, true, List, [], ◌∷◌, ◌++◌, length, Some, None, Ok, Err, false}
use Rattle.flat_memory.specs.Memory.{Memory}
use Rattle.x64_instr.specs.declared.instruction.Instr.{Instr}
use Rattle.x64_instr.specs.declared.instruction.Instr.TheVariants as instrs
use Rattle.x64_machine.specs.declared.context.Context.{Context}
use Rattle.x64_machine.specs.Contexts.{context_of}
use Rattle.x64_machine.specs.Effect.{State, with_rip, effect}
use Rattle.eh_tables.specs.declared.code.UnwindOperation.{UnwindOperation}
use Rattle.eh_tables.specs.Infos.{Info}
use Rattle.eh_tables.specs.Tables.{Entry, Tables, entries_of, holding}
use Rattle.virtual_unwind.specs.Contexts.{is_nonvolatile, get}
use Rattle.virtual_unwind.specs.declared.tail.Role.TheVariants.{Other}
use Rattle.virtual_unwind.specs.Tail.{FetchedInstr, role_of, left}
use Rattle.virtual_unwind.specs.Undone.{Answer}
use Rattle.virtual_unwind.specs.CallerOf.{distance, sets_frame, unwound, in_entry, caller_of, CallerFrame, past}
use Rattle.frame_rules.specs.Codes.{depth, pushes, pushed, are_allowed, is_ordered}
use Rattle.frame_rules.specs.Epilogue.{pops, is_epilogue}
use Rattle.frame_rules.specs.Prologue.{bytes, items, are_single}
use Rattle.frame_rules.specs.States.{registers, RunsThrough, KeepsWords, InBody, IsEntry, return_address, HasItems}
use Rattle.frame_rules.specs.Rules.{FramedFunction, ops, IsRight, IsLeaving, IsInFunction, FindsContext, IsFound, HasForm}
use Rattle.frame_rules.specs.Plan.{FramePlan, IsPlan, IsSpelling, operations_of, frame_size, are_inner, all_inner, function_of}
use Rattle.frame_rules.specs.Validated.{keeps_rules}
use Rattle.frame_rules.specs.Body.{written, is_a_call, has, may_write_all, Body, following, is_body}
use Rattle.frame_rules.specs.Frame.{Stack, Framed, Others, left_to}

-- undoing codes gives the caller
abbrev pub UndoingRestores : Type 0
UndoingRestores =
    (i : Info) (m : Memory) (c : Context) (base : ℕ) (old : ℕ → ℕ) (back : ℕ)
    (ops : List UnwindOperation)
    → length c.kept ≡ 9 → old 4 + 8 < 2 ^ 64 → i.frame_offset ≤ 2 ^ 64
    → are_allowed i.frame_register ops ≡ true
    → Stack m old back base (get c 4) ops
    → Framed i.frame_register i.frame_offset (get c) (get c 4) ops → Others old (get c) ops
    → unwound m base i [] ops c ≡ Ok (left_to old back)

-- the instructions of an epilogue that are left give the caller, where the saves have been
-- restored: with the registers rs still to be popped; and the whole of it
abbrev pub PopsRestore : Type 0
PopsRestore =
    (f : ℕ) (m : Memory) (c : Context) (base : ℕ) (old : ℕ → ℕ) (back : ℕ) (rs : List ℕ)
    (is : List Instr)
    → length c.kept ≡ 9 → old 4 + 8 < 2 ^ 64 → are_allowed f (pushed rs) ≡ true
    → Stack m old back base (get c 4) (pushed rs) → Others old (get c) (pushed rs)
    → pops rs is ≡ true
    → left m is c ≡ Ok (left_to old back)

abbrev pub EpilogueRestores : Type 0
EpilogueRestores =
    (i : Info) (m : Memory) (c : Context) (base : ℕ) (old : ℕ → ℕ) (back : ℕ)
    (ops : List UnwindOperation) (is : List Instr)
    → length c.kept ≡ 9 → old 4 + 8 < 2 ^ 64 → is_ordered ops ≡ true
    → are_allowed i.frame_register ops ≡ true → (i.frame_register ≢ 0 → sets_frame ops ≡ true)
    → Stack m old back base (get c 4) ops
    → Framed i.frame_register i.frame_offset (get c) (get c 4) ops
    → Others old (get c) (pushed (pushes ops))
    → is_epilogue i.frame_register i.frame_offset ops is ≡ true
    → left m is c ≡ Ok (left_to old back)

-- a function that is right, and in memory from an address on: in each of its states the caller is
-- found, as it was at its first byte
abbrev pub FramesAreRight : Type 0
FramesAreRight =
    (f : FramedFunction) (e s : State) (begin distance to : ℕ)
    → IsRight f → IsEntry (depth (ops f)) e → HasItems s.memory begin (items f.steps ++ f.rest) to
    → to < 2 ^ 63 → s.cpu.rip ≡ begin + distance
    → IsInFunction f e s distance
    → FindsContext (in_entry s.memory f.info [] (context_of s.cpu) distance)
    (left_to (registers e) (return_address e)) (registers s 4)

-- ---- with the function tables

-- where an entry of the tables holds RIP, and its function is right
abbrev pub EntriesAreFound : Type 0
EntriesAreFound =
    (t : Tables) (entry : Entry) (f : FramedFunction) (e s : State) (begin d to : ℕ)
    → holding (distance t.image.base s.cpu.rip) (entries_of t) ≡ Some entry → entry.info ≡ f.info
    → entry.parents ≡ [] → distance t.image.base s.cpu.rip ≡ entry.range.begin + d
    → IsRight f → IsEntry (depth (ops f)) e → HasItems s.memory begin (items f.steps ++ f.rest) to
    → to < 2 ^ 63 → s.cpu.rip ≡ begin + d → IsInFunction f e s d
    → IsFound (caller_of t s.memory (context_of s.cpu)) (left_to (registers e) (return_address e))

-- where none does: a leaf or a thunk, which changes neither RSP nor a nonvolatile register
abbrev pub LeavesAreFound : Type 0
LeavesAreFound =
    (t : Tables) (rest : List FetchedInstr) (e s : State)
    → holding (distance t.image.base s.cpu.rip) (entries_of t) ≡ None
    → is_body (following 0 0 [] rest (Body [])) ≡ true → IsEntry 0 e → InBody 0 [] rest e e s
    → IsFound (caller_of t s.memory (context_of s.cpu)) (left_to (registers e) (return_address e))

-- ---- the rules as a test

-- what passes them has the form of a function that is right
abbrev pub RulesAreRight : Type 0
RulesAreRight =
    (i : Info) (xs ys : List FetchedInstr) → keeps_rules i xs ys ≡ true → HasForm i xs ys

-- and what has it passes them
abbrev pub RightPassesRules : Type 0
RightPassesRules =
    (i : Info) (xs ys : List FetchedInstr) → HasForm i xs ys → keeps_rules i xs ys ≡ true

-- ---- emission

-- prologue, bodies and epilogues of a plan are a function that is right
abbrev pub PlansAreRight : Type 0
PlansAreRight =
    (spell : Instr → FetchedInstr) (p : FramePlan) (parts : List (List FetchedInstr))
    (last : List FetchedInstr)
    → IsSpelling spell → IsPlan p → all_inner p parts ≡ true → are_inner p last ≡ true
    → IsRight (function_of spell p parts last)

-- ---- what instructions write

-- an instruction that is run, other than a call, leaves each register that it doesn't write
abbrev pub WritesNoOther : Type 0
WritesNoOther =
    (s t : State) (i : Instr) (r : ℕ) → is_a_call i ≡ false → effect s i ≡ Ok t
    → has r (written i) ≡ false → registers t r ≡ registers s r

-- ---- a function returns

-- RIP is the return address, RSP is above it, and the other nonvolatile registers and the
-- memory are as they were
pub record ReturnedToCaller (e s t : State) : Type 0 where
  pub rip : t.cpu.rip ≡ return_address e
  pub stack : registers t 4 ≡ registers e 4 + 8
  pub kept : (r : ℕ) → is_nonvolatile r ≡ true → r ≢ 4 → registers t r ≡ registers e r
  pub memory : t.memory ≡ s.memory
  pub length : length t.cpu.registers ≡ 16

-- the end of each epilogue, where it is a return, gives the caller what it had
abbrev pub EpiloguesReturn : Type 0
EpiloguesReturn =
    (f : FramedFunction) (e s t : State) (distance a : ℕ) (x : FetchedInstr)
    (xs : List FetchedInstr)
    → IsRight f → IsEntry (depth (ops f)) e → (h : IsLeaving f e s distance) → h.left ≡ x ∷ xs
    → x.instr ≡ instrs.Return → x.plain ≡ true
    → effect (with_rip s a) instrs.Return ≡ Ok t
    → ReturnedToCaller e s t

-- a leaf's return
abbrev pub LeavesReturn : Type 0
LeavesReturn =
    (rest : List FetchedInstr) (e s t : State) (a : ℕ)
    → is_body (following 0 0 [] rest (Body [])) ≡ true → IsEntry 0 e → InBody 0 [] rest e e s
    → effect (with_rip s a) instrs.Return ≡ Ok t
    → ReturnedToCaller e s t

-- ---- how large a frame is

-- the room that a plan's function takes below its first RSP, and its return address
abbrev pub FrameHasItsSize : Type 0
FrameHasItsSize = (p : FramePlan) → depth (operations_of p) + 8 ≡ frame_size p

-- ---- a prologue can be run

pub record EntersBody (f : FramedFunction) (e : State) : Type 0 where
  pub following : State
  pub runs : RunsThrough e (items f.steps) following
  pub rip : following.cpu.rip ≡ e.cpu.rip + bytes (items f.steps)

-- where it has no call: from each state with room for its frame
abbrev pub ProloguesRun : Type 0
ProloguesRun =
    (f : FramedFunction) (e : State) → IsRight f → IsEntry (depth (ops f)) e
    → are_single f.steps ≡ true
    → e.cpu.rip + bytes (items f.steps) < 2 ^ 64 → EntersBody f e

-- ---- the states of the body

-- the state after the prologue is one
abbrev pub BodyBegins : Type 0
BodyBegins =
    (f : FramedFunction) (e p : State) → IsRight f → IsEntry (depth (ops f)) e
    → RunsThrough e (items f.steps) p → InBody f.info.frame_register (ops f) f.rest e p p

-- an instruction of the body other than a call, which leaves the frame's words, leads from one to
-- another
abbrev pub BodyContinues : Type 0
BodyContinues =
    (f : FramedFunction) (e p s t : State) (a : ℕ) (x : FetchedInstr)
    (done left : List FetchedInstr)
    → f.rest ≡ done ++ (x ∷ left) → role_of f.info.frame_register x.plain x.instr ≡ Other
    → may_write_all f.info.frame_register (ops f) (written x.instr) ≡ true
    → is_a_call x.instr ≡ false
    → effect (with_rip s a) x.instr ≡ Ok t → length t.cpu.registers ≡ 16
    → KeepsWords p.memory t.memory (registers p 4) (registers p 4) (ops f)
    → InBody f.info.frame_register (ops f) f.rest e p s
    → InBody f.info.frame_register (ops f) f.rest e p t

-- ---- chained fragments

abbrev pub context_found : Answer CallerFrame → Answer Context
context_found (Ok f) = Ok f.context
context_found (Err e) = Err e

-- a fragment without codes and prologue, of the same frame register, unwinds as its parent does
-- past its prologue
abbrev pub FragmentsUnwindAsParents : Type 0
FragmentsUnwindAsParents =
    (m : Memory) (i p : Info) (c : Context) (d : ℕ)
    → i.codes ≡ [] → i.prologue_size ≡ 0 → i.frame_register ≡ p.frame_register
    → i.frame_offset ≡ p.frame_offset
    → context_found (in_entry m i (p ∷ []) c d) ≡ context_found (past m p [] c)
