-- That there are states of which the promises on an entry's frames speak: a run of the prologue
-- leads to one, and so does each instruction of the body, in the function's own part and in each
-- fragment.
use Rattle.std.specs.Prelude.{◌≡◌, ◌⊎◌, ℕ, ◌+◌, true, false, List, ◌∷◌, ◌++◌, length, slice_get, Contains, Some, None, Ok}
use Rattle.flat_memory.specs.Memory.{Memory}
use Rattle.x64_machine.specs.Effect.{State, with_rip, effect}
use Rattle.eh_tables.specs.declared.range.RuntimeFunction.{RuntimeFunction}
use Rattle.eh_tables.specs.Tables.{Entry}
use Rattle.virtual_unwind.specs.declared.tail.Role.TheVariants.{Other}
use Rattle.virtual_unwind.specs.Undone.{operations}
use Rattle.virtual_unwind.specs.Tail.{FetchedInstr, role_of}
use Rattle.frame_rules.specs.Codes.{depth}
use Rattle.frame_rules.specs.Prologue.{items}
use Rattle.frame_rules.specs.Body.{written, may_write_all, is_a_call}
use Rattle.frame_rules.specs.States.{registers, RunsThrough, IsEntry, InBody, KeepsWords}
use Rattle.frame_rules.specs.Rules.{FramedFunction, ops, IsRight}
use Rattle.unwind_check.specs.Fragments.{joined}
use Rattle.unwind_check.specs.Laws.{IsFunctionOf, rest_of, IsInEntry}

-- ---- the body, over all parts of a function

-- the state after the prologue is one
abbrev pub PartsBegin : Type 0
PartsBegin =
    (f : FramedFunction) (parts : List (List FetchedInstr)) (e p : State)
    → IsRight f → IsEntry (depth (ops f)) e → RunsThrough e (items f.steps) p
    → InBody f.info.frame_register (ops f) (joined parts) e p p

-- an instruction of a part other than a call, which leaves the frame's words, leads from one to
-- another
abbrev pub PartsContinue : Type 0
PartsContinue =
    (f : FramedFunction) (parts : List (List FetchedInstr)) (n : ℕ) (e p s t : State) (a : ℕ)
    (x : FetchedInstr) (done left : List FetchedInstr)
    → slice_get parts n ≡ Some (done ++ (x ∷ left))
    → role_of f.info.frame_register x.plain x.instr ≡ Other
    → may_write_all f.info.frame_register (ops f) (written x.instr) ≡ true
    → is_a_call x.instr ≡ false
    → effect (with_rip s a) x.instr ≡ Ok t → length t.cpu.registers ≡ 16
    → KeepsWords p.memory t.memory (registers p 4) (registers p 4) (ops f)
    → InBody f.info.frame_register (ops f) (joined parts) e p s
    → InBody f.info.frame_register (ops f) (joined parts) e p t

-- ---- the entries of a table

-- an entry that isn't chained: the state after its prologue is one of its states, where an
-- instruction of the body comes next
abbrev pub EntriesBegin : Type 0
EntriesBegin =
    (m : Memory) (es : List Entry) (entry : Entry) (f : FramedFunction) (e p : State)
    (item : FetchedInstr) (left : List FetchedInstr)
    → IsFunctionOf m entry.range.begin entry.range.end entry.info f
    → entry.info.parent ≡ None → IsRight f → IsEntry (depth (operations entry.info.codes)) e
    → RunsThrough e (items f.steps) p
    → rest_of m entry ≡ item ∷ left → role_of f.info.frame_register item.plain item.instr ≡ Other
    → IsInEntry m es entry e p (entry.info.prologue_size + 0)

-- one that is chained to another entry: the state after that one's prologue is one of its states,
-- at its first byte
abbrev pub FragmentsBegin : Type 0
FragmentsBegin =
    (m : Memory) (es : List Entry) (entry owner : Entry) (f : FramedFunction) (e p : State)
    (item : FetchedInstr) (left : List FetchedInstr)
    → IsFunctionOf m owner.range.begin owner.range.end owner.info f
    → entry.info.parent ≡ Some owner.range → Contains es owner → IsRight f
    → IsEntry (depth (operations owner.info.codes)) e → RunsThrough e (items f.steps) p
    → rest_of m entry ≡ item ∷ left → role_of f.info.frame_register item.plain item.instr ≡ Other
    → IsInEntry m es entry e p (entry.info.prologue_size + 0)
