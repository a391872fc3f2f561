-- What holds of the frames of every program that can be linked.
use Rattle.std.specs.Prelude.{◌≡◌, ◌⊎◌, ℕ, Bool, true, false, ◌+◌, ◌^◌, ◌<◌, ◌≤◌, List, [], ◌++◌, length, slice_get, Some, None, Ok}
use Rattle.flat_memory.specs.Memory.{Memory, may_write}
use Rattle.x64_machine.specs.declared.context.Context.{Context}
use Rattle.x64_machine.specs.Contexts.{context_of}
use Rattle.x64_machine.specs.Effect.{State}
use Rattle.virtual_unwind.specs.CallerOf.{caller_in}
use Rattle.virtual_unwind.specs.Contexts.{rsp}
use Rattle.virtual_unwind.specs.Tail.{FetchedInstr}
use Rattle.virtual_unwind.specs.Undone.{word}
use Rattle.host_model.specs.Loading.{mapped}
use Rattle.host_model.specs.Machine.{functions_in}
use Rattle.frame_rules.specs.Frame.{left_to}
use Rattle.frame_rules.specs.Prologue.{items}
use Rattle.frame_rules.specs.Codes.{depth}
use Rattle.frame_rules.specs.Rules.{IsRight, InPrologue, IsFound, ops}
use Rattle.frame_rules.specs.States.{registers, return_address, IsEntry, InBody, HasItems}
use Rattle.unwind_check.specs.Fragments.{AllKeepRules, IsInPart}
use Rattle.match_stack.specs.Stack.{StackFrame, FrameIsAt, LeafIsAt, IsAsTold}
use Rattle.host_layout.specs.declared.imported.ImportedService.{ImportedService}
use Rattle.pe_write.specs.Program.{image_of}
use Rattle.linear_code.specs.Program.{LinearProgram}
use Rattle.frame_layout.specs.declared.frame.FrameLayout.{FrameLayout}
use Rattle.x64_emit.specs.declared.entry.TheConstants.{CHECK_STACK_SIZE}
use Rattle.x64_emit.specs.declared.handlers.TheConstants.{NAME_THUNK_SIZE, STUB_SIZE}
use Rattle.image_link.specs.declared.handlers.HandlerBlocks.{HandlerBlocks}
use Rattle.image_link.specs.Handlers.{adding_at, removing_at}
use Rattle.image_link.specs.Fits.{FitsProgram}
use Rattle.image_link.specs.Linked.{text_begin, linked}
use Rattle.image_tables.specs.RoutinePlaces.{Placed, PlacedPart, end_of, parts_of, site_of, placed, thunk_begin, probe_begin, blocks_of, block_begin}
use Rattle.image_tables.specs.RegionRanges.{HasRegions}
use Rattle.image_tables.specs.Entries.{entry_at}
use Rattle.image_tables.specs.CodeInMemory.{image_base, HasText, IsInBody}
use Rattle.image_tables.specs.Functions.{function_of, part, parts, leaf, thunk_of, name_thunk_of, adding_stub_of, removing_stub_of, probe}

-- ---- the text

-- it is there when the image is loaded, and may not be written
abbrev pub ImagesHaveText : Type 0
ImagesHaveText = (p : LinearProgram) → FitsProgram p → HasText (mapped (image_of (linked p))) p

-- no byte of the text may be written
abbrev pub TextsAreFixed : Type 0
TextsAreFixed =
    (p : LinearProgram) (k : ℕ) → FitsProgram p → k < length (linked p).text
    → may_write (mapped (image_of (linked p))) (image_base + text_begin p.globals + k) ≡ false

-- ---- bodies that wait

-- the frame of a routine's body that waits at an instruction, with what its caller has
abbrev pub stack_frame : LinearProgram → Placed → FrameLayout → (label back : ℕ) → List ℕ
    → StackFrame
stack_frame p x f label back others =
    record {
      entry = entry_at (site_of p) x f label;
      slots = x.routine.layout.slots;
      size = x.routine.layout.frame;
      return_address = back;
      others = others;
    }

-- what a state must have: the address in the body, room up to the return address, and above the
-- slots what the frame's codes tell
pub record IsWaiting (p : LinearProgram) (m : Memory) (x : Placed) (f : FrameLayout) (c : Context)
    (rva back : ℕ) (others : List ℕ) : Type 0 where
  pub text : HasText m p
  pub body : IsInBody p x rva
  pub here : c.rip ≡ image_base + rva
  pub kept : length c.kept ≡ 9
  pub eight : length others ≡ 8
  pub room : rsp c + x.routine.layout.frame + 8 < 2 ^ 64
  pub is_told : IsAsTold m c (stack_frame p x f body.number back others)

-- at an instruction of its body a routine's frame is there: it has its entry, and is past its
-- prologue and not in an epilogue
abbrev pub BodiesHaveFrames : Type 0
BodiesHaveFrames =
    (p : LinearProgram) (m : Memory) (index : ℕ) (x : Placed) (f : FrameLayout) (c : Context)
    (rva back : ℕ) (others : List ℕ)
    → FitsProgram p → HasRegions p → slice_get (placed p) index ≡ Some x → x.routine.frame ≡ Some f
    → (w : IsWaiting p m x f c rva back others)
    → FrameIsAt (functions_in (image_of (linked p))) m c
    (stack_frame p x f w.body.number back others)

-- the same of a leaf function, which has neither
pub record IsLeafWaiting (p : LinearProgram) (m : Memory) (x : Placed) (c : Context)
    (rva back : ℕ) : Type 0 where
  pub body : IsInBody p x rva
  pub here : c.rip ≡ image_base + rva
  pub kept : length c.kept ≡ 9
  pub room : rsp c + 8 < 2 ^ 64
  pub returns : word m (rsp c) ≡ Ok back

abbrev pub LeavesHaveReturns : Type 0
LeavesHaveReturns =
    (p : LinearProgram) (m : Memory) (index : ℕ) (x : Placed) (c : Context) (rva back : ℕ)
    → FitsProgram p → HasRegions p → slice_get (placed p) index ≡ Some x → x.routine.frame ≡ None
    → IsLeafWaiting p m x c rva back
    → LeafIsAt (functions_in (image_of (linked p))) m c back

-- ---- every frame

-- a routine of a number with a frame
pub record IsFramed (p : LinearProgram) (index : ℕ) (x : Placed) (f : FrameLayout) : Type 0 where
  pub fits : FitsProgram p
  pub there : slice_get (placed p) index ≡ Some x
  pub framed : x.routine.frame ≡ Some f

-- its instructions are in memory, from its first byte to its end, and those of each cold part
abbrev pub FunctionsAreInMemory : Type 0
FunctionsAreInMemory =
    (p : LinearProgram) (index : ℕ) (x : Placed) (f : FrameLayout) (m : Memory)
    → IsFramed p index x f
    → HasText m p
    → HasItems m (image_base + x.begin)
    (items (function_of p x f).steps ++ (function_of p x f).rest) (image_base + end_of x)

abbrev pub PartsAreInMemory : Type 0
PartsAreInMemory =
    (p : LinearProgram) (index n : ℕ) (x : Placed) (f : FrameLayout) (q : PlacedPart) (m : Memory)
    → IsFramed p index x f
    → slice_get (parts_of x) n ≡ Some q → HasText m p
    → HasItems m (image_base + q.begin) (part p x q) (image_base + q.end)

-- it keeps the rules, with the unwind info that its entry has, and so does each part of its code
abbrev pub FunctionsKeepTheRules : Type 0
FunctionsKeepTheRules =
    (p : LinearProgram) (index : ℕ) (x : Placed) (f : FrameLayout) → IsFramed p index x f
    → IsRight (function_of p x f)

abbrev pub PartsKeepTheRules : Type 0
PartsKeepTheRules =
    (p : LinearProgram) (index : ℕ) (x : Placed) (f : FrameLayout) → IsFramed p index x f
    → AllKeepRules (function_of p x f) (parts p x f)

-- the walk from a state finds the caller of another, as it was
abbrev pub FindsCaller : LinearProgram → State → State → Type 0
FindsCaller p e s =
    IsFound (caller_in (functions_in (image_of (linked p))) s.memory (context_of s.cpu))
    (left_to (registers e) (return_address e))

-- so far from the first byte, past the prologue, in the body or in an epilogue
pub record IsPast (p : LinearProgram) (x : Placed) (f : FrameLayout) (e s : State)
    (distance : ℕ) : Type 0 where
  pub past : ℕ
  pub here : distance ≡ (function_of p x f).info.prologue_size + past
  pub is_there : IsInPart (function_of p x f) (parts p x f) (function_of p x f).rest e s past

-- in the code of a function with a frame, but for its cold parts
abbrev pub IsInRoutine : LinearProgram → Placed → FrameLayout → State → State → ℕ → Type 0
IsInRoutine p x f e s distance =
    InPrologue (function_of p x f) e s distance ⊎ IsPast p x f e s distance

-- in each state of a function with a frame, also in its prologue and in its epilogues: e is the
-- state at its first byte
abbrev pub FramesAreFound : Type 0
FramesAreFound =
    (p : LinearProgram) (index : ℕ) (x : Placed) (f : FrameLayout) (e s : State) (distance : ℕ)
    → IsFramed p index x f → HasRegions p
    → IsEntry (depth (ops (function_of p x f))) e → HasText s.memory p
    → s.cpu.rip ≡ image_base + x.begin + distance
    → IsInRoutine p x f e s distance
    → FindsCaller p e s

-- in each state of a cold part, so far from its first byte
abbrev pub PartsAreFound : Type 0
PartsAreFound =
    (p : LinearProgram) (index n : ℕ) (x : Placed) (f : FrameLayout) (q : PlacedPart)
    (e s : State) (distance : ℕ)
    → IsFramed p index x f → HasRegions p → slice_get (parts_of x) n ≡ Some q
    → IsEntry (depth (ops (function_of p x f))) e → HasText s.memory p
    → s.cpu.rip ≡ image_base + q.begin + distance
    → IsInPart (function_of p x f) (parts p x f) (part p x q) e s distance
    → FindsCaller p e s

-- of what has no entry: RSP, the return address and the nonvolatile registers are those at its
-- first byte
pub record IsInRange (e s : State) (rest : List FetchedInstr) (begin end : ℕ) : Type 0 where
  pub entry : IsEntry 0 e
  pub body : InBody 0 [] rest e e s
  pub rva : ℕ
  pub here : s.cpu.rip ≡ image_base + rva
  pub low : begin ≤ rva
  pub high : rva < end

-- in each state of a leaf function, of the thunk of a service, of `__chkstk`, and of what is in
-- blocks
abbrev pub LeavesAreFound : Type 0
LeavesAreFound =
    (p : LinearProgram) (index : ℕ) (x : Placed) (e s : State) → FitsProgram p → HasRegions p
    → slice_get (placed p) index ≡ Some x → x.routine.frame ≡ None
    → IsInRange e s (leaf p x) x.begin (end_of x)
    → FindsCaller p e s

-- the caller of a thunk is found
abbrev pub ThunksAreFound : Type 0
ThunksAreFound =
    (p : LinearProgram) (service : ImportedService) (e s : State) → FitsProgram p → HasRegions p
    → IsInRange e s (thunk_of p service) (thunk_begin p service) (thunk_begin p service + 6)
    → FindsCaller p e s

-- the caller of a function's name thunk is found, where there are blocks
abbrev pub NameThunksAreFound : Type 0
NameThunksAreFound =
    (p : LinearProgram) (f : ℕ) (e s : State) → FitsProgram p → HasRegions p
    → f < (blocks_of p).count
    → IsInRange e s (name_thunk_of p f) (block_begin p f) (block_begin p f + NAME_THUNK_SIZE)
    → FindsCaller p e s

-- and that of a stub, where the blocks have it
abbrev pub StubsAreFound : (has : HandlerBlocks → Bool)
    → (code : LinearProgram → ℕ → List FetchedInstr)
    → (begin : LinearProgram → ℕ → ℕ) → Type 0
StubsAreFound has code begin =
    (p : LinearProgram) (f : ℕ) (e s : State) → FitsProgram p → HasRegions p
    → f < (blocks_of p).count → has (blocks_of p) ≡ true
    → IsInRange e s (code p f) (begin p f) (begin p f + STUB_SIZE)
    → FindsCaller p e s

abbrev pub AddingStubsAreFound : Type 0
AddingStubsAreFound =
    StubsAreFound (λ b. b.adds) adding_stub_of (λ p f. adding_at (block_begin p f))

abbrev pub RemovingStubsAreFound : Type 0
RemovingStubsAreFound =
    StubsAreFound (λ b. b.removes) removing_stub_of
    (λ p f. removing_at (blocks_of p).adds (block_begin p f))

-- the caller of `__chkstk` is found
abbrev pub ProbesAreFound : Type 0
ProbesAreFound =
    (p : LinearProgram) (e s : State) → FitsProgram p → HasRegions p
    → IsInRange e s probe (probe_begin p) (probe_begin p + CHECK_STACK_SIZE)
    → FindsCaller p e s
