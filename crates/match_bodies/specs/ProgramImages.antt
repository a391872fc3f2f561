-- What an image has of a linear program: its code in memory, and what is known of its addresses.
--
-- The main definitions: `IsProgramImage`, `IsMachineMemory`.
use Rattle.std.specs.Prelude.{◌≡◌, ◌≢◌, ℕ, ◌+◌, ◌^◌, ◌<◌, ◌≤◌, Bool, true, false, List, [], ◌∷◌, ◌++◌, length, slice_get, get_or, Some, Ok}
use Rattle.std.specs.List.{AllByRecursion}
use Rattle.host_layout.specs.declared.range.TheConstants.{IMAGE_BASE, IMAGE_RANGE_END, STACK_START, STACK_END}
use Rattle.host_layout.specs.Ranges.{in_arena}
use Rattle.host_layout.specs.declared.service.Service.{Service}
use Rattle.host_layout.specs.declared.service.Service.TheVariants as services
use Rattle.host_layout.specs.Services.{address_of}
use Rattle.host_layout.specs.declared.limit.TheConstants.{LEAST_BASE}
use Rattle.flat_memory.specs.declared.protection.TheConstants.{UNMAPPED}
use Rattle.flat_memory.specs.Memory.{Memory, may_write}
use Rattle.x64_instr.specs.declared.instruction.Instr.{Instr}
use Rattle.x64_machine.specs.declared.context.Context.{Context}
use Rattle.x64_instr.specs.declared.register.Reg.TheVariants.{Rax, Rcx, Rdx}
use Rattle.x64_machine.specs.declared.cpu.Cpu.{Cpu}
use Rattle.x64_machine.specs.Effect.{register}
use Rattle.virtual_unwind.specs.Contexts.{rsp}
use Rattle.virtual_unwind.specs.CallerOf.{Functions, distance, entry_of}
use Rattle.virtual_unwind.specs.Undone.{word}
use Rattle.host_model.specs.declared.funclet.Funclet.{Funclet}
use Rattle.host_model.specs.Funclets.{by_kind, arrivals}
use Rattle.c_operations.specs.declared.operation.Operation.{Operation}
use Rattle.c_operations.specs.declared.built_in.BuiltIn.{BuiltIn}
use Rattle.c_operations.specs.declared.built_in.BuiltIn.TheVariants.{Put, Protect, RaiseException, Walk, AddVectored, RemoveVectored}
use Rattle.source_meaning.specs.Source.{is_hidden}
use Rattle.linear_code.specs.declared.slot.Slot.{Slot}
use Rattle.linear_code.specs.declared.slot.Slot.TheVariants.{Temporary}
use Rattle.linear_code.specs.declared.instruction.Instruction.{Instruction}
use Rattle.linear_code.specs.declared.instruction.Instruction.TheVariants as instructions
use Rattle.linear_code.specs.declared.program.FuncletKind.{FuncletKind}
use Rattle.linear_code.specs.declared.program.FuncletKind.TheVariants.{Filter, Finally}
use Rattle.linear_code.specs.Program.{LinearProgram, LinearBody, LinearFunction, LinearFunclet}
use Rattle.linear_machine.specs.Frames.{BodyName, FunctionBody, FuncletBody, body_of, Frame, Resumption, AfterCall, SameOperation}
use Rattle.linear_machine.specs.Run.{instruction_in}
use Rattle.linear_machine.specs.BuiltInCalls.{CallsBuiltIn}
use Rattle.template_code.specs.Bytes.{sizes}
use Rattle.template_code.specs.Operands as operands
use Rattle.template_code.specs.Slots.{fetch, operands_code}
use Rattle.template_code.specs.Calls.{return_at}
use Rattle.template_code.specs.Handlers.{name_thunk, address_in}
use Rattle.template_code.specs.Jumps.{IsNear}
use Rattle.template_code.specs.Probing.{check_stack}
use Rattle.template_code.specs.Template.{template, template_size, body_size}
use Rattle.template_code.specs.ColdParts.{HasLabelsApart, hot_code, cold_code, falls_through}
use Rattle.template_code.specs.Places.{register_of}
use Rattle.x64_templates.specs.Straight.{local_registers, other_registers, MachineView}
use Rattle.x64_templates.specs.Frames.{Agrees}
use Rattle.x64_templates.specs.Implements.{IsReady}
use Rattle.x64_templates.specs.Runs.{HasCode}
use Rattle.x64_templates.specs.Thunks.{HasThunk}
use Rattle.x64_templates.specs.Epilogues.{IsReturn}
use Rattle.match_stack.specs.Stack.{StackFrame, FrameIsAt, LeafIsAt, IsAsTold, teller}
use Rattle.match_stack.specs.ImagePlan.{ImagePlan, InCode, Gives}
use Rattle.match_stack.specs.ControlAddresses.{NumbersFunctions}
use Rattle.match_stack.specs.StackRecords.{IsData}
use Rattle.match_stack.specs.AskLaws.{HandlersAreSmall}
use Rattle.seh_walk.specs.Walk.{filter_return, finally_return, vectored_return}
use Rattle.seh_walk.specs.Controls.{number_at}
use Rattle.frame_rules.specs.Bytes.{spell}
use Rattle.frame_rules.specs.Plan as rules
use Rattle.frame_rules.specs.Plan.{Saved}
use Rattle.match_bodies.specs.CodeSites.{Sites, body_plan, links_of, begin_of, making_size, epilogue_through, arguments_code, entry_code, code_of, cold_code_of}
use Rattle.lowering_invariants.specs.Registers.{SlotsHave, FlagHas}
use Rattle.match_bodies.specs.Layouts.{AreLaidOut}
use Rattle.match_bodies.specs.LocalRegisters.{now_of, RegistersHold}
use Rattle.match_bodies.specs.BodyViews.{IsReached}
use Rattle.match_bodies.specs.Callers.{FindsReturn, FindsOwed, frame_info, owed_after, owed_of, owed_opening, owed_pops}

-- the service of a built-in function
abbrev pub host_service_of : BuiltIn → Service
host_service_of Put = services.Put
host_service_of Protect = services.Protect
host_service_of RaiseException = services.RaiseException
host_service_of Walk = services.Walk
host_service_of (AddVectored f) = services.AddVectored
host_service_of (RemoveVectored f) = services.RemoveVectored

-- the sizes in bytes of `jmp [rip + away]`, a thunk; of `lea r64, [rip + away]`, which puts an
-- address into a register; and of the name thunk of a function
abbrev pub thunk_size : ℕ
thunk_size = 6

abbrev pub address_size : ℕ
address_size = 7

abbrev pub name_thunk_size : ℕ
name_thunk_size = 15

-- a call goes through a thunk alone, but for those that name a function: their stub puts the
-- function's name thunk into a register first
abbrev pub stub_code : ImagePlan → BuiltIn → ℕ → List Instr
stub_code p (AddVectored f) at = address_in Rdx (at + address_size) (p.handler f) ∷ []
stub_code p (RemoveVectored f) at = address_in Rcx (at + address_size) (p.handler f) ∷ []
stub_code p f at = []

-- the frame of a body, by its layout, with the entry that the body begins in
abbrev pub frame_of : ImagePlan → BodyName → (back : ℕ) → List ℕ → StackFrame
frame_of p name back others =
    record {
      entry = p.entry name 0;
      slots = (p.layout name).slots;
      size = (p.layout name).frame;
      return_address = back;
      others = others;
    }

-- the same frame, with the entry of an instruction
abbrev pub frame_at_label : ImagePlan → BodyName → (label back : ℕ) → List ℕ → StackFrame
frame_at_label p name label back others =
    record (frame_of p name back others) { entry = p.entry name label }

-- where a body's frame can be: there is room, and what is above its slots is as its codes tell
pub record IsFramed (p : ImagePlan) (m : Memory) (name : BodyName) (c : Context) (back : ℕ)
    (others : List ℕ) : Type 0 where
  pub kept : length c.kept ≡ 9
  pub eight : length others ≡ 8
  pub room : rsp c + (p.layout name).frame + 8 < 2 ^ 64
  pub is_told : IsAsTold m c (frame_of p name back others)

-- the registers of a saved state, as templates see them; its memory plays no part
abbrev pub no_memory : Memory
no_memory = record { protection = λ a. UNMAPPED; byte = λ a. 0 }

-- the registers as templates see them
abbrev pub view_of : Cpu → MachineView
view_of c =
    record {
      rax = register c Rax;
      rcx = register c Rcx;
      rdx = register c Rdx;
      locals = local_registers c.registers;
      rest = other_registers c.registers;
      memory = no_memory;
      vectored = [];
    }

module _ (t : Functions) (fs : List Funclet) (program : LinearProgram) (p : ImagePlan)
    (q : Sites) where
  -- ---- addresses

  -- from one address up to another lies the image without its data, where no access of the source
  -- reaches
  pub record IsInImage (from to : ℕ) : Type 0 where
    pub low : IMAGE_BASE < from
    pub high : to < IMAGE_RANGE_END
    pub own : (a : ℕ) → from ≤ a → a < to → is_hidden program.globals a ≡ true

  -- a body's instructions follow what comes before them, one after another, but for those of its
  -- cold parts, which are one after another at a place of their own
  pub record HasAddresses (name : BodyName) (b : LinearBody) : Type 0 where
    pub first : p.address name 0 ≡ begin_of p q name + sizes (entry_code program p q name)
    pub labels : HasLabelsApart (links_of p q name) (p.layout name) (p.address name 0)
        (q.cold name) b
    pub rises : (label : ℕ) → label < length b.code → p.address name label < p.after name label
    pub inside : IsInImage (begin_of p q name)
        (p.address name 0 + body_size (p.layout name) (hot_code b))
    pub cold_inside : IsInImage (q.cold name)
        (q.cold name + body_size (p.layout name) (cold_code b))
    pub not_first : (label k : ℕ) → label < length b.code → k < length program.funclets
        → p.address name label ≢ p.funclet k
    -- past its first byte no funclet begins
    pub no_funclet : (a k : ℕ) → begin_of p q name < a
        → a < p.address name 0 + body_size (p.layout name) (hot_code b)
        → k < length program.funclets → a ≢ p.funclet k

  -- the code of an instruction is its template; the next one's follows where it falls through
  pub record HasEnds (name : BodyName) (b : LinearBody) : Type 0 where
    pub sized : (label : ℕ) → label < length b.code
        → p.after name label ≡ p.address name label
        + template_size (p.layout name) (get_or b.code label instructions.Separator)
    pub ends : (label : ℕ) (i : Instruction) → slice_get b.code label ≡ Some i
        → falls_through i ≡ true → p.after name label ≡ p.address name (label + 1)

  -- the entries of a body's instructions are found by their code, and all tell of the body's frame:
  -- that of a cold part is chained to the one that the body begins in
  pub record HasOneFrame (name : BodyName) : Type 0 where
    pub found : (label rip : ℕ) → InCode p name label rip
        → entry_of t rip ≡ Some (p.entry name label)
    pub tells : (label : ℕ) → teller (p.entry name label) ≡ frame_info p name

  -- ---- memory

  -- a thunk of the image, through a slot of the image
  pub record HasService (m : Memory) (at : ℕ) (service : Service) : Type 0 where
    pub thunk : HasThunk m at (address_of service)
    pub inside : IsInImage at (at + thunk_size)
    pub slot : IsInImage (at + thunk_size + thunk.away) (at + thunk_size + thunk.away + 8)

  -- a stub at an address names a function of the program, whose name thunk is near the stub
  pub record NamesFunction (at f : ℕ) : Type 0 where
    pub is_function : f < length program.functions
    pub near : IsNear (at + address_size) (p.handler f)

  abbrev pub StubNames : BuiltIn → Type 0
  StubNames (AddVectored f) = NamesFunction (q.thunk (AddVectored f)) f
  StubNames (RemoveVectored f) = NamesFunction (q.thunk (RemoveVectored f)) f
  StubNames f = Unit {0}

  -- what is called as a built-in function: its stub, and its thunk
  pub record HasBuiltIn (m : Memory) (f : BuiltIn) : Type 0 where
    pub stub : HasCode m (q.thunk f) (stub_code p f (q.thunk f))
    pub names : StubNames f
    pub service : HasService m (q.thunk f + sizes (stub_code p f (q.thunk f))) (host_service_of f)
    pub inside : IsInImage (q.thunk f) (q.thunk f + sizes (stub_code p f (q.thunk f)))

  -- a function's name thunk, through which the host calls it as a vectored handler; a program that
  -- adds none has none
  pub record HasName (m : Memory) (f : ℕ) : Type 0 where
    pub code : HasCode m (p.handler f) (name_thunk (p.handler f) (q.function f))
    pub inside : IsInImage (p.handler f) (p.handler f + name_thunk_size)

  -- a program adds vectored handlers
  pub record AddsHandlers : Type 0 where
    pub function : ℕ
    pub adds : CallsBuiltIn program (AddVectored function)

  -- all code of the program, with what it calls, its name thunks, and `__chkstk`
  pub record HasProgram (m : Memory) : Type 0 where
    pub code : (name : BodyName) (b : LinearBody) → body_of program name ≡ Some b
        → HasCode m (begin_of p q name) (code_of program p q name b)
    pub cold_code : (name : BodyName) (b : LinearBody) → body_of program name ≡ Some b
        → HasCode m (q.cold name) (cold_code_of p q name b)
    pub built_in : (f : BuiltIn) → CallsBuiltIn program f → HasBuiltIn m f
    pub names : (f : ℕ) → f < length program.functions → AddsHandlers → HasName m f
    pub local_unwind : HasService m q.local_unwind services.LocalUnwind
    pub check_stack : HasCode m q.check_stack check_stack

  -- the machine's memory beside the source's: they agree where the source may look; the whole stack
  -- may be written; no page of the arena, whose rights a program may set, is code
  pub record IsMachineMemory (m source : Memory) : Type 0 where
    pub data_alone : IsData m
    pub agrees : Agrees (is_hidden program.globals) m source
    pub stack : (a : ℕ) → STACK_START ≤ a → a < STACK_END → may_write m a ≡ true
    pub arena : (a : ℕ) → in_arena a ≡ true → (m.protection a).execute ≡ false
    pub code : HasProgram m

  -- ---- where a body waits

  -- a machine instruction of a body's instruction begins at RIP, and the body's instruction isn't a
  -- return
  pub record IsResumed (name : BodyName) (b : LinearBody) (label rip : ℕ) : Type 0 where
    pub instruction : Instruction
    pub there : slice_get b.code label ≡ Some instruction
    pub continues : IsReturn instruction → ⊥
    pub done : List Instr
    pub item : Instr
    pub left : List Instr
    pub parts : template (links_of p q name) (p.layout name) (p.address name label) instruction
        ≡ done ++ (item ∷ left)
    pub here : rip ≡ p.address name label + sizes done

  -- there its entry is found, RIP is past the prologue and in no epilogue: so its frame is there
  abbrev pub FramesAreWaiting : Type 0
  FramesAreWaiting =
      (m : Memory) (name : BodyName) (b : LinearBody) (label : ℕ) (c : Context) (back : ℕ)
      (others : List ℕ)
      → body_of program name ≡ Some b → p.leaf name ≡ false → HasProgram m
      → IsResumed name b label c.rip → IsFramed p m name c back others
      → FrameIsAt t m c (frame_at_label p name label back others)

  -- what tells of a body's frame is the prologue of its plan
  pub record IsPlanned (name : BodyName) : Type 0 where
    pub codes : (frame_info p name).codes ≡ (rules.unwind_of spell (body_plan p q name)).codes
    pub frame_register : (frame_info p name).frame_register ≡ (body_plan p q name).frame
    pub frame_offset : (frame_info p name).frame_offset ≡ (body_plan p q name).distance
    pub prologue_size : (frame_info p name).prologue_size
        ≡ (rules.unwind_of spell (body_plan p q name)).prologue_size

  -- a leaf function has no entry
  abbrev pub LeavesAreWaiting : Type 0
  LeavesAreWaiting =
      (m : Memory) (name : BodyName) (b : LinearBody) (label : ℕ) (c : Context) (back : ℕ)
      → body_of program name ≡ Some b → p.leaf name ≡ true → IsResumed name b label c.rip
      → length c.kept ≡ 9 → rsp c + 8 < 2 ^ 64 → word m (rsp c) ≡ Ok back
      → LeafIsAt t m c back

  -- ---- where a body continues after an exception that is continued

  abbrev pub at_instruction : Frame → Instruction → Type 0
  at_instruction b i = instruction_in (body_of program b.body) b.next ≡ Some i

  -- after its call of RaiseException
  pub record ReturnsThere (b : Frame) (saved : Cpu) : Type 0 where
    pub first : ℕ
    pub calls : at_instruction b (instructions.CallBuiltIn RaiseException first)
    pub here : saved.rip ≡ return_at (p.layout b.body) first (p.address b.body b.next + 5)
    pub no_result : register saved Rax ≡ 0

  -- at the machine instruction that faulted, with the operands that it reads in their registers:
  -- they are temporaries, which no filter changes; a leaf function's locals, which have these
  -- numbers, in theirs
  pub record WorksAgain (b : Frame) (values : List ℕ) (saved : Cpu) : Type 0 where
    pub to : Slot
    pub operation : Operation
    pub first : ℕ
    pub second : ℕ
    pub works : at_instruction b (instructions.Compute to operation (Temporary first)
        (Temporary second))
    pub here : saved.rip ≡ p.address b.body b.next + sizes
        (operands_code (p.layout b.body) operation (Temporary first) (Temporary second))
    pub has_first : operands.has_first operation ≡ true
        → slice_get b.temporaries first ≡ Some (register saved Rax)
    pub has_second : operands.has_second operation ≡ true
        → slice_get b.temporaries second ≡ Some (register saved Rcx)
    pub ready : IsReady operation (view_of saved)
    pub locals : RegistersHold (now_of true saved) (p.register b.body) 0 values

  abbrev pub IsResumption : Resumption → Frame → List ℕ → Cpu → Type 0
  IsResumption AfterCall b values saved = ReturnsThere b saved
  IsResumption SameOperation b values saved = WorksAgain b values saved

  pub record SaysResumptions (resumption : Resumption) (b : Frame) (values : List ℕ)
      (saved : Cpu) : Type 0 where
    pub says : IsResumption resumption b values saved → p.resumes resumption b values saved ≡ true
    pub said : p.resumes resumption b values saved ≡ true → IsResumption resumption b values saved

  -- ---- funclets

  -- the funclet is a `__finally` block
  abbrev pub is_finally : FuncletKind → Bool
  is_finally Filter = false
  is_finally (Finally flag) = true

  -- of its function's locals a funclet names those alone that it reaches
  pub record NamesReached (k : ℕ) (f : LinearFunclet) : Type 0 where
    pub flag : FlagHas (IsReached p (FuncletBody k)) f.kind
    pub code : AllByRecursion (SlotsHave (IsReached p (FuncletBody k))) f.body.code

  -- RIP arrives at a funclet where its first byte is, and shows the event of its number
  pub record FuncletsBegin : Type 0 where
    pub named : (k : ℕ) (f : LinearFunclet) → slice_get program.funclets k ≡ Some f → (c : Cpu)
        → arrivals c (distance t.base (p.funclet k)) 1 fs
        ≡ by_kind c (k + 1) (is_finally f.kind) ∷ []
    pub none : (a : ℕ) → a < 2 ^ 64 → ((k : ℕ) → k < length program.funclets → a ≢ p.funclet k)
        → (c : Cpu) → arrivals c (distance t.base a) 1 fs ≡ []

  -- ---- where a walk finds callers

  -- where a return has fetched its result, past these loads of saved registers
  abbrev pub loaded_at : BodyName → (label : ℕ) → Slot → List Saved → ℕ
  loaded_at name label from loaded =
      p.address name label + sizes (fetch (p.layout name) Rax from)
      + sizes (rules.loads_then loaded [])

  -- at a routine's first byte the return address is at RSP; while its frame is made the codes of
  -- the instructions that have been run are still to be undone, in it all codes; once an epilogue
  -- has loaded the saved registers all but their saves; and once the frame is given back the pushes
  -- of registers that are still to be popped
  pub record FindsCallers (name : BodyName) (b : LinearBody) : Type 0 where
    pub entries : (m : Memory) → (p.leaf name ≡ true → 0 < length b.code)
        → FindsReturn t m (begin_of p q name)
    pub making : (m : Memory) (d : ℕ) → p.leaf name ≡ false
        → d < (frame_info p name).prologue_size
        → FindsOwed t m (begin_of p q name + d) (owed_after (frame_info p name) d)
    pub arguments :
        (m : Memory) (done left : List Instr) (item : Instr)
        → HasProgram m → arguments_code program p name ≡ done ++ (item ∷ left)
        → FindsOwed t m (begin_of p q name + making_size p q name + sizes done) (owed_of p name)
    pub returns :
        (m : Memory) (label : ℕ) (from : Slot) (done left : List Instr) (item : Instr)
        → HasProgram m → slice_get b.code label ≡ Some (instructions.Return from)
        → fetch (p.layout name) Rax from ≡ done ++ (item ∷ left)
        → FindsOwed t m (p.address name label + sizes done) (owed_of p name)
    pub leaf_ends :
        (m : Memory) (label : ℕ) (from : Slot)
        → HasProgram m → slice_get b.code label ≡ Some (instructions.Return from)
        → p.leaf name ≡ true → FindsReturn t m (loaded_at name label from [])
    pub loads :
        (m : Memory) (label : ℕ) (from : Slot) (loaded left : List Saved) (next : Saved)
        → HasProgram m → slice_get b.code label ≡ Some (instructions.Return from)
        → p.leaf name ≡ false → (body_plan p q name).saves ≡ loaded ++ (next ∷ left)
        → FindsOwed t m (loaded_at name label from loaded) (owed_of p name)
    pub opens :
        (m : Memory) (label : ℕ) (from : Slot)
        → HasProgram m → slice_get b.code label ≡ Some (instructions.Return from)
        → p.leaf name ≡ false
        → FindsOwed t m (loaded_at name label from (body_plan p q name).saves)
        (owed_opening (body_plan p q name))
    pub ends :
        (m : Memory) (label : ℕ) (from : Slot) (popped left : List ℕ)
        → HasProgram m → slice_get b.code label ≡ Some (instructions.Return from)
        → p.leaf name ≡ false → (body_plan p q name).pushes ≡ popped ++ left
        → FindsOwed t m (p.address name label + sizes (fetch (p.layout name) Rax from)
        + sizes (epilogue_through (body_plan p q name) popped))
        (owed_pops (body_plan p q name) left)

  -- so it is where no entry of the function table is: in thunks, in `__chkstk`, and at the host's
  -- services
  pub record FindsCallersOutside : Type 0 where
    pub thunks : (m : Memory) (f : BuiltIn) (d : ℕ) → CallsBuiltIn program f
        → d < sizes (stub_code p f (q.thunk f)) + thunk_size → FindsReturn t m (q.thunk f + d)
    pub names : (m : Memory) (f d : ℕ) → AddsHandlers → f < length program.functions
        → d < name_thunk_size
        → FindsReturn t m (p.handler f + d)
    pub local_unwind : (m : Memory) → FindsReturn t m q.local_unwind
    pub check_stack : (m : Memory) (d : ℕ) → d < sizes check_stack
        → FindsReturn t m (q.check_stack + d)
    pub services : (m : Memory) (a : ℕ) → 0 < a → a < LEAST_BASE → a ≢ filter_return
        → a ≢ finally_return → a ≢ vectored_return → FindsReturn t m a

  -- ---- all of it

  -- what an image has of a program of linear code. It has the code of each body at its addresses
  -- (`HasAddresses`), with what begins it. The code of its cold parts is apart from the rest, so
  -- that where an instruction falls through the next one's code follows its own (`HasEnds`). The
  -- entries of a body all tell of its one frame (`HasOneFrame`). The image has thunks of the
  -- services, after a stub where a vectored handler is put in or taken out (`stub_code`,
  -- `HasBuiltIn`), and `__chkstk`. A stub names a function of the program, whose name thunk is near
  -- the stub (`NamesFunction`). It has the name thunks of functions where handlers are put in
  -- (`HasName`, `AddsHandlers`). It has layouts of frames, with slots where layouts say. A
  -- function's locals are where its layout says, in registers that its prologue saves or in its
  -- frame, and of these each funclet names those in the frame alone (`NamesReached`). For each body
  -- with a frame there are the prologue of its plan, an entry that tells of it, and the scope
  -- records of its regions; leaf functions have no entry. RIP at a funclet's first byte, and
  -- nowhere else, shows the event of its number.
  pub record IsProgramImage : Type 0 where
    pub gives : Gives t fs program p
    pub laid_out : AreLaidOut program p
    pub addresses : (name : BodyName) (b : LinearBody) → body_of program name ≡ Some b
        → HasAddresses name b
    pub ends : (name : BodyName) (b : LinearBody) → body_of program name ≡ Some b
        → HasEnds name b
    pub one_frame : (name : BodyName) (b : LinearBody) → body_of program name ≡ Some b
        → p.leaf name ≡ false → HasOneFrame name
    pub check_stack : IsInImage q.check_stack (q.check_stack + sizes check_stack)
    -- a function's locals stand where its layout says
    pub registers : (f x : ℕ) → p.register (FunctionBody f) x
        ≡ register_of (p.layout (FunctionBody f)) x
    -- all parameters of a leaf function stay in the registers in which they arrive
    pub arrivals : (f : ℕ) (g : LinearFunction) → slice_get program.functions f ≡ Some g
        → p.leaf (FunctionBody f) ≡ true → (p.layout (FunctionBody f)).arrivals ≡ g.parameters
    pub spares : (k : ℕ) (f : LinearFunclet) → slice_get program.funclets k ≡ Some f
        → NamesReached k f
    pub lands : (name : BodyName) (b : LinearBody) (label : ℕ) → body_of program name ≡ Some b
        → label < length b.code → p.lands name label ≡ true
    pub landings : (name : BodyName) (b : LinearBody) (label : ℕ) → body_of program name ≡ Some b
        → p.lands name label ≡ true → label < length b.code
    pub plans : (name : BodyName) (b : LinearBody) → body_of program name ≡ Some b
        → p.leaf name ≡ false → IsPlanned name
    pub frames : FramesAreWaiting
    pub leaves : LeavesAreWaiting
    pub funclets : FuncletsBegin
    pub resumptions : (resumption : Resumption) (b : Frame) (values : List ℕ) (saved : Cpu)
        → SaysResumptions resumption b values saved
    pub callers : (name : BodyName) (b : LinearBody) → body_of program name ≡ Some b
        → FindsCallers name b
    pub callers_outside : FindsCallersOutside
    -- where `walk` is called, the rows of names hold the code of functions alone, with their
    -- numbers
    pub names : CallsBuiltIn program Walk → NumbersFunctions program p (number_at t)
    -- no funclet begins where a function does
    pub functions_apart : (f k : ℕ) → f < length program.functions → k < length program.funclets
        → q.function f ≢ p.funclet k
    -- different functions have different name thunks
    pub handlers_small : HandlersAreSmall p
    pub handlers_apart : AddsHandlers → (f g : ℕ) → f < length program.functions
        → g < length program.functions → p.handler f ≡ p.handler g → f ≡ g
