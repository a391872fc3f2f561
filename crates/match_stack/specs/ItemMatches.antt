-- The plain list of what waits in linear code, as it is in the machine's stack, item by item.
--
-- The main definitions: `Linked`, `ReturnsTo`.
use Rattle.std.specs.Prelude.{◌≡◌, ◌⊎◌, ℕ, ◌+◌, ◌-◌, ◌*◌, ◌%◌, ◌^◌, ◌<◌, ◌≤◌, Bool, true, false, not, ◌==◌, List, [], ◌∷◌, ◌++◌, length, drop, filter, slice_get, Option, Some, None, Ok}
use Rattle.std.specs.List.{AllByRecursion}
use Rattle.host_layout.specs.declared.range.TheConstants.{STACK_END, FIRST_STACK}
use Rattle.flat_memory.specs.Memory.{Memory}
use Rattle.x64_machine.specs.declared.cpu.Cpu.{Cpu}
use Rattle.x64_machine.specs.declared.context.Context.{Context}
use Rattle.x64_machine.specs.Contexts.{context_of}
use Rattle.eh_tables.specs.declared.scope.ScopeRecord.{ScopeRecord}
use Rattle.virtual_unwind.specs.Contexts.{get, rsp}
use Rattle.virtual_unwind.specs.Undone.{word}
use Rattle.virtual_unwind.specs.CallerOf.{Functions, entry_of}
use Rattle.seh_records.specs.declared.dispatch.Kind.TheVariants.{Search, ExceptionUnwind, LocalUnwind, Vectored}
use Rattle.seh_records.specs.declared.dispatch.DispatchRecord.{DispatchRecord}
use Rattle.seh_records.specs.declared.layout.TheConstants.{PLACED_SIZE}
use Rattle.seh_records.specs.Record.{misplaced}
use Rattle.seh_records.specs.Laws.{RecordFits, AllSmall}
use Rattle.host_model.specs.declared.funclet.Funclet.{Funclet}
use Rattle.host_model.specs.Dispatch.{row_before, rows_of, parameters, count}
use Rattle.template_code.specs.declared.layout.Layout.{Layout}
use Rattle.template_code.specs.Bytes.{sizes}
use Rattle.template_code.specs.Calls.{return_at, passing_code, finally_arguments}
use Rattle.linear_code.specs.declared.instruction.Instruction.{Instruction}
use Rattle.linear_code.specs.declared.instruction.Instruction.TheVariants as instructions
use Rattle.source_meaning.specs.State.{Exception}
use Rattle.source_meaning.specs.declared.depth.TheConstants.{DEEPEST}
use Rattle.linear_code.specs.declared.program.Region.{Region}
use Rattle.linear_code.specs.declared.program.FuncletKind.TheVariants as funclets
use Rattle.linear_code.specs.Program.{LinearProgram, LinearBody, LinearFunclet}
use Rattle.linear_machine.specs.Frames.{BodyName, FunctionBody, FuncletBody, body_of, Frame, Handler, Target, Resumption, Asked, FilterOf, VectoredAt, Item, Waits, Searches, Unwinds}
use Rattle.linear_machine.specs.Run.{instruction_in}
use Rattle.linear_machine.specs.Regions.{holds, regions_of, regions_at, regions_left, handlers_in, handlers}
use Rattle.match_stack.specs.Stack.{StackFrame, StackItem, Framed, Leaf, Searching, Unwinding, after_frame, after_leaf}
use Rattle.match_stack.specs.ImagePlan.{ImagePlan, InCode}
use Rattle.template_code.specs.declared.layout.TheConstants.{FRAME_BY_WEIGHT}

-- ---- the source's activations

-- the base of a function's frame, the distance of its first local from there, which locals are in
-- registers instead, and the locals
pub record Activation : Type 0 where
  pub base : ℕ
  pub distance : ℕ
  pub register : ℕ → Option ℕ
  pub values : List ℕ

-- innermost first here; the linear machine has the outermost first
abbrev pub locals_of : List Activation → List (List ℕ)
locals_of [] = []
locals_of (a ∷ outer) = locals_of outer ++ a.values ∷ []

-- activation number k has its base and its first local there, and these in registers
pub record ActivationHasBase (k at first : ℕ) (register : ℕ → Option ℕ) (a : Activation)
    (outer : List Activation) : Type 0 where
  pub number : k ≡ length outer
  pub base : at ≡ a.base
  pub distance : first ≡ a.distance
  pub registers : register ≡ a.register

-- the activation of this number has its base so far above
abbrev pub IsActivation : List Activation → ℕ → ℕ → ℕ → (ℕ → Option ℕ) → Type 0
IsActivation [] k base distance register = ⊥
IsActivation (a ∷ outer) k base distance register =
    ActivationHasBase k base distance register a outer ⊎ IsActivation outer k base distance register

-- the activations below a body: a function's own is the first
abbrev pub below_function : List Activation → List Activation
below_function [] = []
below_function (a ∷ outer) = outer

-- the activations that are live below a body
abbrev pub activations_below : BodyName → List Activation → List Activation
activations_below (FunctionBody f) acts = below_function acts
activations_below (FuncletBody k) acts = acts

-- the numbers in the locals of a leaf function, whose activation is the first; of no other body
abbrev pub leaf_values : Bool → BodyName → List Activation → List ℕ
leaf_values false name acts = []
leaf_values true (FuncletBody k) acts = []
leaf_values true (FunctionBody f) [] = []
leaf_values true (FunctionBody f) (a ∷ outer) = a.values

-- where an exception is continued, the body that raised it continues from the saved state
abbrev pub ResumesFrom : ImagePlan → Resumption → Frame → List Activation → Cpu → Type 0
ResumesFrom p resumption b acts saved =
    p.resumes resumption b (leaf_values (p.leaf b.body) b.body acts) saved ≡ true

-- ---- room on the stack

-- a stack pointer, but for some bytes, is no further from the stack's end than frames of this depth
-- take, and the depth is within its limit; a filter or a `__finally` block takes no more than a
-- depth of 2 gives, with its record
pub record HasSpace (sp beside depth : ℕ) : Type 0 where
  pub space : STACK_END ≤ sp + beside + FRAME_BY_WEIGHT * depth
  pub shallow : depth ≤ DEEPEST

-- a return address and the home space above it, with which a run begins at the stack's end; the
-- slots of a leaf function end so far above its return address
abbrev pub home_end : ℕ
home_end = STACK_END - FIRST_STACK

-- the first return address is so far below the stack's end
abbrev pub below_end : ℕ
below_end = home_end

-- bytes that a record, its return address and the alignment take at most
abbrev pub record_room : ℕ
record_room = PLACED_SIZE + 24

-- ---- a body's frame

-- the numbers of slots one after another, from an address on and below an end
abbrev pub HoldsWords : Memory → ℕ → ℕ → List ℕ → Type 0
HoldsWords m at end [] = at ≤ end
HoldsWords m at end (v ∷ vs) = (word m at ≡ Ok v) × HoldsWords m (at + 8) end vs

-- a local is in its register, or in its word of the frame
abbrev pub IsInPlace : Memory → (ℕ → ℕ) → (at v : ℕ) → Option ℕ → Type 0
IsInPlace m now at v None = word m at ≡ Ok v
IsInPlace m now at v (Some r) = now r ≡ v

-- the numbers of locals one after another, from the one of a number on; each has a word of the
-- frame, from an address on and below an end, which it leaves unused where it is in a register
abbrev pub HoldsPlaces : Memory → (ℕ → ℕ) → (ℕ → Option ℕ) → (i at end : ℕ) → List ℕ → Type 0
HoldsPlaces m now register i at end [] = at ≤ end
HoldsPlaces m now register i at end (v ∷ vs) =
    IsInPlace m now at v (register i) × HoldsPlaces m now register (i + 1) (at + 8) end vs

-- where the temporaries of a body end at the latest: a function's before its locals, a funclet's
-- where its slots end
abbrev pub temporaries_end : Layout → BodyName → ℕ → ℕ
temporaries_end y (FunctionBody f) size = y.locals
temporaries_end y (FuncletBody k) size = size

-- a function's frame and registers hold the locals of its activation, which is the first
pub record HoldsLocals (m : Memory) (now : ℕ → ℕ) (register : ℕ → Option ℕ) (y : Layout)
    (sp size k : ℕ) (a : Activation) (outer : List Activation) : Type 0 where
  pub none : y.base ≡ None
  pub activation : ActivationHasBase k sp y.locals register a outer
  pub values : HoldsPlaces m now register 0 (sp + y.locals) (sp + size) a.values

-- a funclet's frame keeps the base
pub record FrameKeepsBase (m : Memory) (register : ℕ → Option ℕ) (y : Layout) (sp size k : ℕ)
    (acts : List Activation) : Type 0 where
  pub slot : ℕ
  pub base : ℕ
  pub some : y.base ≡ Some slot
  pub room : slot + 8 ≤ size
  pub kept : word m (sp + slot) ≡ Ok base
  pub activation : IsActivation acts k base y.locals register

-- the first activation's locals are in the frame and in registers
abbrev pub FirstHoldsLocals : Memory → (ℕ → ℕ) → (ℕ → Option ℕ) → Layout → (sp size k : ℕ)
    → List Activation → Type 0
FirstHoldsLocals m now register y sp size k [] = ⊥
FirstHoldsLocals m now register y sp size k (a ∷ outer) =
    HoldsLocals m now register y sp size k a outer

-- a function holds its own locals; a funclet keeps the base of its function's
abbrev pub HasActivation : Memory → (ℕ → ℕ) → (ℕ → Option ℕ) → Layout → (sp size k : ℕ)
    → List Activation → BodyName → Type 0
HasActivation m now register y sp size k acts (FunctionBody f) =
    FirstHoldsLocals m now register y sp size k acts
HasActivation m now register y sp size k acts (FuncletBody j) =
    FrameKeepsBase m register y sp size k acts

-- what the frame that a funclet is given leads to: a function's frame is the base, a funclet's
-- keeps it
pub record KeptIn (m : Memory) (y : Layout) (frame base : ℕ) : Type 0 where
  pub slot : ℕ
  pub some : y.base ≡ Some slot
  pub room : frame + slot + 8 < 2 ^ 64
  pub kept : word m (frame + slot) ≡ Ok base

-- a frame leads to the base of its activation
abbrev pub Leads : Memory → Layout → BodyName → (frame base : ℕ) → Type 0
Leads m y (FunctionBody f) frame base = frame ≡ base
Leads m y (FuncletBody k) frame base = KeptIn m y frame base

-- where the call that an instruction makes returns to
abbrev pub return_of : Layout → ℕ → Option Instruction → Option ℕ
return_of y at (Some (instructions.Call f first count)) =
    Some (return_at y first (at + sizes (passing_code y first 4 (count - 4))))
return_of y at (Some (instructions.CallFinally k)) = Some (at + sizes finally_arguments + 5)
return_of y at i = None

module _ (t : Functions) (fs : List Funclet) (program : LinearProgram) (p : ImagePlan) where
  -- activation number k, by the frame of a body
  pub record Reaches (m : Memory) (name : BodyName) (frame k : ℕ)
      (acts : List Activation) : Type 0 where
    pub base : ℕ
    pub leads : Leads m (p.layout name) name frame base
    pub activation : IsActivation acts k base (p.layout name).locals (p.register name)

  -- the same regions of a body hold two of its instructions
  abbrev pub SameRegions : Option LinearBody → ℕ → ℕ → Type 0
  SameRegions body label other =
      AllByRecursion (λ (r : Region). holds label r ≡ holds other r) (regions_of body)

  -- a body waits: RIP is in the code of an instruction that the same regions hold as the one that
  -- it waits in (the same instruction, or where a call is the last of its code, the next one); its
  -- slots are in memory, up to an end above RSP, but for the locals that stand in registers. Of
  -- memory it owns, by its layout from RSP up: its temporaries, up to `end`; a function its locals,
  -- up to `size`; a funclet the word that keeps the base of its function's frame; a filter also the
  -- word that keeps its EXCEPTION_POINTERS (`KeepsPointers`); and the return address of
  -- `FrameWaits` and `LeafWaits`.
  pub record BodyWaits (m : Memory) (c : Context) (now : ℕ → ℕ) (size end : ℕ) (b : Frame)
      (acts : List Activation) : Type 0 where
    pub code : LinearBody
    pub body : body_of program b.body ≡ Some code
    pub label : ℕ
    pub instruction : InCode p b.body label c.rip
    pub same : SameRegions (body_of program b.body) label b.next
    pub small : c.rip < 2 ^ 64
    pub activation : HasActivation m now (p.register b.body) (p.layout b.body) (rsp c) size
        b.activation acts b.body
    pub temporaries : HoldsWords m (rsp c + (p.layout b.body).temporaries)
        (rsp c + end) b.temporaries
    pub space : HasSpace (rsp c) below_end (length acts + b.held)

  -- a filter's frame keeps the address of the EXCEPTION_POINTERS that it is asked with: they are
  -- in the record above its return address
  pub record KeepsPointers (m : Memory) (y : Layout) (sp size : ℕ) : Type 0 where
    pub room : y.pointers + 8 ≤ size
    pub kept : word m (sp + y.pointers) ≡ Ok (sp + size + 88)

  -- a filter keeps the address of EXCEPTION_POINTERS
  abbrev pub HasPointers : Memory → Layout → (sp size : ℕ) → List Item → Type 0
  HasPointers m y sp size (Searches exception resumption (FilterOf h rest) ∷ below) =
      KeepsPointers m y sp size
  HasPointers m y sp size items = Unit {0}

  -- what a body that waits has called returns to where its call ends; the first body returns to 0
  abbrev pub ReturnsTo : List Item → ℕ → Type 0
  ReturnsTo [] back = back ≡ 0
  ReturnsTo (Waits w ∷ below) back =
      return_of (p.layout w.body) (p.address w.body w.next)
      (instruction_in (body_of program w.body) w.next) ≡ Some back
  ReturnsTo items back = Unit {0}

  -- in a frame of its own, with the instruction's entry and the body's slots; its locals are in the
  -- nonvolatile registers, which a walk finds; its caller's registers are numbers of 64 bits
  pub record FrameWaits (m : Memory) (c : Context) (f : StackFrame) (b : Frame) (below : List Item)
      (acts : List Activation) : Type 0 where
    pub framed : p.leaf b.body ≡ false
    pub slots : f.slots ≡ (p.layout b.body).slots
    pub small : AllSmall f.others
    pub waits : BodyWaits m c (get c) f.slots (temporaries_end (p.layout b.body) b.body f.slots) b
        acts
    pub entry : f.entry ≡ p.entry b.body waits.label
    pub pointers : HasPointers m (p.layout b.body) (rsp c) f.size below
    pub returns : ReturnsTo below f.return_address

  -- a leaf function, without one: it waits for the search of its own exception alone, whose saved
  -- state has the registers of its locals (`ImagePlan.resumes`)
  pub record LeafWaits (m : Memory) (c : Context) (back : ℕ) (b : Frame) (below : List Item)
      (acts : List Activation) : Type 0 where
    pub leaf : p.leaf b.body ≡ true
    pub home : rsp c + home_end ≤ STACK_END
    pub none : regions_of (body_of program b.body) ≡ []
    pub now : ℕ → ℕ
    pub waits : BodyWaits m c now (p.layout b.body).temporaries home_end b acts
    pub returns : ReturnsTo below back

  -- ---- what lies below a body

  -- a filter answers a search for its exception; a `__finally` block ends an unwinding, or
  -- continues its body
  abbrev pub IsAskedBy : ℕ → Frame → Exception → Handler → Type 0
  IsAskedBy k b exception h = (h.filter ≡ Some k) × (b.exception ≡ exception)

  -- what waits below a funclet is what called it
  abbrev pub FuncletIsAbove : ℕ → Frame → Option LinearFunclet → List Item → Type 0
  FuncletIsAbove k b (Some f)
      (Searches exception resumption (FilterOf asked rest) ∷ Waits w ∷ below) =
      (f.kind ≡ funclets.Filter) × IsAskedBy k b exception asked
  FuncletIsAbove k b (Some f) (Unwinds rest target ∷ Waits w ∷ below) =
      (flag : ℕ) × (f.kind ≡ funclets.Finally flag)
  FuncletIsAbove k b (Some f) (Waits w ∷ below) = (flag : ℕ) × (f.kind ≡ funclets.Finally flag)
  FuncletIsAbove k b f items = ⊥

  -- a function was called, is the first, or is asked as a vectored handler
  abbrev pub FunctionIsAbove : List Item → Type 0
  FunctionIsAbove [] = Unit {0}
  FunctionIsAbove (Waits w ∷ below) = Unit {0}
  FunctionIsAbove (Searches exception resumption (VectoredAt place) ∷ Waits w ∷ below) = Unit {0}
  FunctionIsAbove items = ⊥

  -- what waits below a body is what called it
  abbrev pub IsAbove : Frame → BodyName → List Item → Type 0
  IsAbove b (FunctionBody f) below = FunctionIsAbove below
  IsAbove b (FuncletBody k) below = FuncletIsAbove k b (slice_get program.funclets k) below

  -- ---- where a walk is in the list

  -- the regions that hold a body's instruction, of those from a row on
  abbrev pub regions_from : Frame → ℕ → List Region
  regions_from b row = filter (holds b.next) (drop row (regions_of (body_of program b.body)))

  -- a walk is at a row; the linear one has these regions left, or all that hold the instruction
  abbrev pub IsAtRow : ℕ → List Item → Option (List Region) → Type 0
  IsAtRow row (Waits b ∷ below) left =
      regions_left left (regions_at program b.body b.next) ≡ regions_from b row
  IsAtRow row items left = Unit {0}

  -- a search is here, and from a row on comes to these handlers
  pub record OnwardHere (to : Context) (row : ℕ) (found : List Handler) (c : Context) (b : Frame)
      (below : List Item) : Type 0 where
    pub same : c ≡ to
    pub finds_handlers : found ≡ handlers_in (regions_from b row) b.activation (length below)
        ++ handlers program below None

  -- a search has come to a context of the list and a row there, and would still ask these handlers
  abbrev pub Onward : (to : Context) (row : ℕ) → List Handler → Context → List StackItem → List Item
      → Type 0
  Onward to row found c (Framed f ∷ is) (Waits b ∷ below) =
      OnwardHere to row found c b below ⊎ Onward to row found (after_frame c f) is below
  Onward to row found c (Leaf back ∷ is) (Waits b ∷ below) =
      OnwardHere to row found c b below ⊎ Onward to row found (after_leaf c back) is below
  Onward to row found c (Searching r ∷ is) (Searches exception resumption asked ∷ below) =
      Onward to row found (context_of r.saved) is below
  Onward to row found c (Unwinding r ∷ is) (Unwinds rest target ∷ below) =
      Onward to row found r.walk is below
  Onward to row found c is items = ⊥

  -- this body's frame is that of a target
  pub record AimedHere (depth label frame address : ℕ) (c : Context) (b : Frame)
      (below : List Item) : Type 0 where
    pub at_depth : depth ≡ length below
    pub at_frame : frame ≡ rsp c
    pub at_address : address ≡ p.address b.body label
    pub lands : p.lands b.body label ≡ true

  -- the frame with so many items below it has this base, and the label in its body this address
  abbrev pub Aimed : (depth label frame address : ℕ) → Context → List StackItem → List Item → Type 0
  Aimed depth label frame address c (Framed f ∷ is) (Waits b ∷ below) =
      AimedHere depth label frame address c b below
      ⊎ Aimed depth label frame address (after_frame c f) is below
  Aimed depth label frame address c (Leaf back ∷ is) (Waits b ∷ below) =
      Aimed depth label frame address (after_leaf c back) is below
  Aimed depth label frame address c (Searching r ∷ is)
      (Searches exception resumption asked ∷ below) =
      Aimed depth label frame address (context_of r.saved) is below
  Aimed depth label frame address c (Unwinding r ∷ is) (Unwinds rest target ∷ below) =
      Aimed depth label frame address r.walk is below
  Aimed depth label frame address c is items = ⊥

  -- ---- suspended searches and unwindings

  -- the row before a record's next one jumps to an address
  pub record JumpsBefore (rip next address : ℕ) : Type 0 where
    pub row : ScopeRecord
    pub before : row_before (rows_of (entry_of t rip)) next ≡ Some row
    pub jumps : (row.jump_target == 0) ≡ false
    pub target : (t.base + row.jump_target) % 2 ^ 64 ≡ address

  -- the record has the exception; of its flags none but the first may be set
  pub record HasException (r : DispatchRecord) (exception : Exception) : Type 0 where
    pub code : r.code.0 ≡ exception.code
    pub flag : (r.flags % 2 == 0) ≡ not exception.flag
    pub one_flag : r.flags < 2
    pub count : r.count ≡ count exception.access
    pub parameters : r.parameters ≡ parameters exception.access

  -- it can be written again in place
  pub record IsOwnRecord (m : Memory) (at : ℕ) (r : DispatchRecord) : Type 0 where
    pub fits : RecordFits r
    pub room : misplaced m at ≡ None

  -- the body right below a search raised its exception
  abbrev pub Resumes : Resumption → List Item → List Activation → Cpu → Type 0
  Resumes resumption (Waits b ∷ below) acts saved = ResumesFrom p resumption b acts saved
  Resumes resumption items acts saved = Unit {0}

  -- a handler's filter is asked, with the others after it
  pub record FilterIsAsked (r : DispatchRecord) (asked : Handler) (rest : List Handler)
      (is : List StackItem) (below : List Item) : Type 0 where
    pub kind : r.kind ≡ Search
    pub onward : Onward r.walk r.row rest (context_of r.saved) is below
    pub address : ℕ
    pub aimed : Aimed asked.depth asked.target r.frame address (context_of r.saved) is below
    pub before : JumpsBefore r.walk.rip r.row address

  -- a vectored handler is asked, at a place of their list: the walk hasn't begun
  pub record HandlerIsAsked (r : DispatchRecord) (place : ℕ) : Type 0 where
    pub kind : r.kind ≡ Vectored
    pub row : r.row ≡ place
    pub walk : r.walk ≡ context_of r.saved

  abbrev pub Awaits : DispatchRecord → Asked → List StackItem → List Item → Type 0
  Awaits r (FilterOf asked rest) is below = FilterIsAsked r asked rest is below
  Awaits r (VectoredAt place) is below = HandlerIsAsked r place

  -- a search that waits for an answer; of memory it owns its record at RSP
  pub record SearchWaits (m : Memory) (c : Context) (r : DispatchRecord) (exception : Exception)
      (resumption : Resumption) (asked : Asked) (is : List StackItem) (below : List Item)
      (acts : List Activation) : Type 0 where
    pub own : IsOwnRecord m (rsp c) r
    pub carries : HasException r exception
    pub resumes : Resumes resumption below acts r.saved
    pub asks : Awaits r asked is below
    pub near : rsp (context_of r.saved) ≤ rsp c + record_room

  -- an exception's unwinding has its code
  abbrev pub HasPurpose : Option ℕ → DispatchRecord → Type 0
  HasPurpose (Some code) r = (r.kind ≡ ExceptionUnwind) × (r.code.0 ≡ code)
  HasPurpose None r = r.kind ≡ LocalUnwind

  -- an unwinding that runs a `__finally` block, with the regions that are left in the body below;
  -- of memory it owns its record at RSP
  pub record UnwindingWaits (m : Memory) (c : Context) (r : DispatchRecord) (rest : List Region)
      (target : Target) (is : List StackItem) (below : List Item)
      (acts : List Activation) : Type 0 where
    pub own : IsOwnRecord m (rsp c) r
    pub purpose : HasPurpose target.code r
    pub row : IsAtRow r.row below (Some rest)
    pub aimed : Aimed target.depth target.label r.target_frame r.target r.walk is below
    pub space : HasSpace (rsp c) (below_end + record_room) (length acts + target.held)

  -- ---- the whole list

  -- the items of the stack are those of linear code's list, one by one. A waiting body has a frame
  -- with RIP in the code of its instruction, and with its temporaries. It has the locals of its
  -- activation in their places or, of a funclet, the base of its activation's frame. A place
  -- (`IsInPlace`) is a register of the context that the list has there, or a word of the frame. A
  -- suspended search has a record with its exception, from whose walk and row exactly the handlers
  -- that are left are asked (`Onward`), and whose frame is that of the asked handler (`Aimed`). A
  -- suspended unwinding has a record whose row is where the regions that are left begin, and whose
  -- target frame and target are those of its target.
  abbrev pub Linked : Memory → Context → List StackItem → List Item → List Activation → Type 0
  Linked m c [] [] acts = (acts ≡ []) × (rsp c ≤ STACK_END)
  Linked m c (Framed f ∷ is) (Waits b ∷ below) acts =
      FrameWaits m c f b below acts × IsAbove b b.body below
      × Linked m (after_frame c f) is below (activations_below b.body acts)
  Linked m c (Leaf back ∷ is) (Waits b ∷ below) acts =
      LeafWaits m c back b below acts × IsAbove b b.body below
      × Linked m (after_leaf c back) is below (activations_below b.body acts)
  Linked m c (Searching r ∷ is) (Searches exception resumption asked ∷ below) acts =
      SearchWaits m c r exception resumption asked is below acts
      × Linked m (context_of r.saved) is below acts
  Linked m c (Unwinding r ∷ is) (Unwinds rest target ∷ below) acts =
      UnwindingWaits m c r rest target is below acts × Linked m r.walk is below acts
  Linked m c is items acts = ⊥
