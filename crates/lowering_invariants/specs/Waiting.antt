-- What waits below a body that runs, and where.
--
-- The main definition: `IsStacked`.
use Rattle.std.specs.Prelude.{◌≡◌, ◌⊎◌, ℕ, List, [], ◌∷◌, length, Option, Some, None}
use Rattle.std.specs.List.{AllByRecursion}
use Rattle.c_operations.specs.declared.built_in.BuiltIn.TheVariants.{RaiseException, AddVectored}
use Rattle.c_operations.specs.declared.operation.Operation.{Operation}
use Rattle.source_meaning.specs.State.{Exception}
use Rattle.linear_code.specs.declared.slot.Slot.{Slot}
use Rattle.linear_code.specs.declared.instruction.Instruction.{Instruction}
use Rattle.linear_code.specs.declared.instruction.Instruction.TheVariants as instructions
use Rattle.linear_code.specs.declared.program.Region.{Region}
use Rattle.linear_code.specs.declared.program.RegionKind.{RegionKind}
use Rattle.linear_code.specs.declared.program.RegionKind.TheVariants as kinds
use Rattle.linear_code.specs.Program.{LinearProgram}
use Rattle.linear_machine.specs.Frames.{FunctionBody, FuncletBody, BodyName, body_of, Frame, Handler, Target, Resumption, AfterCall, SameOperation, Asked, FilterOf, VectoredAt, Item, Waits, Searches, Unwinds, Configuration}
use Rattle.linear_machine.specs.Run.{instruction_in}
use Rattle.linear_machine.specs.BuiltInCalls.{CallsBuiltIn}
use Rattle.lowering_invariants.specs.Bodies.{IsCallee, IsVectoredCallee, IsFinallyKind, IsFuncletOf, IsLanding, IsRegionOf}

module _ (program : LinearProgram) where
  -- the instruction that a body is at, or waits in
  abbrev pub IsAt : Frame → Instruction → Type 0
  IsAt f i = instruction_in (body_of program f.body) f.next ≡ Some i

  -- a call has taken its arguments; the operands of an operation that faulted are held
  abbrev pub MayWait : Instruction → ℕ → Type 0
  MayWait (instructions.Compute to o first second) n = Unit {0}
  MayWait (instructions.Call f first count) n = n ≡ first
  MayWait (instructions.CallBuiltIn RaiseException first) n = n ≡ first
  MayWait (instructions.CallFinally k) n = Unit {0}
  MayWait (instructions.LocalUnwind label) n = Unit {0}
  MayWait other n = ⊥

  -- a body that waits
  pub record IsWaiting (f : Frame) : Type 0 where
    pub instruction : Instruction
    pub at : IsAt f instruction
    pub may : MayWait instruction (length f.temporaries)
    pub landed : f.landed ≡ None

  -- ---- handlers and targets, among what waits

  -- what a region asks or does at once, and where its block begins
  abbrev pub Handles : RegionKind → Option ℕ → ℕ → Type 0
  Handles (kinds.Finally k) filter target = ⊥
  Handles (kinds.Filter k label) filter target = (filter ≡ Some k) × (target ≡ label)
  Handles (kinds.Always label) filter target = (filter ≡ None) × (target ≡ label)

  -- a handler of a region of this body, with so many items below it
  pub record IsHandlerOf (f : Frame) (items : ℕ) (h : Handler) : Type 0 where
    pub depth : h.depth ≡ items
    pub activation : h.activation ≡ f.activation
    pub region : Region
    pub is_there : IsRegionOf program f.body region
    pub handles : Handles region.kind h.filter h.target

  abbrev pub IsHandler : Handler → List Item → Type 0
  IsHandler h [] = ⊥
  IsHandler h (Waits f ∷ below) = IsHandlerOf f (length below) h ⊎ IsHandler h below
  IsHandler h (Searches exception resumption asked ∷ below) = IsHandler h below
  IsHandler h (Unwinds rest target ∷ below) = IsHandler h below

  -- an exception lands at an `__except` block; a local unwind ends at the label that the body asked
  -- for
  abbrev pub LandsAt : Frame → Option ℕ → ℕ → Type 0
  LandsAt f None label = IsAt f (instructions.LocalUnwind label)
  LandsAt f (Some code) label = IsLanding program f.body label

  pub record IsTargetOf (f : Frame) (items : ℕ) (t : Target) : Type 0 where
    pub depth : t.depth ≡ items
    pub lands : LandsAt f t.code t.label

  abbrev pub IsTarget : Target → List Item → Type 0
  IsTarget t [] = ⊥
  IsTarget t (Waits f ∷ below) = IsTargetOf f (length below) t ⊎ IsTarget t below
  IsTarget t (Searches exception resumption asked ∷ below) = IsTarget t below
  IsTarget t (Unwinds rest older ∷ below) = IsTarget t below

  -- ---- what a body is above, by its exception and its activation

  -- a filter runs for a handler that is asked
  pub record IsAsked (k : ℕ) (own : Exception) (works_on : ℕ) (searched : Exception)
      (asked : Handler) : Type 0 where
    pub filter : asked.filter ≡ Some k
    pub exception : own ≡ searched
    pub activation : works_on ≡ asked.activation

  -- a `__finally` block runs for a body that has its region
  pub record IsBlockOf (k works_on : ℕ) (w : Frame) : Type 0 where
    pub funclet : IsFuncletOf program w.body IsFinallyKind k
    pub activation : works_on ≡ w.activation

  -- a vectored handler takes a code and flags
  abbrev pub IsCalledBy : ℕ → List Item → Type 0
  IsCalledBy k [] = k ≡ program.main
  IsCalledBy k (Waits w ∷ below) =
      (first : ℕ) × (count : ℕ) × IsAt w (instructions.Call k first count)
  IsCalledBy k (Searches exception resumption (VectoredAt place) ∷ below) = IsCallee program k 2
  IsCalledBy k items = ⊥

  abbrev pub IsRunFor : ℕ → Exception → ℕ → List Item → Type 0
  IsRunFor k own activation (Searches exception resumption (FilterOf h rest) ∷ below) =
      IsAsked k own activation exception h
  IsRunFor k own activation (Unwinds rest target ∷ Waits w ∷ below) = IsBlockOf k activation w
  IsRunFor k own activation (Waits w ∷ below) =
      IsBlockOf k activation w × IsAt w (instructions.CallFinally k)
  IsRunFor k own activation items = ⊥

  -- a function was called, is `main`, or is asked as a vectored handler
  abbrev pub IsAbove : Exception → ℕ → BodyName → List Item → Type 0
  IsAbove own activation (FunctionBody k) below = IsCalledBy k below
  IsAbove own activation (FuncletBody k) below = IsRunFor k own activation below

  -- ---- suspended searches and unwindings

  -- a body is at an operation
  pub record IsAtOperation (w : Frame) : Type 0 where
    pub to : Slot
    pub operation : Operation
    pub first : Slot
    pub second : Slot
    pub at : IsAt w (instructions.Compute to operation first second)

  -- the body that raised is at a call of RaiseException, or at an operation that faulted
  abbrev pub IsRaisedIn : Resumption → List Item → Type 0
  IsRaisedIn AfterCall (Waits w ∷ below) =
      (first : ℕ) × IsAt w (instructions.CallBuiltIn RaiseException first)
  IsRaisedIn SameOperation (Waits w ∷ below) = IsAtOperation w
  IsRaisedIn resumption items = ⊥

  -- the regions that are left are those of the body below
  abbrev pub AreLeft : List Region → List Item → Type 0
  AreLeft rest (Waits w ∷ below) = AllByRecursion (IsRegionOf program w.body) rest
  AreLeft rest items = ⊥

  abbrev pub AreHandlers : List Handler → List Item → Type 0
  AreHandlers hs items = AllByRecursion (λ h. IsHandler h items) hs

  -- the handlers of a search are those of what waits
  abbrev pub AsksWell : Asked → List Item → Type 0
  AsksWell (FilterOf h rest) items = AreHandlers (h ∷ rest) items
  AsksWell (VectoredAt place) items = Unit {0}

  abbrev pub AreWaiting : List Item → Type 0
  AreWaiting [] = Unit {0}
  AreWaiting (Waits f ∷ below) =
      IsWaiting f × IsAbove f.exception f.activation f.body below × AreWaiting below
  AreWaiting (Searches exception resumption asked ∷ below) =
      AsksWell asked below × IsRaisedIn resumption below × AreWaiting below
  AreWaiting (Unwinds rest target ∷ below) =
      AreLeft rest below × IsTarget target below × AreWaiting below

  -- where an exception's code is kept, an `__except` block begins
  abbrev pub LandsWell : BodyName → ℕ → Option ℕ → Type 0
  LandsWell name label None = Unit {0}
  LandsWell name label (Some code) = IsLanding program name label

  -- a function that may be asked as a vectored handler can be one, and a body puts it among them
  abbrev pub IsAskable : ℕ → Type 0
  IsAskable f = IsVectoredCallee program f × CallsBuiltIn program (AddVectored f)

  abbrev pub CanBeAsked : List ℕ → Type 0
  CanBeAsked fs = AllByRecursion IsAskable fs

  -- each body that waits is at a call, a fault or a local unwind. Below a function is what called
  -- it, or the search that asks it as a vectored handler, and below a filter the search that asks
  -- it. Below a `__finally` block is the unwinding that runs it or the body that called it.
  -- Handlers and targets are of regions of bodies that wait. Each vectored handler is a function
  -- that takes a code and flags, and that a body puts among them (`CanBeAsked`). It begins with one
  -- separator more than it counts in the depth (`IsVectoredCallee`).
  pub record IsStacked (c : Configuration) : Type 0 where
    pub above : IsAbove c.frame.exception c.frame.activation c.frame.body c.below
    pub below : AreWaiting c.below
    pub landed : LandsWell c.frame.body c.frame.next c.frame.landed
    pub handlers : CanBeAsked c.store.vectored
