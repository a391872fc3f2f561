-- What is known of a run with its marks: of each body that runs or waits, what is known at its
-- place has been set.
use Rattle.std.specs.Prelude.{◌≡◌, ◌⊎◌, ℕ, ◌<◌, true, drop, length, List, [], ◌∷◌, slice_get, Some}
use Rattle.std.specs.List.{AllByRecursion}
use Rattle.linear_code.specs.declared.instruction.Instruction.{Instruction}
use Rattle.linear_code.specs.declared.program.Region.{Region}
use Rattle.linear_code.specs.Program.{LinearProgram, LinearFunction}
use Rattle.linear_machine.specs.Frames.{BodyName, FunctionBody, FuncletBody, Frame, Handler, Target, Asked, FilterOf, VectoredAt, Item, Waits, Searches, Unwinds, Configuration}
use Rattle.lowering_locals.specs.Marks.{Marks, marks_of, local_written, activations_left, arguments_passed, begins_block, flag_set}
use Rattle.lowering_locals.specs.Alike.{AreActivationsAlike}
use Rattle.c_checked.specs.LocalScopes.{SeenNames, IsPart}
use Rattle.lowering_locals.specs.Sets.{locals_at, Guards}

-- a local of an activation has been set
abbrev pub Marked : Marks → ℕ → ℕ → Type 0
Marked marks k x = slice_get (marks_of marks k) x ≡ Some true

module _ (program : LinearProgram) (sets : BodyName → ℕ → SeenNames) where
  -- ---- where what waits may lead

  -- what is known at a frame's place
  abbrev pub here : Frame → SeenNames
  here f = sets f.body f.next

  -- a handler of a frame with so many items below it
  pub record IsHandlerOf (f : Frame) (items : ℕ) (h : Handler) : Type 0 where
    pub depth : h.depth ≡ items
    pub activation : h.activation ≡ f.activation
    pub target : IsPart (sets f.body h.target) (here f)
    pub filter : (k : ℕ) → h.filter ≡ Some k → IsPart (sets (FuncletBody k) 0) (here f)

  abbrev pub IsHandler : Handler → List Item → Type 0
  IsHandler h [] = ⊥
  IsHandler h (Waits f ∷ below) = IsHandlerOf f (length below) h ⊎ IsHandler h below
  IsHandler h (Searches exception resumption asked ∷ below) = IsHandler h below
  IsHandler h (Unwinds rest target ∷ below) = IsHandler h below

  pub record IsTargetOf (f : Frame) (items : ℕ) (t : Target) : Type 0 where
    pub depth : t.depth ≡ items
    pub label : IsPart (sets f.body t.label) (here f)

  abbrev pub IsTarget : Target → List Item → Type 0
  IsTarget t [] = ⊥
  IsTarget t (Waits f ∷ below) = IsTargetOf f (length below) t ⊎ IsTarget t below
  IsTarget t (Searches exception resumption asked ∷ below) = IsTarget t below
  IsTarget t (Unwinds rest older ∷ below) = IsTarget t below

  -- regions of the body that waits first
  abbrev pub AreRegions : Frame → List Region → Type 0
  AreRegions f rs = AllByRecursion (λ (r : Region). Guards program sets f.body f.next r.kind) rs

  abbrev pub AreLeft : List Region → List Item → Type 0
  AreLeft rest (Waits f ∷ below) = AreRegions f rest
  AreLeft rest items = Unit {0}

  abbrev pub AreHandlers : List Handler → List Item → Type 0
  AreHandlers hs items = AllByRecursion (λ (h : Handler). IsHandler h items) hs

  -- the handlers of a search
  abbrev pub AsksKept : Asked → List Item → Type 0
  AsksKept (FilterOf h rest) items = AreHandlers (h ∷ rest) items
  AsksKept (VectoredAt place) items = Unit {0}

  abbrev pub AreKept : List Item → Type 0
  AreKept [] = Unit {0}
  AreKept (Waits f ∷ below) = AreKept below
  AreKept (Searches exception resumption asked ∷ below) =
      AsksKept asked below × AreKept below
  AreKept (Unwinds rest target ∷ below) = AreLeft rest below × IsTarget target below × AreKept below

  -- ---- what has been set

  module _ (marks : Marks) where
    abbrev pub IsCovered : Frame → Type 0
    IsCovered f = (x : ℕ) → here f x ≡ true → Marked marks f.activation x

    abbrev pub AreCovered : List Item → Type 0
    AreCovered [] = Unit {0}
    AreCovered (Waits f ∷ below) = IsCovered f × AreCovered below
    AreCovered (Searches exception resumption asked ∷ below) = AreCovered below
    AreCovered (Unwinds rest target ∷ below) = AreCovered below

    -- marks are as many as locals; each body that runs or waits, and what waits for it
    pub record IsRecorded (c : Configuration) : Type 0 where
      pub marked : AreActivationsAlike marks c.store.activations c.store.activations
      pub running : IsCovered c.frame
      pub waiting : AreCovered c.below
      pub kept : AreKept c.below

    -- ---- a step

    module _ (i : Instruction) (c d : Configuration) where
      -- why a local of the body that runs then has been set: it was before, the instruction writes
      -- it, it is the flag of a block that begins, or an argument of a function that begins
      pub data IsGiven (x : ℕ) : Type 0 where
        Before : Marked marks d.frame.activation x → IsGiven x
        Written : d.frame.activation ≡ c.frame.activation → local_written program i c ≡ Some x
            → x < locals_at program d.frame.body → IsGiven x
        Flag : flag_set program (begins_block (drop (length c.events) d.events)) d.frame.body
            ≡ Some x → x < locals_at program d.frame.body → IsGiven x
        Passed : (f : ℕ) (function : LinearFunction) → d.frame.body ≡ FunctionBody f
            → slice_get program.functions f ≡ Some function
            → d.frame.activation ≡ activations_left i c → x < arguments_passed i → IsGiven x

      pub record IsStep : Type 0 where
        pub running : (x : ℕ) → here d.frame x ≡ true → IsGiven x
        pub waiting : AreCovered d.below
        pub kept : AreKept d.below
