-- Where the slots of each body are (Microsoft x64 ABI, "Stack allocation").
use Rattle.std.specs.Prelude.{◌≡◌, ℕ, ◌+◌, ◌*◌, ◌≤◌, true, false, Bool, List, [], ◌∷◌, length, slice_get, Some, None}
use Rattle.std.specs.List.{AllByRecursion}
use Rattle.host_layout.specs.declared.range.TheConstants.{PAGE}
use Rattle.linear_code.specs.Program.{LinearProgram, LinearBody, LinearFunclet}
use Rattle.linear_machine.specs.Frames.{BodyName, FunctionBody, FuncletBody, body_of, weight_of}
use Rattle.template_code.specs.declared.layout.Layout.{Layout}
use Rattle.x64_instr.specs.declared.register.Reg.{Reg}
use Rattle.x64_instr.specs.Registers.{number}
use Rattle.template_code.specs.declared.layout.Place.TheVariants.{InRegister, InFrame}
use Rattle.template_code.specs.Places.{place_of}
use Rattle.template_code.specs.Frames.{frame_plan, plan_of_layout}
use Rattle.x64_templates.specs.InstructionRuns.{KeepsArrivals, IsSpare}
use Rattle.frame_rules.specs.Codes.{is_saved}
use Rattle.frame_rules.specs.Plan.{FramePlan, IsPlan, Saved, operations_of, frame_size}
use Rattle.match_stack.specs.ImagePlan.{ImagePlan}
use Rattle.template_code.specs.declared.layout.TheConstants.{FRAME_BY_WEIGHT, MOST_WEIGHT}

-- the saves by mov are so far above RSP at least
abbrev pub AreSavedAbove : ℕ → List Saved → Type 0
AreSavedAbove low [] = Unit {0}
AreSavedAbove low (s ∷ ss) = (low ≤ s.offset) × AreSavedAbove low ss

-- how many registers it pushes and saves
abbrev pub saved_count : FramePlan → ℕ
saved_count f = length f.pushes + length f.saves

-- the plan of a layout's frame keeps the rules: its allocation holds the slots, what it saves is
-- above them, and above it all is the return address
pub record IsFramePlan (y : Layout) (f : FramePlan) : Type 0 where
  pub is_plan : IsPlan f
  pub slots : y.slots ≤ f.size
  pub saved : AreSavedAbove y.slots f.saves
  pub whole : frame_size f ≡ y.frame + 8

-- the frame of a function of this weight, from RSP up: home space and further arguments of its
-- calls, temporaries, locals, and what it saves
pub record IsFunctionLayout (weight : ℕ) (y : Layout) (b : LinearBody) : Type 0 where
  pub none : y.base ≡ None
  pub passed : 32 + 8 * b.passed ≤ y.temporaries
  pub temporaries : y.temporaries + 8 * b.temporaries ≤ y.locals
  pub locals : y.locals + 8 * b.locals ≤ y.slots
  pub within : y.slots ≤ y.frame
  pub light : weight ≤ MOST_WEIGHT
  pub small : y.frame + 8 ≤ FRAME_BY_WEIGHT * weight
  pub plan : IsFramePlan y (plan_of_layout y 0)
  -- RBX, RSI, RDI, R12 to R15 and the frame register
  pub few : saved_count (plan_of_layout y 0) ≤ 8
  -- its prologue saves the registers of its locals
  pub saves : (x : ℕ) (r : Reg) → place_of y x ≡ InRegister r
      → is_saved (number r) (operations_of (plan_of_layout y 0)) ≡ true
  -- no parameter stays in the volatile register in which it arrives
  pub none_arrive : y.arrivals ≡ 0

-- a leaf function has no frame: its parameters stay in the registers in which they arrive, which
-- its code leaves alone, and its other slots are in the home space above its return address
pub record IsLeafLayout (y : Layout) (b : LinearBody) : Type 0 where
  pub none : y.base ≡ None
  pub slots : y.slots ≡ 0
  pub frame : y.frame ≡ 0
  pub locals : y.locals ≡ 8
  pub temporaries : y.temporaries ≡ 8 + 8 * b.locals
  pub few : b.locals + b.temporaries ≤ 4
  pub plan : plan_of_layout y 0 ≡ frame_plan 0 0
  pub arrive : y.arrivals ≤ b.locals
  pub in_frame : (x : ℕ) → y.arrivals ≤ x → place_of y x ≡ InFrame
  pub spares : AllByRecursion IsSpare b.code
  pub keeps : AllByRecursion (KeepsArrivals y) b.code

-- a funclet's frame: home space and further arguments, the base, the address of EXCEPTION_POINTERS,
-- temporaries, and what it saves; its locals are those of its function, above the base
pub record IsFuncletLayout (y function : Layout) (b : LinearBody) : Type 0 where
  pub slot : ℕ
  pub base : y.base ≡ Some slot
  pub passed : 32 + 8 * b.passed ≤ slot
  pub pointers : y.pointers ≡ slot + 8
  pub kept : slot + 16 ≤ y.temporaries
  pub temporaries : y.temporaries + 8 * b.temporaries ≤ y.slots
  pub within : y.slots ≤ y.frame
  pub locals : y.locals ≡ function.locals
  pub small : y.frame ≤ PAGE
  pub plan : IsFramePlan y (plan_of_layout y 0)
  -- it saves none, and reaches those of its function's locals that stand in the frame
  pub bare : saved_count (plan_of_layout y 0) ≡ 0
  pub in_frame : (x : ℕ) → place_of y x ≡ InFrame
  pub none_arrive : y.arrivals ≡ 0

module _ (program : LinearProgram) (p : ImagePlan) where
  -- the layout of a leaf function, or of one with a frame
  abbrev pub IsLayoutIf : (weight : ℕ) → Layout → LinearBody → Bool → Type 0
  IsLayoutIf weight y b true = IsLeafLayout y b
  IsLayoutIf weight y b false = IsFunctionLayout weight y b

  -- the function of a funclet is no leaf, and has as many locals
  pub record IsFuncletPlan (k : ℕ) (b : LinearBody) : Type 0 where
    pub funclet : LinearFunclet
    pub there : slice_get program.funclets k ≡ Some funclet
    pub framed : p.leaf (FuncletBody k) ≡ false
    pub function_framed : p.leaf (FunctionBody funclet.function) ≡ false
    pub function : LinearBody
    pub function_there : body_of program (FunctionBody funclet.function) ≡ Some function
    pub same_locals : b.locals ≡ function.locals
    pub same_registers : (x : ℕ) → p.register (FuncletBody k) x
        ≡ p.register (FunctionBody funclet.function) x
    pub layout : IsFuncletLayout (p.layout (FuncletBody k))
        (p.layout (FunctionBody funclet.function)) b

  -- the layout of a body
  abbrev pub IsLaidOut : BodyName → LinearBody → Type 0
  IsLaidOut (FunctionBody f) b =
      IsLayoutIf (weight_of (slice_get program.functions f)) (p.layout (FunctionBody f)) b
      (p.leaf (FunctionBody f))
  IsLaidOut (FuncletBody k) b = IsFuncletPlan k b

  -- the layouts of all bodies
  abbrev pub AreLaidOut : Type 0
  AreLaidOut = (name : BodyName) (b : LinearBody) → body_of program name ≡ Some b → IsLaidOut name b
