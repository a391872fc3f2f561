-- The control addresses of a stack's frames, by which the functions that wait are known.
use Rattle.std.specs.Prelude.{◌≡◌, ℕ, ◌+◌, ◌<◌, List, [], ◌∷◌, map, length, Option, Some, None}
use Rattle.std.specs.List.{filter_map}
use Rattle.flat_memory.specs.Memory.{Memory}
use Rattle.x64_machine.specs.declared.context.Context.{Context}
use Rattle.x64_machine.specs.Contexts.{context_of}
use Rattle.virtual_unwind.specs.CallerOf.{Functions}
use Rattle.seh_walk.specs.Controls.{controls}
use Rattle.host_model.specs.declared.funclet.Funclet.{Funclet}
use Rattle.linear_code.specs.Program.{LinearProgram, LinearBody}
use Rattle.linear_machine.specs.Frames.{BodyName, FunctionBody, FuncletBody, body_of, Item, functions_in}
use Rattle.match_stack.specs.Stack.{StackItem, Framed, Leaf, Searching, Unwinding, IsStack, after_frame, after_leaf}
use Rattle.match_stack.specs.PlainWalks.{state}
use Rattle.match_stack.specs.ImagePlan.{ImagePlan, InCode}
use Rattle.match_stack.specs.ItemMatches.{Activation, Linked}

-- the control address of each frame, innermost first: RIP of its context
abbrev pub control_addresses : Context → List StackItem → List ℕ
control_addresses c [] = []
control_addresses c (Framed f ∷ is) = c.rip ∷ control_addresses (after_frame c f) is
control_addresses c (Leaf back ∷ is) = c.rip ∷ control_addresses (after_leaf c back) is
control_addresses c (Searching r ∷ is) = control_addresses (context_of r.saved) is
control_addresses c (Unwinding r ∷ is) = control_addresses r.walk is

-- a walk over a stack comes to these, and nothing stops it
abbrev pub ControlsAreOfTheList : Type 0
ControlsAreOfTheList =
    (t : Functions) (m : Memory) (c : Context) (row : ℕ) (is : List StackItem) (n : ℕ)
    → IsStack t m c is → length is < n
    → controls n t m (state c row)
    ≡ record { addresses = control_addresses c is; stop = None }

-- the number that an address in the code of a body has: a function's, from 1; in a funclet none
abbrev pub number_of : BodyName → Option ℕ
number_of (FunctionBody f) = Some (f + 1)
number_of (FuncletBody k) = None

-- what numbers addresses tells the functions of a program: each address of a body's code has the
-- number of the body
abbrev pub NumbersFunctions : LinearProgram → ImagePlan → (ℕ → Option ℕ) → Type 0
NumbersFunctions program p number =
    (name : BodyName) (b : LinearBody) (label rip : ℕ) → body_of program name ≡ Some b
    → InCode p name label rip → number rip ≡ number_of name

-- so the control addresses of a stack have the numbers of the functions that wait, innermost first
abbrev pub ControlAddressesAreOfFunctions : Type 0
ControlAddressesAreOfFunctions =
    (t : Functions) (fs : List Funclet) (program : LinearProgram) (p : ImagePlan)
    (number : ℕ → Option ℕ) (m : Memory) (c : Context) (is : List StackItem) (items : List Item)
    (acts : List Activation)
    → NumbersFunctions program p number → Linked t fs program p m c is items acts
    → filter_map number (control_addresses c is) ≡ map (λ f. f + 1) (functions_in items)
