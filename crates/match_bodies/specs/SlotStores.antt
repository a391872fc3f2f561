-- What a change of a body's slots leaves of the list that waits below it.
use Rattle.std.specs.Prelude.{◌≡◌, ◌⊎◌, ℕ, ◌+◌, ◌*◌, ◌<◌, ◌≤◌, ◌==◌, Bool, false, true, List, [], ◌∷◌, length, slice_get, Option, Some, None, Ok}
use Rattle.host_layout.specs.declared.range.TheConstants.{STACK_START, STACK_END}
use Rattle.flat_memory.specs.Memory.{Memory}
use Rattle.x64_machine.specs.declared.context.Context.{Context}
use Rattle.virtual_unwind.specs.Contexts.{rsp}
use Rattle.virtual_unwind.specs.CallerOf.{Functions}
use Rattle.virtual_unwind.specs.Undone.{word}
use Rattle.host_model.specs.declared.funclet.Funclet.{Funclet}
use Rattle.linear_code.specs.Program.{LinearProgram}
use Rattle.linear_machine.specs.Frames.{Item, Waits, Searches, Unwinds}
use Rattle.match_stack.specs.Stack.{StackItem}
use Rattle.match_stack.specs.ImagePlan.{ImagePlan}
use Rattle.match_stack.specs.ItemMatches.{Activation, locals_of, activations_below, IsActivation}
use Rattle.match_stack.specs.ListLaws.{IsLinkedStack}

abbrev pub with_values_if : Bool → Activation → List Activation → List ℕ → List Activation
    → List Activation
with_values_if true a outer values others = record a { values = values } ∷ outer
with_values_if false a outer values others = a ∷ others

-- activation number k with other numbers in its locals
abbrev pub with_values : List Activation → ℕ → List ℕ → List Activation
with_values [] k values = []
with_values (a ∷ outer) k values =
    with_values_if (k == length outer) a outer values (with_values outer k values)

-- the numbers of the locals that have words of the frame
abbrev pub IsInFrame : Memory → (at v : ℕ) → Option ℕ → Type 0
IsInFrame m at v None = word m at ≡ Ok v
IsInFrame m at v (Some r) = Unit {0}

abbrev pub FrameWords : Memory → (ℕ → Option ℕ) → (i at end : ℕ) → List ℕ → Type 0
FrameWords m register i at end [] = at ≤ end
FrameWords m register i at end (v ∷ vs) =
    IsInFrame m at v (register i) × FrameWords m register (i + 1) (at + 8) end vs

-- as many numbers, and those of the locals in registers the same
abbrev pub IsLeft : (v w : ℕ) → Option ℕ → Type 0
IsLeft v w None = Unit {0}
IsLeft v w (Some r) = v ≡ w

abbrev pub LeavesRegisters : (ℕ → Option ℕ) → ℕ → List ℕ → List ℕ → Type 0
LeavesRegisters register i [] [] = Unit {0}
LeavesRegisters register i (v ∷ vs) (w ∷ ws) =
    IsLeft v w (register i) × LeavesRegisters register (i + 1) vs ws
LeavesRegisters register i [] (w ∷ ws) = ⊥
LeavesRegisters register i (v ∷ vs) [] = ⊥

-- another memory, which has the stack's bytes from an address up as they were, but for a range;
-- protections of the stack, and all code
pub record KeepsStackBut (m m' : Memory) (low from to : ℕ) : Type 0 where
  pub bytes : (x : ℕ) → low ≤ x → x < STACK_END → (x < from) ⊎ (to ≤ x) → m'.byte x ≡ m.byte x
  pub protection : (x : ℕ) → STACK_START ≤ x → x < STACK_END → m'.protection x ≡ m.protection x
  pub code : (x : ℕ) → (m.protection x).execute ≡ true
      → (m'.byte x ≡ m.byte x) × (m'.protection x ≡ m.protection x)
  pub no_more_code : (x : ℕ) → (m.protection x).execute ≡ false → (m'.protection x).execute ≡ false

module _ (t : Functions) (fs : List Funclet) (program : LinearProgram) (p : ImagePlan) where
  -- where the locals of an activation are: above the stack pointer, and below the stack's end
  pub record ActivationIsAt (m : Memory) (low k base distance : ℕ) (register : ℕ → Option ℕ)
      (acts : List Activation) : Type 0 where
    pub values : List ℕ
    pub number : slice_get (locals_of acts) k ≡ Some values
    pub low_end : low ≤ base
    pub high_end : base + distance + 8 * length values ≤ STACK_END
    pub holds : FrameWords m register 0 (base + distance) (base + distance + 8 * length values)
        values

  abbrev pub ActivationsAreAt : Type 0
  ActivationsAreAt =
      (m : Memory) (c : Context) (is : List StackItem) (items : List Item) (acts : List Activation)
      (k base distance : ℕ) (register : ℕ → Option ℕ)
      → IsLinkedStack t fs program p m c is items acts → IsActivation acts k base distance register
      → ActivationIsAt m (rsp c) k base distance register acts

  -- the function whose activation has this number has a frame, wherever it waits
  abbrev pub OwnerHasFrame : ℕ → List Item → List Activation → Type 0
  OwnerHasFrame k [] acts = Unit {0}
  OwnerHasFrame k (Waits b ∷ below) acts =
      (k ≡ length (activations_below b.body acts) → p.leaf b.body ≡ false)
      × OwnerHasFrame k below (activations_below b.body acts)
  OwnerHasFrame k (Searches exception resumption asked ∷ below) acts =
      OwnerHasFrame k below acts
  OwnerHasFrame k (Unwinds rest target ∷ below) acts = OwnerHasFrame k below acts

  -- other numbers in the locals of one activation leave the list as it is, with these numbers
  abbrev pub ActivationsAreStored : Type 0
  ActivationsAreStored =
      (m m' : Memory) (c : Context) (is : List StackItem) (items : List Item)
      (acts : List Activation) (k base distance : ℕ) (register : ℕ → Option ℕ)
      (old values : List ℕ)
      → IsLinkedStack t fs program p m c is items acts → STACK_START ≤ rsp c
      → IsActivation acts k base distance register → 32 ≤ distance → OwnerHasFrame k items acts
      → slice_get (locals_of acts) k ≡ Some old → LeavesRegisters register 0 old values
      → KeepsStackBut m m' (rsp c) (base + distance) (base + distance + 8 * length values)
      → FrameWords m' register 0 (base + distance) (base + distance + 8 * length values) values
      → IsLinkedStack t fs program p m' c is items (with_values acts k values)
