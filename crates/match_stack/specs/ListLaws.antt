-- What holds in a single frame, and of the whole list.
use Rattle.std.specs.Prelude.{◌≡◌, ◌≢◌, ◌⊎◌, ℕ, ◌<◌, ◌≤◌, true, false, List, length, drop, filter}
use Rattle.std.specs.List.{AllByRecursion}
use Rattle.host_layout.specs.declared.range.TheConstants.{STACK_START, STACK_END}
use Rattle.flat_memory.specs.Memory.{Memory, with_bytes}
use Rattle.x64_machine.specs.declared.context.Context.{Context}
use Rattle.eh_tables.specs.declared.scope.ScopeRecord.{ScopeRecord}
use Rattle.virtual_unwind.specs.Contexts.{rsp}
use Rattle.virtual_unwind.specs.CallerOf.{Functions, distance}
use Rattle.seh_walk.specs.Asked.{rows_from, until}
use Rattle.host_model.specs.declared.funclet.Funclet.{Funclet}
use Rattle.linear_code.specs.declared.program.Region.{Region}
use Rattle.linear_code.specs.Program.{LinearProgram}
use Rattle.linear_machine.specs.Frames.{BodyName, Target, Item, Configuration}
use Rattle.linear_machine.specs.Regions.{holds}
use Rattle.match_stack.specs.Stack.{StackItem, IsStack}
use Rattle.match_stack.specs.ImagePlan.{ImagePlan, InCode, HasRows, target_rva}
use Rattle.match_stack.specs.ItemMatches.{Activation, Linked}
use Rattle.match_stack.specs.FrameHandlers.{NoHandler, FirstHandler, NoBlock, Arrives, FirstBlock}

-- ---- a single frame

-- the regions that hold an instruction, of those from a row on
abbrev pub left_from : ℕ → List Region → ℕ → List Region
left_from label regions row = filter (holds label) (drop row regions)

-- an instruction of a body, an address in the code of one that the same regions hold, and the
-- records of its entry, which are the body's regions, or none where no region holds it
pub record IsInstruction (t : Functions) (fs : List Funclet) (program : LinearProgram)
    (p : ImagePlan)
    (name : BodyName) (next rip : ℕ) (scopes : List ScopeRecord)
    (regions : List Region) : Type 0 where
  pub label : ℕ
  pub inside : InCode p name label rip
  pub same : AllByRecursion (λ (r : Region). holds label r ≡ holds next r) regions
  pub rows : HasRows t fs program p name label scopes regions

-- from any row on
abbrev pub SearchFindsTheHandlers : Type 0
SearchFindsTheHandlers =
    (t : Functions) (fs : List Funclet) (program : LinearProgram) (p : ImagePlan) (name : BodyName)
    (label rip row : ℕ) (scopes : List ScopeRecord) (regions : List Region)
    → IsInstruction t fs program p name label rip scopes regions
    → NoHandler t fs program p (rows_from (distance t.base rip) row scopes)
    (left_from label regions row)
    ⊎ FirstHandler t fs program p name scopes (rows_from (distance t.base rip) row scopes)
    (left_from label regions row) (left_from label regions)

-- in a frame that isn't the target's
abbrev pub UnwindingRunsTheBlocks : Type 0
UnwindingRunsTheBlocks =
    (t : Functions) (fs : List Funclet) (program : LinearProgram) (p : ImagePlan) (rip row : ℕ)
    (scopes : List ScopeRecord) (regions : List Region) (target : Target) (c : Configuration)
    → IsInstruction t fs program p c.frame.body c.frame.next rip scopes regions
    → target.depth ≢ length c.below
    → NoBlock t fs program p target c (rows_from (distance t.base rip) row scopes)
    (left_from c.frame.next regions row)
    ⊎ FirstBlock t fs program p target c scopes (rows_from (distance t.base rip) row scopes)
    (left_from c.frame.next regions row) (left_from c.frame.next regions)

-- in the target's frame, up to the first record that ends it
abbrev pub UnwindingStopsAtTheTarget : Type 0
UnwindingStopsAtTheTarget =
    (t : Functions) (fs : List Funclet) (program : LinearProgram) (p : ImagePlan) (rip row : ℕ)
    (scopes : List ScopeRecord) (regions : List Region) (target : Target) (c : Configuration)
    → IsInstruction t fs program p c.frame.body c.frame.next rip scopes regions
    → target.depth ≡ length c.below → p.lands c.frame.body target.label ≡ true
    → Arrives t fs program p target c
    (until (target_rva t fs program p c.frame.body target.label)
    (rows_from (distance t.base rip) row scopes)) (left_from c.frame.next regions row)
    ⊎ FirstBlock t fs program p target c scopes
    (until (target_rva t fs program p c.frame.body target.label)
    (rows_from (distance t.base rip) row scopes)) (left_from c.frame.next regions row)
    (left_from c.frame.next regions)

-- ---- what keeps the list

-- bytes that are a memory's from an address up, and in the code
pub record KeepsAbove (m : Memory) (byte : ℕ → ℕ) (low : ℕ) : Type 0 where
  pub above : (x : ℕ) → low ≤ x → byte x ≡ m.byte x
  pub code : (x : ℕ) → (m.protection x).execute ≡ true → byte x ≡ m.byte x

pub record IsLinkedStack (t : Functions) (fs : List Funclet) (program : LinearProgram)
    (p : ImagePlan)
    (m : Memory) (c : Context) (is : List StackItem) (items : List Item)
    (acts : List Activation) : Type 0 where
  pub stack : IsStack t m c is
  pub linked : Linked t fs program p m c is items acts

-- stores below the stack pointer leave it as it is
abbrev pub KeptByStoresBelow : Type 0
KeptByStoresBelow =
    (t : Functions) (fs : List Funclet) (program : LinearProgram) (p : ImagePlan) (m : Memory)
    (byte : ℕ → ℕ) (c : Context) (is : List StackItem) (items : List Item) (acts : List Activation)
    → KeepsAbove m byte (rsp c) → IsLinkedStack t fs program p m c is items acts
    → IsLinkedStack t fs program p (with_bytes m byte) c is items acts

-- what another memory has as it was: the stack's protections, its bytes from an address up, and
-- code
pub record KeepsStack (m m' : Memory) (low : ℕ) : Type 0 where
  pub bytes : (x : ℕ) → low ≤ x → x < STACK_END → m'.byte x ≡ m.byte x
  pub protection : (x : ℕ) → STACK_START ≤ x → x < STACK_END → m'.protection x ≡ m.protection x
  pub code : (x : ℕ) → (m.protection x).execute ≡ true
      → (m'.byte x ≡ m.byte x) × (m'.protection x ≡ m.protection x)
  pub no_more_code : (x : ℕ) → (m.protection x).execute ≡ false → (m'.protection x).execute ≡ false

-- a list from an address of the stack up is there too
abbrev pub KeptByOtherMemories : Type 0
KeptByOtherMemories =
    (t : Functions) (fs : List Funclet) (program : LinearProgram) (p : ImagePlan) (m m' : Memory)
    (c : Context) (is : List StackItem) (items : List Item) (acts : List Activation)
    → KeepsStack m m' (rsp c) → STACK_START ≤ rsp c → IsLinkedStack t fs program p m c is items acts
    → IsLinkedStack t fs program p m' c is items acts
