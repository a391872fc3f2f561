-- The list in a memory of data, and a record that is pushed below it.
--
-- The main definition: `pushed`.
use Rattle.std.specs.Prelude.{◌≡◌, ◌⊎◌, ℕ, ◌+◌, ◌^◌, ◌<◌, ◌≤◌, true, false, List, None}
use Rattle.seh_num.specs.declared.width.Width.TheVariants.{W64}
use Rattle.host_layout.specs.declared.range.TheConstants.{STACK_START, STACK_END}
use Rattle.flat_memory.specs.Memory.{Memory, may_write, after_store}
use Rattle.x64_machine.specs.declared.context.Context.{Context}
use Rattle.virtual_unwind.specs.CallerOf.{Functions}
use Rattle.seh_records.specs.declared.dispatch.DispatchRecord.{DispatchRecord}
use Rattle.seh_records.specs.Record.{misplaced, placed, return_address_at}
use Rattle.seh_records.specs.Laws.{AreBytes, RecordFits}
use Rattle.seh_records.specs.declared.layout.TheConstants.{RECORD_SIZE}
use Rattle.host_model.specs.declared.funclet.Funclet.{Funclet}
use Rattle.linear_code.specs.Program.{LinearProgram}
use Rattle.linear_machine.specs.Frames.{Item}
use Rattle.match_stack.specs.Stack.{StackItem}
use Rattle.match_stack.specs.ImagePlan.{ImagePlan}
use Rattle.match_stack.specs.ItemMatches.{Activation}
use Rattle.match_stack.specs.ListLaws.{IsLinkedStack}

-- bytes are numbers of 8 bits, and what may be written isn't code
pub record IsData (m : Memory) : Type 0 where
  pub bytes : AreBytes m.byte
  pub no_code : (x : ℕ) → may_write m x ≡ true → (m.protection x).execute ≡ false

pub record On (t : Functions) (fs : List Funclet) (program : LinearProgram) (p : ImagePlan)
    (m : Memory)
    (c : Context) (is : List StackItem) (items : List Item) (acts : List Activation) : Type 0 where
  pub is_there : IsLinkedStack t fs program p m c is items acts
  pub data_alone : IsData m

-- a record is placed, and the return address of a funclet below it
abbrev pub pushed : Memory → ℕ → DispatchRecord → ℕ → Memory
pushed m at r back = after_store (placed m at r) (return_address_at at) W64 back

-- there is room for both, below a stack pointer
pub record RecordHasRoom (m : Memory) (at : ℕ) (r : DispatchRecord) (above : ℕ) : Type 0 where
  pub fits : RecordFits r
  pub below : at + RECORD_SIZE ≤ above
  pub small : above < 2 ^ 64
  pub room : misplaced m at ≡ None

-- protections, code, and every byte outside the stack are as before
pub record IsUntouched (old new : Memory) : Type 0 where
  pub protection : new.protection ≡ old.protection
  pub code : (x : ℕ) → (old.protection x).execute ≡ true → new.byte x ≡ old.byte x
  pub outside : (x : ℕ) → (x < STACK_START) ⊎ (STACK_END ≤ x) → new.byte x ≡ old.byte x
