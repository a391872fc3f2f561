-- The data stack, where the variables of functions stand that are arrays or whose address is taken
-- (own). Each activation has a part of it, from its base on: the pointer when it began.
use Rattle.std.specs.Prelude.{ℕ, zero, suc, ◌+◌, ◌*◌, Bool, true, false, List, [], ◌∷◌, Option}
use Rattle.std.specs.Prelude.{Some, None, slice_index}
use Rattle.seh_num.specs.declared.width.Width.{Width}
use Rattle.seh_num.specs.declared.width.Width.TheVariants.{W64}
use Rattle.seh_num.specs.Widths.{low, bytes_of}
use Rattle.flat_memory.specs.Memory.{Memory, pointer_of, with_pointer}
use Rattle.c_operations.specs.declared.operation.Operation.TheVariants.{Place, Clear}
use Rattle.c_operations.specs.Performed as performing
use Rattle.c_operations.specs.Performed.{OperationResult, performed}
use Rattle.c_checked.specs.declared.function.StackedParameter.{StackedParameter}
use Rattle.c_checked.specs.declared.statement.StackedVariable.{StackedVariable}
use Rattle.c_checked.specs.Program.{DataFrame, Program}
use Rattle.source_meaning.specs.declared.ended.Ended.TheVariants.{Undefined}
use Rattle.source_meaning.specs.Source.{is_reserved}
use Rattle.source_meaning.specs.State.{State, Normal, Returned, End, Outcome, Gives, frame_of, local_of}
use Rattle.source_meaning.specs.State.{set_local, set_memory, counting}
use Rattle.source_meaning.specs.Tasks.{DataPart}

-- ---- operations

-- a number goes so many bytes above the base of an activation, which a local of it keeps
abbrev pub placing : Program → (base : ℕ) → Width → (offset activation x : ℕ) → State
    → OperationResult
placing program base w offset k x st =
    performed (is_reserved program.globals) (Place w offset) (local_of st k base) x st.memory

-- the last of so many elements of an array becomes 0
abbrev pub clearing : Program → StackedVariable → (activation n : ℕ) → State → OperationResult
clearing program v k n st =
    performed (is_reserved program.globals) (Clear v.width v.offset) (local_of st k v.base)
    (bytes_of v.width * n) st.memory

-- continues with what an operation gives that raises nothing
unfoldable pub given : OperationResult → State → (ℕ → State → Outcome) → Outcome
given (performing.Gives v memory) st go = go v (set_memory st memory)
given (performing.Raises code access) st go = Gives (End None) st
given (performing.Undefined a) st go = Gives (End (Some (Undefined a))) st

-- ---- an activation's part

-- memory with the pointer so many bytes above an activation's base, which one of these locals keeps
abbrev pub memory_above : (base n : ℕ) → (locals : List ℕ) → Memory → Memory
memory_above base n locals m = with_pointer m (low W64 (slice_index locals base + n))

abbrev pub point_above : (base n activation : ℕ) → State → State
point_above base n k st = set_memory st (memory_above base n (frame_of st k) st.memory)

-- a part of so many bytes begins at the pointer
abbrev pub allocate : (base n activation : ℕ) → State → State
allocate base n k st =
    set_memory (set_local st k base (pointer_of st.memory))
    (with_pointer st.memory (low W64 (pointer_of st.memory + n)))

-- the parameters whose address is taken are brought to where they stand
abbrev pub bring : Program → (base : ℕ) → List StackedParameter → (activation : ℕ) → State
    → (State → Outcome) → Outcome
bring program base [] k st go = go st
bring program base (p ∷ ps) k st go =
    given (placing program base p.width p.offset k (local_of st k p.parameter) st) st
    (λ v st. bring program base ps k st go)

-- an activation begins
abbrev pub open_frame : Program → Option DataFrame → (activation : ℕ) → State
    → (State → Outcome) → Outcome
open_frame program None k st go = go st
open_frame program (Some d) k st go =
    bring program d.base d.parameters k (allocate d.base d.size k st) go

-- a return gives its part back
unfoldable pub close : (base activation : ℕ) → Outcome → Outcome
close base k (Gives Normal st) = Gives Normal (point_above base 0 k st)
close base k (Gives (Returned v) st) = Gives (Returned v) (point_above base 0 k st)
close base k o = o

abbrev pub close_part : Option DataPart → (activation : ℕ) → Outcome → Outcome
close_part None k o = o
close_part (Some part) k o = close part.base k o

-- an `__except` block begins: what was called in its `__try` has given its parts back
abbrev pub reset_memory : Option DataPart → (locals : List ℕ) → Memory → Memory
reset_memory None locals m = m
reset_memory (Some part) locals m = memory_above part.base part.size locals m

abbrev pub reset_pointer : Option DataPart → (activation : ℕ) → State → State
reset_pointer part k st = set_memory st (reset_memory part (frame_of st k) st.memory)

-- so begins a `__finally` block that runs for an exception or a jump
abbrev pub reset_memory_if : Bool → Option DataPart → (locals : List ℕ) → Memory → Memory
reset_memory_if true part locals m = reset_memory part locals m
reset_memory_if false part locals m = m

abbrev pub reset_pointer_if : Bool → Option DataPart → (activation : ℕ) → State → State
reset_pointer_if flag part k st =
    set_memory st (reset_memory_if flag part (frame_of st k) st.memory)

-- ---- variables

-- a variable takes a number
abbrev pub put : Program → StackedVariable → (activation x : ℕ) → State → (State → Outcome)
    → Outcome
put program v k x st go =
    given (placing program v.base v.width v.offset k x st) st (λ x st. go st)

-- so many elements of an array become 0, the last one first; each counts a step
unfoldable pub clear : Program → StackedVariable → (activation n : ℕ) → State
    → (State → Outcome) → Outcome
clear program v k zero st go = go st
clear program v k (suc n) st go =
    counting 1 st (λ st.
    given (clearing program v k (suc n) st) st (λ x st. clear program v k n st go))
