-- What each instruction does.
use Rattle.std.specs.Prelude.{ℕ, Bool, true, false, not, nat_eq, List, [], ◌∷◌, ◌++◌, length, take, get_or, slice_get, Option, Some, None}
use Rattle.std.specs.Prelude.{is_some}
use Rattle.seh_num.specs.declared.width.Width.TheVariants.{W32, W64}
use Rattle.seh_num.specs.declared.event.Event.{Event}
use Rattle.seh_num.specs.declared.event.Event.TheVariants as events
use Rattle.seh_num.specs.Widths.{low, signed}
use Rattle.flat_memory.specs.Memory.{protected, rights_asked}
use Rattle.c_operations.specs.declared.built_in.BuiltIn.{BuiltIn}
use Rattle.c_operations.specs.declared.built_in.BuiltIn.TheVariants.{Put, Protect, RaiseException, Walk, AddVectored, RemoveVectored}
use Rattle.c_operations.specs.declared.operation.Operation.{Operation}
use Rattle.c_operations.specs.declared.operation.Operation.TheVariants as operations
use Rattle.c_operations.specs.declared.operation.Pure.TheVariants.{Constant}
use Rattle.c_operations.specs.Performed.{OperationResult, Gives, Raises, Undefined, performed}
use Rattle.linear_code.specs.declared.slot.Slot.{Slot}
use Rattle.linear_code.specs.declared.slot.Slot.TheVariants.{Local, Temporary}
use Rattle.linear_code.specs.declared.instruction.Instruction.{Instruction}
use Rattle.linear_code.specs.declared.instruction.Instruction.TheVariants as instructions
use Rattle.linear_code.specs.declared.program.FuncletKind.{FuncletKind}
use Rattle.linear_code.specs.declared.program.FuncletKind.TheVariants.{Filter, Finally}
use Rattle.linear_code.specs.Program.{LinearProgram, depth_weight}
use Rattle.source_meaning.specs.declared.ended.Ended.TheVariants as ends
use Rattle.source_meaning.specs.Source.{is_reserved}
use Rattle.source_meaning.specs.State.{walk_events}
use Rattle.source_meaning.specs.Expressions.{of_test, field_of, raised}
use Rattle.linear_machine.specs.Frames.{BodyName, FunctionBody, FuncletBody, AfterCall, SameOperation, VectoredAt, Item, Waits, Searches, Unwinds, Store, Configuration, Seen, Finished, Stuck, Next, functions_in, pick, with_some, deeper, read, write, last_temporaries, at_label, forth, with_last}
use Rattle.linear_machine.specs.Unwinding.{left_store, run_finally, unwind}
pub use Rattle.linear_machine.specs.FunctionBegin.{begin_function}
use Rattle.linear_machine.specs.Searching.{raise, answer, vectored_answered}
use Rattle.vectored_list.specs.Lists.{is_listed, can_be_added, added, removed}

-- ---- operations

-- an operation that reads no operand
abbrev pub is_constant : Operation → Bool
is_constant (operations.Pure (Constant n)) = true
is_constant (operations.Allocate n) = true
is_constant o = false

-- a constant reads no slot
abbrev pub operand : Bool → Configuration → Slot → Option ℕ
operand true c slot = Some 0
operand false c slot = read c slot

-- a number is written to a slot, and the next instruction is run
abbrev pub written : Configuration → Slot → ℕ → Next → Seen
written c to v next = with_some c.events (write c to v) (λ c. next (forth c))

-- the result goes to its slot; a fault keeps the operands, since the operation may be made again
abbrev pub computed : LinearProgram → Next → Slot → Configuration → OperationResult → Seen
computed program next to c (Gives v memory) =
    written (record c { store = record c.store { memory = memory } }) to v next
computed program next to c (Raises code access) =
    raise program next (record { code = code.0; flag = false; access = access }) SameOperation c
computed program next to c (Undefined a) = Finished (ends.Undefined a) c.events

-- an operation on two slots, to a slot
abbrev pub compute : LinearProgram → Next → Slot → Operation → Slot → Slot → Configuration → Seen
compute program next to o first second c =
    with_some c.events (operand (is_constant o) c first) (λ a.
    with_some c.events (operand (is_constant o) c second) (λ b.
    computed program next to c (performed (is_reserved program.globals) o a b c.store.memory)))

-- ---- tests

-- the temporary that was tested is used no more, nor those after it
abbrev pub tested : Slot → Configuration → Configuration
tested (Local x) c = c
tested (Temporary i) c = with_last (take i c.frame.temporaries) c

-- a jump if a slot is 0; a temporary that is tested ends
abbrev pub jump_if_zero : Next → Slot → ℕ → Configuration → Seen
jump_if_zero next slot label c =
    with_some c.events (read c slot) (λ v. pick (nat_eq v 0) (next (at_label label (tested slot c)))
    (next (forth (tested slot c))))

-- ---- calls

-- the caller waits with the temporaries before its arguments
abbrev pub waiting : Configuration → ℕ → Configuration
waiting c first = with_last (take first c.frame.temporaries) c

-- a call of a function with the last temporaries as its arguments
abbrev pub call : LinearProgram → Next → ℕ → ℕ → ℕ → Configuration → Seen
call program next f first count c =
    with_some c.events (last_temporaries c.frame.temporaries first count) (λ arguments.
    with_some c.events (slice_get program.functions f) (λ function.
    deeper (depth_weight function) c.frame.held c.store c.events
    (next (begin_function f function arguments c.frame.held
    (Waits (waiting c first).frame ∷ c.below) c.store c.events))))

-- how many arguments a service takes
abbrev pub count_of : BuiltIn → ℕ
count_of Put = 1
count_of Protect = 2
count_of RaiseException = 4
count_of Walk = 0
count_of (AddVectored f) = 1
count_of (RemoveVectored f) = 0

-- the result of a built-in function
abbrev pub answers : Next → ℕ → Configuration → Seen
answers next v c = next (forth (with_last (c.frame.temporaries ++ v ∷ []) c))

-- the configuration with these vectored handlers
abbrev pub with_handlers : List ℕ → Configuration → Configuration
with_handlers vectored c = record c { store = record c.store { vectored = vectored } }

-- what a call of a service does
abbrev pub built_in : LinearProgram → Next → BuiltIn → List ℕ → Configuration → Seen
built_in program next Put vs c =
    answers next 0 (record c { events = c.events ++ events.Put (signed W64 (get_or vs 0 0)) ∷ [] })
built_in program next Protect vs c =
    let a = get_or vs 0 0 in
    let number = signed W32 (get_or vs 1 0) in
    answers next (of_test (is_some (rights_asked a number)))
    (record c { store = record c.store { memory = protected c.store.memory a number } })
built_in program next RaiseException vs c =
    raise program next (raised (get_or vs 0 0) (get_or vs 1 0)) AfterCall c
built_in program next (AddVectored f) vs c =
    answers next (of_test (can_be_added f c.store.vectored))
    (with_handlers (added (not (nat_eq (low W32 (get_or vs 0 0)) 0)) f c.store.vectored) c)
built_in program next (RemoveVectored f) vs c =
    answers next (of_test (is_listed f c.store.vectored))
    (with_handlers (removed f c.store.vectored) c)
built_in program next Walk vs c =
    let functions = functions_in (Waits c.frame ∷ c.below) in
    answers next 0 (record c { events = c.events ++ walk_events functions })

-- a call of a service with the last temporaries as its arguments
abbrev pub call_built_in : LinearProgram → Next → BuiltIn → ℕ → Configuration → Seen
call_built_in program next f first c =
    with_some c.events (last_temporaries c.frame.temporaries first (count_of f))
    (λ vs. built_in program next f vs (waiting c first))

-- ---- ends of bodies

-- the caller has the result after the temporaries that waited, and a search the answer of its
-- vectored handler; where nothing waits, the program ends
abbrev pub return : LinearProgram → Next → ℕ → List Item → List Event → Store → Seen
return program next v [] es store = Finished (ends.Exit (signed W32 v)) es
return program next v (Waits f ∷ below) es store =
    answers next v (record { frame = f; below = below; store = store; events = es })
return program next v (Searches exception resumption (VectoredAt place) ∷ Waits f ∷ below) es
    store =
    vectored_answered program next v place exception resumption
    (record { frame = f; below = below; store = store; events = es })
return program next v items es store = Stuck es

-- after a `__finally` block an unwinding continues, or the body after its call
abbrev pub end_finally : LinearProgram → Next → List Item → List Event → Store → Seen
end_finally program next (Unwinds rest target ∷ Waits f ∷ below) es store =
    unwind program next target (Waits f ∷ below) (Some rest) es store
end_finally program next (Waits f ∷ below) es store =
    next (forth (record { frame = f; below = below; store = store; events = es }))
end_finally program next items es store = Stuck es

-- a filter answers, a `__finally` block ends
abbrev pub end_funclet : LinearProgram → Next → FuncletKind → ℕ → Configuration → Seen
end_funclet program next Filter v c = answer program next v c.below c.events c.store
end_funclet program next (Finally flag) v c = end_finally program next c.below c.events c.store

-- a function returns a number; a funclet ends by its kind
abbrev pub end_body : LinearProgram → Next → BodyName → ℕ → Configuration → Seen
end_body program next (FunctionBody f) v c =
    return program next v c.below c.events (left_store c.frame.body c.frame.activation c.store)
end_body program next (FuncletBody k) v c =
    with_some c.events (slice_get program.funclets k) (λ f. end_funclet program next f.kind v c)

-- ---- all of them

-- a local unwind runs the `__finally` blocks between the instruction and its label
abbrev pub local_unwind : LinearProgram → Next → ℕ → Configuration → Seen
local_unwind program next label c =
    unwind program next (record {
      depth = length c.below;
      label = label;
      code = None;
      held = c.frame.held;
    }) (Waits c.frame ∷ c.below) None c.events c.store

-- the exception's code isn't at hand any more
abbrev pub not_landed : Configuration → Configuration
not_landed c = record c { frame = record c.frame { landed = None } }

-- what an instruction does
abbrev pub act : LinearProgram → Instruction → Next → Configuration → Seen
act program (instructions.Compute to o first second) next c =
    compute program next to o first second c
act program (instructions.Information to field) next c =
    written c to (field_of field c.frame.exception) next
act program (instructions.Jump label) next c = next (at_label label c)
act program (instructions.JumpIfZero slot label) next c = jump_if_zero next slot label c
act program (instructions.Call f first count) next c = call program next f first count c
act program (instructions.CallBuiltIn f first) next c = call_built_in program next f first c
act program (instructions.CallFinally k) next c =
    run_finally program k false c.frame.held (Waits c.frame ∷ c.below) next c
act program (instructions.LocalUnwind label) next c = local_unwind program next label c
act program (instructions.Landing to) next c =
    with_some c.events c.frame.landed (λ code. written (not_landed c) to code next)
act program instructions.Separator next c = next (forth (with_last [] c))
act program (instructions.Return from) next c =
    with_some c.events (read c from) (λ v. end_body program next c.frame.body v c)
