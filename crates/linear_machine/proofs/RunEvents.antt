-- What is seen of two runs, instruction by instruction: what each event and each end keeps holds of
-- the runs.
use Rattle.std.proofs.Common.{◌≡◌, ℕ, suc, ◌+◌, List, [], ◌∷◌, ◌++◌, length, refl}
use Rattle.std.specs.Prelude.{◌^◌, Bool, true, false, nat_eq, nat_lt, slice_get, get_or, Option, Some, None}
use Rattle.seh_num.specs.declared.width.Width.TheVariants.{W32, W64}
use Rattle.linear_machine.specs.Words.{Event, Ended, Exception, Instruction, Region, RegionKind, LinearProgram, depth_weight, BodyName, FunctionBody, FuncletBody, Handler, Target, Resumption, AfterCall, SameOperation, FilterOf, VectoredAt, Item, Waits, Searches, Unwinds, Store, Configuration, Seen, Finished, Stuck, Next, pick, with_some, deeper, read, with_temporary, with_temporaries, last_temporaries, at_label, forth, regions_at, regions_left, handlers, flag_of, begin_finally, run_finally, arrive, target_past, left_store, leave_region, unwind_body, unwind, target_of, accept, begin_filter, consult, search, ask_vectored, ask_at, ask_from, raise, resumed, continued, vectored_answered, answered, answer, is_constant, operand, written, computed, compute, tested, waiting, begin_function, count_of, built_in, return, end_finally, end_funclet, end_body, not_landed, act, instruction_at, exec, CallsBuiltIn, IsNotAt}
use Rattle.seh_num.specs.declared.event.Event.TheVariants as events
use Rattle.seh_num.specs.Widths.{low, signed}
use Rattle.c_operations.specs.declared.built_in.BuiltIn.{BuiltIn}
use Rattle.c_operations.specs.declared.built_in.BuiltIn.TheVariants.{Put, Protect, RaiseException, Walk, AddVectored, RemoveVectored}
use Rattle.c_operations.specs.declared.operation.Operation.{Operation}
use Rattle.c_operations.specs.Performed as performing
use Rattle.c_operations.specs.Performed.{performed}
use Rattle.source_meaning.specs.declared.ended.Ended.TheVariants as ends
use Rattle.source_meaning.specs.Source.{is_reserved}
use Rattle.source_meaning.specs.Raises.{noncontinuable, raise_event, handler_arguments}
use Rattle.source_meaning.specs.Expressions.{raised, field_of}
use Rattle.source_meaning.specs.State.{walk_events}
use Rattle.linear_machine.specs.Frames.{functions_in}
use Rattle.linear_code.specs.declared.slot.Slot.{Slot}
use Rattle.linear_code.specs.declared.slot.Slot.TheVariants.{Local, Temporary}
use Rattle.linear_code.specs.declared.instruction.Instruction.TheVariants as instructions
use Rattle.linear_code.specs.declared.program.FuncletKind.{FuncletKind}
use Rattle.linear_code.specs.declared.program.FuncletKind.TheVariants.{Filter, Finally}
use Rattle.linear_code.specs.declared.program.RegionKind.TheVariants as kinds

-- of what is seen of two runs after these events: an event that both show keeps it, and so do those
-- of a printed walk, which the program calls; and it holds of an end
pub record SeenRelation (program : LinearProgram) : Type 1 where
  pub keeps : List Event → Seen → Seen → Type 0
  pub event : (es : List Event) (e : Event) (a b : Seen) → IsNotAt e → keeps (es ++ e ∷ []) a b
      → keeps es a b
  pub walk : CallsBuiltIn program Walk → (es : List Event) (functions : List ℕ) (a b : Seen)
      → keeps (es ++ walk_events functions) a b → keeps es a b
  pub finished : (es : List Event) (e : Ended) → keeps es (Finished e es) (Finished e es)
  pub stuck : (es : List Event) → keeps es (Stuck es) (Stuck es)

module _ (program : LinearProgram) (relation : SeenRelation program) where
  open relation use {keeps}

  keeps_pick : (c : Bool) (es : List Event) (a b a' b' : Seen) → keeps es a a' → keeps es b b'
      → keeps es (pick c a b) (pick c a' b')
  unfolding pick
  keeps_pick true es a b a' b' p q = p
  keeps_pick false es a b a' b' p q = q

  keeps_some : {A : Type 0} → (es : List Event) (o : Option A) (go go' : A → Seen)
      → ((x : A) → keeps es (go x) (go' x)) → keeps es (with_some es o go) (with_some es o go')
  unfolding with_some
  keeps_some es None go go' k = relation.stuck es
  keeps_some es (Some x) go go' k = k x

  keeps_deeper : (n held : ℕ) (store : Store) (es : List Event) (a b : Seen) → keeps es a b
      → keeps es (deeper n held store es a) (deeper n held store es b)
  keeps_deeper n held store es a b k =
      keeps_pick _ es _ _ _ _ (relation.finished es (ends.Deep 1001)) k

  module _ (f g : Next) (h : (c : Configuration) → keeps c.events (f c) (g c)) where
    -- ---- unwinding

    run_finally_keeps : (k : ℕ) (abnormal : Bool) (held : ℕ) (below : List Item) (c : Configuration)
        → keeps c.events (run_finally program k abnormal held below f c)
        (run_finally program k abnormal held below g c)
    run_finally_keeps k abnormal held below c =
        keeps_some c.events (flag_of (slice_get program.funclets k)) _ _ λ flag.
        keeps_deeper 2 held c.store c.events _ _
        (relation.event c.events (events.Finally (k + 1) abnormal) _ _ tt
        (h (begin_finally k flag abnormal held below c)))

    arrive_keeps : (target : Target) (code : Option ℕ) (c : Configuration)
        → keeps c.events (arrive target code f c) (arrive target code g c)
    arrive_keeps target None c = h _
    arrive_keeps target (Some code) c =
        relation.event c.events (events.Except (record { 0 = code })) _ _ tt (h _)

    leave_keeps : (target : Target) (kind : RegionKind) (rest : List Region) (a b : Seen)
        (c : Configuration) → keeps c.events a b
        → keeps c.events (leave_region program f target kind rest a c)
        (leave_region program g target kind rest b c)
    leave_keeps target (kinds.Finally k) rest a b c q = run_finally_keeps k true target.held
        (Unwinds rest target ∷ Waits c.frame ∷ c.below) c
    leave_keeps target (kinds.Filter k label) rest a b c q = q
    leave_keeps target (kinds.Always label) rest a b c q = q

    unwind_body_keeps : (target : Target) (out out' : Store → Seen) (rs : List Region)
        (c : Configuration) → ((store : Store) → keeps c.events (out store) (out' store))
        → keeps c.events (unwind_body program f target out rs c)
        (unwind_body program g target out' rs c)
    unwind_body_keeps target out out' [] c o = keeps_pick _ c.events _ _ _ _
        (arrive_keeps target target.code c) (o (left_store c.frame.body c.frame.activation c.store))
    unwind_body_keeps target out out' (r ∷ rs) c o =
        keeps_pick _ c.events _ _ _ _ (arrive_keeps target target.code c)
        (leave_keeps target r.kind rs _ _ c (unwind_body_keeps target out out' rs c o))

    unwind_keeps : (target : Target) (items : List Item) (left : Option (List Region))
        (es : List Event) (store : Store) → keeps es (unwind program f target items left es store)
        (unwind program g target items left es store)
    unwind_keeps target [] left es store = relation.stuck es
    unwind_keeps target (Waits b ∷ below) left es store =
        unwind_body_keeps target
        (λ store. unwind program f (target_past b.body target) below None es store)
        (λ store. unwind program g (target_past b.body target) below None es store)
        (regions_left left (regions_at program b.body b.next))
        (record { frame = b; below = below; store = store; events = es })
        (unwind_keeps (target_past b.body target) below None es)
    unwind_keeps target (Searches exception resumption asked ∷ below) left es store =
        unwind_keeps target below None es store
    unwind_keeps target (Unwinds rest older ∷ below) left es store = unwind_keeps target below
        (Some rest) es store

    -- ---- searching

    accept_keeps : (x : Handler) (exception : Exception) (c : Configuration)
        → keeps c.events (accept program x exception f c) (accept program x exception g c)
    accept_keeps x exception c = unwind_keeps (target_of x exception.code c.frame.held)
        (Waits c.frame ∷ c.below) None c.events c.store

    consult_keeps : (k : Option ℕ) (x : Handler) (rest : List Handler) (exception : Exception)
        (resumption : Resumption) (c : Configuration)
        → keeps c.events (consult program k x rest exception resumption f c)
        (consult program k x rest exception resumption g c)
    consult_keeps None x rest exception resumption c = accept_keeps x exception c
    consult_keeps (Some k) x rest exception resumption c =
        keeps_deeper 2 c.frame.held c.store c.events _ _
        (relation.event c.events (events.Filter (k + 1)) _ _ tt
        (h (begin_filter k x rest exception resumption c)))

    search_keeps : (xs : List Handler) (exception : Exception) (resumption : Resumption)
        (c : Configuration) → keeps c.events (search program f xs exception resumption c)
        (search program g xs exception resumption c)
    search_keeps [] exception resumption c = relation.finished c.events
        (ends.Unhandled (record { 0 = exception.code }))
    search_keeps (x ∷ rest) exception resumption c = consult_keeps x.filter x rest exception
        resumption c

    ask_vectored_keeps : (k place : ℕ) (exception : Exception) (resumption : Resumption)
        (c : Configuration)
        → keeps c.events (ask_vectored program f k place exception resumption c)
        (ask_vectored program g k place exception resumption c)
    ask_vectored_keeps k place exception resumption c =
        keeps_some c.events (slice_get program.functions k) _ _ λ function.
        keeps_deeper (2 + depth_weight function) c.frame.held c.store c.events _ _
        (h (begin_function k function (handler_arguments exception) (c.frame.held + 2)
        (Searches exception resumption (VectoredAt place) ∷ Waits c.frame ∷ c.below) c.store
        c.events))

    pub ask_at_keeps : (o : Option ℕ) (place : ℕ) (exception : Exception) (resumption : Resumption)
        (c : Configuration) → keeps c.events (ask_at program f o place exception resumption c)
        (ask_at program g o place exception resumption c)
    ask_at_keeps None place exception resumption c = search_keeps
        (handlers program (Waits c.frame ∷ c.below) None) exception resumption c
    ask_at_keeps (Some k) place exception resumption c = ask_vectored_keeps k place exception
        resumption c

    ask_keeps : (place : ℕ) (exception : Exception) (resumption : Resumption)
        (c : Configuration) → keeps c.events (ask_from program f place exception resumption c)
        (ask_from program g place exception resumption c)
    ask_keeps place exception resumption c = ask_at_keeps (slice_get c.store.vectored place) place
        exception resumption c

    raise_keeps : (exception : Exception) (resumption : Resumption) (c : Configuration)
        → keeps c.events (raise program f exception resumption c)
        (raise program g exception resumption c)
    raise_keeps exception resumption c = relation.event c.events (raise_event exception) _ _ tt
        (ask_keeps 0 exception resumption
        (record c { events = c.events ++ raise_event exception ∷ [] }))

    resumed_keeps : (resumption : Resumption) (c : Configuration)
        → keeps c.events (f (resumed resumption c)) (g (resumed resumption c))
    resumed_keeps AfterCall c = h _
    resumed_keeps SameOperation c = h _

    continued_keeps : (exception : Exception) (resumption : Resumption) (c : Configuration)
        → keeps c.events (continued program f exception resumption c)
        (continued program g exception resumption c)
    continued_keeps exception resumption c =
        keeps_pick exception.flag c.events _ _ _ _ (raise_keeps noncontinuable resumption c)
        (resumed_keeps resumption c)

    vectored_keeps : (v place : ℕ) (exception : Exception) (resumption : Resumption)
        (c : Configuration)
        → keeps c.events (vectored_answered program f v place exception resumption c)
        (vectored_answered program g v place exception resumption c)
    vectored_keeps v place exception resumption c =
        keeps_pick (nat_lt (low W32 v) (2 ^ 31)) c.events _ _ _ _
        (ask_keeps (place + 1) exception resumption c) (continued_keeps exception resumption c)

    answered_keeps : (v : ℕ) (exception : Exception) (resumption : Resumption) (x : Handler)
        (rest : List Handler) (c : Configuration)
        → keeps c.events (answered program f v exception resumption x rest c)
        (answered program g v exception resumption x rest c)
    answered_keeps v exception resumption x rest c =
        keeps_pick (nat_eq (low W32 v) 0) c.events _ _ _ _
        (search_keeps rest exception resumption c)
        (keeps_pick (nat_lt (low W32 v) (2 ^ 31)) c.events _ _ _ _ (accept_keeps x exception c)
        (continued_keeps exception resumption c))

    answer_keeps : (v : ℕ) (items : List Item) (es : List Event) (store : Store)
        → keeps es (answer program f v items es store) (answer program g v items es store)
    answer_keeps v [] es store = relation.stuck es
    answer_keeps v (Waits b ∷ below) es store = relation.stuck es
    answer_keeps v (Unwinds rest target ∷ below) es store = relation.stuck es
    answer_keeps v (Searches exception resumption (VectoredAt place) ∷ below) es store =
        relation.stuck es
    answer_keeps v (Searches exception resumption (FilterOf x rest) ∷ []) es store =
        relation.stuck es
    answer_keeps v (Searches exception resumption (FilterOf x rest)
        ∷ Searches exception' resumption' asked ∷ below) es store = relation.stuck es
    answer_keeps v (Searches exception resumption (FilterOf x rest) ∷ Unwinds rest' target ∷ below)
        es store = relation.stuck es
    answer_keeps v (Searches exception resumption (FilterOf x rest) ∷ Waits b ∷ below) es store =
        relation.event es (events.Answer (signed W32 v)) _ _ tt
        (answered_keeps v exception resumption x rest
        (record {
          frame = b;
          below = below;
          store = store;
          events = es ++ events.Answer (signed W32 v) ∷ [];
        }))

    -- ---- instructions

    rewritten_keeps : (c : Configuration) (o : Option (List ℕ))
        → keeps c.events (with_some c.events (with_temporaries c o) (λ c. f (forth c)))
        (with_some c.events (with_temporaries c o) (λ c. g (forth c)))
    unfolding with_some
    rewritten_keeps c None = relation.stuck c.events
    rewritten_keeps c (Some ts) = h _

    written_keeps : (c : Configuration) (to : Slot) (v : ℕ)
        → keeps c.events (written c to v f) (written c to v g)
    unfolding with_some
    written_keeps c (Local x) v = h _
    written_keeps c (Temporary i) v = rewritten_keeps c (with_temporary c.frame.temporaries i v)

    computed_keeps : (to : Slot) (c : Configuration) (o : performing.OperationResult)
        → keeps c.events (computed program f to c o) (computed program g to c o)
    computed_keeps to c (performing.Gives v memory) = written_keeps
        (record c { store = record c.store { memory = memory } }) to v
    computed_keeps to c (performing.Raises code access) = raise_keeps
        (record { code = code.0; flag = false; access = access }) SameOperation c
    computed_keeps to c (performing.Undefined a) = relation.finished c.events (ends.Undefined a)

    compute_keeps : (to : Slot) (o : Operation) (first second : Slot) (c : Configuration)
        → keeps c.events (compute program f to o first second c)
        (compute program g to o first second c)
    compute_keeps to o first second c =
        keeps_some c.events (operand (is_constant o) c first) _ _ λ a.
        keeps_some c.events (operand (is_constant o) c second) _ _ λ b. computed_keeps to c
        (performed (is_reserved program.globals) o a b c.store.memory)

    tested_keeps : (slot : Slot) (label : ℕ) (v : ℕ) (c : Configuration)
        → keeps c.events (pick (nat_eq v 0) (f (at_label label (tested slot c)))
        (f (forth (tested slot c)))) (pick (nat_eq v 0) (g (at_label label (tested slot c)))
        (g (forth (tested slot c))))
    tested_keeps (Local x) label v c = keeps_pick (nat_eq v 0) c.events _ _ _ _ (h _) (h _)
    tested_keeps (Temporary i) label v c = keeps_pick (nat_eq v 0) c.events _ _ _ _ (h _) (h _)

    built_in_keeps : (b : BuiltIn) → CallsBuiltIn program b → (vs : List ℕ) (c : Configuration)
        → keeps c.events (built_in program f b vs c) (built_in program g b vs c)
    built_in_keeps Put called vs c =
        relation.event c.events (events.Put (signed W64 (get_or vs 0 0))) _ _ tt (h _)
    built_in_keeps Protect called vs c = h _
    built_in_keeps RaiseException called vs c = raise_keeps (raised (get_or vs 0 0) (get_or vs 1 0))
        AfterCall c
    built_in_keeps (AddVectored k) called vs c = h _
    built_in_keeps (RemoveVectored k) called vs c = h _
    built_in_keeps Walk called vs c = relation.walk called c.events
        (functions_in (Waits c.frame ∷ c.below)) _ _ (h _)

    return_keeps : (v : ℕ) (items : List Item) (es : List Event) (store : Store)
        → keeps es (return program f v items es store) (return program g v items es store)
    return_keeps v [] es store = relation.finished es (ends.Exit (signed W32 v))
    return_keeps v (Waits b ∷ below) es store = h _
    return_keeps v (Unwinds rest target ∷ below) es store = relation.stuck es
    return_keeps v (Searches exception resumption (FilterOf x rest) ∷ below) es store =
        relation.stuck es
    return_keeps v (Searches exception resumption (VectoredAt place) ∷ []) es store =
        relation.stuck es
    return_keeps v (Searches exception resumption (VectoredAt place)
        ∷ Searches exception' resumption' asked ∷ below) es store = relation.stuck es
    return_keeps v (Searches exception resumption (VectoredAt place) ∷ Unwinds rest target ∷ below)
        es store = relation.stuck es
    return_keeps v (Searches exception resumption (VectoredAt place) ∷ Waits b ∷ below) es store =
        vectored_keeps v place exception resumption
        (record { frame = b; below = below; store = store; events = es })

    end_finally_keeps : (items : List Item) (es : List Event) (store : Store)
        → keeps es (end_finally program f items es store) (end_finally program g items es store)
    end_finally_keeps [] es store = relation.stuck es
    end_finally_keeps (Waits b ∷ below) es store = h _
    end_finally_keeps (Searches exception resumption asked ∷ below) es store = relation.stuck es
    end_finally_keeps (Unwinds rest target ∷ []) es store = relation.stuck es
    end_finally_keeps (Unwinds rest target ∷ Searches exception resumption asked ∷ below) es
        store = relation.stuck es
    end_finally_keeps (Unwinds rest target ∷ Unwinds rest' older ∷ below) es store =
        relation.stuck es
    end_finally_keeps (Unwinds rest target ∷ Waits b ∷ below) es store = unwind_keeps target
        (Waits b ∷ below) (Some rest) es store

    end_funclet_keeps : (kind : FuncletKind) (v : ℕ) (c : Configuration)
        → keeps c.events (end_funclet program f kind v c) (end_funclet program g kind v c)
    end_funclet_keeps Filter v c = answer_keeps v c.below c.events c.store
    end_funclet_keeps (Finally flag) v c = end_finally_keeps c.below c.events c.store

    end_body_keeps : (name : BodyName) (v : ℕ) (c : Configuration)
        → keeps c.events (end_body program f name v c) (end_body program g name v c)
    end_body_keeps (FunctionBody k) v c = return_keeps v c.below c.events
        (left_store c.frame.body c.frame.activation c.store)
    end_body_keeps (FuncletBody k) v c = keeps_some c.events (slice_get program.funclets k) _
        _ λ x. end_funclet_keeps x.kind v c

    act_keeps : (i : Instruction) (c : Configuration) → instruction_at program c ≡ Some i
        → keeps c.events (act program i f c) (act program i g c)
    act_keeps (instructions.Compute to o first second) c at = compute_keeps to o first second c
    act_keeps (instructions.Information to field) c at = written_keeps c to
        (field_of field c.frame.exception)
    act_keeps (instructions.Jump label) c at = h _
    act_keeps (instructions.JumpIfZero slot label) c at = keeps_some c.events (read c slot) _
        _ λ v. tested_keeps slot label v c
    act_keeps (instructions.Call k first count) c at =
        keeps_some c.events (last_temporaries c.frame.temporaries first count) _ _ λ arguments.
        keeps_some c.events (slice_get program.functions k) _ _ λ function.
        keeps_deeper (depth_weight function) c.frame.held c.store c.events _ _
        (h (begin_function k function arguments c.frame.held
        (Waits (waiting c first).frame ∷ c.below) c.store c.events))
    act_keeps (instructions.CallBuiltIn b first) c at = keeps_some c.events
        (last_temporaries c.frame.temporaries first (count_of b)) _ _ λ vs. built_in_keeps b
        (record { name = c.frame.body; label = c.frame.next; first = first; calls = at }) vs
        (waiting c first)
    act_keeps (instructions.CallFinally k) c at = run_finally_keeps k false c.frame.held
        (Waits c.frame ∷ c.below) c
    act_keeps (instructions.LocalUnwind label) c at =
        unwind_keeps (record {
          depth = length c.below;
          label = label;
          code = None;
          held = c.frame.held;
        }) (Waits c.frame ∷ c.below) None c.events c.store
    act_keeps (instructions.Landing to) c at = keeps_some c.events c.frame.landed _
        _ λ code. written_keeps (not_landed c) to code
    act_keeps instructions.Separator c at = h _
    act_keeps (instructions.Return from) c at =
        keeps_some c.events (read c from) _ _ λ v. end_body_keeps c.frame.body v c

  -- where an instruction is found
  found_keeps : (es : List Event) (o : Option Instruction) (go go' : Instruction → Seen)
      → ((i : Instruction) → o ≡ Some i → keeps es (go i) (go' i))
      → keeps es (with_some es o go) (with_some es o go')
  unfolding with_some
  found_keeps es None go go' k = relation.stuck es
  found_keeps es (Some i) go go' k = k i refl

  -- with a turn more on both sides
  pub turn_keeps : (n m : ℕ) → ((c : Configuration)
      → keeps c.events (exec program n c) (exec program m c)) → (c : Configuration)
      → keeps c.events (exec program (suc n) c) (exec program (suc m) c)
  unfolding exec
  turn_keeps n m h c = found_keeps c.events (instruction_at program c) _ _ λ i at. act_keeps
      (exec program n) (exec program m) h i c at
