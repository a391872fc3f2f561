-- Calls and returns, by what is known of the configuration.
use Rattle.std.proofs.Common.{◌≡◌, ℕ, ◌+◌, ◌-◌, ◌<◌, ◌≤◌, Bool, true, false, Some, List, [], ◌∷◌, length, refl, sym, ap, subst, ◌∙◌, arith, inl, inr, zero}
use Rattle.std.specs.Prelude.{◌⊎◌, nat_lt, slice_get, get_or, drop}
use Rattle.std.proofs.lemmas.Option.{slice_get_within, slice_get-get_or}
use Rattle.match_turns.specs.Words.{State, Deep, Slot, Local, Temporary, Instruction, LinearBody, depth_weight, FunctionBody, FuncletBody, body_of, function_body, Item, Waits, Searches, Unwinds, Frame, Configuration, Next, Finished, pick, read, local_of, waiting, begin_function, instruction_at, Activation, IsMatched, Fails, function_of, IsInstructionOf, IsCallee, IsHeld, AreWaiting, MayWait, IsCalledBy, with_own, owners_of, IsFuncletPlan, turns_left, IsWellMade, IsKnown, KnownNext, turns_per_step, OwnerHasFrame, Setting, setting_of, RepresentsAt, PassesWell, FunctionsApart, CallBegins, FlagsFit, Continuations, HasRule, act, exec, Exception, FilterOf, IsMatchedOrAsks, Resumption, VectoredAt}
use Rattle.linear_code.specs.declared.instruction.Instruction.TheVariants as instructions
use Rattle.match_turns.proofs.Lemmas.{fails_at_once, locals_count, some_is, label_in, body_there, owned_count, leaf_or_funclet, owner_waits, counted_here, code_at, ready_here, each}
use Rattle.lowering_invariants.specs.Waiting.{IsAbove}
use Rattle.lowering_invariants.specs.Activations.{WorksOn}
use Rattle.match_turns.specs.CallLaws.{ReturnsAreMatched, CallsBegin}
use Rattle.match_turns.proofs.Calls.CallResult.{IsSurrounded, caller_framed}
use Rattle.match_turns.proofs.Functions.FunctionReturn as returning
use Rattle.match_turns.proofs.Calls.CallActs.{call_acts}
use Rattle.match_turns.proofs.Calls.CallEntry as called
use Rattle.match_turns.proofs.Dispatches.DispatchSpace.{shallow_is}
use Rattle.match_turns.proofs.Calls.AtCall.{AtCall}
use Rattle.match_stack.specs.ItemMatches as linked
use Rattle.match_stack.specs.ItemMatches.{FunctionIsAbove}
use Rattle.lowering_invariants.specs.SmallNumbers.{AreSmallItems}
use Rattle.match_turns.proofs.VectoredHandlers.HandlerReturn.{handler_returns}
use Rattle.match_turns.proofs.Dispatches.DispatchOutcomeSteps.{matched_there}
use Rattle.match_turns.proofs.Lemmas.{askable_here}

module _ (setting : Setting) (made : IsWellMade setting.program setting.plan) where
  open setting use {functions as t, funclets as fs, program, plan as p, sites as q, image}

  -- what is around a body, by what is known where it runs
  pub surrounded : (d : Configuration) → IsKnown program d → (o : LinearBody)
      → body_of program d.frame.body ≡ Some o → (depth : ℕ) → depth ≡ length d.store.activations
      → IsSurrounded setting made.room d.frame.body d.frame.activation d.below depth
  surrounded d known o there depth same = record {
    caller = λ leaf. leaf_or_funclet setting made d o d.frame.body there leaf known.stacked.above;
    owner = owner;
  }
    where
      owner : (k : ℕ) → d.frame.body ≡ FuncletBody k → (acts : List Activation)
          → length acts ≡ depth → OwnerHasFrame t fs program p d.frame.activation d.below acts
      owner k name acts n =
          let plan : IsFuncletPlan program p k o = image.laid_out (FuncletBody k) o
          (subst (λ x. body_of program x ≡ Some o) name there) in
          let works : WorksOn program d.frame (FuncletBody k) (owners_of d.below) = subst
          (λ x. WorksOn program d.frame x (owners_of d.below)) name known.activations.working.0 in
          let function : plan.funclet.function
          ≡ works.0 = some_is plan.funclet.function works.0
          (sym (ap function_of plan.there) ∙ works.1) in
          let m = owned_count program (owners_of (Waits d.frame ∷ d.below)) d.store.activations
          known.activations.stored in
          let names : length (with_own d.frame.body (owners_of d.below))
          ≡ length (owners_of d.below) = ap (λ x. length (with_own x (owners_of d.below))) name in
          owner_waits setting made d.frame.activation d.below acts known.stacked.below
          (n ∙ same ∙ sym m ∙ names) (λ f e. ap (λ x. p.leaf (FunctionBody x))
          (sym (some_is works.0 f (sym works.2 ∙ e)) ∙ sym function) ∙ plan.function_framed)

  -- ---- returns

  reads : (c : Configuration) (slot : Slot) → IsHeld (length c.frame.temporaries) slot
      → (x : ℕ) × (read c slot ≡ Some x)
  reads c (Local i) h = (local_of c.store c.frame.activation i, refl)
  reads c (Temporary i) h = (
    get_or c.frame.temporaries i 0,
    slice_get-get_or c.frame.temporaries i 0 h,
  )

  module _ (s : State) (c : Configuration) (f : ℕ) (from : Slot) (b : RepresentsAt setting s c)
      (known : IsKnown program c) (function : c.frame.body ≡ FunctionBody f)
      (at : instruction_at program c ≡ Some (instructions.Return from))
      (fits : FlagsFit program) (continues : Continuations setting)
      (rule : HasRule (act program (instructions.Return from) (exec program zero) c))
      (after : KnownNext program c (instructions.Return from)) where
    abbrev Goal : Type 0
    Goal = IsMatchedOrAsks setting s c (instructions.Return from)

    -- matched up to the next instruction
    abbrev there : IsMatched t fs program turns_per_step turns_left (RepresentsAt setting) s c
        (instructions.Return from) → Goal
    there m = inl (matched_there t fs program p q turns_per_step s c (instructions.Return from) m)

    abbrev here : slice_get b.body.slots.code.code c.frame.next ≡ Some (instructions.Return from)
    here = code_at setting made s c b known (instructions.Return from) at

    value : (x : ℕ) × (read c from ≡ Some x)
    value = reads c from (ready_here setting made s c b known (instructions.Return from) at)

    called_by : IsCalledBy program f c.below
    called_by = subst (λ name. IsAbove program c.frame.exception c.frame.activation name c.below)
        function known.stacked.above

    to_body : (w : Frame) (items : List Item) → c.below ≡ Waits w ∷ items → Goal
    to_body w items e =
        let by : IsCalledBy program f (Waits w ∷ items) = subst (IsCalledBy program f) e
        called_by in
        let waits : AreWaiting program (Waits w ∷ items) = subst (AreWaiting program) e
        known.stacked.below in
        let body = body_there (body_of program w.body) w.next (instructions.Call f by.0 by.1)
        by.2 in
        let calls = label_in (body_of program w.body) body.0 w.next (instructions.Call f by.0 by.1)
        body.1 by.2 in
        let within = (made.apart w.body body.0 body.1).within w.next (instructions.Call f by.0 by.1)
        calls refl in
        let has_frame = caller_framed setting made w.body body.0 w.next
        (instructions.Call f by.0 by.1) body.1 calls refl in
        let same : waits.0.instruction ≡ instructions.Call f by.0 by.1 = some_is waits.0.instruction
        (instructions.Call f by.0 by.1) (sym waits.0.at ∙ by.2) in
        let held : length w.temporaries ≡ by.0 = subst
        (λ i. MayWait program i (length w.temporaries)) same waits.0.may in
        let counted = counted_here setting made c known in
        let next_one = returning.next_one setting made.room s c b counted f function
        from here value.0 value.1 w items e body.0 body.1 f by.0 by.1 calls within held
        waits.0.landed has_frame in
        let goes = returning.goes setting made.room s c b counted f function from
        here value.0 value.1 w items e body.0 body.1 f by.0 by.1 calls within held
        waits.0.landed has_frame in
        let known_next = after next_one goes in
        let acts = returning.outer setting made.room s c b counted f function from
        here value.0 value.1 w items e body.0 body.1 f by.0 by.1 calls within held
        waits.0.landed has_frame in
        there (inl (returning.moves setting made.room s c b counted f function from here value.0
        value.1 w
        items e body.0 body.1 f by.0 by.1 calls within held waits.0.landed
        has_frame (counted_here setting made next_one known_next)
        (surrounded next_one known_next body.0 body.1 (length acts) (sym (locals_count acts)))))

    -- to the search that has asked it
    to_search : (exception : Exception) (resumption : Resumption) (place : ℕ) (w : Frame)
        (items : List Item)
        → c.below ≡ Searches exception resumption (VectoredAt place) ∷ Waits w ∷ items → Goal
    to_search exception resumption place w items e =
        let waits = subst (AreWaiting program) e known.stacked.below in
        let small = (subst AreSmallItems e known.small.items.1).1 in
        handler_returns setting made.room s c b (counted_here setting made c known) f function from
        here value.0 value.1 rule after fits continues exception resumption place w items e
        (omega arith) waits.2.0.landed
        (askable_here program c.store.vectored made.whole known.stacked.handlers)

    is_above : FunctionIsAbove t fs program p c.below
    is_above = subst (λ name. linked.IsAbove t fs program p c.frame name c.below) function
        b.body.above

    below_search : (exception : Exception) (resumption : Resumption) (place : ℕ) (items : List Item)
        → c.below ≡ Searches exception resumption (VectoredAt place) ∷ items
        → FunctionIsAbove t fs program p
        (Searches exception resumption (VectoredAt place) ∷ items) → Goal
    below_search exception resumption place [] e h = absurd h
    below_search exception resumption place (Waits w ∷ items) e h =
        to_search exception resumption place w items e
    below_search exception resumption place (Searches x y z ∷ items) e h = absurd h
    below_search exception resumption place (Unwinds x y ∷ items) e h = absurd h

    returned : (items : List Item) → c.below ≡ items → Goal
    returned [] e = there (inr (inl (returning.exits setting made.room s c b
        (counted_here setting made c known) f function from here value.0 value.1 e)))
    returned (Waits w ∷ items) e = to_body w items e
    returned (Searches exception resumption (FilterOf h rest) ∷ items) e = absurd
        (subst (IsCalledBy program f) e called_by)
    returned (Searches exception resumption (VectoredAt place) ∷ items) e = below_search exception
        resumption place items e (subst (FunctionIsAbove t fs program p) e is_above)
    returned (Unwinds rest target ∷ items) e = absurd (subst (IsCalledBy program f) e called_by)

    pub matched : Goal
    matched = returned c.below refl

  -- ---- calls

  module _ (apart : FunctionsApart program p q) (s : State) (c : Configuration) (f first count : ℕ)
      (b : RepresentsAt setting s c) (known : IsKnown program c)
      (at : instruction_at program c ≡ Some (instructions.Call f first count)) where
    abbrev i : Instruction
    i = instructions.Call f first count

    abbrev body : LinearBody
    body = b.body.slots.code

    abbrev call_here : slice_get body.code c.frame.next ≡ Some i
    call_here = code_at setting made s c b known i at

    abbrev callee : IsCallee program f count
    callee = each (IsInstructionOf program c.frame.body) body.code c.frame.next i
        (made.whole.bodies c.frame.body body b.body.slots.body).code call_here

    passes : PassesWell body.passed i
    passes = each (PassesWell body.passed) body.code c.frame.next i
        (made.room c.frame.body body b.body.slots.body).calls call_here

    framed : p.leaf c.frame.body ≡ false
    framed = caller_framed setting made c.frame.body body c.frame.next i b.body.slots.body call_here
        refl

    held : length c.frame.temporaries ≡ first + count
    held = (ready_here setting made s c b known i at).0

    fits : count ≤ callee.function.body.locals
    fits = let a = made.whole.parameters f callee.function callee.there in let e = callee.takes in
        omega arith

    function_there : f < length program.functions
    function_there = slice_get_within program.functions f callee.function callee.there

    abbrev deep : Bool
    deep = nat_lt 1000 (length c.store.activations + c.frame.held + depth_weight callee.function)

    too_deep : deep ≡ true → Fails t fs program turns_per_step turns_left s c i
    unfolding pick
    too_deep e = fails_at_once t fs program turns_left turns_per_step s c i (Deep 1001) refl
        (λ next. call_acts program c f first count callee.function callee.there held next
        ∙ ap (λ (x : Bool). pick x (Finished (Deep 1001) c.events)
        (next (begin_function f callee.function (drop first c.frame.temporaries) c.frame.held
        (Waits (waiting c first).frame ∷ c.below) c.store c.events))) e)

    begins : deep ≡ false → CallBegins setting s c f first count
    unfolding pick
    begins e =
        let goes = λ (next : Next). call_acts program c f first count callee.function callee.there
        held next
        ∙ ap (λ (x : Bool). pick x (Finished (Deep 1001) c.events)
        (next (begin_function f callee.function (drop first c.frame.temporaries) c.frame.held
        (Waits (waiting c first).frame ∷ c.below) c.store c.events))) e in
        let first_one = known.next i (begin_function f callee.function
        (drop first c.frame.temporaries) c.frame.held (Waits (waiting c first).frame ∷ c.below)
        c.store c.events) at goes in
        let some = slice_get_within callee.function.body.code 0 first_one.instruction
        (label_in (body_of program (FunctionBody f)) callee.function.body 0 first_one.instruction
        (ap function_body callee.there) first_one.at) in
        let at_call : AtCall setting = record {
          roomy = made.room;
          state = s;
          configuration = c;
          represents = b;
          counted = counted_here setting made c known;
          number = f;
          first = first;
          count = count;
          at = call_here;
          few = passes.0;
          few_passed = passes.1;
          framed = framed;
          function = callee.function;
          found = callee.there;
          parameters = sym callee.takes;
          fits = fits;
          some = some;
          shallow = shallow_is
              (length c.store.activations + c.frame.held + depth_weight callee.function) e;
          held = held;
          apart = λ k inside. apart f k function_there inside;
        } in
        record {
          function = callee.function;
          there = callee.there;
          arguments = drop first c.frame.temporaries;
          given = called.counted_arguments at_call ∙ callee.takes;
          others = called.others at_call;
          as_many = called.counted_others at_call
              ∙ ap (λ n. callee.function.body.locals - n) callee.takes;
          small = called.small_others at_call;
          turns = called.turns at_call;
          some = called.some_turns at_call;
          few = (let soon = called.soon at_call in omega arith);
          state = called.after at_call;
          comes = called.comes at_call;
          acts = goes;
          begins = called.begins at_call;
        }

    pub call_begins : CallBegins setting s c f first count
        ⊎ Fails t fs program turns_per_step turns_left s c i
    call_begins = by deep refl
      where
        by : (x : Bool) → deep ≡ x → CallBegins setting s c f first count
            ⊎ Fails t fs program turns_per_step turns_left s c i
        by true e = inr (too_deep e)
        by false e = inl (begins e)

pub returns_are_matched : ReturnsAreMatched
returns_are_matched t fs program p q image made fits continues s c f from b known function at rule
    after =
    matched (setting_of t fs program p q image) made s c f from b known function at fits continues
    rule after

pub calls_begin : CallsBegin
calls_begin t fs program p q image made apart s c f first count b known at = call_begins
    (setting_of t fs program p q image) made apart s c f first count b known at
