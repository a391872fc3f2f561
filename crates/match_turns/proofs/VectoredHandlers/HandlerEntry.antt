-- A vectored handler is called: its name thunk is run, and its function begins.
use Rattle.std.proofs.Common.{◌≡◌, ℕ, ◌+◌, ◌^◌, ◌<◌, ◌≤◌, Option, List, [], ◌∷◌, length, refl, sym, ap, subst, ◌∙◌, arith}
use Rattle.std.proofs.lemmas.Option.{slice_get_within}
use Rattle.match_turns.specs.Words.{Event, Context, context_of, State, register, Rsp, distance, DispatchRecord, vectored_return, arrived, arrivals, asks_on, Continues, Exception, depth_weight, LinearFunction, Resumption, VectoredAt, Waits, Searches, Configuration, Next, with_some, begin_function, StackItem, Searching, context_below, Activation, locals_of, live_from, WalkGives, GivesCallers, caller_at, callers, turns_left, Setting, IsMachineMemory, IsListable, AreListable, IsAsking, HandlerBegins, EntersHandler}
use Rattle.flat_memory.specs.Memory.{number_at}
use Rattle.virtual_unwind.specs.Undone.{word}
use Rattle.source_meaning.specs.Raises.{handler_arguments}
use Rattle.linear_machine.specs.Searching.{ask_from}
use Rattle.linear_machine.specs.Frames.{deeper}
use Rattle.match_stack.specs.PlainWalks.{state}
use Rattle.match_bodies.specs.Callers.{FindsReturn, caller_above}
use Rattle.match_bodies.specs.ProgramImages.{AddsHandlers, HasName}
use Rattle.match_bodies.proofs.Steps.InstructionEffects.{others_of}
use Rattle.match_turns.proofs.Lemmas.{each, gives_caller, finds_return, on_stack, word_is, code_split}
use Rattle.match_turns.proofs.Dispatches.DispatchMemory.{memory_untouched}
use Rattle.match_turns.proofs.Funclets.FuncletFirstInstruction.{silent_code}
use Rattle.match_turns.proofs.VectoredHandlers.HandlerStart.{handler_starts}

module _ (setting : Setting) where
  open setting use {functions as t, funclets as fs, program, plan as p, sites as q, image}

  module _ (s : State) (at : ℕ) (r : DispatchRecord) (is : List StackItem) (acts : List Activation)
      (exception : Exception) (resumption : Resumption) (place : ℕ) (c : Configuration)
      (h : IsAsking t fs program p s at r is acts exception place c)
      (memory : IsMachineMemory setting s.memory c.store.memory)
      (store : c.store.activations ≡ locals_of acts) (here : ℕ) (le : at ≤ here)
      (listed : AreListable program c.store.vectored)
      (a : HandlerBegins t fs program p s at r is acts exception resumption place c) where
    abbrev f : ℕ
    f = a.handler

    abbrev u : State
    u = a.state

    askable : IsListable program f
    askable = each (IsListable program) c.store.vectored place f listed a.listed

    abbrev function : LinearFunction
    function = askable.callee.function

    adds : AddsHandlers t fs program p q
    adds = record { function = f; adds = askable.adds }

    inside : f < length program.functions
    inside = slice_get_within program.functions f function askable.callee.there

    memory_there : IsMachineMemory setting u.memory c.store.memory
    memory_there = memory_untouched t fs program p q s.memory u.memory c.store.memory a.untouched
        memory (a.on []).data_alone

    name : HasName t fs program p q u.memory f
    name = memory_there.code.names f inside adds

    -- nothing is shown there
    silent : arrivals u.cpu (distance t.base u.cpu.rip) 1 fs ≡ []
    silent =
        let first = code_split u.memory (p.handler f) _ _ name.code in
        subst (λ rip. arrivals u.cpu (distance t.base rip) 1 fs ≡ []) (sym a.rip)
        (silent_code setting u.memory (p.handler f) _ u.cpu memory_there.code refl refl first.0
        (image.handlers_small f))

    -- the walk gives its caller, and then those of the body that raised the exception
    abbrev cs : List Context
    cs = callers (context_of r.saved) is

    at_small : at + 8 < 2 ^ 64
    at_small = let b = h.room.below in let z = h.room.small in omega arith

    returns : number_at u.memory.byte 8 (register u.cpu Rsp) ≡ vectored_return
    returns = word_is u.memory (register u.cpu Rsp) vectored_return a.returns

    walk : WalkGives t u (caller_at u ∷ cs)
    walk =
        let sp = register u.cpu Rsp in
        let others = others_of u.cpu.registers in
        let e = a.stack in
        let small = at_small in
        let flat : p.handler f ≡ p.handler f + 0 = omega arith in
        let here : sp + 0 ≡ sp = omega arith in
        let up : at ≡ sp + 0 + 8 = omega arith in
        let finds : FindsReturn t u.memory (p.handler f + 0) =
        image.callers_outside.names u.memory f 0 adds inside (omega arith) in
        let found = finds_return t u.memory (p.handler f + 0) finds (context_of u.cpu)
        vectored_return (a.rip ∙ flat) refl (omega arith) (ap (word u.memory) here ∙ a.returns) in
        let below : GivesCallers t u.memory (state (context_below vectored_return at others) 0) cs =
        on_stack t u.memory (context_below vectored_return at others) 0 (Searching r ∷ is)
        (a.on others).is_there.stack in
        let above = subst (λ n. GivesCallers t u.memory
        (state (context_below vectored_return n others) 0) cs) up below in
        let flat : sp + 0 + 8 ≡ sp + 8 = omega arith in
        let caller : context_below vectored_return (sp + 0 + 8) others
        ≡ caller_at u = ap (λ n. context_below vectored_return n others) flat
        ∙ ap (λ v. context_below v (sp + 8) others) (sym returns) in
        subst (λ (k : Context). WalkGives t u (k ∷ cs)) caller
        (gives_caller t u.memory (context_of u.cpu) (caller_above (context_of u.cpu) 0
        vectored_return) cs found above)

    acts_as : (next : Next) → ask_from program next place exception resumption c
        ≡ deeper (2 + depth_weight function) c.frame.held c.store c.events
        (next (begin_function f function (handler_arguments exception) (c.frame.held + 2)
        (Searches exception resumption (VectoredAt place) ∷ Waits c.frame ∷ c.below) c.store
        c.events))
    unfolding with_some
    acts_as next = a.goes next ∙ ap (λ (o : Option LinearFunction). with_some c.events o
        (λ g. deeper (2 + depth_weight g) c.frame.held c.store c.events
        (next (begin_function f g (handler_arguments exception) (c.frame.held + 2)
        (Searches exception resumption (VectoredAt place) ∷ Waits c.frame ∷ c.below) c.store
        c.events)))) askable.callee.there

    pub handler_enters : EntersHandler setting (arrived t fs (asks_on t s at r))
        (λ next. ask_from program next place exception resumption c) c.events (turns_left c) here
        (live_from (context_of r.saved) is)
    handler_enters = record {
      state = u;
      turns = ap (arrived t fs) a.turns ∙ ap (λ (es : List Event). Continues u es) silent;
      handler = f;
      function = function;
      there = askable.callee.there;
      weighs = askable.weighs;
      arguments = handler_arguments exception;
      held = c.frame.held;
      below = Searches exception resumption (VectoredAt place) ∷ Waits c.frame ∷ c.below;
      store = c.store;
      few = omega arith;
      acts = acts_as;
      silent = silent;
      lower = (let e = a.stack in omega arith);
      returns = returns;
      walk = walk;
      starts = λ shallow known. handler_starts setting s at r is acts exception resumption place c h
          store a askable memory_there name shallow known;
    }
