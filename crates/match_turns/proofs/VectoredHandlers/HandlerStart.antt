-- From the first byte of a name thunk to the first instruction of its function.
use Rattle.std.proofs.Common.{◌≡◌, ℕ, zero, suc, ◌+◌, ◌*◌, ◌^◌, ◌<◌, ◌≤◌, Bool, true, false, Some, List, [], ◌∷◌, length, refl, sym, ap, subst, ◌∙◌, arith, inl, inr}
use Rattle.std.specs.Prelude.{slice_get, nat_lt}
use Rattle.std.proofs.lemmas.Bool.{cases_lt}
use Rattle.std.proofs.lemmas.Option.{slice_get_within}
use Rattle.source_meaning.specs.Raises.{handler_arguments}
use Rattle.source_meaning.specs.Expressions.{of_test}
use Rattle.linear_machine.specs.Frames.{function_body}
use Rattle.match_turns.specs.Words.{weight, STACK_START, STACK_END, context_of, State, register, Rsp, rsp, number_at, DispatchRecord, vectored_return, Exception, ExceptionCode, ExceptionFlags, LinearFunction, FunctionBody, body_of, depth_weight, Resumption, VectoredAt, Item, Waits, Searches, Configuration, begin_function, Flags, IsNear, MachineView, machine, StackItem, Searching, context_below, Activation, locals_of, FRAME_BY_WEIGHT, Comes, GivesCallers, AllKeep, weight_of, IsLayoutIf, Setting, IsMachineMemory, IsKnown, IsListable, IsAsking, HandlerBegins, seen_by_templates, host_list, IsWellFormed}
use Rattle.match_stack.specs.PlainWalks.{state}
use Rattle.match_bodies.specs.Callers.{FindsReturn, callers}
use Rattle.match_stack.specs.StackRecords.{On}
use Rattle.template_code.specs.declared.layout.Layout.{Layout}
use Rattle.match_stack.specs.Stack.{Owned}
use Rattle.match_stack.specs.ItemMatches.{HasSpace, below_end}
use Rattle.match_bodies.specs.ProgramImages.{HasName}
use Rattle.match_bodies.proofs.Steps.BodyViews.{is_machine}
use Rattle.match_bodies.proofs.Steps.InstructionEffects.{others_of}
use Rattle.match_bodies.proofs.Walks.SilentTurns.{reaches_silently}
use Rattle.x64_templates.specs.Runs.{Reaches}
use Rattle.x64_templates.specs.Exceptions.{MayRead}
use Rattle.match_turns.specs.AskOutcome.{HandlerStarts}
use Rattle.match_turns.proofs.Lemmas.{reaches_then, reaches_keeps, stays_well_formed, may_read_written, word_is, comes_then, locals_count, label_in, on_stack, short, in_stack}
use Rattle.match_stack.proofs.StackKeeping.{nothing_below_is_owned}
use Rattle.match_turns.proofs.Dispatches.DispatchSpace.{shallow_is, search_space}
use Rattle.match_turns.proofs.RecordFields.{field_is_at, field_is}
use Rattle.match_turns.proofs.Functions.GivenFunction.{IsCalled}
use Rattle.match_turns.proofs.Functions.GivenStart.{FunctionStarts}
use Rattle.match_turns.proofs.Functions.GivenStart as starting
use Rattle.match_turns.proofs.VectoredHandlers.NameThunkRun as thunk
use Rattle.match_turns.proofs.VectoredHandlers.NameThunkShadow.{name_thunk_keeps}

-- what the function is given, by the number of the parameter; what stands in the other registers of
-- parameters is given too, though it takes two
abbrev argument_of : Exception → (third fourth : ℕ) → ℕ → ℕ
argument_of exception third fourth zero = exception.code
argument_of exception third fourth (suc zero) = of_test exception.flag
argument_of exception third fourth (suc (suc zero)) = third
argument_of exception third fourth (suc (suc (suc n))) = fourth

arguments_are : (exception : Exception) (third fourth i v : ℕ)
    → slice_get (handler_arguments exception) i ≡ Some v
    → argument_of exception third fourth i ≡ v
arguments_are exception third fourth zero v e = cc
arguments_are exception third fourth (suc zero) v e = cc
arguments_are exception third fourth (suc (suc i)) v e = absurd cc

arguments_small : (exception : Exception) (third fourth : ℕ) → exception.code < 2 ^ 64
    → third < 2 ^ 64 → fourth < 2 ^ 64 → (i : ℕ) → argument_of exception third fourth i < 2 ^ 64
arguments_small exception third fourth a b d zero = a
arguments_small exception third fourth a b d (suc zero) = test_small exception.flag
  where
    test_small : (t : Bool) → of_test t < 2 ^ 64
    test_small true = let e : 1 < 2 ^ 64 = omega arith in e
    test_small false = let e : 0 < 2 ^ 64 = omega arith in e
arguments_small exception third fourth a b d (suc (suc zero)) = b
arguments_small exception third fourth a b d (suc (suc (suc n))) = d

module _ (setting : Setting) where
  open setting use {functions as t, funclets as fs, program, plan as p, sites as q, image}

  module _ (s : State) (at : ℕ) (r : DispatchRecord) (is : List StackItem) (acts : List Activation)
      (exception : Exception) (resumption : Resumption) (place : ℕ) (c : Configuration)
      (h : IsAsking t fs program p s at r is acts exception place c)
      (store : c.store.activations ≡ locals_of acts)
      (a : HandlerBegins t fs program p s at r is acts exception resumption place c)
      (askable : IsListable program a.handler)
      (memory : IsMachineMemory setting a.state.memory c.store.memory)
      (name : HasName t fs program p q a.state.memory a.handler)
      (shallow : nat_lt 1000 (length c.store.activations + c.frame.held
      + (2 + depth_weight askable.callee.function)) ≡ false)
      (known : IsKnown program (begin_function a.handler askable.callee.function
      (handler_arguments exception) (c.frame.held + 2)
      (Searches exception resumption (VectoredAt place) ∷ Waits c.frame ∷ c.below) c.store
      c.events)) where
    abbrev f : ℕ
    f = a.handler

    abbrev u : State
    u = a.state

    abbrev fn : LinearFunction
    fn = askable.callee.function

    abbrev items : List Item
    items = Searches exception resumption (VectoredAt place) ∷ Waits c.frame ∷ c.below

    abbrev top : ℕ
    top = register u.cpu Rsp

    abbrev v : MachineView
    v = seen_by_templates u

    there : body_of program (FunctionBody f) ≡ Some fn.body
    there = ap function_body askable.callee.there

    -- ---- places

    abbrev space : ℕ
    space = length acts + c.frame.held

    record_space : STACK_END ≤ at + (40 + 1600) + FRAME_BY_WEIGHT * space
    record_space =
        let x = (search_space t fs program p u.memory (context_below vectored_return at [])
        (Searching r ∷ is) exception resumption (VectoredAt place) c.frame c.below acts
        (a.on []).is_there.linked).space in omega arith

    high : at + 1568 ≤ STACK_END
    high =
        let x = h.room.below in
        let y = in_stack t fs program p s.memory (context_of r.saved) is (Waits c.frame ∷ c.below)
        acts h.on.is_there.stack h.on.is_there.linked in
        omega arith

    few : space + 2 + depth_weight fn ≤ 1000
    few =
        let z = shallow_is (length c.store.activations + c.frame.held + (2 + depth_weight fn))
        shallow
        in
        omega (arith, ap length store, locals_count acts)

    low : STACK_START + FRAME_BY_WEIGHT * weight fn + 8192 ≤ top
    low =
        let x = record_space in
        let y = few in
        let z = a.stack in
        omega arith

    -- ---- what the thunk reads

    reads : (from n x : ℕ) → STACK_START ≤ from → from + n ≤ STACK_END
        → number_at u.memory.byte n from ≡ x → MayRead u.memory n from x
    reads from n x lo hi e = record {
      high = omega arith;
      readable = λ b g l. may_read_written u.memory b (memory.stack b (omega arith) (omega arith));
      number = e;
    }

    leads : MayRead u.memory 8 v.rcx (at + 96)
    leads =
        let hi = high in
        let lo = low in
        let z = a.stack in
        subst (λ x. MayRead u.memory 8 x (at + 96)) (sym a.pointers)
        (reads (at + 80) 8 (at + 96) (omega arith) (omega arith)
        (word_is u.memory (at + 80) (at + 96) (a.on []).is_there.stack.0.pointers))

    has_code : MayRead u.memory 4 (at + 96) exception.code
    has_code =
        let hi = high in
        let lo = low in
        let z = a.stack in
        let flat : at + 96 ≡ at + 96 + 0 = omega arith in
        reads (at + 96) 4 exception.code (omega arith) (omega arith)
        (ap (number_at u.memory.byte 4) flat
        ∙ field_is_at u.memory at r ExceptionCode (omega arith) tt
        (a.on []).is_there.stack.0.fetches ∙ h.carries.code)

    has_flags : MayRead u.memory 4 (at + 96 + 4) (of_test exception.flag)
    has_flags =
        let hi = high in
        let lo = low in
        let z = a.stack in
        reads (at + 96 + 4) 4 (of_test exception.flag) (omega arith) (omega arith)
        (field_is_at u.memory at r ExceptionFlags (omega arith) tt
        (a.on []).is_there.stack.0.fetches ∙ field_is t fs program p r exception ExceptionFlags
        h.carries)

    code_small : exception.code < 2 ^ 32
    code_small = subst (λ x. x < 2 ^ 32) h.carries.code h.room.fits.code

    flag_small : of_test exception.flag < 2 ^ 32
    flag_small = by exception.flag
      where
        by : (b : Bool) → of_test b < 2 ^ 32
        by true = let e : 1 < 2 ^ 32 = omega arith in e
        by false = let e : 0 < 2 ^ 32 = omega arith in e

    near : IsNear (p.handler f + 15) (q.function f)
    near =
        let n = name.inside.low in
        let m = name.inside.high in
        let g = image.addresses (FunctionBody f) fn.body there in
        let lo = g.inside.low in
        let hi = g.inside.high in
        let first = g.first in
        (omega arith, omega arith, omega arith, omega arith)

    abbrev given : MachineView
    given = thunk.given v (p.handler f) (q.function f) (at + 96) exception.code
        (of_test exception.flag) u.cpu.flags (let hi = high in let z = a.pointers in omega arith)
        leads has_code code_small has_flags flag_small name.code near

    -- ---- the thunk's turns

    abbrev flags : Flags
    flags = u.cpu.flags

    abbrev before : State
    before = machine v (p.handler f) flags

    same : u ≡ before
    same = is_machine u a.well_formed.count ∙ ap (λ rip. machine v rip flags) a.rip

    -- where the function begins
    abbrev entered : State
    entered = machine given (q.function f) flags

    rcx_high : v.rcx < 2 ^ 63
    rcx_high = let hi = high in let z = a.pointers in omega arith

    one : Reaches 1 before (machine (record v { rax = at + 96 }) (p.handler f + 4) flags)
    one = thunk.first v (p.handler f) (q.function f) (at + 96) exception.code
        (of_test exception.flag) flags rcx_high leads has_code code_small has_flags flag_small
        name.code near

    two : Reaches 1 (machine (record v { rax = at + 96 }) (p.handler f + 4) flags)
        (machine (record v { rax = at + 96; rcx = exception.code }) (p.handler f + 7) flags)
    two = thunk.second v (p.handler f) (q.function f) (at + 96) exception.code
        (of_test exception.flag) flags rcx_high leads has_code code_small has_flags flag_small
        name.code near

    three : Reaches 1
        (machine (record v { rax = at + 96; rcx = exception.code }) (p.handler f + 7) flags)
        (machine given (p.handler f + 10) flags)
    three = thunk.third v (p.handler f) (q.function f) (at + 96) exception.code
        (of_test exception.flag) flags rcx_high leads has_code code_small has_flags flag_small
        name.code near

    four : Reaches 1 (machine given (p.handler f + 10) flags) entered
    four = thunk.fourth v (p.handler f) (q.function f) (at + 96) exception.code
        (of_test exception.flag) flags rcx_high leads has_code code_small has_flags flag_small
        name.code near

    run : Reaches 4 before entered
    run =
        let s1 = machine (record v { rax = at + 96 }) (p.handler f + 4) flags in
        let s2 = machine (record v { rax = at + 96; rcx = exception.code }) (p.handler f + 7) flags
        in
        let s3 = machine given (p.handler f + 10) flags in
        reaches_then 1 3 before s1 entered one
        (reaches_then 1 2 s1 s2 entered two (reaches_then 1 1 s2 s3 entered three four))

    -- ---- each of them keeps the shadow

    abbrev inside : f < length program.functions
    inside = slice_get_within program.functions f fn askable.callee.there

    some : 0 < length fn.body.code
    some = slice_get_within fn.body.code 0 known.continues.instruction
        (label_in (body_of program (FunctionBody f)) fn.body 0 known.continues.instruction there
        known.continues.at)

    finds : (d : ℕ) → d < 15 → FindsReturn t u.memory (p.handler f + d)
    finds d lt = image.callers_outside.names u.memory f d
        (record { function = f; adds = askable.adds }) inside lt

    top_is : at ≡ top + 8
    top_is = let e = a.stack in omega arith

    beneath : (others : List ℕ) → GivesCallers t u.memory
        (state (context_below vectored_return (top + 8) others) 0)
        (callers (context_of r.saved) is)
    beneath others = subst (λ n. GivesCallers t u.memory
        (state (context_below vectored_return n others) 0) (callers (context_of r.saved) is)) top_is
        (on_stack t u.memory (context_below vectored_return at others) 0 (Searching r ∷ is)
        (a.on others).is_there.stack)

    keeps : AllKeep t fs 4 before
    keeps =
        let code = thunk.code_at v (p.handler f) (q.function f) (at + 96) exception.code
        (of_test exception.flag) flags rcx_high leads has_code code_small has_flags flag_small
        name.code near in
        let hi = high in
        let z = a.stack in
        let flat : p.handler f + 0 ≡ p.handler f = omega arith in
        name_thunk_keeps setting v flags vectored_return (callers (context_of r.saved) is) a.returns
        (omega arith) beneath (p.handler f) (q.function f) (at + 96) exception.code
        (of_test exception.flag) one two three four code.0 code.1 code.2 code.3
        (short (p.handler f + 15) (q.function f) near)
        (subst (FindsReturn t u.memory) flat (finds 0 (omega arith))) (finds 4 (omega arith))
        (finds 7 (omega arith)) (finds 10 (omega arith))
        ((image.callers (FunctionBody f) fn.body there).entries u.memory (λ leaf. some))

    function_small : q.function f < 2 ^ 64
    function_small =
        let g = image.addresses (FunctionBody f) fn.body there in
        let hi = g.inside.high in
        let first = g.first in
        omega arith

    comes_there : Comes t fs 4 u [] entered
    comes_there = subst (λ (x : State). Comes t fs 4 x [] entered) (sym same)
        (reaches_silently t fs program p q image 4 before entered run keeps memory.code
        (image.funclets.none (q.function f) function_small
        (λ k lt. image.functions_apart f k inside lt) entered.cpu))

    -- ---- the function

    well_formed : IsWellFormed (host_list p c.store) entered
    well_formed = stays_well_formed before entered (reaches_keeps 4 before entered run)
        function_small (subst (IsWellFormed (host_list p c.store)) same a.well_formed)

    abbrev third : ℕ
    third = given.rest.r8

    abbrev fourth : ℕ
    fourth = given.rest.r9

    called : IsCalled t fs program p q entered c.store.memory f fn top
        (argument_of exception third fourth)
    called =
        let two : 2 ≡ fn.parameters = askable.callee.takes in
        let hi = high in
        let e = a.stack in
        let small = code_small in
        let n = few in
        record {
          function = askable.callee.there;
          rip = refl;
          stack = refl;
          shallow = (let z : depth_weight fn ≤ 1000 = omega arith in z);
          low = low;
          high = omega arith;
          count = refl;
          numbers = well_formed.small;
          few = omega arith;
          fits = askable.fits;
          registers = record { first = refl; second = refl; third = refl; fourth = refl };
          small = arguments_small exception third fourth (omega arith)
              (well_formed.small 8 (omega arith)) (well_formed.small 9 (omega arith));
          all_small = well_formed.small;
          memory = memory;
        }

    -- what the record and what lies above own is above the home space
    owned : (x : ℕ) → Owned (context_below vectored_return (top + 8)
        (others_of entered.cpu.registers)) (Searching r ∷ is) x → top + 40 ≤ x
    owned x (inl w) = let lo = w.low in omega arith
    owned x (inr o) =
        let b = h.room.below in
        let e = a.stack in
        elim (cases_lt x (rsp (context_of r.saved))) [
          | inl lt ↦ absurd (nothing_below_is_owned t u.memory (context_of r.saved) is x
              (a.on []).is_there.stack.1 lt o)
          | inr ge ↦ omega arith
        ]

    abbrev layout : Layout
    layout = p.layout (FunctionBody f)

    frame_fits : layout.frame + 8 ≤ FRAME_BY_WEIGHT * weight fn
    frame_fits = by (p.leaf (FunctionBody f)) (image.laid_out (FunctionBody f) fn.body there)
      where
        by : (leaf : Bool) → IsLayoutIf program p (weight_of (slice_get program.functions f)) layout
            fn.body leaf → layout.frame + 8 ≤ FRAME_BY_WEIGHT * weight fn
        by true l = let e = l.frame in omega arith
        by false l = let e = l.small in
            let w : weight_of (slice_get program.functions f) ≡ weight fn = ap weight_of
            askable.callee.there in omega arith

    abbrev held : ℕ
    held = c.frame.held + 2 + (fn.surplus + fn.data_surplus)

    depth : (sp : ℕ) → sp + layout.frame ≡ top
        → HasSpace sp below_end (suc (length acts) + held)
    depth sp e =
        let x = record_space in
        let y = few in
        let z = a.stack in
        let g = frame_fits in
        record { space = omega arith; shallow = omega arith }

    function_starts : FunctionStarts t fs program p q entered f fn (handler_arguments exception)
        held
        items c.store c.events
    function_starts = starting.started t fs program p q image entered c.store f fn top
        (argument_of exception third fourth) called some well_formed vectored_return a.returns
        (handler_arguments exception) askable.callee.takes (arguments_are exception third fourth)
        items acts held c.events store tt tt (Searching r ∷ is)
        (subst (λ n. On t fs program p u.memory
        (context_below vectored_return n (others_of entered.cpu.registers)) (Searching r ∷ is) items
        acts) top_is (a.on (others_of entered.cpu.registers))) owned depth

    pub handler_starts : HandlerStarts t fs program p q u f fn (handler_arguments exception)
        (c.frame.held + 2) items c.store c.events
    handler_starts =
        let l = function_starts in
        let soon = l.few in
        let two : 2 ≡ fn.parameters = askable.callee.takes in
        record {
          given = askable.callee.takes;
          others = l.others;
          as_many = l.as_many;
          small = l.small;
          turns = 4 + l.turns;
          few = omega arith;
          state = l.state;
          comes = comes_then t fs 4 l.turns u entered l.state [] [] comes_there l.comes;
          begins = l.begins;
        }
