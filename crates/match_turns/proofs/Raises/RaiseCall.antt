-- A call of RaiseException: the exception is raised where the call returns to.
use Rattle.std.proofs.Common.{◌≡◌, ℕ, zero, suc, ◌+◌, ◌%◌, ◌^◌, ◌<◌, ◌≤◌, Bool, List, [], ◌∷◌, length, drop, get_or, Some, None, refl, sym, ap, subst, ◌∙◌, arith, length-take}
use Rattle.std.specs.Prelude.{nat_eq, replicate, slice_get, slice_index, if◌then◌else◌}
use Rattle.std.proofs.lemmas.Bool.{eq-eqb}
use Rattle.std.proofs.lemmas.List.{get_or-drop}
use Rattle.std.proofs.lemmas.Option.{slice_get-get_or}
use Rattle.match_turns.specs.Words.{W32, Code, low, Rcx, Rdx, address_of, context_of, State, register, arrived, raised, RaiseException, Exception, raise_event, Temporary, Instruction, LinearProgram, AfterCall, Configuration, Next, with_some, last_temporaries, raise, count_of, waiting, built_in, act, instruction_at, exec, IsException, HasRule, live_from, turns_left, IsWellMade, IsKnown, KnownNext, FlagsFit, Setting, setting_of, RepresentsAt, RaisesAreMatched, leaf_values, ResumesFrom, IsMatchedOrAsks, Rsp}
use Rattle.host_layout.specs.declared.service.Service.TheVariants as services
use Rattle.source_meaning.specs.Expressions as expressions
use Rattle.linear_code.specs.declared.instruction.Instruction.TheVariants as instructions
use Rattle.match_turns.proofs.Lemmas.{counted_here, ready_here, slots_here, askable_here}
use Rattle.match_turns.proofs.Dispatches.DispatchStart.{raised_as}
use Rattle.match_turns.proofs.Dispatches.DispatchWalks.{service_walk}
use Rattle.match_turns.proofs.HostTurns.{raise_turns, raise_keeps}
use Rattle.match_turns.proofs.Filters.AskSteps.{taken_when_shown}
use Rattle.match_stack.proofs.DispatchSteps.{place_low}
use Rattle.match_turns.proofs.Services.BuiltInRequest as asking

-- an argument, among the last temporaries
argument_is : (ts : List ℕ) (first i : ℕ) → first + i < length ts
    → slice_get ts (first + i) ≡ Some (get_or (drop first ts) i 0)
argument_is ts first i lt = slice_get-get_or ts (first + i) 0 lt
    ∙ ap (λ x. Some x) (sym (get_or-drop first ts i 0))

-- no parameters are zeros
zeros : (n j : ℕ) → slice_index (replicate n 0) j < 2 ^ 64
zeros zero j = omega arith
zeros (suc n) zero = omega arith
zeros (suc n) (suc j) = zeros n j

-- what is raised
abbrev asked_for : Configuration → ℕ → Exception
asked_for c first = expressions.raised (get_or (drop first c.frame.temporaries) 0 0)
    (get_or (drop first c.frame.temporaries) 1 0)

-- what linear code does
raise_acts : (program : LinearProgram) (c : Configuration) (first : ℕ)
    → length c.frame.temporaries ≡ first + 4
    → (next : Next) → act program (instructions.CallBuiltIn RaiseException first) next c
    ≡ raise program next (asked_for c first) AfterCall (waiting c first)
unfolding with_some
raise_acts program c first held next =
    let last : last_temporaries c.frame.temporaries first (count_of RaiseException)
    ≡ Some (drop first c.frame.temporaries) =
    ap (λ (x : Bool). if x then Some (drop first c.frame.temporaries) else None)
    (eq-eqb (length c.frame.temporaries) (first + 4) held) in
    ap (λ o. with_some c.events o (λ vs. built_in program next RaiseException vs (waiting c first)))
    last

module _ (setting : Setting) (made : IsWellMade setting.program setting.plan)
    (fits : FlagsFit setting.program) where
  open setting use {functions as t, funclets as fs, program, plan as p, sites as q, image}

  module _ (s : State) (c : Configuration) (b : RepresentsAt setting s c)
      (known : IsKnown program c) (first : ℕ)
      (at : instruction_at program c ≡ Some (instructions.CallBuiltIn RaiseException first)) where
    abbrev i : Instruction
    i = instructions.CallBuiltIn RaiseException first

    abbrev state : State
    state = asking.state setting made s c b known RaiseException first at

    abbrev back : ℕ
    back = asking.back setting made s c b known RaiseException first at

    abbrev exception : Exception
    exception = asked_for c first

    held : length c.frame.temporaries ≡ first + 4
    held = ready_here setting made s c b known i at

    argument : (j : ℕ) → j < 4 → (asking.numbers setting made s c b known RaiseException first
        at).slots (Temporary (first + j)) ≡ get_or (drop first c.frame.temporaries) j 0
    argument j lt =
        let n = held in
        (slots_here setting s c b (counted_here setting made c known)).temporaries (first + j)
        (get_or (drop first c.frame.temporaries) j 0)
        (argument_is c.frame.temporaries first j (omega arith))

    code_given : register state.cpu Rcx ≡ get_or (drop first c.frame.temporaries) 0 0
    code_given = (let z : first + 0 ≡ first = omega arith in
        ap (λ n. (asking.numbers setting made s c b known RaiseException first at).slots (Temporary
        n)) (sym z)) ∙ argument 0 (omega arith)

    flags_given : register state.cpu Rdx ≡ get_or (drop first c.frame.temporaries) 1 0
    flags_given = argument 1 (omega arith)

    abbrev code : Code
    code = record { 0 = low W32 (register state.cpu Rcx) }

    is_exception : IsException code (register state.cpu Rdx % 2) None exception
    is_exception = record {
      same_code = ap (low W32) code_given;
      same_flag = ap (λ x. nat_eq (x % 2) 1) flags_given;
      same_access = refl;
      code_small = omega arith;
      one_flag = omega arith;
      access_small = λ j lt. zeros 15 j;
    }

    resumes : ResumesFrom p AfterCall (waiting c first).frame b.body.acts
        (asking.saved setting made s c b known RaiseException first at)
    resumes = (image.resumptions AfterCall (waiting c first).frame
        (leaf_values (p.leaf c.frame.body) c.frame.body b.body.acts)
        (asking.saved setting made s c b known RaiseException first at)).says
        (record { first = first; calls = at; here = refl; no_result = refl })

    goes : (next : Next) → act program i next c
        ≡ raise program next exception AfterCall (waiting c first)
    goes = raise_acts program c first held

    pub raise_step : HasRule (act program i (exec program zero) c) → KnownNext program c i
        → IsMatchedOrAsks setting s c i
    raise_step rule after =
        let asks = asking.asks setting made s c b known RaiseException first at in
        let shown = raised_as setting fits state
        (asking.saved setting made s c b known RaiseException first at) asks.is b.body.acts
        (waiting c first) asks.asks (asking.memory setting made s c b known RaiseException first at)
        b.body.store code (register state.cpu Rdx % 2) None exception AfterCall is_exception resumes
        (subst HasRule (goes (exec program zero)) rule)
        (askable_here program c.store.vectored made.whole known.stacked.handlers)
        (register state.cpu Rsp)
        (let up = asking.sp_saved setting made s c b known RaiseException first at in
        let there = asking.sp_there setting made s c b known RaiseException first at in
        let small = asks.asks.well_formed_saved.small 4 (let n = asks.asks.well_formed_saved.count
        in omega arith) in
        let low = place_low (register (asking.saved setting made s c b known RaiseException first
        at) Rsp) asks.asks.low small in omega arith) in
        let less : turns_left (waiting c first)
        ≤ turns_left c = (let n = length-take first c.frame.temporaries in omega arith) in
        let saved = asking.saved setting made s c b known RaiseException first at in
        let live = live_from (context_of saved) asks.is in
        let high = asking.high_enough setting made s c b known RaiseException first
        at in
        let low = asking.low_enough setting made s c b known RaiseException first
        at in
        let well_formed = asking.well_formed setting made s c b known RaiseException first at in
        let there = asking.sp_there setting made s c b known RaiseException first
        at in
        let up = asking.sp_saved setting made s c b known RaiseException first at in
        let walk =
        service_walk setting state (address_of services.RaiseException) back asks.is refl
        (omega arith) (omega arith) (λ e. absurd (omega arith)) (λ e. absurd (omega arith))
        (λ e. absurd (omega arith))
        (asking.returns setting made s c b known RaiseException first at) well_formed.count
        (omega arith) asks.asks.on.is_there.stack in
        taken_when_shown t fs program p q 16 7 (turns_left (waiting c first)) s state c i
        (arrived t fs (raised t state code (register state.cpu Rdx % 2) None
        (asking.saved setting made s c b known RaiseException first at)))
        (raise_event exception ∷ [])
        (λ next. raise program next exception AfterCall (waiting c first)) live
        (asking.comes setting made s c b known RaiseException first at)
        (asking.live setting made s c b known RaiseException first at)
        (raise_turns t fs state back refl (asking.returns setting made s c b known RaiseException
        first at)) (omega arith) (raise_keeps t fs program p q state walk.0 live refl walk.1)
        shown goes (omega arith) after

pub raises_are_matched : RaisesAreMatched
raises_are_matched t fs program p q image made fits s c first b known at rule after = raise_step
    (setting_of t fs program p q image) made fits s c b known first at rule after
