-- Within an operation that faults, the machine raises the fault, and the body's state
-- there is saved.
use Rattle.std.proofs.Common.{◌≡◌, ℕ, zero, suc, ◌^◌, ◌<◌, Bool, true, false, List, [], ◌∷◌, ◌++◌, Option, Some, None, Err, refl, ap, subst, ◌∙◌, arith}
use Rattle.std.specs.Prelude.{slice_index, replicate}
use Rattle.std.proofs.lemmas.Bool.{ne_eqb}
use Rattle.match_turns.specs.Words.{Code, Instr, context_of, State, step, rsp, arrived, write_number, parameters, raised, Raises, Exception, raise_event, is_hidden, Operation, Slot, Temporary, Instruction, Layout, SameOperation, Configuration, Next, raise, act, exec, operands_code, finish_code, KeepsAbove, IsException, IsLive, HasRule, live_from, turns_left, IsWellMade, IsKnown, KnownNext, seen_by_templates, FlagsFit, ComesTo, Setting, IsResumed, WorksOn, AllSmall, IsSmallAccess, leaf_values, IsTakenWithin, ShowsOrAsks, register, Rsp}
use Rattle.x64_machine.specs.declared.outcome.Stop.TheVariants as stops
use Rattle.linear_code.specs.declared.instruction.Instruction.TheVariants as instructions
use Rattle.x64_templates.specs.Runs.{Finished}
use Rattle.lowering_invariants.proofs.Results.{IsSmallOutcome, outcome_small}
use Rattle.match_turns.proofs.Lemmas.{comes_nowhere, on_stack, is_machine, askable_here}
use Rattle.match_turns.proofs.Dispatches.DispatchStart.{raised_as}
use Rattle.match_turns.proofs.Services.HostRequest.{Asks, asks_host}
use Rattle.match_turns.proofs.HostTurns.{fault_turns, raised_keeps}
use Rattle.match_turns.proofs.Filters.AskSteps.{taken_when_shown}
use Rattle.match_stack.proofs.DispatchSteps.{place_low}
use Rattle.match_turns.proofs.Operations.OperationMeaning.{acts_as}
use Rattle.match_turns.proofs.Operations.OperationCode.{some_finish, is_some}
use Rattle.match_turns.proofs.Operations.OperationInProgress.{there, frame_here, slots_now, first_small, second_small, code_here, outcome, made_here, same_outcome}

-- ---- what a fault raises

zeros_small : (n j : ℕ) → slice_index (replicate n 0) j < 2 ^ 64
zeros_small zero j = omega arith
zeros_small (suc n) zero = omega arith
zeros_small (suc n) (suc j) = zeros_small n j

write_small : (w : Bool) → write_number w < 2 ^ 64
write_small true = omega arith
write_small false = omega arith

parameters_small : (access : Option (Bool × ℕ)) → IsSmallAccess access
    → AllSmall (parameters access)
parameters_small None h j lt = zeros_small 15 j
parameters_small (Some x) h zero lt = write_small x.0
parameters_small (Some x) h (suc zero) lt = h
parameters_small (Some x) h (suc (suc j)) lt = zeros_small 13 j

abbrev pub exception_of : Code → Option (Bool × ℕ) → Exception
exception_of code access = record { code = code.0; flag = false; access = access }

is_exception : (code : Code) (access : Option (Bool × ℕ)) → IsSmallOutcome (Raises code access)
    → IsException code 0 access (exception_of code access)
is_exception code access h = record {
  same_code = refl;
  same_flag = refl;
  same_access = refl;
  code_small = h.0;
  one_flag = omega arith;
  access_small = parameters_small access h.1;
}

module _ (setting : Setting) (made : IsWellMade setting.program setting.plan)
    (fits : FlagsFit setting.program)
    (s : State) (c : Configuration) (w : WorksOn setting s c) (known : IsKnown setting.program c)
  where
    open setting use {functions as t, funclets as fs, program, plan as p, sites as q, image}

    abbrev to : Slot
    to = w.again.to

    abbrev o : Operation
    o = w.again.operation

    abbrev first : Slot
    first = Temporary w.again.first

    abbrev second : Slot
    second = Temporary w.again.second

    abbrev i : Instruction
    i = instructions.Compute to o first second

    abbrev y : Layout
    y = p.layout c.frame.body

    abbrev ops : List Instr
    ops = operands_code y o first second

    abbrev finish : List Instr
    finish = finish_code y o to

    -- RIP is at a machine instruction of the body's instruction
    resumed : IsResumed setting c.frame.body w.body.slots.code c.frame.next s.cpu.rip
    resumed =
        let x = is_some finish (some_finish y o to) in
        record {
          instruction = i;
          there = there setting made s c w known;
          continues = λ h. h;
          done = ops;
          item = x.item;
          left = x.left;
          parts = ap (λ rest. ops ++ rest) x.parts;
          here = w.again.here;
        }

    untouched : KeepsAbove s.memory s.memory.byte (rsp (context_of s.cpu))
    untouched = record { above = λ x le. refl; code = λ x e. refl }

    asks : Asks setting s s s.memory.byte c w.body.acts
    asks = asks_host setting s s s.memory.byte c c.frame.next c.store.memory w.body
        resumed w.memory.code untouched w.memory w.well_formed w.well_formed

    live : IsLive s
    live = let l = (code_here setting made s c w known).placed.low in
        ne_eqb s.cpu.rip 0 (λ e. absurd (omega arith))

    module _ (code : Code) (access : Option (Bool × ℕ))
        (raises : ComesTo program c o first second (Raises code access)) where
      is_raised : outcome setting made s c w known ≡ Raises code access
      is_raised = same_outcome setting made s c w known (Raises code access) raises tt

      faults : step s ≡ Err (stops.Fault code access)
      faults =
          ap step (is_machine s w.well_formed.count)
          ∙ subst (λ x. Finished (frame_here setting made s c w known) o to (seen_by_templates s)
          s.cpu.rip s.cpu.flags (slots_now setting made s c w known) x) is_raised
          (made_here setting made s c w known)

      small : IsSmallOutcome (Raises code access)
      small =
          subst IsSmallOutcome is_raised
          (outcome_small (is_hidden program.globals) o _ _ c.store.memory
          (first_small setting made s c w known) (second_small setting made s c w known)
          (λ a l u. (w.memory.agrees.pointer a l u).small))

      acts : (next : Next) → act program i next c
          ≡ raise program next (exception_of code access) SameOperation c
      acts = acts_as program c to o first second (Raises code access) raises

      shows : HasRule (act program i (exec program zero) c)
          → ShowsOrAsks setting (arrived t fs (raised t s code 0 access s.cpu))
          (raise_event (exception_of code access) ∷ [])
          (λ next. raise program next (exception_of code access) SameOperation c) c.events
          (turns_left c) (register s.cpu Rsp) (live_from (context_of s.cpu) asks.is)
      shows rule =
          raised_as setting fits s s.cpu asks.is w.body.acts c asks.asks w.memory w.body.store code
          0 access (exception_of code access) SameOperation (is_exception code access small)
          ((image.resumptions SameOperation c.frame
          (leaf_values (p.leaf c.frame.body) c.frame.body w.body.acts) s.cpu).says w.again)
          (subst HasRule
          (acts (exec program zero)) rule)
          (askable_here program c.store.vectored made.whole known.stacked.handlers)
          (register s.cpu Rsp)
          (let n = w.well_formed.count in
          let low = place_low (register s.cpu Rsp) asks.asks.low
          (w.well_formed.small 4 (omega arith)) in omega arith)

      pub raised_at_once : HasRule (act program i (exec program zero) c) → KnownNext program c i
          → IsTakenWithin setting 7 s c i
      raised_at_once rule next =
          taken_when_shown t fs program p q 7 0 (turns_left c) s s c i
          (arrived t fs (raised t s code 0 access s.cpu))
          (raise_event (exception_of code access) ∷ [])
          (λ next. raise program next (exception_of code access) SameOperation c)
          (live_from (context_of s.cpu) asks.is) (comes_nowhere t fs s) live
          (fault_turns t fs s code access faults) (omega arith)
          (raised_keeps t fs program p q s code access (live_from (context_of s.cpu) asks.is) faults
          (on_stack t s.memory (context_of s.cpu) 0 asks.is asks.asks.on.is_there.stack))
          (shows rule) acts (omega arith) next
