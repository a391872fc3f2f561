-- Steps of linear code at the host's return addresses: a filter's return, and that of a `__finally`
-- block above an unwinding.
use Rattle.std.proofs.Common.{◌≡◌, ℕ, zero, ◌+◌, ◌≤◌, List, [], ◌∷◌, ap, subst, arith}
use Rattle.std.specs.Prelude.{◌==◌}
use Rattle.match_turns.specs.Words.{Rsp, context_of, State, register, DispatchRecord, filter_return, finally_return, arrived, finally_returned, Exception, Instruction, Region, Frame, Handler, Target, Resumption, Item, Waits, Searches, Unwinds, Configuration, Next, act, end_finally, exec, StackItem, Searching, Unwinding, Activation, locals_of, On, IsWellFormed, SearchIsAnswered, filter_turn, linear_answer, IsLive, Comes, HasRule, IsMatched, live_from, held_below, turns_left, KnownNext, FlagsFit, NoneLanded, waiting_below, Setting, IsMachineMemory, Continuations, Represents, host_list, FilterOf, AreListable, IsMatchedOrAsks}
use Rattle.seh_records.specs.Record.{fetched}
use Rattle.match_turns.proofs.Lemmas.{on_stack}
use Rattle.match_turns.proofs.Dispatches.DispatchReturn.{filter_answered, finally_ended}
use Rattle.match_turns.proofs.HostTurns.{filter_turns, finally_turns, filter_return_keeps_here, finally_return_keeps, matched_when_shown}
use Rattle.match_turns.proofs.Filters.AskSteps.{taken_when_shown}

module _ (setting : Setting) (fits : FlagsFit setting.program) where
  open setting use {functions as t, funclets as fs, program, plan as p, sites as q}

  -- in at most 6 turns the machine comes to the host's return address of filters
  pub filter_step : (continues : Continuations setting) (k : ℕ) (s u : State)
      (c : Configuration) (i : Instruction) (r : DispatchRecord) (is : List StackItem)
      (acts : List Activation)
      → (exception : Exception) (resumption : Resumption) (asked : Handler) (rest : List Handler)
      (w : Frame) (below : List Item)
      → Comes t fs k s [] u → k ≤ 6 → u.cpu.rip ≡ filter_return
      → c.below ≡ Searches exception resumption (FilterOf asked rest) ∷ Waits w ∷ below → NoneLanded
      c.below
      → SearchIsAnswered t fs program p u r is acts exception resumption asked rest
      (waiting_below c w below)
      → IsMachineMemory setting u.memory c.store.memory → c.store.activations ≡ locals_of acts
      → ((next : Next) → act program i next c
      ≡ linear_answer program u exception resumption asked rest (waiting_below c w below) next)
      → HasRule (act program i (exec program zero) c)
      → KnownNext program c i → AreListable program c.store.vectored
      → IsMatchedOrAsks setting s c i
  filter_step continues k s u c i r is acts exception resumption asked rest w below silent few at
      under unlanded answers memory store goes rule known listed =
      let d = waiting_below c w below in
      let going : IsLive u = ap (λ a. a == 0) at in
      let a = filter_answered setting fits continues u r is acts exception resumption
      asked rest d answers memory store (subst NoneLanded under unlanded).0 listed
      (subst HasRule (goes (exec program zero)) rule) in
      let less : turns_left d ≤ turns_left c = (let z = ap held_below under in omega arith) in
      taken_when_shown t fs program p q 16 k (turns_left d + 3) s u c i
      (arrived t fs (filter_turn t u)) a.before
      (λ next. linear_answer program u exception resumption asked rest d next)
      (live_from (context_of r.saved) is) silent going (filter_turns t fs u at)
      (let h = answers.on.is_there.stack.0.above in omega arith)
      (filter_return_keeps_here t fs program p q u (live_from (context_of r.saved) is) at
      (on_stack t u.memory (context_of u.cpu) 0 (Searching r ∷ is) answers.on.is_there.stack))
      a.shown goes (omega arith) known

  -- and to that of `__finally` blocks
  pub finally_step : (k : ℕ) (s u : State) (c : Configuration) (i : Instruction)
      (r : DispatchRecord) (is : List StackItem) (acts : List Activation) (rest : List Region)
      (target : Target) (f : Frame) (below : List Item)
      → Comes t fs k s [] u → k ≤ 6 → u.cpu.rip ≡ finally_return
      → c.below ≡ Unwinds rest target ∷ Waits f ∷ below → NoneLanded c.below
      → IsWellFormed (host_list p c.store) u → On t fs program p u.memory (context_of u.cpu)
      (Unwinding r ∷ is)
      (Unwinds rest target ∷ Waits f ∷ below) acts
      → IsMachineMemory setting u.memory c.store.memory → c.store.activations ≡ locals_of acts
      → ((next : Next) → act program i next c ≡ end_finally program next c.below c.events c.store)
      → HasRule (act program i (exec program zero) c)
      → KnownNext program c i
      → IsMatched t fs program 16 turns_left (Represents setting) s c i
  finally_step k s u c i r is acts rest target f below silent few at under unlanded well_formed on
      memory store
      goes rule known =
      let going : IsLive u = ap (λ a. a == 0) at in
      let a = finally_ended setting fits u r is acts rest target f below c well_formed on
      memory store under unlanded (subst HasRule (goes (exec program zero)) rule) in
      matched_when_shown t fs program p q 16 k (turns_left c) s u c i
      (arrived t fs (finally_returned t u (register u.cpu Rsp)
      (fetched u.memory (register u.cpu Rsp)))) []
      (λ next. end_finally program next c.below c.events c.store) (live_from r.walk is) silent going
      (finally_turns t fs u at)
      (finally_return_keeps t fs program p q u (live_from r.walk is) at
      (let h = on.is_there.stack.0.above in omega arith)
      (on_stack t u.memory (context_of u.cpu) 0 (Unwinding r ∷ is) on.is_there.stack)) a goes
      (omega arith) known
