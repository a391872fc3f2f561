-- A funclet that the dispatcher has called returns to it: RIP is at the host's return address, and
-- RSP at the record.
use Rattle.std.proofs.Common.{◌≡◌, ℕ, zero, ◌+◌, ◌<◌, ◌≤◌, Some, List, [], ◌∷◌, length, sym, ap, subst, ◌∙◌, arith}
use Rattle.std.specs.Prelude.{slice_get}
use Rattle.match_turns.specs.Words.{W32, low, Rsp, context_of, State, register, Exception, Slot, Region, LinearFunclet, FuncletBody, Frame, Handler, Target, Resumption, Item, Waits, Searches, Unwinds, Configuration, Next, with_some, read, answer, end_funclet, end_body, act, exec, return_code, StackItem, Searching, Unwinding, context_below, activations_below, On, SearchIsAnswered, linear_answer, Comes, HasRule, IsMatched, HaveRoom, AreWaiting, turns_left, KnownNext, FlagsFit, waiting_below, Setting, IsMachineMemory, RepresentsAt, Continuations, Represents, Context, FilterOf, AreListable, filter_return, IsMatchedOrAsks}
use Rattle.linear_code.specs.declared.instruction.Instruction.TheVariants as instructions
use Rattle.linear_code.specs.declared.program.FuncletKind.TheVariants as funclets
use Rattle.match_turns.proofs.Lemmas.{reaches_silently, IsCounted}
use Rattle.match_turns.proofs.Bodies.BodyReturn as leaving
use Rattle.match_bodies.proofs.Steps.BodyFrames.{funclet_ending_few}
use Rattle.match_turns.proofs.Bodies.BodyReturn.{returns_within}
use Rattle.match_turns.proofs.Dispatches.DispatchReturnSteps.{filter_step, finally_step}
use Rattle.match_turns.proofs.Services.HostPage.{host_silent}
use Rattle.match_turns.proofs.Filters.FilterAnswer.{answer_low}
use Rattle.match_turns.proofs.Dispatches.DispatchStackTop.{IsSearchOnTop, IsUnwindingOnTop, search_on_top, unwinding_on_top, none_landed}

module _ (setting : Setting) (roomy : HaveRoom setting.program) where
  open setting use {functions as t, funclets as fs, program, plan as p, sites as q, image}

  module _ (s : State) (c : Configuration) (b : RepresentsAt setting s c)
      (counted : IsCounted setting c) (k : ℕ) (is : c.frame.body ≡ FuncletBody k) (from : Slot)
      (at : slice_get b.body.slots.code.code c.frame.next ≡ Some (instructions.Return from)) (x : ℕ)
      (reads : read c from ≡ Some x)
      (g : LinearFunclet) (funclet : slice_get program.funclets k ≡ Some g)
      (rule : HasRule (act program (instructions.Return from) (exec program zero) c))
      (known : KnownNext program c (instructions.Return from)) where
    abbrev after : State
    after = leaving.after setting roomy s c b counted from at

    abbrev n : ℕ
    n = length (return_code (p.layout c.frame.body) from)

    abbrev back : ℕ
    back = b.body.back

    abbrev top : ℕ
    top = register s.cpu Rsp + (p.layout c.frame.body).frame + 8

    same_acts : activations_below c.frame.body b.body.acts ≡ b.body.acts
    same_acts = ap (λ name. activations_below name b.body.acts) is

    -- the list as it stood, below what the funclet has given back
    rest_of_list : On t fs program p s.memory (context_below back top b.body.others) b.body.is
        c.below
        b.body.acts
    rest_of_list = subst (λ acts. On t fs program p s.memory
        (context_below back top b.body.others)
        b.body.is c.below acts) same_acts b.body.below

    here : (js : List StackItem) (items : List Item) → b.body.is ≡ js → c.below ≡ items
        → On t fs program p after.memory (context_of after.cpu) js items b.body.acts
    here js items e below =
        let on = subst (λ xs. On t fs program p s.memory (context_below back top b.body.others) xs
        items b.body.acts) e
        (subst (λ ys. On t fs program p s.memory (context_below back top b.body.others) b.body.is
        ys b.body.acts) below rest_of_list) in
        subst (λ (ks : List ℕ). let x : Context = record { rip = back; kept = ks } in
        On t fs program p s.memory x js items b.body.acts)
        (sym (leaving.registers_after setting roomy s c b counted from at)) on

    -- in the host's page no funclet begins
    silent : back < 0x100000000 → Comes t fs n s [] after
    silent low =
        reaches_silently t fs program p q image n s after
        (leaving.reaches setting roomy s c b counted from at)
        (leaving.keeps setting roomy s c b counted from at) b.memory.code
        (host_silent setting s.memory back after.cpu b.memory.code low)

    few : n ≤ 6
    few =
        let z = (returns_within (p.layout c.frame.body) from 2
        (funclet_ending_few setting c.frame.body b.body.slots.code b.body.slots.body k is)).1 in
        omega arith

    memory_after : IsMachineMemory setting after.memory c.store.memory
    memory_after = b.memory

    ends : (next : Next) → act program (instructions.Return from) next c
        ≡ end_funclet program next g.kind x c
    unfolding with_some
    ends next =
        ap (λ r. with_some c.events r (λ z. end_body program next c.frame.body z c)) reads
        ∙ ap (λ name. end_body program next name x c) is
        ∙ ap (λ f. with_some c.events f (λ z. end_funclet program next z.kind x c)) funclet

    -- ---- a filter

    module _ (fits : FlagsFit program) (continues : Continuations setting)
        (kind : g.kind ≡ funclets.Filter)
        (exception : Exception) (resumption : Resumption) (asked : Handler) (rest : List Handler)
        (w : Frame) (below : List Item) (under : c.below
        ≡ Searches exception resumption (FilterOf asked rest) ∷ Waits w ∷ below)
        (waits : AreWaiting program c.below) (listed : AreListable program c.store.vectored) where
      abbrev waiting : List Item
      waiting = Searches exception resumption (FilterOf asked rest) ∷ Waits w ∷ below

      on_top : IsSearchOnTop (context_below back top b.body.others) b.body.is filter_return
      on_top =
          let is_there = (subst (λ ys. On t fs program p s.memory
          (context_below back top b.body.others) b.body.is ys b.body.acts) under
          rest_of_list).is_there in
          search_on_top t fs program p s.memory (context_below back top b.body.others) b.body.is
          exception resumption (FilterOf asked rest) (Waits w ∷ below) b.body.acts is_there.stack
          is_there.linked

      is_answered : SearchIsAnswered t fs program p after on_top.dispatch on_top.others b.body.acts
          exception resumption asked rest (waiting_below c w below)
      is_answered = record {
        gives = image.gives;
        well_formed = leaving.well_formed_after setting roomy s c b counted from at;
        handlers = image.handlers_small;
        on = here (Searching on_top.dispatch ∷ on_top.others) waiting on_top.items under;
      }

      answers : (next : Next) → act program (instructions.Return from) next c
          ≡ linear_answer program after exception resumption asked rest (waiting_below c w below)
          next
      answers next =
          ends next
          ∙ ap (λ z. end_funclet program next z x c) kind
          ∙ ap (λ ws. answer program next x ws c.events c.store) under
          ∙ answer_low program next x exception resumption asked rest w below c.events c.store
          ∙ ap (λ v. answer program next (low W32 v) waiting c.events c.store)
          (sym (leaving.rax_after setting roomy s c b counted from at
          ∙ leaving.result_is setting roomy s c b counted from at x reads))

      pub filter_returns : IsMatchedOrAsks setting s c (instructions.Return from)
      filter_returns =
          let at_host = on_top.at_host in
          filter_step setting fits continues n s after c (instructions.Return from) on_top.dispatch
          on_top.others b.body.acts exception resumption asked rest w below (silent (omega arith))
          few at_host under (none_landed program c.below waits) is_answered memory_after
          b.body.store answers rule known listed

    -- ---- a `__finally` block that an unwinding runs

    module _ (fits : FlagsFit program) (flag : ℕ) (kind : g.kind ≡ funclets.Finally flag)
        (rest : List Region) (target : Target) (f : Frame) (below : List Item)
        (under : c.below ≡ Unwinds rest target ∷ Waits f ∷ below)
        (waits : AreWaiting program c.below)
      where
        unwinding : IsUnwindingOnTop (context_below back top b.body.others) b.body.is
        unwinding =
            let is_there = (subst (λ ys. On t fs program p s.memory
            (context_below back top b.body.others) b.body.is ys b.body.acts) under
            rest_of_list).is_there in
            unwinding_on_top t fs program p s.memory (context_below back top b.body.others)
            b.body.is rest target (Waits f ∷ below) b.body.acts is_there.stack is_there.linked

        pub block_returns : IsMatched t fs program 16 turns_left (Represents setting) s c
            (instructions.Return from)
        block_returns =
            let at_host = unwinding.at_host in
            finally_step setting fits n s after c (instructions.Return from) unwinding.dispatch
            unwinding.others b.body.acts rest target f below (silent (omega arith)) few at_host
            under (none_landed program c.below waits)
            (leaving.well_formed_after setting roomy s c b counted from at)
            (here (Unwinding unwinding.dispatch ∷ unwinding.others)
            (Unwinds rest target ∷ Waits f ∷ below) unwinding.items under) memory_after b.body.store
            (λ next. ends next ∙ ap (λ z. end_funclet program next z x c) kind) rule known
