-- A vectored handler's function returns to the host.
use Rattle.std.proofs.Common.{◌≡◌, ℕ, zero, ◌+◌, ◌^◌, ◌<◌, ◌≤◌, Some, None, List, [], ◌∷◌, length, refl, sym, ap, subst, ◌∙◌, arith, ◌%◌}
use Rattle.std.specs.Prelude.{slice_get, nat_lt, ◌==◌}
use Rattle.match_turns.specs.Words.{Context, W32, low, Rax, Rsp, context_of, State, register, vectored_return, arrived, Exception, Slot, FunctionBody, Resumption, VectoredAt, Item, Waits, Searches, Frame, Configuration, Next, pick, continued, read, act, return, return_code, exec, Searching, Activation, activations_below, context_below, On, store_of, HaveRoom, HasRule, IsLive, Comes, live_from, held_below, turns_left, FlagsFit, Setting, RepresentsAt, Continuations, IsMatchedOrAsks, AreListable, KnownNext, below_handler, vectored_turn, linear_vectored, HandlerHasAnswered}
use Rattle.linear_code.specs.declared.instruction.Instruction.TheVariants as instructions
use Rattle.linear_machine.specs.Searching.{ask_from, vectored_answered}
use Rattle.match_turns.proofs.Lemmas.{reaches_silently, on_stack, IsCounted}
use Rattle.match_turns.proofs.Services.HostPage.{host_silent}
use Rattle.match_turns.proofs.HostTurns.{vectored_turns, vectored_return_keeps_here}
use Rattle.match_turns.proofs.Filters.AskSteps.{taken_when_shown}
use Rattle.match_turns.proofs.Dispatches.DispatchStackTop.{IsSearchOnTop, search_on_top}
use Rattle.match_turns.proofs.VectoredHandlers.HandlerAnswers.{handler_answered}
use Rattle.match_turns.proofs.Bodies.BodyReturn as leaving
use Rattle.match_turns.proofs.Functions.FunctionReturn as returning

module _ (setting : Setting) (roomy : HaveRoom setting.program) where
  open setting use {functions as t, funclets as fs, program, plan as p, sites as q, image}

  module _ (s : State) (c : Configuration) (b : RepresentsAt setting s c)
      (counted : IsCounted setting c) (f : ℕ)
      (function : c.frame.body ≡ FunctionBody f) (from : Slot)
      (at : slice_get b.body.slots.code.code c.frame.next ≡ Some (instructions.Return from)) (x : ℕ)
      (reads : read c from ≡ Some x)
      (rule : HasRule (act program (instructions.Return from) (exec program zero) c))
      (known : KnownNext program c (instructions.Return from))
      (fits : FlagsFit program) (continues : Continuations setting)
      (exception : Exception) (resumption : Resumption) (place : ℕ) (w : Frame) (below : List Item)
      (under : c.below ≡ Searches exception resumption (VectoredAt place) ∷ Waits w ∷ below)
      (small : place + 1 < 2 ^ 64) (free : w.landed ≡ None)
      (listed : AreListable program c.store.vectored) where
    abbrev after : State
    after = leaving.after setting roomy s c b counted from at

    abbrev n : ℕ
    n = length (return_code (p.layout c.frame.body) from)

    abbrev back : ℕ
    back = b.body.back

    abbrev top : ℕ
    top = register s.cpu Rsp + (p.layout c.frame.body).frame + 8

    abbrev outer : List Activation
    outer = activations_below c.frame.body b.body.acts

    abbrev waiting : List Item
    waiting = Searches exception resumption (VectoredAt place) ∷ Waits w ∷ below

    -- the body that waits, without the handler's locals
    abbrev d : Configuration
    d = below_handler c w below outer

    on : On t fs program p s.memory (context_below back top b.body.others) b.body.is waiting outer
    on = subst (λ ws. On t fs program p s.memory (context_below back top b.body.others) b.body.is ws
        outer) under b.body.below

    on_top : IsSearchOnTop (context_below back top b.body.others) b.body.is vectored_return
    on_top = search_on_top t fs program p s.memory (context_below back top b.body.others) b.body.is
        exception resumption (VectoredAt place) (Waits w ∷ below) outer on.is_there.stack
        on.is_there.linked

    here : On t fs program p after.memory (context_of after.cpu)
        (Searching on_top.dispatch ∷ on_top.others) waiting outer
    here =
        subst (λ (ks : List ℕ). let y : Context = record { rip = back; kept = ks } in
        On t fs program p s.memory y (Searching on_top.dispatch ∷ on_top.others) waiting outer)
        (sym (leaving.registers_after setting roomy s c b counted from at))
        (subst (λ js. On t fs program p s.memory (context_below back top b.body.others) js waiting
        outer) on_top.items on)

    has_answered : HandlerHasAnswered t fs program p after on_top.dispatch on_top.others outer
        exception resumption place d
    has_answered = record {
      gives = image.gives;
      well_formed = leaving.well_formed_after setting roomy s c b counted from at;
      handlers = image.handlers_small;
      small = small;
      on = here;
    }

    -- in the host's page no funclet begins
    silent : Comes t fs n s [] after
    silent =
        let there = on_top.at_host in
        let low : back < 0x100000000 = subst (λ a. a < 0x100000000) (sym there)
        (let z : vectored_return < 0x100000000 = omega arith in z) in
        reaches_silently t fs program p q image n s after
        (leaving.reaches setting roomy s c b counted from at)
        (leaving.keeps setting roomy s c b counted from at) b.memory.code
        (host_silent setting s.memory back after.cpu b.memory.code low)

    rax_is : register after.cpu Rax ≡ x
    rax_is = leaving.rax_after setting roomy s c b counted from at
        ∙ leaving.result_is setting roomy s c b counted from at x reads

    -- the low 32 bits of the answer are the same
    same_answer : (next : Next) → vectored_answered program next x place exception resumption d
        ≡ linear_vectored program after exception resumption place d next
    same_answer next =
        let y = register after.cpu Rax in
        let e : low W32 y ≡ low W32 (low W32 y) = (let z : y % 2 ^ 32 ≡ y % 2 ^ 32 % 2 ^ 32 =
        omega arith in z) in
        ap (λ v. vectored_answered program next v place exception resumption d) (sym rax_is)
        ∙ ap (λ v. pick (nat_lt v (2 ^ 31)) (ask_from program next (place + 1) exception resumption
        d) (continued program next exception resumption d)) e

    answers : (next : Next) → act program (instructions.Return from) next c
        ≡ linear_vectored program after exception resumption place d next
    answers next =
        returning.acts_as setting roomy s c b counted f function from at x reads next
        ∙ ap (λ ws. return program next x ws c.events (store_of c.store outer)) under
        ∙ same_answer next

    live : IsLive after
    live = ap (λ a. a == 0) on_top.at_host

    pub handler_returns : IsMatchedOrAsks setting s c (instructions.Return from)
    handler_returns =
        let few = (leaving.returns_soon setting roomy s c b counted from at).1 in
        let a = handler_answered setting fits continues after on_top.dispatch on_top.others outer
        exception resumption place d has_answered b.memory refl free listed
        (subst HasRule (answers (exec program zero)) rule) in
        let less : 6 + turns_left d ≤ turns_left c = (let z = ap held_below under in omega arith) in
        taken_when_shown t fs program p q 16 n (turns_left d + 3) s after c
        (instructions.Return from) (arrived t fs (vectored_turn t after)) a.before
        (λ next. linear_vectored program after exception resumption place d next)
        (live_from (context_of on_top.dispatch.saved) on_top.others) silent live
        (vectored_turns t fs after on_top.at_host)
        (let h = here.is_there.stack.0.above in omega arith)
        (vectored_return_keeps_here t fs program p q after
        (live_from (context_of on_top.dispatch.saved) on_top.others) on_top.at_host
        (on_stack t after.memory (context_of after.cpu) 0
        (Searching on_top.dispatch ∷ on_top.others) here.is_there.stack))
        a.shown answers (omega arith) known
