-- A function returns: to the body that waits for it, or out of `main`.
use Rattle.std.proofs.Common.{◌≡◌, ◌≢◌, ℕ, ◌+◌, ◌<◌, Some, None, List, [], ◌∷◌, length, sym, ap, subst, ◌∙◌, arith, length-append, false}
use Rattle.std.specs.Prelude.{get_or, slice_get}
use Rattle.std.proofs.lemmas.List.{append-nil}
use Rattle.std.proofs.lemmas.Option.{slice_get-get_or}
use Rattle.match_turns.specs.Words.{kept_of, W32, signed, Rax, Rsp, Context, State, register, distance, arrivals, Slot, LinearBody, LinearFunclet, FunctionBody, FuncletBody, body_of, funclet_body, Frame, Item, Waits, Store, Configuration, Finished, Next, with_some, read, instruction_in, left_store, end_body, act, return, Layout, return_code, HasBack, context_below, Activation, activations_below, return_of, ReturnsTo, On, store_of, on_top, IsWellFormed, AllKeep, Moves, Exits, HaveRoom, held_below, turns_left, slots_end, Setting, RepresentsAt, now_of, host_list}
use Rattle.x64_templates.specs.Runs.{Reaches}
use Rattle.linear_code.specs.declared.instruction.Instruction.TheVariants as instructions
use Rattle.linear_code.specs.declared.program.FuncletKind.TheVariants as kinds
use Rattle.source_meaning.specs.declared.ended.Ended.TheVariants as ends
use Rattle.match_turns.proofs.Lemmas.{reaches_then, keep_then, reaches_silently, reaches_keeps, stays_well_formed, IsCounted}
use Rattle.match_stack.proofs.UnwindTargets.{left_activations}
use Rattle.match_turns.proofs.Calls.CallResult.{IsSurrounded, Resumes, answered}
use Rattle.match_turns.proofs.Calls.CallReturn.{returns_at, resumes}
use Rattle.match_turns.proofs.Bodies.BodyReturn as leaving

module _ (setting : Setting) (roomy : HaveRoom setting.program) where
  open setting use {functions as t, funclets as fs, program, plan as p, sites as q, image}

  module _ (s : State) (c : Configuration) (b : RepresentsAt setting s c)
      (counted : IsCounted setting c) (f : ℕ)
      (function : c.frame.body ≡ FunctionBody f) (from : Slot)
      (at : slice_get b.body.slots.code.code c.frame.next ≡ Some (instructions.Return from)) (x : ℕ)
      (reads : read c from ≡ Some x) where
    abbrev layout : Layout
    layout = p.layout c.frame.body

    abbrev sp : ℕ
    sp = register s.cpu Rsp

    abbrev back : ℕ
    back = b.body.back

    abbrev n : ℕ
    n = length (return_code layout from)

    has_back : HasBack s.memory (sp + layout.frame) back
    has_back = leaving.has_back setting roomy s c b counted from at

    -- the state after it
    abbrev pub after : State
    after = leaving.after setting roomy s c b counted from at

    pub reaches : Reaches n s after
    reaches = leaving.reaches setting roomy s c b counted from at

    rax_after : register after.cpu Rax ≡ x
    rax_after = leaving.rax_after setting roomy s c b counted from at
        ∙ leaving.result_is setting roomy s c b counted from at x reads

    registers_after : kept_of after.cpu.registers ≡ (sp + layout.frame + 8) ∷ b.body.others
    registers_after = leaving.registers_after setting roomy s c b counted from at

    well_formed_after : IsWellFormed (host_list p c.store) after
    well_formed_after = stays_well_formed s after (reaches_keeps n s after reaches) has_back.small
        b.well_formed

    -- each turn keeps the shadow
    keeps : AllKeep t fs n s
    keeps = leaving.keeps setting roomy s c b counted from at

    -- linear code leaves the function's locals
    left : left_store c.frame.body c.frame.activation c.store
        ≡ store_of c.store (activations_below c.frame.body b.body.acts)
    left =
        ap (λ (xs : List (List ℕ)). let o : Store =
        record c.store { activations = xs } in
        left_store c.frame.body c.frame.activation o) b.body.store
        ∙ left_activations s.memory c.store layout sp
        (slots_end layout (p.leaf c.frame.body)) c.frame.activation b.body.acts c.frame.body
        (now_of (p.leaf c.frame.body) s.cpu) (p.register c.frame.body) b.body.slots.activation

    pub acts_as : (next : Next) → act program (instructions.Return from) next c
        ≡ return program next x c.below c.events (store_of c.store
        (activations_below c.frame.body b.body.acts))
    unfolding with_some
    acts_as next =
        ap (λ o. with_some c.events o (λ v. end_body program next c.frame.body v c)) reads
        ∙ ap (λ name. end_body program next name x c) function
        ∙ ap (return program next x c.below c.events) left

    -- ---- out of `main`

    first_is_high : (k : ℕ) → k < length program.funclets → 0 ≢ p.funclet k
    first_is_high k lt e =
        let g = slice_get-get_or program.funclets k other lt in
        let a = image.addresses (FuncletBody k) (get_or program.funclets k other).body
        (ap funclet_body g) in
        let low = a.inside.low in
        absurd (omega (arith, e))
      where
        other : LinearFunclet
        other = record {
          kind = kinds.Filter;
          function = 0;
          parent = None;
          body = record {
            locals = 0;
            temporaries = 0;
            passed = 0;
            code = [];
            regions = [];
            cold = [];
          };
        }

    pub exits : c.below ≡ [] → Exits t fs program 16 turns_left s c (instructions.Return from)
    exits none =
        let few = (leaving.returns_soon setting roomy s c b counted from at).1 in
        let over : back ≡ 0 = subst (λ items. ReturnsTo t fs program p items back) none
        b.body.returns_to in
        record {
          turns = n;
          few = omega arith;
          state = after;
          events = [];
          comes = reaches_silently t fs program p q image n s after reaches keeps b.memory.code
              (subst (λ r. arrivals after.cpu (distance t.base r) 1 fs ≡ []) (sym over)
              (image.funclets.none 0 (omega arith) first_is_high after.cpu));
          over = over;
          value = signed W32 x;
          answer = ap (signed W32) rax_after;
          acts = λ next. acts_as next ∙ ap (λ items. return program next x items c.events
              (store_of c.store (activations_below c.frame.body b.body.acts))) none
              ∙ ap (λ es. Finished (ends.Exit (signed W32 x)) es) (sym (append-nil c.events));
        }

    -- ---- to the body that waits

    module _ (w : Frame) (items : List Item) (below : c.below ≡ Waits w ∷ items) (o : LinearBody)
        (there : body_of program w.body ≡ Some o) (g first arguments : ℕ)
        (calls : slice_get o.code w.next ≡ Some (instructions.Call g first arguments))
        (within : w.next + 1 < length o.code) (held : length w.temporaries ≡ first)
        (free : w.landed ≡ None) (framed : p.leaf w.body ≡ false) where
      returns : back ≡ returns_at (p.layout w.body) first arguments (p.address w.body w.next)
      returns =
          let to : ReturnsTo t fs program p (Waits w ∷ items) back = subst
          (λ items. ReturnsTo t fs program p items back) below b.body.returns_to in
          let is : return_of (p.layout w.body) (p.address w.body w.next)
          (instruction_in (body_of program w.body) w.next)
          ≡ Some (returns_at (p.layout w.body) first arguments (p.address w.body w.next)) =
          ap (λ o. return_of (p.layout w.body) (p.address w.body w.next) (instruction_in o w.next))
          there ∙ ap (return_of (p.layout w.body) (p.address w.body w.next)) calls in
          the_same back (returns_at (p.layout w.body) first arguments (p.address w.body w.next))
          (sym to ∙ is)
        where
          the_same : (a b : ℕ) → Some a ≡ Some b → a ≡ b
          the_same a b e = cc

      abbrev pub outer : List Activation
      outer = activations_below c.frame.body b.body.acts

      abbrev above : Context
      above = context_below back (sp + layout.frame + 8) b.body.others

      on : On t fs program p s.memory above b.body.is (Waits w ∷ items) outer
      on = subst (λ ws. On t fs program p s.memory above b.body.is ws outer) below
          b.body.below

      abbrev pub waiting_for_it : Configuration
      waiting_for_it = on_top w items c.store outer c.events

      -- the next configuration
      abbrev pub next_one : Configuration
      next_one = answered setting roomy w items c.store outer c.events x

      pub goes : (next : Next) → act program (instructions.Return from) next c ≡ next next_one
      goes next = acts_as next ∙ ap (λ ws. return program next x ws c.events
          (store_of c.store outer)) below

      pub moves : IsCounted setting waiting_for_it
          → IsSurrounded setting roomy w.body w.activation items (length outer)
          → Moves t fs program 16 turns_left (RepresentsAt setting) s c (instructions.Return from)
      moves counts surrounded =
          let few = (leaving.returns_soon setting roomy s c b counted from at).1 in
          let some = (leaving.returns_soon setting roomy s c b counted from at).0 in
          let more = length-append w.temporaries (x ∷ []) in
          let z = subst (λ r. Resumes t fs program p q after
          (answered setting roomy w items c.store outer c.events r)) rax_after
          (resumes setting roomy after w items outer c.store c.events
          above b.body.is on registers_after well_formed_after
          (record {
            data_alone = b.memory.data_alone;
            agrees = b.memory.agrees;
            stack = b.memory.stack;
            arena = b.memory.arena;
            code = b.memory.code;
          }) o there g first
          arguments calls within held free returns framed counts surrounded) in
          let credit : held_below c.below ≡ length w.temporaries
          + held_below items = ap held_below below in
          record {
            turns = n + 1;
            some = omega arith;
            configuration = next_one;
            few = omega (arith, few, more, credit);
            state = z.state;
            events = [];
            comes = reaches_silently t fs program p q image (n + 1) s z.state
                (reaches_then n 1 s after z.state reaches z.reaches)
                (keep_then t fs n 1 s after reaches keeps z.keeps) b.memory.code z.silent;
            acts = goes;
            shown = sym (append-nil c.events);
            is_there = z.begins;
          }
