-- A `__finally` block that a body has called returns: the body continues after its call.
use Rattle.std.proofs.Common.{◌≡◌, ℕ, ◌+◌, ◌<◌, Option, Some, None, List, [], ◌∷◌, length, refl, sym, ap, subst, ◌∙◌, arith, true, false}
use Rattle.std.specs.Prelude.{slice_get}
use Rattle.std.proofs.lemmas.List.{append-nil}
use Rattle.match_turns.specs.Words.{kept_of, Rsp, Context, State, register, distance, arrivals, Slot, LinearBody, LinearFunclet, BodyName, FuncletBody, body_of, Frame, Item, Waits, Configuration, Next, with_some, read, forth, instruction_in, end_finally, end_funclet, end_body, act, Layout, sizes, call, finally_arguments, return_code, HasBack, context_below, AllReturnsStayInRegions, HaveRoom, InCode, Activation, locals_of, activations_below, return_of, ReturnsTo, On, IsWellFormed, Moves, links_of, held_below, turns_left, Setting, InBody, RepresentsAt, now_of, host_list}
use Rattle.x64_templates.specs.Runs.{Reaches}
use Rattle.linear_code.specs.declared.instruction.Instruction.TheVariants as instructions
use Rattle.linear_code.specs.declared.program.FuncletKind.TheVariants as funclets
use Rattle.match_turns.proofs.Lemmas.{sizes_append, call_size, template_sizes, reaches_silently, waits_in_body, all_front, IsCounted, address_next}
use Rattle.match_bodies.proofs.Steps.BodyResumption.{again}
use Rattle.match_turns.proofs.Bodies.BodyReturn as leaving
use Rattle.match_bodies.proofs.Places.LeafRegisters.{framed_hold}

same_number : (a b : ℕ) → Some a ≡ Some b → a ≡ b
same_number a b e = cc

not_landed : (landed : Option ℕ) (value : ℕ) → landed ≡ None → landed ≡ Some value → ⊥
not_landed landed value e f = let z : ◌≡◌ {A = Option ℕ} None (Some value) = sym e ∙ f in cc

module _ (setting : Setting) (roomy : HaveRoom setting.program)
    (apart : AllReturnsStayInRegions setting.program) where
  open setting use {functions as t, funclets as fs, program, plan as p, sites as q, image}

  -- where a call of a block returns to: the next instruction
  pub after_call : (name : BodyName) (o : LinearBody) (label k : ℕ) → body_of program name ≡ Some o
      → slice_get o.code label ≡ Some (instructions.CallFinally k)
      → p.address name label + sizes finally_arguments + 5 ≡ p.address name (label + 1)
  after_call name o label k there at =
      let y = p.layout name in
      let links = links_of p q name in
      let place = p.address name label in
      let n = address_next setting name o there label (instructions.CallFinally k) at refl in
      let w = template_sizes links y place (instructions.CallFinally k) in
      let five = call_size (place + sizes finally_arguments + 5) (p.funclet k) in
      omega (
        arith,
        n,
        w,
        five,
        sizes_append finally_arguments (call (place + sizes finally_arguments + 5) (p.funclet k)
            ∷ []),
      )

  module _ (s : State) (c : Configuration) (b : RepresentsAt setting s c)
      (counted : IsCounted setting c) (k : ℕ) (is : c.frame.body ≡ FuncletBody k) (from : Slot)
      (at : slice_get b.body.slots.code.code c.frame.next ≡ Some (instructions.Return from)) (x : ℕ)
      (reads : read c from ≡ Some x)
      (g : LinearFunclet) (funclet : slice_get program.funclets k ≡ Some g) (flag : ℕ)
      (kind : g.kind ≡ funclets.Finally flag)
      (w : Frame) (items : List Item) (below : c.below ≡ Waits w ∷ items) (o : LinearBody)
      (there : body_of program w.body ≡ Some o) (j : ℕ)
      (calls : slice_get o.code w.next ≡ Some (instructions.CallFinally j))
      (free : w.landed ≡ None) (framed : p.leaf w.body ≡ false) where
    abbrev layout : Layout
    layout = p.layout c.frame.body

    abbrev sp : ℕ
    sp = register s.cpu Rsp

    abbrev back : ℕ
    back = b.body.back

    abbrev n : ℕ
    n = length (return_code layout from)

    abbrev pub after : State
    after = leaving.after setting roomy s c b counted from at

    has_back : HasBack s.memory (sp + layout.frame) back
    has_back = leaving.has_back setting roomy s c b counted from at

    reaches : Reaches n s after
    reaches = leaving.reaches setting roomy s c b counted from at

    registers_after : kept_of after.cpu.registers ≡ (sp + layout.frame + 8) ∷ b.body.others
    registers_after = leaving.registers_after setting roomy s c b counted from at

    well_formed_after : IsWellFormed (host_list p c.store) after
    well_formed_after = leaving.well_formed_after setting roomy s c b counted from at

    -- ---- the body that waits

    returns : back ≡ p.address w.body w.next + sizes finally_arguments + 5
    returns =
        let to : ReturnsTo t fs program p (Waits w ∷ items) back = subst
        (λ ws. ReturnsTo t fs program p ws back) below b.body.returns_to in
        let r : return_of (p.layout w.body) (p.address w.body w.next)
        (instruction_in (body_of program w.body) w.next)
        ≡ Some (p.address w.body w.next + sizes finally_arguments + 5) =
        ap (λ z. return_of (p.layout w.body) (p.address w.body w.next) (instruction_in z w.next))
        there ∙ ap (return_of (p.layout w.body) (p.address w.body w.next)) calls in
        same_number back (p.address w.body w.next + sizes finally_arguments + 5) (sym to ∙ r)

    back_is : back ≡ p.address w.body (w.next + 1)
    back_is = returns ∙ after_call w.body o w.next j there calls

    inside : w.next + 1 < length o.code
    inside = (apart w.body o there).within w.next (instructions.CallFinally j) calls refl

    back_code : InCode p w.body (w.next + 1) back
    back_code =
        let r = (image.addresses w.body o there).rises (w.next + 1) inside in
        record { low = omega (arith, back_is); high = omega (arith, back_is) }

    silent : arrivals after.cpu (distance t.base after.cpu.rip) 1 fs ≡ []
    silent =
        let a = image.addresses w.body o there in
        image.funclets.none back has_back.small
        (λ i lt e. a.not_first (w.next + 1) i inside lt (sym back_is ∙ e)) after.cpu

    abbrev outer : List Activation
    outer = activations_below c.frame.body b.body.acts

    outer_is : outer ≡ b.body.acts
    outer_is = ap (λ name. activations_below name b.body.acts) is

    abbrev above : Context
    above = context_below back (sp + layout.frame + 8) b.body.others

    on : On t fs program p s.memory above b.body.is (Waits w ∷ items) outer
    on = subst (λ ws. On t fs program p s.memory above b.body.is ws outer) below
        b.body.below

    abbrev pub next_one : Configuration
    next_one = forth (record { frame = w; below = items; store = c.store; events = c.events })

    in_body : InBody setting after next_one
    in_body = subst (λ (xs : List (List ℕ)). let d : Configuration =
        record {
          frame = again w (w.next + 1) w.temporaries w.landed;
          below = items;
          store = record c.store { memory = c.store.memory; activations = xs };
          events = c.events;
        } in
        InBody setting after d) (ap locals_of outer_is ∙ sym b.body.store)
        (waits_in_body t fs program p q image after above b.body.is w items outer (w.next + 1)
        w.temporaries w.landed c.store c.events on registers_after back_code
        well_formed_after
        (all_front s.memory w.temporaries)
        (framed_hold (now_of true after.cpu) (p.register w.body) (p.leaf w.body) outer w.body
        framed))

    begins : RepresentsAt setting after next_one
    begins = record {
      rip = back_is;
      well_formed = well_formed_after;
      memory = record {
        data_alone = b.memory.data_alone;
        agrees = b.memory.agrees;
        stack = b.memory.stack;
        arena = b.memory.arena;
        code = b.memory.code;
      };
      body = in_body;
      landed = λ value e. absurd (not_landed w.landed value free e);
    }

    acts_as : (next : Next) → act program (instructions.Return from) next c ≡ next next_one
    unfolding with_some
    acts_as next =
        ap (λ r. with_some c.events r (λ z. end_body program next c.frame.body z c)) reads
        ∙ ap (λ name. end_body program next name x c) is
        ∙ ap (λ f. with_some c.events f (λ z. end_funclet program next z.kind x c)) funclet
        ∙ ap (λ z. end_funclet program next z x c) kind
        ∙ ap (λ ws. end_finally program next ws c.events c.store) below

    pub return_of_block : Moves t fs program 16 turns_left (RepresentsAt setting) s c
        (instructions.Return from)
    return_of_block =
        let few = (leaving.returns_soon setting roomy s c b counted from at).1 in
        let some = (leaving.returns_soon setting roomy s c b counted from at).0 in
        let credit : held_below c.below ≡ length w.temporaries
        + held_below items = ap held_below below in
        record {
          turns = n;
          some = some;
          configuration = next_one;
          few = omega (arith, few, credit);
          state = after;
          events = [];
          comes = reaches_silently t fs program p q image n s after reaches
              (leaving.keeps setting roomy s c b counted from at) b.memory.code silent;
          acts = acts_as;
          shown = sym (append-nil c.events);
          is_there = begins;
        }
