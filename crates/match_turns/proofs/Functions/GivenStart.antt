-- A function begins whose arguments are in registers, on top of a list.
use Rattle.std.proofs.Common.{◌≡◌, ℕ, ◌+◌, ◌-◌, ◌*◌, ◌^◌, ◌<◌, ◌≤◌, Bool, true, false, Some, Ok, List, [], ◌++◌, length, refl, sym, ap, subst, ◌∙◌, arith, inl, inr, suc}
use Rattle.std.specs.Prelude.{slice_get}
use Rattle.std.proofs.lemmas.List.{append-nil}
use Rattle.std.proofs.lemmas.Option.{slice_get_within}
use Rattle.match_turns.specs.Words.{weight, weight_of, STACK_START, STACK_END, Protection, Rsp, State, register, Functions, distance, Funclet, LinearProgram, LinearBody, LinearFunction, FunctionBody, body_of, Layout, Instr, parameters_code, context_below, ImagePlan, IsWellFormed, host_list, Event, Item, Store, StackItem, Activation, locals_of, may_write, IsLinkedStack, Sites, function_arguments, IsLayoutIf, IsProgramImage, slots_end, FRAME_BY_WEIGHT, arrivals, home_end, Comes, begun, machine}
use Rattle.virtual_unwind.specs.Undone.{word}
use Rattle.match_turns.proofs.Lemmas.{Keeps, enters_keeps, stays_well_formed, may_read_written, word_of}
use Rattle.match_stack.specs.StackRecords.{On}
use Rattle.lowering_invariants.specs.SmallNumbers.{AreSmall}
use Rattle.match_bodies.proofs.Walks.SilentTurns.{enters_silently, none_inside}
use Rattle.match_bodies.specs.CodeSites.{arguments_code, making_size}
use Rattle.x64_machine.specs.Contexts.{context_of}
use Rattle.match_bodies.specs.LocalRegisters.{now_of}
use Rattle.template_code.specs.Places.{place_of}
use Rattle.x64_templates.specs.Straight.{LocalRegisters, local_registers}
use Rattle.x64_templates.specs.Frames.{number_placed}
use Rattle.match_bodies.specs.BodyViews.{arrived_in}
use Rattle.match_stack.specs.ItemMatches.{HoldsPlaces}
use Rattle.match_turns.proofs.Functions.FunctionLocals.{numbers_placed, numbers_count, numbers_small, arguments_then_places}
use Rattle.seh_records.specs.Laws.{AllSmall}
use Rattle.match_bodies.specs.Bodies.{HasFrame, RepresentsAt}
use Rattle.match_bodies.specs.Callers.{nothing_owed, owed_of}
use Rattle.match_bodies.specs.ProgramImages.{frame_of, IsMachineMemory}
use Rattle.match_bodies.specs.Setting.{setting_of}
use Rattle.match_bodies.proofs.Steps.BodyFrames.{frame_from, locals_own, small_others as small_registers}
use Rattle.match_bodies.proofs.Walks.OwedCallers.{returns_alone}
use Rattle.match_bodies.proofs.Steps.InstructionEffects.{others_of}
use Rattle.match_bodies.proofs.Walks.RoutineWalks.{enters_steps, Beneath, AllSteady}
use Rattle.match_bodies.proofs.Keeping.EntryKeeping.{parameters_steady, EntryRan, entry_ran}
use Rattle.match_bodies.proofs.Keeping.ProgramKeeping.{KeepsImage}
use Rattle.match_bodies.proofs.Keeping.MemoryKeeping.{memory_stays}
use Rattle.match_bodies.proofs.Steps.BodyViews.{is_machine, locals_small, arrived_small}
use Rattle.match_turns.proofs.Functions.FunctionFrame.{function_begins}
use Rattle.match_turns.proofs.Functions.GivenFunction.{IsCalled}
use Rattle.match_turns.proofs.Functions.GivenFunction as entering
use Rattle.match_turns.proofs.Functions.GivenFrames as entries
use Rattle.match_stack.specs.Stack.{IsStack, Owned}
use Rattle.match_stack.specs.ListLaws.{KeepsStack}
use Rattle.match_stack.specs.ItemMatches.{FunctionIsAbove, ReturnsTo, HasSpace, below_end}
use Rattle.match_turns.proofs.Lemmas.{kept_by_other_memories, stack_is_hidden}

-- turns that show nothing lead to its first instruction: the arguments are its first locals, and
-- what the stack or a register held is in the others, which linear code begins with 0
pub record FunctionStarts (t : Functions) (fs : List Funclet) (program : LinearProgram)
    (p : ImagePlan) (q : Sites) (s : State) (f : ℕ) (fn : LinearFunction) (arguments : List ℕ)
    (held : ℕ) (items : List Item) (store : Store) (es : List Event) : Type 0 where
  pub others : List ℕ
  pub as_many : length others ≡ fn.body.locals - fn.parameters
  pub small : AreSmall others
  pub turns : ℕ
  pub few : turns ≤ 21 + fn.parameters + 8 * fn.surplus
  pub state : State
  pub comes : Comes t fs turns s [] state
  pub begins : RepresentsAt t fs program p q state
      (begun f (arguments ++ others) held items store store.activations es)

module _ (t : Functions) (fs : List Funclet) (program : LinearProgram) (p : ImagePlan) (q : Sites)
    (image : IsProgramImage t fs program p q) (s : State) (store : Store) (f : ℕ)
    (fn : LinearFunction) (top : ℕ) (given : ℕ → ℕ)
    (h : IsCalled t fs program p q s store.memory f fn top given)
    (some : 0 < length fn.body.code) (well_formed : IsWellFormed (host_list p store) s)
    (back : ℕ) (returns_to : word s.memory top ≡ Ok back) (arguments : List ℕ)
    (counted : length arguments ≡ fn.parameters)
    (same : (i v : ℕ) → slice_get arguments i ≡ Some v → given i ≡ v)
    (items : List Item) (acts : List Activation) (held : ℕ) (es : List Event)
    (stored : store.activations ≡ locals_of acts) (above : FunctionIsAbove t fs program p items)
    (returns : ReturnsTo t fs program p items back) (is : List StackItem)
    (on : On t fs program p s.memory (context_below back (top + 8) (others_of s.cpu.registers)) is
    items acts)
    (owned : (a : ℕ) → Owned (context_below back (top + 8) (others_of s.cpu.registers)) is a
    → top + 40 ≤ a)
    (depth : (sp : ℕ) → sp + (p.layout (FunctionBody f)).frame ≡ top
    → HasSpace sp below_end (suc (length acts) + held)) where
  abbrev layout : Layout
  layout = p.layout (FunctionBody f)

  abbrev o : LinearBody
  o = fn.body

  abbrev there : body_of program (FunctionBody f) ≡ Some o
  there = entering.there t fs program p q image s store.memory f fn top given h

  abbrev first : State
  first = entering.first t fs program p q image s store.memory f fn top given h

  abbrev inside : entering.InFunction t fs program p q image s store.memory f fn top given h
  inside = entries.entered t fs program p q image s store.memory f fn top given h some

  abbrev pub after : State
  after = inside.state

  -- its prologue
  abbrev from : ℕ
  from = q.function f

  abbrev to : ℕ
  to = from + making_size p q (FunctionBody f)

  first_is : s ≡ first
  first_is = is_machine s h.count ∙ ap (λ r. machine
      (entering.view t fs program p q image s store.memory f fn top given h) r s.cpu.flags) h.rip

  keeps : Keeps first after
  keeps = enters_keeps from to inside.turns first after inside.comes

  rip_small : after.cpu.rip < 2 ^ 64
  rip_small = let a = image.addresses (FunctionBody f) o there in let u = a.inside.high in
      let r = inside.rip in omega arith

  silent_after : arrivals after.cpu (distance t.base after.cpu.rip) 1 fs ≡ []
  silent_after = image.funclets.none after.cpu.rip rip_small
      (λ k lt e. (image.addresses (FunctionBody f) o there).not_first 0 k some lt
      (sym inside.rip ∙ e)) after.cpu

  -- each turn keeps the shadow
  beneath_it : Beneath t first nothing_owed top (top + 40) back (others_of first.cpu.registers) is
  beneath_it =
      let high = h.high in
      let well_formed' = subst (IsWellFormed (host_list p store)) first_is well_formed in
      let at : register first.cpu Rsp ≡ top = subst (λ (x : State). register x.cpu Rsp ≡ top)
      first_is h.stack in
      let flat : register first.cpu Rsp + 0 ≡ top = omega arith in
      record {
        above = record {
          list = subst (λ (x : State). IsStack t x.memory
              (context_below back (top + 8) (others_of x.cpu.registers)) is) first_is
              on.is_there.stack;
          owned = subst (λ (x : State). (a : ℕ)
              → Owned (context_below back (top + 8) (others_of x.cpu.registers)) is a
              → top + 40 ≤ a) first_is owned;
          past = omega arith;
          high = omega arith;
          limit = omega arith;
          no_code = h.memory.data_alone.no_code;
        };
        count = well_formed'.count;
        size = 0;
        at = flat;
        owed = returns_alone first.memory (context_of first.cpu) back refl
            (let z : register first.cpu Rsp + 8 < 2 ^ 64 = omega arith in z)
            (ap (word first.memory) at ∙ returns_to);
      }

  arguments_are : arguments_code program p (FunctionBody f) ≡ parameters_code layout 0 fn.parameters
  arguments_are = ap (λ x. function_arguments layout x) h.function

  -- ---- the plan of its frame

  abbrev weighs : ℕ
  weighs = weight_of (slice_get program.functions f)

  weighs_so : weighs ≡ weight fn
  weighs_so = ap weight_of h.function

  abbrev HasPlan : Bool → Type 0
  HasPlan leaf = IsLayoutIf program p weighs layout o leaf

  planned : HasPlan (p.leaf (FunctionBody f))
  planned = image.laid_out (FunctionBody f) o there

  frame_small : (leaf : Bool) → HasPlan leaf → layout.frame + 8 ≤ FRAME_BY_WEIGHT * weight fn
  frame_small true l = let e = l.frame in omega arith
  frame_small false l = let z = l.small in let e = weighs_so in omega arith

  arguments_stored : (leaf : Bool) → HasPlan leaf
      → AllSteady (owed_of p (FunctionBody f)) layout.slots layout.frame 40
      (parameters_code layout 0 fn.parameters)
  arguments_stored true l =
      let e = l.frame in
      let a = l.locals in
      let n = l.few in
      let fits = h.fits in
      let few = h.few in
      parameters_steady (owed_of p (FunctionBody f)) layout.slots layout.frame 40 layout 0
      fn.parameters
      (locals_own (setting_of t fs program p q image) (FunctionBody f) o there)
      (omega arith) (omega arith) (λ j lt. inr (omega arith, omega arith))
  arguments_stored false l =
      let a = l.locals in
      let w = l.within in
      let z = l.small in
      let y = l.light in
      let fits = h.fits in
      let few = h.few in
      parameters_steady (owed_of p (FunctionBody f)) layout.slots layout.frame 40 layout 0
      fn.parameters
      (locals_own (setting_of t fs program p q image) (FunctionBody f) o there)
      (omega arith) (omega arith) (λ j lt. inl (omega arith))

  abbrev kept : List ℕ
  kept = others_of first.cpu.registers

  small_there : AllSmall kept
  small_there = small_registers first (subst (IsWellFormed (host_list p store)) first_is
      well_formed)

  entry_run : EntryRan t fs program p q image (FunctionBody f) o there some top (top + 40) back
      kept is inside.turns first after (arguments_code program p (FunctionBody f))
  entry_run =
      let stored = arguments_stored (p.leaf (FunctionBody f))
      planned in
      let small = frame_small (p.leaf (FunctionBody f)) planned in
      let lo = h.low in
      let hi = h.high in
      let at : register first.cpu Rsp ≡ top = subst (λ (x : State). register x.cpu Rsp ≡ top)
      first_is h.stack in
      entry_ran t fs program p q image (FunctionBody f) o there some top (top + 40) back
      kept is inside.turns first after
      (arguments_code program p (FunctionBody f)) [] 40
      (sym (append-nil (arguments_code program p (FunctionBody f)))) inside.exact
      (enters_steps from to inside.turns first after inside.comes) refl at beneath_it small_there
      h.memory.code (omega arith) refl
      (subst (λ (xs : List Instr). AllSteady (owed_of p (FunctionBody f)) layout.slots layout.frame
      40 xs) (sym arguments_are) stored)

  -- its frame is there, with the registers that the host gave
  frame_there : HasFrame after (p.leaf (FunctionBody f)) (frame_of p (FunctionBody f) back kept)
  frame_there =
      let e = entry_run.beneath in
      frame_from (setting_of t fs program p q image) (FunctionBody f) o there after e.size back
      kept e.owed

  pub comes : Comes t fs inside.turns s [] after
  comes = subst (λ (x : State). Comes t fs inside.turns x [] after) (sym first_is)
      (enters_silently t fs program p q image from to
      (none_inside t fs program p q image (FunctionBody f) o there) inside.turns first after
      inside.comes entry_run.keeps
      h.memory.code silent_after)

  pub soon : inside.turns ≤ 21 + fn.parameters + 8 * fn.surplus
  soon = inside.soon

  well_formed_after : IsWellFormed (host_list p store) after
  well_formed_after =
      stays_well_formed first after keeps rip_small (subst (IsWellFormed (host_list p store))
      first_is well_formed)

  abbrev registers : LocalRegisters
  registers = local_registers after.cpu.registers

  -- what the stack and the registers held is in the other locals
  abbrev pub others : List ℕ
  others = numbers_placed layout inside.sp (arrived_in after.cpu) registers after.memory
      (length arguments)
      (o.locals - fn.parameters)

  pub counted_others : length others ≡ o.locals - fn.parameters
  counted_others = numbers_count layout inside.sp (arrived_in after.cpu) registers after.memory
      (length arguments)
      (o.locals - fn.parameters)

  pub small_others : AreSmall others
  small_others = numbers_small layout inside.sp (arrived_in after.cpu) registers after.memory
      (length arguments)
      (o.locals - fn.parameters)
      (arrived_small after.cpu well_formed_after.count well_formed_after.small)
      (locals_small after.cpu.registers well_formed_after.count well_formed_after.small)
      inside.bytes

  -- ---- memory

  protection_same : (a : ℕ) → after.memory.protection a ≡ s.memory.protection a
  protection_same a = ap (λ (g : ℕ → Protection). g a) keeps.protection

  image_kept : KeepsImage program.globals s.memory after.memory
  image_kept = record {
    byte = λ a l u own. inside.same a own (inr (inl (omega arith)));
    protection = λ a l u own. protection_same a;
  }

  memory : IsMachineMemory t fs program p q after.memory store.memory
  memory = memory_stays t fs program p q image s.memory after.memory store.memory store.memory
      image_kept
      inside.bytes protection_same inside.agrees h.memory

  -- ---- the frame

  slots_fit : (leaf : Bool) → HasPlan leaf → (layout.locals + 8 * o.locals ≤ slots_end layout leaf)
      × (inside.sp + slots_end layout leaf ≤ STACK_END)
  slots_fit true l = let e = l.frame in let a = l.locals in let k = l.temporaries in
      let n = l.few in let z = inside.place in let hi = h.high in (omega arith, omega arith)
  slots_fit false l = let a = l.locals in let w = l.within in let z = inside.place in let hi =
      h.high in
      (omega arith, omega arith)

  at_home : (leaf : Bool) → HasPlan leaf → leaf ≡ true → inside.sp + home_end ≤ STACK_END
  at_home true l e = let k = l.frame in let z = inside.place in let hi = h.high in omega arith
  at_home false l e = absurd (let no : false ≡ true = e in cc)

  sp_low : STACK_START ≤ inside.sp
  sp_low = let z = h.low in let e = inside.place in
      let n = frame_small (p.leaf (FunctionBody f)) planned in omega arith

  argument_there : (i v : ℕ) → slice_get arguments i ≡ Some v
      → number_placed layout inside.sp (arrived_in after.cpu) registers after.memory i
      (place_of layout i) ≡ v
  argument_there i v e =
      let lt = slice_get_within arguments i v e in
      let n = counted in
      inside.locals i (omega arith) ∙ same i v e

  abbrev HasNumbers : ℕ → Type 0
  HasNumbers sp = HoldsPlaces after.memory (now_of (p.leaf (FunctionBody f)) after.cpu)
      (p.register (FunctionBody f)) 0 (sp + layout.locals)
      (sp + slots_end layout (p.leaf (FunctionBody f))) (arguments ++ others)

  numbers : HasNumbers inside.sp
  numbers =
      let r = slots_fit (p.leaf (FunctionBody f)) planned in
      let r0 = r.0 in
      let r1 = r.1 in
      let n = counted in
      let lo = sp_low in
      let fits = h.fits in
      arguments_then_places (setting_of t fs program p q image) f o there inside.sp
      (inside.sp + slots_end layout (p.leaf (FunctionBody f))) after.cpu after.memory arguments
      (o.locals - fn.parameters) (omega arith) argument_there
      (λ a v l u e. word_of after.memory a v (omega arith)
      (λ x g z. may_read_written after.memory x (memory.stack x (omega arith) (omega arith))) e)

  -- ---- the list

  -- from the return address up the stack is as it was, and so is the code
  keeps_above : KeepsStack s.memory after.memory (top + 8)
  keeps_above = record {
    bytes = λ a l u. (let z = h.low in inside.same a
        (stack_is_hidden program.globals a (omega arith) (omega arith))
        (inr (inr (omega arith))));
    protection = λ a l u. protection_same a;
    code = λ a e. (code_same a (may_write s.memory a) refl e, protection_same a);
    no_more_code = λ a e. ap (λ (x : Protection). x.execute) (protection_same a) ∙ e;
  }
    where
      code_same : (a : ℕ) (b : Bool) → may_write s.memory a ≡ b
          → (s.memory.protection a).execute ≡ true → after.memory.byte a ≡ s.memory.byte a
      code_same a true w e = absurd (let no : true ≡ false = sym e
          ∙ h.memory.data_alone.no_code a w in cc)
      code_same a false w e = subst (λ (x : State). (a : ℕ) → may_write x.memory a ≡ false
          → after.memory.byte a ≡ x.memory.byte a) (sym first_is) keeps.fixed a w

  on_there : On t fs program p after.memory (context_below back (top + 8) kept) is items acts
  on_there = record {
    is_there = kept_by_other_memories t fs program p s.memory after.memory
        (context_below back (top + 8) kept) is items acts keeps_above
        (let z = h.low in omega arith)
        (subst (λ (x : State). IsLinkedStack t fs program p s.memory
        (context_below back (top + 8) (others_of x.cpu.registers)) is items acts) first_is
        on.is_there);
    data_alone = memory.data_alone;
  }

  -- ---- all of it

  pub begins : RepresentsAt t fs program p q after
      (begun f (arguments ++ others) held items store store.activations es)
  begins =
      let e = inside.place in
      let stack = inside.stack in
      let up : top + 8 ≡ register after.cpu Rsp + layout.frame + 8 = omega arith in
      subst (λ (xs : List (List ℕ)). RepresentsAt t fs program p q after
      (begun f (arguments ++ others) held items store xs es)) (sym stored)
      (function_begins t fs program p q image after store f o there items acts held es
      (arguments ++ others) well_formed_after memory inside.rip some
      (subst (λ x. HasSpace x below_end (suc (length acts) + held)) (sym stack)
      (depth inside.sp inside.place)) above
      (λ leaf. subst (λ x. x + home_end ≤ STACK_END) (sym stack)
      (at_home (p.leaf (FunctionBody f)) planned leaf))
      back returns kept refl small_there frame_there
      (subst HasNumbers (sym stack) numbers)
      is (subst (λ x. On t fs program p after.memory (context_below back x kept) is items acts) up
      on_there))

  pub started : FunctionStarts t fs program p q s f fn arguments held items store es
  started = record {
    others = others;
    as_many = counted_others;
    small = small_others;
    turns = inside.turns;
    few = soon;
    state = after;
    comes = comes;
    begins = begins;
  }
