-- A funclet's frame is where it was made: below the return address that the funclet was given, on
-- the list that was there.
use Rattle.std.proofs.Common.{◌≡◌, ℕ, ◌+◌, ◌^◌, ◌<◌, ◌≤◌, true, false, Option, Some, None, Ok, List, [], ◌∷◌, length, refl, sym, ap, subst, ◌∙◌, arith, inl, inr}
use Rattle.std.specs.Prelude.{◌⊎◌, slice_get}
use Rattle.std.specs.List.{AllByRecursion}
use Rattle.std.proofs.lemmas.Bool.{cases_lt}
use Rattle.match_turns.specs.Words.{STACK_START, STACK_END, Event, Protection, is_writable, Memory, may_write, number_at, Rcx, Rdx, Rsp, context_of, get, State, register, Functions, Funclet, Exception, is_hidden, Region, LinearProgram, LinearFunclet, BodyName, FuncletBody, body_of, funclet_body, Frame, Item, Store, Configuration, holds, regions_of, Layout, StackItem, context_below, ImagePlan, InCode, IsFunclet, Activation, locals_of, IsActivation, HasActivation, HoldsWords, HasSpace, below_end, HasPointers, FuncletIsAbove, BodyWaits, ReturnsTo, Reaches, KeepsStack, On, IsWellFormed, Arrives, IsFuncletPlan, slots_end, last_temporary, Setting, InBody, IsMachineMemory, RepresentsAt, now_of, host_list}
use Rattle.virtual_unwind.specs.Undone.{word}
use Rattle.match_bodies.specs.Bodies as bodies
use Rattle.match_bodies.specs.ProgramImages.{frame_of}
use Rattle.match_turns.proofs.Lemmas.{others_of, small_others, Within, kept_by_other_memories, word_of, may_read_written, stack_is_hidden, program_stays}

pub same_regions : (rs : List Region) (label : ℕ)
    → AllByRecursion (λ (r : Region). holds label r ≡ holds label r) rs
same_regions [] label = tt
same_regions (r ∷ rs) label = (refl, same_regions rs label)

pub nothing_landed : (x : ℕ) → ◌≡◌ {A = Option ℕ} None (Some x) → ⊥
nothing_landed x e = cc

pub apart : true ≡ false → ⊥
apart z = cc

-- memory that differs within a part of the stack alone
module _ (setting : Setting) (m m' source : Memory) (lo hi : ℕ)
    (w : Within lo hi m m') (low : STACK_START ≤ lo) (high : hi ≤ STACK_END)
    (memory : IsMachineMemory setting m source) where
  open setting use {functions as t, funclets as fs, program, plan as p, sites as q, image}

  same_protection : (a : ℕ) → m'.protection a ≡ m.protection a
  same_protection a = ap (λ (f : ℕ → Protection). f a) w.protection

  outside : (a : ℕ) → is_hidden program.globals a ≡ false → (a < lo) ⊎ (hi ≤ a)
  outside a r = elim (cases_lt a lo) [
    | inl lt ↦ inl lt
    | inr le ↦ elim (cases_lt a hi) [
      | inl lt ↦ let x : true ≡ false = sym (stack_is_hidden program.globals a (omega arith)
          (omega arith)) ∙ r in absurd cc
      | inr ge ↦ inr ge
    ]
  ]

  outside_code : (a : ℕ) → (m.protection a).execute ≡ true → (a < lo) ⊎ (hi ≤ a)
  outside_code a e = elim (cases_lt a lo) [
    | inl lt ↦ inl lt
    | inr le ↦ elim (cases_lt a hi) [
      | inl lt ↦ let x : true ≡ false = sym e
          ∙ memory.data_alone.no_code a (memory.stack a (omega arith) (omega arith)) in absurd cc
      | inr ge ↦ inr ge
    ]
  ]

  no_more : (a : ℕ) → (m.protection a).execute ≡ false → (m'.protection a).execute ≡ false
  no_more a e = ap (λ (x : Protection). x.execute) (same_protection a) ∙ e

  pub stack_writable : (a : ℕ) → STACK_START ≤ a → a < STACK_END → may_write m' a ≡ true
  stack_writable a l h = ap (λ (x : Protection). is_writable x.rights) (same_protection a)
      ∙ memory.stack a l h

  pub memory_stays : IsMachineMemory setting m' source
  memory_stays = record {
    data_alone = record {
      bytes = w.bytes memory.data_alone.bytes;
      no_code = λ a e. no_more a (memory.data_alone.no_code a
          (ap (λ (x : Protection). is_writable x.rights) (sym (same_protection a)) ∙ e));
    };
    agrees = record {
      byte = λ a r. w.byte a (outside a r) ∙ memory.agrees.byte a r;
      protection = λ a r. same_protection a ∙ memory.agrees.protection a r;
      guard = memory.agrees.guard;
      pointer = memory.agrees.pointer;
    };
    stack = stack_writable;
    arena = λ a e. no_more a (memory.arena a e);
    code = program_stays t fs program p q image m m'
        (record {
          byte = λ a l h own. w.byte a (inr (omega arith));
          protection = λ a l h own. same_protection a;
        }) memory.code;
  }

  pub stack_stays : KeepsStack m m' hi
  stack_stays = record {
    bytes = λ x from h. w.byte x (inr from);
    protection = λ x from h. same_protection x;
    code = λ x e. (w.byte x (outside_code x e), same_protection x);
    no_more_code = no_more;
  }

  -- a word within
  pub word_within : (at v : ℕ) → lo ≤ at → at + 8 ≤ hi → number_at m'.byte 8 at ≡ v
      → word m' at ≡ Ok v
  word_within at v l h e = word_of m' at v (omega arith)
      (λ a x z. may_read_written m' a (stack_writable a (omega arith) (omega arith))) e

-- a funclet is called, by the dispatcher or by a body: below its return address is the list
pub record ArrivesBelow (t : Functions) (fs : List Funclet) (program : LinearProgram)
    (p : ImagePlan) (s : State) (k activation first : ℕ) (items : List Item)
    (acts : List Activation) : Type 0 where
  pub rip : s.cpu.rip ≡ p.funclet k
  pub name : BodyName
  pub funclet : IsFunclet t fs program p name k
  pub argument : register s.cpu Rcx ≡ first
  pub reaches : Reaches t fs program p s.memory name (register s.cpu Rdx) activation acts
  pub at : ℕ
  pub stack : register s.cpu Rsp + 8 ≡ at
  pub at_small : at < 2 ^ 64
  pub back : ℕ
  pub returns : word s.memory (register s.cpu Rsp) ≡ Ok back
  pub returns_to : ReturnsTo t fs program p items back
  pub is : List StackItem
  pub on : On t fs program p s.memory (context_below back at (others_of s.cpu.registers)) is items
      acts
  pub handlers : List ℕ
  pub well_formed : IsWellFormed handlers s

abbrev pub arrives_below : (t : Functions) (fs : List Funclet) (program : LinearProgram)
    (p : ImagePlan) (s : State) (k activation first : ℕ) (items : List Item)
    (acts : List Activation) (handlers : List ℕ)
    → (a : Arrives t fs program p s k activation first items acts handlers)
    → ReturnsTo t fs program p items a.back → ArrivesBelow t fs program p s k activation first items
    acts
arrives_below t fs program p s k activation first items acts handlers a to = record {
  rip = a.rip;
  name = a.name;
  funclet = a.funclet;
  argument = a.argument;
  reaches = a.reaches;
  at = a.at;
  stack = a.stack;
  at_small = a.at_small;
  back = a.back;
  returns = a.returns;
  returns_to = to;
  is = a.is;
  on = a.on (others_of s.cpu.registers);
  handlers = handlers;
  well_formed = a.well_formed;
}

-- what a funclet's frame is made with
module _ (setting : Setting) where
  open setting use {functions as t, funclets as fs, program, plan as p, image}

  -- a funclet of the program, as its frame is laid out
  pub record IsPlanned (k : ℕ) : Type 0 where
    pub funclet : LinearFunclet
    pub there : slice_get program.funclets k ≡ Some funclet
    pub plan : IsFuncletPlan program p k funclet.body

  abbrev pub funclet_planned : (k : ℕ) (f : LinearFunclet) → slice_get program.funclets k ≡ Some f
      → IsPlanned k
  funclet_planned k f there = record {
    funclet = f;
    there = there;
    plan = image.laid_out (FuncletBody k) f.body (ap funclet_body there);
  }

  -- the state after its frame is made, with the base in its place; RIP is at the first instruction
  pub record HasFrame (s u : State) (k first activation : ℕ) (items : List Item)
      (acts : List Activation) (l : IsPlanned k)
      (a : ArrivesBelow t fs program p s k activation first items acts) : Type 0 where
    pub stack : register s.cpu Rsp ≡ register u.cpu Rsp + (p.layout (FuncletBody k)).frame
    pub low : STACK_START ≤ register u.cpu Rsp
    pub within : Within (register u.cpu Rsp) (register u.cpu Rsp + (p.layout (FuncletBody k)).frame)
        s.memory u.memory
    pub number : number_at u.memory.byte 8 (register u.cpu Rsp + l.plan.layout.slot)
        ≡ a.reaches.base
    pub distance : IsActivation acts activation a.reaches.base (p.layout (FuncletBody k)).locals
        (p.register (FuncletBody k))
    pub frame : bodies.HasFrame u (p.leaf (FuncletBody k))
        (frame_of p (FuncletBody k) a.back (others_of s.cpu.registers))
    pub rip : u.cpu.rip ≡ p.address (FuncletBody k) 0
    pub well_formed : IsWellFormed a.handlers u

  abbrev pub first_frame : ℕ → ℕ → Exception → ℕ → Frame
  first_frame k activation exception held = record {
    body = FuncletBody k;
    next = 0;
    activation = activation;
    exception = exception;
    held = held;
    temporaries = [];
    landed = None;
  }

  abbrev pub beginning : Frame → List Item → Store → List Event → Configuration
  beginning f items store events = record {
    frame = f;
    below = items;
    store = store;
    events = events;
  }

  module _ (s u : State) (k first activation : ℕ) (items : List Item) (acts : List Activation)
      (l : IsPlanned k) (a : ArrivesBelow t fs program p s k activation first items acts)
      (h : HasFrame s u k first activation items acts l a)
      (exception : Exception) (held : ℕ) (store : Store) (events : List Event)
      (memory : IsMachineMemory setting s.memory store.memory)
      (stored : store.activations ≡ locals_of acts) (listed : a.handlers ≡ host_list p store)
      (top : a.at ≤ STACK_END)
      (some : 0 < length l.funclet.body.code)
      (space : HasSpace (register u.cpu Rsp) below_end (length acts + held))
      (above : FuncletIsAbove t fs program p k (first_frame k activation exception held)
      (Some l.funclet) items)
      (pointers : HasPointers t fs program p u.memory (p.layout (FuncletBody k))
      (register u.cpu Rsp) (p.layout (FuncletBody k)).frame items) where
    abbrev pub y : Layout
    y = p.layout (FuncletBody k)

    abbrev pub sp : ℕ
    sp = register u.cpu Rsp

    abbrev pub is : body_of program (FuncletBody k) ≡ Some l.funclet.body
    is = ap funclet_body l.there

    pub high : sp + y.frame + 8 ≤ STACK_END
    high = let e = h.stack in let f = a.stack in let g = top in omega arith

    keeps : KeepsStack s.memory u.memory (sp + y.frame + 8)
    keeps =
        let e = high in
        let z = stack_stays setting s.memory u.memory store.memory sp (sp + y.frame)
        h.within h.low (omega arith) memory in
        record {
          bytes = λ x from to. z.bytes x (omega arith) to;
          protection = z.protection;
          code = z.code;
          no_more_code = z.no_more_code;
        }

    at_is : a.at ≡ sp + y.frame + 8
    at_is = let e = h.stack in let f = a.stack in omega arith

    pub list : On t fs program p u.memory (context_below a.back (sp + y.frame + 8)
        (others_of s.cpu.registers)) a.is items acts
    list =
        let e = high in
        let lo = h.low in
        let above = context_below a.back (sp + y.frame + 8) (others_of s.cpu.registers) in
        let on : On t fs program p s.memory above a.is items acts =
        subst (λ x. On t fs program p s.memory (context_below a.back x (others_of s.cpu.registers))
        a.is items acts) at_is a.on in
        record {
          is_there = kept_by_other_memories t fs program p s.memory u.memory above a.is items acts
              keeps (omega arith) on.is_there;
          data_alone = (memory_stays setting s.memory u.memory store.memory sp (sp + y.frame)
              h.within h.low (omega arith) memory).data_alone;
        }

    pub in_code : InCode p (FuncletBody k) 0 u.cpu.rip
    in_code = let g = (image.addresses (FuncletBody k) l.funclet.body is).rises 0 some in
        let r = h.rip in record { low = omega arith; high = omega arith }

    pub kept_base : HasActivation u.memory (get (context_of u.cpu)) (p.register (FuncletBody k)) y
        sp y.slots activation acts (FuncletBody k)
    kept_base =
        let e = high in
        let i = l.plan.layout.within in
        let z = l.plan.layout.kept in
        let w = l.plan.layout.temporaries in
        record {
          slot = l.plan.layout.slot;
          base = a.reaches.base;
          some = l.plan.layout.base;
          room = omega arith;
          kept = word_within setting s.memory u.memory store.memory sp (sp + y.frame) h.within h.low
              (omega arith) memory (sp + l.plan.layout.slot) a.reaches.base (omega arith)
              (omega arith) h.number;
          activation = h.distance;
        }

    pub no_temporaries : HoldsWords u.memory (sp + y.temporaries) (sp + y.slots) []
    no_temporaries = let w = l.plan.layout.temporaries in omega arith

    abbrev pub slots : BodyWaits t fs program p u.memory (context_of u.cpu)
        (now_of (p.leaf (FuncletBody k)) u.cpu)
        (slots_end y (p.leaf (FuncletBody k))) (last_temporary y (FuncletBody k)
        (p.leaf (FuncletBody k))) (first_frame k activation exception held) acts
    slots = record {
      code = l.funclet.body;
      body = is;
      label = 0;
      instruction = in_code;
      same = same_regions (regions_of (body_of program (FuncletBody k))) 0;
      small = h.well_formed.rip_small;
      activation = subst (λ z. HasActivation u.memory (now_of z u.cpu)
          (p.register (FuncletBody k)) y sp (slots_end y z) activation acts (FuncletBody k))
          (sym l.plan.framed) kept_base;
      temporaries = subst (λ z. HoldsWords u.memory (sp + y.temporaries)
          (sp + last_temporary y (FuncletBody k) z) []) (sym l.plan.framed) no_temporaries;
      space = space;
    }

    abbrev pub in_body : InBody setting u
        (beginning (first_frame k activation exception held) items store events)
    in_body = record {
      acts = acts;
      store = stored;
      slots = slots;
      pointers = pointers;
      above = subst (λ o. FuncletIsAbove t fs program p k (first_frame k activation exception held)
          o items) (sym l.there) above;
      home = λ e. absurd (apart (sym e ∙ l.plan.framed));
      back = a.back;
      returns_to = a.returns_to;
      others = others_of s.cpu.registers;
      eight = refl;
      small = small_others s a.well_formed;
      frame = h.frame;
      is = a.is;
      below = list;
    }

    abbrev pub begins : RepresentsAt setting u
        (beginning (first_frame k activation exception held) items store events)
    begins = record {
      rip = h.rip;
      well_formed = subst (λ hs. IsWellFormed hs u) listed h.well_formed;
      memory = (let e = high in memory_stays setting s.memory u.memory store.memory sp
          (sp + y.frame) h.within h.low (omega arith) memory);
      body = in_body;
      landed = λ code e. absurd (nothing_landed code e);
    }
