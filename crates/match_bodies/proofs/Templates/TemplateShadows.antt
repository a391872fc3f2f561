-- The walk from a body that runs gives its caller and those of the list below, also where a
-- template's run has come; so each turn of that run keeps the shadow.
use Rattle.std.proofs.Common.{◌≡◌, ℕ, ◌+◌, ◌^◌, ◌<◌, ◌≤◌, true, Some, List, [], ◌∷◌, ◌++◌, length, get_or, refl, sym, ap, subst, ◌∙◌, arith, append_assoc, length-append}
use Rattle.std.specs.Prelude.{slice_get, slice_index}
use Rattle.std.proofs.lemmas.List.{append-nil}
use Rattle.match_bodies.specs.Words.{Memory, Rsp, Instr, Context, context_of, kept_of, State, register, Instruction, BodyState, LinearBody, FuncletBody, Configuration, is_hidden, Layout, sizes, template, Agrees, IsBytes, Reaches, IsReturn, WalkGives, AllKeep, links_of, FindsOwed, Owed, owed_of, counts_of, state_of, OwnerHasFrame, Setting, RepresentsAt, MachineView, OtherRegisters, local_registers, other_registers, registers_of, FrameHolds, frame_at, arrived_in, GivesCallers, state}
use Rattle.match_bodies.proofs.Lemmas.{IsFlow, LabelsNear}
use Rattle.match_bodies.proofs.Places.LabelPlaces.{labels_near}
use Rattle.x64_templates.proofs.Bodies.{holds_same, changes_same}
use Rattle.match_bodies.proofs.Walks.StackWalks.{callers, on_stack, keep_then}
use Rattle.match_bodies.proofs.Walks.SilentTurns.{program_kept}
use Rattle.match_bodies.proofs.Walks.BodyCallers.{begin_finds}
use Rattle.match_bodies.proofs.Keeping.FlowKeeping.{caller_by, IsBelow, from_state}
use Rattle.match_bodies.proofs.Templates.TemplatePieces.{piece_finds, piece_keeps}
use Rattle.match_bodies.proofs.Steps.BodyFrames.{body_owed, frame_owed}
use Rattle.match_bodies.proofs.Places.LocalRegisters.{kept_same, registers_kept}
use Rattle.match_bodies.proofs.Places.LocalPlaces.{leaves_same}
use Rattle.match_bodies.proofs.Walks.OwedCallers.{owed_with}
use Rattle.match_bodies.proofs.Places.HomeSpace.{CallerHasFrame}
use Rattle.match_bodies.proofs.Keeping.ChainKeeping.{Keeps}
use Rattle.match_bodies.proofs.Steps.BodyViews.{IsCounted, placed, count, frame_top, room_here, holds_here, slots_here, locals_here}
use Rattle.match_bodies.proofs.Places.NextSlots.{Ran, frame_after}
use Rattle.match_bodies.proofs.Steps.NextInstruction.{new_on}

some_length : (code : List Instr) → 1 ≤ length code
    → (item : Instr) × (left : List Instr) × (code ≡ item ∷ left)
some_length [] le = absurd (omega arith)
some_length (i ∷ is) le = (i, is, refl)

-- RAX, RCX and RDX are none of the registers that a caller relies on
pub kept_by_view : (v : MachineView) (xs : List ℕ) → v.rest ≡ other_registers xs
    → v.locals ≡ local_registers xs → kept_of (registers_of v) ≡ kept_of xs
kept_by_view v xs e d = kept_same xs (registers_of v) e d

module _ (setting : Setting) (s : State) (c : Configuration)
    (b : RepresentsAt setting s c) (counted : IsCounted setting c) where
  open setting use {functions as t, funclets as fs, program, plan as p, sites as q, image}

  abbrev code_here : LinearBody
  code_here = b.body.slots.code

  abbrev layout_here : Layout
  layout_here = p.layout c.frame.body

  abbrev pub kept_here : List ℕ
  kept_here = kept_of s.cpu.registers

  -- what the body's caller continues with, and the callers beyond it
  abbrev pub caller_here : Context
  caller_here = caller_by kept_here layout_here.frame b.body.back b.body.others

  abbrev pub beyond_here : List Context
  beyond_here = callers caller_here b.body.is

  -- the codes of its frame
  abbrev pub owed_here : Owed
  owed_here = owed_of p c.frame.body

  -- with these nonvolatile registers
  abbrev pub Below : List ℕ → Memory → Type 0
  Below kept m = IsBelow t fs program p q owed_here m kept layout_here.frame b.body.back
      b.body.others beyond_here

  enough : get_or kept_here 0 0 + layout_here.frame + 8 < 2 ^ 64
  enough = let h = frame_top setting s c b counted in omega arith

  pub is_here : Below kept_here s.memory
  is_here = record {
    program_there = b.memory.code;
    owed = λ rip. owed_with s.memory (context_of s.cpu) (record { rip = rip; kept = kept_here })
        owed_here layout_here.frame b.body.back b.body.others refl
        (body_owed setting s c b.body (let e = enough in omega arith));
    beyond = on_stack t s.memory caller_here 0 b.body.is b.body.below.is_there.stack;
  }

  -- after a run of a template
  pub is_after : (u : State) (d : BodyState) (values ts : List ℕ)
      → Ran setting s c b counted u d values ts
      → (p.leaf c.frame.body ≡ true → CallerHasFrame p c.below)
      → ((k : ℕ) → c.frame.body ≡ FuncletBody k
      → OwnerHasFrame t fs program p c.frame.activation c.below b.body.acts)
      → Below (kept_of u.cpu.registers) u.memory
  is_after u d values ts r caller owner = record {
    program_there = program_kept t fs program p q s.memory u.memory
        (record { protection = r.changed.keeps.protection; fixed = r.changed.keeps.fixed })
        b.memory.code;
    owed = λ rip.
        (let e = enough in
        owed_with u.memory (context_of u.cpu)
        (record { rip = rip; kept = kept_of u.cpu.registers }) owed_here layout_here.frame
        b.body.back b.body.others refl
        (frame_owed setting c.frame.body code_here b.body.slots.body u b.body.back b.body.others
        b.body.eight
        (let z : register u.cpu Rsp + layout_here.frame + 8 < 2 ^ 64 = omega (arith, up) in z)
        (frame_after setting s c b counted u d values ts r)));
    beyond = subst (λ n. let x : Context = record {
      rip = b.body.back;
      kept = (n + layout_here.frame + 8) ∷ b.body.others;
    } in GivesCallers t u.memory (state x 0) beyond_here) (sym up)
        (on_stack t u.memory caller_here 0 b.body.is
        (new_on setting s c b counted u d values ts r caller owner).is_there.stack);
  }
    where
      up : register u.cpu Rsp ≡ register s.cpu Rsp
      up = ap (λ (o : OtherRegisters). o.rsp) r.kept.rest

  -- where no reserved byte has changed the slots are as they were
  pub ran_same : (u : State) (source : Memory) → Keeps s u
      → ((a : ℕ) → is_hidden program.globals a ≡ true → u.memory.byte a ≡ s.memory.byte a)
      → (IsBytes s.memory → IsBytes u.memory) → Agrees (is_hidden program.globals) u.memory source
      → other_registers u.cpu.registers ≡ other_registers s.cpu.registers
      → local_registers u.cpu.registers ≡ local_registers s.cpu.registers
      → Ran setting s c b counted u (record {
        slots = (state_of program p s c
            (placed setting s c b counted).base).slots;
        memory = source;
      })
      (placed setting s c b counted).values []
  ran_same u source keeps own bytes agrees rest locals =
      let base = (placed setting s c b counted).base in
      let room = room_here setting s c b counted in
      let w = slots_here setting s c b counted in
      record {
        changed = record {
          changes = changes_same layout_here (counts_of code_here)
              (is_hidden program.globals) (register s.cpu Rsp) base (arrived_in s.cpu) room
              s.memory u.memory own
              keeps.protection bytes;
          keeps = keeps;
        };
        holds = subst (λ l. FrameHolds (frame_at program p c.frame.body code_here
            (register s.cpu Rsp) base (arrived_in s.cpu)) l u.memory (record {
              slots = (state_of program p s c base).slots;
              memory = source;
            })) (sym locals)
            (holds_same layout_here (counts_of code_here) (is_hidden program.globals)
            (register s.cpu Rsp) base (arrived_in s.cpu) room (local_registers s.cpu.registers)
            s.memory u.memory source (state_of program p s c base) own keeps.protection agrees
            (holds_here setting s c b counted));
        kept = registers_kept layout_here s.cpu.registers u.cpu.registers rest locals;
        leaves = record {
          count = count setting s c b counted;
          locals = λ i lt reached. w.locals i lt reached ∙ ap (λ xs. slice_index xs i)
              (locals_here setting s c b counted);
          others = λ k e. leaves_same (p.register c.frame.body) 0
              (placed setting s c b counted).values;
          few = omega arith;
          temporaries = λ i v e. cc;
        };
      }

  -- ---- runs of the template, from its begin or from within

  -- where the walk finds the return address: RSP is as it was, and the frame is as its codes tell
  pub record Ends (u : State) : Type 0 where
    pub stack : register u.cpu Rsp ≡ register s.cpu Rsp
    pub is_there : Below (kept_of u.cpu.registers) u.memory
    pub finds : FindsOwed t u.memory u.cpu.rip owed_here

  -- at an instruction of the body
  pub ends_at : (u : State) (label : ℕ) → u.cpu.rip ≡ p.address c.frame.body label
      → label < length code_here.code → register u.cpu Rsp ≡ register s.cpu Rsp
      → Below (kept_of u.cpu.registers) u.memory → Ends u
  ends_at u label rip lt stack is_there = record {
    stack = stack;
    is_there = is_there;
    finds = subst (λ a. FindsOwed t u.memory a owed_here) (sym rip)
        (begin_finds t fs program p q image u.memory c.frame.body code_here label b.body.slots.body
        is_there.program_there lt);
  }

  -- there the walk gives these callers
  pub ends_gives : (u : State) → Ends u → WalkGives t u (caller_here ∷ beyond_here)
  ends_gives u e = subst (λ n. let x : Context = record {
    rip = b.body.back;
    kept = (n + layout_here.frame + 8) ∷ b.body.others;
  } in WalkGives t u (x ∷ beyond_here)) e.stack
      (from_state t fs program p q owed_here u (kept_of u.cpu.registers) layout_here.frame
      b.body.back b.body.others beyond_here e.finds refl e.is_there)

  -- each turn of a run that ends so keeps the shadow
  abbrev pub RunsKeep : ℕ → State → Type 0
  RunsKeep n x = (u : State) → Reaches n x u → Ends u → AllKeep t fs n x

  module _ (i : Instruction) (at : slice_get code_here.code c.frame.next ≡ Some i)
      (goes : IsReturn i → ⊥) where
    abbrev pub whole : List Instr
    whole = template (links_of p q c.frame.body) layout_here (p.address c.frame.body c.frame.next) i

    -- past some of its instructions
    pub record IsPast (before : List Instr) (x : State) : Type 0 where
      pub rip : x.cpu.rip ≡ p.address c.frame.body c.frame.next + sizes before
      pub registers : kept_of x.cpu.registers ≡ kept_here
      pub is_there : Below kept_here x.memory

    pub past_none : IsPast [] s
    past_none = let e = b.rip in record { rip = omega arith; registers = refl; is_there = is_here }

    -- the rest of the template
    pub one_piece : (before code : List Instr) (x : State) → whole ≡ before ++ code → IsFlow code
        → IsPast before x → RunsKeep (length code) x
    one_piece before code x parts flow past u r ends =
        piece_keeps setting c.frame.body code_here c.frame.next i b.body.slots.body at goes before
        code [] (parts ∙ ap (λ (xs : List Instr). before ++ xs) (sym (append-nil code))) x u
        kept_here b.body.back b.body.others beyond_here flow r past.rip past.registers
        ends.stack enough past.is_there ends.is_there ends.finds

    -- where another instruction of the template is left, the walk finds the return address
    pub past_ends : (before left : List Instr) (x : State) → whole ≡ before ++ left
        → 1 ≤ length left → IsPast before x → Ends x
    past_ends before left x parts some past =
        let z = some_length left some in
        let begin = p.address c.frame.body c.frame.next + sizes before in
        let none : begin + sizes [] ≡ begin = omega arith in
        let parts_after : whole ≡ before ++ (left ++ []) = parts
        ∙ ap (λ (xs : List Instr). before ++ xs) (sym (append-nil left)) in
        let finds = piece_finds setting c.frame.body code_here c.frame.next i
        b.body.slots.body at goes before left [] parts_after x.memory begin [] z.1 z.0 refl
        past.is_there.program_there z.2 in
        record {
          stack = ap (λ (ks : List ℕ). slice_index ks 0) past.registers;
          is_there = subst (λ (ks : List ℕ). Below ks x.memory) (sym past.registers) past.is_there;
          finds = subst (λ a. FindsOwed t x.memory a owed_here) (none ∙ sym past.rip)
              finds;
        }

    -- a piece before others, up to where they begin
    pub piece_to : (before first second : List Instr) (x mid : State)
        → whole ≡ before ++ (first ++ second) → IsFlow first → 1 ≤ length second → IsPast before x
        → Reaches (length first) x mid → IsPast (before ++ first) mid → AllKeep t fs (length first)
        x
    piece_to before first second x mid parts flow some past comes there =
        let ends = past_ends (before ++ first) second mid
        (parts ∙ sym (append_assoc before first second)) some there in
        piece_keeps setting c.frame.body code_here c.frame.next i b.body.slots.body at goes before
        first second parts x mid kept_here b.body.back b.body.others beyond_here flow comes past.rip
        past.registers ends.stack enough past.is_there ends.is_there ends.finds

    -- and with them, where they do so too
    pub piece_then : (before first second : List Instr) (x mid : State)
        → whole ≡ before ++ (first ++ second) → IsFlow first → 1 ≤ length second → IsPast before x
        → Reaches (length first) x mid → IsPast (before ++ first) mid
        → AllKeep t fs (length second) mid → AllKeep t fs (length (first ++ second)) x
    piece_then before first second x mid parts flow some past comes there rest =
        subst (λ k. AllKeep t fs k x) (sym (length-append first second))
        (keep_then t fs (length first) (length second) x mid comes
        (piece_to before first second x mid parts flow some past comes there) rest)

    -- the labels that it goes to are near
    pub near_here : LabelsNear (links_of p q c.frame.body) layout_here
        (p.address c.frame.body c.frame.next) i
    near_here =
        labels_near setting c.frame.body code_here b.body.slots.body c.frame.next i at
