-- A service returns: its result goes to the temporary of the first argument, and the next
-- instruction begins.
use Rattle.std.proofs.Common.{◌≡◌, ℕ, zero, suc, ◌+◌, ◌-◌, ◌%◌, ◌^◌, ◌<◌, ◌≤◌, false, List, [], ◌∷◌, ◌++◌, length, map, take, set, Option, Some, None, refl, sym, ap, subst, ◌∙◌, arith, true}
use Rattle.std.specs.Prelude.{slice_get}
use Rattle.std.proofs.lemmas.List.{append-nil}
use Rattle.std.proofs.lemmas.Option.{slice_get_within}
use Rattle.match_turns.specs.Words.{Event, Memory, Rsp, Instr, Context, kept_of, State, register, distance, arrivals, Continues, turn, BuiltIn, Temporary, BodyState, with_slot, LinearBody, Configuration, Next, act, sizes, keep, call, return_at, begin_call, clear_result, MachineView, machine, AreSmall, sp_of, with_sp, ReachesBody, locals_of, KeepsAbove, KeepsStack, WalkGives, KeepsShadow, AllKeep, Comes, Moves, HaveRoom, turns_left, counts_of, with_values, OwnerHasFrame, Setting, HasProgram, IsMachineMemory, RepresentsAt, arguments_code, InCode, OtherRegisters, now_of, RegistersHold, leaf_values}
use Rattle.linear_code.specs.declared.instruction.Instruction.TheVariants as instructions
use Rattle.linear_machine.specs.Frames as linear
use Rattle.match_turns.proofs.Services.BuiltInRun.{thunk_turns, few_turns}
use Rattle.match_turns.proofs.Lemmas.{sizes_append, call_size, call_ends, keep_flow, comes_then, silent_here, first_in_code, reaches_silently, program_reaches, locals_count, same_activations, IsCounted, some_is, room_here, holds_here, locals_here, Keeps, reaches_keeps, stays_well_formed, Ran, represents_next, others_of, caller_here, beyond_here, is_here, is_after, ends_at, ends_gives, IsPast, one_piece, past_ends, frame, slots, has_slots, silent_at, Surroundings, one_more, label_small, leaves_stored}
use Rattle.match_bodies.proofs.Steps.BodyViews.{placed}
use Rattle.match_turns.proofs.Services.BuiltInRequest.{clear_size}
use Rattle.match_turns.proofs.Calls.ReturnAddressPush.{keeps_above, sp_there as returned_sp, sp_saved}
use Rattle.match_turns.proofs.Bodies.BodyOtherMemory.{elsewhere, source_elsewhere, represents_elsewhere, same_activations as same_acts}
use Rattle.match_turns.proofs.Services.ServiceCall.{sp, given, back, at_service, flags_there, low, top, next_is, back_small, reaches, comes_there, live_there, returns, code_after}
use Rattle.match_bodies.proofs.Places.LeafRegisters.{framed_hold}
use Rattle.match_turns.proofs.Bodies.BodyWithin.{in_body_at, acts_at}
use Rattle.match_turns.proofs.Services.ServiceShadow.{is_elsewhere, service_keeps}
use Rattle.match_bodies.proofs.Places.ArrivedParameters.{no_arrivals}

-- numbers of 64 bits, with another of 64 bits among them
small_set : (xs : List ℕ) (i v : ℕ) → AreSmall xs → v < 2 ^ 64 → AreSmall (set xs i v)
small_set [] i v h lt = tt
small_set (x ∷ xs) zero v h lt = (lt, h.1)
small_set (x ∷ xs) (suc i) v h lt = (h.0, small_set xs i v h.1 lt)

nothing : (landed : Option ℕ) (code : ℕ) → landed ≡ None → landed ≡ Some code → ⊥
nothing landed code e h = let z : ◌≡◌ {A = Option ℕ} None (Some code) = sym e ∙ h in cc

module _ (setting : Setting) (roomy : HaveRoom setting.program) where
  open setting use {functions as t, funclets as fs, program, plan as p, sites as q, image}

  module _ (s : State) (c : Configuration) (b : RepresentsAt setting s c)
      (counted : IsCounted setting c)
      (around : Surroundings setting roomy s c b counted) (f : BuiltIn) (first : ℕ)
      (at : slice_get b.body.slots.code.code c.frame.next ≡ Some (instructions.CallBuiltIn f first))
      (framed : p.leaf c.frame.body ≡ false)
      (within : c.frame.next + 1 < length b.body.slots.code.code)
      (held : length c.frame.temporaries ≤ b.body.slots.code.temporaries)
      (fits : first ≤ length c.frame.temporaries) (free : c.frame.landed ≡ None) where
    abbrev called_from : ℕ
    called_from = sp setting roomy s c b counted f first at

    abbrev pub with_given : MachineView
    with_given = given setting roomy s c b counted f first at

    abbrev pub to : ℕ
    to = back setting roomy s c b counted f first at

    abbrev pub there : State
    there = at_service setting roomy s c b counted f first at

    -- the memory with the return address
    abbrev pub memory_there : Memory
    memory_there = there.memory

    -- RSP, as the service leaves it
    abbrev pub sp_after : ℕ
    sp_after = (register there.cpu Rsp + 8) % 2 ^ 64 % 2 ^ 64

    -- the state after the service, by its result, the memory that it leaves, and the list of
    -- vectored handlers
    abbrev pub view_after : ℕ → Memory → List ℕ → MachineView
    view_after x m list = record with_given {
      rax = x;
      rest = with_sp with_given.rest sp_after;
      memory = m;
      vectored = list;
    }

    abbrev pub returned_to : ℕ → Memory → List ℕ → State
    returned_to x m list = machine (view_after x m list) to
        (flags_there setting roomy s c b counted f first at)

    -- linear code with the result
    abbrev pub answered : ℕ → Memory → List ℕ → List Event → Configuration
    answered x source handlers events = record {
      frame = record c.frame {
        next = c.frame.next + 1;
        temporaries = take first c.frame.temporaries
            ++ x ∷ [];
      };
      below = c.below;
      store = record c.store { memory = source; vectored = handlers };
      events = events;
    }

    above : KeepsAbove s.memory memory_there.byte called_from
    above = keeps_above with_given called_from to
        (let l = low setting roomy s c b counted f first at in omega arith)
        (top setting roomy s c b counted f first at) b.memory.data_alone b.memory.stack

    sp_is : (x : ℕ) (m : Memory) (list : List ℕ) → sp_of (view_after x m list) ≡ called_from
    sp_is x m list = sp_saved with_given called_from to
        (let l = low setting roomy s c b counted f first at in omega arith)
        (top setting roomy s c b counted f first at) b.memory.data_alone b.memory.stack
        there.cpu.rip there.cpu.flags
        (back_small setting roomy s c b counted f first at)

    module _ (x : ℕ) (x_small : x < 2 ^ 64) (m source : Memory) (list handlers : List ℕ)
        (events : List Event)
        (keeps : KeepsStack memory_there m called_from)
        (memory : IsMachineMemory setting m source) (listed : list ≡ map p.handler handlers) where
      pub keeps_all : KeepsStack s.memory m called_from
      keeps_all = record {
        bytes = λ a l u. keeps.bytes a l u ∙ above.above a l;
        protection = keeps.protection;
        code = λ a e. ((keeps.code a e).0 ∙ above.code a e, (keeps.code a e).1);
        no_more_code = keeps.no_more_code;
      }

      abbrev u : State
      u = returned_to x m list

      -- RSP and the nonvolatile registers are those of the body before the call
      kept_back : kept_of u.cpu.registers ≡ kept_of s.cpu.registers
      kept_back = ap (λ r. r ∷ others_of s.cpu.registers) (sp_is x m list)

      -- the body before the call, in this memory
      abbrev moved : State
      moved = elsewhere setting s c b counted framed m source keeps_all memory list handlers listed

      abbrev pub calling : Configuration
      calling = source_elsewhere setting s c b counted framed m source keeps_all memory list
          handlers listed

      abbrev moved_there : RepresentsAt setting moved calling
      moved_there = represents_elsewhere setting s c b counted framed m source keeps_all memory list
          handlers listed

      -- and with the registers after it
      abbrev pub earlier : State
      earlier = record s {
        cpu = record { registers = u.cpu.registers; rip = s.cpu.rip; flags = s.cpu.flags };
        memory = m;
        vectored = list;
      }

      given_small : AreSmall s.cpu.registers → AreSmall u.cpu.registers
      given_small h =
          let k = (reaches_keeps (6 + thunk_turns f) s there
          (reaches setting roomy s c b counted f first at)).small h in
          small_set (set there.cpu.registers 0 x) 4 sp_after
          (small_set there.cpu.registers 0 x k x_small) (omega arith)

      as_many : length u.cpu.registers ≡ length s.cpu.registers
      as_many = sym b.well_formed.count

      in_code : InCode p c.frame.body c.frame.next s.cpu.rip
      in_code = subst (InCode p c.frame.body c.frame.next) (sym b.rip)
          (first_in_code t fs program p q image c.frame.body b.body.slots.code c.frame.next
          b.body.slots.body (slice_get_within b.body.slots.code.code c.frame.next
          (instructions.CallBuiltIn f first) at))

      hold : RegistersHold (now_of true earlier.cpu) (p.register c.frame.body) 0
          (leaf_values (p.leaf c.frame.body) c.frame.body moved_there.body.acts)
      hold = framed_hold (now_of true earlier.cpu) (p.register c.frame.body) (p.leaf c.frame.body)
          moved_there.body.acts c.frame.body framed

      pub begins : RepresentsAt setting earlier calling
      begins = record {
        rip = b.rip;
        well_formed = stays_well_formed moved earlier (record {
          protection = refl;
          fixed = λ a w. refl;
          count = as_many;
          small = given_small;
          handlers = refl;
        }) b.well_formed.rip_small moved_there.well_formed;
        memory = memory;
        body = in_body_at t fs program p q moved calling earlier.cpu moved_there.body kept_back hold
            in_code b.well_formed.rip_small;
        landed = λ code e. absurd (nothing c.frame.landed code free e);
      }

      acts_are : begins.body.acts ≡ b.body.acts
      unfolding begins
      acts_are = acts_at t fs program p q moved calling earlier.cpu moved_there.body kept_back hold
          in_code b.well_formed.rip_small
          ∙ same_acts setting s c b counted framed m source keeps_all memory list handlers listed

      around_earlier : Surroundings setting roomy earlier calling begins counted
      around_earlier = record {
        caller = around.caller;
        owner = λ k e. subst (OwnerHasFrame t fs program p c.frame.activation c.below)
            (sym acts_are) (around.owner k e);
      }

      abbrev body : LinearBody
      body = begins.body.slots.code

      is_body : b.body.slots.code ≡ body
      is_body = some_is b.body.slots.code body (sym b.body.slots.body ∙ begins.body.slots.body)

      pub at_earlier : slice_get body.code c.frame.next ≡ Some (instructions.CallBuiltIn f first)
      at_earlier = subst (λ (o : LinearBody). slice_get o.code c.frame.next
          ≡ Some (instructions.CallBuiltIn f first)) is_body at

      inside : c.frame.next + 1 < length body.code
      inside = subst (λ (o : LinearBody). c.frame.next + 1 < length o.code) is_body within

      held_earlier : length c.frame.temporaries ≤ body.temporaries
      held_earlier = subst (λ (o : LinearBody). length c.frame.temporaries ≤ o.temporaries) is_body
          held

      abbrev now : BodyState
      now = slots setting roomy earlier calling begins counted

      room_slots : first + 4 ≤ body.temporaries
      room_slots = has_slots setting roomy earlier calling begins counted
          (instructions.CallBuiltIn f first) at_earlier

      abbrev after_code : List Instr
      after_code = keep (p.layout c.frame.body) (Temporary first)

      abbrev pub rip : ℕ
      rip = to + sizes after_code

      abbrev d : BodyState
      d = record { slots = with_slot now.slots (Temporary first) x; memory = source }

      -- the result is kept
      pub run : ReachesBody (frame setting roomy earlier calling begins counted) 1
          (returned_to x m list) rip (view_after x m list).rest (view_after x m list).locals d
      run =
          let r = room_slots in
          call_ends (frame setting roomy earlier calling begins counted) (Temporary first)
          (view_after x m list) to (flags_there setting roomy s c b counted f first at) now
          (room_here setting earlier calling begins counted) (omega arith) tt x_small refl
          (holds_here setting earlier calling begins counted)
          (code_after setting roomy earlier calling begins counted f first at_earlier)

      abbrev pub after : State
      after = machine run.after rip run.flags

      keeps_registers : Keeps earlier after
      keeps_registers =
          let k = reaches_keeps 1 u after run.comes in
          record {
            protection = k.protection;
            fixed = k.fixed;
            count = k.count;
            small = k.small;
            handlers = k.handlers;
          }

      abbrev values : List ℕ
      values = linear.locals_of c.store c.frame.activation

      abbrev ts : List ℕ
      ts = take first c.frame.temporaries ++ x ∷ []

      ran : Ran setting earlier calling begins counted after d values ts
      ran = record {
        changed = record { changes = run.changes; keeps = keeps_registers };
        holds = run.holds;
        kept = record { rest = run.rest; locals = run.locals };
        leaves = (let r = room_slots in leaves_stored setting roomy earlier calling begins counted
            around_earlier (Temporary first) x source held_earlier fits (omega arith) tt);
      }

      rip_is : rip ≡ p.address c.frame.body (c.frame.next + 1)
      rip_is = sym (next_is setting roomy s c b counted f first at)

      rip_small : rip < 2 ^ 64
      rip_small = let n = label_small setting roomy s c b counted around (c.frame.next + 1) within
          in omega (arith, rip_is)

      same_locals : locals_of (with_values begins.body.acts c.frame.activation values) ≡
          c.store.activations
      same_locals =
          let own = placed setting earlier calling begins counted in
          let n = slice_get_within (locals_of begins.body.acts) c.frame.activation own.values
          own.number in
          let k = locals_count begins.body.acts in
          ap (λ vs. locals_of (with_values begins.body.acts c.frame.activation vs))
          (locals_here setting earlier calling begins counted)
          ∙ same_activations begins.body.acts c.frame.activation own.values (omega arith) own.number
          ∙ sym begins.body.store

      pub represents_after : RepresentsAt setting after (answered x source handlers events)
      represents_after =
          subst (λ (xs : List (List ℕ)). let o : Configuration = record {
            frame = record c.frame { next = c.frame.next + 1; temporaries = ts };
            below = c.below;
            store = record c.store { memory = source; vectored = handlers; activations = xs };
            events = events;
          } in RepresentsAt setting after o) same_locals
          (represents_next setting earlier calling begins counted after d values ts ran
          (c.frame.next + 1) c.frame.landed events rip_is inside
          (stays_well_formed earlier after keeps_registers rip_small begins.well_formed)
          (λ code e. absurd (nothing c.frame.landed code free e)) around_earlier.caller
          around_earlier.owner
          (no_arrivals setting c.frame.body b.body.slots.code b.body.slots.body framed earlier.cpu
          after.cpu))

      -- nothing is shown where the service returns to, nor at the next instruction
      pub silent_back : arrivals u.cpu (distance t.base u.cpu.rip) 1 fs ≡ []
      silent_back = silent_here t fs program p q image u run.comes.0 u.cpu run.comes.1 memory.code

      -- up to where the service returns to
      abbrev pub call_code : List Instr
      call_code = clear_result ∷ begin_call (p.layout c.frame.body) first
          (p.address c.frame.body c.frame.next + 5) (q.thunk f)

      back_is : to ≡ p.address c.frame.body c.frame.next + sizes call_code
      back_is =
          let n = clear_size in
          let place = p.address c.frame.body c.frame.next + 5 in
          let back = return_at (p.layout c.frame.body) first place in
          let five = call_size back (q.thunk f) in
          omega (
            arith,
            b.rip,
            sizes_append (arguments_code (p.layout c.frame.body) first)
                (call back (q.thunk f) ∷ []),
          )

      pub past_call : IsPast setting earlier calling begins counted
          (instructions.CallBuiltIn f first) at_earlier (λ h. h) call_code u
      past_call = record {
        rip = back_is;
        registers = refl;
        is_there = is_here setting earlier calling begins counted;
      }

      -- the code that keeps the result keeps the shadow
      keeps_shadow : AllKeep t fs 1 u
      keeps_shadow =
          let r = room_slots in
          let i = instructions.CallBuiltIn f first in
          let room = room_here setting earlier calling begins counted in
          let ends = ends_at setting earlier calling begins counted after
          (c.frame.next + 1) rip_is inside (ap (λ (o : OtherRegisters). o.rsp) run.rest)
          (is_after setting earlier calling begins counted after d values ts ran
          around_earlier.caller around_earlier.owner) in
          one_piece setting earlier calling begins counted i at_earlier (λ h. h) call_code
          after_code u refl
          (keep_flow (p.layout c.frame.body) (counts_of body) (register earlier.cpu Rsp)
          (placed setting earlier calling begins counted).base room (Temporary first) (omega arith))
          past_call after run.comes ends

      -- and so does the service's own turn
      program_there : HasProgram setting memory_there
      program_there = program_reaches t fs program p q (6 + thunk_turns f) s there
          (reaches setting roomy s c b counted f first at) b.memory.code

      keeps_there : KeepsStack s.memory memory_there called_from
      keeps_there = record {
        bytes = λ a l h. above.above a l;
        protection = λ a l h. refl;
        code = λ a e. (above.code a e, refl);
        no_more_code = λ a e. e;
      }

      abbrev caller : Context
      caller = caller_here setting s c b counted

      abbrev callers : List Context
      callers = beyond_here setting s c b counted

      gives_by : (n : Memory) → KeepsStack s.memory n called_from → HasProgram setting n
          → WalkGives t (record u { memory = n }) (caller ∷ callers)
      gives_by n same has =
          let x : State = record u { memory = n } in
          ends_gives setting s c b counted x
          (past_ends setting s c b counted (instructions.CallBuiltIn f first) at (λ h. h) call_code
          after_code x refl (omega arith) (record {
            rip = back_is;
            registers = kept_back;
            is_there = is_elsewhere setting s c b counted n same has;
          }))

      sp_there : register there.cpu Rsp ≡ called_from - 8
      sp_there =
          returned_sp with_given called_from to
          (let l = low setting roomy s c b counted f first at in omega arith)
          (top setting roomy s c b counted f first at) b.memory.data_alone b.memory.stack
          there.cpu.rip there.cpu.flags (back_small setting roomy s c b counted f first at)

      pub keeps_served : KeepsShadow t fs there u
      keeps_served =
          let l = low setting roomy s c b counted f first at in
          let h = top setting roomy s c b counted f first at in
          let z = sp_there in
          let e : register u.cpu Rsp ≡ called_from = sp_is x m list in
          let up : called_from ≡ register there.cpu Rsp + 0 + 8 = omega arith in
          let same = ap (λ (ks : List ℕ). let k : Context = record { rip = to; kept = ks } in k)
          (ap (λ r. r ∷ others_of s.cpu.registers) (e ∙ up)) in
          service_keeps setting f there u to caller callers refl
          (returns setting roomy s c b counted f first at) (omega arith) same
          (gives_by memory_there keeps_there program_there) (gives_by m keeps_all memory.code)
          (omega arith) (omega arith) silent_back

      comes_after : Comes t fs 1 u [] after
      comes_after = reaches_silently t fs program p q image 1 u after run.comes keeps_shadow
          memory.code (silent_at setting roomy earlier calling begins counted (c.frame.next + 1) rip
          rip_is inside rip_small after refl)

      -- a service that shows these events
      pub served : (shown : List Event) → turn t fs there ≡ Continues u shown
          → events ≡ c.events ++ shown → ((next : Next)
          → act program (instructions.CallBuiltIn f first) next c
          ≡ next (answered x source handlers events))
          → Moves t fs program 16 turns_left (RepresentsAt setting) s c (instructions.CallBuiltIn f
          first)
      served shown turns all acts =
          let one : Comes t fs 1 there shown u =
          record {
            live = live_there setting roomy s c b counted f first at;
            state = u;
            first = shown;
            others = [];
            turns = turns;
            shadow = keeps_served;
            whole = sym (append-nil shown);
            rest = (refl, refl);
          } in
          let more = one_more c.frame.temporaries (Temporary first) x fits in
          let few = few_turns f in
          record {
            turns = 6 + thunk_turns f + (1 + 1);
            some = omega arith;
            configuration = answered x source handlers events;
            few = omega arith;
            state = after;
            events = [] ++ (shown ++ []);
            comes = comes_then t fs (6 + thunk_turns f) (1 + 1) s there after [] (shown ++ [])
                (comes_there setting roomy s c b counted f first at)
                (comes_then t fs 1 1 there u after shown [] one comes_after);
            acts = acts;
            shown = all ∙ ap (λ es. c.events ++ es) (sym (append-nil shown));
            is_there = represents_after;
          }
