-- Each turn of a call of a built-in function, up to its service, keeps the shadow.
use Rattle.std.proofs.Common.{◌≡◌, ℕ, ◌+◌, ◌-◌, Option, Some, List, [], ◌∷◌, ◌++◌, refl, ap, ◌∙◌, arith, inl}
use Rattle.std.specs.Prelude.{slice_get}
use Rattle.match_turns.specs.Words.{Rsp, Flags, Instr, opcode_register, State, register, BuiltIn, Temporary, LinearBody, Configuration, instruction_in, Layout, size, sizes, put_back, keep, temporary_at, IsNear, call, return_at, clear_result, AllKeep, HaveRoom, MachineView, machine, CallsBuiltIn, Setting, IsResumed, RepresentsAt, arguments_code}
use Rattle.x64_templates.specs.Runs.{Reaches}
use Rattle.linear_code.specs.declared.instruction.Instruction.TheVariants as instructions
use Rattle.match_turns.proofs.Services.BuiltInThunks.{called_found}
use Rattle.match_turns.proofs.Services.BuiltInRun.{thunk_turns}
use Rattle.match_turns.proofs.VectoredHandlers.StubTurns.{turns_keep}
use Rattle.match_turns.proofs.Lemmas.{sizes_append, call_size, others_of, StepsTo, reaches_steps, keeps_split, AllPlain, arguments_plain, calls_keep, CalleeBegins, callee_begins, IsCounted, sp_low, room_here, has_slots}
use Rattle.match_turns.proofs.Calls.ReturnAddressPlace.{top_of, begins_beneath}

clear_size : size clear_result ≡ 5
unfolding size opcode_register
clear_size = refl

module _ (setting : Setting) (roomy : HaveRoom setting.program) where
  open setting use {functions as t, funclets as fs, program, plan as p, sites as q, image}

  -- the program calls it
  abbrev pub calls_it : (s : State) (c : Configuration) (b : RepresentsAt setting s c)
      (f : BuiltIn) (first : ℕ)
      → slice_get b.body.slots.code.code c.frame.next ≡ Some (instructions.CallBuiltIn f first)
      → CallsBuiltIn program f
  calls_it s c b f first at = record {
    name = c.frame.body;
    label = c.frame.next;
    first = first;
    calls = ap (λ (o : Option LinearBody). instruction_in o c.frame.next) b.body.slots.body ∙ at;
  }

  module _ (s : State) (c : Configuration) (b : RepresentsAt setting s c)
      (counted : IsCounted setting c) (f : BuiltIn) (first : ℕ)
      (at : slice_get b.body.slots.code.code c.frame.next ≡ Some (instructions.CallBuiltIn f first))
      (v : MachineView) (g : Flags) (run : Reaches 6 s (machine v (q.thunk f) g))
      (near : IsNear (return_at (p.layout c.frame.body) first
      (p.address c.frame.body c.frame.next + 5)) (q.thunk f)) where
    abbrev called_here : CallsBuiltIn program f
    called_here = calls_it s c b f first at

    abbrev y : Layout
    y = p.layout c.frame.body

    abbrev place : ℕ
    place = p.address c.frame.body c.frame.next

    abbrev next : ℕ
    next = return_at y first (place + 5)

    abbrev before : List Instr
    before = clear_result ∷ arguments_code y first

    abbrev after : List Instr
    after = keep y (Temporary first)

    abbrev call_it : Instr
    call_it = call next (q.thunk f)

    next_is : place + sizes before + 5 ≡ next
    next_is = let n = clear_size in omega arith

    resumed : IsResumed setting c.frame.body b.body.slots.code c.frame.next next
    resumed = record {
      instruction = instructions.CallBuiltIn f first;
      there = at;
      continues = λ h. h;
      done = clear_result ∷ (arguments_code y first ++ (call_it ∷ []));
      item = put_back Rsp (temporary_at y first);
      left = [];
      parts = refl;
      here = let n = clear_size in let k = call_size next (q.thunk f) in
          omega (arith, sizes_append (arguments_code y first) (call_it ∷ []));
    }

    plain : AllPlain y.slots y.frame 8 before
    plain =
        let room = (room_here setting s c b counted).temporaries in
        let few = has_slots setting roomy s c b counted
        (instructions.CallBuiltIn f first) at in
        ((refl, inl refl), arguments_plain y.slots y.frame 8 y first (omega arith))

    -- at its stub or thunk
    abbrev u : State
    u = machine v (q.thunk f) g

    steps : StepsTo 6 s u
    steps = reaches_steps 6 s u run

    abbrev sp : ℕ
    sp = register s.cpu Rsp

    called : CalleeBegins setting c.frame.body b.body.slots.code b.body.slots.body c.frame.next
        (instructions.CallBuiltIn f first) at (λ h. h) before after next (q.thunk f) refl next_is
        near c.frame.next resumed (λ m. called_found setting f m called_here) s u
        (top_of setting s c b counted) b.body.back b.body.others b.body.is b.rip
        (begins_beneath setting s c b counted) refl
        (let l = sp_low setting s c b counted in omega arith) b.memory.code plain steps sp
    called =
        callee_begins setting c.frame.body b.body.slots.code b.body.slots.body c.frame.next
        (instructions.CallBuiltIn f first) at (λ h. h) before after next (q.thunk f) refl next_is
        near c.frame.next resumed (λ m. called_found setting f m called_here) s u
        (top_of setting s c b counted) b.body.back b.body.others b.body.is b.rip
        (begins_beneath setting s c b counted) refl
        (let l = sp_low setting s c b counted in omega arith) b.memory.code plain steps sp
        (omega arith) (omega arith)

    pub built_in_keeps : AllKeep t fs (6 + thunk_turns f) s
    built_in_keeps =
        keeps_split t fs 6 (thunk_turns f) s u steps
        (calls_keep setting c.frame.body b.body.slots.code b.body.slots.body c.frame.next
        (instructions.CallBuiltIn f first) at (λ h. h) before after next (q.thunk f) refl next_is
        near c.frame.next resumed (λ m. called_found setting f m called_here) s u
        (top_of setting s c b counted) b.body.back b.body.others b.body.is b.rip
        (begins_beneath setting s c b counted) refl
        (let l = sp_low setting s c b counted in omega arith) b.memory.code plain steps)
        (turns_keep setting v g (sp - 8) sp next (others_of s.cpu.registers)
        (called.item ∷ b.body.is) f called_here (called.program_there.built_in f called_here)
        called.beneath_it)
