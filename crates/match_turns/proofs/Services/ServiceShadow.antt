-- A service that has been called returns: its own call is over, and the walk gives the callers of
-- the body again.
use Rattle.std.proofs.Common.{◌≡◌, ℕ, ◌+◌, ◌^◌, ◌<◌, ◌≤◌, List, [], ◌∷◌, Ok, Err, refl, ap, subst, ◌∙◌, arith}
use Rattle.std.specs.Prelude.{Result, if◌then◌else◌}
use Rattle.match_turns.specs.Words.{W64, RefusedAccess, address_of, service_at, in_host_page, Memory, executable, loaded, Rsp, leading, Context, context_of, State, register, hosted, execute, step, rsp, distance, readable, filter_return, finally_return, vectored_return, arrivals, BuiltIn, Put, Protect, RaiseException, Walk, AddVectored, RemoveVectored, Configuration, state, activations_below, KeepsStack, drop_below, served, GivesCallers, WalkGives, KeepsShadow, caller_above, owed_of, host_service_of, Setting, HasProgram, RepresentsAt}
use Rattle.virtual_unwind.specs.Undone.{word}
use Rattle.x64_machine.specs.declared.outcome.Stop.TheVariants as stops
use Rattle.match_turns.proofs.Lemmas.{finds_return, owed_with, frame_owed, frame_stays, kept_here, reads_other, kept_by_other_memories, none_below, one_below, none_started, host_keeps, on_stack, gives_caller, IsCounted, sp_low, frame_top, caller_here, Below}
use Rattle.match_turns.proofs.Bodies.BodyOtherMemory.{higher_stack}

-- at a service of a built-in function the host continues
host_step : (f : BuiltIn) (s : State) → s.cpu.rip ≡ address_of (host_service_of f)
    → step s ≡ Err (stops.Host (address_of (host_service_of f)))
unfolding step
host_step Put s e = ap (λ b. if in_host_page b then Err (hosted b (service_at b)) else execute s
    (leading (executable s.memory 15 s.cpu.rip))) e
host_step Protect s e = ap (λ b. if in_host_page b then Err (hosted b (service_at b)) else execute s
    (leading (executable s.memory 15 s.cpu.rip))) e
host_step RaiseException s e = ap (λ b. if in_host_page b then Err (hosted b (service_at b))
    else execute s (leading (executable s.memory 15 s.cpu.rip))) e
host_step Walk s e = ap (λ b. if in_host_page b then Err (hosted b (service_at b)) else execute s
    (leading (executable s.memory 15 s.cpu.rip))) e
host_step (AddVectored f) s e = ap (λ b. if in_host_page b then Err (hosted b (service_at b)) else
    execute s
    (leading (executable s.memory 15 s.cpu.rip))) e
host_step (RemoveVectored f) s e = ap (λ b. if in_host_page b then Err (hosted b (service_at b))
    else execute s
    (leading (executable s.memory 15 s.cpu.rip))) e

-- the service's own call is dropped
call_over : (f : BuiltIn) (sp : ℕ) (c d : Context) (cs : List Context) → rsp c < sp + 8
    → sp + 8 ≤ rsp d
    → drop_below sp (served (service_at (address_of (host_service_of f))) (c ∷ d ∷ cs)) ≡ d ∷ cs
call_over Put sp c d cs below above = one_below sp c (d ∷ cs) below ∙ none_below sp (d ∷ cs) above
call_over Protect sp c d cs below above = one_below sp c (d ∷ cs) below
    ∙ none_below sp (d ∷ cs) above
call_over RaiseException sp c d cs below above = none_below sp (d ∷ cs) above
call_over Walk sp c d cs below above = one_below sp c (d ∷ cs) below
    ∙ none_below sp (d ∷ cs) above
call_over (AddVectored f) sp c d cs below above = one_below sp c (d ∷ cs) below
    ∙ none_below sp (d ∷ cs) above
call_over (RemoveVectored f) sp c d cs below above = one_below sp c (d ∷ cs) below
    ∙ none_below sp (d ∷ cs) above

service_found : (f : BuiltIn) → (0 < address_of (host_service_of f))
    × (address_of (host_service_of f) < 0x100000000)
    × (address_of (host_service_of f) ≡ filter_return → ⊥)
    × (address_of (host_service_of f) ≡ finally_return → ⊥)
    × (address_of (host_service_of f) ≡ vectored_return → ⊥)
service_found Put = (
  omega arith,
  omega arith,
  λ e. absurd (omega arith),
  λ e. absurd (omega arith),
  λ e. absurd (omega arith),
)
service_found Protect = (
  omega arith,
  omega arith,
  λ e. absurd (omega arith),
  λ e. absurd (omega arith),
  λ e. absurd (omega arith),
)
service_found RaiseException = (
  omega arith,
  omega arith,
  λ e. absurd (omega arith),
  λ e. absurd (omega arith),
  λ e. absurd (omega arith),
)
service_found Walk = (
  omega arith,
  omega arith,
  λ e. absurd (omega arith),
  λ e. absurd (omega arith),
  λ e. absurd (omega arith),
)
service_found (AddVectored f) = (
  omega arith,
  omega arith,
  λ e. absurd (omega arith),
  λ e. absurd (omega arith),
  λ e. absurd (omega arith),
)
service_found (RemoveVectored f) = (
  omega arith,
  omega arith,
  λ e. absurd (omega arith),
  λ e. absurd (omega arith),
  λ e. absurd (omega arith),
)

module _ (setting : Setting) where
  open setting use {functions as t, funclets as fs, program, plan as p, image}

  -- in another memory with the stack as it was from RSP up
  pub is_elsewhere : (s : State) (c : Configuration) (b : RepresentsAt setting s c)
      (counted : IsCounted setting c) (m : Memory)
      → KeepsStack s.memory m (register s.cpu Rsp) → HasProgram setting m
      → Below setting s c b counted (kept_here setting s c b counted) m
  is_elsewhere s c b counted m keeps has =
      let sp = register s.cpu Rsp in
      let frame = (p.layout c.frame.body).frame in
      let low = sp_low setting s c b counted in
      let top = frame_top setting s c b counted in
      let reads = reads_other s.memory m sp 0x70800000
      (record {
        bytes = keeps.bytes;
        protection = keeps.protection;
        code = keeps.code;
        no_more_code = keeps.no_more_code;
      }) (omega arith) (omega arith) in
      let caller = caller_here setting s c b counted in
      let list = kept_by_other_memories t fs program p s.memory m caller b.body.is c.below
      (activations_below c.frame.body b.body.acts)
      (higher_stack s.memory m sp (sp + frame + 8) (omega arith) keeps) (omega arith)
      b.body.below.is_there in
      record {
        program_there = has;
        owed = λ rip.
            (let u : State = record s { memory = m } in
            owed_with m (context_of s.cpu)
            (record { rip = rip; kept = kept_here setting s c b counted }) (owed_of p c.frame.body)
            frame b.body.back b.body.others refl
            (frame_owed setting c.frame.body b.body.slots.code b.body.slots.body u b.body.back
            b.body.others b.body.eight (let z : sp + frame + 8 < 2 ^ 64 = omega arith in z)
            (frame_stays setting c.frame.body b.body.slots.code b.body.slots.body s u b.body.back
            b.body.others (record { rest = refl; locals = λ r is free. refl })
            (λ a v from to w. reads.words a v (omega arith) (omega arith) w) b.body.frame)));
        beyond = on_stack t m caller 0 b.body.is list.stack;
      }

  -- where the return address of the call is at RSP, and the walk gives the same callers after the
  -- return
  pub service_keeps : (f : BuiltIn) (s u : State) (back : ℕ) (d : Context) (cs : List Context)
      → s.cpu.rip ≡ address_of (host_service_of f)
      → loaded s.memory (register s.cpu Rsp) W64 ≡ Ok back
      → register s.cpu Rsp + 8 < 2 ^ 64
      → context_of u.cpu ≡ caller_above (context_of s.cpu) 0 back
      → WalkGives t (record s { cpu = u.cpu }) (d ∷ cs) → WalkGives t u (d ∷ cs)
      → register u.cpu Rsp ≡ register s.cpu Rsp + 8 → register u.cpu Rsp + 8 ≤ rsp d
      → arrivals u.cpu (distance t.base u.cpu.rip) 1 fs ≡ [] → KeepsShadow t fs s u
  service_keeps f s u back d cs here returns high same before after sp above silent =
      let c = caller_above (context_of s.cpu) 0 back in
      let at = service_found f in
      let flat : register s.cpu Rsp + 0 ≡ register s.cpu Rsp = omega arith in
      let there : word s.memory (register s.cpu Rsp + 0) ≡ Ok back = ap (word s.memory) flat
      ∙ ap (λ (x : Result ℕ RefusedAccess). readable (register s.cpu Rsp) x) returns in
      let found = finds_return t s.memory (address_of (host_service_of f))
      (image.callers_outside.services s.memory
      (address_of (host_service_of f)) at.0 at.1 at.2 at.3 at.4)
      (context_of s.cpu) back here refl (omega arith) there in
      let gives : WalkGives t s (c ∷ d ∷ cs) = gives_caller t s.memory (context_of s.cpu) c (d ∷ cs)
      found (subst (λ (x : Context). GivesCallers t s.memory (state x 0) (d ∷ cs)) same before) in
      host_keeps t fs s u (address_of (host_service_of f)) [] (c ∷ d ∷ cs) (d ∷ cs)
      (host_step f s here)
      silent gives after
      (ap (drop_below (register u.cpu Rsp)) (none_started t fs s u
      (served (service_at (address_of (host_service_of f))) (c ∷ d ∷ cs)) (omega arith))
      ∙ call_over f (register u.cpu Rsp) c d cs (omega arith) above)
