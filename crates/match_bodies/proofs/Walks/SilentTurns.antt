-- Runs of a body's code are turns of the machine that show nothing, up to where they come: a
-- funclet begins with an instruction that makes its frame.
use Rattle.std.proofs.Common.{◌≡◌, ◌≢◌, ℕ, zero, suc, ◌+◌, ◌<◌, ◌≤◌, Bool, true, false, List, [], ◌∷◌, length, Option, Some, None, refl, sym, ap, subst, ◌∙◌, arith, inl, inr}
use Rattle.std.specs.Prelude.{slice_get}
use Rattle.std.proofs.lemmas.Bool.{ne_eqb}
use Rattle.std.proofs.lemmas.Option.{slice_get_cases}
use Rattle.template_code.specs.ColdParts.{hot_code}
use Rattle.match_bodies.specs.Words.{W64, Event, Service, address_of, Protection, is_readable, is_writable, Memory, executable, may_write, Rsp, Instr, leading, chosen, State, BuiltIn, Functions, distance, Funclet, arrivals, LinearProgram, LinearFunclet, FuncletBody, LinearBody, BodyName, body_of, spelled, thunk, check_stack, code_from, Steps, Reaches, RunsInside, ReachesInside, Enters, HasCode, HasThunk, ImagePlan, AllKeep, Comes, Sites, begin_of, making_size, frame_code, arguments_code, entry_code, links_of, code_of, cold_code_of, host_service_of, stub_code, sizes, name_thunk, HasService, HasBuiltIn, HasProgram, IsProgramImage, funclet_body, takes_frame, Runs, IsLive}
use Rattle.host_layout.specs.declared.service.Service.TheVariants as services
use Rattle.x64_instr.specs.declared.operand.RegisterOrMemory.TheVariants as places
use Rattle.x64_instr.specs.declared.operand.Operand.TheVariants as operands
use Rattle.x64_instr.specs.declared.instruction.Operation.TheVariants as operations
use Rattle.x64_instr.specs.declared.instruction.Instr.TheVariants as instrs
use Rattle.frame_rules.specs.Plan.{allocating}
use Rattle.x64_templates.proofs.PlacedCode.{reaches_enters}
use Rattle.match_bodies.proofs.Keeping.ChainKeeping.{inside_steps}
use Rattle.match_bodies.specs.CodeSites.{body_plan}
use Rattle.match_bodies.proofs.Prologues.FrameCode.{funclet_bare, made_small}
use Rattle.match_bodies.proofs.Lemmas.{longest, bytes_kept, bytes_split, spells, reads, same_number, code_split, near, sizes_append}
use Rattle.x64_machine.specs.declared.cpu.Cpu.{Cpu}
use Rattle.host_model.specs.Dispatch.{no_flags}
use Rattle.match_runs.proofs.Turns.{comes_by_step, comes_then}

-- ---- code outlasts whatever changes no protection and no byte that may not be written

pub record KeepsCode (m m' : Memory) : Type 0 where
  pub protection : m'.protection ≡ m.protection
  pub fixed : (a : ℕ) → may_write m a ≡ false → m'.byte a ≡ m.byte a

step_keeps : (s u : State) → Steps s u → KeepsCode s.memory u.memory
step_keeps s u st = record { protection = st.protection; fixed = st.fixed }

code_kept : (m m' : Memory) (at : ℕ) (code : List Instr) → KeepsCode m m' → HasCode m at code
    → HasCode m' at code
code_kept m m' at code k h = record {
  is_there = bytes_kept m m' at (spelled code) k.fixed
      k.protection h.is_there;
  placed = h.placed;
}

thunk_kept : (m m' : Memory) (at service : ℕ) → KeepsCode m m' → HasThunk m at service
    → HasThunk m' at service
thunk_kept m m' at service k h =
    let near = h.near in
    let high = h.code.placed.high in
    record {
      away = h.away;
      near = h.near;
      code = code_kept m m' at (thunk h.away ∷ []) k h.code;
      readable = λ a lo hi. ap (λ (f : ℕ → Protection). is_readable (f a).rights) k.protection
          ∙ h.readable a lo hi;
      fixed = λ a lo hi. ap (λ (f : ℕ → Protection). is_writable (f a).rights) k.protection
          ∙ h.fixed a lo hi;
      bound = same_number m'.byte m.byte 8 (at + 6 + h.away) (omega arith)
          (λ a lo hi. k.fixed a (h.fixed a lo hi)) ∙ h.bound;
    }

module _ (t : Functions) (fs : List Funclet) (program : LinearProgram) (p : ImagePlan) (q : Sites)
  where
    service_kept : (m m' : Memory) (at : ℕ) (service : Service) → KeepsCode m m'
        → HasService t fs program p q m at service → HasService t fs program p q m' at service
    unfolding thunk_kept
    service_kept m m' at service k h = record {
      thunk = thunk_kept m m' at (address_of service) k
          h.thunk;
      inside = h.inside;
      slot = h.slot;
    }

    built_in_kept : (m m' : Memory) (f : BuiltIn) → KeepsCode m m'
        → HasBuiltIn t fs program p q m f → HasBuiltIn t fs program p q m' f
    built_in_kept m m' f k h = record {
      stub = code_kept m m' (q.thunk f) (stub_code p f (q.thunk f)) k h.stub;
      names = h.names;
      service = service_kept m m' (q.thunk f + sizes (stub_code p f (q.thunk f)))
          (host_service_of f) k
          h.service;
      inside = h.inside;
    }

    pub program_kept : (m m' : Memory) → KeepsCode m m' → HasProgram t fs program p q m
        → HasProgram t fs program p q m'
    program_kept m m' k h = record {
      code = λ name b e. code_kept m m' (begin_of p q name) (code_of program p q name b) k
          (h.code name b e);
      cold_code = λ name b e. code_kept m m' (q.cold name) (cold_code_of p q name b) k
          (h.cold_code name b e);
      built_in = λ f called. built_in_kept m m' f k (h.built_in f called);
      names = λ f lt adds. (let n = h.names f lt adds in record {
        code = code_kept m m' (p.handler f) (name_thunk (p.handler f) (q.function f)) k n.code;
        inside = n.inside;
      });
      local_unwind = service_kept m m' q.local_unwind services.LocalUnwind k h.local_unwind;
      check_stack = code_kept m m' q.check_stack check_stack k h.check_stack;
    }

    -- ---- a funclet's first instruction

    abbrev taking : Option (Instr × ℕ) → Bool
    taking None = true
    taking (Some x) = takes_frame x.0

    never_silent : (i j : Instr) (m n : ℕ) → ◌≡◌ {A = Option (Instr × ℕ)} (Some (i, m))
        (Some (j, n))
        → takes_frame i ≡ true → takes_frame j ≡ false → ⊥
    never_silent i j m n e makes quiet = let z : true ≡ false = sym makes ∙ ap taking e ∙ quiet in
        absurd cc

    entered_by : (m : Memory) (at size : ℕ) (j : Instr) (n : ℕ) → size ≤ 4096
        → HasCode m at (allocating 0 size true) → leading (executable m 15 at) ≡ Some (j, n)
        → takes_frame j ≡ false → ⊥
    unfolding Rattle.template_code.specs.Bytes.size
    entered_by m at size j n small code e quiet =
        let i = instrs.Arithmetic operations.Sub W64 (places.Register Rsp)
        (operands.Immediate size) in
        let parts = bytes_split m at (chosen i) [] code.is_there in
        let l = code.placed.low in
        let h = code.placed.high in
        let s : State = record {
          cpu = record { registers = []; rip = at; flags = no_flags };
          memory = m;
          vectored = [];
        } in
        let r = reads s i (chosen i) (spells i (near size (omega arith))) (longest i) parts.0
        (record { low = l; high = omega arith }) in
        never_silent i j (length (chosen i)) n (sym r ∙ e) refl quiet

    -- no funclet begins strictly between these addresses
    abbrev pub NoneInside : (from to : ℕ) → Type 0
    NoneInside from to = (a k : ℕ) → from < a → a < to → k < length program.funclets
        → a ≢ p.funclet k

    module _ (image : IsProgramImage t fs program p q) where
      -- a funclet's first instruction makes its frame
      pub funclet_makes : (m : Memory) (k : ℕ) (f : LinearFunclet) (j : Instr) (n : ℕ)
          → slice_get program.funclets k ≡ Some f → HasProgram t fs program p q m
          → leading (executable m 15 (p.funclet k)) ≡ Some (j, n) → takes_frame j ≡ false → ⊥
      funclet_makes m k f j n there has e quiet =
          let name = FuncletBody k in
          let is : body_of program name ≡ Some f.body = ap funclet_body there in
          let plan = image.laid_out name f.body is in
          let small = plan.layout.small in
          let y = p.layout name in
          let first = frame_code (body_plan p q name) (p.leaf name) in
          let all = has.code name f.body is in
          let entry = code_split m (p.funclet k) (entry_code program p q name)
          (code_from (links_of p q name) y (p.address name 0) (hot_code f.body)) all in
          let frame = code_split m (p.funclet k) first (arguments_code program p name) entry.0 in
          entered_by m (p.funclet k) y.frame j n (omega arith)
          (subst (HasCode m (p.funclet k)) (made_small y (body_plan p q name).probe
          (p.leaf name) plan.framed (funclet_bare y _ f.body plan.layout)) frame.0) e quiet

      elsewhere : (s u : State) → Runs s u → HasProgram t fs program p q s.memory → (k : ℕ)
          → k < length program.funclets → s.cpu.rip ≢ p.funclet k
      elsewhere s u r has k lt e = elim (slice_get_cases program.funclets k).1 [
        | inl x ↦ funclet_makes s.memory k x.0 r.instruction r.bytes x.2 has
            (ap (λ (a : ℕ). leading (executable s.memory 15 a)) (sym e) ∙ r.read) r.inside
        | inr x ↦ let le = x.0 in absurd (omega arith)
      ]

      -- where a run continues inside a body, no funclet begins
      pub silent_here : (s u : State) (c : Cpu) → Runs s u → HasProgram t fs program p q s.memory
          → arrivals c (distance t.base s.cpu.rip) 1 fs ≡ []
      silent_here s u c r has = image.funclets.none s.cpu.rip r.steps.rip_small
          (elsewhere s u r has) c

      -- nor strictly between the two addresses inside a prologue
      module _ (from to : ℕ) (none : NoneInside from to) where
        silent_inside : (s u : State) (c : Cpu) → RunsInside from to s u
            → HasProgram t fs program p q s.memory
            → arrivals c (distance t.base s.cpu.rip) 1 fs ≡ []
        silent_inside s u c r has = elim r [
          | inl x ↦ silent_here s u c x has
          | inr x ↦ image.funclets.none s.cpu.rip x.0.rip_small
              (λ k lt. none s.cpu.rip k x.1 x.2 lt) c
        ]

        -- ---- turns

        live_here : (s u : State) → Steps s u → IsLive s
        live_here s u st = ne_eqb s.cpu.rip 0 st.live

        from_step : (n : ℕ) (s u w : State) → Steps s u → ReachesInside from to n u w
            → AllKeep t fs (suc n) s → HasProgram t fs program p q s.memory
            → Comes t fs (suc n) s (arrivals w.cpu (distance t.base w.cpu.rip) 1 fs) w
        from_step zero s u w st e keep has = subst
            (λ (x : State). Comes t fs 1 s (arrivals x.cpu (distance t.base x.cpu.rip) 1 fs) x) e
            (comes_by_step t fs s u (live_here s u st) st.steps (keep u st.steps).0)
        from_step (suc n) s u w st r keep has =
            let kept = program_kept s.memory u.memory (step_keeps s u st) has in
            let one : Comes t fs 1 s [] u = subst (λ (es : List Event). Comes t fs 1 s es u)
            (silent_inside u r.0 u.cpu r.1 kept)
            (comes_by_step t fs s u (live_here s u st) st.steps (keep u st.steps).0) in
            let k : 1 + suc n ≡ suc (suc n) = omega arith in
            subst (λ m. Comes t fs m s (arrivals w.cpu (distance t.base w.cpu.rip) 1 fs) w) k
            (comes_then t fs 1 (suc n) s u w [] (arrivals w.cpu (distance t.base w.cpu.rip) 1 fs)
            one (from_step n u r.0 w (inside_steps from to u r.0 r.1) r.2 (keep u st.steps).1
            kept))

        -- a run of at least one turn, each of which keeps the shadow, shows what its last state's
        -- RIP arrives at
        pub enters_comes : (n : ℕ) (s w : State) (events : List Event)
            → Enters from to (suc n) s w → AllKeep t fs (suc n) s
            → HasProgram t fs program p q s.memory
            → arrivals w.cpu (distance t.base w.cpu.rip) 1 fs ≡ events
            → Comes t fs (suc n) s events w
        enters_comes n s w events r keep has e = subst
            (λ (es : List Event). Comes t fs (suc n) s es w) e
            (from_step n s r.0 w r.1 r.2 keep has)

        -- and nothing, where no funclet begins there
        pub enters_silently : (n : ℕ) (s w : State) → Enters from to n s w → AllKeep t fs n s
            → HasProgram t fs program p q s.memory
            → arrivals w.cpu (distance t.base w.cpu.rip) 1 fs ≡ [] → Comes t fs n s [] w
        enters_silently zero s w r keep has e = (refl, r)
        enters_silently (suc n) s w r keep has e = enters_comes n s w [] r keep has e

      -- the same of code without a prologue
      pub reaches_comes : (n : ℕ) (s w : State) (events : List Event) → Reaches (suc n) s w
          → AllKeep t fs (suc n) s → HasProgram t fs program p q s.memory
          → arrivals w.cpu (distance t.base w.cpu.rip) 1 fs ≡ events → Comes t fs (suc n) s events w
      reaches_comes n s w events r keep has e =
          enters_comes 0 0 (λ a k low high lt. absurd (omega arith)) n s w events
          (reaches_enters 0 0 (suc n) s w r) keep has e

      pub reaches_silently : (n : ℕ) (s w : State) → Reaches n s w → AllKeep t fs n s
          → HasProgram t fs program p q s.memory → arrivals w.cpu (distance t.base w.cpu.rip) 1 fs ≡
          []
          → Comes t fs n s [] w
      reaches_silently zero s w r keep has e = (refl, r)
      reaches_silently (suc n) s w r keep has e = reaches_comes n s w [] r keep has e

      -- of the prologue of a body
      pub none_inside : (name : BodyName) (b : LinearBody) → body_of program name ≡ Some b
          → NoneInside (begin_of p q name) (begin_of p q name + making_size p q name)
      none_inside name b is a k low high lt =
          let h = image.addresses name b is in
          let whole = sizes_append (frame_code (body_plan p q name) (p.leaf name))
          (arguments_code program p name) in
          h.no_funclet a k low (omega (arith, h.first, whole, high)) lt

    -- the code of the program is where a run comes to
    pub program_reaches : (n : ℕ) (s w : State) → Reaches n s w → HasProgram t fs program p q
        s.memory
        → HasProgram t fs program p q w.memory
    program_reaches zero s w r has = subst (λ (x : State). HasProgram t fs program p q x.memory) r
        has
    program_reaches (suc n) s w r has = program_reaches n r.0 w r.2
        (program_kept s.memory r.0.memory (step_keeps s r.0 r.1.steps) has)
