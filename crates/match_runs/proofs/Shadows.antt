-- Turns that keep the shadow: what a walk gives where they begin and where they end.
use Rattle.std.proofs.Common.{◌≡◌, ℕ, zero, suc, ◌+◌, ◌<◌, ◌≤◌, Bool, true, false, ◌&&◌, ◌==◌, Option, Some, None, Ok, Err, List, [], ◌∷◌, refl, sym, ap, subst, ◌∙◌, arith}
use Rattle.std.specs.Prelude.{nat_eq, map}
use Rattle.std.proofs.lemmas.Bool.{lt-ltb, le-ltb, eq-eqb}
use Rattle.match_runs.specs.Words.{Code, Event, State, register, step, Answer, Context, Functions, distance, CallerFrame, arrivals, Funclet, KeepsShadow, WalkGives, shadow_after, caller_at, if_below, drop_below, is_call, entered, started, served, by_step, callers_of, GivesCallers, AllKeep, Rsp}
use Rattle.host_layout.specs.Services.{service_at}
use Rattle.flat_memory.specs.Memory.{Memory, number_at, executable}
use Rattle.x64_instr.specs.declared.instruction.Instr.{Instr}
use Rattle.x64_instr.specs.Spelling.{leading}
use Rattle.x64_machine.specs.declared.outcome.Stop.TheVariants as stops
use Rattle.x64_machine.specs.Contexts.{context_of}
use Rattle.virtual_unwind.specs.Contexts.{rsp}
use Rattle.seh_walk.specs.declared.walk.WalkState.{WalkState}
use Rattle.seh_walk.specs.Walk.{Visited, Over, Past, Frame, visited, if_over, vectored_return}
use Rattle.match_runs.specs.Walked.{LiveFrame, with_frame, given_by, walked}

-- ---- what a walk gives

same_some : (cs ds : List Context) → ◌≡◌ {A = Option (List Context)} (Some cs) (Some ds) → cs ≡ ds
same_some cs ds e = cc

-- a walk gives one list
pub unique : (t : Functions) (m : Memory) (w : WalkState) (cs ds : List Context)
    → GivesCallers t m w cs → GivesCallers t m w ds → cs ≡ ds
unique t m w cs ds a b = same_some cs ds (sym (a.gives (a.steps + b.steps) (omega arith))
    ∙ b.gives (a.steps + b.steps) (omega arith))

more_callers : (f : LiveFrame) (o : Option (List LiveFrame)) (cs : List Context)
    → callers_of o ≡ Some cs → callers_of (with_frame f o) ≡ Some (f.caller ∷ cs)
more_callers f None cs e = absurd cc
more_callers f (Some fs) cs e = ap (λ (xs : List Context). Some (f.caller ∷ xs))
    (same_some (map (λ (x : LiveFrame). x.caller) fs) cs e)

module _ (t : Functions) (m : Memory) (w : WalkState) where
  -- past a frame it continues at the frame's caller
  pub past_frame : (f : CallerFrame) (v : WalkState) (cs : List Context) → visited t m w ≡ Frame f v
      → GivesCallers t m v cs → GivesCallers t m w (f.context ∷ cs)
  unfolding walked
  past_frame f v cs e g = record { steps = suc g.steps; gives = gives }
    where
      gives : (n : ℕ) → suc g.steps ≤ n → callers_of (walked n t m w) ≡ Some (f.context ∷ cs)
      gives zero le = absurd (omega arith)
      gives (suc k) le = ap (λ (x : Visited). callers_of (given_by (walked k t m) x)) e
          ∙ more_callers (record { at = f.frame; caller = f.context }) (walked k t m v) cs
          (g.gives k (omega arith))

  -- past a return address of the host it continues by the record there
  pub past_host : (v : WalkState) (cs : List Context) → visited t m w ≡ Past v
      → GivesCallers t m v cs → GivesCallers t m w cs
  unfolding walked
  past_host v cs e g = record { steps = suc g.steps; gives = gives }
    where
      gives : (n : ℕ) → suc g.steps ≤ n → callers_of (walked n t m w) ≡ Some cs
      gives zero le = absurd (omega arith)
      gives (suc k) le = ap (λ (x : Visited). callers_of (given_by (walked k t m) x)) e
          ∙ g.gives k (omega arith)

  -- at RIP 0 it is over
  pub at_end : w.context.rip ≡ 0 → GivesCallers t m w []
  unfolding visited walked
  at_end zero_rip = record { steps = 1; gives = gives }
    where
      over : visited t m w ≡ Over
      over = ap (λ a. if_over t m w (nat_eq a 0)) zero_rip

      gives : (n : ℕ) → 1 ≤ n → callers_of (walked n t m w) ≡ Some []
      gives zero le = absurd (omega arith)
      gives (suc k) le = ap (λ (x : Visited). callers_of (given_by (walked k t m) x)) over

-- ---- the list above a stack pointer

-- the innermost routine was entered at this stack pointer or above it
abbrev pub HeadAbove : ℕ → List Context → Type 0
HeadAbove sp [] = Unit {0}
HeadAbove sp (c ∷ cs) = sp + 8 ≤ rsp c

-- none is dropped there
pub none_below : (sp : ℕ) (cs : List Context) → HeadAbove sp cs → drop_below sp cs ≡ cs
none_below sp [] h = refl
none_below sp (c ∷ cs) h = ap (if_below (drop_below sp cs) (c ∷ cs)) (le-ltb (rsp c) (sp + 8) h)

-- the innermost one is dropped below
pub one_below : (sp : ℕ) (c : Context) (cs : List Context) → rsp c < sp + 8
    → drop_below sp (c ∷ cs) ≡ drop_below sp cs
one_below sp c cs lt = ap (if_below (drop_below sp cs) (c ∷ cs)) (lt-ltb (rsp c) (sp + 8) lt)

-- higher up fewer are left
pub head_above : (low high : ℕ) (cs : List Context) → low ≤ high → HeadAbove high cs
    → HeadAbove low cs
head_above low high [] le h = tt
head_above low high (c ∷ cs) le h = omega arith

module _ (t : Functions) (fs : List Funclet) (s u : State) where
  -- a turn keeps the shadow where the walk gives it at both of its ends
  pub keeps_by : (cs ds : List Context) → WalkGives t s cs → WalkGives t u ds
      → shadow_after t fs s u cs ≡ ds → KeepsShadow t fs s u
  keeps_by cs ds before after e = λ xs g.
      let same = unique t s.memory (record { context = context_of s.cpu; row = 0 }) cs xs before
      g in
      subst (WalkGives t u) (sym e ∙ ap (shadow_after t fs s u) same) after

  -- ---- instructions

  abbrev pub instruction_there : Option (Instr × ℕ)
  instruction_there = leading (executable s.memory 15 s.cpu.rip)

  after_step : (cs : List Context) (b : Bool) → step s ≡ Ok u → is_call instruction_there ≡ b
      → shadow_after t fs s u cs ≡ drop_below (register u.cpu Rsp) (entered u cs b)
  unfolding shadow_after
  after_step cs b e call =
      ap (λ (a : Answer State). drop_below (register u.cpu Rsp)
      (by_step s u (arrivals u.cpu (distance t.base u.cpu.rip) 1 fs) cs a)) e
      ∙ ap (λ (x : Bool). drop_below (register u.cpu Rsp) (entered u cs x)) call

  -- an instruction that is no call, and no return
  pub straight : (cs : List Context) → step s ≡ Ok u → is_call instruction_there ≡ false
      → WalkGives t s cs → WalkGives t u cs → HeadAbove (register u.cpu Rsp) cs
      → KeepsShadow t fs s u
  straight cs e call before after above = keeps_by cs cs before after
      (after_step cs false e call ∙ none_below (register u.cpu Rsp) cs above)

  -- a call
  pub call_keeps : (cs : List Context) → step s ≡ Ok u → is_call instruction_there ≡ true
      → WalkGives t s cs → WalkGives t u (caller_at u ∷ cs) → KeepsShadow t fs s u
  call_keeps cs e call before after = keeps_by cs (caller_at u ∷ cs) before after
      (after_step cs true e call ∙ none_below (register u.cpu Rsp) (caller_at u ∷ cs) (omega arith))

  -- a return
  pub return_keeps : (c : Context) (cs : List Context) → step s ≡ Ok u
      → is_call instruction_there ≡ false → WalkGives t s (c ∷ cs) → WalkGives t u cs
      → rsp c < register u.cpu Rsp + 8 → HeadAbove (register u.cpu Rsp) cs → KeepsShadow t fs s u
  return_keeps c cs e call before after below above =
      keeps_by (c ∷ cs) cs before after (after_step (c ∷ cs) false e call
      ∙ one_below (register u.cpu Rsp) c cs below ∙ none_below (register u.cpu Rsp) cs above)

  -- ---- the host

  abbrev returns_to_dispatcher : Bool
  returns_to_dispatcher = number_at u.memory.byte 8 (register u.cpu Rsp) == vectored_return

  -- where RSP doesn't fall no vectored handler is called
  pub none_started : (cs : List Context) → register s.cpu Rsp ≤ register u.cpu Rsp
      → started s u [] cs ≡ cs
  none_started cs le = ap (λ (b : Bool). entered u cs (b && returns_to_dispatcher))
      (le-ltb (register u.cpu Rsp) (register s.cpu Rsp) le)

  -- where it falls to the dispatcher's return address for vectored handlers, one is called
  pub handler_started : (cs : List Context) → register u.cpu Rsp < register s.cpu Rsp
      → number_at u.memory.byte 8 (register u.cpu Rsp) ≡ vectored_return
      → started s u [] cs ≡ caller_at u ∷ cs
  handler_started cs lower returns =
      ap (λ (b : Bool). entered u cs (b && returns_to_dispatcher))
      (lt-ltb (register u.cpu Rsp) (register s.cpu Rsp) lower)
      ∙ ap (entered u cs) (eq-eqb _ _ returns)

  -- a service of the host, or one of its return addresses
  pub host_keeps : (a : ℕ) (es : List Event) (cs ds : List Context) → step s ≡ Err (stops.Host a)
      → arrivals u.cpu (distance t.base u.cpu.rip) 1 fs ≡ es → WalkGives t s cs → WalkGives t u ds
      → drop_below (register u.cpu Rsp) (started s u es (served (service_at a) cs)) ≡ ds
      → KeepsShadow t fs s u
  unfolding shadow_after
  host_keeps a es cs ds e arrives before after same =
      keeps_by cs ds before after
      (ap (λ (x : Answer State). drop_below (register u.cpu Rsp)
      (by_step s u (arrivals u.cpu (distance t.base u.cpu.rip) 1 fs) cs x)) e
      ∙ ap (λ (xs : List Event). drop_below (register u.cpu Rsp)
      (started s u xs (served (service_at a) cs))) arrives ∙ same)

  -- an instruction that faults
  pub fault_keeps : (code : Code) (access : Option (Bool × ℕ)) (es : List Event)
      (cs ds : List Context) → step s ≡ Err (stops.Fault code access)
      → arrivals u.cpu (distance t.base u.cpu.rip) 1 fs ≡ es → WalkGives t s cs → WalkGives t u ds
      → drop_below (register u.cpu Rsp) (started s u es cs) ≡ ds → KeepsShadow t fs s u
  unfolding shadow_after
  fault_keeps code access es cs ds e arrives before after same =
      keeps_by cs ds before after
      (ap (λ (x : Answer State). drop_below (register u.cpu Rsp)
      (by_step s u (arrivals u.cpu (distance t.base u.cpu.rip) 1 fs) cs x)) e
      ∙ ap (λ (xs : List Event). drop_below (register u.cpu Rsp) (started s u xs cs)) arrives
      ∙ same)

-- ---- chains of instructions

module _ (t : Functions) (fs : List Funclet) where
  same_state : (u v : State) → ◌≡◌ {A = Answer State} (Ok u) (Ok v) → u ≡ v
  same_state u v e = cc

  -- one more instruction before others
  pub keep_first : (n : ℕ) (s u : State) → step s ≡ Ok u → KeepsShadow t fs s u → AllKeep t fs n u
      → AllKeep t fs (suc n) s
  keep_first n s u e keeps rest = λ v f. subst
      (λ (x : State). KeepsShadow t fs s x × AllKeep t fs n x) (same_state u v (sym e ∙ f))
      (keeps, rest)
