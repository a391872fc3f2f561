-- What the walk gives where the host dispatches: at the first byte of a funclet that it starts,
-- where it lands, and at its services.
use Rattle.std.proofs.Common.{◌≡◌, ◌≢◌, ℕ, ◌+◌, ◌%◌, ◌^◌, ◌<◌, true, false, Option, Some, None, Ok, List, [], ◌∷◌, length, refl, sym, ap, subst, ◌∙◌, arith}
use Rattle.std.specs.Prelude.{Result, slice_get, slice_set}
use Rattle.match_turns.specs.Words.{W64, RefusedAccess, Memory, loaded, Rdx, Rsp, Rbx, Rbp, Rsi, Rdi, R12, R13, R14, R15, Cpu, Context, kept_of, context_of, State, register, rsp, readable, DispatchRecord, filter_return, finally_return, vectored_return, steps, Turn, at_landing, back, Exception, LinearFunclet, BodyName, FuncletBody, funclet_body, Handler, Resumption, Item, Configuration, StackItem, Framed, IsStack, after_frame, context_below, state, parent_body, IsFunclet, Activation, Arrives, FilterBegins, Unwound, BlockBegins, LandsThere, IsUnwinding, drop_below, GivesCallers, WalkGives, caller_at, callers, caller_above, FindsReturn, owed_of, Setting, IsMachineMemory, live_from, WalkContinues}
use Rattle.virtual_unwind.specs.Undone.{word}
use Rattle.seh_num.specs.declared.event.Event.TheVariants as events
use Rattle.match_turns.proofs.Lemmas.{finds_return, frame_is_owed, owed_with, nine_numbers, few_items, none_below, none_started, on_stack, gives_caller, begin_finds, word_is}
use Rattle.match_bodies.proofs.Steps.BodyResumption.{same_teller}
use Rattle.match_bodies.proofs.Walks.UnwindWalks.{block_callers, landing_callers, landing_above}

-- the nonvolatile registers, with another stack pointer
kept_with : (rs : List ℕ) (v : ℕ) → length rs ≡ 16
    → kept_of (slice_set rs 4 v) ≡ slice_set (kept_of rs) 0 v
kept_with [] v e = absurd (omega arith)
kept_with (a ∷ []) v e = absurd (omega arith)
kept_with (a ∷ b ∷ []) v e = absurd (omega arith)
kept_with (a ∷ b ∷ c ∷ []) v e = absurd (omega arith)
kept_with (a ∷ b ∷ c ∷ d ∷ []) v e = absurd (omega arith)
kept_with (a ∷ b ∷ c ∷ d ∷ f ∷ rs) v e = refl

abbrev others_of : Cpu → List ℕ
others_of c = register c Rbx ∷ register c Rbp ∷ register c Rsi ∷ register c Rdi ∷ register c R12
    ∷ register c R13 ∷ register c R14 ∷ register c R15 ∷ []

module _ (setting : Setting) where
  open setting use {functions as t, funclets as fs, program, plan as p, sites as q, image}

  -- ---- at a funclet's first byte

  funclet_finds : (m : Memory) (k : ℕ) (name : BodyName) → IsFunclet t fs program p name k
      → FindsReturn t m (p.funclet k)
  funclet_finds m k name f = by (slice_get program.funclets k) refl f.parent
    where
      by : (o : Option LinearFunclet) → slice_get program.funclets k ≡ o → parent_body o ≡ Some name
          → FindsReturn t m (p.funclet k)
      by None e h = absurd cc
      by (Some g) e h =
          let is = ap funclet_body e in
          let framed = (image.laid_out (FuncletBody k) g.body is).framed in
          (image.callers (FuncletBody k) g.body is).entries m
          (λ leaf. absurd (let no : true ≡ false = sym leaf ∙ framed in cc))

  funclet_gives : (u : State) (k activation first : ℕ) (items : List Item) (acts : List Activation)
      (handlers : List ℕ) (a : Arrives t fs program p u k activation first items acts handlers)
      (cs : List Context)
      → ((others : List ℕ) → callers (context_below a.back a.at others) a.is ≡ cs)
      → WalkGives t u (caller_at u ∷ cs)
  funclet_gives u k activation first items acts handlers a cs same =
      let sp = register u.cpu Rsp in
      let others = others_of u.cpu in
      let at = a.stack in
      let small = a.at_small in
      let here : sp + 0 ≡ sp = omega arith in
      let up : a.at ≡ sp + 0 + 8 = omega arith in
      let found = finds_return t u.memory (p.funclet k)
      (funclet_finds u.memory k a.name a.funclet) (context_of u.cpu) a.back a.rip refl
      (omega arith) (ap (word u.memory) here ∙ a.returns) in
      let below : GivesCallers t u.memory (state (context_below a.back a.at others) 0) cs = subst
      (GivesCallers t u.memory (state (context_below a.back a.at others) 0)) (same others)
      (on_stack t u.memory (context_below a.back a.at others) 0 a.is
      (a.on others).is_there.stack) in
      let above : GivesCallers t u.memory (state (context_below a.back (sp + 0 + 8) others) 0)
      cs = subst (λ n. GivesCallers t u.memory (state (context_below a.back n others) 0) cs) up
      below in
      let flat : sp + 0 + 8 ≡ sp + 8 = omega arith in
      let number = word_is u.memory sp a.back a.returns in
      let caller : context_below a.back (sp + 0 + 8) others
      ≡ caller_at u = ap (λ n. context_below a.back n others) flat
      ∙ ap (λ v. context_below v (sp + 8) others) (sym number) in
      subst (λ (c : Context). WalkGives t u (c ∷ cs)) caller
      (gives_caller t u.memory (context_of u.cpu) (caller_above (context_of u.cpu) 0 a.back) cs
      found above)

  -- a filter, on all that is live
  pub filter_walk : (s : State) (at : ℕ) (r : DispatchRecord) (turn : Turn) (found : List Handler)
      (exception : Exception) (resumption : Resumption) (is : List StackItem)
      (acts : List Activation) (c : Configuration)
      → (f : FilterBegins t fs program p s at r turn found exception resumption is acts c)
      → WalkContinues setting (live_from (context_of r.saved) is) f.state
      (events.Filter (f.filter + 1) ∷ [])
  filter_walk s at r turn found exception resumption is acts c f = λ v le.
      let cs = callers (context_of r.saved) is in
      let a = f.arrives in
      let same = λ (others : List ℕ). ap (callers (context_below a.back a.at others)) f.list
      ∙ ap (λ (x : Cpu). callers (context_of x) is) f.same_saved in
      subst (WalkGives t f.state) (sym (none_below (register f.state.cpu Rsp)
      (caller_at f.state ∷ cs) (omega arith)))
      (funclet_gives f.state f.filter _ _ _ acts _ a cs same)

  module _ (s : State) (at : ℕ) (r : DispatchRecord) (is : List StackItem) (turn : Turn)
      (w : Unwound) (u : IsUnwinding t fs program p s at r is w) where
    short : length is < steps
    short = let small = u.room.small in let few = few_items t s.memory r.walk is u.on.is_there.stack
        small in omega arith

    -- a `__finally` block, on those from its frame up
    pub block_walk : (b : BlockBegins t fs program p s r turn w)
        → WalkContinues setting (live_from r.walk is) b.state
        (events.Finally (b.block + 1) true ∷ [])
    block_walk b = λ v le.
        let a = b.arrives in
        let cs = callers b.to b.inner in
        let same = λ (others : List ℕ). ap (callers (context_below a.back a.at others)) b.list
        ∙ ap (λ (x : Context). callers x b.inner) b.same_walk in
        let left : drop_below (register b.state.cpu Rdx) (callers r.walk is) ≡ cs =
        ap (λ n. drop_below n (callers r.walk is)) b.frame
        ∙ block_callers t s.memory r.target_frame r.target r.walk r.row is steps
        u.on.is_there.stack short (p.funclet b.block) (rsp b.to) b.row b.to b.inner b.answer
        b.stack in
        subst (WalkGives t b.state)
        (sym (ap (λ (xs : List Context). drop_below (register b.state.cpu Rsp)
        (caller_at b.state ∷ xs)) left ∙ none_below (register b.state.cpu Rsp)
        (caller_at b.state ∷ cs) (omega arith)))
        (funclet_gives b.state b.block _ _ _ b.outer _ a cs same)

    -- ---- where an unwinding lands

    pub landing_walk : (l : LandsThere t fs program p s r turn w) (rax : ℕ)
        → IsMachineMemory setting s.memory w.source.memory
        → WalkContinues setting (live_from r.walk is) (at_landing s l.to rax r.target) []
    landing_walk l rax memory = λ v le.
        let f = l.framed in
        let is_there = l.on.is_there.stack.0 in
        let waits = l.on.is_there.linked.0 in
        let name = l.body.body in
        let d : Context = record { rip = r.target; kept = l.to.kept } in
        let cs = callers (after_frame l.to f) l.is in
        let tells = same_teller t fs program p q image f name waits.waits.code waits.waits.label
        waits.waits.body waits.framed waits.entry in
        let owes = frame_is_owed p name s.memory l.to f waits.framed tells is_there.kept
        is_there.eight is_there.room is_there.is_told in
        let found = begin_finds t fs program p q image s.memory name waits.waits.code
        w.target.label waits.waits.body memory.code
        (image.landings name waits.waits.code w.target.label waits.waits.body l.lands)
        d f.size f.return_address f.others l.at_address
        (owed_with s.memory l.to d (owed_of p name) f.size f.return_address f.others refl owes) in
        let here : GivesCallers t s.memory (state d 0) (after_frame l.to f ∷ cs) =
        gives_caller t s.memory d (after_frame l.to f) cs found
        (on_stack t s.memory (after_frame l.to f) 0 l.is l.on.is_there.stack.1) in
        let landed : WalkGives t (at_landing s l.to rax r.target) (after_frame l.to f ∷ cs) = subst
        (λ (ks : List ℕ). GivesCallers t s.memory (state (record { rip = r.target; kept = ks }) 0)
        (after_frame l.to f ∷ cs)) (sym (nine_numbers l.to.kept is_there.kept)) here in
        let rises = landing_above t s.memory r.target_frame r.target r.walk r.row is steps
        u.on.is_there.stack short l.to l.answer in
        subst (WalkGives t (at_landing s l.to rax r.target))
        (sym (ap (drop_below (rsp l.to))
        (none_started t fs v (at_landing s l.to rax r.target) (callers r.walk is) (omega arith))
        ∙ landing_callers t s.memory r.target_frame r.target r.walk r.row is steps
        u.on.is_there.stack short l.to (Framed f ∷ l.is) l.answer l.on.is_there.stack)) landed

  -- ---- at a service of the host

  -- the walk gives the service's own call, and what it gives from the state after its return
  pub service_walk : (s : State) (a ret : ℕ) (is : List StackItem) → s.cpu.rip ≡ a → 0 < a
      → a < 0x100000000 → a ≢ filter_return → a ≢ finally_return → a ≢ vectored_return
      → loaded s.memory (register s.cpu Rsp) W64 ≡ Ok ret → length s.cpu.registers ≡ 16
      → register s.cpu Rsp + 8 < 2 ^ 64 → IsStack t s.memory (context_of (back s ret).cpu) is
      → (c : Context) × WalkGives t s (c ∷ callers (context_of (back s ret).cpu) is)
  service_walk s a ret is here low high other another third w count small stack =
      let sp = register s.cpu Rsp in
      let flat : sp + 0 ≡ sp = omega arith in
      let up : (sp + 8) % 2 ^ 64 % 2 ^ 64 ≡ sp + 0 + 8 = omega arith in
      let c = caller_above (context_of s.cpu) 0 ret in
      let after = context_of (back s ret).cpu in
      let cs = callers after is in
      let same : after ≡ c =
      ap (λ (ks : List ℕ). let x : Context = record { rip = ret; kept = ks } in x)
      (kept_with s.cpu.registers ((sp + 8) % 2 ^ 64 % 2 ^ 64) count)
      ∙ ap (λ n. let x : Context = record {
        rip = ret;
        kept = slice_set (kept_of s.cpu.registers) 0 n;
      } in x) up in
      let returns : word s.memory (sp + 0) ≡ Ok ret = ap (word s.memory) flat
      ∙ ap (λ (x : Result ℕ RefusedAccess). readable sp x) w in
      let found = finds_return t s.memory a
      (image.callers_outside.services s.memory a low high other another third) (context_of s.cpu)
      ret here refl (omega arith) returns in (
        c,
        gives_caller t s.memory (context_of s.cpu) c cs found
            (subst (λ (x : Context). GivesCallers t s.memory (state x 0) cs) same
            (on_stack t s.memory after 0 is stack)),
      )
