-- Calls, returns, and what probes the stack keep the shadow.
use Rattle.std.proofs.Common.{◌≡◌, ℕ, ◌+◌, ◌^◌, ◌<◌, ◌≤◌, true, false, List, ◌∷◌, length, Ok, refl, sym, ap, subst, ◌∙◌, arith, inl, inr}
use Rattle.match_bodies.specs.Words.{Memory, number_at, Rax, Rsp, Instr, is_encodable, Context, context_of, State, register, with_rip, effect, Functions, word, Funclet, size, IsNear, call, Steps, HasCode, StackItem, ItemIsAt, IsStack, OwnedBy, Owned, context_after, context_below, state, is_call, GivesCallers, WalkGives, KeepsShadow, caller_above, HasCaller, FindsReturn, FindsOwed, Owed, IsOwed, nothing_owed, caller_at}
use Rattle.x64_instr.specs.declared.instruction.Instr.TheVariants as instrs
use Rattle.template_code.specs.Jumps.{distance}
use Rattle.match_runs.specs.Shadow.{calls as calls_on}
use Rattle.match_bodies.proofs.Walks.OwedCallers.{finds_return, owed_with, owed_in, owed_low, returns_alone, AtReturn, at_return}
use Rattle.match_bodies.proofs.Lemmas.{call_size, arrives, short, past_frame, HeadAbove, straight, call_keeps, return_keeps}
use Rattle.match_bodies.proofs.Walks.StackWalks.{callers, on_stack, stack_rises}
use Rattle.match_bodies.proofs.Steps.InstructionEffects.{others_of, is_idle, idle_leaves, idle_calls_nothing, Calls, calls, Returns, returns, word_loads}
use Rattle.match_bodies.proofs.Walks.RoutineWalks.{read_here, effect_here, word_number, context_is, ListAbove, Beneath, above_stays, callers_above, gives_owed, gives_above}

module _ (t : Functions) (fs : List Funclet) where
  -- ---- what a walk gives from an address and a stack pointer

  -- where a routine has just been entered: the return address is at RSP
  pub gives_entered : (u : State) (sp next : ℕ) (others : List ℕ) (cs : List Context)
      → FindsReturn t u.memory u.cpu.rip → register u.cpu Rsp ≡ sp
      → others_of u.cpu.registers ≡ others → word u.memory sp ≡ Ok next → sp + 8 < 2 ^ 64
      → GivesCallers t u.memory (state (context_below next (sp + 8) others) 0) cs
      → WalkGives t u (context_below next (sp + 8) others ∷ cs)
  gives_entered u sp next others cs finds at same pushed high rest =
      let c = context_of u.cpu in
      let caller = context_below next (sp + 8) others in
      let z : register u.cpu Rsp + 0 ≡ sp = omega arith in
      let h = finds_return t u.memory u.cpu.rip finds c next refl refl
      (let w : register u.cpu Rsp + 0 + 8 < 2 ^ 64 = omega arith in w)
      (ap (word u.memory) z ∙ pushed) in
      let is : caller_above c 0 next ≡ caller = λ i. context_below next (z i + 8) (same i) in
      let k = subst (HasCaller t u.memory c) is h in
      subst (λ x. GivesCallers t u.memory (state c 0) (x ∷ cs)) k.context
      (past_frame t u.memory (state c 0) k.frame (state caller 0) cs k.visits rest)

  module _ (o : Owed) (top from back : ℕ) (others : List ℕ) (is : List StackItem) where
    abbrev mine : List Context
    mine = callers_above t top back others is

    pub gives_here : (s : State) → Beneath t s o top from back others is
        → FindsOwed t s.memory s.cpu.rip o → WalkGives t s mine
    gives_here s b finds = gives_above t s o top from back others is b finds

    module _ (s u : State) (st : Steps s u) (b : Beneath t s o top from back others is) where
      -- ---- a call

      module _ (sp to : ℕ) (below : register s.cpu Rsp ≡ sp + 8) (next : ℕ)
          (next_is : s.cpu.rip + 5 ≡ next) (near : IsNear next to) (more : List Instr)
          (code : HasCode s.memory s.cpu.rip (call next to ∷ more)) where
        pub called : Calls (with_rip s next) u sp to
        called =
            let high = b.above.high in
            let at = b.at in
            let small = near.0 in
            let same : s.cpu.rip + size (call next to) ≡ next = omega (arith, call_size next to) in
            calls (with_rip s next) u (distance next to) sp to b.count (omega arith) below
            (omega arith) (arrives next to near)
            (subst (λ a. effect (with_rip s a) (call next to) ≡ Ok u) same
            (effect_here s u (call next to) more (short next to near) code st.steps))

        -- the caller's context once the callee has returned
        abbrev from_here : Context
        from_here = context_below next (sp + 8) (others_of s.cpu.registers)

        pub above_called : ListAbove t u.memory top from back others is
        above_called = let past = b.above.past in let at = b.at in
            above_stays t s u top from back others is st
            (λ x le. called.beside x (inr (omega arith))) b.above

        pub owed_called : IsOwed u.memory from_here o b.size back others
        owed_called =
            let same : from_here.kept ≡ (context_of s.cpu).kept =
            λ i. sym below i ∷ others_of s.cpu.registers in
            owed_with u.memory (context_of s.cpu) from_here o b.size back others same
            (owed_in s.memory u.memory (context_of s.cpu) o b.size back others st.protection
            (λ x w. called.beside x (inr
            (let l = owed_low s.memory (context_of s.cpu) o b.size back others b.owed x w in
            omega arith))) b.owed)

        -- the callee's first byte: the walk gives the caller's place too
        pub call_keeps_shadow : FindsOwed t s.memory s.cpu.rip o → FindsReturn t u.memory to
            → FindsOwed t u.memory next o → KeepsShadow t fs s u
        call_keeps_shadow before enters after =
            let high = b.above.high in
            let at = b.at in
            let c = called in
            let there_are = others_of s.cpu.registers in
            let quiet = ap is_call (read_here s u (call next to) more (short next to near) code) in
            let rest = gives_owed t u.memory from_here o b.size top back others is after owed_called
            (let z : sp + 8 + b.size ≡ top = omega arith in z) above_called.list in
            let there = gives_entered u sp next there_are mine
            (subst (λ a. FindsReturn t u.memory a) (sym c.rip) enters) c.stack
            c.others c.pushed (omega arith) rest in
            let n : number_at u.memory.byte 8 (register u.cpu Rsp)
            ≡ next = ap (number_at u.memory.byte 8) c.stack
            ∙ word_number u.memory sp next c.pushed in
            let same : context_below next (sp + 8) there_are
            ≡ caller_at u = λ i. context_below (sym n i) (sym c.stack i + 8) (sym c.others i) in
            call_keeps t fs s u mine st.steps quiet (gives_here s b before)
            (subst (λ x. WalkGives t u (x ∷ mine)) same there)

        -- it runs below its own return address, where the caller is as an item of the list
        pub beneath_callee : (i : StackItem) (limit : ℕ)
            → ItemIsAt t u.memory from_here i
            → context_after from_here i ≡ context_below back (top + 8) others
            → ((a : ℕ) → OwnedBy from_here i a → limit ≤ a)
            → sp + 8 ≤ limit → limit ≤ top
            → Beneath t u nothing_owed sp limit next (others_of s.cpu.registers) (i ∷ is)
        beneath_callee i limit is_there same owned le most =
            let c = called in
            let b' = above_called in
            let past = b.above.past in
            let high = b.above.high in
            let at = b.at in
            let flat : register u.cpu Rsp + 0 ≡ sp = omega (arith, c.stack) in
            record {
              above = record {
                list = (is_there, subst (λ x. IsStack t u.memory x is) (sym same) b'.list);
                owned = λ a w. elim w [
                  | inl x ↦ owned a x
                  | inr
                      x ↦ (let l = b.above.owned a (subst (λ k. Owned k is a) same x) in
                      omega arith)
                ];
                past = le;
                high = omega arith;
                limit = omega arith;
                no_code = b'.no_code;
              };
              count = c.count ∙ b.count;
              size = 0;
              at = flat;
              owed = subst (IsOwed u.memory (context_of u.cpu) nothing_owed 0 next) c.others
                  (returns_alone u.memory (context_of u.cpu) next refl
                  (let z : register u.cpu Rsp + 8 < 2 ^ 64 = omega (arith, c.stack) in z)
                  (ap (word u.memory) c.stack ∙ c.pushed));
            }

    -- ---- in `__chkstk`

    -- it returns to the prologue, where these codes are still to be undone, and RAX has the frame's
    -- size
    pub record Probing (s : State) (next n : ℕ) : Type 0 where
      pub above : ListAbove t s.memory top from back others is
      pub count : length s.cpu.registers ≡ 16
      pub size : ℕ
      pub at : register s.cpu Rsp + 8 + size ≡ top
      pub owed : IsOwed s.memory (context_below next (register s.cpu Rsp + 8)
          (others_of s.cpu.registers)) o size back others
      pub pushed : word s.memory (register s.cpu Rsp) ≡ Ok next
      pub rax : register s.cpu Rax ≡ n

    abbrev in_prologue : State → ℕ → Context
    in_prologue s next = context_below next (register s.cpu Rsp + 8) (others_of s.cpu.registers)

    gives_probing : (s : State) (next n : ℕ) → Probing s next n → FindsReturn t s.memory s.cpu.rip
        → FindsOwed t s.memory next o → WalkGives t s (in_prologue s next ∷ mine)
    gives_probing s next n h here there =
        let high = h.above.high in
        let at = h.at in
        let rest = gives_owed t s.memory (in_prologue s next) o h.size top back others is there
        h.owed h.at h.above.list in
        gives_entered s (register s.cpu Rsp) next (others_of s.cpu.registers) mine here refl refl
        h.pushed (omega arith) rest

    module _ (s u : State) (next n : ℕ) (st : Steps s u) (h : Probing s next n)
        (here : FindsReturn t s.memory s.cpu.rip) (finds : (m : Memory) → FindsOwed t m next o)
      where
        pub record Probed (to : ℕ) : Type 0 where
          pub keeps : KeepsShadow t fs s u
          pub probing : Probing u next n
          pub rip : u.cpu.rip ≡ to

        -- an instruction that leaves memory, RSP, RAX and what a called function keeps
        pub probed : (i : Instr) (more : List Instr) (to : ℕ) → is_encodable i ≡ true
            → HasCode s.memory s.cpu.rip (i ∷ more) → calls_on i ≡ false → u.memory ≡ s.memory
            → register u.cpu Rsp ≡ register s.cpu Rsp
            → others_of u.cpu.registers ≡ others_of s.cpu.registers
            → register u.cpu Rax ≡ register s.cpu Rax → u.cpu.rip ≡ to → FindsReturn t u.memory to
            → Probed to
        probed i more to enc code calm memory stack kept rax rip after =
            let same : in_prologue u next ≡ in_prologue s next =
            λ k. context_below next (stack k + 8) (kept k) in
            let then : Probing u next n = record {
              above = above_stays t s u top from back others is st
                  (λ x le. ap (λ (m : Memory). m.byte x) memory) h.above;
              count = st.count ∙ h.count;
              size = h.size;
              at = ap (λ x. x + 8 + h.size) stack ∙ h.at;
              owed = subst (λ (c : Context). IsOwed u.memory c o h.size back others) (sym same)
                  (subst (λ (m : Memory). IsOwed m (in_prologue s next) o h.size back others)
                  (sym memory) h.owed);
              pushed = ap (λ (m : Memory). word m (register u.cpu Rsp)) memory
                  ∙ ap (word s.memory) stack ∙ h.pushed;
              rax = rax ∙ h.rax;
            } in
            record {
              keeps = straight t fs s u (in_prologue s next ∷ mine) st.steps
                  (ap is_call (read_here s u i more enc code) ∙ calm)
                  (gives_probing s next n h here (finds s.memory))
                  (subst (λ c. WalkGives t u (c ∷ mine)) same
                  (gives_probing u next n then (subst (λ a. FindsReturn t u.memory a) (sym rip)
                  after) (finds u.memory)))
                  (let k : register u.cpu Rsp + 8 ≤ register s.cpu Rsp + 8 =
                  omega (arith, stack) in k);
              probing = then;
              rip = rip;
            }

        pub probes : (i : Instr) (more : List Instr) → is_idle i ≡ true → is_encodable i ≡ true
            → HasCode s.memory s.cpu.rip (i ∷ more) → register u.cpu Rax ≡ register s.cpu Rax
            → FindsReturn t u.memory (s.cpu.rip + size i) → Probed (s.cpu.rip + size i)
        probes i more idle enc code rax after =
            let to = with_rip s (s.cpu.rip + size i) in
            let l = idle_leaves to u i idle (effect_here s u i more enc code st.steps) in
            probed i more (s.cpu.rip + size i) enc code (idle_calls_nothing i idle) l.memory l.stack
            l.others rax l.rip after

        pub record ProbeReturned : Type 0 where
          pub keeps : KeepsShadow t fs s u
          pub beneath : Beneath t u o top from back others is
          pub rip : u.cpu.rip ≡ next
          pub stack : register u.cpu Rsp ≡ register s.cpu Rsp + 8
          pub rax : register u.cpu Rax ≡ n

        pub probe_returns : (more : List Instr) → HasCode s.memory s.cpu.rip (instrs.Return ∷ more)
            → ProbeReturned
        probe_returns more code =
            let high = h.above.high in
            let at = h.at in
            let sp = register s.cpu Rsp + 8 in
            let to = with_rip s (s.cpu.rip + size instrs.Return) in
            let r = returns to u sp next h.count refl (omega arith)
            (word_loads s.memory (register s.cpu Rsp) next h.pushed)
            (effect_here s u instrs.Return more refl code st.steps) in
            let same = context_is u next sp (others_of s.cpu.registers) r.rip r.stack r.others in
            let b' : Beneath t u o top from back others is = record {
              above = above_stays t s u top from back others is st
                  (λ x le. ap (λ (m : Memory). m.byte x) r.memory) h.above;
              count = r.count ∙ h.count;
              size = h.size;
              at = ap (λ x. x + h.size) r.stack ∙ h.at;
              owed = subst (λ (c : Context). IsOwed u.memory c o h.size back others) (sym same)
                  (subst (λ (m : Memory). IsOwed m (in_prologue s next) o h.size back others)
                  (sym r.memory) h.owed);
            } in
            let quiet = ap is_call (read_here s u instrs.Return more refl code) in
            let stack = r.stack in
            record {
              keeps = return_keeps t fs s u (in_prologue s next) mine st.steps quiet
                  (gives_probing s next n h here (finds s.memory))
                  (gives_here u b' (subst (λ a. FindsOwed t u.memory a o) (sym r.rip)
                  (finds u.memory)))
                  (let k : register s.cpu Rsp + 8 < register u.cpu Rsp + 8 = omega arith in k)
                  (let k : register u.cpu Rsp + 8 ≤ top + 8 = omega arith in k);
              beneath = b';
              rip = r.rip;
              stack = r.stack;
              rax = r.rax ∙ h.rax;
            }

  -- ---- a return

  module _ (top from back : ℕ) (others : List ℕ) (is : List StackItem) (s u : State)
      (st : Steps s u) (b : Beneath t s nothing_owed top from back others is) (more : List Instr)
      (code : HasCode s.memory s.cpu.rip (instrs.Return ∷ more)) where
    abbrev above : Context
    above = context_below back (top + 8) others

    ends : AtReturn s.memory (context_of s.cpu) b.size back others
    ends = at_return s.memory (context_of s.cpu) b.size back others b.owed

    at_top : register s.cpu Rsp ≡ top
    at_top = sym ends.none ∙ b.at

    pub returned : Returns (with_rip s (s.cpu.rip + size instrs.Return)) u (top + 8) back
    returned =
        let high = b.above.high in
        returns (with_rip s (s.cpu.rip + size instrs.Return)) u (top + 8) back b.count
        (ap (λ x. x + 8) at_top) (omega arith)
        (word_loads s.memory (register s.cpu Rsp) back ends.returns)
        (effect_here s u instrs.Return more refl code st.steps)

    -- the caller has its registers again
    pub returned_others : others_of u.cpu.registers ≡ others
    returned_others = returned.others ∙ ends.others_are

    pub returned_context : context_of u.cpu ≡ above
    returned_context = context_is u back (top + 8) others returned.rip returned.stack
        returned_others

    pub list_after : IsStack t u.memory above is
    list_after = subst (λ (m : Memory). IsStack t m above is) (sym returned.memory) b.above.list

    pub return_keeps_shadow : FindsReturn t s.memory s.cpu.rip → KeepsShadow t fs s u
    return_keeps_shadow finds =
        let quiet = ap is_call (read_here s u instrs.Return more refl code) in
        let r = returned.stack in
        return_keeps t fs s u above (callers above is) st.steps quiet
        (gives_above t s nothing_owed top from back others is b finds)
        (subst (λ c. GivesCallers t u.memory (state c 0) (callers above is))
        (sym returned_context) (on_stack t u.memory above 0 is list_after))
        (let h : top + 8 < register u.cpu Rsp + 8 = omega arith in h)
        (subst (λ sp. HeadAbove sp (callers above is)) (sym r)
        (stack_rises t s.memory above is b.above.list))
