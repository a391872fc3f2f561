-- Each instruction of a prologue keeps the shadow: below the routine's return address the codes of
-- those that have been run are still to be undone.
use Rattle.std.proofs.Common.{◌≡◌, ℕ, zero, suc, ◌+◌, ◌^◌, ◌<◌, ◌≤◌, true, false, List, [], ◌∷◌, length, Option, Some, None, refl, sym, ap, subst, ◌∙◌, arith}
use Rattle.std.specs.Prelude.{slice_index}
use Rattle.std.proofs.lemmas.Bool.{false≢true, and_parts}
use Rattle.match_bodies.specs.Words.{Memory, executable, W64, Rax, Rsp, Instr, leading, is_encodable, context_of, get, State, register, Functions, Funclet, size, AllSmall, Steps, HasCode, StackItem, context_below, is_call, KeepsShadow, FindsOwed, Owed, IsOwed, caller_owed, calls}
use Rattle.eh_tables.specs.declared.code.UnwindOperation.{UnwindOperation}
use Rattle.eh_tables.specs.declared.code.UnwindOperation.TheVariants.{Push, Allocate, SetFrame, Save, SaveVector, MachineFrame}
use Rattle.x64_instr.specs.declared.operand.RegisterOrMemory.TheVariants as places
use Rattle.x64_instr.specs.declared.operand.Operand.TheVariants as operands
use Rattle.x64_instr.specs.declared.instruction.Operation.TheVariants as arithmetic
use Rattle.x64_instr.specs.declared.instruction.Instr.TheVariants as instrs
use Rattle.virtual_unwind.specs.Contexts.{kept_at, kept_index}
use Rattle.virtual_unwind.proofs.Registers.{get-context}
use Rattle.frame_rules.specs.Codes.{depth, is_allowed, are_allowed, are_pushes}
use Rattle.frame_rules.specs.Frame.{Stack, Others, HoldsFrame}
use Rattle.frame_rules.specs.Prologue.{does}
use Rattle.frame_rules.specs.States.{registers}
use Rattle.frame_rules.proofs.Order.{Ordered, allocate, Follows}
use Rattle.frame_rules.proofs.Undoing.{stack_depth, saved_register, framed_saved}
use Rattle.match_bodies.proofs.Lemmas.{straight}
use Rattle.match_bodies.proofs.Steps.InstructionEffects.{is_idle, idle_leaves, idle_calls_nothing}
use Rattle.match_bodies.proofs.Walks.RoutineWalks.{read_here, effect_here, Beneath, above_stays, beneath_stays, callers_above, gives_above}
use Rattle.match_bodies.proofs.Prologues.PrologueInstructions.{Did, does_one, allocated_by_rax}

-- what a code says is no call
does_no_call : (f offset : ℕ) (op : UnwindOperation) (i : Instr) → does f offset op i ≡ true
    → calls i ≡ false
does_no_call f offset (Push r) (instrs.Call to) e = absurd (false≢true e)
does_no_call f offset (Allocate r) (instrs.Call to) e = absurd (false≢true e)
does_no_call f offset SetFrame (instrs.Call to) e = absurd (false≢true e)
does_no_call f offset (Save r k) (instrs.Call to) e = absurd (false≢true e)
does_no_call f offset (SaveVector r k) (instrs.Call to) e = absurd (false≢true e)
does_no_call f offset (MachineFrame k) (instrs.Call to) e = absurd (false≢true e)
does_no_call f offset op i e = refl

-- small numbers are small at each place
pub small_at : (xs : List ℕ) → AllSmall xs → (k : ℕ) → slice_index xs k < 2 ^ 64
small_at [] h k = omega arith
small_at (x ∷ xs) h zero = h 0 (omega arith)
small_at (x ∷ xs) h (suc k) = small_at xs (λ j lt. h (suc j) (omega arith)) k

-- these codes, with this frame register
abbrev pub of_codes : ℕ → ℕ → List UnwindOperation → Owed
of_codes f offset ops = record { register = f; offset = offset; codes = ops }

-- an allocation leaves the order of the pushes before it
pushes_before : (k : ℕ) (ops : List UnwindOperation) → Ordered (Allocate k ∷ ops)
    → are_pushes ops ≡ true
pushes_before k ops (allocate p o) = p

-- RSP falls by RAX
abbrev pub falling : Instr
falling = instrs.Arithmetic arithmetic.Sub W64 (places.Register Rsp) (operands.Register Rax)

module _ (t : Functions) (fs : List Funclet) (f offset top from back : ℕ) (others : List ℕ)
    (is : List StackItem) where
  abbrev pub Below : List UnwindOperation → State → Type 0
  Below ops s = Beneath t s (of_codes f offset ops) top from back others is

  abbrev pub Finds : State → List UnwindOperation → Type 0
  Finds s ops = FindsOwed t s.memory s.cpu.rip (of_codes f offset ops)

  -- the registers at the routine's first byte
  abbrev pub old : ℕ → ℕ
  old = get (context_below back top others)

  same_old : (s : State) (size : ℕ) → register s.cpu Rsp + size ≡ top
      → get (caller_owed (context_of s.cpu) size back others) ≡ old
  same_old s size e = ap (λ n. get (context_below back n others)) e

  -- ---- an instruction that writes no memory, and no register but volatile ones

  pub record Idled (s u : State) (i : Instr) (ops : List UnwindOperation) : Type 0 where
    pub keeps : KeepsShadow t fs s u
    pub beneath : Below ops u
    pub rip : u.cpu.rip ≡ s.cpu.rip + size i
    pub stack : register u.cpu Rsp ≡ register s.cpu Rsp

  pub idles : (s u : State) (i : Instr) (more : List Instr) (ops : List UnwindOperation)
      → is_idle i ≡ true → is_encodable i ≡ true → HasCode s.memory s.cpu.rip (i ∷ more)
      → Steps s u → Below ops s → Finds s ops
      → FindsOwed t u.memory (s.cpu.rip + size i) (of_codes f offset ops) → Idled s u i ops
  idles s u i more ops idle enc code st b before after =
      let l = idle_leaves (record s {
        cpu = record { registers = s.cpu.registers; rip = s.cpu.rip + size i; flags = s.cpu.flags };
      }) u i idle (effect_here s u i more enc code st.steps) in
      let b' = beneath_stays t s u (of_codes f offset ops) top from back others is st l.stack
      l.others (λ x w. ap (λ (m : Memory). m.byte x) l.memory) b in
      let low = b.at in
      let same = l.stack in
      record {
        keeps = straight t fs s u (callers_above t top back others is) st.steps
            (ap is_call (read_here s u i more enc code) ∙ idle_calls_nothing i idle)
            (gives_above t s (of_codes f offset ops) top from back others is b before)
            (gives_above t u (of_codes f offset ops) top from back others is b'
            (subst (λ a. FindsOwed t u.memory a (of_codes f offset ops)) (sym l.rip) after))
            (let h : register u.cpu Rsp + 8 ≤ top + 8 = omega arith in h);
        beneath = b';
        rip = l.rip;
        stack = l.stack;
      }

  -- ---- an instruction of a code

  module _ (near : offset < 2 ^ 16) (small : AllSmall others) (high : top < 2 ^ 63) where
    pub fits : (r : ℕ) → old r < 2 ^ 64
    fits r = by (kept_index r)
      where
        by : (o : Option ℕ) → kept_at (context_below back top others) o < 2 ^ 64
        by None = omega arith
        by (Some zero) = omega arith
        by (Some (suc k)) = small_at others small k

    -- as the rules for frames see it
    pub holds : (s : State) (ops : List UnwindOperation) → Below ops s
        → HoldsFrame f offset s.memory old back (registers s) ops ops
    holds s ops b =
        let c = context_of s.cpu in
        let same = same_old s b.size b.at in
        let o = b.owed in
        record {
          stack = subst (λ (g : ℕ → ℕ). Stack s.memory g back (registers s 4) (registers s 4) ops)
              same o.stack;
          framed = framed_saved f offset (get c) (registers s) (registers s 4) ops o.allowed
              (λ y. get-context s.cpu f (saved_register f f ops o.allowed y).0) o.framed;
          others = λ r nv ne z. sym (get-context s.cpu r nv)
              ∙ subst (λ (g : ℕ → ℕ). Others g (get c) ops) same o.unsaved r nv ne z;
        }

    pub owed_from : (u : State) (ops : List UnwindOperation) → are_allowed f ops ≡ true
        → length others ≡ 8
        → HoldsFrame f offset u.memory old back (registers u) ops ops
        → register u.cpu Rsp + depth ops ≡ top
        → IsOwed u.memory (context_of u.cpu) (of_codes f offset ops) (depth ops) back others
    owed_from u ops allowed eight h at =
        let c = context_of u.cpu in
        let same = sym (same_old u (depth ops) at) in
        record {
          kept = refl;
          eight = eight;
          room = (let z : register u.cpu Rsp + depth ops + 8 < 2 ^ 64 = omega arith in z);
          small = omega arith;
          allowed = allowed;
          stack = subst (λ (g : ℕ → ℕ). Stack u.memory g back (registers u 4) (registers u 4) ops)
              same h.stack;
          framed = framed_saved f offset (registers u) (get c) (registers u 4) ops allowed
              (λ y. sym (get-context u.cpu f (saved_register f f ops allowed y).0)) h.framed;
          unsaved = subst (λ (g : ℕ → ℕ). Others g (get c) ops) same
              (λ r nv ne z. get-context u.cpu r nv ∙ h.others r nv ne z);
        }

    -- the codes of one instruction more are to be undone
    pub record Made (s u : State) (next : ℕ) (ops : List UnwindOperation) : Type 0 where
      pub keeps : KeepsShadow t fs s u
      pub beneath : Below ops u
      pub rip : u.cpu.rip ≡ next

    pub did_made : (s u : State) (next : ℕ) (op : UnwindOperation) (ops : List UnwindOperation)
        → Steps s u → Below ops s → are_allowed f (op ∷ ops) ≡ true
        → Did f offset back old fits high s u next op ops
        → is_call (leading (executable s.memory 15 s.cpu.rip)) ≡ false → Finds s ops
        → FindsOwed t u.memory next (of_codes f offset (op ∷ ops)) → Made s u next (op ∷ ops)
    did_made s u next op ops st b allowed d quiet before after =
        let past = b.above.past in
        let deep : registers u 4 + depth (op ∷ ops) ≡ top = stack_depth u.memory old back
        (registers u 4) (registers u 4) (op ∷ ops) d.holds.stack in
        let b' : Below (op ∷ ops) u = record {
          above = above_stays t s u top from back others is st (λ x le. d.beside x (omega arith))
              b.above;
          count = d.count;
          size = depth (op ∷ ops);
          at = deep;
          owed = owed_from u (op ∷ ops) allowed b.owed.eight d.holds deep;
        } in
        record {
          keeps = straight t fs s u (callers_above t top back others is) st.steps quiet
              (gives_above t s (of_codes f offset ops) top from back others is b before)
              (gives_above t u (of_codes f offset (op ∷ ops)) top from back others is b'
              (subst (λ a. FindsOwed t u.memory a (of_codes f offset (op ∷ ops))) (sym d.rip)
              after))
              (let h : register u.cpu Rsp + 8 ≤ top + 8 = omega arith in h);
          beneath = b';
          rip = d.rip;
        }

    -- what a code says in one instruction
    pub made : (s u : State) (i : Instr) (more : List Instr) (op : UnwindOperation)
        (ops : List UnwindOperation) → Steps s u → Below ops s → Ordered (op ∷ ops)
        → are_allowed f (op ∷ ops) ≡ true → depth (op ∷ ops) ≤ top → Follows f op ops
        → does f offset op i ≡ true → is_encodable i ≡ true
        → HasCode s.memory s.cpu.rip (i ∷ more) → Finds s ops
        → FindsOwed t u.memory (s.cpu.rip + size i) (of_codes f offset (op ∷ ops))
        → Made s u (s.cpu.rip + size i) (op ∷ ops)
    made s u i more op ops st b order allowed room fo d enc code before after =
        let a = and_parts (is_allowed f ops op) (are_allowed f ops) allowed in
        let h = holds s ops b in
        let d' : registers s 4 + depth ops ≡ top = stack_depth s.memory old back (registers s 4)
        (registers s 4) ops h.stack in
        did_made s u (s.cpu.rip + size i) op ops st b allowed
        (does_one f offset back old fits high s u (s.cpu.rip + size i) op ops i near b.count
        (omega arith) a.0 a.1 order fo d h (effect_here s u i more enc code st.steps))
        (ap is_call (read_here s u i more enc code) ∙ does_no_call f offset op i d) before after

    -- the last of the three of a large allocation
    pub made_by_rax : (s u : State) (more : List Instr) (k : ℕ) (ops : List UnwindOperation)
        → Steps s u → Below ops s → Ordered (Allocate k ∷ ops)
        → are_allowed f (Allocate k ∷ ops) ≡ true → depth (Allocate k ∷ ops) ≤ top
        → register s.cpu Rax ≡ k → HasCode s.memory s.cpu.rip (falling ∷ more) → Finds s ops
        → FindsOwed t u.memory (s.cpu.rip + size falling) (of_codes f offset (Allocate k ∷ ops))
        → Made s u (s.cpu.rip + size falling) (Allocate k ∷ ops)
    made_by_rax s u more k ops st b order allowed room rax code before after =
        let h = holds s ops b in
        let d : registers s 4 + depth ops ≡ top = stack_depth s.memory old back (registers s 4)
        (registers s 4) ops h.stack in
        did_made s u (s.cpu.rip + size falling) (Allocate k) ops st b allowed
        (allocated_by_rax f offset back old fits high s u (s.cpu.rip + size falling) k ops b.count
        (omega arith) rax (pushes_before k ops order) h
        (effect_here s u falling more refl code st.steps))
        (ap is_call (read_here s u falling more refl code)) before after
