-- What an instruction of a prologue does to the frame, where it has been run: a word that was
-- stored could be written.
use Rattle.std.proofs.Common.{◌≡◌, ◌≢◌, ℕ, ◌+◌, ◌-◌, ◌%◌, ◌^◌, ◌<◌, ◌≤◌, true, false, not, ◌&&◌, eqb, leb, List, ◌∷◌, length, get_or, set, Option, Some, None, Ok, refl, sym, ap, subst, ◌∙◌, arith, length-set}
use Rattle.std.proofs.lemmas.Bool.{false≢true, and_parts, or_parts, eqb-true, eqb-false, not-true, leb-true}
use Rattle.match_bodies.specs.Words.{Memory, W64, first_refused, may_write, with_number, with_bytes, access, unless_refused, Reg, Rax, Rsp, Instr, State, Answer, granted, store, with_rip, effect}
use Rattle.seh_num.specs.Answers.{◌>>=◌}
use Rattle.eh_tables.specs.declared.code.UnwindOperation.{UnwindOperation}
use Rattle.eh_tables.specs.declared.code.UnwindOperation.TheVariants.{Push, Allocate, SetFrame, Save}
use Rattle.x64_instr.specs.Registers.{number}
use Rattle.x64_instr.specs.declared.operand.MemRef.{MemRef}
use Rattle.x64_instr.specs.declared.operand.RegisterOrMemory.TheVariants as places
use Rattle.x64_instr.specs.declared.operand.Operand.TheVariants as operands
use Rattle.x64_instr.specs.declared.instruction.Operation.TheVariants as arithmetic
use Rattle.x64_instr.specs.declared.instruction.Instr.TheVariants as instrs
use Rattle.x64_instr.proofs.RegisterNumbers.{number_small}
use Rattle.x64_machine.specs.Effect.{address_of}
use Rattle.x64_machine.specs.Words.{subtracted}
use Rattle.x64_machine.specs.declared.cpu.Cpu.{Cpu}
use Rattle.virtual_unwind.specs.CallerOf.{sets_frame}
use Rattle.virtual_unwind.specs.Contexts.{is_nonvolatile}
use Rattle.flat_memory.proofs.Stores.{untouched, stored_is_loaded, writable_is_readable}
use Rattle.frame_rules.specs.Codes as codes
use Rattle.frame_rules.specs.Codes.{allocation, may_save, is_allowed, are_allowed, is_saved, are_apart, are_pushes}
use Rattle.frame_rules.specs.Frame.{Stack, Framed, HoldsFrame, IsWord}
use Rattle.frame_rules.specs.Prologue.{does, is_stack, is_place}
use Rattle.frame_rules.specs.States.{registers}
use Rattle.frame_rules.proofs.Order.{Ordered, push, allocate, frame, save, of_pushes, unframed, framed_above, pushes_unframed, pushes_alone, Follows}
use Rattle.frame_rules.proofs.Steps.{set_same, set_other, ok_same, subtract_effect, difference, stack_address, place_address, allocation_depth}
use Rattle.frame_rules.proofs.Undoing.{stack_depth, saved_register}
use Rattle.frame_rules.proofs.Words.{left_words, pushes_apart, rebased}

-- ---- answers

pub same_state : (t u : State) (a : Answer State) → a ≡ Ok t → a ≡ Ok u → u ≡ t
same_state t u a p q = sym (ok_same (sym p ∙ q))

-- a word that was stored could be written
record Stored (s u : State) (at v : ℕ) : Type 0 where
  may : first_refused (may_write s.memory) 8 at ≡ None
  is : u ≡ record s { memory = with_bytes s.memory (with_number s.memory.byte 8 at v) }

was_stored : (s u : State) (at v : ℕ) → store s at W64 v ≡ Ok u → Stored s u at v
was_stored s u at v e = by (first_refused (may_write s.memory) 8 at) refl e
  where
    by : (o : Option ℕ) → first_refused (may_write s.memory) 8 at ≡ o
        → ◌≡◌ {A = Answer State} (granted (access {A = Unit {0}} true o tt) >>= λ _. Ok (record s {
          memory = unless_refused o (with_bytes s.memory (with_number s.memory.byte 8 at v))
              s.memory;
        })) (Ok u) → Stored s u at v
    by None same is' = record { may = same; is = sym (ok_same is') }
    by (Some x) same is' = absurd cc

-- and it is read as it was stored
stored_word : (m : Memory) (at v : ℕ) → at + 8 ≤ 2 ^ 64 → v < 2 ^ 64
    → first_refused (may_write m) 8 at ≡ None
    → IsWord (with_bytes m (with_number m.byte 8 at v)) at v
stored_word m at v high fits may = record {
  readable = writable_is_readable m 8 at may;
  value = stored_is_loaded m.byte 8 at v (omega arith) (omega arith)
      ∙ (let e : v % 2 ^ 64 ≡ v = omega arith in e);
  high = high;
}

stored_beside : (m : Memory) (at v x : ℕ) → at + 8 ≤ x → at + 8 ≤ 2 ^ 64
    → with_number m.byte 8 at v x ≡ m.byte x
stored_beside m at v x le high = untouched m.byte 8 at v x (λ i lt e. absurd (omega arith))
    (omega arith)

push_stores : (s : State) (a at : ℕ) (q : Reg) → registers s 4 ≡ at + 8 → at + 8 < 2 ^ 64
    → effect (with_rip s a) (instrs.Push q)
    ≡ store (record s {
      cpu = record { registers = set s.cpu.registers 4 at; rip = a; flags = s.cpu.flags };
    }) at W64 (registers s (number q))
push_stores s a at q top lt =
    let F : ℕ → ℕ → Answer State = λ x y. store
    (record s {
      cpu = record { registers = set s.cpu.registers 4 y; rip = a; flags = s.cpu.flags };
    }) x W64 (registers s (number q)) in
    let raw : (registers s 4 + (2 ^ 64 - 8)) % 2 ^ 64 ≡ at = omega arith in
    let low : at % 2 ^ 64 ≡ at = omega arith in
    ap (λ x. F x (x % 2 ^ 64)) raw ∙ ap (F at) low

-- ---- the frame of the codes that have been run

-- at the function's first byte registers have numbers of 64 bits

module _ (f offset back : ℕ) (old : ℕ → ℕ) (fits : (r : ℕ) → old r < 2 ^ 64)
    (high : old 4 < 2 ^ 63) where
  abbrev pub Holds : List UnwindOperation → State → Type 0
  Holds ops s = HoldsFrame f offset s.memory old back (registers s) ops ops

  -- one more of them has been run, and nothing from the return address up has changed
  pub record Did (s u : State) (a : ℕ) (op : UnwindOperation) (ops : List UnwindOperation) :
      Type 0 where
    pub count : length u.cpu.registers ≡ 16
    pub holds : Holds (op ∷ ops) u
    pub rip : u.cpu.rip ≡ a
    pub beside : (x : ℕ) → old 4 ≤ x → u.memory.byte x ≡ s.memory.byte x

  -- ---- pushes

  pushed : (s u : State) (a : ℕ) (q : Reg) (ops : List UnwindOperation)
      → length s.cpu.registers ≡ 16 → 8 ≤ registers s 4 → may_save (number q) ops ≡ true
      → are_pushes ops ≡ true → Holds ops s → effect (with_rip s a) (instrs.Push q) ≡ Ok u
      → Did s u a (Push (number q)) ops
  pushed s u a q ops n room m p h ef =
      let r = number q in
      let d = stack_depth s.memory old back (registers s 4) (registers s 4) ops h.stack in
      let at = registers s 4 - 8 in
      let top : registers s 4 ≡ at + 8 = omega arith in
      let once = and_parts (is_nonvolatile r) (not (eqb r 4) && not (is_saved r ops)) m in
      let apart = and_parts (not (eqb r 4)) (not (is_saved r ops)) once.1 in
      let val = h.others r once.0 (eqb-false r 4 (not-true (eqb r 4) apart.0))
      (not-true (is_saved r ops) apart.1) in
      let st = was_stored (record s {
        cpu = record { registers = set s.cpu.registers 4 at; rip = a; flags = s.cpu.flags };
      }) u at (registers s r) (sym (push_stores s a at q top (omega arith)) ∙ ef) in
      let after = with_bytes s.memory (with_number s.memory.byte 8 at (old r)) in
      let memory : u.memory ≡ after = ap (λ (x : State). x.memory) st.is
      ∙ ap (λ v. with_bytes s.memory (with_number s.memory.byte 8 at v)) val in
      let now : (k : ℕ) → registers u k ≡ get_or (set s.cpu.registers 4 at) k 0 = λ k. ap
      (λ (x : State). registers x k) st.is in
      let sp : registers u 4 ≡ at = now 4 ∙ set_same s.cpu.registers 4 at n (omega arith) in
      let others : (k : ℕ) → k ≢ 4 → registers u k ≡ registers s k = λ k ne. now k
      ∙ set_other s.cpu.registers 4 k at ne in
      let word = stored_word s.memory at (old r) (omega arith) (fits r) st.may in
      let z : at + 0 ≡ at = omega arith in
      let alone = pushes_alone ops p in
      let words0 = left_words s.memory old back at (registers s 4) 0 (old r) ops (of_pushes ops p)
      (omega arith) (omega arith) (pushes_apart 0 ops p)
      (rebased s.memory old back (registers s 4) at (registers s 4) ops p h.stack) in
      let words1 = subst (λ w. Stack (with_bytes s.memory (with_number s.memory.byte 8 w (old r)))
      old back at (registers s 4) ops) z words0 in
      let words = subst (λ w. Stack after old back at w ops) top words1 in
      record {
        count = ap (λ (x : State). length x.cpu.registers) st.is ∙ length-set s.cpu.registers 4 at
            ∙ n;
        holds = record {
          stack = subst (λ x. Stack u.memory old back x x (Push r ∷ ops)) (sym sp)
              (subst (λ (x : Memory). Stack x old back at at (Push r ∷ ops)) (sym memory)
              (word, words));
          framed = unframed f offset (registers u) (registers u 4) (Push r ∷ ops)
              (pushes_unframed ops p);
          others = λ k nv ne s'. others k ne ∙ h.others k nv ne
              (or_parts (eqb r k) (is_saved k ops) s').1;
        };
        rip = ap (λ (x : State). x.cpu.rip) st.is;
        beside = λ x le. ap (λ (k : Memory). k.byte x) memory
            ∙ stored_beside s.memory at (old r) x (omega arith) (omega arith);
      }

  -- ---- allocations

  -- RSP falls, and nothing else changes
  fell : (s u : State) (a k : ℕ) (ops : List UnwindOperation) → are_pushes ops ≡ true → Holds ops s
      → length u.cpu.registers ≡ 16 → u.memory ≡ s.memory → u.cpu.rip ≡ a
      → registers u 4 + k ≡ registers s 4
      → ((q : ℕ) → q ≢ 4 → registers u q ≡ registers s q) → Did s u a (Allocate k) ops
  fell s u a k ops p h count same rip sp others =
      let stack0 = rebased s.memory old back (registers s 4) (registers u 4) (registers s 4) ops p
      h.stack in
      let stack1 = subst (λ x. Stack s.memory old back (registers u 4) x ops) (sym sp) stack0 in
      record {
        count = count;
        holds = record {
          stack = subst (λ (x : Memory). Stack x old back (registers u 4) (registers u 4)
              (Allocate k ∷ ops)) (sym same) stack1;
          framed = unframed f offset (registers u) (registers u 4) (Allocate k ∷ ops)
              (pushes_unframed ops p);
          others = λ q nv ne z. others q ne ∙ h.others q nv ne z;
        };
        rip = rip;
        beside = λ x le. ap (λ (m : Memory). m.byte x) same;
      }

  -- by what another number is taken off
  falls_by : (s u : State) (a k v : ℕ) (ops : List UnwindOperation) → length s.cpu.registers ≡ 16
      → k ≤ registers s 4 → v ≡ k → are_pushes ops ≡ true → Holds ops s
      → u ≡ (record s {
        cpu = record {
          registers = set s.cpu.registers 4
              ((subtracted W64 (registers s 4 % 2 ^ 64) (v % 2 ^ 64)).0 % 2 ^ 64);
          rip = a;
          flags = (subtracted W64 (registers s 4 % 2 ^ 64) (v % 2 ^ 64)).1;
        };
      }) → Did s u a (Allocate k) ops
  falls_by s u a k v ops n room same p h is =
      let d = stack_depth s.memory old back (registers s 4) (registers s 4) ops h.stack in
      let w = (subtracted W64 (registers s 4 % 2 ^ 64) (v % 2 ^ 64)).0 % 2 ^ 64 in
      let now : (q : ℕ) → registers u q ≡ get_or (set s.cpu.registers 4 w) q 0 = λ q. ap
      (λ (x : State). registers x q) is in
      let sp : registers u 4 ≡ registers s 4 - v = now 4
      ∙ set_same s.cpu.registers 4 w n (omega arith)
      ∙ difference (registers s 4) v (omega arith) (omega arith) in
      fell s u a k ops p h
      (ap (λ (x : State). length x.cpu.registers) is ∙ length-set s.cpu.registers 4 w ∙ n)
      (ap (λ (x : State). x.memory) is) (ap (λ (x : State). x.cpu.rip) is) (omega arith)
      (λ q ne. now q ∙ set_other s.cpu.registers 4 q w ne)

  allocated : (s u : State) (a k : ℕ) (ops : List UnwindOperation) → length s.cpu.registers ≡ 16
      → k ≤ registers s 4 → are_pushes ops ≡ true → Holds ops s
      → effect (with_rip s a)
      (instrs.Arithmetic arithmetic.Sub W64 (places.Register Rsp) (operands.Immediate k)) ≡ Ok u
      → Did s u a (Allocate k) ops
  allocated s u a k ops n room p h ef =
      falls_by s u a k k ops n room refl p h
      (same_state (record s {
        cpu = record {
          registers = set s.cpu.registers 4
              ((subtracted W64 (registers s 4 % 2 ^ 64) (k % 2 ^ 64)).0 % 2 ^ 64);
          rip = a;
          flags = (subtracted W64 (registers s 4 % 2 ^ 64) (k % 2 ^ 64)).1;
        };
      }) u (effect (with_rip s a)
      (instrs.Arithmetic arithmetic.Sub W64 (places.Register Rsp) (operands.Immediate k)))
      (subtract_effect s a k) ef)

  -- by RAX
  pub allocated_by_rax : (s u : State) (a k : ℕ) (ops : List UnwindOperation)
      → length s.cpu.registers ≡ 16 → k ≤ registers s 4 → registers s 0 ≡ k
      → are_pushes ops ≡ true → Holds ops s
      → effect (with_rip s a)
      (instrs.Arithmetic arithmetic.Sub W64 (places.Register Rsp) (operands.Register Rax)) ≡ Ok u
      → Did s u a (Allocate k) ops
  allocated_by_rax s u a k ops n room rax p h ef =
      falls_by s u a k (registers s 0) ops n room rax p h
      (same_state (record s {
        cpu = record {
          registers = set s.cpu.registers 4
              ((subtracted W64 (registers s 4 % 2 ^ 64) (registers s 0 % 2 ^ 64)).0 % 2 ^ 64);
          rip = a;
          flags = (subtracted W64 (registers s 4 % 2 ^ 64) (registers s 0 % 2 ^ 64)).1;
        };
      }) u (effect (with_rip s a)
      (instrs.Arithmetic arithmetic.Sub W64 (places.Register Rsp) (operands.Register Rax))) refl ef)

  -- ---- a frame register

  framed : (s u : State) (a : ℕ) (ops : List UnwindOperation) (to : Reg) (m : MemRef)
      → offset < 2 ^ 16 → length s.cpu.registers ≡ 16 → number to ≡ f → is_stack offset m ≡ true
      → is_saved f ops ≡ true → are_allowed f ops ≡ true → sets_frame ops ≡ false → Holds ops s
      → effect (with_rip s a) (instrs.LoadAddress W64 to m) ≡ Ok u → Did s u a SetFrame ops
  framed s u a ops to m small n same place saved allowed free h ef =
      let d = stack_depth s.memory old back (registers s 4) (registers s 4) ops h.stack in
      let is = saved_register f f ops allowed saved in
      let c : Cpu = record { registers = s.cpu.registers; rip = a; flags = s.cpu.flags } in
      let lt : registers s 4 + offset < 2 ^ 64 = omega arith in
      let at = stack_address c offset m place lt in
      let v = address_of c m % 2 ^ 64 in
      let value : v ≡ registers s 4 + offset = omega arith in
      let e = same_state (record s {
        cpu = record {
          registers = set s.cpu.registers (number to) v;
          rip = a;
          flags = s.cpu.flags;
        };
      }) u (effect (with_rip s a) (instrs.LoadAddress W64 to m)) refl ef in
      let memory : u.memory ≡ s.memory = ap (λ (x : State). x.memory) e in
      let now : (q : ℕ) → registers u q ≡ get_or (set s.cpu.registers (number to) v) q 0 = λ q. ap
      (λ (x : State). registers x q) e in
      let others : (q : ℕ) → q ≢ f → registers u q ≡ registers s q = λ q ne. now q
      ∙ set_other s.cpu.registers (number to) q v (λ z. ne (z ∙ same)) in
      let sp : registers u 4 ≡ registers s 4 = others 4 (λ z. is.1 (sym z)) in
      let fp : registers u f ≡ registers s 4 + offset = now f
      ∙ ap (λ k. get_or (set s.cpu.registers (number to) v) k 0) (sym same)
      ∙ set_same s.cpu.registers (number to) v n (number_small to) ∙ value in
      record {
        count = ap (λ (x : State). length x.cpu.registers) e
            ∙ length-set s.cpu.registers (number to) v ∙ n;
        holds = record {
          stack = subst (λ x. Stack u.memory old back x x ops) (sym sp)
              (subst (λ (x : Memory). Stack x old back (registers s 4) (registers s 4) ops)
              (sym memory) h.stack);
          framed = (
            fp ∙ ap (λ x. x + offset) (sym sp),
            unframed f offset (registers u) (registers u 4) ops free,
          );
          others = λ q nv ne z. others q (λ k. false≢true
              (sym z ∙ (ap (λ j. is_saved j ops) k ∙ saved))) ∙ h.others q nv ne z;
        };
        rip = ap (λ (x : State). x.cpu.rip) e;
        beside = λ x le. ap (λ (k : Memory). k.byte x) memory;
      }

  -- ---- saves

  saved_at : (s u : State) (a k : ℕ) (ops : List UnwindOperation) (q : Reg) (m : MemRef)
      → length s.cpu.registers ≡ 16 → is_place f offset k m ≡ true
      → (f ≢ 0 → sets_frame ops ≡ true) → may_save (number q) ops ≡ true
      → k + 8 ≤ allocation ops → are_apart k ops ≡ true → Ordered ops → Holds ops s
      → effect (with_rip s a) (instrs.Move W64 (places.Memory m) (operands.Register q)) ≡ Ok u
      → Did s u a (Save (number q) k) ops
  saved_at s u a k ops q m n place after_frame ms le apart order h ef =
      let r = number q in
      let base = registers s 4 in
      let d = stack_depth s.memory old back base base ops h.stack in
      let shallow = allocation_depth ops in
      let c : Cpu = record { registers = s.cpu.registers; rip = a; flags = s.cpu.flags } in
      let lt : registers s 4 + k < 2 ^ 64 = omega arith in
      let at = place_address f offset k c m place (λ ne. framed_above f offset (registers s) base
      ops order (after_frame ne) h.framed) lt in
      let once = and_parts (is_nonvolatile r) (not (eqb r 4) && not (is_saved r ops)) ms in
      let parts = and_parts (not (eqb r 4)) (not (is_saved r ops)) once.1 in
      let val = h.others r once.0 (eqb-false r 4 (not-true (eqb r 4) parts.0))
      (not-true (is_saved r ops) parts.1) in
      let small = fits r in
      let value : registers s r % 2 ^ 64 ≡ old r = omega arith in
      let st = was_stored (with_rip s a) u (base + k) (registers s r % 2 ^ 64)
      (sym (ap (λ x. store (with_rip s a) x W64 (registers s r % 2 ^ 64)) at) ∙ ef) in
      let memory : u.memory ≡ with_bytes s.memory (with_number s.memory.byte 8 (base + k) (old r)) =
      ap (λ (x : State). x.memory) st.is
      ∙ ap (λ v. with_bytes s.memory (with_number s.memory.byte 8 (base + k) v)) value in
      let now : (j : ℕ) → registers u j ≡ registers s j = λ j. ap (λ (x : State). registers x j)
      st.is in
      let word = stored_word s.memory (base + k) (old r) (omega arith) small st.may in
      let words = left_words s.memory old back base base k (old r) ops order (omega arith)
      (omega arith) apart h.stack in
      record {
        count = ap (λ (x : State). length x.cpu.registers) st.is ∙ n;
        holds = record {
          stack = subst (λ x. Stack u.memory old back x x (Save r k ∷ ops)) (sym (now 4))
              (subst (λ (x : Memory). Stack x old back base base (Save r k ∷ ops)) (sym memory)
              (word, words));
          framed = subst (λ (x : State). Framed f offset (registers x) (registers x 4) ops)
              (sym st.is) h.framed;
          others = λ j nv ne z. now j ∙ h.others j nv ne (or_parts (eqb r j) (is_saved j ops) z).1;
        };
        rip = ap (λ (x : State). x.cpu.rip) st.is;
        beside = λ x le'. ap (λ (y : Memory). y.byte x) memory
            ∙ stored_beside s.memory (base + k) (old r) x (omega arith) (omega arith);
      }

  -- ---- whatever it is

  pub does_one : (s u : State) (a : ℕ) (op : UnwindOperation) (ops : List UnwindOperation)
      (i : Instr) → offset < 2 ^ 16 → length s.cpu.registers ≡ 16 → codes.size op ≤ registers s 4
      → is_allowed f ops op ≡ true → are_allowed f ops ≡ true → Ordered (op ∷ ops)
      → Follows f op ops → does f offset op i ≡ true → Holds ops s → effect (with_rip s a) i ≡ Ok u
      → Did s u a op ops
  does_one s u a (Push r) ops (instrs.Push q) small n room is allowed (push p o) fo d
      h ef =
      let same : number q ≡ r = eqb-true (number q) r d in
      subst (λ x. Did s u a (Push x) ops) same
      (pushed s u a q ops n room (ap (λ x. may_save x ops) same ∙ is) p h ef)
  does_one s u a (Allocate k) ops
      (instrs.Arithmetic arithmetic.Sub W64 (places.Register Rsp) (operands.Immediate v)) small n
      room is allowed (allocate p o) fo d h ef =
      let same : v ≡ k = eqb-true v k d in
      subst (λ x. Did s u a (Allocate x) ops) same (allocated s u a v ops n (omega arith) p h ef)
  does_one s u a SetFrame ops (instrs.LoadAddress W64 to m) small n room is allowed (frame t p o) fo
      d h ef =
      let parts = and_parts (eqb (number to) f) (is_stack offset m) d in
      framed s u a ops to m small n (eqb-true (number to) f parts.0) parts.1
      (and_parts (not (eqb f 0)) (is_saved f ops) is).1 allowed p h ef
  does_one s u a (Save r k) ops (instrs.Move W64 (places.Memory m) (operands.Register q)) small n
      room is allowed (save o) fo d h ef =
      let parts = and_parts (eqb (number q) r) (is_place f offset k m) d in
      let same : number q ≡ r = eqb-true (number q) r parts.0 in
      let may = and_parts (may_save r ops) (leb (k + 8) (allocation ops) && are_apart k ops) is in
      let apart = and_parts (leb (k + 8) (allocation ops)) (are_apart k ops) may.1 in
      subst (λ x. Did s u a (Save x k) ops) same
      (saved_at s u a k ops q m n parts.1 fo (ap (λ x. may_save x ops) same ∙ may.0)
      (leb-true (k + 8) (allocation ops) apart.0) apart.1 o h ef)
  does_one s u a op ops i small n room is allowed order fo d h ef = absurd (false≢true d)
