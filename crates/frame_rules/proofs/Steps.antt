-- What one instruction of a prologue does to the frame.
use Rattle.std.proofs.Common.{◌≡◌, ◌≢◌, ℕ, ◌+◌, ◌-◌, ◌%◌, ◌^◌, ◌<◌, ◌≤◌, true, false, cond, not, ◌&&◌, eqb, List, [], ◌∷◌, length, get_or, set, Option, Some, None, Ok, refl, sym, ap, subst, ◌∙◌, arith, inl, inr, length-set, get_or-set_same, get_or-set_other}
use Rattle.std.proofs.lemmas.Bool.{cases_eq, false≢true, and_parts, or_parts, or_cases, ne_eqb, eq-eqb, eqb-true, eqb-false, not-true}
use Rattle.frame_rules.specs.Words.{W64, Protection, is_writable, Memory, first_refused, may_write, with_number, with_bytes, access, unless_refused, Reg, Rsp, MemRef, Base, Index, number, Cpu, subtracted, ◌>>=◌, State, Answer, granted, register, with_rip, store, effect, address_of, base_of, index_of, UnwindOperation, Push, Allocate, SetFrame, Save, SaveVector, MachineFrame, is_nonvolatile, sets_frame, depth, allocation, may_save, are_allowed, is_saved, are_apart, are_pushes, Stack, Framed, HoldsFrame, is_of, is_stack, is_place, is_stack_base, registers, IsEntry}
use Rattle.x64_instr.specs.declared.operand.Base.TheVariants as bases
use Rattle.x64_instr.specs.declared.operand.RegisterOrMemory.TheVariants as places
use Rattle.x64_instr.specs.declared.operand.Operand.TheVariants as operands
use Rattle.x64_instr.specs.declared.instruction.Operation.TheVariants as computes
use Rattle.x64_instr.specs.declared.instruction.Instr.TheVariants as instrs
use Rattle.frame_rules.proofs.Lemmas.{number_small}
use Rattle.frame_rules.proofs.Undoing.{stack_depth, saved_register}
use Rattle.frame_rules.proofs.Order.{Ordered, of_pushes, unframed, framed_above, pushes_unframed, pushes_alone}
use Rattle.frame_rules.proofs.Words.{all_may, stored_word, left_words, pushes_apart, rebased}

-- ---- registers

pub set_same : (xs : List ℕ) (k v : ℕ) → length xs ≡ 16 → k < 16 → get_or (set xs k v) k 0 ≡ v
set_same xs k v n lt = get_or-set_same xs k v 0 (omega arith)

pub set_other : (xs : List ℕ) (k q v : ℕ) → q ≢ k → get_or (set xs k v) q 0 ≡ get_or xs q 0
set_other xs k q v ne = get_or-set_other xs k q v 0 ne

pub ok_same : {A : Type 0} {x y : A} → ◌≡◌ {A = Answer A} (Ok x) (Ok y) → x ≡ y
ok_same e = cc

-- ---- what a step changes

-- a state with these registers, and this memory
pub record Became (u : State) (regs : List ℕ) (m : Memory) : Type 0 where
  pub registers : u.cpu.registers ≡ regs
  pub memory : u.memory ≡ m

pub became : (t u : State) (a : Answer State) → a ≡ Ok t → a ≡ Ok u
    → Became u t.cpu.registers t.memory
became t u a p q = let e : t ≡ u = ok_same (sym p ∙ q) in record {
  registers = ap (λ (x : State). x.cpu.registers) (sym e);
  memory = ap (λ (x : State). x.memory) (sym e);
}

pub store_at : (s : State) (at v : ℕ) → first_refused (may_write s.memory) 8 at ≡ None
    → store s at W64 v ≡ Ok (record s {
      memory = with_bytes s.memory
          (with_number s.memory.byte 8 at v);
    })
store_at s at v h =
    ap (λ (o : Option ℕ). granted (access true o tt)
    >>= λ _. Ok (record s {
      memory = unless_refused o
          (with_bytes s.memory (with_number s.memory.byte 8 at v)) s.memory;
    })) h

-- ---- a state on the way

pub record Running (f offset : ℕ) (e : State) (back : ℕ) (ops : List UnwindOperation)
    (s : State) : Type 0 where
  pub length : length s.cpu.registers ≡ 16
  pub protection : s.memory.protection ≡ e.memory.protection
  pub holds : HoldsFrame f offset s.memory (registers e) back (registers s) ops ops

-- the room below a running state may be written
pub room : (f offset back n : ℕ) (e s : State) (ops : List UnwindOperation) → IsEntry n e
    → Running f offset e back ops s → (a : ℕ) → registers e 4 ≤ a + n → a < registers e 4
    → may_write s.memory a ≡ true
room f offset back n e s ops entry run a p q = ap (λ (g : ℕ → Protection). is_writable (g a).rights)
    run.protection ∙ entry.writable a p q

-- ---- pushes

pub push_effect : (s : State) (a v at : ℕ) (q : Reg) → registers s 4 ≡ at + 8 → at + 8 < 2 ^ 64
    → first_refused (may_write s.memory) 8 at ≡ None → registers s (number q) ≡ v
    → effect (with_rip s a) (instrs.Push q) ≡ Ok
    (record s {
      cpu = record { registers = set s.cpu.registers 4 at; rip = a; flags = s.cpu.flags };
      memory = with_bytes s.memory (with_number s.memory.byte 8 at v);
    })
push_effect s a v at q top lt may val =
    let F : ℕ → ℕ → ℕ → Answer State = λ x y w. store
    (record s {
      cpu = record { registers = set s.cpu.registers 4 y; rip = a; flags = s.cpu.flags };
    }) x W64 w in
    let raw : (registers s 4 + (2 ^ 64 - 8)) % 2 ^ 64 ≡ at = omega arith in
    let low : at % 2 ^ 64 ≡ at = omega arith in
    ap (λ x. F x (x % 2 ^ 64) (registers s (number q))) raw
    ∙ ap (λ y. F at y (registers s (number q))) low
    ∙ ap (F at at) val
    ∙ store_at (record s {
      cpu = record {
        registers = set s.cpu.registers 4 at;
        rip = a;
        flags = s.cpu.flags;
      };
    }) at v may

pub pushed_step : (f offset back n a : ℕ) (e s u : State) (ops : List UnwindOperation) (q : Reg)
    → IsEntry n e → depth (Push (number q) ∷ ops) ≤ n → may_save (number q) ops ≡ true
    → are_pushes ops ≡ true
    → Running f offset e back ops s → effect (with_rip s a) (instrs.Push q) ≡ Ok u
    → Running f offset e back (Push (number q) ∷ ops) u
pushed_step f offset back n a e s u ops q entry deep m p run ef =
    let r = number q in
    let old = registers e in
    let d = stack_depth s.memory old back (registers s 4) (registers s 4) ops run.holds.stack in
    let low = entry.low in
    let high = entry.high in
    let at = registers s 4 - 8 in
    let top : registers s 4 ≡ at + 8 = omega arith in
    let lt : at + 8 < 2 ^ 64 = omega arith in
    let once = and_parts (is_nonvolatile r) (not (eqb r 4) && not (is_saved r ops)) m in
    let apart = and_parts (not (eqb r 4)) (not (is_saved r ops)) once.1 in
    let val = run.holds.others r once.0 (eqb-false r 4 (not-true (eqb r 4) apart.0))
    (not-true (is_saved r ops) apart.1) in
    let may : (b : ℕ) → at ≤ b → b < at + 8 → may_write s.memory b
    ≡ true = λ b x y. room f offset back n e s ops entry run b (omega arith) (omega arith) in
    let after = with_bytes s.memory (with_number s.memory.byte 8 at (old r)) in
    let b = became (record s {
      cpu = record {
        registers = set s.cpu.registers 4 at;
        rip = a;
        flags = s.cpu.flags;
      };
      memory = after;
    }) u (effect (with_rip s a) (instrs.Push q))
    (push_effect s a (old r) at q top lt (all_may (may_write s.memory) 8 at (omega arith) may)
    val) ef in
    let now : (k : ℕ) → registers u k ≡ get_or (set s.cpu.registers 4 at) k 0 = λ k. ap
    (λ (xs : List ℕ). get_or xs k 0) b.registers in
    let sp : registers u 4 ≡ at = now 4 ∙ set_same s.cpu.registers 4 at run.length (omega arith) in
    let others : (k : ℕ) → k ≢ 4 → registers u k ≡ registers s k = λ k ne. now k
    ∙ set_other s.cpu.registers 4 k at ne in
    let word = stored_word s.memory at (old r) (omega arith) (entry.fits r) may in
    let z : at + 0 ≡ at = omega arith in
    let alone = pushes_alone ops p in
    let words0 = left_words s.memory old back at (registers s 4) 0 (old r) ops (of_pushes ops p)
    (omega arith) (omega arith) (pushes_apart 0 ops p)
    (rebased s.memory old back (registers s 4) at (registers s 4) ops p run.holds.stack) in
    let words1 = subst (λ w. Stack (with_bytes s.memory (with_number s.memory.byte 8 w (old r))) old
    back at (registers s 4) ops) z words0 in
    let words = subst (λ w. Stack after old back at w ops) top words1 in
    let stack = subst (λ x. Stack u.memory old back x x (Push r ∷ ops)) (sym sp)
    (subst (λ (x : Memory). Stack x old back at at (Push r ∷ ops)) (sym b.memory)
    (word, words)) in
    record {
      length = ap (λ (xs : List ℕ). length xs) b.registers ∙ length-set s.cpu.registers 4 at
          ∙ run.length;
      protection = ap (λ (x : Memory). x.protection) b.memory ∙ run.protection;
      holds = record {
        stack = stack;
        framed = unframed f offset (registers u) (registers u 4) (Push r ∷ ops)
            (pushes_unframed ops p);
        others = λ k nv ne s'. others k ne ∙ run.holds.others k nv ne
            (or_parts (eqb r k) (is_saved k ops) s').1;
      };
    }

-- ---- an allocation

-- RSP falls, and nothing else changes: of a state with the same memory
pub fallen : (f offset back n k : ℕ) (e s u : State) (ops : List UnwindOperation) → IsEntry n e
    → depth (Allocate k ∷ ops) ≤ n → are_pushes ops ≡ true → Running f offset e back ops s
    → length u.cpu.registers ≡ 16 → u.memory ≡ s.memory → registers u 4 + k ≡ registers s 4
    → ((q : ℕ) → is_nonvolatile q ≡ true → q ≢ 4 → registers u q ≡ registers s q)
    → Running f offset e back (Allocate k ∷ ops) u
fallen f offset back n k e s u ops entry deep p run long same sp others =
    let old = registers e in
    let stack0 = rebased s.memory old back (registers s 4) (registers u 4) (registers s 4) ops p
    run.holds.stack in
    let stack1 = subst (λ x. Stack s.memory old back (registers u 4) x ops) (sym sp) stack0 in
    record {
      length = long;
      protection = ap (λ (x : Memory). x.protection) same ∙ run.protection;
      holds = record {
        stack = subst (λ (x : Memory). Stack x old back (registers u 4) (registers u 4)
            (Allocate k ∷ ops)) (sym same) stack1;
        framed = unframed f offset (registers u) (registers u 4) (Allocate k ∷ ops)
            (pushes_unframed ops p);
        others = λ q nv ne z. others q nv ne ∙ run.holds.others q nv ne z;
      };
    }

pub subtract_effect : (s : State) (a v : ℕ) → effect (with_rip s a)
    (instrs.Arithmetic computes.Sub W64 (places.Register Rsp) (operands.Immediate v))
    ≡ Ok (record s {
      cpu = record {
        registers = set s.cpu.registers 4
            ((subtracted W64 (registers s 4 % 2 ^ 64) (v % 2 ^ 64)).0 % 2 ^ 64);
        rip = a;
        flags = (subtracted W64 (registers s 4 % 2 ^ 64) (v % 2 ^ 64)).1;
      };
    })
subtract_effect s a v = refl

pub difference : (x v : ℕ) → v ≤ x → x < 2 ^ 64
    → (subtracted W64 (x % 2 ^ 64) (v % 2 ^ 64)).0 % 2 ^ 64 ≡ x - v
unfolding subtracted
difference x v le lt = omega arith

pub allocated_step : (f offset back n a k : ℕ) (e s u : State) (ops : List UnwindOperation)
    → IsEntry n e → depth (Allocate k ∷ ops) ≤ n → are_pushes ops ≡ true
    → Running f offset e back ops s → effect (with_rip s a)
    (instrs.Arithmetic computes.Sub W64 (places.Register Rsp) (operands.Immediate k)) ≡ Ok u
    → Running f offset e back (Allocate k ∷ ops) u
allocated_step f offset back n a k e s u ops entry deep p run ef =
    let d = stack_depth s.memory (registers e) back (registers s 4) (registers s 4) ops
    run.holds.stack in
    let low = entry.low in
    let high = entry.high in
    let x = subtracted W64 (registers s 4 % 2 ^ 64) (k % 2 ^ 64) in
    let v = x.0 % 2 ^ 64 in
    let b = became (record s {
      cpu = record {
        registers = set s.cpu.registers 4 v;
        rip = a;
        flags = x.1;
      };
    }) u (effect (with_rip s a)
    (instrs.Arithmetic computes.Sub W64 (places.Register Rsp) (operands.Immediate k)))
    (subtract_effect s a k) ef in
    let now : (q : ℕ) → registers u q ≡ get_or (set s.cpu.registers 4 v) q 0 = λ q. ap
    (λ (xs : List ℕ). get_or xs q 0) b.registers in
    let sp : registers u 4 ≡ registers s 4 - k = now 4
    ∙ set_same s.cpu.registers 4 v run.length (omega arith)
    ∙ difference (registers s 4) k (omega arith) (omega arith) in
    fallen f offset back n k e s u ops entry deep p run
    (ap (λ (xs : List ℕ). length xs) b.registers ∙ length-set s.cpu.registers 4 v ∙ run.length)
    b.memory (omega arith) (λ q nv ne. now q ∙ set_other s.cpu.registers 4 q v ne)

-- ---- a frame register

stack_base : (c : Cpu) (b : Base) (i : Option Index) → is_stack_base b i ≡ true
    → base_of c b + index_of c i ≡ register c Rsp + 0
stack_base c (bases.Register Rsp) None e = refl
stack_base c b i e = absurd (false≢true e)

-- the address [rsp + n]
pub stack_address : (c : Cpu) (n : ℕ) (m : MemRef) → is_stack n m ≡ true
    → register c Rsp + n < 2 ^ 64 → address_of c m ≡ register c Rsp + n
stack_address c n m e lt =
    let parts = and_parts (is_stack_base m.base m.index) (eqb m.displacement n) e in
    let b = stack_base c m.base m.index parts.0 in
    let d : m.displacement ≡ n = eqb-true m.displacement n parts.1 in
    omega arith

of_frame : (f : ℕ) (c : Cpu) (b : Base) (x : Option Index) → is_of f b x ≡ true
    → (f ≢ 0) × (base_of c b + index_of c x ≡ get_or c.registers f 0 + 0)
of_frame f c (bases.Register r) None e = elim (cases_eq f 0) [
  | inl z ↦ absurd (false≢true (sym (ap (λ b. cond b false (eqb (number r) f)) (eq-eqb f 0 z)) ∙ e))
  | inr ne ↦ (
    ne,
    ap (λ k. get_or c.registers k 0 + 0)
        (eqb-true (number r) f (sym (ap (λ b. cond b false (eqb (number r) f)) (ne_eqb f 0 ne))
        ∙ e)),
  )
]
of_frame f c (bases.Register r) (Some x) e = absurd (false≢true e)
of_frame f c bases.Nothing x e = absurd (false≢true e)
of_frame f c bases.Rip x e = absurd (false≢true e)

pub frame_address : (f offset n : ℕ) (c : Cpu) (a : MemRef) → is_of f a.base a.index ≡ true
    → (offset + a.displacement) % 2 ^ 64 ≡ n →
    (f ≢ 0 → get_or c.registers f 0 ≡ get_or c.registers 4 0 + offset)
    → get_or c.registers 4 0 + n < 2 ^ 64 → address_of c a ≡ get_or c.registers 4 0 + n
frame_address f offset n c a is d framed lt =
    let b = of_frame f c a.base a.index is in
    let at = framed b.0 in
    let sum = b.1 in
    omega arith

pub place_address : (f offset n : ℕ) (c : Cpu) (a : MemRef) → is_place f offset n a ≡ true
    → (f ≢ 0 → get_or c.registers f 0 ≡ get_or c.registers 4 0 + offset)
    → get_or c.registers 4 0 + n < 2 ^ 64 → address_of c a ≡ get_or c.registers 4 0 + n
place_address f offset n c a is framed lt = elim
    (or_cases (is_stack n a) (is_of f a.base a.index && eqb ((offset + a.displacement) % 2 ^ 64) n)
    is) [
      | inl s ↦ stack_address c n a s lt
      | inr r ↦ let p = and_parts (is_of f a.base a.index)
          (eqb ((offset + a.displacement) % 2 ^ 64) n)
          r in frame_address f offset n c a p.0
          (eqb-true ((offset + a.displacement) % 2 ^ 64) n p.1)
          framed lt
    ]

pub framed_step : (f offset back n a : ℕ) (e s u : State) (ops : List UnwindOperation) (to : Reg)
    (m : MemRef) → IsEntry n e → offset < 2 ^ 16 → number to ≡ f → is_stack offset m ≡ true
    → is_saved f ops ≡ true → are_allowed f ops ≡ true → sets_frame ops ≡ false
    → Running f offset e back ops s → effect (with_rip s a) (instrs.LoadAddress W64 to m) ≡ Ok u
    → Running f offset e back (SetFrame ∷ ops) u
framed_step f offset back n a e s u ops to m entry small same place saved allowed free run ef =
    let old = registers e in
    let d = stack_depth s.memory old back (registers s 4) (registers s 4) ops run.holds.stack in
    let high = entry.high in
    let is = saved_register f f ops allowed saved in
    let c : Cpu = record { registers = s.cpu.registers; rip = a; flags = s.cpu.flags } in
    let lt : registers s 4 + offset < 2 ^ 64 = omega arith in
    let at = stack_address c offset m place lt in
    let v = address_of c m % 2 ^ 64 in
    let value : v ≡ registers s 4 + offset = omega arith in
    let b = became (record s {
      cpu = record {
        registers = set s.cpu.registers (number to) v;
        rip = a;
        flags = s.cpu.flags;
      };
    }) u
    (effect (with_rip s a) (instrs.LoadAddress W64 to m)) refl ef in
    let now : (q : ℕ) → registers u q ≡ get_or (set s.cpu.registers (number to) v) q 0 = λ q. ap
    (λ (xs : List ℕ). get_or xs q 0) b.registers in
    let others : (q : ℕ) → q ≢ f → registers u q ≡ registers s q = λ q ne. now q
    ∙ set_other s.cpu.registers (number to) q v (λ z. ne (z ∙ same)) in
    let sp : registers u 4 ≡ registers s 4 = others 4 (λ z. is.1 (sym z)) in
    let fp : registers u f ≡ registers s 4 + offset = now f
    ∙ ap (λ k. get_or (set s.cpu.registers (number to) v) k 0) (sym same)
    ∙ set_same s.cpu.registers (number to) v run.length (number_small to) ∙ value in
    record {
      length = ap (λ (xs : List ℕ). length xs) b.registers
          ∙ length-set s.cpu.registers (number to) v ∙ run.length;
      protection = ap (λ (x : Memory). x.protection) b.memory ∙ run.protection;
      holds = record {
        stack = subst (λ x. Stack u.memory old back x x ops) (sym sp)
            (subst (λ (x : Memory). Stack x old back (registers s 4) (registers s 4) ops)
            (sym b.memory) run.holds.stack);
        framed = (
          fp ∙ ap (λ x. x + offset) (sym sp),
          unframed f offset (registers u) (registers u 4) ops free,
        );
        others = λ q nv ne z. others q (λ k. false≢true
            (sym z ∙ (ap (λ j. is_saved j ops) k ∙ saved))) ∙ run.holds.others q nv ne z;
      };
    }

-- ---- a save

pub allocation_depth : (ops : List UnwindOperation) → allocation ops ≤ depth ops
allocation_depth [] = omega arith
allocation_depth (Push r ∷ ops) = let d = allocation_depth ops in omega arith
allocation_depth (Allocate k ∷ ops) = let d = allocation_depth ops in omega arith
allocation_depth (SetFrame ∷ ops) = let d = allocation_depth ops in omega arith
allocation_depth (Save r k ∷ ops) = let d = allocation_depth ops in omega arith
allocation_depth (SaveVector r k ∷ ops) = let d = allocation_depth ops in omega arith
allocation_depth (MachineFrame k ∷ ops) = let d = allocation_depth ops in omega arith

pub save_effect : (s : State) (a v at : ℕ) (q : Reg) (m : MemRef)
    → address_of (record { registers = s.cpu.registers; rip = a; flags = s.cpu.flags }) m ≡ at
    → registers s (number q) % 2 ^ 64 ≡ v → first_refused (may_write s.memory) 8 at ≡ None
    → effect (with_rip s a) (instrs.Move W64 (places.Memory m) (operands.Register q))
    ≡ Ok (record s {
      cpu = record { registers = s.cpu.registers; rip = a; flags = s.cpu.flags };
      memory = with_bytes s.memory (with_number s.memory.byte 8 at v);
    })
save_effect s a v at q m place val may =
    ap (λ x. store (with_rip s a) x W64 (registers s (number q) % 2 ^ 64)) place
    ∙ ap (store (with_rip s a) at W64) val ∙ store_at (with_rip s a) at v may

pub saved_step : (f offset back n a k : ℕ) (e s u : State) (ops : List UnwindOperation) (q : Reg)
    (m : MemRef) → IsEntry n e → depth ops ≤ n → is_place f offset k m ≡ true
    → (f ≢ 0 → sets_frame ops ≡ true) → may_save (number q) ops ≡ true
    → k + 8 ≤ allocation ops → are_apart k ops ≡ true → Ordered ops
    → Running f offset e back ops s → effect (with_rip s a)
    (instrs.Move W64 (places.Memory m) (operands.Register q)) ≡ Ok u
    → Running f offset e back (Save (number q) k ∷ ops) u
saved_step f offset back n a k e s u ops q m entry deep place after_frame ms le apart order run ef =
    let r = number q in
    let old = registers e in
    let base = registers s 4 in
    let d = stack_depth s.memory old back base base ops run.holds.stack in
    let low = entry.low in
    let high = entry.high in
    let shallow = allocation_depth ops in
    let c : Cpu = record { registers = s.cpu.registers; rip = a; flags = s.cpu.flags } in
    let lt : registers s 4 + k < 2 ^ 64 = omega arith in
    let at = place_address f offset k c m place (λ ne. framed_above f offset (registers s) base ops
    order (after_frame ne) run.holds.framed) lt in
    let once = and_parts (is_nonvolatile r) (not (eqb r 4) && not (is_saved r ops)) ms in
    let parts = and_parts (not (eqb r 4)) (not (is_saved r ops)) once.1 in
    let val = run.holds.others r once.0 (eqb-false r 4 (not-true (eqb r 4) parts.0))
    (not-true (is_saved r ops) parts.1) in
    let fits = entry.fits r in
    let value : registers s r % 2 ^ 64 ≡ old r = omega arith in
    let may : (b : ℕ) → base + k ≤ b → b < base + k + 8
    → may_write s.memory b ≡ true = λ b x y. room f offset back n e s ops entry run b
    (omega arith) (omega arith) in
    let after = with_bytes s.memory (with_number s.memory.byte 8 (base + k) (old r)) in
    let b = became (record s { cpu = c; memory = after }) u
    (effect (with_rip s a) (instrs.Move W64 (places.Memory m) (operands.Register q)))
    (save_effect s a (old r) (base + k) q m at value
    (all_may (may_write s.memory) 8 (base + k) (omega arith) may)) ef in
    let now : (j : ℕ) → registers u j ≡ registers s j = λ j. ap (λ (xs : List ℕ). get_or xs j 0)
    b.registers in
    let word = stored_word s.memory (base + k) (old r) (omega arith) fits may in
    let words = left_words s.memory old back base base k (old r) ops order (omega arith)
    (omega arith) apart run.holds.stack in
    record {
      length = ap (λ (xs : List ℕ). length xs) b.registers ∙ run.length;
      protection = ap (λ (x : Memory). x.protection) b.memory ∙ run.protection;
      holds = record {
        stack = subst (λ x. Stack u.memory old back x x (Save r k ∷ ops)) (sym (now 4))
            (subst (λ (x : Memory). Stack x old back base base (Save r k ∷ ops)) (sym b.memory)
            (word, words));
        framed = subst (λ (xs : List ℕ). Framed f offset (λ j. get_or xs j 0) (get_or xs 4 0) ops)
            (sym b.registers) run.holds.framed;
        others = λ j nv ne z. now j ∙ run.holds.others j nv ne
            (or_parts (eqb r j) (is_saved j ops) z).1;
      };
    }
