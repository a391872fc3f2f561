-- What instructions leave of RSP, the nonvolatile registers and memory.
use Rattle.std.proofs.Common.{◌≡◌, ℕ, zero, suc, ◌<◌, ◌≤◌, Bool, true, false, cond, Result, Ok, Err, List, [], ◌∷◌, ◌++◌, refl, sym, ap, subst, ◌∙◌, arith, inl, inr}
use Rattle.std.specs.Prelude.{◌⊎◌, ◌&&◌, slice_index, slice_set}
use Rattle.std.proofs.lemmas.Bool.{and_parts}
use Rattle.std.proofs.lemmas.List.{append-nil}
use Rattle.x64_templates.specs.Words.{Width, W8, DivFault, low, Reg, Rax, Rcx, Rdx, R8, R9, R11, RegisterOrMemory, Operand, Unary, Direction, Instr, number, Cpu, kept_of, merged, multiplied, count_of, shifted, shift_flags, divided, joined, ◌>>=◌, State, Answer, granted, register, with_register, with_flags, address_of, store, read, operand, write, may_change, computed, change, is_compare, unary, unary_of, amount, shift_by, multiply, multiply_by, with_quotient, sign_of_rax, widened, condition_byte, effect, keeps_registers, stores_nothing, KeepsRegisters, StoresNothing, Flows, StoresOnce, stored, after_store, R10, is_volatile, is_rax, is_memory_or, writes_only, is_register, is_call}
use Rattle.x64_instr.specs.declared.operand.RegisterOrMemory.TheVariants as places
use Rattle.x64_instr.specs.declared.instruction.Operation.{Operation}
use Rattle.x64_instr.specs.declared.instruction.Operation.TheVariants as operations
use Rattle.x64_instr.specs.declared.instruction.Instr.TheVariants as instrs
use Rattle.x64_machine.specs.Effect.{compare}

-- ---- registers

-- a register is as it was where another one is set
pub index_other : (xs : List ℕ) (i j v : ℕ) → (i ≡ j → ⊥)
    → slice_index (slice_set xs i v) j ≡ slice_index xs j
index_other [] i j v n = refl
index_other (x ∷ xs) zero zero v n = absurd (n refl)
index_other (x ∷ xs) zero (suc j) v n = refl
index_other (x ∷ xs) (suc i) zero v n = refl
index_other (x ∷ xs) (suc i) (suc j) v n = index_other xs i j v (λ e. n (ap suc e))

-- RAX, RCX and RDX, and R8 to R11
abbrev IsVolatile : ℕ → Type 0
IsVolatile n = (n < 3) ⊎ ((8 ≤ n) × (n < 12))

volatile_number : (r : Reg) → is_volatile r ≡ true → IsVolatile (number r)
volatile_number Rax e = inl (omega arith)
volatile_number Rcx e = inl (omega arith)
volatile_number Rdx e = inl (omega arith)
volatile_number R8 e = inr (omega arith, omega arith)
volatile_number R9 e = inr (omega arith, omega arith)
volatile_number R10 e = inr (omega arith, omega arith)
volatile_number R11 e = inr (omega arith, omega arith)
volatile_number r e = absurd cc

low_apart : (n k : ℕ) → IsVolatile n → 3 ≤ k → k < 8 → n ≡ k → ⊥
low_apart n k (inl h) l u e = absurd (omega arith)
low_apart n k (inr h) l u e = let a = h.0 in absurd (omega arith)

high_apart : (n k : ℕ) → IsVolatile n → 12 ≤ k → n ≡ k → ⊥
high_apart n k (inl h) l e = absurd (omega arith)
high_apart n k (inr h) l e = let a = h.1 in absurd (omega arith)

kept_set : (xs : List ℕ) (n v : ℕ) → IsVolatile n → kept_of (slice_set xs n v) ≡ kept_of xs
kept_set xs n v h =
    let l = λ (k : ℕ) (a : 3 ≤ k) (b : k < 8). index_other xs n k v (low_apart n k h a b) in
    let u = λ (k : ℕ) (a : 12 ≤ k). index_other xs n k v (high_apart n k h a) in
    λ j. l 4 (omega arith) (omega arith) j ∷ l 3 (omega arith) (omega arith) j
    ∷ l 5 (omega arith) (omega arith) j ∷ l 6 (omega arith) (omega arith) j
    ∷ l 7 (omega arith) (omega arith) j ∷ u 12 (omega arith) j ∷ u 13 (omega arith) j
    ∷ u 14 (omega arith) j ∷ u 15 (omega arith) j ∷ []

-- ---- one instruction

pub bound : {A B : Type 0} (x : Answer A) (f : A → Answer B) (t : B) → (x >>= f) ≡ Ok t
    → (a : A) × (f a ≡ Ok t)
bound (Ok a) f t e = (a, e)
bound (Err z) f t e = absurd cc

-- registers are as another list says, RIP is as it was, and where nothing is stored, memory is
record Leaves (Kept : List ℕ → List ℕ → Type 0) (nothing : Bool) (s t : State) : Type 0 where
  registers : Kept s.cpu.registers t.cpu.registers
  rip : t.cpu.rip ≡ s.cpu.rip
  memory : nothing ≡ true → t.memory ≡ s.memory

-- of registers some alone may be written: what they leave of all registers
module _ (Kept : List ℕ → List ℕ → Type 0) (none : (xs : List ℕ) → Kept xs xs)
    (both : (xs ys zs : List ℕ) → Kept xs ys → Kept ys zs → Kept xs zs) (may : Reg → Bool)
    (set : (xs : List ℕ) (r : Reg) (v : ℕ) → may r ≡ true → Kept xs (slice_set xs (number r) v))
  where
    kept_register : (w : Width) (c : Cpu) (r : Reg) (v : ℕ) → may r ≡ true
        → Kept c.registers (with_register w c r v).registers
    kept_register w c r v e = set c.registers r (merged w (register c r) v) e

    -- registers and flags alone changed
    same : (b : Bool) (s : State) (c : Cpu) (t : State) → Kept s.cpu.registers c.registers
        → c.rip ≡ s.cpu.rip → ◌≡◌ {A = Answer State} (Ok (record s { cpu = c }))
        (Ok t)
        → Leaves Kept b s t
    same b s c t k r e =
        let u : State = record s { cpu = c } in
        let at : u ≡ t = cc in
        subst (Leaves Kept b s) at (record { registers = k; rip = r; memory = λ z. refl })

    store_keeps : (s : State) (at : ℕ) (w : Width) (v : ℕ) (t : State) → store s at w v ≡ Ok t
        → Leaves Kept false s t
    store_keeps s at w v t e =
        let b = bound (granted (stored s.memory at w))
        (λ _. Ok (record s { memory = after_store s.memory at w v })) t e in
        let u : State = record s { memory = after_store s.memory at w v } in
        let is : u ≡ t = cc in
        subst (Leaves Kept false s) is (record {
          registers = none s.cpu.registers;
          rip = refl;
          memory = λ z. absurd cc;
        })

    write_keeps : (s : State) (w : Width) (to : RegisterOrMemory) (v : ℕ) (t : State)
        → is_memory_or may to ≡ true → write s w to v ≡ Ok t → Leaves Kept (is_register to) s t
    write_keeps s w (places.Register r) v t q e = same true s (with_register w s.cpu r v) t
        (kept_register w s.cpu r v q) refl e
    write_keeps s w (places.Memory a) v t q e = store_keeps s (address_of s.cpu a) w v t e

    change_keeps : (s : State) (o : Operation) (w : Width) (to : RegisterOrMemory) (from : Operand)
        (t : State) → is_memory_or may to ≡ true → change s o w to from ≡ Ok t
        → Leaves Kept (is_register to) s t
    change_keeps s o w to from t q e =
        let b = bound (operand s w from) (λ b. may_change s w to >>= λ _. read s w to
        >>= λ a. write (with_flags s (computed o w a b).1) w to (computed o w a b).0) t e in
        let m = bound (may_change s w to) (λ _. read s w to
        >>= λ a. write (with_flags s (computed o w a b.0).1) w to (computed o w a b.0).0) t b.1 in
        let a = bound (read s w to) (λ a. write (with_flags s (computed o w a b.0).1) w to
        (computed o w a b.0).0) t m.1 in
        let k = write_keeps (with_flags s (computed o w a.0 b.0).1) w to (computed o w a.0 b.0).0 t
        q
        a.1 in
        record { registers = k.registers; rip = k.rip; memory = k.memory }

    compare_keeps : (x : Bool) (s : State) (o : Operation) (w : Width) (first : RegisterOrMemory)
        (second : Operand) (t : State) → compare s o w first second ≡ Ok t → Leaves Kept x s t
    compare_keeps x s o w first second t e =
        let b = bound (operand s w second) (λ b. read s w first
        >>= λ a. Ok (with_flags s (computed o w a b).1)) t e in
        let a = bound (read s w first) (λ a. Ok (with_flags s (computed o w a b.0).1)) t b.1 in
        same x s (record s.cpu { flags = (computed o w a.0 b.0).1 }) t (none s.cpu.registers)
        refl a.1

    either_keeps : (c x : Bool) (s t : State) (a b : Answer State) → (a ≡ Ok t → Leaves Kept x s t)
        → (b ≡ Ok t → Leaves Kept x s t) → cond c a b ≡ Ok t → Leaves Kept x s t
    either_keeps true x s t a b p q e = p e
    either_keeps false x s t a b p q e = q e

    divided_keeps : (s : State) (w : Width) (r : Result (ℕ × ℕ) DivFault) (t : State)
        → (may Rax && may Rdx) ≡ true → with_quotient s w r ≡ Ok t → Leaves Kept true s t
    divided_keeps s w (Ok x) t q e =
        let p = and_parts (may Rax) (may Rdx) q in
        let first = with_register w s.cpu Rax x.0 in
        let last = with_register w first Rdx x.1 in
        same true s last t (both s.cpu.registers first.registers last.registers
        (kept_register w s.cpu Rax x.0 p.0) (kept_register w first Rdx x.1 p.1)) refl e
    divided_keeps s w (Err z) t q e = absurd cc

    unary_keeps : (s : State) (o : Unary) (w : Width) (to : RegisterOrMemory) (t : State)
        → is_memory_or may to ≡ true → unary s o w to ≡ Ok t → Leaves Kept (is_register to) s t
    unary_keeps s o w to t q e =
        let m = bound (may_change s w to) (λ _. read s w to
        >>= λ a. write (with_flags s (unary_of o w a s.cpu.flags).1) w to
        (unary_of o w a s.cpu.flags).0) t e in
        let a = bound (read s w to) (λ a. write (with_flags s (unary_of o w a s.cpu.flags).1) w to
        (unary_of o w a s.cpu.flags).0) t m.1 in
        let k = write_keeps (with_flags s (unary_of o w a.0 s.cpu.flags).1) w to
        (unary_of o w a.0 s.cpu.flags).0 t q a.1 in
        record { registers = k.registers; rip = k.rip; memory = k.memory }

    shift_keeps : (s : State) (d : Direction) (w : Width) (to : RegisterOrMemory) (n : ℕ)
        (t : State)
        → is_memory_or may to ≡ true → shift_by s d w to n ≡ Ok t → Leaves Kept (is_register to) s t
    shift_keeps s d w to n t q e =
        let m = bound (may_change s w to) (λ _. read s w to
        >>= λ a. write (with_flags s (shift_flags d w a n s.cpu.flags)) w to (shifted d w a n)) t e
        in
        let a = bound (read s w to) (λ a. write (with_flags s (shift_flags d w a n s.cpu.flags)) w
        to
        (shifted d w a n)) t m.1 in
        let k = write_keeps (with_flags s (shift_flags d w a.0 n s.cpu.flags)) w to
        (shifted d w a.0 n)
        t q a.1 in
        record { registers = k.registers; rip = k.rip; memory = k.memory }

    multiply_keeps : (s : State) (w : Width) (to : Reg) (from : RegisterOrMemory) (t : State)
        → may to ≡ true → multiply s w to from ≡ Ok t → Leaves Kept true s t
    multiply_keeps s w to from t q e =
        let after = λ (b : ℕ). let p = multiplied w (low w (register s.cpu to)) b s.cpu.flags in
        record (with_register w s.cpu to p.0) { flags = p.1 } in
        let b = bound (read s w from) (λ b. let u : State =
        record s { cpu = after b } in Ok u) t e in
        same true s (after b.0) t (let p =
        multiplied w (low w (register s.cpu to)) b.0 s.cpu.flags in
        kept_register w s.cpu to p.0 q) refl b.1

    multiply_by_keeps : (s : State) (w : Width) (to : Reg) (from : RegisterOrMemory) (v : ℕ)
        (t : State)
        → may to ≡ true → multiply_by s w to from v ≡ Ok t → Leaves Kept true s t
    multiply_by_keeps s w to from v t q e =
        let after = λ (a : ℕ). let p = multiplied w a (low w v) s.cpu.flags in
        record (with_register w s.cpu to p.0) { flags = p.1 } in
        let b = bound (read s w from) (λ a. let u : State =
        record s { cpu = after a } in Ok u) t e in
        same true s (after b.0) t (let p = multiplied w b.0 (low w v) s.cpu.flags in
        kept_register w s.cpu to p.0 q) refl b.1

    leaves : (i : Instr) (s t : State) → writes_only may i ≡ true → effect s i ≡ Ok t
        → Leaves Kept (stores_nothing i) s t
    leaves (instrs.Move w to from) s t q e = let b =
        bound (operand s w from) (λ v. write s w to v) t
        e in write_keeps s w to b.0 t q b.1
    leaves (instrs.Extend x w to narrow from) s t q e =
        let after = λ (v : ℕ). with_register w s.cpu to (widened x w narrow v) in
        let b = bound (read s narrow from) (λ v. Ok (record s { cpu = after v })) t e in
        same true s (after b.0) t (kept_register w s.cpu to (widened x w narrow b.0) q) refl b.1
    leaves (instrs.LoadAddress w to m) s t q e = same true s
        (with_register w s.cpu to (address_of s.cpu m)) t
        (kept_register w s.cpu to (address_of s.cpu m) q) refl e
    leaves (instrs.Arithmetic o w to from) s t q e =
        either_keeps (is_compare o) (is_register to) s t
        (compare s o w to from) (change s o w to from)
        (compare_keeps (is_register to) s o w to from t)
        (change_keeps s o w to from t q) e
    leaves (instrs.Test w first second) s t q e =
        compare_keeps true s operations.And w first second t e
    leaves (instrs.Multiply w to from) s t q e = multiply_keeps s w to from t q e
    leaves (instrs.MultiplyBy w to from v) s t q e = multiply_by_keeps s w to from v t q e
    leaves (instrs.Unary o w to) s t q e = unary_keeps s o w to t q e
    leaves (instrs.Divide d w by) s t q e =
        let high = low w (register s.cpu Rdx) in
        let b = bound (read s w by) (λ v. with_quotient s w
        (divided d w (joined w high (low w (register s.cpu Rax))) v)) t e in
        divided_keeps s w (divided d w (joined w high (low w (register s.cpu Rax))) b.0) t q b.1
    leaves (instrs.ExtendRax w) s t q e =
        same true s (with_register w s.cpu Rdx (sign_of_rax w s.cpu)) t
        (kept_register w s.cpu Rdx (sign_of_rax w s.cpu) q) refl e
    leaves (instrs.Shift d w to by) s t q e =
        shift_keeps s d w to (count_of w (amount s.cpu by)) t q e
    leaves (instrs.Set c to) s t q e = write_keeps s W8 to (condition_byte s.cpu.flags c) t q e
    leaves instrs.NoOperation s t q e = same true s s.cpu t (none s.cpu.registers) refl e
    leaves i s t q e = absurd cc

-- RSP, the nonvolatile registers and RIP are as they were, and where nothing is stored, memory is
pub record Keeps (nothing : Bool) (s t : State) : Type 0 where
  pub registers : kept_of t.cpu.registers ≡ kept_of s.cpu.registers
  pub rip : t.cpu.rip ≡ s.cpu.rip
  pub memory : nothing ≡ true → t.memory ≡ s.memory

pub keeps : (i : Instr) (s t : State) → keeps_registers i ≡ true → effect s i ≡ Ok t
    → Keeps (stores_nothing i) s t
keeps i s t q e =
    let l = leaves (λ xs ys. kept_of ys ≡ kept_of xs) (λ xs. refl) (λ xs ys zs a b. b ∙ a)
    is_volatile (λ xs r v m. kept_set xs (number r) v (volatile_number r m)) i s t q e in
    record { registers = l.registers; rip = l.rip; memory = l.memory }

-- all registers but RAX are as they were
abbrev pub KeepsAllButRax : List ℕ → List ℕ → Type 0
KeepsAllButRax xs ys = (n : ℕ) → 0 < n → slice_index ys n ≡ slice_index xs n

rax_number : (r : Reg) → is_rax r ≡ true → number r ≡ 0
rax_number Rax e = refl
rax_number r e = absurd cc

pub record Spares (s t : State) : Type 0 where
  pub registers : KeepsAllButRax s.cpu.registers t.cpu.registers
  pub rip : t.cpu.rip ≡ s.cpu.rip

pub rax_alone : (i : Instr) (s t : State) → writes_only is_rax i ≡ true → effect s i ≡ Ok t
    → Spares s t
rax_alone i s t q e =
    let l = leaves KeepsAllButRax (λ xs n lt. refl) (λ xs ys zs a b n lt. b n lt ∙ a n lt)
    is_rax (λ xs r v m n lt. index_other xs (number r) n v (λ z. let zero = rax_number r m in
    absurd (omega arith))) i s t q e in
    record { registers = l.registers; rip = l.rip }

-- what keeps registers is no call
pub calls_nothing : (i : Instr) → keeps_registers i ≡ true → is_call i ≡ false
calls_nothing (instrs.Call to) q = absurd cc
calls_nothing i q = refl

-- ---- lists

pub nothing_both : (a b : List Instr) → StoresNothing a → StoresNothing b → StoresNothing (a ++ b)
nothing_both [] b p q = q
nothing_both (i ∷ a) b p q = (p.0, p.1, nothing_both a b p.2 q)

pub nothing_keeps : (a : List Instr) → StoresNothing a → KeepsRegisters a
nothing_keeps [] p = tt
nothing_keeps (i ∷ a) p = (p.0, nothing_keeps a p.2)

-- what keeps registers flows, and to whatever flows
pub flows : (a : List Instr) → KeepsRegisters a → Flows a
flows [] p = tt
flows (i ∷ []) p = calls_nothing i p.0
flows (i ∷ j ∷ a) p = (p.0, flows (j ∷ a) p.1)

pub flows_to : (a : List Instr) (j : Instr) (b : List Instr) → KeepsRegisters a → Flows (j ∷ b)
    → Flows (a ++ (j ∷ b))
flows_to [] j b p q = q
flows_to (i ∷ []) j b p q = (p.0, q)
flows_to (i ∷ k ∷ a) j b p q = (p.0, flows_to (k ∷ a) j b p.1 q)

pub flows_on : (a b : List Instr) → KeepsRegisters a → Flows b → Flows (a ++ b)
flows_on a [] p q = subst Flows (sym (append-nil a)) (flows a p)
flows_on a (j ∷ b) p q = flows_to a j b p q

-- what stores nothing may come before what stores once
pub once_after : (a b : List Instr) → StoresNothing a → StoresOnce b → StoresOnce (a ++ b)
once_after [] b p q = q
once_after (i ∷ a) b p q = inl (p.1, once_after a b p.2 q)

pub nothing_once : (a : List Instr) → StoresNothing a → StoresOnce a
nothing_once [] p = tt
nothing_once (i ∷ a) p = inr p.2
