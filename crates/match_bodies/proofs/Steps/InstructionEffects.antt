-- What single machine instructions of calls, entries and returns leave as it was.
use Rattle.std.proofs.Common.{◌≡◌, ◌≢◌, ℕ, ◌+◌, ◌-◌, ◌%◌, ◌^◌, ◌<◌, ◌≤◌, Bool, true, false, List, [], ◌∷◌, length, Option, Some, None, Result, Ok, Err, refl, sym, ap, subst, ◌∙◌, arith, inl, inr, get_or-set_same, get_or-set_other, length-set}
use Rattle.std.specs.Prelude.{◌⊎◌, slice_index, slice_set}
use Rattle.match_bodies.specs.Words.{Width, W32, W64, Memory, may_write, first_refused, with_bytes, Reg, Rax, Rsp, RegisterOrMemory, Instr, word, readable, State, register, with_rip, effect, with_number, loaded, stored, unless_refused, after_store, Relative, is_volatile, Answer, granted, with_register, with_flags, load, store, write, may_change, target_of}
use Rattle.flat_memory.specs.declared.access.RefusedAccess.{RefusedAccess}
use Rattle.flat_memory.proofs.Stores.{untouched, loads_what_was_stored}
use Rattle.x64_instr.specs.declared.register.Reg.TheVariants as regs
use Rattle.x64_instr.specs.declared.operand.Base.TheVariants as bases
use Rattle.x64_instr.specs.declared.operand.MemRef.{MemRef}
use Rattle.x64_instr.specs.declared.operand.RegisterOrMemory.TheVariants as places
use Rattle.x64_instr.specs.declared.operand.Operand.{Operand}
use Rattle.x64_instr.specs.declared.operand.Operand.TheVariants as operands
use Rattle.x64_instr.specs.declared.instruction.Operation.TheVariants as operations
use Rattle.x64_instr.specs.declared.instruction.Target.{Target}
use Rattle.x64_instr.specs.declared.instruction.Instr.TheVariants as instrs
use Rattle.x64_instr.specs.Registers.{number}
use Rattle.seh_num.specs.Answers.{◌>>=◌}
use Rattle.x64_machine.specs.Effect.{address_of, read, operand, computed}
use Rattle.x64_machine.specs.Words.{subtracted}
use Rattle.seh_num.specs.Widths.{low}
use Rattle.match_runs.specs.Shadow.{calls as is_a_call}

-- ---- registers

-- what a called function keeps beside RSP (Microsoft x64 ABI, "Register volatility and
-- preservation")
abbrev pub others_of : List ℕ → List ℕ
others_of r = slice_index r 3 ∷ slice_index r 5 ∷ slice_index r 6 ∷ slice_index r 7
    ∷ slice_index r 12 ∷ slice_index r 13 ∷ slice_index r 14 ∷ slice_index r 15 ∷ []

abbrev pub is_volatile_place : RegisterOrMemory → Bool
is_volatile_place (places.Register r) = is_volatile r
is_volatile_place (places.Memory a) = false

abbrev IsBeside : ℕ → Type 0
IsBeside k = (k < 3) ⊎ ((8 ≤ k) × (k < 12))

volatile_number : (r : Reg) → is_volatile r ≡ true → IsBeside (number r)
volatile_number regs.Rax e = inl (omega arith)
volatile_number regs.Rcx e = inl (omega arith)
volatile_number regs.Rdx e = inl (omega arith)
volatile_number regs.R8 e = inr (omega arith, omega arith)
volatile_number regs.R9 e = inr (omega arith, omega arith)
volatile_number regs.R10 e = inr (omega arith, omega arith)
volatile_number regs.R11 e = inr (omega arith, omega arith)
volatile_number r e = absurd cc

others_by : (r : List ℕ) (k v : ℕ) → (let j : ℕ = 3 in j ≢ k) → (let j : ℕ = 5 in j ≢ k)
    → (let j : ℕ = 6 in j ≢ k) → (let j : ℕ = 7 in j ≢ k)
    → (let j : ℕ = 12 in j ≢ k) → (let j : ℕ = 13 in j ≢ k) → (let j : ℕ = 14 in j ≢ k)
    → (let j : ℕ = 15 in j ≢ k) → others_of (slice_set r k v) ≡ others_of r
others_by r k v a b c d e f g h =
    λ i. get_or-set_other r k 3 v 0 a i ∷ get_or-set_other r k 5 v 0 b i
    ∷ get_or-set_other r k 6 v 0 c i ∷ get_or-set_other r k 7 v 0 d i
    ∷ get_or-set_other r k 12 v 0 e i ∷ get_or-set_other r k 13 v 0 f i
    ∷ get_or-set_other r k 14 v 0 g i ∷ get_or-set_other r k 15 v 0 h i ∷ []

others_set : (r : List ℕ) (k v : ℕ) → IsBeside k → others_of (slice_set r k v) ≡ others_of r
others_set r k v (inl l) = others_by r k v (λ e. absurd (omega arith)) (λ e. absurd (omega arith))
    (λ e. absurd (omega arith)) (λ e. absurd (omega arith)) (λ e. absurd (omega arith))
    (λ e. absurd (omega arith)) (λ e. absurd (omega arith)) (λ e. absurd (omega arith))
others_set r k v (inr h) =
    let l = h.0 in
    let u = h.1 in
    others_by r k v (λ e. absurd (omega arith)) (λ e. absurd (omega arith))
    (λ e. absurd (omega arith)) (λ e. absurd (omega arith)) (λ e. absurd (omega arith))
    (λ e. absurd (omega arith)) (λ e. absurd (omega arith)) (λ e. absurd (omega arith))

-- RSP isn't one of them
others_rsp : (r : List ℕ) (v : ℕ) → others_of (slice_set r 4 v) ≡ others_of r
others_rsp r v = others_by r 4 v (λ e. absurd (omega arith)) (λ e. absurd (omega arith))
    (λ e. absurd (omega arith)) (λ e. absurd (omega arith)) (λ e. absurd (omega arith))
    (λ e. absurd (omega arith)) (λ e. absurd (omega arith)) (λ e. absurd (omega arith))

rsp_set : (r : List ℕ) (k v : ℕ) → IsBeside k → slice_index (slice_set r k v) 4 ≡ slice_index r 4
rsp_set r k v (inl l) = get_or-set_other r k 4 v 0 (λ e. absurd (omega arith))
rsp_set r k v (inr h) = let l = h.0 in let u = h.1 in
    get_or-set_other r k 4 v 0 (λ e. absurd (omega arith))

-- ---- answers

pub record Bound {A B : Type 0} (a : Answer A) (f : A → Answer B) (y : B) : Type 0 where
  pub value : A
  pub is : a ≡ Ok value
  pub then : f value ≡ Ok y

pub bound : {A B : Type 0} (a : Answer A) (f : A → Answer B) (y : B) → (a >>= f) ≡ Ok y
    → Bound a f y
bound (Ok x) f y e = record { value = x; is = refl; then = e }
bound (Err x) f y e = absurd cc

pub the_same : {A : Type 0} → {x y : A} → ◌≡◌ {A = Answer A} (Ok x) (Ok y) → x ≡ y
the_same e = cc

-- ---- instructions that write no memory, and no register but volatile ones

pub record Leaves (s t : State) : Type 0 where
  pub memory : t.memory ≡ s.memory
  pub rip : t.cpu.rip ≡ s.cpu.rip
  pub stack : register t.cpu Rsp ≡ register s.cpu Rsp
  pub others : others_of t.cpu.registers ≡ others_of s.cpu.registers

set_leaves : (s t : State) (w : Width) (k : Reg) (v : ℕ) → is_volatile k ≡ true
    → ◌≡◌ {A = Answer State} (Ok (record s { cpu = with_register w s.cpu k v })) (Ok t) → Leaves s t
set_leaves s t w k v q e =
    let b = volatile_number k q in
    subst (Leaves s) (the_same e) (record {
      memory = refl;
      rip = refl;
      stack = rsp_set s.cpu.registers (number k) _ b;
      others = others_set s.cpu.registers (number k) _ b;
    })

write_leaves : (s t : State) (w : Width) (to : RegisterOrMemory) (v : ℕ)
    → is_volatile_place to ≡ true → write s w to v ≡ Ok t → Leaves s t
write_leaves s t w (places.Register k) v q e = set_leaves s t w k v q e
write_leaves s t w (places.Memory a) v q e = absurd cc

abbrev pub is_idle : Instr → Bool
is_idle (instrs.Move w to from) = is_volatile_place to
is_idle (instrs.LoadAddress w to m) = is_volatile to
is_idle (instrs.Test w first second) = true
is_idle (instrs.Arithmetic operations.Sub w to from) = is_volatile_place to
is_idle (instrs.Arithmetic operations.Compare w first second) = true
is_idle i = false

pub idle_leaves : (s t : State) (i : Instr) → is_idle i ≡ true → effect s i ≡ Ok t → Leaves s t
idle_leaves s t (instrs.Move w to from) q e = let b = bound (operand s w from) (write s w to) t e in
    write_leaves s t w to b.value q b.then
idle_leaves s t (instrs.LoadAddress w to m) q e = set_leaves s t w to _ q e
idle_leaves s t (instrs.Test w first second) q e =
    let b = bound (operand s w second) (λ b. read s w first
    >>= λ a. Ok (with_flags s (computed operations.And w a b).1)) t e in
    let c = bound (read s w first) (λ a. Ok (with_flags s (computed operations.And w a b.value).1))
    t b.then in
    subst (Leaves s) (the_same c.then) (record
    { memory = refl; rip = refl; stack = refl; others = refl })
idle_leaves s t (instrs.Arithmetic operations.Sub w to from) q e =
    let o = operations.Sub in
    let b = bound (operand s w from) (λ b. may_change s w to >>= λ _. read s w to
    >>= λ a. write (with_flags s (computed o w a b).1) w to (computed o w a b).0) t e in
    let c = bound (may_change s w to) (λ _. read s w to
    >>= λ a. write (with_flags s (computed o w a b.value).1) w to (computed o w a b.value).0) t
    b.then in
    let d = bound (read s w to) (λ a. write (with_flags s (computed o w a b.value).1) w to
    (computed o w a b.value).0) t c.then in
    let r = write_leaves (with_flags s (computed o w d.value b.value).1) t w to
    (computed o w d.value b.value).0 q d.then in
    record { memory = r.memory; rip = r.rip; stack = r.stack; others = r.others }
idle_leaves s t (instrs.Arithmetic operations.Compare w first second) q e =
    let o = operations.Compare in
    let b = bound (operand s w second) (λ b. read s w first
    >>= λ a. Ok (with_flags s (computed o w a b).1)) t e in
    let c = bound (read s w first) (λ a. Ok (with_flags s (computed o w a b.value).1))
    t b.then in
    subst (Leaves s) (the_same c.then) (record
    { memory = refl; rip = refl; stack = refl; others = refl })
idle_leaves s t i q e = absurd cc

-- ---- a move to a register

-- it changes that register alone
pub record Fills (s t : State) (r : Reg) : Type 0 where
  pub memory : t.memory ≡ s.memory
  pub rip : t.cpu.rip ≡ s.cpu.rip
  pub beside : (k : ℕ) → k ≢ number r
      → slice_index t.cpu.registers k ≡ slice_index s.cpu.registers k

pub fills : (s t : State) (r : Reg) (from : Operand)
    → effect s (instrs.Move W64 (places.Register r) from) ≡ Ok t → Fills s t r
fills s t r from e =
    let b = bound (operand s W64 from) (write s W64 (places.Register r)) t e in
    subst (λ u. Fills s u r) (the_same b.then)
    (record {
      memory = refl;
      rip = refl;
      beside = λ k ne. get_or-set_other s.cpu.registers (number r) k _ 0 ne;
    })

-- ---- a register is stored above RSP

pub record Stores (s t : State) (at : ℕ) : Type 0 where
  pub registers : t.cpu.registers ≡ s.cpu.registers
  pub rip : t.cpu.rip ≡ s.cpu.rip
  pub beside : (x : ℕ) → (x < at) ⊎ (at + 8 ≤ x) → t.memory.byte x ≡ s.memory.byte x

unless_beside : (m : Memory) (o : Option ℕ) (at v x : ℕ) → at + 8 < 2 ^ 63 → (x < at) ⊎ (at + 8 ≤ x)
    → (unless_refused o (with_bytes m (with_number m.byte 8 at v)) m).byte x ≡ m.byte x
unless_beside m None at v x high out = untouched m.byte 8 at v x
    (λ i lt e. absurd (elim out [ inl l ↦ omega arith | inr r ↦ omega arith ])) (omega arith)
unless_beside m (Some a) at v x high out = refl

store_beside : (m : Memory) (at v x : ℕ) → at + 8 < 2 ^ 63 → (x < at) ⊎ (at + 8 ≤ x)
    → (after_store m at W64 v).byte x ≡ m.byte x
store_beside m at v x high out = unless_beside m (first_refused (may_write m) 8 at) at v x high out

store_is : (s t : State) (at v : ℕ) → store s at W64 v ≡ Ok t
    → t ≡ record s { memory = after_store s.memory at W64 v }
store_is s t at v e =
    let b = bound _ (λ _. Ok (record s { memory = after_store s.memory at W64 v })) t e in
    sym (the_same b.then)

abbrev pub above_rsp : ℕ → MemRef
above_rsp d = record { base = bases.Register Rsp; index = None; displacement = d }

pub store_leaves : (s t : State) (d : ℕ) (r : Reg) → register s.cpu Rsp + d + 8 < 2 ^ 63
    → effect s (instrs.Move W64 (places.Memory (above_rsp d)) (operands.Register r)) ≡ Ok t
    → Stores s t (register s.cpu Rsp + d)
store_leaves s t d r high e =
    let sp = register s.cpu Rsp in
    let place : (sp + 0 + d) % 2 ^ 64 ≡ sp + d = omega arith in
    let v = register s.cpu r % 2 ^ 64 in
    let is = store_is s t (sp + d) v (subst (λ a. store s a W64 v ≡ Ok t) place e) in
    subst (λ u. Stores s u (sp + d)) (sym is)
    (record {
      registers = refl;
      rip = refl;
      beside = λ x out. store_beside s.memory (sp + d) v x high out;
    })

-- ---- a call, and a return

pub record Calls (s t : State) (sp to : ℕ) : Type 0 where
  pub rip : t.cpu.rip ≡ to
  pub stack : register t.cpu Rsp ≡ sp
  pub others : others_of t.cpu.registers ≡ others_of s.cpu.registers
  pub count : length t.cpu.registers ≡ length s.cpu.registers
  pub rax : register t.cpu Rax ≡ register s.cpu Rax
  pub pushed : word t.memory sp ≡ Ok s.cpu.rip
  pub beside : (x : ℕ) → (x < sp) ⊎ (sp + 8 ≤ x) → t.memory.byte x ≡ s.memory.byte x

granted_ok : {A : Type 0} → (r : Result A RefusedAccess) (x : A) → granted r ≡ Ok x → r ≡ Ok x
granted_ok (Ok y) x e = cc
granted_ok (Err a) x e = absurd cc

-- what is read where it was stored
stored_word : (m : Memory) (at v : ℕ) → at < 2 ^ 64 → v < 2 ^ 64 → stored m at W64 ≡ Ok tt
    → word (after_store m at W64 v) at ≡ Ok v
stored_word m at v lt small ok = ap (readable at) (loads_what_was_stored m at v W64 lt ok)
    ∙ (let z : v % 2 ^ 64 ≡ v = omega arith in ap (λ x. Ok x) z)

pub word_loads : (m : Memory) (at v : ℕ) → word m at ≡ Ok v → load m at W64 ≡ Ok v
word_loads m at v e = by (loaded m at W64) e
  where
    by : (r : Result ℕ RefusedAccess) → readable at r ≡ Ok v → granted r ≡ Ok v
    by (Ok x) is = cc
    by (Err a) is = absurd cc

pub calls : (s t : State) (d sp to : ℕ) → length s.cpu.registers ≡ 16 → s.cpu.rip < 2 ^ 64
    → register s.cpu Rsp ≡ sp + 8 → sp + 8 < 2 ^ 63 → (s.cpu.rip + d) % 2 ^ 64 ≡ to
    → effect s (instrs.Call (Relative d)) ≡ Ok t → Calls s t sp to
calls s t d sp to n small at high target e =
    let next = s.cpu.rip in
    let lowered = λ (a : ℕ). record s { cpu = with_register W64 s.cpu Rsp a } in
    let place : (register s.cpu Rsp + (2 ^ 64 - 8)) % 2 ^ 64 ≡ sp = omega arith in
    let moved = subst (λ (a : ℕ). (store (lowered a) a W64 next
    >>= λ after. Ok (with_rip after ((next + d) % 2 ^ 64))) ≡ Ok t) place e in
    let k = bound (store (lowered sp) sp W64 next)
    (λ after. Ok (with_rip after ((next + d) % 2 ^ 64))) t moved in
    let is = store_is (lowered sp) k.value sp next k.is in
    let may = granted_ok (stored s.memory sp W64) _
    (bound (granted (stored s.memory sp W64))
    (λ _. Ok (record (lowered sp) { memory = after_store s.memory sp W64 next })) k.value
    k.is).is in
    let w : State = with_rip (record (lowered sp) { memory = after_store s.memory sp W64 next })
    ((next + d) % 2 ^ 64) in
    let same : w ≡ t = ap (λ (u : State). with_rip u ((next + d) % 2 ^ 64)) (sym is)
    ∙ the_same k.then in
    subst (λ u. Calls s u sp to) same
    (record {
      rip = target;
      stack = get_or-set_same s.cpu.registers 4 (sp % 2 ^ 64) 0 (omega arith)
          ∙ (let z : sp % 2 ^ 64 ≡ sp = omega arith in z);
      others = others_rsp s.cpu.registers (sp % 2 ^ 64);
      count = length-set s.cpu.registers 4 (sp % 2 ^ 64);
      rax = get_or-set_other s.cpu.registers 4 0 (sp % 2 ^ 64) 0 (λ z. absurd (omega arith));
      pushed = stored_word s.memory sp next (omega arith) small may;
      beside = λ x out. store_beside s.memory sp next x high out;
    })

pub record Returns (s t : State) (sp back : ℕ) : Type 0 where
  pub rip : t.cpu.rip ≡ back
  pub stack : register t.cpu Rsp ≡ sp
  pub others : others_of t.cpu.registers ≡ others_of s.cpu.registers
  pub count : length t.cpu.registers ≡ length s.cpu.registers
  pub rax : register t.cpu Rax ≡ register s.cpu Rax
  pub memory : t.memory ≡ s.memory

pub returns : (s t : State) (sp back : ℕ) → length s.cpu.registers ≡ 16
    → register s.cpu Rsp + 8 ≡ sp → sp < 2 ^ 64 → load s.memory (register s.cpu Rsp) W64 ≡ Ok back
    → effect s instrs.Return ≡ Ok t → Returns s t sp back
returns s t sp back n at high is e =
    let up = (register s.cpu Rsp + 8) % 2 ^ 64 in
    let after : State = record s { cpu = with_register W64 s.cpu Rsp up } in
    let same : ◌≡◌ {A = Answer State} (Ok (with_rip after back)) (Ok t) =
    sym (ap (λ (o : Answer ℕ). (o >>= λ v. let y : Answer (ℕ × State) = Ok (v, after) in y)
    >>= λ x. Ok (with_rip x.1 x.0)) is) ∙ e in
    let v : up % 2 ^ 64 ≡ sp = omega arith in
    subst (λ u. Returns s u sp back) (the_same same)
    (record {
      rip = refl;
      stack = get_or-set_same s.cpu.registers 4 (up % 2 ^ 64) 0 (omega arith) ∙ v;
      others = others_rsp s.cpu.registers (up % 2 ^ 64);
      count = length-set s.cpu.registers 4 (up % 2 ^ 64);
      rax = get_or-set_other s.cpu.registers 4 0 (up % 2 ^ 64) 0 (λ z. absurd (omega arith));
      memory = refl;
    })

-- ---- RAX

-- a number is put into it
pub puts_rax : (s t : State) (v : ℕ) → length s.cpu.registers ≡ 16 → v < 2 ^ 32
    → effect s (instrs.Move W32 (places.Register Rax) (operands.Immediate v)) ≡ Ok t
    → register t.cpu Rax ≡ v
puts_rax s t v n lt e =
    let z : v % 2 ^ 32 % 2 ^ 32 ≡ v = omega arith in
    subst (λ (u : State). register u.cpu Rax ≡ v) (the_same e)
    (get_or-set_same s.cpu.registers 0 (v % 2 ^ 32 % 2 ^ 32) 0 (omega arith) ∙ z)

-- ---- what `__chkstk` does

-- a volatile register takes a number, and the others stay
pub record Takes (s t : State) (r : Reg) (v : ℕ) : Type 0 where
  pub is : register t.cpu r ≡ v
  pub beside : (k : ℕ) → k ≢ number r
      → slice_index t.cpu.registers k ≡ slice_index s.cpu.registers k

pub loads_address : (s t : State) (r : Reg) (m : MemRef) → length s.cpu.registers ≡ 16
    → number r < 16 → effect s (instrs.LoadAddress W64 r m) ≡ Ok t
    → Takes s t r (address_of s.cpu m % 2 ^ 64)
loads_address s t r m n lt e =
    let v = address_of s.cpu m % 2 ^ 64 in
    subst (λ (u : State). Takes s u r v) (the_same e)
    (record {
      is = get_or-set_same s.cpu.registers (number r) v 0 (omega arith);
      beside = λ k ne. get_or-set_other s.cpu.registers (number r) k v 0 ne;
    })

-- a number that is no larger is subtracted
pub subtracts : (s t : State) (r q : Reg) (a b : ℕ) → length s.cpu.registers ≡ 16
    → number r < 16 → register s.cpu r ≡ a → register s.cpu q ≡ b → b ≤ a → a < 2 ^ 64
    → effect s (instrs.Arithmetic operations.Sub W64 (places.Register r) (operands.Register q))
    ≡ Ok t → Takes s t r (a - b)
unfolding subtracted
subtracts s t r q a b n lt is by le small e =
    let old = s.cpu.registers in
    let v = low W64 (low W64 (low W64 (register s.cpu r)
    + (2 ^ 64 - low W64 (register s.cpu q)))) in
    let z : v ≡ a - b = omega arith in
    subst (λ (u : State). Takes s u r (a - b)) (the_same e)
    (record {
      is = get_or-set_same old (number r) v 0 (omega arith) ∙ z;
      beside = λ k ne. get_or-set_other old (number r) k v 0 ne;
    })

-- two registers are compared
pub record Compares (s t : State) (r q : Reg) : Type 0 where
  pub registers : t.cpu.registers ≡ s.cpu.registers
  pub flags : t.cpu.flags
      ≡ (subtracted W64 (low W64 (register s.cpu r)) (low W64 (register s.cpu q))).1

pub compares : (s t : State) (r q : Reg)
    → effect s (instrs.Arithmetic operations.Compare W64 (places.Register r) (operands.Register q))
    ≡ Ok t → Compares s t r q
compares s t r q e =
    subst (λ (u : State). Compares s u r q) (the_same e) (record { registers = refl; flags = refl })

-- a byte is touched
pub touches : (s t : State) (w : Width) (first : RegisterOrMemory) (second : Operand)
    → effect s (instrs.Test w first second) ≡ Ok t → t.cpu.registers ≡ s.cpu.registers
touches s t w first second e =
    let b = bound (operand s w second) (λ b. read s w first
    >>= λ a. Ok (with_flags s (computed operations.And w a b).1)) t e in
    let c = bound (read s w first) (λ a. Ok (with_flags s (computed operations.And w a b.value).1))
    t b.then in
    subst (λ (u : State). u.cpu.registers ≡ s.cpu.registers) (the_same c.then) refl

-- none of these is a call
pub idle_calls_nothing : (i : Instr) → is_idle i ≡ true → is_a_call i ≡ false
idle_calls_nothing (instrs.Call to) q = absurd cc
idle_calls_nothing i q = refl

-- ---- a jump

pub record Jumps (s t : State) : Type 0 where
  pub memory : t.memory ≡ s.memory
  pub registers : t.cpu.registers ≡ s.cpu.registers

pub jumps : (s t : State) (to : Target) → effect s (instrs.Jump to) ≡ Ok t → Jumps s t
jumps s t to e =
    let k = bound (target_of s to) (λ a. Ok (with_rip s a)) t e in
    subst (λ (u : State). Jumps s u) (the_same k.then) (record { memory = refl; registers = refl })
