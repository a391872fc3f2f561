-- Slots are brought to registers, and RAX is put into a slot.
use Rattle.std.proofs.Common.{◌≡◌, ℕ, ◌+◌, ◌%◌, ◌^◌, ◌<◌, ◌≤◌, Bool, true, false, [], ◌∷◌, Option, Some, None, Ok, refl, sym, ap, ◌∙◌, arith, inl, inr}
use Rattle.std.specs.Prelude.{◌⊎◌, slice_index}
use Rattle.x64_templates.specs.Words.{move, LocalRegisters, local_in, registers_of, HasArrived, parameter_register, Place, InRegister, InFrame, Arriving, place_of, number_placed, fetch_placed, W64, low, Memory, first_refused, may_read, may_write, number_at, with_number, with_bytes, Reg, Rax, Rcx, Rsp, Flags, ◌>>=◌, Answer, load, store, Slot, Local, Temporary, BodyState, Counts, IsSlot, Layout, MachineView, machine, Executes, fetched, put_back, temporary_at, local_at, fetch_local, fetch, slot_at, InTemporaries, InLocals, HasBase, SlotsHaveRoom, MemoryKeepsBase, HoldsBody}
use Rattle.x64_templates.proofs.Lemmas.{writable_is_readable}
use Rattle.x64_templates.proofs.PlacedCode.{all_may, store_at, load_at}
use Rattle.x64_instr.specs.Registers.{number}
use Rattle.template_code.proofs.Places.{arriving_low}
use Rattle.x64_templates.proofs.Locals.{register_fetched, local_held, place_is_local}
use Rattle.x64_templates.proofs.Straight.{executes_one, executes_then}

-- RAX or RCX
abbrev pub reg : Bool → Reg
reg true = Rax
reg false = Rcx

abbrev pub put : Bool → MachineView → ℕ → MachineView
put true v x = record v { rax = x }
put false v x = record v { rcx = x }

-- what stands in it
abbrev pub got : Bool → MachineView → ℕ
got true v = v.rax
got false v = v.rcx

-- RSP
abbrev pub sp_of : MachineView → ℕ
sp_of v = v.rest.rsp

word_is : (y x : ℕ) → y ≡ x → x < 2 ^ 64 → low W64 y ≡ x
word_is y x e lt = omega arith

-- ---- one access

-- a load from a place above RSP
pub from_sp : (r : Bool) (v : MachineView) (d at x : ℕ) → (sp_of v + 0 + d) % 2 ^ 64 ≡ at
    → first_refused (may_read v.memory) 8 at ≡ None → number_at v.memory.byte 8 at ≡ x → x < 2 ^ 64
    → Executes (fetched (reg r) Rsp d ∷ []) v (put r v x)
from_sp true v d at x e may is lt = executes_one (fetched Rax Rsp d) v (put true v x) (λ rip f. (
  f,
  ap (λ (a : ℕ). load v.memory a W64 >>= λ y. Ok (machine (put true v (low W64 y)) rip f)) e
      ∙ ap (λ (o : Answer ℕ). o >>= λ y. Ok (machine (put true v (low W64 y)) rip f))
      (load_at v.memory at may)
      ∙ ap (λ (y : ℕ). Ok (machine (put true v y) rip f))
      (word_is (number_at v.memory.byte 8 at) x is lt),
))
from_sp false v d at x e may is lt = executes_one (fetched Rcx Rsp d) v (put false v x) (λ rip f. (
  f,
  ap (λ (a : ℕ). load v.memory a W64 >>= λ y. Ok (machine (put false v (low W64 y)) rip f)) e
      ∙ ap (λ (o : Answer ℕ). o >>= λ y. Ok (machine (put false v (low W64 y)) rip f))
      (load_at v.memory at may)
      ∙ ap (λ (y : ℕ). Ok (machine (put false v y) rip f))
      (word_is (number_at v.memory.byte 8 at) x is lt),
))

-- a local in a register
local_moved : (r : Bool) (q : Reg) (v : MachineView) (x : ℕ)
    → slice_index (registers_of v) (number q) ≡ x → x < 2 ^ 64
    → Executes (move W64 (reg r) q ∷ []) v (put r v x)
local_moved true q v x is lt = executes_one (move W64 Rax q) v (put true v x)
    (λ rip f. (f, (register_fetched q v rip f x is lt).0))
local_moved false q v x is lt = executes_one (move W64 Rcx q) v (put false v x)
    (λ rip f. (f, (register_fetched q v rip f x is lt).1))

-- a load from a place above the base in the same register
from_base : (r : Bool) (v : MachineView) (base d at x : ℕ) → (base + 0 + d) % 2 ^ 64 ≡ at
    → first_refused (may_read v.memory) 8 at ≡ None → number_at v.memory.byte 8 at ≡ x → x < 2 ^ 64
    → Executes (fetched (reg r) (reg r) d ∷ []) (put r v base) (put r v x)
from_base true v base d at x e may is lt = executes_one (fetched Rax Rax d) (put true v base)
    (put true v x) (λ rip f. (
      f,
      ap (λ (a : ℕ). load v.memory a W64 >>= λ y. Ok (machine (put true v (low W64 y)) rip f)) e
          ∙ ap (λ (o : Answer ℕ). o >>= λ y. Ok (machine (put true v (low W64 y)) rip f))
          (load_at v.memory at may)
          ∙ ap (λ (y : ℕ). Ok (machine (put true v y) rip f))
          (word_is (number_at v.memory.byte 8 at) x is lt),
    ))
from_base false v base d at x e may is lt = executes_one (fetched Rcx Rcx d) (put false v base)
    (put false v x) (λ rip f. (
      f,
      ap (λ (a : ℕ). load v.memory a W64 >>= λ y. Ok (machine (put false v (low W64 y)) rip f)) e
          ∙ ap (λ (o : Answer ℕ). o >>= λ y. Ok (machine (put false v (low W64 y)) rip f))
          (load_at v.memory at may)
          ∙ ap (λ (y : ℕ). Ok (machine (put false v y) rip f))
          (word_is (number_at v.memory.byte 8 at) x is lt),
    ))

-- RAX in memory
abbrev pub written : MachineView → ℕ → MachineView
written v at = record v { memory = with_bytes v.memory (with_number v.memory.byte 8 at v.rax) }

stores : (v : MachineView) (at rip : ℕ) (f : Flags) → v.rax < 2 ^ 64
    → first_refused (may_write v.memory) 8 at ≡ None
    → store (machine v rip f) at W64 (low W64 v.rax) ≡ Ok (machine (written v at) rip f)
stores v at rip f lt may = ap (store (machine v rip f) at W64) (word_is v.rax v.rax refl lt)
    ∙ store_at (machine v rip f) at v.rax may

pub to_sp : (v : MachineView) (d at : ℕ) → (sp_of v + 0 + d) % 2 ^ 64 ≡ at
    → first_refused (may_write v.memory) 8 at ≡ None → v.rax < 2 ^ 64
    → Executes (put_back Rsp d ∷ []) v (written v at)
to_sp v d at e may lt = executes_one (put_back Rsp d) v (written v at)
    (λ rip f. (
      f,
      ap (λ (a : ℕ). store (machine v rip f) a W64 (low W64 v.rax)) e
          ∙ stores v at rip f lt may,
    ))

pub to_rcx : (v : MachineView) (d at : ℕ) → (v.rcx + 0 + d) % 2 ^ 64 ≡ at
    → first_refused (may_write v.memory) 8 at ≡ None → v.rax < 2 ^ 64
    → Executes (put_back Rcx d ∷ []) v (written v at)
to_rcx v d at e may lt = executes_one (put_back Rcx d) v (written v at)
    (λ rip f. (
      f,
      ap (λ (a : ℕ). store (machine v rip f) a W64 (low W64 v.rax)) e
          ∙ stores v at rip f lt may,
    ))

-- ---- the slots of a frame

module _ (y : Layout) (n : Counts) (reserved : ℕ → Bool) (sp base : ℕ) (arrived : ℕ → ℕ)
    (room : SlotsHaveRoom y n sp base) where
  pub slot_high : (x : Slot) → IsSlot n x → slot_at y sp base x + 8 < 2 ^ 64
  slot_high (Temporary i) lt = let a = room.temporaries in let h = room.high in omega arith
  slot_high (Local i) lt = let a = room.locals in let h = room.base_high in omega arith

  pub slot_bytes : (x : Slot) (a : ℕ) → IsSlot n x → slot_at y sp base x ≤ a
      → a < slot_at y sp base x + 8 → InTemporaries y n sp a ⊎ InLocals y n base a
  slot_bytes (Temporary i) a lt p q = inl (omega arith, omega arith)
  slot_bytes (Local i) a lt p q = inr (omega arith, omega arith)

  pub may_write_slot : (locals : LocalRegisters) (m : Memory) (b : BodyState) (x : Slot)
      → HoldsBody y n reserved sp base arrived locals m b
      → IsSlot n x → first_refused (may_write m) 8 (slot_at y sp base x) ≡ None
  may_write_slot locals m b x h is = all_may (may_write m) 8 (slot_at y sp base x) (slot_high x is)
      (λ a p q. h.writable a (slot_bytes x a is p q))

  pub may_read_slot : (locals : LocalRegisters) (m : Memory) (b : BodyState) (x : Slot)
      → HoldsBody y n reserved sp base arrived locals m b
      → IsSlot n x → first_refused (may_read m) 8 (slot_at y sp base x) ≡ None
  may_read_slot locals m b x h is = writable_is_readable m 8 (slot_at y sp base x)
      (may_write_slot locals m b x h is)

  pub sp_address : (i : ℕ) → i < n.temporaries
      → (sp + 0 + temporary_at y i) % 2 ^ 64 ≡ sp + temporary_at y i
  sp_address i lt = let a = room.temporaries in let h = room.high in omega arith

  pub base_address : (i : ℕ) → i < n.locals → (base + 0 + local_at y i) % 2 ^ 64
      ≡ base + local_at y i
  base_address i lt = let a = room.locals in let h = room.base_high in omega arith

  -- the base, from where a filter or a `__finally` block keeps it
  pub fetch_base : (r : Bool) (b : ℕ) (v : MachineView) → sp_of v ≡ sp → HasBase y (Some b) sp base
      → MemoryKeepsBase (Some b) sp base v.memory
      → Executes (fetched (reg r) Rsp b ∷ []) v (put r v base)
  fetch_base r b v at has keeps =
      let t = room.temporaries in
      let h = room.high in
      let hb = room.base_high in
      let below = has.0 in
      let e : (sp_of v + 0 + b) % 2 ^ 64 ≡ sp + b = omega arith in
      from_sp r v b (sp + b) base e (writable_is_readable v.memory 8 (sp + b)
      (all_may (may_write v.memory) 8 (sp + b) (omega arith)
      (λ a p q. keeps.1 a p (omega arith)))) keeps.0 (omega arith)

  local_fetched : (r : Bool) (o : Option ℕ) (i : ℕ) (v : MachineView) (b : BodyState) → i < n.locals
      → sp_of v ≡ sp → HasBase y o sp base → MemoryKeepsBase o sp base v.memory
      → HoldsBody y n reserved sp base arrived v.locals v.memory b
      → number_at v.memory.byte 8 (base + local_at y i) ≡ b.slots (Local i)
      → Executes (fetch_local o (reg r) (local_at y i)) v (put r v (b.slots (Local i)))
  local_fetched r None i v b lt at has keeps h is =
      let e : (sp_of v + 0 + local_at y i) % 2 ^ 64
      ≡ base + local_at y i = ap (λ (s : ℕ). (s + 0 + local_at y i) % 2 ^ 64) (at ∙ sym has)
      ∙ base_address i lt in
      from_sp r v (local_at y i) (base + local_at y i) (b.slots (Local i)) e
      (may_read_slot v.locals v.memory b (Local i) h lt) is (h.small (Local i) lt)
  local_fetched r (Some k) i v b lt at has keeps h is =
      executes_then (fetched (reg r) Rsp k ∷ []) (fetched (reg r) (reg r) (local_at y i) ∷ []) v
      (put r v base) (put r v (b.slots (Local i)))
      (fetch_base r k v at has keeps)
      (from_base r v base (local_at y i) (base + local_at y i) (b.slots (Local i))
      (base_address i lt) (may_read_slot v.locals v.memory b (Local i) h lt) is
      (h.small (Local i) lt))

  placed_fetched : (r : Bool) (i : ℕ) (p : Place) → place_of y i ≡ p → (v : MachineView)
      (b : BodyState) → i < n.locals → HasArrived y arrived v → sp_of v ≡ sp
      → HoldsBody y n reserved sp base arrived v.locals v.memory b
      → Executes (fetch_placed y (reg r) i p) v (put r v (b.slots (Local i)))
  placed_fetched r i (InRegister q) e v b lt here at h =
      let is : local_in v.locals q
      ≡ b.slots (Local i) = sym (ap (number_placed y base arrived v.locals v.memory i) e)
      ∙ h.slot (Local i) lt in
      local_moved r q v (b.slots (Local i)) (local_held v q (place_is_local y i q e) ∙ is)
      (h.small (Local i) lt)
  placed_fetched r i InFrame e v b lt here at h = local_fetched r y.base i v b lt at room.kept_base
      h.kept_base h
      (sym (ap (number_placed y base arrived v.locals v.memory i) e) ∙ h.slot (Local i) lt)
  placed_fetched r i Arriving e v b lt here at h =
      local_moved r (parameter_register i) v (b.slots (Local i)) (here i (arriving_low y i e)
      ∙ sym (ap (number_placed y base arrived v.locals v.memory i) e) ∙ h.slot (Local i) lt)
      (h.small (Local i) lt)

  pub fetch_does : (r : Bool) (x : Slot) (v : MachineView) (b : BodyState) → IsSlot n x
      → HasArrived y arrived v → sp_of v ≡ sp
      → HoldsBody y n reserved sp base arrived v.locals v.memory b
      → Executes (fetch y (reg r) x) v (put r v (b.slots x))
  fetch_does r (Temporary i) v b lt here at h =
      let e : (sp_of v + 0 + temporary_at y i) % 2 ^ 64
      ≡ sp + temporary_at y i = ap (λ (s : ℕ). (s + 0 + temporary_at y i) % 2 ^ 64) at
      ∙ sp_address i lt in
      from_sp r v (temporary_at y i) (sp + temporary_at y i) (b.slots (Temporary i)) e
      (may_read_slot v.locals v.memory b (Temporary i) h lt) (h.slot (Temporary i) lt)
      (h.small (Temporary i) lt)
  fetch_does r (Local i) v b lt here at h =
      placed_fetched r i (place_of y i) refl v b lt here at h
