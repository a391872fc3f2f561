-- The slots of a body after one of them was written, and after an access of the source.
use Rattle.std.proofs.Common.{◌≡◌, ◌≢◌, ℕ, ◌+◌, ◌%◌, ◌^◌, ◌<◌, ◌≤◌, Bool, true, false, cond, eqb, [], ◌∷◌, Option, Some, None, refl, sym, ap, ◌∙◌, arith, inl, inr}
use Rattle.std.specs.Prelude.{◌⊎◌}
use Rattle.std.proofs.lemmas.Bool.{cases_lt, cases_eq, eq-eqb, ne_eqb}
use Rattle.x64_templates.specs.Words.{Protection, is_writable, Memory, may_write, number_at, with_number, with_bytes, Rcx, Rsp, Slot, Local, Temporary, BodyState, Counts, with_slot, IsSlot, Layout, MachineView, Executes, fetched, put_back, temporary_at, local_at, keep_local, keep, slot_at, InTemporaries, InLocals, HasBase, SlotsHaveRoom, MemoryKeepsBase, KeepsReserved, Agrees, HoldsBody, IsBytes, Changes, Reg, Rax, LocalRegisters, Place, InRegister, InFrame, Arriving, IsKept, place_of, is_of_local, with_local, number_placed, number_in, keep_placed, KeepsUnused}
use Rattle.x64_templates.proofs.Lemmas.{untouched, stored_is_loaded}
use Rattle.x64_templates.proofs.PlacedCode.{same_number}
use Rattle.template_code.proofs.Places.{arriving_low, places_apart}
use Rattle.x64_templates.proofs.Locals.{moved_to_local, local_set, local_beside, place_is_local, same_number_same, unused_same}
use Rattle.x64_templates.proofs.Straight.{executes_then}
use Rattle.x64_templates.proofs.Accesses.{digits}
use Rattle.x64_templates.proofs.Cells.{put, sp_of, written, to_sp, to_rcx, slot_high, slot_bytes, may_write_slot, sp_address, base_address, fetch_base}

pub changes_then : (y : Layout) (n : Counts) (reserved : ℕ → Bool) (sp base : ℕ) (a b c : Memory)
    → Changes y n reserved sp base a b → Changes y n reserved sp base b c
    → Changes y n reserved sp base a c
changes_then y n reserved sp base a b c p q =
    record {
      protection = q.protection ∙ p.protection;
      byte = λ x own out. q.byte x own out
          ∙ p.byte x own out;
      bytes = λ x. q.bytes (p.bytes x);
    }

pub may_write_same : (m m' : Memory) (a : ℕ) → m'.protection ≡ m.protection
    → may_write m' a ≡ may_write m a
may_write_same m m' a e = ap (λ (f : ℕ → Protection). is_writable (f a).rights) e

-- ---- registers and memory with another number in a slot

abbrev pub locals_placed : LocalRegisters → ℕ → Place → LocalRegisters
locals_placed l v (InRegister r) = with_local l r v
locals_placed l v InFrame = l
locals_placed l v Arriving = l

abbrev pub memory_placed : Layout → (base : ℕ) → Memory → ℕ → ℕ → Place → Memory
memory_placed y base m v i (InRegister r) = m
memory_placed y base m v i InFrame =
    with_bytes m (with_number m.byte 8 (base + local_at y i) v)
memory_placed y base m v i Arriving = m

abbrev pub kept_locals : Layout → LocalRegisters → ℕ → Slot → LocalRegisters
kept_locals y l v (Temporary i) = l
kept_locals y l v (Local i) = locals_placed l v (place_of y i)

abbrev pub kept_memory : Layout → (sp base : ℕ) → Memory → ℕ → Slot → Memory
kept_memory y sp base m v (Temporary i) =
    with_bytes m (with_number m.byte 8 (sp + temporary_at y i) v)
kept_memory y sp base m v (Local i) = memory_placed y base m v i (place_of y i)

abbrev pub kept_in : Layout → (sp base : ℕ) → MachineView → ℕ → Slot → MachineView
kept_in y sp base v x slot = record v {
  locals = kept_locals y v.locals x slot;
  memory = kept_memory y sp base v.memory x slot;
}

-- in its word of the frame
abbrev written_at : Layout → (sp base : ℕ) → Memory → ℕ → Slot → Memory
written_at y sp base m v x = with_bytes m (with_number m.byte 8 (slot_at y sp base x) v)

eighth : (v : ℕ) → v < 2 ^ 64 → v % 256 ^ 8 ≡ v
eighth v lt = omega arith

module _ (y : Layout) (n : Counts) (reserved : ℕ → Bool) (sp base : ℕ) (arrived : ℕ → ℕ)
    (room : SlotsHaveRoom y n sp base) where
  Outside : ℕ → Slot → Type 0
  Outside a x = (a < slot_at y sp base x) ⊎ (slot_at y sp base x + 8 ≤ a)

  beside : (m : Memory) (x : Slot) (v a : ℕ) → IsSlot n x → Outside a x
      → with_number m.byte 8 (slot_at y sp base x) v a ≡ m.byte a
  unfolding Outside
  beside m x v a is out = let high = slot_high y n reserved sp base arrived room x is in
      untouched m.byte 8 (slot_at y sp base x) v a
      (λ i lt e. absurd (elim out [ inl l ↦ omega arith | inr r ↦ omega arith ])) (omega arith)

  -- a byte that is in no slot of the frame
  off_slots : (a : ℕ) (x : Slot) → IsSlot n x → (InTemporaries y n sp a ⊎ InLocals y n base a → ⊥)
      → Outside a x
  unfolding Outside
  off_slots a x is out = elim (cases_lt a (slot_at y sp base x)) [
    | inl lt ↦ inl lt
    | inr le ↦ elim (cases_lt a (slot_at y sp base x + 8)) [
      | inl lt ↦ absurd (out (slot_bytes y n reserved sp base arrived room x a is le lt))
      | inr ge ↦ inr ge
    ]
  ]

  free_off : (l : LocalRegisters) (m : Memory) (b : BodyState) (a : ℕ)
      → HoldsBody y n reserved sp base arrived l m b
      → reserved a ≡ false → InTemporaries y n sp a ⊎ InLocals y n base a → ⊥
  free_off l m b a h r is = let x : true ≡ false = sym (h.own a is) ∙ r in absurd cc

  number_beside : (m : Memory) (x : Slot) (v at : ℕ) → IsSlot n x → at + 8 < 2 ^ 64
      → (at + 8 ≤ slot_at y sp base x) ⊎ (slot_at y sp base x + 8 ≤ at)
      → number_at (with_number m.byte 8 (slot_at y sp base x) v) 8 at ≡ number_at m.byte 8 at
  unfolding Outside
  number_beside m x v at is high out = same_number (with_number m.byte 8 (slot_at y sp base x) v)
      m.byte 8 at high (λ a p q. beside m x v a is
      (elim out [ inl l ↦ inl (omega arith) | inr r ↦ inr (omega arith) ]))

  number_here : (m : Memory) (x : Slot) (v : ℕ) → IsSlot n x → v < 2 ^ 64
      → number_at (with_number m.byte 8 (slot_at y sp base x) v) 8 (slot_at y sp base x) ≡ v
  number_here m x v is lt = let high = slot_high y n reserved sp base arrived room x is in
      stored_is_loaded m.byte 8 (slot_at y sp base x) v (omega arith) (omega arith) ∙ eighth v lt

  -- with another number in one slot, any slot of the other kind, or of another number, is as it was
  local_else : (b : BodyState) (i j v : ℕ) → j ≢ i
      → b.slots (Local j) ≡ with_slot b.slots (Local i) v (Local j)
  local_else b i j v ne = sym (ap (λ (c : Bool). cond c v (b.slots (Local j))) (ne_eqb j i ne))

  local_here : (b : BodyState) (i j v : ℕ) → j ≡ i → v ≡ with_slot b.slots (Local i) v (Local j)
  local_here b i j v e = sym (ap (λ (c : Bool). cond c v (b.slots (Local j))) (eq-eqb j i e))

  temporary_else : (b : BodyState) (i j v : ℕ) → j ≢ i
      → b.slots (Temporary j) ≡ with_slot b.slots (Temporary i) v (Temporary j)
  temporary_else b i j v ne =
      sym (ap (λ (c : Bool). cond c v (b.slots (Temporary j))) (ne_eqb j i ne))

  -- the number of a local, by its place
  placed_is : (l : LocalRegisters) (m : Memory) (b : BodyState) (j : ℕ) (p : Place)
      → place_of y j ≡ p → HoldsBody y n reserved sp base arrived l m b → j < n.locals
      → number_placed y base arrived l m j p ≡ b.slots (Local j)
  placed_is l m b j p e h lt = sym (ap (number_placed y base arrived l m j) e) ∙ h.slot (Local j) lt

  -- a temporary was written
  temporary_after : (l : LocalRegisters) (m : Memory) (b : BodyState) (i v : ℕ) (z : Slot)
      → HoldsBody y n reserved sp base arrived l m b → i < n.temporaries → IsSlot n z → v < 2 ^ 64
      → number_in y sp base arrived l (kept_memory y sp base m v (Temporary i)) z
      ≡ with_slot b.slots (Temporary i) v z
  temporary_after l m b i v (Temporary j) h is iz lt = elim (cases_eq j i) [
    | inl e ↦ ap (λ (k : ℕ). number_at (with_number m.byte 8 (sp + temporary_at y i) v) 8
        (sp + temporary_at y k)) e ∙ number_here m (Temporary i) v is lt
        ∙ sym (ap (λ (c : Bool). cond c v (b.slots (Temporary j))) (eq-eqb j i e))
    | inr ne ↦ number_beside m (Temporary i) v (sp + temporary_at y j) is
        (slot_high y n reserved sp base arrived room (Temporary j) iz)
        (elim (cases_lt j i) [ inl l ↦ inl (omega arith) | inr g ↦ inr (omega arith) ])
        ∙ h.slot (Temporary j) iz ∙ temporary_else b i j v ne
  ]
  temporary_after l m b i v (Local j) h is iz lt = by (place_of y j) refl
    where
      by : (p : Place) → place_of y j ≡ p → number_placed y base arrived l
          (kept_memory y sp base m v (Temporary i)) j p ≡ b.slots (Local j)
      by (InRegister r) e = placed_is l m b j (InRegister r) e h iz
      by Arriving e = placed_is l m b j Arriving e h iz
      by InFrame e = number_beside m (Temporary i) v (base + local_at y j) is
          (slot_high y n reserved sp base arrived room (Local j) iz)
          (elim room.apart [ inl l ↦ inl (omega arith) | inr r ↦ inr (omega arith) ])
          ∙ placed_is l m b j InFrame e h iz

  -- a local in the frame was written
  framed_after : (l : LocalRegisters) (m : Memory) (b : BodyState) (i v : ℕ) (z : Slot)
      → place_of y i ≡ InFrame → HoldsBody y n reserved sp base arrived l m b → i < n.locals
      → IsSlot n z
      → v < 2 ^ 64 → number_in y sp base arrived l (memory_placed y base m v i InFrame) z
      ≡ with_slot b.slots (Local i) v z
  framed_after l m b i v (Temporary j) framed h is iz lt =
      number_beside m (Local i) v (sp + temporary_at y j) is
      (slot_high y n reserved sp base arrived room (Temporary j) iz)
      (elim room.apart [ inl l ↦ inr (omega arith) | inr r ↦ inl (omega arith) ])
      ∙ h.slot (Temporary j) iz
  framed_after l m b i v (Local j) framed h is iz lt = by (place_of y j) refl
    where
      by : (p : Place) → place_of y j ≡ p → number_placed y base arrived l
          (memory_placed y base m v i InFrame) j p ≡ with_slot b.slots (Local i) v (Local j)
      by (InRegister r) e = placed_is l m b j (InRegister r) e h iz
          ∙ local_else b i j v (λ q. never r (sym framed ∙ ap (place_of y) (sym q) ∙ e))
        where
          never : (r : Reg) → InFrame ≡ InRegister r → ⊥
          never r e = absurd cc
      by Arriving e = placed_is l m b j Arriving e h iz
          ∙ local_else b i j v (λ q. never (sym framed ∙ ap (place_of y) (sym q) ∙ e))
        where
          never : InFrame ≡ Arriving → ⊥
          never e = absurd cc
      by InFrame e = elim (cases_eq j i) [
        | inl q ↦ ap (λ (k : ℕ). number_at (with_number m.byte 8 (base + local_at y i) v) 8
            (base + local_at y k)) q ∙ number_here m (Local i) v is lt ∙ local_here b i j v q
        | inr ne ↦ number_beside m (Local i) v (base + local_at y j) is
            (slot_high y n reserved sp base arrived room (Local j) iz)
            (elim (cases_lt j i) [ inl l ↦ inl (omega arith) | inr g ↦ inr (omega arith) ])
            ∙ placed_is l m b j InFrame e h iz ∙ local_else b i j v ne
      ]

  -- a local in a register was written
  register_after : (l : LocalRegisters) (m : Memory) (b : BodyState) (i v : ℕ) (r : Reg) (z : Slot)
      → place_of y i ≡ InRegister r → HoldsBody y n reserved sp base arrived l m b → IsSlot n z
      → number_in y sp base arrived (with_local l r v) m z ≡ with_slot b.slots (Local i) v z
  register_after l m b i v r (Temporary j) placed h iz = h.slot (Temporary j) iz
  register_after l m b i v r (Local j) placed h iz = by (place_of y j) refl
    where
      mine : is_of_local r ≡ true
      mine = place_is_local y i r placed

      never : (q : Reg) → InFrame ≡ InRegister q → ⊥
      never q e = absurd cc

      arrives : (q : Reg) → Arriving ≡ InRegister q → ⊥
      arrives q e = absurd cc

      by : (p : Place) → place_of y j ≡ p → number_placed y base arrived (with_local l r v) m j p
          ≡ with_slot b.slots (Local i) v (Local j)
      by (InRegister q) e = elim (cases_eq j i) [
        | inl k ↦ ap (number_placed y base arrived (with_local l r v) m j)
            (sym e ∙ ap (place_of y) k ∙ placed) ∙ local_set l r v mine ∙ local_here b i j v k
        | inr ne ↦ local_beside l r q v mine (place_is_local y j q e)
            (λ k. ne (sym (places_apart y i j r q placed e k)))
            ∙ placed_is l m b j (InRegister q) e h iz ∙ local_else b i j v ne
      ]
      by InFrame e = placed_is l m b j InFrame e h iz
          ∙ local_else b i j v (λ k. never r (sym e ∙ ap (place_of y) k ∙ placed))
      by Arriving e = placed_is l m b j Arriving e h iz
          ∙ local_else b i j v (λ k. arrives r (sym e ∙ ap (place_of y) k ∙ placed))

  small_after : (b : BodyState) (x : Slot) (v : ℕ) (l : LocalRegisters) (m : Memory) (z : Slot)
      → HoldsBody y n reserved sp base arrived l m b → IsSlot n z → v < 2 ^ 64
      → with_slot b.slots x v z < 2 ^ 64
  small_after b (Temporary i) v l m (Temporary j) h iz lt = elim (cases_eq j i) [
    | inl e ↦ let q : cond (eqb j i) v (b.slots (Temporary j))
        ≡ v = ap (λ (c : Bool). cond c v (b.slots (Temporary j))) (eq-eqb j i e) in omega arith
    | inr ne ↦ let q : cond (eqb j i) v (b.slots (Temporary j))
        ≡ b.slots (Temporary j) = ap (λ (c : Bool). cond c v (b.slots (Temporary j)))
        (ne_eqb j i ne) in
        let s = h.small (Temporary j) iz in omega arith
  ]
  small_after b (Local i) v l m (Local j) h iz lt = elim (cases_eq j i) [
    | inl e ↦ let q : cond (eqb j i) v (b.slots (Local j))
        ≡ v = ap (λ (c : Bool). cond c v (b.slots (Local j))) (eq-eqb j i e) in omega arith
    | inr ne ↦ let q : cond (eqb j i) v (b.slots (Local j))
        ≡ b.slots (Local j) = ap (λ (c : Bool). cond c v (b.slots (Local j))) (ne_eqb j i ne) in
        let s = h.small (Local j) iz in omega arith
  ]
  small_after b (Temporary i) v l m (Local j) h iz lt = h.small (Local j) iz
  small_after b (Local i) v l m (Temporary j) h iz lt = h.small (Temporary j) iz

  base_after : (m : Memory) (x : Slot) (v : ℕ) (o : Option ℕ) → IsSlot n x → HasBase y o sp base
      → MemoryKeepsBase o sp base m → MemoryKeepsBase o sp base
      (with_bytes m (with_number m.byte 8 (slot_at y sp base x) v))
  base_after m x v None is has keeps = tt
  base_after m (Temporary i) v (Some k) is has keeps =
      let a = has.0 in let t = room.temporaries in let hi = room.high in (
        number_beside m (Temporary i) v (sp + k) is (omega arith) (inl (omega arith))
            ∙ keeps.0,
        keeps.1,
      )
  base_after m (Local i) v (Some k) is has keeps =
      let a = has.0 in let c = has.1 in let t = room.temporaries in let hi = room.high in
      (number_beside m (Local i) v (sp + k) is (omega arith) (inl (omega arith)) ∙ keeps.0, keeps.1)

  -- a write of one slot in memory
  holds_written : (l : LocalRegisters) (m : Memory) (b : BodyState) (x : Slot) (v : ℕ)
      → HoldsBody y n reserved sp base arrived l m b → IsSlot n x → v < 2 ^ 64
      → ((z : Slot) → IsSlot n z → number_in y sp base arrived l (written_at y sp base m v x) z
      ≡ with_slot b.slots x v z)
      → HoldsBody y n reserved sp base arrived l (written_at y sp base m v x)
      (record { slots = with_slot b.slots x v; memory = b.memory })
  holds_written l m b x v h is lt slots = record {
    slot = slots;
    small = λ z iz. small_after b x v l m z h iz lt;
    kept_base = base_after m x v y.base is room.kept_base h.kept_base;
    writable = h.writable;
    own = h.own;
    own_base = h.own_base;
    source = record {
      byte = λ a r. beside m x v a is (off_slots a x is (free_off l m b a h r)) ∙ h.source.byte a r;
      protection = h.source.protection;
      guard = h.source.guard;
      pointer = h.source.pointer;
    };
  }

  holds_placed : (l : LocalRegisters) (m : Memory) (b : BodyState) (i v : ℕ) (p : Place)
      → place_of y i ≡ p → y.arrivals ≤ i → HoldsBody y n reserved sp base arrived l m b
      → i < n.locals → v < 2 ^ 64
      → HoldsBody y n reserved sp base arrived (locals_placed l v p) (memory_placed y base m v i p)
      (record { slots = with_slot b.slots (Local i) v; memory = b.memory })
  holds_placed l m b i v Arriving e late h is lt =
      let low = arriving_low y i e in absurd (omega arith)
  holds_placed l m b i v (InRegister r) e late h is lt = record {
    slot = λ z iz. register_after l m b i v r z e h iz;
    small = λ z iz. small_after b (Local i) v l m z h iz lt;
    kept_base = h.kept_base;
    writable = h.writable;
    own = h.own;
    own_base = h.own_base;
    source = h.source;
  }
  holds_placed l m b i v InFrame e late h is lt = holds_written l m b (Local i) v h is lt
      (λ z iz. framed_after l m b i v z e h is iz lt)

  pub holds_after : (l : LocalRegisters) (m : Memory) (b : BodyState) (x : Slot) (v : ℕ)
      → HoldsBody y n reserved sp base arrived l m b → IsSlot n x → IsKept y x → v < 2 ^ 64
      → HoldsBody y n reserved sp base arrived (kept_locals y l v x) (kept_memory y sp base m v x)
      (record { slots = with_slot b.slots x v; memory = b.memory })
  holds_after l m b (Temporary i) v h is to lt = holds_written l m b (Temporary i) v h is lt
      (λ z iz. temporary_after l m b i v z h is iz lt)
  holds_after l m b (Local i) v h is to lt =
      holds_placed l m b i v (place_of y i) refl to h is lt

  changes_written : (m : Memory) (x : Slot) (v : ℕ) → IsSlot n x
      → Changes y n reserved sp base m (written_at y sp base m v x)
  changes_written m x v is = record {
    protection = refl;
    byte = λ a own out. beside m x v a is (off_slots a x is out);
    bytes = λ small a. digits m.byte 8 (slot_at y sp base x) v a (small a);
  }

  changes_placed : (m : Memory) (i v : ℕ) (p : Place) → i < n.locals
      → Changes y n reserved sp base m (memory_placed y base m v i p)
  changes_placed m i v (InRegister r) is = record {
    protection = refl;
    byte = λ a own out. refl;
    bytes = λ small. small;
  }
  changes_placed m i v InFrame is = changes_written m (Local i) v is
  changes_placed m i v Arriving is = record {
    protection = refl;
    byte = λ a own out. refl;
    bytes = λ small. small;
  }

  pub changes_slot : (m : Memory) (x : Slot) (v : ℕ) → IsSlot n x
      → Changes y n reserved sp base m (kept_memory y sp base m v x)
  changes_slot m (Temporary i) v is = changes_written m (Temporary i) v is
  changes_slot m (Local i) v is = changes_placed m i v (place_of y i) is

  unused_placed : (l : LocalRegisters) (i v : ℕ) (p : Place) → place_of y i ≡ p
      → KeepsUnused y l (locals_placed l v p)
  unused_placed l i v (InRegister r) e = λ q is free. local_beside l r q v (place_is_local y i r e)
      is (λ k. free i (e ∙ ap InRegister (same_number_same r q k)))
  unused_placed l i v InFrame e = unused_same y l
  unused_placed l i v Arriving e = unused_same y l

  pub unused_slot : (l : LocalRegisters) (x : Slot) (v : ℕ) → KeepsUnused y l (kept_locals y l v x)
  unused_slot l (Temporary i) v = unused_same y l
  unused_slot l (Local i) v = unused_placed l i v (place_of y i) refl

  -- ---- RAX is put into a slot

  pub record KeptIn (x : Slot) (v : MachineView) : Type 0 where
    pub rcx : ℕ
    pub does : Executes (keep y x) v
        (record (kept_in y sp base v v.rax x) { rcx = rcx })

  local_kept : (o : Option ℕ) (i : ℕ) (v : MachineView) (b : BodyState) → i < n.locals
      → sp_of v ≡ sp → HasBase y o sp base → MemoryKeepsBase o sp base v.memory
      → HoldsBody y n reserved sp base arrived v.locals v.memory b → v.rax < 2 ^ 64
      → (rcx : ℕ) × Executes (keep_local o (local_at y i)) v
      (record v {
        rcx = rcx;
        memory = with_bytes v.memory
            (with_number v.memory.byte 8 (base + local_at y i) v.rax);
      })
  local_kept None i v b lt at has keeps h small =
      let e : (sp_of v + 0 + local_at y i) % 2 ^ 64
      ≡ base + local_at y i = ap (λ (s : ℕ). (s + 0 + local_at y i) % 2 ^ 64) (at ∙ sym has)
      ∙ base_address y n reserved sp base arrived room i lt in (
        v.rcx,
        to_sp v (local_at y i) (base + local_at y i) e
            (may_write_slot y n reserved sp base arrived room v.locals v.memory b (Local i) h lt)
            small,
      )
  local_kept (Some k) i v b lt at has keeps h small = (
    base,
    executes_then (fetched Rcx Rsp k ∷ []) (put_back Rcx (local_at y i) ∷ []) v (put false v base)
        (written (put false v base) (base + local_at y i))
        (fetch_base y n reserved sp base arrived room false k v at has keeps)
        (to_rcx (put false v base) (local_at y i) (base + local_at y i)
        (base_address y n reserved sp base arrived room i lt)
        (may_write_slot y n reserved sp base arrived room v.locals v.memory b (Local i) h lt)
        small),
  )

  placed_kept : (i : ℕ) (p : Place) → place_of y i ≡ p → y.arrivals ≤ i → (v : MachineView)
      (b : BodyState) → i < n.locals → sp_of v ≡ sp
      → HoldsBody y n reserved sp base arrived v.locals v.memory b
      → v.rax < 2 ^ 64 → (rcx : ℕ) × Executes (keep_placed y i p) v (record v {
        rcx = rcx;
        locals = locals_placed v.locals v.rax p;
        memory = memory_placed y base v.memory v.rax i p;
      })
  placed_kept i Arriving e late v b lt at h small =
      let low = arriving_low y i e in absurd (omega arith)
  placed_kept i (InRegister r) e late v b lt at h small =
      (v.rcx, moved_to_local r Rax v v.rax (place_is_local y i r e) refl small)
  placed_kept i InFrame e late v b lt at h small = local_kept y.base i v b lt at room.kept_base
      h.kept_base h small

  pub keep_does : (x : Slot) (v : MachineView) (b : BodyState) → IsSlot n x → IsKept y x
      → sp_of v ≡ sp
      → HoldsBody y n reserved sp base arrived v.locals v.memory b → v.rax < 2 ^ 64 → KeptIn x v
  keep_does (Temporary i) v b lt to at h small =
      let e : (sp_of v + 0 + temporary_at y i) % 2 ^ 64
      ≡ sp + temporary_at y i = ap (λ (s : ℕ). (s + 0 + temporary_at y i) % 2 ^ 64) at
      ∙ sp_address y n reserved sp base arrived room i lt in
      record {
        rcx = v.rcx;
        does = to_sp v (temporary_at y i) (sp + temporary_at y i) e
            (may_write_slot y n reserved sp base arrived room v.locals v.memory b (Temporary i) h
            lt) small;
      }
  keep_does (Local i) v b lt to at h small =
      let k = placed_kept i (place_of y i) refl to v b lt at h small in
      record { rcx = k.0; does = k.1 }

  -- ---- memory that differs in bytes that aren't reserved

  base_same : (m m' : Memory) (o : Option ℕ) → ((a : ℕ) → reserved a ≡ true → m'.byte a ≡ m.byte a)
      → m'.protection ≡ m.protection → HasBase y o sp base → KeepsReserved o sp reserved
      → MemoryKeepsBase o sp base m → MemoryKeepsBase o sp base m'
  base_same m m' None same protection has own keeps = tt
  base_same m m' (Some k) same protection has own keeps =
      let a = has.0 in let t = room.temporaries in let hi = room.high in (
        same_number m'.byte m.byte 8 (sp + k) (omega arith) (λ x p q. same x
            (own x p (omega arith)))
            ∙ keeps.0,
        λ x p q. may_write_same m m' x protection ∙ keeps.1 x p q,
      )

  -- where the words of the frame's slots are as they were, so are the numbers of all slots
  pub slot_by_words : (l : LocalRegisters) (m m' : Memory) (b : BodyState)
      → ((x : Slot) → IsSlot n x → number_at m'.byte 8 (slot_at y sp base x)
      ≡ number_at m.byte 8 (slot_at y sp base x))
      → HoldsBody y n reserved sp base arrived l m b → (z : Slot) → IsSlot n z
      → number_in y sp base arrived l m' z ≡ b.slots z
  slot_by_words l m m' b word h z iz = by z iz
    where
      placed : (j : ℕ) (p : Place) → place_of y j ≡ p → j < n.locals
          → number_placed y base arrived l m' j p ≡ b.slots (Local j)
      placed j (InRegister r) e lt = placed_is l m b j (InRegister r) e h lt
      placed j Arriving e lt = placed_is l m b j Arriving e h lt
      placed j InFrame e lt = word (Local j) lt ∙ placed_is l m b j InFrame e h lt

      by : (x : Slot) → IsSlot n x → number_in y sp base arrived l m' x ≡ b.slots x
      by (Temporary j) lt = word (Temporary j) lt ∙ h.slot (Temporary j) lt
      by (Local j) lt = placed j (place_of y j) refl lt

  slot_same : (l : LocalRegisters) (m m' : Memory) (b : BodyState)
      → ((a : ℕ) → reserved a ≡ true → m'.byte a ≡ m.byte a)
      → HoldsBody y n reserved sp base arrived l m b → (z : Slot) → IsSlot n z
      → number_in y sp base arrived l m' z ≡ b.slots z
  slot_same l m m' b same h = slot_by_words l m m' b (λ x ix.
      same_number m'.byte m.byte 8 (slot_at y sp base x)
      (slot_high y n reserved sp base arrived room x ix)
      (λ a p q. same a (h.own a (slot_bytes y n reserved sp base arrived room x a ix p q)))) h

  pub holds_same : (l : LocalRegisters) (m m' source : Memory) (b : BodyState)
      → ((a : ℕ) → reserved a ≡ true → m'.byte a ≡ m.byte a) → m'.protection ≡ m.protection
      → Agrees reserved m' source → HoldsBody y n reserved sp base arrived l m b
      → HoldsBody y n reserved sp base arrived l m' (record { slots = b.slots; memory = source })
  holds_same l m m' source b same protection agrees h = record {
    slot = slot_same l m m' b same h;
    small = h.small;
    kept_base = base_same m m' y.base same protection room.kept_base h.own_base h.kept_base;
    writable = λ a is. may_write_same m m' a protection ∙ h.writable a is;
    own = h.own;
    own_base = h.own_base;
    source = agrees;
  }

  pub changes_same : (m m' : Memory) → ((a : ℕ) → reserved a ≡ true → m'.byte a ≡ m.byte a)
      → m'.protection ≡ m.protection → (IsBytes m → IsBytes m') → Changes y n reserved sp base m m'
  changes_same m m' same protection bytes = record {
    protection = protection;
    byte = λ a own out. same a own;
    bytes = bytes;
  }
