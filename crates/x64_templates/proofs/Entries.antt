-- A function's frame where it begins, and a call's return address.
use Rattle.std.proofs.Common.{◌≡◌, ℕ, zero, suc, ◌+◌, ◌-◌, ◌*◌, ◌%◌, ◌^◌, ◌<◌, ◌≤◌, Bool, true, false, refl, sym, subst, ◌∙◌, arith, inl, inr}
use Rattle.std.specs.Prelude.{◌⊎◌}
use Rattle.std.proofs.Math.Nat.{pow-suc}
use Rattle.std.proofs.lemmas.Bool.{cases_lt}
use Rattle.x64_templates.specs.Words.{Memory, next, may_read, may_write, number_at, with_number, ReadWrite, is_readable, is_writable, Counts, Layout, MachineView, InTemporaries, InLocals, MemoryKeepsBase, KeepsReserved, Agrees, HoldsBody, IsBytes, pushed, HasBelow, HasBack, body_in_memory, Nothing, Read, Reg, Slot, Local, Temporary, LocalRegisters, local_in, Place, InRegister, InFrame, Arriving, place_of, number_placed, number_in, local_at, temporary_at}
use Rattle.x64_templates.proofs.Lemmas.{untouched, stored_is_loaded}
use Rattle.flat_memory.specs.declared.protection.Rights.{Rights}
use Rattle.x64_templates.proofs.Accesses.{digits}

-- ---- numbers in memory

digit_more : (x p n : ℕ) → x < 256 → n < p → x + 256 * n < p * 256
digit_more x p n lx ln = omega arith

pub number_small : (m : Memory) (n at : ℕ) → IsBytes m → number_at m.byte n at < 256 ^ n
unfolding number_at
number_small m zero at h = omega arith
number_small m (suc n) at h =
    let r = number_small m n (next at) h in
    let e : 256 ^ suc n ≡ 256 ^ n * 256 = pow-suc 256 n in
    subst (λ p. m.byte at + 256 * number_at m.byte n (next at) < p) (sym e)
    (digit_more (m.byte at) (256 ^ n) (number_at m.byte n (next at)) (h at) r)

module _ (y : Layout) (arrived : ℕ → ℕ) (few : (i : ℕ) → arrived i < 2 ^ 64)
    (locals : LocalRegisters) (small : (r : Reg) → local_in locals r < 2 ^ 64) where
  placed_small : (base : ℕ) (m : Memory) (i : ℕ) (p : Place) → IsBytes m
      → number_placed y base arrived locals m i p < 2 ^ 64
  placed_small base m i (InRegister r) bytes = small r
  placed_small base m i InFrame bytes = number_small m 8 (base + local_at y i) bytes
  placed_small base m i Arriving bytes = few i

  slot_small : (sp base : ℕ) (m : Memory) (x : Slot) → IsBytes m
      → number_in y sp base arrived locals m x < 2 ^ 64
  slot_small sp base m (Temporary i) bytes = number_small m 8 (sp + temporary_at y i) bytes
  slot_small sp base m (Local i) bytes = placed_small base m i (place_of y i) bytes

-- wherever a frame has its room, it holds a body
pub holds_body_in_memory : (y : Layout) (n : Counts) (reserved : ℕ → Bool) (sp base : ℕ)
    (arrived : ℕ → ℕ) (locals : LocalRegisters) (m source : Memory)
    → ((i : ℕ) → arrived i < 2 ^ 64) → ((r : Reg) → local_in locals r < 2 ^ 64)
    → IsBytes m → MemoryKeepsBase y.base sp base m
    → ((a : ℕ) → InTemporaries y n sp a ⊎ InLocals y n base a → may_write m a ≡ true)
    → ((a : ℕ) → InTemporaries y n sp a ⊎ InLocals y n base a → reserved a ≡ true)
    → KeepsReserved y.base sp reserved → Agrees reserved m source
    → HoldsBody y n reserved sp base arrived locals m
    (body_in_memory y sp base arrived locals m source)
holds_body_in_memory y n reserved sp base arrived locals m source few small bytes base_kept writable
    own own_base agrees =
    record {
      slot = λ x is. refl;
      small = λ x is. slot_small y arrived few locals small sp base m x bytes;
      kept_base = base_kept;
      writable = writable;
      own = own;
      own_base = own_base;
      source = agrees;
    }

-- ---- the return address of a call

pub beside : (m : Memory) (sp back a : ℕ) → 8 ≤ sp → sp < 2 ^ 63 → (a + 8 < sp) ⊎ (sp ≤ a)
    → with_number m.byte 8 (sp - 8) back a ≡ m.byte a
beside m sp back a le high out = untouched m.byte 8 (sp - 8) back a
    (λ i lt e. absurd (elim out [ inl l ↦ omega arith | inr r ↦ omega arith ])) (omega arith)

free_beside : (reserved : ℕ → Bool) (sp a : ℕ) → ((x : ℕ) → sp ≤ x + 8 → x < sp → reserved x ≡ true)
    → reserved a ≡ false → (a + 8 < sp) ⊎ (sp ≤ a)
free_beside reserved sp a own r = elim (cases_lt (a + 8) sp) [
  | inl lt ↦ inl lt
  | inr le ↦ elim (cases_lt a sp) [
    | inl lt ↦ let x : true ≡ false = sym (own a le lt) ∙ r in absurd cc
    | inr ge ↦ inr ge
  ]
]

pub pushed_agrees : (reserved : ℕ → Bool) (v : MachineView) (source : Memory) (sp back : ℕ)
    → HasBelow v.memory sp 8 → ((a : ℕ) → sp ≤ a + 8 → a < sp → reserved a ≡ true)
    → Agrees reserved v.memory source → Agrees reserved (pushed v sp back).memory source
pushed_agrees reserved v source sp back below own agrees = record {
  byte = λ a r. beside v.memory sp back a below.enough below.high (free_beside reserved sp a own r)
      ∙ agrees.byte a r;
  protection = agrees.protection;
  guard = agrees.guard;
  pointer = agrees.pointer;
}

readable : (r : Rights) → is_writable r ≡ true → is_readable r ≡ true
readable Nothing e = absurd cc
readable Read e = absurd cc
readable ReadWrite e = refl

-- what may be written may be read
pub writable_readable : (m : Memory) (a : ℕ) → may_write m a ≡ true → may_read m a ≡ true
writable_readable m a e = readable (m.protection a).rights e

pub pushed_back : (v : MachineView) (sp back : ℕ) → HasBelow v.memory sp 8 → back < 2 ^ 64
    → HasBack (pushed v sp back).memory (sp - 8) back
pushed_back v sp back below small =
    let le = below.enough in
    let high = below.high in
    record {
      number = stored_is_loaded v.memory.byte 8 (sp - 8) back (omega arith) (omega arith)
          ∙ (let q : back % 256 ^ 8 ≡ back = omega arith in q);
      readable = λ a p q. readable (v.memory.protection a).rights
          (below.writable a (omega arith) (omega arith));
      small = small;
    }

pub pushed_bytes : (v : MachineView) (sp back : ℕ) → IsBytes v.memory
    → IsBytes (pushed v sp back).memory
pushed_bytes v sp back h a = digits v.memory.byte 8 (sp - 8) back a (h a)
