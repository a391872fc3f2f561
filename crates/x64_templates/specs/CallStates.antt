-- What a call, an entry and a return come to.
use Rattle.std.specs.Prelude.{◌≡◌, ℕ, ◌+◌, ◌-◌, ◌^◌, ◌<◌, ◌≤◌, true}
use Rattle.flat_memory.specs.Memory.{Memory, may_read, may_write, number_at, with_number, with_bytes}
use Rattle.x64_templates.specs.Straight.{MachineView, OtherRegisters}

-- RSP
abbrev pub sp_of : MachineView → ℕ
sp_of v = v.rest.rsp

abbrev pub with_sp : OtherRegisters → ℕ → OtherRegisters
with_sp rest sp = record rest { rsp = sp }

-- RCX, RDX, R8 and R9
abbrev pub with_four : MachineView → ℕ → ℕ → ℕ → ℕ → MachineView
with_four v a b c d = record v { rcx = a; rdx = b; rest = record v.rest { r8 = c; r9 = d } }

-- the return address is below what was RSP
abbrev pub pushed : MachineView → ℕ → ℕ → MachineView
pushed v sp back =
    record v {
      rest = with_sp v.rest (sp - 8);
      memory = with_bytes v.memory (with_number v.memory.byte 8 (sp - 8) back);
    }

-- n bytes below RSP may be written
pub record HasBelow (m : Memory) (sp n : ℕ) : Type 0 where
  pub enough : n ≤ sp
  pub high : sp < 2 ^ 63
  pub writable : (a : ℕ) → sp ≤ a + n → a < sp → may_write m a ≡ true

-- where a function begins: the return address is at RSP
pub record HasBack (m : Memory) (sp back : ℕ) : Type 0 where
  pub number : number_at m.byte 8 sp ≡ back
  pub readable : (a : ℕ) → sp ≤ a → a < sp + 8 → may_read m a ≡ true
  pub small : back < 2 ^ 64

abbrev pub moved : MachineView → ℕ → MachineView
moved v sp = record v { rest = with_sp v.rest sp }
