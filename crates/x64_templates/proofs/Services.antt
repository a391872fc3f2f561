-- Thunks: a jump through a slot that holds a service's address.
use Rattle.std.proofs.Common.{◌≡◌, ℕ, ◌+◌, ◌%◌, ◌^◌, ◌<◌, ◌≤◌, true, [], ◌∷◌, Ok, refl, ap, ◌∙◌, arith}
use Rattle.x64_templates.specs.Words.{W64, may_read, number_at, modrm, Flags, ◌>>=◌, Answer, load, effect, thunk, MachineView, machine, size, pushed, HasBelow, Reaches}
use Rattle.x64_templates.proofs.PlacedCode.{all_may, same_number, load_at, thunk_encodable}
use Rattle.x64_templates.specs.Thunks.{HasThunk}
use Rattle.x64_templates.proofs.Jumps.{one_reaches}
use Rattle.x64_templates.proofs.Entries.{beside}
use Rattle.x64_templates.proofs.LargeEntries.{fixed_beside, pushed_keeps_code}

pub thunk_size : (away : ℕ) → size (thunk away) ≡ 6
unfolding size modrm
thunk_size away = refl

thunk_effect : (v : MachineView) (next away slot service : ℕ) (f : Flags)
    → (next + 0 + away) % 2 ^ 64 ≡ slot → slot + 8 < 2 ^ 64
    → ((a : ℕ) → slot ≤ a → a < slot + 8 → may_read v.memory a ≡ true)
    → number_at v.memory.byte 8 slot ≡ service
    → effect (machine v next f) (thunk away) ≡ Ok (machine v service f)
thunk_effect v next away slot service f e high readable bound =
    ap (λ (a : ℕ). load v.memory a W64 >>= λ target. Ok (machine v target f)) e
    ∙ ap (λ (o : Answer ℕ). o >>= λ target. Ok (machine v target f))
    (load_at v.memory slot (all_may (may_read v.memory) 8 slot high readable))
    ∙ ap (λ (a : ℕ). Ok (machine v a f)) bound

pub thunk_reaches : (v : MachineView) (at service : ℕ) (f : Flags) → HasThunk v.memory at service
    → Reaches 1 (machine v at f) (machine v service f)
thunk_reaches v at service f h =
    let near = h.near in
    let high = h.code.placed.high in
    let s = thunk_size h.away in
    one_reaches (thunk h.away) v v at service f f (thunk_encodable h.away near) refl h.code
    (thunk_effect v (at + size (thunk h.away)) h.away (at + 6 + h.away) service f (omega arith)
    (omega arith) h.readable h.bound)

-- a thunk outlasts a return address that is put on the stack
pub pushed_thunk : (v : MachineView) (sp back at service : ℕ) → HasBelow v.memory sp 8
    → HasThunk v.memory at service → HasThunk (pushed v sp back).memory at service
pushed_thunk v sp back at service below h =
    let near = h.near in
    let high = h.code.placed.high in
    record {
      away = h.away;
      near = h.near;
      code = pushed_keeps_code v sp back at (thunk h.away ∷ []) below h.code;
      readable = h.readable;
      fixed = h.fixed;
      bound = same_number (pushed v sp back).memory.byte v.memory.byte 8 (at + 6 + h.away)
          (omega arith) (λ a p q. beside v.memory sp back a below.enough below.high
          (fixed_beside v sp a below (h.fixed a p q))) ∙ h.bound;
    }
