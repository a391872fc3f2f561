-- Contexts whose registers are numbers of 64 bits, along a list.
use Rattle.std.proofs.Common.{◌≡◌, ℕ, zero, suc, ◌+◌, ◌^◌, ◌<◌, List, [], ◌∷◌, length, refl, arith}
use Rattle.std.specs.Prelude.{slice_index, slice_set}
use Rattle.match_stack.specs.Words.{Memory, Cpu, Context, context_of, rsp, Functions, DispatchRecord, RecordFits, AllSmall, State, IsWellFormed, StackFrame, FrameIsAt, LeafIsAt, after_frame, after_leaf, IsWide}

small_set : (kept : List ℕ) (v : ℕ) → IsWide kept → v < 2 ^ 64 → IsWide (slice_set kept 0 v)
small_set [] v s lt = absurd (let e = s.count in omega arith)
small_set (k ∷ ks) v s lt = record { count = s.count; each = at }
  where
    at : (j : ℕ) → j < length (v ∷ ks) → slice_index (v ∷ ks) j < 2 ^ 64
    at zero l = lt
    at (suc j) l = s.each (suc j) l

pub wide_after : (t : Functions) (m : Memory) (c : Context) (f : StackFrame) → FrameIsAt t m c f
    → AllSmall f.others → IsWide (after_frame c f).kept
wide_after t m c f h small = record { count = let e = h.eight in omega arith; each = at }
  where
    at : (j : ℕ) → j < length ((rsp c + f.size + 8) ∷ f.others)
        → slice_index ((rsp c + f.size + 8) ∷ f.others) j < 2 ^ 64
    at zero l = h.room
    at (suc j) l = small j (omega arith)

pub wide_after_leaf : (t : Functions) (m : Memory) (c : Context) (back : ℕ) → LeafIsAt t m c back
    → IsWide c.kept → IsWide (after_leaf c back).kept
wide_after_leaf t m c back h s = small_set c.kept (rsp c + 8) s h.room

pub wide_of : (c : Cpu) → length c.registers ≡ 16 → AllSmall c.registers
    → IsWide (context_of c).kept
wide_of c n h = record { count = refl; each = at }
  where
    at : (j : ℕ) → j < 9 → slice_index (context_of c).kept j < 2 ^ 64
    at zero l = h 4 (omega arith)
    at (suc zero) l = h 3 (omega arith)
    at (suc (suc zero)) l = h 5 (omega arith)
    at (suc (suc (suc zero))) l = h 6 (omega arith)
    at (suc (suc (suc (suc zero)))) l = h 7 (omega arith)
    at (suc (suc (suc (suc (suc zero))))) l = h 12 (omega arith)
    at (suc (suc (suc (suc (suc (suc zero)))))) l = h 13 (omega arith)
    at (suc (suc (suc (suc (suc (suc (suc zero))))))) l = h 14 (omega arith)
    at (suc (suc (suc (suc (suc (suc (suc (suc zero)))))))) l = h 15 (omega arith)
    at (suc (suc (suc (suc (suc (suc (suc (suc (suc j))))))))) l = absurd (omega arith)

-- a state stays well formed, whatever is stored in memory
pub well_formed_with : (handlers : List ℕ) (s : State) (m : Memory) → IsWellFormed handlers s
    → IsWellFormed handlers (record s { memory = m })
well_formed_with handlers s m w = record {
  rip_small = w.rip_small;
  count = w.count;
  small = w.small;
  listed = w.listed;
}

pub wide_saved : (r : DispatchRecord) → RecordFits r → IsWide (context_of r.saved).kept
wide_saved r f = wide_of r.saved f.registers f.registers_small

pub wide_walk : (r : DispatchRecord) → RecordFits r → IsWide r.walk.kept
wide_walk r f = record { count = f.kept; each = f.kept_small }
