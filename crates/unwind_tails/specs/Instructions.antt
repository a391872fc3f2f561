-- The instructions from one address up to another, as the processor fetches them.
--
-- The main definition: `between`.
use Rattle.std.specs.Prelude.{◌≡◌, ℕ, zero, suc, ◌+◌, ◌-◌, ◌<◌, ◌≤◌, Bool, true, false, ◌==◌, ◌&&◌, nat_lt, nat_le, List, [], ◌∷◌, map, Option, Some, None}
use Rattle.flat_memory.specs.Memory.{Memory}
use Rattle.x64_instr.specs.declared.instruction.Instr.{Instr}
use Rattle.virtual_unwind.specs.Tail.{FetchedInstr, fetched_at}

-- instructions one after another, and whether they end where they are to end
pub record Decoded : Type 0 where
  pub items : List FetchedInstr
  pub is_whole : Bool

abbrev pub with_item : FetchedInstr → Decoded → Decoded
with_item x d = record { items = x ∷ d.items; is_whole = d.is_whole }

-- one that passes the end isn't counted
abbrev pub if_inside : (ℕ → Decoded) → ℕ → FetchedInstr → Bool → Decoded
if_inside others at x true = with_item x (others (at + x.size))
if_inside others at x false = record { items = []; is_whole = false }

abbrev pub from_item : (ℕ → Decoded) → ℕ → ℕ → Option FetchedInstr → Decoded
from_item others at to None = record { items = []; is_whole = false }
from_item others at to (Some x) =
    if_inside others at x (nat_lt 0 x.size && nat_le (at + x.size) to)

abbrev pub or_end : Decoded → Bool → Decoded
or_end d true = record { items = []; is_whole = true }
or_end d false = d

-- of which there are at most n
unfoldable pub decoded : ℕ → Memory → ℕ → ℕ → Decoded
decoded zero m at to = record { items = []; is_whole = at == to }
decoded (suc n) m at to =
    or_end (from_item (λ k. decoded n m k to) at to (fetched_at m at)) (at == to)

-- the instructions from an address up to another one, each of a byte or more
abbrev pub between : Memory → ℕ → ℕ → Decoded
between m at to = decoded (to - at) m at to

abbrev pub is_some : List FetchedInstr → Bool
is_some [] = false
is_some (x ∷ xs) = true

-- ---- the first of them

pub record HasFirst (m : Memory) (at to : ℕ) (x : FetchedInstr) : Type 0 where
  pub there : fetched_at m at ≡ Some x
  pub sized : 0 < x.size
  pub inside : at + x.size ≤ to
  pub others : between m at to ≡ with_item x (between m (at + x.size) to)

pub record HasNone (m : Memory) (at to : ℕ) : Type 0 where
  pub none : (between m at to).items ≡ []
  pub missing : at < to → (between m at to).is_whole ≡ false

abbrev pub IsFirst : Memory → ℕ → ℕ → Option FetchedInstr → Type 0
IsFirst m at to None = HasNone m at to
IsFirst m at to (Some x) = HasFirst m at to x

-- ---- without their sizes

abbrev pub instrs : List FetchedInstr → List Instr
instrs xs = map (λ (x : FetchedInstr). x.instr) xs
