-- The frame of a body, as a frame of the rules (Microsoft x64 ABI, "Prolog and epilog").
--
-- The main definitions: `probe_end`, `probing`.
use Rattle.std.specs.Prelude.{ℕ, zero, suc, ◌+◌, ◌*◌, ◌==◌, Bool, true, false, if◌then◌else◌, List, [], ◌∷◌, length}
use Rattle.frame_rules.specs.Plan.{FramePlan, Saved}
use Rattle.template_code.specs.declared.layout.Layout.{Layout}
use Rattle.template_code.specs.declared.layout.TheConstants.{FRAME_REGISTER, FRAME_DISTANCE}
use Rattle.template_code.specs.Jumps.{distance}

-- after so many others: RBX, RSI and RDI
abbrev pub pushed_register : ℕ → ℕ
pushed_register i = if i == 0 then 3 else (if i == 1 then 6 else 7)

-- the last one that is pushed first, and the frame register last
abbrev pub frame_pushed : Bool → List ℕ
frame_pushed true = FRAME_REGISTER ∷ []
frame_pushed false = []

abbrev pub pushes_of : ℕ → Bool → List ℕ
pushes_of zero framed = frame_pushed framed
pushes_of (suc n) framed = pushed_register n ∷ pushes_of n framed

-- so many of R12 to R15 from a distance on, the last one first
abbrev pub saves_of : ℕ → ℕ → List Saved
saves_of at zero = []
saves_of at (suc n) = record { register = 12 + n; offset = at + 8 * n } ∷ saves_of at n

-- RBP, so far above RSP
abbrev pub frame_register_if : Bool → ℕ
frame_register_if true = FRAME_REGISTER
frame_register_if false = 0

abbrev pub frame_distance_if : Bool → ℕ
frame_distance_if true = FRAME_DISTANCE
frame_distance_if false = 0

-- of so many pushes and saves by mov, with a frame register or without, with so many bytes of fixed
-- allocation, and the saves from a distance on; with the displacement of the call of `__chkstk`
abbrev pub saving_plan : ℕ → ℕ → Bool → ℕ → ℕ → ℕ → FramePlan
saving_plan pushes saves framed size slots probe = record {
  pushes = pushes_of pushes framed;
  size = size;
  frame = frame_register_if framed;
  distance = frame_distance_if framed;
  saves = saves_of slots saves;
  probe = probe;
}

-- one that saves nothing and has no frame register
abbrev pub frame_plan : ℕ → ℕ → FramePlan
frame_plan size probe =
    record { pushes = []; size = size; frame = 0; distance = 0; saves = []; probe = probe }

-- the frame of a layout
abbrev pub plan_of_layout : Layout → ℕ → FramePlan
plan_of_layout y probe = saving_plan y.pushes y.saves y.framed y.size y.slots probe

-- ---- `__chkstk`

-- how far after a frame's first byte its call ends: a push is one byte, and the move of the size
-- and the call are five each
abbrev pub probe_end : FramePlan → ℕ
probe_end f = length f.pushes + 10

-- a plan whose call goes to an address, in code that begins at another
abbrev pub probing : (ℕ → FramePlan) → (at check : ℕ) → FramePlan
probing plan at check = plan (distance (at + probe_end (plan 0)) check)
