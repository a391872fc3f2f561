-- A frame as a plan of the rules for frames (Microsoft x64 ABI, "Prolog and epilog").
--
-- `plan_of`, `info_of`: the frame as a plan of frame_rules, and its unwind info: the codes of its
-- pushes, its allocation, its frame register and its saves, by the offsets at which its prologue's
-- instructions end.
use Rattle.std.specs.Prelude.{◌≡◌, ◌^◌, ◌<◌, Bool, true, ℕ}
use Rattle.eh_tables.specs.declared.code.UnwindOperation.{UnwindOperation}
use Rattle.eh_tables.specs.declared.code.UnwindOperation.TheVariants.{Push, Allocate, SetFrame, Save}
use Rattle.frame_rules.specs.Plan.{FramePlan}
pub use Rattle.template_code.specs.Frames.{pushed_register, frame_pushed, pushes_of, saves_of, frame_register_if, frame_distance_if}
use Rattle.template_code.specs.Frames.{saving_plan}
use Rattle.frame_layout.specs.declared.frame.FrameLayout.{FrameLayout}

-- with the displacement of the call of `__chkstk`
abbrev pub plan_of : FrameLayout → ℕ → FramePlan
plan_of f probe = saving_plan f.pushes f.saves f.framed f.size f.slots probe

-- what the prologue of a frame does, with a frame register or without
abbrev pub IsStep : Bool → UnwindOperation → Type 0
IsStep framed (Push r) = r < 8
IsStep framed (Allocate n) = n < 2 ^ 31
IsStep framed SetFrame = framed ≡ true
IsStep framed (Save r n) = (r < 16) × (n < 2 ^ 31)
IsStep framed x = ⊥
