-- The frame of a body that is about to return.
use Rattle.std.specs.Prelude.{◌≡◌, ℕ, ◌+◌, ◌^◌, ◌<◌, true, false, List, length, slice_get, Some, Ok}
use Rattle.flat_memory.specs.Memory.{Memory}
use Rattle.x64_machine.specs.declared.context.Context.{Context}
use Rattle.virtual_unwind.specs.Contexts.{rsp}
use Rattle.virtual_unwind.specs.CallerOf.{Functions}
use Rattle.virtual_unwind.specs.Undone.{word}
use Rattle.host_model.specs.declared.funclet.Funclet.{Funclet}
use Rattle.linear_code.specs.declared.slot.Slot.{Slot}
use Rattle.linear_code.specs.declared.instruction.Instruction.TheVariants as instructions
use Rattle.linear_code.specs.Program.{LinearProgram, LinearBody}
use Rattle.linear_machine.specs.Frames.{BodyName, body_of}
use Rattle.match_stack.specs.Stack.{FrameIsAt, LeafIsAt}
use Rattle.match_stack.specs.ImagePlan.{ImagePlan}
use Rattle.match_bodies.specs.CodeSites.{Sites}
use Rattle.match_bodies.specs.ProgramImages.{HasProgram, IsFramed, frame_at_label}

module _ (t : Functions) (fs : List Funclet) (program : LinearProgram) (p : ImagePlan)
    (q : Sites) where
  -- a return begins at RIP: its result is fetched first, so no epilogue begins there
  pub record IsReturning (b : LinearBody) (name : BodyName) (label rip : ℕ) : Type 0 where
    pub from : Slot
    pub there : slice_get b.code label ≡ Some (instructions.Return from)
    pub here : rip ≡ p.address name label

  abbrev pub ReturningFramesWait : Type 0
  ReturningFramesWait =
      (m : Memory) (name : BodyName) (b : LinearBody) (label : ℕ) (c : Context) (back : ℕ)
      (others : List ℕ)
      → body_of program name ≡ Some b → p.leaf name ≡ false → HasProgram t fs program p q m
      → IsReturning b name label c.rip → IsFramed p m name c back others
      → FrameIsAt t m c (frame_at_label p name label back others)

  abbrev pub ReturningLeavesWait : Type 0
  ReturningLeavesWait =
      (m : Memory) (name : BodyName) (b : LinearBody) (label : ℕ) (c : Context) (back : ℕ)
      → body_of program name ≡ Some b → p.leaf name ≡ true → IsReturning b name label c.rip
      → length c.kept ≡ 9 → rsp c + 8 < 2 ^ 64 → word m (rsp c) ≡ Ok back
      → LeafIsAt t m c back

  -- as at any other instruction, the body's frame is there
  pub record ReturnsWait : Type 0 where
    pub frames : ReturningFramesWait
    pub leaves : ReturningLeavesWait
