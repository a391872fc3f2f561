-- The frames that a walk gives.
--
-- The main definitions: `LiveFrame`, `walked`.
use Rattle.std.specs.Prelude.{ℕ, zero, suc, List, [], ◌∷◌, Option, Some, None}
use Rattle.flat_memory.specs.Memory.{Memory}
use Rattle.x64_machine.specs.declared.context.Context.{Context}
use Rattle.virtual_unwind.specs.CallerOf.{Functions}
use Rattle.seh_walk.specs.declared.walk.WalkState.{WalkState}
use Rattle.seh_walk.specs.Walk.{Visited, Over, Past, Frame, Broken, visited}

-- a frame: its stack pointer, and what its caller continues with: the return address, the stack
-- pointer after the return, and the nonvolatile registers
pub record LiveFrame : Type 0 where
  pub at : ℕ
  pub caller : Context

-- a frame before others
abbrev pub with_frame : LiveFrame → Option (List LiveFrame) → Option (List LiveFrame)
with_frame f None = None
with_frame f (Some frames) = Some (f ∷ frames)

-- the live frames from one visit on
abbrev pub given_by : (WalkState → Option (List LiveFrame)) → Visited → Option (List LiveFrame)
given_by rest Over = Some []
given_by rest (Past w) = rest w
given_by rest (Frame f w) = with_frame (record { at = f.frame; caller = f.context }) (rest w)
given_by rest (Broken why) = None

-- the frames that a walk gives one after another, where it comes to RIP 0 in fewer than so many
-- steps
unfoldable pub walked : ℕ → Functions → Memory → WalkState → Option (List LiveFrame)
walked zero t m w = None
walked (suc n) t m w = given_by (walked n t m) (visited t m w)
