-- The unwinding of a record: frame by frame up to its target frame.
use Rattle.std.specs.Prelude.{ℕ, zero, suc, ◌+◌, ◌%◌, ◌^◌, Bool, true, false, ◌==◌, nat_lt, Option, Some, None, Result, Ok, Err}
use Rattle.seh_num.specs.declared.end.Reason.TheVariants as reasons
use Rattle.flat_memory.specs.Memory.{Memory}
use Rattle.x64_machine.specs.declared.context.Context.{Context}
use Rattle.virtual_unwind.specs.CallerOf.{Functions, CallerFrame, distance}
use Rattle.seh_walk.specs.declared.walk.WalkState.{WalkState}
use Rattle.seh_walk.specs.Asked.{AskedRecord, unwound, first_finally}
use Rattle.seh_walk.specs.Walk.{Visited, Over, Past, Frame, Broken, visited, stop_cause, continue_walk}
use Rattle.seh_unwind.specs.declared.unwind_result.UnwindResult.{UnwindResult}
use Rattle.seh_unwind.specs.declared.unwind_result.UnwindResult.TheVariants.{Finally, Land, Stop}

abbrev pub lost : ℕ → UnwindResult
lost frame = Stop (stop_cause reasons.LostFrame frame)

abbrev pub block : ℕ → ℕ → Context → AskedRecord → UnwindResult
block base frame c r = Finally ((base + r.1.handler_address) % 2 ^ 64) frame (r.0 + 1) c

-- in the target frame the walk ends
abbrev pub if_target : WalkState → Context → Bool → Result WalkState UnwindResult
if_target u c true = Err (Land c)
if_target u c false = Ok u

-- a step decides, or the walk continues
abbrev pub by_row : Functions → ℕ → Context → WalkState → Bool → Option AskedRecord
    → Result WalkState UnwindResult
by_row t frame c u is_target (Some r) = Err (block t.base frame c r)
by_row t frame c u is_target None = if_target u c is_target

-- past the target frame it is lost
abbrev pub if_past : Functions → ℕ → ℕ → WalkState → CallerFrame → WalkState → Bool
    → Result WalkState UnwindResult
if_past t frame target w f u true = Err (lost frame)
if_past t frame target w f u false =
    by_row t f.frame w.context u (f.frame == frame)
    (first_finally (unwound f.asked (distance t.base w.context.rip) w.row (f.frame == frame)
    (distance t.base target)))

abbrev pub decided : Functions → ℕ → ℕ → WalkState → Visited → Result WalkState UnwindResult
decided t frame target w Over = Err (lost frame)
decided t frame target w (Past u) = Ok u
decided t frame target w (Broken y) = Err (Stop y)
decided t frame target w (Frame f u) = if_past t frame target w f u (nat_lt frame f.frame)

-- at most so many steps of the walk
unfoldable pub unwind : ℕ → Functions → Memory → ℕ → ℕ → WalkState → UnwindResult
unwind zero t m frame target w = lost frame
unwind (suc n) t m frame target w =
    continue_walk (unwind n t m frame target) (decided t frame target w (visited t m w))
