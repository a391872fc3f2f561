-- What comes of accepted texts whose programs are Tame: however long they run, they touch no
-- reserved byte and stay within the depth.
use Rattle.std.specs.Prelude.{◌≡◌, ◌≢◌, ℕ, ◌^◌, ◌<◌, List, pos, None}
use Rattle.seh_num.specs.declared.end.Reason.{Reason}
use Rattle.seh_num.specs.declared.end.RunEnd.{RunEnd}
use Rattle.seh_num.specs.declared.end.RunEnd.TheVariants.{StackLimit, Stopped}
use Rattle.host_model.specs.Machine.{machine}
use Rattle.seh_host.specs.Turns.{end_within}
use Rattle.c_resolved.specs.Program.{resolve}
use Rattle.source_machine.specs.Tame.{Tame}
use Rattle.image_runs.specs.ShadowWalks.{WalksTheShadow}
use Rattle.seh.specs.Images.{IsCompiled}

-- at every turn of the image's run that isn't an end, the walk over the stack gives exactly the
-- shadow
abbrev pub TameProgramsWalk : Type 0
TameProgramsWalk =
    (source image : List ℕ) (compiled : IsCompiled source image)
    → let program = (resolve source compiled.whole).program in
    (arg turns : ℕ)
    → arg < 2 ^ 63 → Tame program (pos arg)
    → (machine image (pos arg) turns).end ≡ None → WalksTheShadow image (pos arg) turns

-- an end that is neither the stack's limit nor a place where no turn can be made
pub record IsNoFailure (end : RunEnd) : Type 0 where
  pub no_limit : (address : ℕ) → end ≢ StackLimit address
  pub no_stop : (why : Reason) (address : ℕ) → end ≢ Stopped why address

-- the image's run has such an end within each number of turns, or is out of turns
abbrev pub TameProgramsEnd : Type 0
TameProgramsEnd =
    (source image : List ℕ) (compiled : IsCompiled source image)
    → let program = (resolve source compiled.whole).program in
    (arg turns : ℕ)
    → arg < 2 ^ 63 → Tame program (pos arg)
    → IsNoFailure (end_within turns (machine image (pos arg) turns).end)
