-- Steps that show nothing.
use Rattle.std.proofs.Common.{◌≡◌, subst, sym, IfOk}
use Rattle.std.specs.Prelude.{Result}
use Rattle.source_machine.specs.Machine.{Machine}
use Rattle.source_plans.specs.declared.frame.Next.{Next as Next'}
use Rattle.source_steps.specs.declared.machine.Interpreter.{Interpreter}
use Rattle.source_steps.specs.declared.machine.MachineStep.{MachineStep}
use Rattle.source_steps.specs.Machines.{Moved, Showed, ShowsNothing}

-- what moves the machine by one of several cases shows nothing in that case
pub unshown : {A E : Type 0} (f : A → Machine → Machine) (m m' : Interpreter) (n n' : A)
    (next : Result Next' E) (step : Result MachineStep E) → n ≡ n' → ShowsNothing next step
    → IfOk next (Moved m m' (f n')) → IfOk step (Showed m m' (f n))
unshown f m m' n n' next step e shows moved =
    subst (λ k. IfOk step (Showed m m' (f k))) (sym e) (shows m m' (f n') moved)
