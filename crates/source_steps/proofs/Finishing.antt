-- What follows a result that isn't the end of a body, or of a call.
use Rattle.std.proofs.Common.{◌≡◌, ℕ, refl, true, Option}
use Rattle.c_checked.specs.Statement.{Statements}
use Rattle.source_meaning.specs.Tasks as tasks
use Rattle.source_meaning.specs.Tasks.{DataPart}
use Rattle.source_machine.specs.Frames as frames
use Rattle.source_machine.specs.Frames.{Place, Sequel, Start, Push, Give}
use Rattle.source_machine.specs.Machine.{Machine, with_next, follow, finished, left_call}
use Rattle.source_machine.specs.Machine.{with_activations}
use Rattle.source_plans.specs.declared.place.Exception.{Exception}
use Rattle.source_plans.specs.declared.frame.Completion.{Completion}
use Rattle.source_plans.specs.declared.frame.Completion.TheVariants as outcomes
use Rattle.source_plans.specs.Views.{result_of}

pub finished_other : (m : Machine) (k : ℕ) (last : Statements) (p : Place) (o : Completion)
    → (o ≡ outcomes.Normal → ⊥) → (o ≡ outcomes.LeftTry → ⊥)
    → finished m k last p (result_of o) ≡ follow m
    (Push (Sequel (frames.GivesResult (result_of o))) (Start (tasks.RunFinally k last true) p))
finished_other m k last p (outcomes.Value v) n l = refl
finished_other m k last p outcomes.Normal n l = absurd (n refl)
finished_other m k last p (outcomes.Returned v) n l = refl
finished_other m k last p outcomes.Broke n l = refl
finished_other m k last p outcomes.Continued n l = refl
finished_other m k last p outcomes.LeftTry n l = absurd (l refl)
finished_other m k last p (outcomes.Target to exc) n l = refl

-- a call that neither returns nor is left by a target
pub left_other : (m : Machine) (n s : ℕ) (part : Option DataPart) (o : Completion)
    → (o ≡ outcomes.Normal → ⊥) → ((v : ℕ) → o ≡ outcomes.Returned v → ⊥)
    → ((to : ℕ) (exc : Exception) → o ≡ outcomes.Target to exc → ⊥)
    → left_call m n s part (result_of o)
    ≡ with_next (with_activations m n s) (Give (result_of o))
left_other m n s part (outcomes.Value v) normal returned target = refl
left_other m n s part outcomes.Normal normal returned target = absurd (normal refl)
left_other m n s part (outcomes.Returned v) normal returned target = absurd (returned v refl)
left_other m n s part outcomes.Broke normal returned target = refl
left_other m n s part outcomes.Continued normal returned target = refl
left_other m n s part outcomes.LeftTry normal returned target = refl
left_other m n s part (outcomes.Target to exc) normal returned target = absurd (target to exc refl)
