-- A step neither reads nor writes the list of vectored handlers.
use Rattle.std.proofs.Common.{◌≡◌, ℕ, Ok, Err, List, refl, ◌∙◌}
use Rattle.x64_machine.specs.Effect.{State, Answer, step}
use Rattle.x64_machine.proofs.Handlers as handlers
use Rattle.x64_machine.proofs.Handlers.{step_with_vectored, step_keeps_vectored}
use Rattle.x64_laws.specs.Handlers.{answer_with, StepReadsNoHandlers, StepKeepsHandlers}

same_answer : (v : List ℕ) (a : Answer State) → handlers.answer_with v a ≡ answer_with v a
same_answer v (Ok s) = refl
same_answer v (Err e) = refl

pub step_reads_no_handlers : StepReadsNoHandlers
step_reads_no_handlers v s = step_with_vectored v s ∙ same_answer v (step s)

pub step_keeps_handlers : StepKeepsHandlers
step_keeps_handlers = step_keeps_vectored
