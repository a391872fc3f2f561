-- The list of vectored handlers, which the host keeps in the state beside registers and memory.
use Rattle.std.specs.Prelude.{◌≡◌, ℕ, List, Ok, Err}
use Rattle.x64_machine.specs.Effect.{State, Answer, with_vectored, step}

-- the same answer, with this list in the state after it
abbrev pub answer_with : List ℕ → Answer State → Answer State
answer_with v (Ok s) = Ok (with_vectored v s)
answer_with v (Err e) = Err e

-- no instruction reads the list: with another one a step does the same
abbrev pub StepReadsNoHandlers : Type 0
StepReadsNoHandlers =
    (v : List ℕ) (s : State) → step (with_vectored v s) ≡ answer_with v (step s)

-- no instruction writes it: a step leaves it
abbrev pub StepKeepsHandlers : Type 0
StepKeepsHandlers = (s t : State) → step s ≡ Ok t → t.vectored ≡ s.vectored
