-- The turn of a step, by what the step came to. A step doesn't read the vectored handlers.
use Rattle.std.proofs.Common.{◌≡◌, ℕ, Option, Ok, Err, [], refl, sym, ap, ◌∙◌}
use Rattle.std.specs.Prelude.{Bool}
use Rattle.seh_num.specs.declared.event.Code.{Code}
use Rattle.seh_num.specs.declared.end.Reason.TheVariants as reasons
use Rattle.seh_num.specs.declared.end.RunEnd.TheVariants as ends
use Rattle.host_layout.specs.Services.{service_at}
use Rattle.x64_machine.proofs.Handlers.{answer_with, step_with_vectored}
use Rattle.x64_machine.specs.declared.outcome.Stop.TheVariants as stops
use Rattle.x64_machine.specs.declared.outcome.StepOutcome.TheVariants as steps
use Rattle.seh_walk.specs.Walk.{stop_cause}
use Rattle.host_model.specs.HostStep.{served}
use Rattle.seh_dispatch.specs.Words.{Memory, Cpu, HostedProcessor, State, Answer, state, state_of, step, step_answer, cpu_after, memory_after, Functions, Continues, Ends, raised, stopped, turned}

-- the step of a machine, with the answer of its processor
of_step : (t : Functions) (h : HostedProcessor) (m : Memory)
    → turned t (state_of h m) (answer_with h.handlers (step (state h.cpu m)))
    ≡ turned t (state_of h m) (step (state_of h m))
of_step t h m = ap (turned t (state_of h m))
    (sym (step_with_vectored h.handlers (state h.cpu m)))

next : (t : Functions) (h : HostedProcessor) (d : Cpu) (m n : Memory) (a : Answer State)
    → steps.Next ≡ step_answer a → d ≡ cpu_after h.cpu a → n ≡ memory_after m a
    → Continues (state_of (record h { cpu = d }) n) []
    ≡ turned t (state_of h m) (answer_with h.handlers a)
next t h d m n (Ok s) e f g = λ i. Continues (state_of (record h { cpu = f i }) (g i)) []
next t h d m n (Err (stops.Fault code access)) e f g = absurd cc
next t h d m n (Err (stops.Host a)) e f g = absurd cc
next t h d m n (Err stops.Illegal) e f g = absurd cc
next t h d m n (Err (stops.Guard a)) e f g = absurd cc

fault : (t : Functions) (h : HostedProcessor) (d : Cpu) (m n : Memory) (code : Code)
    (access : Option (Bool × ℕ)) (a : Answer State) → steps.Fault code access ≡ step_answer a
    → d ≡ cpu_after h.cpu a → n ≡ memory_after m a
    → raised t (state_of (record h { cpu = d }) n) code 0 access d
    ≡ turned t (state_of h m) (answer_with h.handlers a)
fault t h d m n code access (Ok s) e f g = absurd cc
fault t h d m n code access (Err (stops.Host a)) e f g = absurd cc
fault t h d m n code access (Err stops.Illegal) e f g = absurd cc
fault t h d m n code access (Err (stops.Guard a)) e f g = absurd cc
fault t h d m n code access (Err (stops.Fault code' access')) e f g =
    (λ i. raised t (state_of (record h { cpu = f i }) (g i)) code 0 access (f i))
    ∙ ap (λ (x : Code). raised t (state_of h m) x 0 access h.cpu) (first e)
    ∙ ap (λ (x : Option (Bool × ℕ)). raised t (state_of h m) code' 0 x h.cpu) (second e)
  where
    first : {x y : Code} {p q : Option (Bool × ℕ)} → steps.Fault x p ≡ steps.Fault y q → x ≡ y
    first e = cc

    second : {x y : Code} {p q : Option (Bool × ℕ)} → steps.Fault x p ≡ steps.Fault y q → p ≡ q
    second e = cc

service : (t : Functions) (h : HostedProcessor) (d : Cpu) (m n : Memory) (address : ℕ)
    (a : Answer State)
    → steps.Host address ≡ step_answer a → d ≡ cpu_after h.cpu a → n ≡ memory_after m a
    → served t (state_of (record h { cpu = d }) n) (service_at address)
    ≡ turned t (state_of h m) (answer_with h.handlers a)
service t h d m n address (Ok s) e f g = absurd cc
service t h d m n address (Err (stops.Fault code access)) e f g = absurd cc
service t h d m n address (Err stops.Illegal) e f g = absurd cc
service t h d m n address (Err (stops.Guard a)) e f g = absurd cc
service t h d m n address (Err (stops.Host a)) e f g =
    (λ i. served t (state_of (record h { cpu = f i }) (g i)) (service_at address))
    ∙ ap (λ (x : ℕ). served t (state_of h m) (service_at x)) (same e)
  where
    same : {x y : ℕ} → steps.Host x ≡ steps.Host y → x ≡ y
    same e = cc

illegal : (t : Functions) (h : HostedProcessor) (m : Memory) (a : Answer State)
    → steps.Illegal ≡ step_answer a
    → stopped (stop_cause reasons.Illegal h.cpu.rip)
    ≡ turned t (state_of h m) (answer_with h.handlers a)
illegal t h m (Ok s) e = absurd cc
illegal t h m (Err (stops.Fault code access)) e = absurd cc
illegal t h m (Err (stops.Host a)) e = absurd cc
illegal t h m (Err stops.Illegal) e = refl
illegal t h m (Err (stops.Guard a)) e = absurd cc

guard : (t : Functions) (h : HostedProcessor) (m : Memory) (address : ℕ) (a : Answer State)
    → steps.Guard address ≡ step_answer a
    → Ends [] (ends.StackLimit address) ≡ turned t (state_of h m) (answer_with h.handlers a)
guard t h m address (Ok s) e = absurd cc
guard t h m address (Err (stops.Fault code access)) e = absurd cc
guard t h m address (Err (stops.Host a)) e = absurd cc
guard t h m address (Err stops.Illegal) e = absurd cc
guard t h m address (Err (stops.Guard a)) e = ap (λ (x : ℕ). Ends [] (ends.StackLimit x)) (same e)
  where
    same : {x y : ℕ} → steps.Guard x ≡ steps.Guard y → x ≡ y
    same e = cc

pub next_turned : (t : Functions) (h : HostedProcessor) (d : Cpu) (m n : Memory)
    → steps.Next ≡ step_answer (step (state h.cpu m)) → d ≡ cpu_after h.cpu (step (state h.cpu m))
    → n ≡ memory_after m (step (state h.cpu m))
    → Continues (state_of (record h { cpu = d }) n) []
    ≡ turned t (state_of h m) (step (state_of h m))
next_turned t h d m n e f g = next t h d m n (step (state h.cpu m)) e f g ∙ of_step t h m

pub fault_turned : (t : Functions) (h : HostedProcessor) (d : Cpu) (m n : Memory) (code : Code)
    (access : Option (Bool × ℕ)) → steps.Fault code access ≡ step_answer (step (state h.cpu m))
    → d ≡ cpu_after h.cpu (step (state h.cpu m)) → n ≡ memory_after m (step (state h.cpu m))
    → raised t (state_of (record h { cpu = d }) n) code 0 access d
    ≡ turned t (state_of h m) (step (state_of h m))
fault_turned t h d m n code access e f g =
    fault t h d m n code access (step (state h.cpu m)) e f g ∙ of_step t h m

pub service_turned : (t : Functions) (h : HostedProcessor) (d : Cpu) (m n : Memory) (address : ℕ)
    → steps.Host address ≡ step_answer (step (state h.cpu m))
    → d ≡ cpu_after h.cpu (step (state h.cpu m)) → n ≡ memory_after m (step (state h.cpu m))
    → served t (state_of (record h { cpu = d }) n) (service_at address)
    ≡ turned t (state_of h m) (step (state_of h m))
service_turned t h d m n address e f g =
    service t h d m n address (step (state h.cpu m)) e f g ∙ of_step t h m

pub illegal_turned : (t : Functions) (h : HostedProcessor) (m : Memory)
    → steps.Illegal ≡ step_answer (step (state h.cpu m))
    → stopped (stop_cause reasons.Illegal h.cpu.rip)
    ≡ turned t (state_of h m) (step (state_of h m))
illegal_turned t h m e = illegal t h m (step (state h.cpu m)) e ∙ of_step t h m

pub guard_turned : (t : Functions) (h : HostedProcessor) (m : Memory) (address : ℕ)
    → steps.Guard address ≡ step_answer (step (state h.cpu m))
    → Ends [] (ends.StackLimit address) ≡ turned t (state_of h m) (step (state_of h m))
guard_turned t h m address e = guard t h m address (step (state h.cpu m)) e ∙ of_step t h m

pub ruleset step_turns = (next_turned, illegal_turned)
