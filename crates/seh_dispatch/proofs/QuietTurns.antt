-- A turn that runs an instruction, and one that begins as if none had been tried.
use Rattle.std.proofs.Common.{◌≡◌, true, false, Ok, Err, is_ok, Option, None, List, sym, ap, ◌∙◌}
use Rattle.x64_machine.proofs.Handlers.{answer_with, step_with_vectored}
use Rattle.seh_dispatch.specs.Words.{RunEnd, Memory, Cpu, HostedProcessor, State, Answer, state, state_of, step, cpu_after, memory_after, Functions, distance, Funclet, Continues, arrivals, arrived, turn, turned, after, left}
use Rattle.x64_decoded.specs.declared.cache.InstructionCache.{InstructionCache}
use Rattle.x64_decoded.specs.Caches.{IsCoherent}
use Rattle.x64_decoded.proofs.Staying.{cache_stays}
use Rattle.host_model.proofs.FixedTurning.{hosts_keep}

-- the state after a step that was made
made_state : (h : HostedProcessor) (d : Cpu) (m n : Memory) (a : Answer State) → true ≡ is_ok a
    → d ≡ cpu_after h.cpu a → n ≡ memory_after m a
    → answer_with h.handlers a ≡ Ok (state_of (record h { cpu = d }) n)
made_state h d m n (Ok u) e f g = sym (λ i. Ok (state_of (record h { cpu = f i }) (g i)))
made_state h d m n (Err x) e f g = absurd cc

-- the state after a step that wasn't made
pub kept_state : (h : HostedProcessor) (d : Cpu) (m n : Memory) (a : Answer State) → false ≡ is_ok a
    → d ≡ cpu_after h.cpu a → n ≡ memory_after m a
    → state_of (record h { cpu = d }) n ≡ state_of h m
kept_state h d m n (Ok u) e f g = absurd cc
kept_state h d m n (Err x) e f g = λ i. state_of (record h { cpu = f i }) (g i)

pub quiet_turn : (t : Functions) (fs : List Funclet) (h : HostedProcessor) (d : Cpu) (m n : Memory)
    → true ≡ is_ok (step (state h.cpu m)) → d ≡ cpu_after h.cpu (step (state h.cpu m))
    → n ≡ memory_after m (step (state h.cpu m))
    → turn t fs (state_of h m)
    ≡ Continues (state_of (record h { cpu = d }) n) (arrivals d (distance t.base d.rip) 1 fs)
unfolding turn
quiet_turn t fs h d m n e f g =
    ap (λ (a : Answer State). arrived t fs (turned t (state_of h m) a))
    (step_with_vectored h.handlers (state h.cpu m)
    ∙ made_state h d m n (step (state h.cpu m)) e f g)

-- a cache agrees with the memory that a run goes on with
pub coherent_after : (t : Functions) (fs : List Funclet) (s : State) (h : HostedProcessor)
    (m : Memory)
    (end : Option RunEnd) (x : InstructionCache) → left h m end ≡ after (turn t fs s)
    → IsCoherent s.memory x → end ≡ None → IsCoherent m x
coherent_after t fs s h m end x f k e = cache_stays s.memory m x
    (hosts_keep t fs s (state_of h m) (sym f ∙ ap (left h m) e)) k
