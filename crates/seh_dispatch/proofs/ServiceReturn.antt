-- The return of a service.
use Rattle.std.proofs.Common.{◌≡◌, ℕ, Option, Some, None, Ok, Err, refl, sym, ap}
use Rattle.std.specs.Prelude.{Result}
use Rattle.seh_num.specs.declared.end.Reason.TheVariants as reasons
use Rattle.seh_num.specs.declared.width.Width.TheVariants.{W64}
use Rattle.flat_memory.specs.declared.access.RefusedAccess.{RefusedAccess}
use Rattle.seh_dispatch.specs.Words.{Memory, loaded, Rsp, Cpu, HostedProcessor, State, register, state_of, Turn, stopped, returned, returning, back_of}
use Rattle.seh_walk.specs.Walk.{stop_cause}

some_back : (h : HostedProcessor) (d : Cpu) (m : Memory) (go : State → Turn)
    (a : Result ℕ RefusedAccess)
    → Some d ≡ back_of h.cpu a
    → returned (state_of h m) a go ≡ go (state_of (record h { cpu = d }) m)
some_back h d m go (Ok a) e = ap (λ (x : Cpu). go (state_of (record h { cpu = x }) m))
    (same (sym e))
  where
    same : {x y : Cpu} → (let o : Option Cpu = Some x in o) ≡ Some y → x ≡ y
    same e = cc
some_back h d m go (Err a) e = absurd cc

no_back : (h : HostedProcessor) (m : Memory) (go : State → Turn) (a : Result ℕ RefusedAccess)
    → None ≡ back_of h.cpu a → returned (state_of h m) a go
    ≡ stopped (stop_cause reasons.Unreadable (register h.cpu Rsp))
no_back h m go (Ok a) e = absurd cc
no_back h m go (Err a) e = refl

pub returning_to : (h : HostedProcessor) (d : Cpu) (m : Memory) (go : State → Turn)
    → Some d ≡ back_of h.cpu (loaded m (register h.cpu Rsp) W64)
    → returning (state_of h m) go ≡ go (state_of (record h { cpu = d }) m)
returning_to h d m go e = some_back h d m go (loaded m (register h.cpu Rsp) W64) e

pub not_returning : (h : HostedProcessor) (m : Memory) (go : State → Turn)
    → None ≡ back_of h.cpu (loaded m (register h.cpu Rsp) W64)
    → returning (state_of h m) go ≡ stopped (stop_cause reasons.Unreadable (register h.cpu Rsp))
not_returning h m go e = no_back h m go (loaded m (register h.cpu Rsp) W64) e

pub ruleset returning_steps = (returning_to, not_returning)
