-- A store, by the answer of the memory.
use Rattle.std.proofs.Common.{◌≡◌, ℕ, true, Option, None, Some, Ok, Err, refl, sym}
use Rattle.std.specs.Prelude.{Result}
use Rattle.seh_num.specs.declared.width.Width.{Width}
use Rattle.seh_num.specs.Answers.{◌>>=◌}
use Rattle.flat_memory.specs.declared.access.RefusedAccess.{RefusedAccess}
use Rattle.seh_num.specs.Widths.{bytes_of}
use Rattle.flat_memory.specs.Memory.{Memory, access, stored, after_store, unless_refused, with_bytes, with_number, first_refused, may_write}
use Rattle.x64_machine.specs.declared.outcome.Stop.{Stop}
use Rattle.x64_machine.specs.declared.cpu.Cpu.{Cpu}
use Rattle.x64_machine.specs.Effect.{State, Answer, granted, store, state}

ok_of : (n : State) (r : Result (Unit {0}) RefusedAccess) → Ok tt ≡ granted r
    → (let a : Answer State = granted r >>= λ _. Ok n in a) ≡ Ok n
ok_of n (Ok x) e = refl
ok_of n (Err x) e = absurd cc

err_of : (n : State) (r : Result (Unit {0}) RefusedAccess) (stop : Stop) → Err stop ≡ granted r
    → (let a : Answer State = granted r >>= λ _. Ok n in a) ≡ Err stop
err_of n (Ok x) stop e = absurd cc
err_of n (Err x) stop e = sym (same e)
  where
    same : {x y : Stop} → (let o : Answer (Unit {0}) = Err x in o) ≡ Err y
        → (let o : Answer State = Err x in o) ≡ Err y
    same e = cc

pub stored_to : (c : Cpu) (m : Memory) (at : ℕ) (w : Width) (v : ℕ)
    → Ok tt ≡ granted (stored m at w)
    → store (state c m) at w v ≡ Ok (state c (after_store m at w v))
stored_to c m at w v e = ok_of (state c (after_store m at w v)) (stored m at w) e

pub not_stored : (c : Cpu) (m : Memory) (at : ℕ) (w : Width) (v : ℕ) (stop : Stop)
    → Err stop ≡ granted (stored m at w) → store (state c m) at w v ≡ Err stop
not_stored c m at w v stop e = err_of (state c (after_store m at w v)) (stored m at w) stop e

kept_of : (m n : Memory) (o : Option ℕ) (stop : Stop)
    → (let a : Answer (Unit {0}) = Err stop in a) ≡ granted (access true o (tt {0}))
    → unless_refused o n m ≡ m
kept_of m n None stop e = absurd cc
kept_of m n (Some a) stop e = refl

pub kept : (m : Memory) (at : ℕ) (w : Width) (v : ℕ) (stop : Stop)
    → Err stop ≡ granted (stored m at w) → after_store m at w v ≡ m
kept m at w v stop e = kept_of m (with_bytes m (with_number m.byte (bytes_of w) at v))
    (first_refused (may_write m) (bytes_of w) at) stop e

pub ruleset storing = (stored_to, not_stored, kept)
