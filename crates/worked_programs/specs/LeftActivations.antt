-- Activations that a target has left count in the depth until it lands, in the meaning and in the
-- linear code alike.
use Rattle.std.specs.Prelude.{◌≡◌, ℕ, ◌+◌, ◌*◌, true, List, [], ◌∷◌, pos}
use Rattle.seh_num.specs.declared.event.Event.{Event}
use Rattle.seh_num.specs.declared.event.Event.TheVariants as events
use Rattle.c_operations.specs.declared.operation.Size.TheVariants.{Int}
use Rattle.c_checked.specs.Expression.{Call, Done, Next}
use Rattle.c_checked.specs.Statement.{Always, Statement, If, IfElse}
use Rattle.c_checked.specs.Program.{Program}
use Rattle.source_meaning.specs.declared.ended.Ended.{Ended}
use Rattle.source_meaning.specs.declared.ended.Ended.TheVariants.{Deep}
use Rattle.source_meaning.specs.Short.{kept, lit, subtract, local, evaluate, raise, answer, except, finally, function, with_main}
use Rattle.source_meaning.specs.Rows.{ended, Shows, raised_event, landed_event, exit}
use Rattle.linear_machine.specs.Run.{linear_meaning}
use Rattle.seh_ir.specs.Lowered.{lowered}

-- the call of a function with a number, and with one less than its parameter
abbrev pub with_number : ℕ → ℕ → Statement
with_number f n = evaluate (Call f (Next (lit n) Done))

abbrev pub with_less : ℕ → Statement
with_less f = evaluate (Call f (Next (kept (subtract (local 0) (lit 1))) Done))

-- int down(int n){ if (n) down(n - 1); else RaiseException(0xE0000001,0,0,0); }
-- int up(int n){ if (n) up(n - 1); }
-- int main(void){
--     __try{ __try{ down(497); } __finally{ up(n); } } __except(1){ up(499); }
--     return 0;
-- }
abbrev pub left_activations : ℕ → Program
left_activations n =
    with_main []
    (function (Int ∷ []) [] (IfElse (local 0) (with_less 0) (raise 0xE0000001 0) ∷ [])
    ∷ function (Int ∷ []) [] (If (local 0) (with_less 1) ∷ []) ∷ [])
    (except (finally (with_number 0 497 ∷ []) 1 (with_number 1 n ∷ []) ∷ []) Always
    (with_number 1 499 ∷ []) ∷ answer (lit 0) ∷ [])

abbrev pub BothShow : Program → ℕ → List Event → Ended → Type 0
BothShow p n es e = Shows p n es e × (linear_meaning (lowered p) (pos 0) (3 * n + 3) ≡ ended es e)

-- 498 activations of `down` are left, which with `main`'s and the block's 2 make 501: 499 more make
-- 1,000, and 500 are too many, but not after the landing
abbrev pub LeftActivations : Type 0
LeftActivations =
    BothShow (left_activations 498) 12000
    (raised_event 0xE0000001 ∷ events.Finally 1 true ∷ landed_event 0xE0000001 ∷ []) (exit 0)
    × BothShow (left_activations 499) 12000 (raised_event 0xE0000001 ∷ events.Finally 1 true ∷ [])
    (Deep 1001)
