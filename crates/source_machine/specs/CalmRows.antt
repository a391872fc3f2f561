-- Programs that are Tame, programs that are Plain, and programs that aren't.
use Rattle.std.specs.Prelude.{[], ◌∷◌, pos, None}
use Rattle.c_operations.specs.declared.operation.Size.TheVariants.{Int}
use Rattle.c_checked.specs.Expression.{Constant, Call, Done}
use Rattle.c_checked.specs.Statement.{Statement, Always, Funclet, If, Leave, Evaluate}
use Rattle.c_checked.specs.Program.{Program}
use Rattle.source_meaning.specs.Short.{kept, long, lit, equal, local, evaluate, add_vectored, raise}
use Rattle.source_meaning.specs.Short.{put, answer, except, finally, function, main_alone}
use Rattle.source_meaning.specs.Short.{with_main}
use Rattle.source_meaning.specs.Rows.{sum_and_return, null_store_caught, filter_then_finally, continue_same_operand, return_flags, leave_flags, raise_in_filter, raise_in_finally, continue_noncontinuable}
use Rattle.source_meaning.specs.MoreRows.{reserved_access}
use Rattle.source_meaning.specs.VectoredRows as vectored
use Rattle.source_machine.specs.Tame.{Tame}
use Rattle.source_machine.specs.Plain.{Plain}

-- ---- Tame

abbrev pub TameRows : Type 0
TameRows =
    Tame sum_and_return (pos 0)
    × Tame raise_in_filter (pos 0)
    × Tame raise_in_finally (pos 0)
    × (Tame reserved_access (pos 0) → ⊥)

-- ---- Plain

-- no exception; one with a handler; one with a filter and then a `__finally`; one that a filter
-- continues; C0000025, raised after a filter has answered; vectored handlers that pass on and that
-- continue; and C0000025, raised after one has answered
abbrev pub PlainRows : Type 0
PlainRows =
    Plain sum_and_return (pos 0) 100
    × Plain null_store_caught (pos 0) 100
    × Plain filter_then_finally (pos 0) 100
    × Plain continue_same_operand (pos 0) 100
    × Plain return_flags (pos 0) 100
    × Plain leave_flags (pos 0) 100
    × Plain continue_noncontinuable (pos 0) 100
    × Plain vectored.asked_first (pos 0) 100
    × Plain vectored.continues (pos 0) 100
    × Plain vectored.asked_again (pos 0) 100

-- int f(void){ __try{ RaiseException(0xE0000002,0,0,0); } __except(1){ } return 1; }
-- int main(void){ __try{ RaiseException(0xE0000001,0,0,0); } __except(f()){ put(1); } return 0; }
abbrev pub handled_in_filter : Program
handled_in_filter =
    with_main [] (function [] [] (except (raise 0xE0000002 0 ∷ []) Always [] ∷ answer (lit 1) ∷ [])
    ∷ [])
    (except (raise 0xE0000001 0 ∷ []) (Funclet 1 (kept (Call 0 Done)))
    (put (long (Constant Int 1)) ∷ []) ∷ answer (lit 0) ∷ [])

-- also one that a handler inside the filter takes
abbrev pub RaisesInFilters : Type 0
RaisesInFilters =
    (Plain raise_in_filter (pos 0) 100 → ⊥)
    × (Plain handled_in_filter (pos 0) 100 → ⊥)

-- int v(unsigned c, unsigned f){ if (c == 0xE0000001) RaiseException(0xE0000002,0,0,0); return 0; }
-- int main(void){ AddVectoredExceptionHandler(1, v); __try{ RaiseException(0xE0000001,0,0,0); }
-- __except(1){ } return 0; }
abbrev pub raise_in_vectored : Program
raise_in_vectored =
    with_main [] (function (Int ∷ Int ∷ []) []
    (If (kept (equal (local 0) (lit 0xE0000001))) (raise 0xE0000002 0) ∷ answer (lit 0) ∷ []) ∷ [])
    (evaluate (add_vectored 0 1) ∷ except (raise 0xE0000001 0 ∷ []) Always [] ∷ answer (lit 0) ∷ [])

abbrev pub RaisesInVectored : Type 0
RaisesInVectored = Plain raise_in_vectored (pos 0) 100 → ⊥

-- int main(void){ __try{ __try{ BODY } __finally{ RaiseException(0xE0000002,0,0,0); } }
-- __except(1){ put(2); } return 0; }
abbrev pub raising_after : Statement → Program
raising_after body =
    main_alone (except (finally (body ∷ []) 1 (raise 0xE0000002 0 ∷ []) ∷ []) Always
    (put (long (Constant Int 2)) ∷ []) ∷ answer (lit 0) ∷ [])

-- the block runs for an exception that was accepted
abbrev pub RaisesInFinallys : Type 0
RaisesInFinallys =
    (Plain raise_in_finally (pos 0) 100 → ⊥)
    × (Plain (raising_after (raise 0xE0000001 0)) (pos 0) 100 → ⊥)

-- and for a `return`
abbrev pub FlagOneAtReturn : Type 0
FlagOneAtReturn = Plain (raising_after (answer (lit 5))) (pos 0) 100 → ⊥

-- at the normal end of the body, and after `__leave`, its flag is 0
abbrev pub FlagZeroAtEnd : Type 0
FlagZeroAtEnd = Plain (raising_after (Evaluate None)) (pos 0) 100

abbrev pub FlagZeroAtLeave : Type 0
FlagZeroAtLeave = Plain (raising_after Leave) (pos 0) 100
