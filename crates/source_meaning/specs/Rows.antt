-- Worked programs: what each of them shows.
use Rattle.std.specs.Prelude.{◌≡◌, ℕ, true, false, List, [], ◌∷◌, pos, negsuc, Some, None}
use Rattle.seh_num.specs.declared.event.Event.{Event}
use Rattle.seh_num.specs.declared.event.Event.TheVariants as events
use Rattle.seh_num.specs.Shown.{Shown}
use Rattle.c_operations.specs.declared.operation.Size.TheVariants.{Int}
use Rattle.c_checked.specs.Expression.{Constant, Read, Assign, Call, Global, Indirection, Done}
use Rattle.c_checked.specs.Expression.{Next}
use Rattle.c_checked.specs.Statement.{Always, Funclet, If, Leave}
use Rattle.c_checked.specs.Program.{Program}
use Rattle.source_meaning.specs.declared.ended.Ended.{Ended}
use Rattle.source_meaning.specs.declared.ended.Ended.TheVariants.{Exit, Unhandled}
use Rattle.source_meaning.specs.Meaning.{meaning}
use Rattle.host_layout.specs.declared.range.TheConstants.{FIRST_DATA}
use Rattle.source_meaning.specs.Short.{kept, long, lit, minus, plus, subtract, multiply, divide, equal}
use Rattle.source_meaning.specs.Short.{int, pointer, cast, local, global, evaluate, put, raise, protect}
use Rattle.source_meaning.specs.Short.{answer, except, finally, code, code_is, abnormal, function}
use Rattle.source_meaning.specs.Short.{main_alone, with_main}

abbrev pub ended : List Event → Ended → Shown Ended
ended es e = record { events = es; end = Some e }

abbrev pub unfinished : List Event → Shown Ended
unfinished es = record { events = es; end = None }

abbrev pub Shows : Program → ℕ → List Event → Ended → Type 0
Shows p n es e = meaning p (pos 0) n ≡ ended es e

abbrev pub raised_event : ℕ → Event
raised_event c = events.Raise (record { 0 = c }) false None

abbrev pub landed_event : ℕ → Event
landed_event c = events.Except (record { 0 = c })

abbrev pub wrote : ℕ → Event
wrote n = events.Put (pos n)

abbrev pub unhandled : ℕ → Ended
unhandled c = Unhandled (record { 0 = c })

abbrev pub exit : ℕ → Ended
exit n = Exit (pos n)

-- int main(void){ put(2+3*4); return 7; }
abbrev pub sum_and_return : Program
sum_and_return =
    main_alone (put (long (plus (lit 2) (kept (multiply (lit 3) (lit 4))))) ∷ answer (lit 7) ∷ [])

-- 7 steps to the first event, and 2 more to the end
pub record SumAndReturn : Type 0 where
  pub within_0 : meaning sum_and_return (pos 0) 0 ≡ unfinished []
  pub within_1 : meaning sum_and_return (pos 0) 1 ≡ unfinished []
  pub within_6 : meaning sum_and_return (pos 0) 6 ≡ unfinished []
  pub within_7 : meaning sum_and_return (pos 0) 7 ≡ unfinished (wrote 14 ∷ [])
  pub within_8 : meaning sum_and_return (pos 0) 8 ≡ unfinished (wrote 14 ∷ [])
  pub within_9 : Shows sum_and_return 9 (wrote 14 ∷ []) (exit 7)

-- int main(void){ __try{ *(int*)0 = 1; } __except(1){ put(GetExceptionCode()==0xC0000005); } return
-- 0; }
abbrev pub null_store_caught : Program
null_store_caught =
    main_alone (except (evaluate (Assign (Indirection int (cast 0)) (lit 1)) ∷ []) Always
    (put (long (code_is 0xC0000005)) ∷ []) ∷ answer (lit 0) ∷ [])

abbrev pub NullStoreCaught : Type 0
NullStoreCaught =
    Shows null_store_caught 50 (events.Raise (record { 0 = 0xC0000005 }) false (Some (true, 0))
    ∷ landed_event 0xC0000005 ∷ wrote 1 ∷ []) (exit 0)

-- int main(void){ __try{ __try{ RaiseException(0xE0000001,0,0,0); } __finally{
-- put(AbnormalTermination()); } } __except(2){ put(3); } return 0; }
abbrev pub filter_then_finally : Program
filter_then_finally =
    main_alone (except (finally (raise 0xE0000001 0 ∷ []) 1 (put (long abnormal) ∷ []) ∷ [])
    (Funclet 2 (lit 2)) (put (long (Constant Int 3)) ∷ []) ∷ answer (lit 0) ∷ [])

abbrev pub FilterThenFinally : Type 0
FilterThenFinally =
    Shows filter_then_finally 50
    (raised_event 0xE0000001 ∷ events.Filter 2 ∷ events.Answer (pos 2) ∷ events.Finally 1 true
    ∷ wrote 1
    ∷ landed_event 0xE0000001 ∷ wrote 3 ∷ []) (exit 0)

-- int *p = 0x20000000; int f(void){ p = 0; protect((void*)0x20000000,2); return -1; } int
-- main(void){ __try{ put(*p); } __except(f()){ put(9); } return 0; }
abbrev pub continue_same_operand : Program
continue_same_operand =
    with_main (0 ∷ 0 ∷ 0 ∷ 32 ∷ 0 ∷ 0 ∷ 0 ∷ 0 ∷ [])
    (function [] [] (evaluate (Assign (Global pointer FIRST_DATA) (long (Constant Int 0)))
    ∷ protect 0x20000000 2 ∷ answer (kept (minus 1)) ∷ []) ∷ [])
    (except (put (long (Read (Indirection int (kept (Read (Global pointer FIRST_DATA)))))) ∷ [])
    (Funclet 1 (kept (Call 0 Done))) (put (long (Constant Int 9)) ∷ []) ∷ answer (lit 0)
    ∷ [])

abbrev pub ContinueSameOperand : Type 0
ContinueSameOperand =
    Shows continue_same_operand 100
    (events.Raise (record { 0 = 0xC0000005 }) false (Some (false, 0x20000000)) ∷ events.Filter 1
    ∷ events.Answer (negsuc 0) ∷ wrote 0 ∷ []) (exit 0)

-- int main(void){ __try{ return 5; } __finally{ put(AbnormalTermination()); } return 6; }, and with
-- `__leave` for `return 5`
abbrev pub return_flags : Program
return_flags =
    main_alone (finally (answer (lit 5) ∷ []) 1 (put (long abnormal) ∷ []) ∷ answer (lit 6) ∷ [])

abbrev pub leave_flags : Program
leave_flags = main_alone (finally (Leave ∷ []) 1 (put (long abnormal) ∷ []) ∷ answer (lit 6) ∷ [])

abbrev pub ReturnAndLeaveFlags : Type 0
ReturnAndLeaveFlags =
    Shows return_flags 50 (events.Finally 1 true ∷ wrote 1 ∷ []) (exit 5)
    × Shows leave_flags 50 (events.Finally 1 false ∷ wrote 0 ∷ []) (exit 6)

-- int m; int main(void){ m = -2147483647 - 1; __try{ __try{ put(m / -1); } __finally{ put(8); } }
-- __except(0){ put(9); } return 0; }, and with `m / 0`
abbrev pub division_faults : Program
division_faults =
    with_main (0 ∷ 0 ∷ 0 ∷ 0 ∷ []) []
    (evaluate (Assign (global FIRST_DATA) (kept (subtract (kept (minus 2147483647)) (lit 1))))
    ∷ except (finally (put (long (divide (kept (Read (global FIRST_DATA))) (kept (minus 1)))) ∷ [])
    1 (put (long (Constant Int 8)) ∷ []) ∷ []) (Funclet 2 (lit 0))
    (put (long (Constant Int 9)) ∷ [])
    ∷ answer (lit 0) ∷ [])

abbrev pub division_by_zero : Program
division_by_zero = main_alone (put (long (divide (lit 1) (lit 0))) ∷ answer (lit 0) ∷ [])

abbrev pub DivisionFaultsUnhandled : Type 0
DivisionFaultsUnhandled =
    Shows division_faults 100 (raised_event 0xC0000095 ∷ events.Filter 2 ∷ events.Answer (pos 0)
    ∷ [])
    (unhandled 0xC0000095)
    × Shows division_by_zero 50 (raised_event 0xC0000094 ∷ []) (unhandled 0xC0000094)

-- int c; int bad(void){ c = c + 1; if (c == 1) RaiseException(0xE0000002,0,0,0); return 0; }
-- int main(void){ __try{ __try{ RaiseException(0xE0000001,0,0,0); } __except(bad()){ put(8); } }
-- __except(GetExceptionCode()==0xE0000002){ put(c); } return 0; }
abbrev pub raise_in_filter : Program
raise_in_filter =
    with_main (0 ∷ 0 ∷ 0 ∷ 0 ∷ [])
    (function [] []
    (evaluate (Assign (global FIRST_DATA) (kept (plus (kept (Read (global FIRST_DATA))) (lit 1))))
    ∷ If (kept (equal (kept (Read (global FIRST_DATA))) (lit 1))) (raise 0xE0000002 0)
    ∷ answer (lit 0) ∷ [])
    ∷ [])
    (except (except (raise 0xE0000001 0 ∷ []) (Funclet 1 (kept (Call 0 Done)))
    (put (long (Constant Int 8)) ∷ []) ∷ []) (Funclet 2 (kept (code_is 0xE0000002)))
    (put (long (Read (global FIRST_DATA))) ∷ []) ∷ answer (lit 0) ∷ [])

abbrev pub RaiseInFilter : Type 0
RaiseInFilter =
    Shows raise_in_filter 100
    (raised_event 0xE0000001 ∷ events.Filter 1 ∷ raised_event 0xE0000002 ∷ events.Filter 1
    ∷ events.Answer (pos 0) ∷ events.Filter 2 ∷ events.Answer (pos 1) ∷ landed_event 0xE0000002
    ∷ wrote 2 ∷ [])
    (exit 0)

-- int main(void){ __try{ __try{ __try{ RaiseException(0xE0000001,0,0,0); } __finally{
-- RaiseException(0xE0000002,0,0,0); } } __except(GetExceptionCode()==0xE0000002){ put(2); } }
-- __except(1){ put(1); } return 0; }
abbrev pub raise_in_finally : Program
raise_in_finally =
    main_alone
    (except (except (finally (raise 0xE0000001 0 ∷ []) 1 (raise 0xE0000002 0 ∷ []) ∷ [])
    (Funclet 2 (kept (code_is 0xE0000002))) (put (long (Constant Int 2)) ∷ []) ∷ [])
    Always (put (long (Constant Int 1)) ∷ []) ∷ answer (lit 0) ∷ [])

abbrev pub RaiseInFinally : Type 0
RaiseInFinally =
    Shows raise_in_finally 100
    (raised_event 0xE0000001 ∷ events.Filter 2 ∷ events.Answer (pos 0) ∷ events.Finally 1 true
    ∷ raised_event 0xE0000002 ∷ events.Filter 2 ∷ events.Answer (pos 1) ∷ landed_event 0xE0000002
    ∷ wrote 2 ∷ [])
    (exit 0)

-- int f(unsigned c){ if (c == 0xC0000025) return 1; return -1; } int main(void){ __try{
-- RaiseException(0xE0000003,1,0,0); } __except(f(GetExceptionCode())){ put(3); } return 0; }
abbrev pub continue_noncontinuable : Program
continue_noncontinuable =
    with_main [] (function (Int ∷ []) [] (If (kept (equal (local 0) (lit 0xC0000025)))
    (answer (lit 1)) ∷ answer (kept (minus 1)) ∷ []) ∷ [])
    (except (raise 0xE0000003 1 ∷ []) (Funclet 1 (kept (Call 0 (Next code Done))))
    (put (long (Constant Int 3)) ∷ []) ∷ answer (lit 0) ∷ [])

abbrev pub ContinueNoncontinuable : Type 0
ContinueNoncontinuable =
    Shows continue_noncontinuable 100
    (events.Raise (record { 0 = 0xE0000003 }) true None ∷ events.Filter 1 ∷ events.Answer (negsuc 0)
    ∷ events.Raise (record { 0 = 0xC0000025 }) true None
    ∷ events.Filter 1 ∷ events.Answer (pos 1) ∷ landed_event 0xC0000025 ∷ wrote 3 ∷ [])
    (exit 0)
