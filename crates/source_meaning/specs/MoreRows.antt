-- Further worked programs: calls, loops, memory, operators, and exceptions in one another.
use Rattle.std.specs.Prelude.{◌≡◌, ◌+◌, ◌*◌, true, false, [], ◌∷◌, pos, negsuc, Some, None}
use Rattle.seh_num.specs.declared.width.Width.TheVariants.{W8, W16, W32}
use Rattle.seh_num.specs.declared.event.Event.TheVariants as events
use Rattle.c_operations.specs.declared.field.Field.TheVariants.{NumberParameters}
use Rattle.c_operations.specs.declared.field.Field.TheVariants.{ExceptionInformation}
use Rattle.c_operations.specs.declared.operation.Operation.TheVariants.{Pure, Remainder}
use Rattle.c_operations.specs.declared.operation.Pure.TheVariants as pures
use Rattle.c_operations.specs.declared.operation.Relation.TheVariants.{Less, Greater}
use Rattle.c_operations.specs.declared.operation.Size.TheVariants.{Int, Long}
use Rattle.c_operations.specs.declared.operation.Signedness.TheVariants.{Signed}
use Rattle.c_checked.specs.declared.expression.Access.{Access}
use Rattle.c_checked.specs.declared.expression.Conversion.TheVariants.{Kept, Extend, Scale}
use Rattle.c_operations.specs.declared.built_in.BuiltIn.TheVariants.{Put}
use Rattle.c_checked.specs.declared.expression.Fixity.TheVariants.{Postfix, Prefix}
use Rattle.c_checked.specs.Expression.{On, Constant, Read, Assign, CompoundAssign, Increment, Unary}
use Rattle.c_checked.specs.Expression.{Binary, PointerDifference, And, Or, Conditional, Comma, Call}
use Rattle.c_checked.specs.Expression.{CallBuiltIn, Information, Local, Indirection, Element, Done}
use Rattle.c_checked.specs.Expression.{Next, arguments}
use Rattle.c_checked.specs.Statement.{Always, Funclet, Block, Evaluate, If, IfElse, For, DoWhile}
use Rattle.c_checked.specs.Statement.{Break, Continue, Declare, statements}
use Rattle.c_checked.specs.Program.{Program}
use Rattle.source_meaning.specs.declared.ended.Ended.TheVariants.{Undefined, Deep}
use Rattle.source_meaning.specs.Meaning.{meaning}
use Rattle.host_layout.specs.declared.range.TheConstants.{FIRST_DATA}
use Rattle.source_meaning.specs.Short.{kept, long, unsigned_long, lit, address, minus, plus, subtract}
use Rattle.source_meaning.specs.Short.{divide, compare, equal, int, cast, local, evaluate, put, raise}
use Rattle.source_meaning.specs.Short.{protect, answer, except, finally, code_is, abnormal, function}
use Rattle.source_meaning.specs.Short.{main_alone, with_main}
use Rattle.source_meaning.specs.Rows.{ended, unfinished, Shows, raised_event, landed_event, wrote, exit}

-- ---- exceptions in one another

-- void g(void){ __try{ RaiseException(0xE0000001,0,0,0); } __except(0){ put(7); } }
-- int main(void){ __try{ __try{ g(); } __finally{ RaiseException(0xE0000002,0,0,0); } }
-- __except(1){ put(GetExceptionCode() == 0xE0000002); } return 0; }
abbrev pub filter_asked_once : Program
filter_asked_once =
    with_main [] (function [] [] (except (raise 0xE0000001 0 ∷ []) (Funclet 1 (lit 0))
    (put (long (Constant Int 7)) ∷ []) ∷ []) ∷ [])
    (except (finally (evaluate (Call 0 Done) ∷ []) 2 (raise 0xE0000002 0 ∷ []) ∷ []) Always
    (put (long (code_is 0xE0000002)) ∷ []) ∷ answer (lit 0) ∷ [])

abbrev pub FilterAskedOnceUnderCollision : Type 0
FilterAskedOnceUnderCollision =
    Shows filter_asked_once 100
    (raised_event 0xE0000001 ∷ events.Filter 1 ∷ events.Answer (pos 0) ∷ events.Finally 2 true
    ∷ raised_event 0xE0000002 ∷ landed_event 0xE0000002 ∷ wrote 1 ∷ []) (exit 0)

-- int main(void){ __try{ __try{ __try{ __try{ RaiseException(0xE0000001,0,0,0); } __finally{
-- RaiseException(0xE0000002,0,0,0); } } __finally{ RaiseException(0xE0000003,0,0,0); } }
--   __except(GetExceptionCode()==0xE0000003){ put(3); } } __except(1){ put(1); } return 0; }
abbrev pub collided_twice : Program
collided_twice =
    main_alone
    (except (except (finally (finally (raise 0xE0000001 0 ∷ []) 1 (raise 0xE0000002 0 ∷ []) ∷ []) 2
    (raise 0xE0000003 0 ∷ []) ∷ []) (Funclet 3 (kept (code_is 0xE0000003)))
    (put (long (Constant Int 3)) ∷ []) ∷ [])
    Always (put (long (Constant Int 1)) ∷ []) ∷ answer (lit 0) ∷ [])

abbrev pub CollidedTwice : Type 0
CollidedTwice =
    Shows collided_twice 100
    (raised_event 0xE0000001 ∷ events.Filter 3 ∷ events.Answer (pos 0) ∷ events.Finally 1 true
    ∷ raised_event 0xE0000002 ∷ events.Filter 3 ∷ events.Answer (pos 0) ∷ events.Finally 2 true
    ∷ raised_event 0xE0000003 ∷ events.Filter 3 ∷ events.Answer (pos 1) ∷ landed_event 0xE0000003
    ∷ wrote 3
    ∷ [])
    (exit 0)

-- int f(int n){ __try{ __try{ if (n) f(n - 1); else RaiseException(0xE0000001,0,0,0); } __except(n
-- == 1){ put(n); } } __finally{ put(10 + n); } return 0; } int main(void){ f(1); return 0; }
abbrev pub target_in_outer_activation : Program
target_in_outer_activation =
    with_main []
    (function (Int ∷ []) []
    (finally
    (except (IfElse (local 0) (evaluate (Call 0 (Next (kept (subtract (local 0) (lit 1))) Done)))
    (raise 0xE0000001 0) ∷ []) (Funclet 1 (kept (equal (local 0) (lit 1))))
    (put (long (Read (Local 0))) ∷ []) ∷ [])
    2 (put (long (plus (lit 10) (local 0))) ∷ []) ∷ answer (lit 0) ∷ [])
    ∷ [])
    (evaluate (Call 0 (Next (lit 1) Done)) ∷ answer (lit 0) ∷ [])

abbrev pub TargetInOuterActivation : Type 0
TargetInOuterActivation =
    Shows target_in_outer_activation 100
    (raised_event 0xE0000001 ∷ events.Filter 1 ∷ events.Answer (pos 0) ∷ events.Filter 1
    ∷ events.Answer (pos 1) ∷ events.Finally 2 true ∷ wrote 10 ∷ landed_event 0xE0000001 ∷ wrote 1
    ∷ events.Finally 2 false ∷ wrote 11 ∷ [])
    (exit 0)

-- int main(void){ __try{ __try{ *(char*)8 = 1; } __except(0){ put(1); } }
-- __except(GetExceptionInformation()->ExceptionRecord->NumberParameters){ put(2); } return 0; }
abbrev pub char : Access
char = record { width = W8; signedness = Signed }

abbrev pub short : Access
short = record { width = W16; signedness = Signed }

abbrev pub two_filters : Program
two_filters =
    main_alone
    (except (except (evaluate (Assign (Indirection char (cast 8))
    (On (Constant Int 1) (Extend Signed W8 Int))) ∷ []) (Funclet 1 (lit 0))
    (put (long (Constant Int 1)) ∷ []) ∷ [])
    (Funclet 2 (kept (Information NumberParameters))) (put (long (Constant Int 2)) ∷ [])
    ∷ answer (lit 0) ∷ [])

abbrev pub TwoFiltersOfOneFault : Type 0
TwoFiltersOfOneFault =
    Shows two_filters 100
    (events.Raise (record { 0 = 0xC0000005 }) false (Some (true, 8)) ∷ events.Filter 1
    ∷ events.Answer (pos 0) ∷ events.Filter 2 ∷ events.Answer (pos 2) ∷ landed_event 0xC0000005
    ∷ wrote 2 ∷ [])
    (exit 0)

-- ---- jumps out of bodies

-- int main(void){ int i; for (i = 0; i < 3; i++){ __try{ if (i == 1) break; } __finally{
-- put(AbnormalTermination()); } } return i; }
abbrev pub break_through_finally : Program
break_through_finally =
    record {
      functions =
          function [] (Int ∷ [])
          (Declare (record { local = 0; stacked = None; value = None })
          ∷ For [] (Some (kept (Assign (Local 0) (lit 0))))
          (Some (kept (compare Less (local 0) (lit 3))))
          (Some (kept (Increment Postfix (Local 0) Kept (Pure (pures.Add Int)) 1 Kept)))
          (Block (statements (finally (If (kept (equal (local 0) (lit 1))) Break ∷ []) 1
          (put (long abnormal) ∷ []) ∷ []))) ∷ answer (local 0) ∷ [])
          ∷ [];
      main = 0;
      globals = [];
    }

abbrev pub BreakThroughFinally : Type 0
BreakThroughFinally =
    Shows break_through_finally 100 (events.Finally 1 false ∷ wrote 0 ∷ events.Finally 1 true
    ∷ wrote 1 ∷ []) (exit 1)

-- int main(void){ __try{ __try{ return 4; } __finally{ put(1); } } __finally{ put(2); } return 0; }
abbrev pub return_through_two : Program
return_through_two =
    main_alone (finally (finally (answer (lit 4) ∷ []) 1 (put (long (Constant Int 1)) ∷ []) ∷ []) 2
    (put (long (Constant Int 2)) ∷ []) ∷ answer (lit 0) ∷ [])

abbrev pub ReturnThroughTwoFinallys : Type 0
ReturnThroughTwoFinallys =
    Shows return_through_two 100 (events.Finally 1 true ∷ wrote 1 ∷ events.Finally 2 true ∷ wrote 2
    ∷ []) (exit 4)

-- ---- memory

-- int main(void){ protect((void*)0x20000000,2); __try{ *(int*)0x20000FFE = 0x01010101; }
-- __except(1){ put(*(short*)0x20000FFE); } return 0; }
abbrev pub store_across_pages : Program
store_across_pages =
    main_alone
    (protect 0x20000000 2 ∷ except (evaluate (Assign (Indirection int (cast 0x20000FFE))
    (lit 0x01010101)) ∷ []) Always
    (put (long (Read (Indirection short (cast 0x20000FFE)))) ∷ []) ∷ answer (lit 0) ∷ [])

abbrev pub StoreAcrossPages : Type 0
StoreAcrossPages =
    Shows store_across_pages 100 (events.Raise (record { 0 = 0xC0000005 }) false
    (Some (true, 0x20001000)) ∷ landed_event 0xC0000005 ∷ wrote 0 ∷ []) (exit 0)

-- int main(void){ __try{ put(*(char*)0x20000003); }
-- __except(put(GetExceptionInformation()->ExceptionRecord->ExceptionInformation[1]), 1){ put(4); }
-- return 0; }
abbrev pub fault_address : Program
fault_address =
    main_alone
    (except (put (long (Read (Indirection char (cast 0x20000003)))) ∷ [])
    (Funclet 1 (kept (Comma (kept (CallBuiltIn Put (Next
    (kept (Information (ExceptionInformation 1))) Done))) (lit 1))))
    (put (long (Constant Int 4)) ∷ []) ∷ answer (lit 0) ∷ [])

abbrev pub FaultAddressInFilter : Type 0
FaultAddressInFilter =
    Shows fault_address 100
    (events.Raise (record { 0 = 0xC0000005 }) false (Some (false, 0x20000003)) ∷ events.Filter 1
    ∷ wrote 536870915 ∷ events.Answer (pos 1) ∷ landed_event 0xC0000005 ∷ wrote 4 ∷ []) (exit 0)

-- int main(void){ put(1); return *(int*)0x70000000; }
abbrev pub reserved_access : Program
reserved_access =
    main_alone (put (long (Constant Int 1))
    ∷ answer (kept (Read (Indirection int (cast 0x70000000)))) ∷ [])

abbrev pub UndefinedReservedAccess : Type 0
UndefinedReservedAccess = Shows reserved_access 100 (wrote 1 ∷ []) (Undefined 0x70000000)

-- ---- operators

-- int main(void){ put((char)200); put(1u - 2); put(-7 / 2); put(-7 % 2); put(1 << 33); return 0; }
abbrev pub conversions : Program
conversions =
    main_alone
    (put (long (Unary pures.First (On (Constant Int 200) (Extend Signed W8 Int))))
    ∷ put (unsigned_long (subtract (lit 1) (lit 2)))
    ∷ put (long (divide (kept (minus 7)) (lit 2)))
    ∷ put (long (Binary (Remainder Signed Int) (kept (minus 7)) (lit 2)))
    ∷ put (long (Binary (Pure (pures.ShiftLeft Int)) (lit 1) (lit 33)))
    ∷ answer (lit 0) ∷ [])

abbrev pub ConversionsAndShifts : Type 0
ConversionsAndShifts =
    Shows conversions 100 (events.Put (negsuc 55) ∷ wrote 4294967295 ∷ events.Put (negsuc 2)
    ∷ events.Put (negsuc 0) ∷ wrote 2 ∷ []) (exit 0)

-- int a[2]; int main(void){ char c = 127; int *p = a; put(c++); put(c); *++p = 5; put(a[1]); put(p
-- - a); put(p[-1] || 0); put(1 && c ? 3 : 4); c += 130; put(c); return 0; }
abbrev pub operators : Program
operators =
    record {
      functions =
          function [] (Int ∷ Long ∷ [])
          (Declare (record {
            local = 0;
            stacked = None;
            value = Some (On (Constant Int 127) (Extend Signed W8 Int));
          })
          ∷ Declare (record { local = 1; stacked = None; value = Some (address FIRST_DATA) })
          ∷ put (long (Increment Postfix (Local 0) Kept (Pure (pures.Add Int)) 1
          (Extend Signed W8 Int)))
          ∷ put (long (Read (Local 0)))
          ∷ evaluate (Assign (Indirection int (kept (Increment Prefix (Local 1) Kept
          (Pure (pures.Add Long)) 4 Kept))) (lit 5))
          ∷ put (long (Read (Element int (address FIRST_DATA)
          (On (Constant Int 1) (Scale Signed W32 4)))))
          ∷ put (kept (PointerDifference 4 (local 1) (address FIRST_DATA)))
          ∷ put (long (Or (kept (Read (Element int (local 1) (On (minus 1) (Scale Signed W32 4)))))
          (lit 0)))
          ∷ put (long (Conditional (kept (And (lit 1) (local 0))) (lit 3) (lit 4)))
          ∷ evaluate (CompoundAssign (Local 0) Kept (Pure (pures.Add Int)) (lit 130)
          (Extend Signed W8 Int))
          ∷ put (long (Read (Local 0)))
          ∷ answer (lit 0) ∷ [])
          ∷ [];
      main = 0;
      globals = 0 ∷ 0 ∷ 0 ∷ 0 ∷ 0 ∷ 0 ∷ 0 ∷ 0 ∷ [];
    }

abbrev pub Operators : Type 0
Operators =
    Shows operators 200 (wrote 127 ∷ events.Put (negsuc 127) ∷ wrote 5 ∷ wrote 1 ∷ wrote 0 ∷ wrote 3
    ∷ wrote 2 ∷ []) (exit 0)

-- ---- calls and loops

-- int f(int a,int b,int c,int d,int e,int g){ return a-b+c-d+e-g; } int main(void){
-- put(f(1,2,3,4,5,6)); return 0; }
abbrev pub six_arguments : Program
six_arguments =
    with_main []
    (function (Int ∷ Int ∷ Int ∷ Int ∷ Int ∷ Int ∷ []) []
    (answer (kept (subtract (kept (plus (kept (subtract (kept
    (plus (kept (subtract (local 0) (local 1))) (local 2))) (local 3))) (local 4)))
    (local 5))) ∷ []) ∷ [])
    (put (long (Call 0 (arguments (lit 1 ∷ lit 2 ∷ lit 3 ∷ lit 4 ∷ lit 5 ∷ lit 6 ∷ []))))
    ∷ answer (lit 0) ∷ [])

abbrev pub SixArguments : Type 0
SixArguments = Shows six_arguments 100 (events.Put (negsuc 2) ∷ []) (exit 0)

-- int main(long long n){ long long s = 0; while (n > 0){ s = s + n; n = n - 1; } put(s); return 0;
-- }
abbrev pub sum_to_argument : Program
sum_to_argument =
    record {
      functions =
          function (Long ∷ []) (Long ∷ [])
          (Declare (record { local = 1; stacked = None; value = Some (long (Constant Int 0)) })
          ∷ For [] None (Some (kept (Binary (Pure (pures.Compare Greater Signed Long)) (local 0)
          (long (Constant Int 0))))) None
          (Block (statements
          (evaluate (Assign (Local 1) (kept (Binary (Pure (pures.Add Long)) (local 1) (local 0))))
          ∷ evaluate (Assign (Local 0) (kept (Binary (Pure (pures.Subtract Long)) (local 0)
          (long (Constant Int 1))))) ∷ [])))
          ∷ put (local 1) ∷ answer (lit 0) ∷ [])
          ∷ [];
      main = 0;
      globals = [];
    }

abbrev pub SumToArgument : Type 0
SumToArgument =
    (meaning sum_to_argument (pos 0) 20 ≡ ended (wrote 0 ∷ []) (exit 0))
    × (meaning sum_to_argument (pos 9) 300 ≡ ended (wrote 45 ∷ []) (exit 0))

-- int main(void){ int i; do { i++; if (i == 2) continue; put(i); } while (i < 3); while (1) ; }
abbrev pub loops : Program
loops =
    record {
      functions =
          function [] (Int ∷ [])
          (Declare (record { local = 0; stacked = None; value = None })
          ∷ DoWhile (Block (statements
          (evaluate (Increment Postfix (Local 0) Kept (Pure (pures.Add Int)) 1 Kept)
          ∷ If (kept (equal (local 0) (lit 2))) Continue ∷ put (long (Read (Local 0))) ∷ [])))
          (kept (compare Less (local 0) (lit 3)))
          ∷ For [] None (Some (lit 1)) None (Evaluate None) ∷ [])
          ∷ [];
      main = 0;
      globals = [];
    }

abbrev pub Loops : Type 0
Loops = meaning loops (pos 0) 1000 ≡ unfinished (wrote 1 ∷ wrote 3 ∷ [])

-- int r(int n){ if (n == 0) return 0; return r(n - 1) + 1; } int main(void){ put(r(40)); return 0;
-- }
abbrev pub deep_recursion : Program
deep_recursion =
    with_main []
    (function (Int ∷ []) []
    (If (kept (equal (local 0) (lit 0))) (answer (lit 0))
    ∷ answer (kept (plus (kept (Call 0 (Next (kept (subtract (local 0) (lit 1))) Done)))
    (lit 1))) ∷ []) ∷ [])
    (put (long (Call 0 (Next (lit 40) Done))) ∷ answer (lit 0) ∷ [])

-- int r(int n){ return r(n + 1) + 1; } int main(void){ put(r(0)); return 0; }
abbrev pub endless_recursion : Program
endless_recursion =
    with_main [] (function (Int ∷ []) [] (answer (kept (plus
    (kept (Call 0 (Next (kept (plus (local 0) (lit 1))) Done))) (lit 1))) ∷ []) ∷ [])
    (put (long (Call 0 (Next (lit 0) Done))) ∷ answer (lit 0) ∷ [])

-- 4 steps lead to the first call, and 6 from each call to the next; the 1,000th would be the
-- 1,001st activation
pub record DeepRecursion : Type 0 where
  pub deep : Shows deep_recursion 1000 (wrote 40 ∷ []) (exit 0)
  pub endless : Shows endless_recursion 10000 [] (Deep 1001)
  pub at_the_last : Shows endless_recursion (4 + 6 * 999) [] (Deep 1001)
  pub before : meaning endless_recursion (pos 0) (3 + 6 * 999) ≡ unfinished []
