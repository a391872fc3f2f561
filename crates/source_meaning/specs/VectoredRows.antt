-- Worked programs with vectored handlers.
use Rattle.std.specs.Prelude.{◌≡◌, false, true, [], ◌∷◌, pos, Some, None}
use Rattle.seh_num.specs.declared.event.Event.TheVariants as events
use Rattle.c_operations.specs.declared.operation.Size.TheVariants.{Int}
use Rattle.c_checked.specs.Expression.{Constant, Read, Indirection}
use Rattle.c_checked.specs.Statement.{Always, Funclet}
use Rattle.c_checked.specs.Program.{Program}
use Rattle.c_checked.specs.Sound.{is_sound}
use Rattle.source_meaning.specs.Short.{kept, long, lit, minus, plus, equal, int, cast, local}
use Rattle.source_meaning.specs.Short.{evaluate, put, raise, protect, add_vectored, remove_vectored}
use Rattle.source_meaning.specs.Short.{answer, except, function, with_main}
use Rattle.source_meaning.specs.Rows.{Shows, raised_event, landed_event, wrote, exit}

-- int v(unsigned c, unsigned f){ put(c == 0xE0000001); return 0; }
-- int main(void){ AddVectoredExceptionHandler(1, v); __try{ RaiseException(0xE0000001,0,0,0); }
-- __except(2){ put(3); } return 0; }
abbrev pub asked_first : Program
asked_first =
    with_main []
    (function (Int ∷ Int ∷ []) []
    (put (long (equal (local 0) (lit 0xE0000001))) ∷ answer (lit 0) ∷ []) ∷ [])
    (evaluate (add_vectored 0 1)
    ∷ except (raise 0xE0000001 0 ∷ []) (Funclet 1 (lit 2)) (put (long (Constant Int 3)) ∷ [])
    ∷ answer (lit 0) ∷ [])

abbrev pub VectoredHandlerAskedFirst : Type 0
VectoredHandlerAskedFirst =
    Shows asked_first 100
    (raised_event 0xE0000001 ∷ wrote 1 ∷ events.Filter 1 ∷ events.Answer (pos 2)
    ∷ landed_event 0xE0000001 ∷ wrote 3 ∷ [])
    (exit 0)

-- int v(unsigned c, unsigned f){ protect((void*)0x20000000,2); return -1; }
-- int main(void){ AddVectoredExceptionHandler(1, v); put(*(int*)0x20000000); return 0; }
abbrev pub continues : Program
continues =
    with_main []
    (function (Int ∷ Int ∷ []) [] (protect 0x20000000 2 ∷ answer (kept (minus 1)) ∷ []) ∷ [])
    (evaluate (add_vectored 0 1) ∷ put (long (Read (Indirection int (cast 0x20000000))))
    ∷ answer (lit 0) ∷ [])

abbrev pub VectoredHandlerContinues : Type 0
VectoredHandlerContinues =
    Shows continues 100
    (events.Raise (record { 0 = 0xC0000005 }) false (Some (false, 0x20000000)) ∷ wrote 0 ∷ [])
    (exit 0)

-- int v(unsigned c, unsigned f){ put(c == 0xC0000025); return -1 + (c == 0xC0000025); }
-- int w(unsigned c, unsigned f){ put(2); return RemoveVectoredExceptionHandler(w); }
-- int main(void){ put(AddVectoredExceptionHandler(0, v)); put(AddVectoredExceptionHandler(1, v));
-- AddVectoredExceptionHandler(0, w); __try{ RaiseException(0xE0000001,1,0,0); } __except(1){ }
-- return 0; }
abbrev pub asked_again : Program
asked_again =
    with_main []
    (function (Int ∷ Int ∷ []) []
    (put (long (equal (local 0) (lit 0xC0000025)))
    ∷ answer (kept (plus (kept (minus 1)) (kept (equal (local 0) (lit 0xC0000025))))) ∷ [])
    ∷ function (Int ∷ Int ∷ []) []
    (put (long (Constant Int 2)) ∷ answer (kept (remove_vectored 1)) ∷ []) ∷ [])
    (put (long (add_vectored 0 0)) ∷ put (long (add_vectored 0 1)) ∷ evaluate (add_vectored 1 0)
    ∷ except (raise 0xE0000001 1 ∷ []) Always [] ∷ answer (lit 0) ∷ [])

-- v is there already the second time; the noncontinuable exception that it continues is asked about
-- anew, and then w too
abbrev pub VectoredHandlerAskedAgain : Type 0
VectoredHandlerAskedAgain =
    Shows asked_again 100
    (wrote 1 ∷ wrote 0 ∷ events.Raise (record { 0 = 0xE0000001 }) true None ∷ wrote 0
    ∷ events.Raise (record { 0 = 0xC0000025 }) true None ∷ wrote 1 ∷ wrote 2
    ∷ landed_event 0xC0000025 ∷ [])
    (exit 0)

pub record VectoredRowsAreSound : Type 0 where
  pub asked_first : is_sound asked_first ≡ true
  pub continues : is_sound continues ≡ true
  pub asked_again : is_sound asked_again ≡ true
