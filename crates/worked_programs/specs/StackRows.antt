-- Worked programs with variables on the data stack: what they mean, and what their linear code
-- shows.
use Rattle.std.specs.Prelude.{◌≡◌, ℕ, ◌+◌, ◌*◌, true, false, List, [], ◌∷◌, ◌++◌, length, pos, Option}
use Rattle.std.specs.Prelude.{Some, None}
use Rattle.seh_num.specs.declared.width.Width.TheVariants.{W32}
use Rattle.seh_num.specs.declared.event.Event.{Event}
use Rattle.seh_num.specs.declared.event.Event.TheVariants as events
use Rattle.c_operations.specs.declared.operation.Size.{Size}
use Rattle.c_operations.specs.declared.operation.Size.TheVariants.{Int, Long}
use Rattle.c_operations.specs.declared.operation.Signedness.TheVariants.{Signed}
use Rattle.c_checked.specs.declared.expression.Conversion.TheVariants.{Scale}
use Rattle.c_checked.specs.declared.function.StackedParameter.{StackedParameter}
use Rattle.c_checked.specs.Expression.{Expression, On, Constant, Read, AddressOf, Assign, Call}
use Rattle.c_checked.specs.Expression.{StackedArray, Lvalue, Stacked, Indirection, Element, Done, Next}
use Rattle.c_checked.specs.Statement.{Statement, Funclet, If, Declare}
use Rattle.c_checked.specs.Program.{Program, Function}
use Rattle.c_checked.specs.Sound.{is_sound}
use Rattle.source_meaning.specs.declared.ended.Ended.{Ended}
use Rattle.source_meaning.specs.declared.ended.Ended.TheVariants.{Undefined}
use Rattle.source_meaning.specs.Meaning.{meaning}
use Rattle.source_meaning.specs.Short.{kept, long, lit, plus, subtract, equal, int, cast, local}
use Rattle.source_meaning.specs.Short.{evaluate, put, answer, except, finally, function}
use Rattle.source_meaning.specs.Rows.{ended, Shows, unfinished, landed_event, wrote, exit}
use Rattle.linear_machine.specs.Run.{linear_meaning}
use Rattle.seh_ir.specs.Lowered.{lowered}

-- within n steps, and by its linear code in 16 turns a step and 6 more
abbrev pub BothShow : Program → ℕ → List Event → Ended → Type 0
BothShow p n es e =
    Shows p n es e × (linear_meaning (lowered p) (pos 0) (16 * n + 6) ≡ ended es e)

-- ---- short forms

-- a function with so many bytes of the data stack, and the parameters that stand there; its base is
-- its last local
abbrev pub stacking : List Size → List Size → ℕ → List StackedParameter → List Statement → Function
stacking parameters locals size stacked body =
    record (function parameters (locals ++ Long ∷ []) body) {
      data_frame =
          Some (record {
            base = length parameters + length locals;
            size = size;
            parameters = stacked;
          });
    }

-- an `int` on the data stack, and the address of what stands there
abbrev pub stacked : ℕ → ℕ → Lvalue
stacked base offset = Stacked int base offset

abbrev pub above : ℕ → ℕ → Expression
above base offset = kept (AddressOf (stacked base offset))

-- an `int`, or an array of `int`s, is declared there
abbrev pub stand : ℕ → ℕ → ℕ → Option ℕ → Option Expression → Statement
stand x base offset elements value =
    Declare (record {
      local = x;
      stacked =
          Some (record { base = base; width = W32; offset = offset; elements = elements });
      value = value;
    })

-- a program whose last function is `main`
abbrev pub ending_in : List Function → Function → Program
ending_in others main =
    record { functions = others ++ main ∷ []; main = length others; globals = [] }

-- an element of an array of `int`s
abbrev pub item : ℕ → ℕ → ℕ → Lvalue
item base offset n =
    Element int (kept (StackedArray base offset)) (On (Constant Int n) (Scale Signed W32 4))

-- ---- variables

-- int main(void){ int x = 3; int *p = &x; int a[3]; *p = *p + 4; put(x); a[2] = x; put(a[0] +
-- a[2]); put((long long)p); put((long long)a); return 0; }
abbrev pub address_and_array : Program
address_and_array =
    ending_in []
    (stacking [] (Int ∷ Long ∷ Int ∷ []) 16 []
    (stand 0 3 0 None (Some (lit 3))
    ∷ Declare (record { local = 1; stacked = None; value = Some (above 3 0) })
    ∷ stand 2 3 4 (Some 3) None
    ∷ evaluate (Assign (Indirection int (local 1))
    (kept (plus (kept (Read (Indirection int (local 1)))) (lit 4))))
    ∷ put (long (Read (stacked 3 0)))
    ∷ evaluate (Assign (item 3 4 2) (kept (Read (stacked 3 0))))
    ∷ put (long (plus (kept (Read (item 3 4 0))) (kept (Read (item 3 4 2)))))
    ∷ put (local 1)
    ∷ put (kept (StackedArray 3 4))
    ∷ answer (lit 0) ∷ []))

abbrev pub AddressAndArray : Type 0
AddressAndArray =
    BothShow address_and_array 100
    (wrote 7 ∷ wrote 7 ∷ wrote 0x30000010 ∷ wrote 0x30000014 ∷ []) (exit 0)

-- int main(void){ int x = x + 1; &x; put(x); return 0; }
abbrev pub zero_first : Program
zero_first =
    ending_in []
    (stacking [] (Int ∷ []) 16 []
    (stand 0 1 0 None (Some (kept (plus (kept (Read (stacked 1 0))) (lit 1))))
    ∷ put (long (Read (stacked 1 0))) ∷ answer (lit 0) ∷ []))

abbrev pub ZeroFirst : Type 0
ZeroFirst = BothShow zero_first 100 (wrote 1 ∷ []) (exit 0)

-- int main(void){ int a[5]; return 0; }
abbrev pub array_alone : Program
array_alone =
    ending_in []
    (stacking [] (Int ∷ []) 32 [] (stand 0 1 0 (Some 5) None ∷ answer (lit 0) ∷ []))

-- its declaration is a step, and each element is one, beside the two of the return
pub record ElementsAreSteps : Type 0 where
  pub within_7 : meaning array_alone (pos 0) 7 ≡ unfinished []
  pub within_8 : BothShow array_alone 8 [] (exit 0)

-- int main(void){ return 0; }, with 8,192 bytes of the data stack
abbrev pub large_part : Program
large_part = ending_in [] (stacking [] [] 8192 [] (answer (lit 0) ∷ []))

-- its activation begins with 2 steps
pub record BytesAreSteps : Type 0 where
  pub within_3 : meaning large_part (pos 0) 3 ≡ unfinished []
  pub within_4 : BothShow large_part 4 [] (exit 0)

-- int main(void){ *(int*)0x30001000 = 5; put(*(int*)0x30001000); *(int*)0x30000008 = 1; return 0; }
abbrev pub pointer_is_reserved : Program
pointer_is_reserved =
    let free = Indirection int (cast 0x30001000) in
    ending_in []
    (function [] []
    (evaluate (Assign free (lit 5)) ∷ put (long (Read free))
    ∷ evaluate (Assign (Indirection int (cast 0x30000008)) (lit 1))
    ∷ answer (lit 0) ∷ []))

abbrev pub PointerIsReserved : Type 0
PointerIsReserved =
    BothShow pointer_is_reserved 100 (wrote 5 ∷ []) (Undefined 0x30000008)

-- ---- activations

-- int f(int n){ put((long long)&n); if (n == 0) return 0; return f(n - 1); }
-- int main(void){ f(2); f(0); return 0; }
abbrev pub parts_of_calls : Program
parts_of_calls =
    let n = kept (Read (stacked 1 0)) in
    ending_in
    (stacking (Int ∷ []) [] 16 (record { parameter = 0; width = W32; offset = 0 } ∷ [])
    (put (above 1 0) ∷ If (kept (equal n (lit 0))) (answer (lit 0))
    ∷ answer (kept (Call 0 (Next (kept (subtract n (lit 1))) Done))) ∷ []) ∷ [])
    (function [] [] (evaluate (Call 0 (Next (lit 2) Done)) ∷ evaluate (Call 0 (Next (lit 0) Done))
    ∷ answer (lit 0) ∷ []))

-- each has its own, above those that are live
abbrev pub PartsOfCalls : Type 0
PartsOfCalls =
    BothShow parts_of_calls 100
    (wrote 0x30000010 ∷ wrote 0x30000020 ∷ wrote 0x30000030
    ∷ wrote 0x30000010 ∷ []) (exit 0)

-- int g(void){ int a[4]; *(int*)0 = 1; return 0; }
abbrev pub faulting : Function
faulting =
    stacking [] (Int ∷ []) 16 []
    (stand 0 1 0 (Some 4) None ∷ evaluate (Assign (Indirection int (cast 0)) (lit 1))
    ∷ answer (lit 0) ∷ [])

-- int h(void){ int x; put((long long)&x); return 1; }
abbrev pub showing : Function
showing =
    stacking [] (Int ∷ []) 16 []
    (stand 0 1 0 None None ∷ put (above 1 0) ∷ answer (lit 1) ∷ [])

abbrev pub show_address : Statement
show_address = evaluate (Call 1 Done)

abbrev pub null_store : Event
null_store = events.Raise (record { 0 = 0xC0000005 }) false (Some (true, 0))

-- int main(void){ __try{ __try{ g(); } __finally{ h(); } } __except(h()){ h(); } h(); return 0; }
abbrev pub parts_left_by_exception : Program
parts_left_by_exception =
    ending_in (faulting ∷ showing ∷ [])
    (stacking [] [] 0 []
    (except (finally (evaluate (Call 0 Done) ∷ []) 1 (show_address ∷ []) ∷ [])
    (Funclet 2 (kept (Call 1 Done))) (show_address ∷ []) ∷ show_address ∷ answer (lit 0) ∷ []))

-- the filter's call stands above what has faulted; the blocks and what comes after them don't
abbrev pub PartsLeftByException : Type 0
PartsLeftByException =
    BothShow parts_left_by_exception 200
    (null_store ∷ events.Filter 2 ∷ wrote 0x30000020 ∷ events.Answer (pos 1)
    ∷ events.Finally 1 true ∷ wrote 0x30000010 ∷ landed_event 0xC0000005
    ∷ wrote 0x30000010 ∷ wrote 0x30000010 ∷ []) (exit 0)

pub record StackRowsAreSound : Type 0 where
  pub address_and_array : is_sound address_and_array ≡ true
  pub zero_first : is_sound zero_first ≡ true
  pub array_alone : is_sound array_alone ≡ true
  pub large_part : is_sound large_part ≡ true
  pub pointer_is_reserved : is_sound pointer_is_reserved ≡ true
  pub parts_of_calls : is_sound parts_of_calls ≡ true
  pub parts_left_by_exception : is_sound parts_left_by_exception ≡ true
