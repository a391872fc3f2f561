-- Rows at the edge of what counts: what locals weigh, how many vectored handlers there are at most,
-- and what a target has left.
use Rattle.std.specs.Prelude.{◌≡◌, ℕ, ◌+◌, true, false, List, [], ◌∷◌, replicate}
use Rattle.seh_num.specs.declared.event.Event.{Event}
use Rattle.seh_num.specs.declared.event.Event.TheVariants as events
use Rattle.c_operations.specs.declared.operation.Size.TheVariants.{Int}
use Rattle.c_checked.specs.Statement.{Always, If, IfElse}
use Rattle.c_checked.specs.Program.{Program, frame_surplus}
use Rattle.source_meaning.specs.declared.ended.Ended.TheVariants.{Deep}
use Rattle.source_meaning.specs.Short.{kept, lit, equal, local, evaluate, raise, walk, add_vectored, answer, except, finally, function, with_main}
use Rattle.source_meaning.specs.Rows.{raised_event, landed_event, exit}
use Rattle.vectored_list.specs.Lists.{can_be_added}
use Rattle.worked_programs.specs.LeftActivations.{with_number, with_less, BothShow}

-- ---- what locals weigh above 1

abbrev pub locals_weigh : ℕ → ℕ
locals_weigh n = frame_surplus (function [] (replicate n Int) [])

abbrev pub LocalsWeigh : Type 0
LocalsWeigh =
    (locals_weigh 256 ≡ 0) × (locals_weigh 257 ≡ 1) × (locals_weigh 1280 ≡ 1)
    × (locals_weigh 1281 ≡ 2)

-- ---- the sixteenth vectored handler, and no seventeenth

abbrev pub fifteen : List ℕ
fifteen = 1 ∷ 2 ∷ 3 ∷ 4 ∷ 5 ∷ 6 ∷ 7 ∷ 8 ∷ 9 ∷ 10 ∷ 11 ∷ 12 ∷ 13 ∷ 14 ∷ 15 ∷ []

abbrev pub HandlersAdded : Type 0
HandlersAdded =
    (can_be_added 0 [] ≡ true) × (can_be_added 16 fifteen ≡ true)
    × (can_be_added 17 (16 ∷ fifteen) ≡ false) × (can_be_added 3 fifteen ≡ false)

-- ---- a left activation that weighs 2

-- int down(int n){ int a0 .. a256; if (n) down(n - 1); else RaiseException(0xE0000001,0,0,0); }
-- int up(int n){ if (n) up(n - 1); }
-- int main(void){
--     __try{ __try{ down(248); } __finally{ up(n); } } __except(1){ }
--     return 0;
-- }
abbrev pub left_heavy : ℕ → Program
left_heavy n =
    with_main []
    (function (Int ∷ []) (replicate 257 Int)
    (IfElse (local 0) (with_less 0) (raise 0xE0000001 0) ∷ [])
    ∷ function (Int ∷ []) [] (If (local 0) (with_less 1) ∷ []) ∷ [])
    (except (finally (with_number 0 248 ∷ []) 1 (with_number 1 n ∷ []) ∷ []) Always []
    ∷ answer (lit 0) ∷ [])

-- 249 activations of `down` are left, which count 498, and with `main`'s and the block's 2 make 501
abbrev pub LeftHeavy : Type 0
LeftHeavy =
    BothShow (left_heavy 498) 12000
    (raised_event 0xE0000001 ∷ events.Finally 1 true ∷ landed_event 0xE0000001 ∷ []) (exit 0)
    × BothShow (left_heavy 499) 12000 (raised_event 0xE0000001 ∷ events.Finally 1 true ∷ [])
    (Deep 1001)

-- ---- a left vectored handler

-- int v(unsigned c, unsigned f){ if (c == 0xE0000001) RaiseException(0xE0000002,0,0,0); return 0; }
-- int up(int n){ if (n) up(n - 1); }
-- int main(void){
--     AddVectoredExceptionHandler(1, v);
--     __try{ __try{ RaiseException(0xE0000001,0,0,0); } __finally{ up(n); } } __except(1){ }
--     return 0;
-- }
abbrev pub left_handler : ℕ → Program
left_handler n =
    with_main []
    (function (Int ∷ Int ∷ []) []
    (If (kept (equal (local 0) (lit 0xE0000001))) (raise 0xE0000002 0) ∷ answer (lit 0) ∷ [])
    ∷ function (Int ∷ []) [] (If (local 0) (with_less 1) ∷ []) ∷ [])
    (evaluate (add_vectored 0 1)
    ∷ except (finally (raise 0xE0000001 0 ∷ []) 1 (with_number 1 n ∷ []) ∷ []) Always []
    ∷ answer (lit 0) ∷ [])

-- the handler that is left counts 2 beside its activation, which with `main`'s and the block's 2
-- make 6: 994 more make 1,000
abbrev pub LeftHandlerLands : Type 0
LeftHandlerLands =
    BothShow (left_handler 993) 12000
    (raised_event 0xE0000001 ∷ raised_event 0xE0000002 ∷ events.Finally 1 true
    ∷ landed_event 0xE0000002 ∷ [])
    (exit 0)

abbrev pub LeftHandlerIsDeep : Type 0
LeftHandlerIsDeep =
    BothShow (left_handler 994) 12000
    (raised_event 0xE0000001 ∷ raised_event 0xE0000002 ∷ events.Finally 1 true ∷ [])
    (Deep 1001)

-- ---- a walk in a vectored handler

-- int v(unsigned c, unsigned f){ walk(); return 0; }
-- int main(void){ AddVectoredExceptionHandler(1, v); __try{ RaiseException(0xE0000001,0,0,0); }
-- __except(1){ } return 0; }
abbrev pub walk_in_handler : Program
walk_in_handler =
    with_main []
    (function (Int ∷ Int ∷ []) [] (walk ∷ answer (lit 0) ∷ []) ∷ [])
    (evaluate (add_vectored 0 1) ∷ except (raise 0xE0000001 0 ∷ []) Always [] ∷ answer (lit 0) ∷ [])

-- v, and then main
abbrev pub WalkInHandler : Type 0
WalkInHandler =
    BothShow walk_in_handler 100
    (raised_event 0xE0000001 ∷ events.At 1 ∷ events.At 2 ∷ landed_event 0xE0000001 ∷ []) (exit 0)
