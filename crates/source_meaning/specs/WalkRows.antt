-- Worked programs that show their live activations.
use Rattle.std.specs.Prelude.{◌≡◌, true, [], ◌∷◌, pos}
use Rattle.seh_num.specs.declared.event.Event.TheVariants as events
use Rattle.c_checked.specs.Expression.{Call, Done}
use Rattle.c_checked.specs.Statement.{Funclet}
use Rattle.c_checked.specs.Program.{Program}
use Rattle.c_checked.specs.Sound.{is_sound}
use Rattle.source_meaning.specs.Short.{kept, lit, evaluate, raise, walk, answer, except, finally}
use Rattle.source_meaning.specs.Short.{function, with_main}
use Rattle.source_meaning.specs.Rows.{Shows, raised_event, landed_event, exit}

-- void g(void){ walk(); RaiseException(0xE0000001,0,0,0); } int f(void){ walk(); return 1; }
-- int main(void){ __try{ g(); } __except(f()){ walk(); } return 0; }
abbrev pub walk_in_filter : Program
walk_in_filter =
    with_main []
    (function [] [] (walk ∷ raise 0xE0000001 0 ∷ [])
    ∷ function [] [] (walk ∷ answer (lit 1) ∷ []) ∷ [])
    (except (evaluate (Call 0 Done) ∷ []) (Funclet 1 (kept (Call 1 Done))) (walk ∷ [])
    ∷ answer (lit 0) ∷ [])

-- g and main; in the filter f, g and main; in the block main alone
abbrev pub WalkInFilter : Type 0
WalkInFilter =
    Shows walk_in_filter 100
    (events.At 1 ∷ events.At 3 ∷ raised_event 0xE0000001 ∷ events.Filter 1 ∷ events.At 2
    ∷ events.At 1 ∷ events.At 3 ∷ events.Answer (pos 1) ∷ landed_event 0xE0000001 ∷ events.At 3
    ∷ [])
    (exit 0)

-- void g(void){ RaiseException(0xE0000001,0,0,0); } int q(void){ walk(); return 1; }
-- void h(void){ __try{ g(); } __finally{ RaiseException(0xE0000002,0,0,0); } }
-- int main(void){ __try{ h(); } __except(q()){ } return 0; }
abbrev pub walk_after_collision : Program
walk_after_collision =
    with_main []
    (function [] [] (raise 0xE0000001 0 ∷ [])
    ∷ function [] [] (walk ∷ answer (lit 1) ∷ [])
    ∷ function [] [] (finally (evaluate (Call 0 Done) ∷ []) 1 (raise 0xE0000002 0 ∷ []) ∷ []) ∷ [])
    (except (evaluate (Call 2 Done) ∷ []) (Funclet 2 (kept (Call 1 Done))) [] ∷ answer (lit 0) ∷ [])

-- the first time q, g, h and main; when the unwinding has left g, q, h and main
abbrev pub WalkAfterCollision : Type 0
WalkAfterCollision =
    Shows walk_after_collision 100
    (raised_event 0xE0000001 ∷ events.Filter 2 ∷ events.At 2 ∷ events.At 1 ∷ events.At 3
    ∷ events.At 4 ∷ events.Answer (pos 1) ∷ events.Finally 1 true ∷ raised_event 0xE0000002
    ∷ events.Filter 2 ∷ events.At 2 ∷ events.At 3 ∷ events.At 4 ∷ events.Answer (pos 1)
    ∷ landed_event 0xE0000002 ∷ [])
    (exit 0)

pub record WalkRowsAreSound : Type 0 where
  pub walk_in_filter : is_sound walk_in_filter ≡ true
  pub walk_after_collision : is_sound walk_after_collision ≡ true
