-- Unwinding (Microsoft x64 ABI, "Unwind procedure"; C reference, "try-finally statement").
use Rattle.std.specs.Prelude.{ℕ, ◌+◌, Bool, true, nat_eq, List, [], ◌∷◌, ◌++◌, length, take, slice_get, Option, Some, None}
use Rattle.seh_num.specs.declared.event.Event.{Event}
use Rattle.seh_num.specs.declared.event.Event.TheVariants as events
use Rattle.linear_code.specs.declared.program.Region.{Region}
use Rattle.linear_code.specs.declared.program.RegionKind.{RegionKind}
use Rattle.linear_code.specs.declared.program.RegionKind.TheVariants as kinds
use Rattle.linear_code.specs.declared.program.FuncletKind.{FuncletKind}
use Rattle.linear_code.specs.declared.program.FuncletKind.TheVariants.{Filter, Finally}
use Rattle.linear_code.specs.Program.{LinearProgram, LinearFunclet}
use Rattle.source_meaning.specs.Expressions.{of_test, no_exception}
use Rattle.linear_machine.specs.Frames.{BodyName, FunctionBody, FuncletBody, Target, Item, Waits, Searches, Unwinds, Store, Configuration, Seen, Stuck, Next, pick, with_some, deeper, set_local}
use Rattle.linear_machine.specs.Regions.{regions_at, regions_left, stops}

-- ---- `__finally` blocks

-- the local that keeps the flag of a `__finally` block
abbrev pub flag_in : FuncletKind → Option ℕ
flag_in Filter = None
flag_in (Finally flag) = Some flag

-- the local that has the flag of a `__finally` block, if the funclet is one
abbrev pub flag_of : Option LinearFunclet → Option ℕ
flag_of None = None
flag_of (Some f) = flag_in f.kind

-- the block begins, for a frame: with its flag in the local of that, and 2 more held
abbrev pub begin_finally : ℕ → ℕ → Bool → ℕ → List Item → Configuration → Configuration
begin_finally k flag abnormal held below c = record {
  frame =
      record {
        body = FuncletBody k;
        next = 0;
        activation = c.frame.activation;
        exception = no_exception;
        held = held + 2;
        temporaries = [];
        landed = None;
      };
  below = below;
  store = set_local c.store c.frame.activation flag (of_test abnormal);
  events = c.events ++ events.Finally (k + 1) abnormal ∷ [];
}

-- a `__finally` block runs; 2 more are held while it does
abbrev pub run_finally : LinearProgram → ℕ → Bool → ℕ → List Item → Next → Configuration → Seen
run_finally program k abnormal held below next c =
    with_some c.events (flag_of (slice_get program.funclets k)) (λ flag.
    deeper 2 held c.store c.events (next (begin_finally k flag abnormal held below c)))

-- ---- the end of an unwinding

-- an `__except` block takes over, with no temporaries; a jump arrives with those that it had
abbrev pub arrive : Target → Option ℕ → Next → Configuration → Seen
arrive target None next c = next (record c { frame = record c.frame { next = target.label } })
arrive target (Some code) next c =
    next (record c {
      frame = record c.frame {
        next = target.label;
        temporaries = [];
        landed = Some code;
      };
      events = c.events ++ events.Except (record { 0 = code }) ∷ [];
    })

-- the activation of a function that is left is held
abbrev pub target_past : BodyName → Target → Target
target_past (FunctionBody f) target = record target { held = target.held + 1 }
target_past (FuncletBody k) target = target

-- the locals of a function end with it
abbrev pub left_store : BodyName → ℕ → Store → Store
left_store (FunctionBody f) activation store =
    record store { activations = take activation store.activations }
left_store (FuncletBody k) activation store = store

-- ---- an unwinding within a body: its `__finally` blocks in order, up to the unwinding's end, or
-- out of the body

-- a region is left: the block of a `__finally` runs first
abbrev pub leave_region : LinearProgram → Next → Target → RegionKind → List Region → Seen
    → Configuration → Seen
leave_region program next target (kinds.Finally k) rest further c =
    run_finally program k true target.held (Unwinds rest target ∷ Waits c.frame ∷ c.below) next c
leave_region program next target (kinds.Filter k label) rest further c = further
leave_region program next target (kinds.Always label) rest further c = further

-- the regions of a body in order, and then the items below it
abbrev pub unwind_body : LinearProgram → Next → Target → (Store → Seen) → List Region
    → Configuration → Seen
unwind_body program next target out [] c =
    pick (nat_eq target.depth (length c.below)) (arrive target target.code next c)
    (out (left_store c.frame.body c.frame.activation c.store))
unwind_body program next target out (r ∷ regions) c =
    pick (stops target r (length c.below)) (arrive target target.code next c)
    (leave_region program next target r.kind regions
    (unwind_body program next target out regions c) c)

-- an unwinding over what waits: a search that it comes to is over, and the regions that an older
-- unwinding has left aren't left again
abbrev pub unwind : LinearProgram → Next → Target → List Item → Option (List Region) → List Event
    → Store → Seen
unwind program next target [] left es store = Stuck es
unwind program next target (Waits f ∷ below) left es store =
    unwind_body program next target (λ store. unwind program next
    (target_past f.body target) below None es store)
    (regions_left left (regions_at program f.body f.next))
    (record { frame = f; below = below; store = store; events = es })
unwind program next target (Searches exception resumption asked ∷ below) left es store =
    unwind program next target below None es store
unwind program next target (Unwinds rest older ∷ below) left es store =
    unwind program next target below (Some rest) es store
