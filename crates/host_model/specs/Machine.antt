-- Whole runs of images.
--
-- The main definitions: `run`, `machine`.
use Rattle.std.specs.Prelude.{ℕ, zero, suc, List, [], ◌++◌, ℤ, Some, None, Result, Ok, Err}
use Rattle.seh_num.specs.declared.event.Event.{Event}
use Rattle.seh_num.specs.declared.end.RunEnd.{RunEnd}
use Rattle.seh_num.specs.Shown.{Shown}
use Rattle.pe_image.specs.declared.refusal.ImageErr.{ImageErr}
use Rattle.pe_image.specs.Image.{Image}
use Rattle.pe_image.specs.Reading.{reading}
use Rattle.eh_tables.specs.Tables.{tables, or_none}
use Rattle.virtual_unwind.specs.CallerOf.{Functions, name_rows}
use Rattle.host_model.specs.declared.funclet.Funclet.{Funclet}
use Rattle.host_model.specs.Loading.{start}
use Rattle.host_model.specs.Funclets.{funclets}
use Rattle.host_model.specs.Turns.{Turn, shown_in}
use Rattle.host_model.specs.HostStep.{Host, Live, Ended, host, turn, after, end_of}

-- a run that continues by a turn, unless it has ended
abbrev pub continued_by : (Host → List Event → Shown RunEnd) → List Event → Turn
    → Shown RunEnd
continued_by rest out t = rest (after t) (out ++ shown_in t)

abbrev pub or_turn : Functions → List Funclet → (Host → List Event → Shown RunEnd) → List Event
    → Host → Shown RunEnd
or_turn t fs rest out (Ended e) = record { events = out; end = Some e }
or_turn t fs rest out (Live s) = continued_by rest out (turn t fs s)

-- at most n turns more, after what was shown
unfoldable pub run : Functions → List Funclet → ℕ → Host → List Event → Shown RunEnd
run t fs zero h out = record { events = out; end = end_of h }
run t fs (suc n) h out = or_turn t fs (run t fs n) out h

-- the function table of an image and the rows of its names, each where it is read whole
abbrev pub functions_in : Image → Functions
functions_in image =
    record {
      base = image.base;
      entries = or_none (tables image);
      rows = name_rows image;
    }

-- a run of an image from its entry point, with the argument
abbrev pub run_from : Image → ℤ → ℕ → Functions → Shown RunEnd
run_from image arg m t = run t (funclets t.entries) m (host (start image arg)) []

-- what isn't an image shows nothing, and has no end
abbrev pub machine_of : Result Image ImageErr → ℤ → ℕ → Shown RunEnd
machine_of (Ok image) arg m = run_from image arg m (functions_in image)
machine_of (Err e) arg m = record { events = []; end = None }

-- the events and the end, if there is one, after at most m turns. A state whose RIP is 0 has ended
-- with the low 32 bits of RAX.
unfoldable pub machine : List ℕ → ℤ → ℕ → Shown RunEnd
machine bytes arg m = machine_of (reading bytes) arg m
