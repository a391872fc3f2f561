-- What a host means.
--
-- The main definition: `event_count`.
use Rattle.std.specs.Prelude.{ℕ, List, [], ℤ, Option}
use Rattle.virtual_unwind.specs.CallerOf.{Functions, functions_of}
use Rattle.x64_memory.specs.PageMaps.{memory_of}
use Rattle.seh_dispatch.specs.TurnEnds.{left}
use Rattle.seh_host.specs.declared.host.Host as code
use Rattle.seh_host.specs.Names.{named_by}
use Rattle.host_model.specs.declared.funclet.Funclet.{Funclet}
use Rattle.host_model.specs.HostStep.{Host, host, next, shown_next}
use Rattle.seh_num.specs.declared.event.Event.{Event}
use Rattle.seh_num.specs.Shown.{Shown}
use Rattle.seh_num.specs.declared.end.RunEnd.{RunEnd}
use Rattle.host_model.specs.Machine.{run, functions_in}
use Rattle.host_model.specs.Laws.{after_turns, shown_in_turns}
use Rattle.host_model.specs.Funclets.{funclets}
use Rattle.host_model.specs.Loading.{start}
use Rattle.pe_image.specs.Image.{Image}

-- a run's function table and funclets, which stay as they are, and its host
pub record Running : Type 0 where
  pub functions : Functions
  pub funclets : List Funclet
  pub host : Host

abbrev pub running_of : code.Host → Running
running_of h =
    record {
      functions = functions_of h.tables;
      funclets = h.funclets.items;
      host = left h.machine (memory_of h.space) h.end;
    }

abbrev pub after_turn : Running → Running
after_turn r = record r { host = next r.functions r.funclets r.host }

abbrev pub shown_of : Running → List Event
shown_of r = shown_next r.functions r.funclets r.host

-- the names by which a run's events are written
abbrev pub run_names : Running → ℕ → Option (List ℕ)
run_names r = named_by r.functions.rows

-- the image that a host keeps
abbrev pub image_of : code.Host → Image
image_of h = h.tables.image

-- how many events a host has counted. A turn adds what it shows, up to 2^64 - 1 (`HasCount`, crate
-- `seh_io`)
abbrev pub event_count : code.Host → ℕ
event_count h = h.events

-- after so many turns, and what they show
abbrev pub made : ℕ → Running → Running
made n r = record r { host = after_turns r.functions r.funclets n r.host }

abbrev pub shown_made : ℕ → Running → List Event
shown_made n r = shown_in_turns r.functions r.funclets n r.host

-- what is shown in at most so many turns
abbrev pub run_of : ℕ → Running → Shown RunEnd
run_of turns r = run r.functions r.funclets turns r.host []

-- where a run of an image begins
abbrev pub first_running : Image → ℤ → Running
first_running image arg =
    record {
      functions = functions_in image;
      funclets = funclets (functions_in image).entries;
      host = host (start image arg);
    }
