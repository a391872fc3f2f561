-- A walk as a whole: the control address of each of its frames, and the numbers of the functions
-- that have their code there.
--
-- The main definitions: `controls`, `number_at`.
use Rattle.std.specs.Prelude.{ℕ, zero, suc, List, [], ◌∷◌, option_map, Option, Some, None}
use Rattle.flat_memory.specs.Memory.{Memory}
use Rattle.pe_image.specs.NameRows.{row_holding}
use Rattle.virtual_unwind.specs.CallerOf.{Functions, distance}
use Rattle.seh_walk.specs.declared.stop_cause.StopCause.{StopCause}
use Rattle.seh_walk.specs.declared.walk.WalkState.{WalkState}
use Rattle.seh_walk.specs.Walk.{Visited, Over, Past, Frame, Broken, visited}

-- the control addresses of a walk's frames, the innermost first, and what stops it, if anything
pub record Controls : Type 0 where
  pub addresses : List ℕ
  pub stop : Option StopCause

abbrev pub no_more : Option StopCause → Controls
no_more stop = record { addresses = []; stop = stop }

abbrev pub with_address : ℕ → Controls → Controls
with_address address x = record x { addresses = address ∷ x.addresses }

-- a frame's control address is RIP there
abbrev pub controls_from : (WalkState → Controls) → WalkState → Visited → Controls
controls_from rest w Over = no_more None
controls_from rest w (Past u) = rest u
controls_from rest w (Frame f u) = with_address w.context.rip (rest u)
controls_from rest w (Broken y) = no_more (Some y)

-- the control address of each frame of a walk, its RIP, the innermost first, and what stops the
-- walk
unfoldable pub controls : ℕ → Functions → Memory → WalkState → Controls
controls zero t m w = no_more None
controls (suc n) t m w = controls_from (controls n t m) w (visited t m w)

-- the number of the function whose code holds an address, if a row of the image's names says so
abbrev pub number_at : Functions → ℕ → Option ℕ
number_at t address = option_map (λ r. r.number) (row_holding (distance t.base address) t.rows)
