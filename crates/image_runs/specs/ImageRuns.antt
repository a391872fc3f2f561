-- What the image that a sound program is linked to shows when it is run.
use Rattle.std.specs.Prelude.{◌≡◌, ℕ, ◌+◌, ◌*◌, ◌≤◌, true, List, ℤ}
use Rattle.pe_image.specs.Reading.{IsImage}
use Rattle.pe_write.specs.Program.{image_of}
use Rattle.host_model.specs.Machine.{machine}
use Rattle.c_checked.specs.Program.{Program}
use Rattle.source_meaning.specs.Meaning.{meaning, Calm}
use Rattle.seh_ir.specs.Lowered.{lowered}
use Rattle.lowering_follows.specs.StepsPerTurn.{steps_per_turn_of}
use Rattle.lowering_locals.specs.Reads.{ReadsNoUnset}
use Rattle.match_runs.specs.Laws.{ShowsAll, ShowsNoMore}
use Rattle.image_link.specs.Linked.{linked}
use Rattle.image_states.specs.StartLaws.{HasBytes}
use Rattle.image_runs.specs.SoundImages.{IsLinkable}

-- in 256 n + 256 turns the image shows what the program shows within n steps, and has ended as it
-- ends
abbrev pub LinkedImagesShowAll : Type 0
LinkedImagesShowAll =
    (program : Program) → IsLinkable program → ReadsNoUnset (lowered program)
    → (bytes : List ℕ) → IsImage bytes (image_of (linked (lowered program)))
    → HasBytes (lowered program) → (arg : ℤ) (n : ℕ)
    → ShowsAll (meaning program arg n) (machine bytes arg (256 * n + 256))

-- in m turns it shows no more than (m + 1) * K steps show, where these are calm, and ends only as
-- they end
abbrev pub LinkedImagesShowNoMore : Type 0
LinkedImagesShowNoMore =
    (program : Program) → IsLinkable program → ReadsNoUnset (lowered program)
    → (bytes : List ℕ) → IsImage bytes (image_of (linked (lowered program)))
    → HasBytes (lowered program) → (arg : ℤ) (m n : ℕ) → (m + 1) * steps_per_turn_of program ≤ n
    → Calm program arg n ≡ true
    → ShowsNoMore (meaning program arg n) (machine bytes arg m)
