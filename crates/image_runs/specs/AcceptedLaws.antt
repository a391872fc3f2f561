-- What is claimed of the images of accepted texts.
use Rattle.std.specs.Prelude.{◌≡◌, ℕ, ◌+◌, ◌*◌, ◌^◌, ◌<◌, ◌≤◌, true, List, pos}
use Rattle.c_syntax.specs.Limits.{Within}
use Rattle.c_syntax.specs.Program.{ExternalDeclaration}
use Rattle.c_syntax.specs.Nodes.{nodes_of}
use Rattle.c_resolved.specs.Accepted.{Accepted}
use Rattle.source_meaning.specs.Meaning.{meaning, Calm}
use Rattle.host_model.specs.Machine.{machine}
use Rattle.seh_ir.specs.Lowered.{lowered}
use Rattle.text_bounds.specs.StepsPerTurnLaws.{steps_per_turn_in, program_of}
use Rattle.lowering_locals.specs.Reads.{ReadsNoUnset}
use Rattle.match_runs.specs.Laws.{ShowsNoMore}
use Rattle.image_link.specs.Fits.{FitsProgram}
use Rattle.image_runs.specs.ImageMeaning.{Realises, IsImageOf}

-- linear code of an accepted text reads no local that isn't set
abbrev pub AcceptedReadsNoUnset : Type 0
AcceptedReadsNoUnset =
    (text : List ℕ) (xs : List ExternalDeclaration) → Within text xs → Accepted text xs
    → ReadsNoUnset (lowered (program_of text xs))

-- the image of a text within the limits, where its linear code is within those of linking
abbrev pub AcceptedRealise : Type 0
AcceptedRealise =
    (text : List ℕ) (xs : List ExternalDeclaration) (bytes : List ℕ) → Within text xs
    → Accepted text xs → FitsProgram (lowered (program_of text xs))
    → IsImageOf bytes (program_of text xs) → Realises bytes (program_of text xs)

-- in m turns it shows no more than the text shows within (m + 1) (8 L + 256) steps, where these are
-- calm, for a text of at most L nodes, and ends only as it ends
abbrev pub AcceptedShowNothingMore : Type 0
AcceptedShowNothingMore =
    (text : List ℕ) (xs : List ExternalDeclaration) (bytes : List ℕ) → Within text xs
    → Accepted text xs → FitsProgram (lowered (program_of text xs))
    → IsImageOf bytes (program_of text xs) → (most : ℕ) → nodes_of xs ≤ most
    → (arg m n : ℕ) → arg < 2 ^ 63 → (m + 1) * steps_per_turn_in most ≤ n
    → Calm (program_of text xs) (pos arg) n ≡ true
    → ShowsNoMore (meaning (program_of text xs) (pos arg) n) (machine bytes (pos arg) m)
