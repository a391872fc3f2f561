-- An image that does what a program means.
--
-- The main definitions: `Realises`, `ShowsNothingMore`, `IsImageOf`.
use Rattle.std.specs.Prelude.{◌≡◌, ℕ, zero, suc, ◌+◌, ◌*◌, ◌^◌, ◌<◌, ◌≤◌, true, List, length, pos, slice_get, option_map, Option, None}
use Rattle.std.specs.List.{AllByRecursion}
use Rattle.host_layout.specs.declared.limit.TheConstants.{MOST_IMAGE}
use Rattle.pe_image.specs.Image.{Image}
use Rattle.pe_image.specs.NameRows.{function_name}
use Rattle.pe_image.specs.Reading.{IsImage}
use Rattle.pe_write.specs.Program.{parts_of, image_of}
use Rattle.pe_write.specs.Written.{written}
use Rattle.host_model.specs.Loading.{load_refusal}
use Rattle.host_model.specs.Laws.{Covers}
use Rattle.host_model.specs.Machine.{machine}
use Rattle.c_checked.specs.Program.{Program}
use Rattle.source_meaning.specs.Meaning.{meaning, Calm}
use Rattle.seh_ir.specs.Lowered.{lowered}
use Rattle.lowering_follows.specs.StepsPerTurn.{steps_per_turn_of}
use Rattle.lowering_locals.specs.Reads.{ReadsNoUnset}
use Rattle.match_runs.specs.Ends.{run_end_of}
use Rattle.match_runs.specs.Laws.{ShowsNoMore}
use Rattle.image_link.specs.Linked.{linked}
use Rattle.image_link.specs.Services.{calls_walk}
use Rattle.image_runs.specs.SoundImages.{IsLinkable}

-- the name of the function of a number, from 1 on in the order of the program's text
abbrev pub name_in : Program → ℕ → Option (List ℕ)
name_in program zero = None
name_in program (suc k) = option_map (λ f. f.name) (slice_get program.functions k)

-- where the program calls `walk`, the number of each function has the function's name in the image,
-- and no other number has one
abbrev pub NamesFunctions : Image → Program → Type 0
NamesFunctions image program =
    calls_walk (lowered program) ≡ true → (number : ℕ)
    → function_name image number ≡ name_in program number

-- the bytes are an image of at most 256 MiB that loads. For every argument and every n, what the
-- program shows within n steps the image shows in at most 256 n + 256 turns: its events are the
-- first events of the run, and where the program ends within n steps the run has ended in the same
-- way with no other event. A program that calls `walk` has its functions' names in it.
pub record Realises (bytes : List ℕ) (program : Program) : Type 0 where
  pub image : Image
  pub is : IsImage bytes image
  pub fits : length bytes ≤ MOST_IMAGE
  pub loads : load_refusal image ≡ None
  pub shows :
      (arg n : ℕ) → arg < 2 ^ 63
      → Covers (meaning program (pos arg) n).events (run_end_of (meaning program (pos arg) n).end)
      (machine bytes (pos arg) (256 * n + 256))
  pub names : NamesFunctions image program

-- in m turns it shows no more than the program shows within (m + 1) * K steps, where these are
-- calm, and ends only as they end
abbrev pub ShowsNothingMore : List ℕ → Program → Type 0
ShowsNothingMore bytes program =
    (arg m n : ℕ) → arg < 2 ^ 63 → (m + 1) * steps_per_turn_of program ≤ n → Calm program (pos arg)
    n ≡ true
    → ShowsNoMore (meaning program (pos arg) n) (machine bytes (pos arg) m)

-- the bytes are those of the image that the program's linear code is linked to, and are read again
-- as it
pub record IsImageOf (bytes : List ℕ) (program : Program) : Type 0 where
  pub octets : AllByRecursion (λ b. b < 256) bytes
  pub written : bytes ≡ written (parts_of (linked (lowered program)))
  pub read : IsImage bytes (image_of (linked (lowered program)))

-- a written image shows what its program means
abbrev pub CompiledRealise : Type 0
CompiledRealise =
    (program : Program) → IsLinkable program → ReadsNoUnset (lowered program) → (bytes : List ℕ)
    → IsImageOf bytes program → Realises bytes program

-- a written image shows nothing more
abbrev pub CompiledShowNothingMore : Type 0
CompiledShowNothingMore =
    (program : Program) → IsLinkable program → ReadsNoUnset (lowered program) → (bytes : List ℕ)
    → IsImageOf bytes program → ShowsNothingMore bytes program
