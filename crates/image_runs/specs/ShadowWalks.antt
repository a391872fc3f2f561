-- At every turn of an image's run the walk gives the shadow.
--
-- The main definition: `WalksTheShadow`.
use Rattle.std.specs.Prelude.{◌≡◌, ℕ, ◌+◌, ◌*◌, ◌^◌, ◌<◌, ◌≤◌, true, List, [], slice_get, ℤ, pos, Some, None}
use Rattle.pe_image.specs.Image.{Image}
use Rattle.pe_image.specs.Reading.{IsImage}
use Rattle.x64_machine.specs.Effect.{State}
use Rattle.virtual_unwind.specs.CallerOf.{Functions}
use Rattle.host_model.specs.declared.funclet.Funclet.{Funclet}
use Rattle.host_model.specs.Funclets.{funclets}
use Rattle.host_model.specs.HostStep.{host}
use Rattle.host_model.specs.Loading.{start}
use Rattle.host_model.specs.Machine.{run, functions_in, machine}
use Rattle.c_checked.specs.Program.{Program}
use Rattle.c_checked.specs.Sound.{IsSound}
use Rattle.source_meaning.specs.Meaning.{Calm}
use Rattle.c_syntax.specs.Limits.{Within}
use Rattle.c_syntax.specs.Program.{ExternalDeclaration}
use Rattle.c_syntax.specs.Nodes.{nodes_of}
use Rattle.c_resolved.specs.Accepted.{Accepted}
use Rattle.linear_code.specs.Program.{LinearFunction}
use Rattle.seh_ir.specs.Lowered.{lowered}
use Rattle.lowering_follows.specs.StepsPerTurn.{steps_per_turn_of}
use Rattle.lowering_locals.specs.Reads.{ReadsNoUnset}
use Rattle.match_stack.specs.ImagePlan.{ImagePlan}
use Rattle.match_runs.specs.Shadow.{WalkGives}
use Rattle.match_runs.specs.Shadowed.{first_shadow, WalkGivesShadow}
use Rattle.match_bodies.specs.CodeSites.{Sites}
use Rattle.image_link.specs.Fits.{FitsProgram}
use Rattle.text_bounds.specs.StepsPerTurnLaws.{steps_per_turn_in, program_of}
use Rattle.image_runs.specs.SoundImages.{IsLinkable, IsSoundImage}
use Rattle.image_runs.specs.MainStart.{MainBegins}
use Rattle.image_runs.specs.ImageMeaning.{IsImageOf}

-- the bytes are an image; after m turns of its run the walk gives exactly the shadow, entry by
-- entry, and then RIP 0
pub record WalksTheShadow (bytes : List ℕ) (arg : ℤ) (m : ℕ) : Type 0 where
  pub image : Image
  pub is : IsImage bytes image
  pub gives : WalkGivesShadow (functions_in image) (funclets (functions_in image).entries) m
      (start image arg) (first_shadow (start image arg))

-- ---- what is claimed

-- where it does so at the first byte of `main`, as long as (m + 1) * K steps of the program are
-- calm
abbrev pub ImagesWalkTheShadow : Type 0
ImagesWalkTheShadow =
    (t : Functions) (fs : List Funclet) (program : Program) (p : ImagePlan) (q : Sites)
    → IsSound program → ReadsNoUnset (lowered program) → IsSoundImage t fs (lowered program) p q
    → (arg : ℤ) (main : LinearFunction) (s : State)
    → slice_get (lowered program).functions (lowered program).main ≡ Some main
    → MainBegins t fs (lowered program) p q arg main s
    → WalkGives t s (first_shadow s) → (m n : ℕ) → (m + 1) * steps_per_turn_of program ≤ n
    → Calm program arg n ≡ true
    → (run t fs m (host s) []).end ≡ None → WalkGivesShadow t fs m s (first_shadow s)

-- in the run of the image that a sound program is linked to
abbrev pub CompiledWalkTheShadow : Type 0
CompiledWalkTheShadow =
    (program : Program) → IsLinkable program → ReadsNoUnset (lowered program) → (bytes : List ℕ)
    → IsImageOf bytes program
    → (arg m n : ℕ) → arg < 2 ^ 63 → (m + 1) * steps_per_turn_of program ≤ n → Calm program
    (pos arg) n ≡ true
    → (machine bytes (pos arg) m).end ≡ None → WalksTheShadow bytes (pos arg) m

-- and of every accepted text within the limits, of at most L nodes, that is calm within (m + 1) (8
-- L + 256) steps
abbrev pub AcceptedWalkTheShadow : Type 0
AcceptedWalkTheShadow =
    (text : List ℕ) (xs : List ExternalDeclaration) (bytes : List ℕ) → Within text xs
    → Accepted text xs → FitsProgram (lowered (program_of text xs))
    → IsImageOf bytes (program_of text xs) → (most : ℕ) → nodes_of xs ≤ most
    → (arg m n : ℕ) → arg < 2 ^ 63 → (m + 1) * steps_per_turn_in most ≤ n
    → Calm (program_of text xs) (pos arg) n ≡ true
    → (machine bytes (pos arg) m).end ≡ None → WalksTheShadow bytes (pos arg) m
