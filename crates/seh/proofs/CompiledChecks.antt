-- `check` says yes to every image that `compile` wrote.
use Rattle.std.proofs.Common.{◌≡◌, ◌⊎◌, inl, inr, ℕ, List, refl, ap, subst, ◌∙◌}
use Rattle.pe_image.specs.Image.{Image}
use Rattle.pe_write.specs.Program.{image_of}
use Rattle.unwind_check.specs.declared.rule.Verdict.{Verdict}
use Rattle.unwind_check.specs.declared.rule.Verdict.TheVariants.{Yes}
use Rattle.image_code.specs.Verdicts.{IsImageVerdict}
use Rattle.x64_emit.specs.declared.entry.TheConstants.{CHECK_STACK}
use Rattle.seh.specs.Words.{Program, resolve, lowered, linked, IsCompiled, IsProgramOf, Call, Gave, WantedMemory}
use Rattle.seh.specs.declared.status.Status.TheVariants as statuses
use Rattle.seh.specs.Checks.{verdict_line}
use Rattle.seh.specs.CompiledChecks.{CompiledImagesAreKept, CompiledVerdictsAreYes, CompiledIsKept}
use Rattle.seh.specs.Images.{entry_count}
use Rattle.seh.specs.Statuses.{verdict_status}
use Rattle.seh.proofs.Calls.{program_once, check_is_complete}
use Rattle.seh.proofs.MeantCalls.{took_its_image}
use Rattle.seh.proofs.OneVerdict.{images_have_one_verdict}

-- the image that a text's bytes are read as
abbrev image_in : (text image : List ℕ) → IsCompiled text image → Image
image_in text image compiled = image_of (linked (lowered (resolve text compiled.whole).program))

pub compiled_images_are_kept : CompiledImagesAreKept
compiled_images_are_kept text image compiled = record {
  image = image_in text image compiled;
  is = compiled.linked.read;
  comes = compiled.kept;
}

pub compiled_verdicts_are_yes : CompiledVerdictsAreYes
compiled_verdicts_are_yes text image verdict compiled is =
    images_have_one_verdict image verdict
    (Yes (entry_count (resolve text compiled.whole).program)) is
    (compiled_images_are_kept text image compiled)

-- the line of the verdict on a text's image
gave_yes : (source image : List ℕ) (p : Program) (verdict : Verdict) (call : Call)
    → (compiled : IsCompiled source image) → IsProgramOf source p
    → IsImageVerdict (image_in source image compiled) CHECK_STACK verdict
    → Gave (verdict_status verdict) (verdict_line verdict) call
    → Gave statuses.Done (verdict_line (Yes (entry_count p))) call
gave_yes source image p verdict call compiled is comes gave =
    let same : (resolve source compiled.whole).program ≡ p = program_once source
    (resolve source compiled.whole).program p
    (record {
      declarations = compiled.whole;
      checked = record { accepted = compiled.accepted; resolved = refl };
    }) is in
    let yes = compiled_verdicts_are_yes source image verdict compiled
    (record { image = image_in source image compiled; is = compiled.linked.read; comes = comes })
    ∙ ap (λ q. Yes (entry_count q)) same in
    subst (λ v. Gave (verdict_status v) (verdict_line v) call) yes gave

pub compiled_is_kept : CompiledIsKept
compiled_is_kept source image p first second short is asks done took checks =
    told (check_is_complete image (image_in source image compiled) compiled.kept.entries second
    compiled.realises.fits compiled.linked.read compiled.kept.read checks)
  where
    compiled : IsCompiled source image
    compiled = took_its_image source image p first short is asks done took

    told : WantedMemory second
        ⊎ ((verdict : Verdict)
        × IsImageVerdict (image_in source image compiled) CHECK_STACK verdict
        × Gave (verdict_status verdict) (verdict_line verdict) second)
        → WantedMemory second ⊎ Gave statuses.Done (verdict_line (Yes (entry_count p))) second
    told (inl w) = inl w
    told (inr (verdict, comes, gave)) =
        inr (gave_yes source image p verdict second compiled is comes gave)
