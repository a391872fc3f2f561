-- What is said of a verdict, and why there is none.
use Rattle.std.proofs.Common.{◌≡◌, ℕ, List, Result, Ok, Err, refl, inl, inr}
use Rattle.pe_image.specs.declared.image_layout.ImageLayout.{ImageLayout}
use Rattle.pe_image.specs.declared.refusal.ImageErr.{ImageErr}
use Rattle.pe_image.specs.Image.{Image}
use Rattle.pe_image.specs.Reading.{reading_in}
use Rattle.eh_tables.specs.declared.refusal.TableErr.{TableErr}
use Rattle.eh_tables.specs.Tables.{tables}
use Rattle.image_code.specs.Verdicts.{IsImageVerdict}
use Rattle.unwind_check.specs.declared.rule.Verdict.{Verdict}
use Rattle.seh_views.specs.declared.c_types.SehVerdict.{SehVerdict}
use Rattle.seh_views.specs.declared.c_types.SehStatus.{SehStatus}
use Rattle.seh_views.specs.declared.refusal.Refusal.{Refusal}
use Rattle.seh_views.specs.declared.refusal.Refusal.TheVariants as refusals
use Rattle.seh_views.specs.Openings.{of_image, Gives, opened_whole}
use Rattle.seh_views.specs.Statuses.{ok, refusal_status}
use Rattle.seh_c.specs.Validations.{c_verdict, IsValidated, IsUnvalidated, VerdictAnswers}

-- an opening refuses no table
no_table : (r : Result Image ImageErr) (e : TableErr) → of_image r ≡ Err (refusals.Table e) → ⊥
no_table (Ok i) e h = cc
no_table (Err x) e h = cc

pub not_opened : (layout : ImageLayout) (bytes : List ℕ) (e : Refusal)
    → Gives {A = Image} (Err e) (opened_whole layout bytes) → IsUnvalidated layout bytes e
not_opened layout bytes (refusals.Table e) h = absurd (no_table (reading_in layout bytes) e h)
not_opened layout bytes refusals.NoMemory h = tt
not_opened layout bytes (refusals.Range k) h = h
not_opened layout bytes (refusals.Image e) h = h
not_opened layout bytes (refusals.Unwinding e) h = h

pub not_read : (layout : ImageLayout) (bytes : List ℕ) (image : Image) (e : TableErr)
    → opened_whole layout bytes ≡ Ok image → tables image ≡ Err e
    → IsUnvalidated layout bytes (refusals.Table e)
not_read layout bytes image e is refused = record { image = image; is = is; refused = refused }

pub validated : (layout : ImageLayout) (bytes probe : List ℕ) (image : Image) (v : Verdict)
    → opened_whole layout bytes ≡ Ok image → IsImageVerdict image probe v
    → IsValidated layout bytes probe v
validated layout bytes probe image v is comes = record { image = image; is = is; comes = comes }

pub gives_verdict : (layout : ImageLayout) (bytes probe : List ℕ) (v : Verdict)
    (old new : SehVerdict) (given : SehStatus) → IsValidated layout bytes probe v → given ≡ ok
    → new ≡ c_verdict v → VerdictAnswers layout bytes probe old new given
gives_verdict layout bytes probe v old new given is status written =
    inl (record { verdict = v; is = is; status = status; written = written })

pub gives_none : (layout : ImageLayout) (bytes probe : List ℕ) (e : Refusal)
    (old new : SehVerdict) (given : SehStatus) → IsUnvalidated layout bytes e
    → given ≡ refusal_status e → new ≡ old → VerdictAnswers layout bytes probe old new given
gives_none layout bytes probe e old new given is status kept =
    inr (record { refusal = e; is = is; status = status; kept = kept })
