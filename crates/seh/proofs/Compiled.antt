-- The image of a text, by the program that the text is.
use Rattle.std.proofs.Common.{◌≡◌, ◌≤◌, ℕ, true, false, Bool, List, [], ◌∷◌, length, Option, Some, None, refl, sym, subst, arith}
use Rattle.image_runs.proofs.TextImages.{realise, nothing_more}
use Rattle.image_runs.proofs.FrameCallers.{lowered_finds_callers}
use Rattle.image_runs.proofs.ShadowWalks.{accepted_walk_the_shadow}
use Rattle.seh.specs.Words.{Program, resolve, ExternalDeclaration, IsAccepted, IsCheckedAs, linked, IsCompiled, lowered}
use Rattle.c_syntax.specs.Nodes.{nodes_of}
use Rattle.c_lex.proofs.Covering.{few_tokens}
use Rattle.c_syntax.proofs.NodesOfPrograms as nodes
use Rattle.c_resolved.proofs.SoundPrograms.{accepted_is_sound}
use Rattle.text_bounds.proofs.CodeFits.{texts_fit}
use Rattle.image_runs.specs.ImageMeaning.{IsImageOf}
use Rattle.image_tables.proofs.RegionRanges.{lowered_has_regions}
use Rattle.image_tables.proofs.TryRows.{lowered_is_shaped}
use Rattle.image_link.specs.Fits.{FitsProgram}
use Rattle.image_tables.proofs.Table.{tables_are_read}
use Rattle.pe_image.specs.Image.{Image}
use Rattle.pe_image.specs.Reading.{reading}
use Rattle.pe_write.specs.Program.{image_of}
use Rattle.host_model.specs.declared.refusal.LoadErr.{LoadErr}
use Rattle.host_model.specs.declared.refusal.LoadErr.TheVariants as loads
use Rattle.host_model.specs.Loading.{reason_unless, first_of, table_refusal, has_place, place_refusal, import_refusal, entry_refusal, names_refusal, load_refusal}
use Rattle.image_code.proofs.ImageBounds.{IsBounded, bounded}
use Rattle.image_runs.specs.ImageMeaning.{Realises}
use Rattle.seh.specs.Images.{IsKeptByCode}
use Rattle.seh.proofs.CompiledEntries.{verdict_is_yes}
use Rattle.text_routines.proofs.TextPieces.{uncovered_code_is_frameless}
use Rattle.seh.proofs.FrameSizes.{frames_are_small}
use Rattle.seh.proofs.Completeness.{one_image}

-- ---- by linear code

-- an image that loads has a place
second_none : (t p : Option LoadErr) (os : List (Option LoadErr)) → first_of (t ∷ p ∷ os) ≡ None
    → p ≡ None
second_none None None os h = refl
second_none None (Some e) os h = h
second_none (Some e) p os h = absurd cc

no_reason : (b : Bool) (e : LoadErr) → reason_unless b e ≡ None → b ≡ true
no_reason true e h = refl
no_reason false e h = absurd cc

pub placed : (image : Image) → load_refusal image ≡ None → has_place image ≡ true
placed image h = no_reason (has_place image) (loads.Place image.base)
    (second_none (table_refusal image) (place_refusal image)
    (import_refusal image ∷ entry_refusal image ∷ names_refusal image ∷ []) h)

-- an image that is loaded is within bounds
image_bounded : (bytes : List ℕ) (p : Program) → IsImageOf bytes p → Realises bytes p
    → IsBounded (image_of (linked (lowered p)))
image_bounded bytes p link real =
    let image = image_of (linked (lowered p)) in
    let same = one_image (reading bytes) real.image image real.is link.read in
    let loaded = subst (λ (i : Image). load_refusal i ≡ None) same real.loads in
    bounded bytes image link.read (placed image loaded)

-- each entry of the image is kept
kept_by_code : (bytes : List ℕ) (p : Program) → FitsProgram (lowered p) → IsImageOf bytes p
    → Realises bytes p → IsKeptByCode p
kept_by_code bytes p fits link real =
    verdict_is_yes (lowered p) fits (lowered_has_regions p) (image_bounded bytes p link real)

-- ---- of accepted texts

-- a program has no more nodes than its text has bytes
few : (text : List ℕ) (whole : List ExternalDeclaration) → IsAccepted text whole
    → nodes_of whole ≤ length text
few text whole a =
    let tokens = few_tokens text a.read.tokens a.read.lexed in
    let count = nodes.program text whole a.read.tokens a.read.derives in
    omega arith

-- each is within the limits of linking
pub accepted_fits : (text : List ℕ) (whole : List ExternalDeclaration) (p : Program)
    → length text ≤ 1048576 → IsCheckedAs text whole p → FitsProgram (lowered p)
accepted_fits text whole p short checked =
    let a = checked.accepted in
    subst (λ (r : Program). FitsProgram (lowered r)) (sym checked.resolved)
    (texts_fit text a.read.tokens whole a.read.lexed a.read.derives a.read.within a.rules short)

pub of_checked : (text image : List ℕ) (whole : List ExternalDeclaration) (p : Program)
    → length text ≤ 1048576 → IsCheckedAs text whole p → IsImageOf image p → IsCompiled text image
of_checked text image whole p short checked link =
    let a = checked.accepted in
    let w : IsImageOf image (resolve text whole).program = subst
    (λ (r : Program). IsImageOf image r) checked.resolved link in
    let fits = texts_fit text a.read.tokens whole a.read.lexed a.read.derives a.read.within a.rules
    short in
    let sound = accepted_is_sound text whole a.read.within a.rules in
    let real = realise text whole image a.read.within a.rules fits w in
    record {
      whole = whole;
      accepted = a;
      linked = w;
      table = record {
        read = tables_are_read (lowered (resolve text whole).program) fits
            (lowered_has_regions (resolve text whole).program);
        shape = lowered_is_shaped (resolve text whole).program sound fits;
      };
      kept = kept_by_code image (resolve text whole).program fits w real;
      outside = uncovered_code_is_frameless (lowered (resolve text whole).program) fits
          (lowered_has_regions (resolve text whole).program)
          (image_bounded image (resolve text whole).program w real);
      sizes = frames_are_small (resolve text whole).program fits;
      realises = real;
      no_more = nothing_more text whole image a.read.within a.rules fits w (length text)
          (few text whole a);
      frames = lowered_finds_callers (resolve text whole).program fits;
      walks = accepted_walk_the_shadow text whole image a.read.within a.rules fits w (length text)
          (few text whole a);
    }
