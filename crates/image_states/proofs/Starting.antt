-- The memory that a run starts with, and the load.
use Rattle.std.proofs.Common.{◌≡◌, ℕ, ◌+◌, ◌^◌, Bool, true, false, leb, List, [], ◌∷◌, Option, None, refl, ap, ◌∙◌, arith}
use Rattle.std.specs.Prelude.{option_map}
use Rattle.std.proofs.lemmas.Bool.{le-leb}
use Rattle.image_states.specs.Words.{Image, Import, ImageContents, image_of, Table, Entry, LinearProgram, linked, HasWholeImage, reason_unless, first_of, of_tables, table_refusal, has_place, place_refusal, first_unknown, import_refusal, is_code, has_entry, entry_refusal, load_refusal, ImagesStart, ImagesLoad}
use Rattle.host_layout.specs.declared.imported.ImportedService.TheVariants.{AddVectored, RemoveVectored, Walk}
use Rattle.image_link.specs.Services.{services_if, services_of, calls}
use Rattle.pe_write.specs.ImportTables.{imported, slots_at}
use Rattle.pe_write.specs.Program.{rdata_at, sizes_of}
use Rattle.image_states.proofs.Lemmas.{listed, is, tables_are_read}
use Rattle.host_model.specs.Loading.{names_refusal}
use Rattle.host_model.specs.declared.refusal.LoadErr.{LoadErr}
use Rattle.host_model.specs.declared.refusal.LoadErr.TheVariants as refusals
use Rattle.image_tables.proofs.NameRows.{names_are_read}
use Rattle.host_model.specs.Loading.{of_names}
use Rattle.image_states.proofs.Sections.{covered, above, here, past}
use Rattle.image_states.proofs.Data.{globals, text, tables, infos, functions, named, agrees, stack_writes, arena_alone, data_alone}
use Rattle.image_states.proofs.StubsPlaced.{has_program}

pub images_start : ImagesStart
images_start program c bytes = record {
  data_alone = data_alone program c bytes;
  agrees = agrees program c;
  stack = stack_writes program c;
  arena = arena_alone program c;
  code = has_program program c;
}

-- ---- the load

none_of : (t p i e n : Option LoadErr) → t ≡ None → p ≡ None → i ≡ None → e ≡ None → n ≡ None
    → first_of (t ∷ p ∷ i ∷ e ∷ n ∷ []) ≡ None
none_of t p i e n h1 h2 h3 h4 h5 = rw (h1, h2, h3, h4, h5) refl

-- each service that a program imports is one of the host's
known_by : (adds removes walks : Bool) (slot : ℕ)
    → first_unknown (imported slot (services_if adds removes walks)) ≡ None
known_by true true true slot = refl
known_by true true false slot = refl
known_by true false true slot = refl
known_by true false false slot = refl
known_by false true true slot = refl
known_by false true false slot = refl
known_by false false true slot = refl
known_by false false false slot = refl

all_known : (program : LinearProgram) (slot : ℕ)
    → first_unknown (imported slot (services_of program)) ≡ None
unfolding services_of
all_known program slot =
    known_by (calls AddVectored program) (calls RemoveVectored program) (calls Walk program) slot

module _ (program : LinearProgram) (c : HasWholeImage program) where
  abbrev p : ImageContents
  p = linked program

  abbrev image : Image
  image = image_of p

  placed : has_place image ≡ true
  placed =
      let l = c.small in
      let size : leb image.size 0x10000000 ≡ true = le-leb _ _ (omega arith) in
      let below : leb (0x140000000 + image.size) (2 ^ 47) ≡ true = le-leb _ _ (omega arith) in
      rw (size, below) refl

  known : import_refusal image ≡ None
  known = ap (λ (is : List Import). option_map refusals.Import (first_unknown is))
      (listed p (is program c.fits))
      ∙ ap (option_map refusals.Import)
      (all_known program (slots_at p.imports (rdata_at (sizes_of p))))

  entered : has_entry image ≡ true
  entered =
      let d = is program c.fits in
      let w = d.whole in
      let e = d.entry in
      ap is_code
      (past 0 image.entry (globals program c)
      (text program c ∷ tables program c ∷ infos program c ∷ functions program c
      ∷ named program c)
      (above 0 image.entry (globals program c) (omega arith))
      ∙ here 0 image.entry (text program c) (tables program c ∷ infos program c
      ∷ functions program c ∷ named program c) (covered 0 image.entry (text program c) (omega arith)
      (omega arith)))

  -- its table of names, where it has one, is read
  unnamed : names_refusal image ≡ None
  unnamed = ap of_names (names_are_read program c.fits)

  pub loads : load_refusal image ≡ None
  loads =
      none_of (table_refusal image) (place_refusal image) (import_refusal image)
      (entry_refusal image) (names_refusal image)
      (ap (λ (t : Table (List Entry)). of_tables t) (tables_are_read program c.fits c.ranges))
      (ap (λ (b : Bool). reason_unless b (refusals.Place image.base)) placed)
      known
      (ap (λ (b : Bool). reason_unless b (refusals.Entry image.entry)) entered) unnamed

pub images_load : ImagesLoad
images_load program c = loads program c
