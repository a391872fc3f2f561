-- What the checks of the headers, of the sections and of the imports say of the whole reading.
use Rattle.std.proofs.Common.{◌≡◌, ℕ, List, Result, Ok, Err, refl, ap, sym, ◌∙◌}
use Rattle.std.specs.Prelude.{IfErr}
use Rattle.pe_image.specs.declared.directory.DataDirectory.{DataDirectory}
use Rattle.pe_image.specs.declared.directory.TheConstants.{NO_TABLE}
use Rattle.pe_image.specs.declared.image_layout.ImageLayout.{ImageLayout}
use Rattle.pe_image.specs.declared.image_layout.ImageLayout.TheVariants as layouts
use Rattle.pe_image.specs.declared.refusal.ImageErr.{ImageErr}
use Rattle.pe_image.specs.declared.refusal.ImageErr.TheVariants as refusals
use Rattle.seh_num.specs.Answers.{◌>>=◌}
use Rattle.pe_image.specs.Answer.{Refuses}
use Rattle.pe_image.specs.Image.{Section, Image}
use Rattle.pe_image.specs.Imports.{Import, imports, imports_in}
use Rattle.pe_image.specs.Reading.{image_base, entry_point, image_size, directory, headers, section_count, sections_at, image_end, headers_from, all_placed, sections_of, image_with, sectioned, outline, importing, sectioned_importing, unimported, outline_alone, reading, reading_in, ImageIsRefused}

-- ---- after the headers

abbrev read_with : Result Unit ImageErr → ImageLayout → List ℕ → Result Image ImageErr
read_with checked layout bytes = (checked >>= λ _. sectioned layout bytes)
    >>= λ image. imports image >>= λ _. Ok image

abbrev alone_with : Result Unit ImageErr → ImageLayout → List ℕ → Result Image ImageErr
alone_with checked layout bytes = (checked >>= λ _. sectioned layout bytes)
    >>= λ image. Ok (unimported image)

read_is : (layout : ImageLayout) (bytes : List ℕ)
    → reading_in layout bytes ≡ read_with (headers bytes) layout bytes
unfolding reading_in
read_is layout bytes = refl

-- an image in a file
pub in_file : (bytes : List ℕ) → reading_in layouts.File bytes ≡ reading bytes
unfolding reading_in reading outline
in_file bytes = refl

alone_is : (layout : ImageLayout) (bytes : List ℕ)
    → outline_alone layout bytes ≡ alone_with (headers bytes) layout bytes
unfolding outline_alone
alone_is layout bytes = refl

abbrev found : List ℕ → Result (List Section) ImageErr → Result Image ImageErr
found bytes r = r >>= λ ss. Ok (image_with bytes ss)

imports_read : (bytes : List ℕ) (r : Result (List Section) ImageErr)
    → (found bytes r >>= importing (directory bytes 1))
    ≡ (found bytes r >>= λ image. imports image >>= λ _. Ok image)
imports_read bytes (Ok ss) = refl
imports_read bytes (Err e) = refl

none_read : (bytes : List ℕ) (r : Result (List Section) ImageErr)
    → (found bytes r >>= importing NO_TABLE) ≡ (found bytes r >>= λ image. Ok (unimported image))
none_read bytes (Ok ss) = refl
none_read bytes (Err e) = refl

-- the sections of a layout
abbrev sections_in : ImageLayout → List ℕ → Result (List Section) ImageErr
sections_in layout bytes = sections_of bytes (image_end bytes)
    (all_placed layout (headers_from bytes (section_count bytes) (sections_at bytes)))

pub whole_is : (layout : ImageLayout) (bytes : List ℕ) (d : DataDirectory) → headers bytes ≡ Ok tt
    → d ≡ directory bytes 1 → sectioned_importing d layout bytes ≡ reading_in layout bytes
whole_is layout bytes d ok at = ap (λ d. sectioned_importing d layout bytes) at
    ∙ imports_read bytes (sections_in layout bytes)
    ∙ sym (read_is layout bytes ∙ ap (λ r. read_with r layout bytes) ok)

pub outline_is : (layout : ImageLayout) (bytes : List ℕ) → headers bytes ≡ Ok tt
    → sectioned_importing NO_TABLE layout bytes ≡ outline_alone layout bytes
outline_is layout bytes ok = none_read bytes (sections_in layout bytes)
    ∙ sym (alone_is layout bytes ∙ ap (λ r. alone_with r layout bytes) ok)

-- ---- refusals

refuses : (e : ImageErr) (r : Result Image ImageErr) → r ≡ Err e → Refuses e r
refuses refusals.Memory r h = tt
refuses e r h = h

refused : (bytes : List ℕ) (e : ImageErr) → Refuses e (reading bytes) → ImageIsRefused bytes e
refused bytes refusals.Memory h = tt
refused bytes e h = h

pub all_refused : {A : Type 0} (bytes : List ℕ) (r : Result A ImageErr)
    → IfErr r (λ e. Refuses e (reading bytes)) → IfErr r (λ e. ImageIsRefused bytes e)
all_refused bytes (Ok x) h = tt
all_refused bytes (Err e) h = refused bytes e h

pub by_headers : (layout : ImageLayout) (bytes : List ℕ) (e : ImageErr) → headers bytes ≡ Err e
    → Refuses e (reading_in layout bytes)
by_headers layout bytes e h = refuses e (reading_in layout bytes)
    (read_is layout bytes ∙ ap (λ r. read_with r layout bytes) h)

pub outline_by_headers : (layout : ImageLayout) (bytes : List ℕ) (e : ImageErr)
    → headers bytes ≡ Err e → Refuses e (outline_alone layout bytes)
outline_by_headers layout bytes e h = refuses e (outline_alone layout bytes)
    (alone_is layout bytes ∙ ap (λ r. alone_with r layout bytes) h)

-- ---- the image of headers that were checked

module _ (layout : ImageLayout) (bytes : List ℕ) (d : DataDirectory) (end count at : ℕ)
    (e1 : end ≡ image_end bytes) (e2 : count ≡ section_count bytes) (e3 : at ≡ sections_at bytes)
  where
    same_sections : sections_of bytes end (all_placed layout (headers_from bytes count at))
        ≡ sections_in layout bytes
    same_sections =
        ap (λ n. sections_of bytes n (all_placed layout (headers_from bytes count at))) e1
        ∙ ap (λ n. sections_of bytes (image_end bytes) (all_placed layout
        (headers_from bytes n at))) e2
        ∙ ap (λ n. sections_of bytes (image_end bytes) (all_placed layout
        (headers_from bytes (section_count bytes) n))) e3

    pub by_sections : (e : ImageErr)
        → Refuses e (sections_of bytes end (all_placed layout (headers_from bytes count at)))
        → Refuses e (sectioned_importing d layout bytes)
    by_sections refusals.Memory h = tt
    by_sections e h = ap (λ r. found bytes r >>= importing d) (sym same_sections ∙ h)

    module _ (ss : List Section)
        (are : sections_of bytes end (all_placed layout (headers_from bytes count at)) ≡ Ok ss)
      where
        with_sections : sectioned_importing d layout bytes ≡ importing d (image_with bytes ss)
        with_sections = ap (λ r. found bytes r >>= importing d) (sym same_sections ∙ are)

        pub by_imports : (items : List Section) → items ≡ ss → (e : ImageErr)
            → Refuses e (imports_in items d) → Refuses e (sectioned_importing d layout bytes)
        by_imports items same refusals.Memory h = tt
        by_imports items same e h = with_sections
            ∙ ap (λ (r : Result (List Import) ImageErr). r
            >>= λ _. Ok (record (image_with bytes ss) { imports = d }))
            (ap (λ (t : List Section). imports_in t d) (sym same) ∙ h)

        pub is_read : (items : List Section) (xs : List Import) (base entry size : ℕ)
            (exceptions : DataDirectory) → items ≡ ss → imports_in items d ≡ Ok xs
            → base ≡ image_base bytes → entry ≡ entry_point bytes → size ≡ image_size bytes
            → exceptions ≡ directory bytes 3
            → sectioned_importing d layout bytes ≡ Ok (record {
              base = base;
              entry = entry;
              size = size;
              sections = ss;
              imports = d;
              exceptions = exceptions;
            })
        is_read items xs base entry size exceptions same h e4 e5 e6 e7 = with_sections
            ∙ ap (λ (r : Result (List Import) ImageErr). r
            >>= λ _. Ok (record (image_with bytes ss) { imports = d }))
            (ap (λ (t : List Section). imports_in t d) (sym same) ∙ h)
            ∙ λ i. Ok (record {
              base = sym e4 i;
              entry = sym e5 i;
              size = sym e6 i;
              sections = ss;
              imports = d;
              exceptions = sym e7 i;
            })
