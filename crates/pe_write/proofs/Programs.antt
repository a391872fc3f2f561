-- The image of a program can be written, and is read as the image that it describes.
use Rattle.std.proofs.Common.{◌≡◌, ℕ, ◌+◌, ◌-◌, ◌^◌, ◌<◌, ◌≤◌, true, ltb, leb, Result, Ok, Err, List, [], ◌∷◌, length, take, drop, refl, sym, ap, subst, ◌∙◌, arith}
use Rattle.std.specs.Global.{Vec}
use Rattle.std.specs.Prelude.{IfOk, OnOk}
use Rattle.std.specs.declared.alloc.AllocError.{AllocError}
use Rattle.std.specs.List.{AllByRecursion}
use Rattle.std.proofs.lemmas.Bool.{and_from, lt-ltb, le-leb}
use Rattle.std.proofs.lemmas.List.{take_all}
use Rattle.std.proofs.Math.Seq.{take-append_seam}
use Rattle.pe_image.specs.Image.{Section, stores_byte, section_or, section_at, stored_in}
use Rattle.pe_image.specs.Imports.{Import, imports, or_none}
use Rattle.pe_image.specs.Imports as importing
use Rattle.pe_write.specs.ImportTables.{addresses_size, slots_offset, tables_size, import_tables}
use Rattle.pe_write.specs.NameTable.{NameRow, name_table_size, name_table_bytes}
use Rattle.pe_write.specs.Program.{ImageContents, CanBeImage, sizes_of, text_at, rdata_at, xdata_at, pdata_at, names_at, end_at, data_section, text_section, rdata_section, xdata_section, pdata_section, names_section, if_named, import_directory, exception_directory, parts_of, section_with, data_read, text_read, rdata_read, xdata_read, pdata_read, names_read, sections_of, image_of, imports_of}
use Rattle.pe_image.specs.Reading.{IsImage}
use Rattle.pe_write.specs.declared.header.TheConstants.{DATA_NAME, TEXT_NAME, RDATA_NAME, XDATA_NAME, PDATA_NAME}
use Rattle.pe_write.specs.declared.sizes.Sizes.{Sizes}
use Rattle.pe_image.specs.Numbers.{zeros}
use Rattle.pe_write.specs.Written.{SectionParts, ImageParts, IsSection, pages, placed, end_of, raw_size, raw_data, written, sections_read, image_read, CanBeWritten}
use Rattle.pe_write.proofs.Back.{raw_length, is_read, written_length}
use Rattle.pe_image.proofs.Stored.{above_holds_none}
use Rattle.pe_write.proofs.NameTables.{names_length}
use Rattle.pe_write.proofs.Tables.{tables_length, tables_read}

-- ---- the section of names, where there is one

named_end : (a b c d e : SectionParts) (rows : List NameRow) (s : SectionParts)
    → s.size ≡ name_table_size rows → end_of (a ∷ b ∷ c ∷ d ∷ e ∷ if_named rows s)
    ≡ 4096 + pages a.size + pages b.size + pages c.size + pages d.size + pages e.size
    + pages (name_table_size rows)
named_end a b c d e [] s same = omega arith
named_end a b c d e (r ∷ rs) s same = let n = ap pages same in omega arith

named_read : (rows : List NameRow) (address raw_at : ℕ) (s : SectionParts)
    → take s.size (raw_data s) ≡ s.bytes → sections_read (placed address raw_at (if_named rows s))
    ≡ if_named rows (section_with s.name address s.size s.bytes s.flags)
named_read [] address raw_at s e = refl
named_read (r ∷ rs) address raw_at s e =
    λ i. section_with s.name address s.size (e i) s.flags ∷ []

named_fit : (rows : List NameRow) (s : SectionParts) → IsSection s
    → AllByRecursion IsSection (if_named rows s)
named_fit [] s fits = tt
named_fit (r ∷ rs) s fits = (fits, tt)

named_few : (rows : List NameRow) (s : SectionParts) → length (if_named rows s) ≤ 1
named_few [] s = omega arith
named_few (r ∷ rs) s = omega arith

module _ (p : ImageContents) (fits : CanBeImage p) where
  abbrev r : ℕ
  r = rdata_at (sizes_of p)

  abbrev globals : Section
  globals = data_read p

  abbrev code : Section
  code = text_read p

  abbrev tables : Section
  tables = rdata_read p

  abbrev infos : Section
  infos = xdata_read p

  abbrev functions : Section
  functions = pdata_read p

  abbrev named : List Section
  named = if_named p.names (names_read p)

  abbrev others : List Section
  others = infos ∷ functions ∷ named

  stored_of_data : length (raw_data (data_section p)) ≤ p.data_size
  stored_of_data = let e = raw_length (data_section p) in let h = fits.stored in
      let w = fits.whole in omega arith

  -- the byte at an address is stored in this section, and in none before it
  inside : (rva : ℕ) (s : Section) → s.address ≤ rva → rva < s.address + length s.raw
      → stores_byte rva s ≡ true
  inside rva s le lt = and_from (leb s.address rva) (ltb rva (s.address + length s.raw))
      (le-leb s.address rva le) (lt-ltb rva (s.address + length s.raw) lt)

  past_code : (rva : ℕ) → r ≤ rva → section_at rva (sections_of p)
      ≡ section_at rva (tables ∷ others)
  past_code rva le =
      ap (section_or (section_at rva (code ∷ tables ∷ others)) globals)
      (above_holds_none rva globals (omega (arith, stored_of_data)))
      ∙ ap (section_or (section_at rva (tables ∷ others)) code)
      (above_holds_none rva code (omega arith))

  past_tables : (rva : ℕ) → xdata_at (sizes_of p) ≤ rva
      → section_at rva (sections_of p) ≡ section_at rva others
  past_tables rva le =
      past_code rva (omega arith)
      ∙ ap (section_or (section_at rva others) tables)
      (above_holds_none rva tables (omega (arith, tables_length p.imports r)))

  pub tables_are_at : (k : ℕ) → k < tables_size p.imports
      → stored_in (r + k) (section_at (r + k) (sections_of p))
      ≡ drop k (import_tables p.imports r)
  tables_are_at k lt =
      let back : r + k - r ≡ k = omega arith in
      ap (stored_in (r + k)) (past_code (r + k) (omega arith)
      ∙ ap (section_or (section_at (r + k) others) tables)
      (inside (r + k) tables (omega arith) (omega (arith, tables_length p.imports r))))
      ∙ ap (λ n. drop n (import_tables p.imports r)) back

  pub xdata_is_at : (k : ℕ) → k < length p.xdata
      → stored_in (xdata_at (sizes_of p) + k)
      (section_at (xdata_at (sizes_of p) + k) (sections_of p)) ≡ drop k p.xdata
  xdata_is_at k lt =
      let at = xdata_at (sizes_of p) in
      let back : at + k - at ≡ k = omega arith in
      ap (stored_in (at + k)) (past_tables (at + k) (omega arith)
      ∙ ap (section_or (section_at (at + k) (functions ∷ named)) infos)
      (inside (at + k) infos (omega arith) (omega arith)))
      ∙ ap (λ n. drop n p.xdata) back

  pub pdata_is_at : (k : ℕ) → k < length p.pdata
      → stored_in (pdata_at (sizes_of p) + k)
      (section_at (pdata_at (sizes_of p) + k) (sections_of p)) ≡ drop k p.pdata
  pdata_is_at k lt =
      let at = pdata_at (sizes_of p) in
      let back : at + k - at ≡ k = omega arith in
      ap (stored_in (at + k))
      (past_tables (at + k) (omega arith)
      ∙ ap (section_or (section_at (at + k) (functions ∷ named)) infos)
      (above_holds_none (at + k) infos (omega arith))
      ∙ ap (section_or (section_at (at + k) named) functions)
      (inside (at + k) functions (omega arith) (omega arith)))
      ∙ ap (λ n. drop n p.pdata) back

  pub imports_are : imports (image_of p) ≡ Ok (imports_of p)
  imports_are = let e = fits.end in let few = fits.imports in
      tables_read (sections_of p) p.imports r (omega arith) tables_are_at (omega arith)

  -- ---- what is read

  data_is : take p.data_size (raw_data (data_section p)) ≡ raw_data (data_section p)
  data_is = take_all p.data_size (raw_data (data_section p)) stored_of_data

  text_is : take (length p.text) (raw_data (text_section p)) ≡ p.text
  unfolding raw_data
  text_is = take-append_seam p.text (zeros (raw_size (text_section p) - length p.text))

  rdata_is : take (tables_size p.imports) (raw_data (rdata_section p)) ≡ import_tables p.imports r
  unfolding raw_data
  rdata_is =
      ap (λ n. take n (raw_data (rdata_section p))) (sym (tables_length p.imports r))
      ∙ take-append_seam (import_tables p.imports r) (zeros
      (raw_size (rdata_section p) - length (import_tables p.imports r)))

  xdata_is : take (length p.xdata) (raw_data (xdata_section p)) ≡ p.xdata
  unfolding raw_data
  xdata_is = take-append_seam p.xdata (zeros (raw_size (xdata_section p) - length p.xdata))

  pdata_is : take (length p.pdata) (raw_data (pdata_section p)) ≡ p.pdata
  unfolding raw_data
  pdata_is = take-append_seam p.pdata (zeros (raw_size (pdata_section p) - length p.pdata))

  names_is : take (name_table_size p.names) (raw_data (names_section p))
      ≡ name_table_bytes p.names (names_at (sizes_of p))
  unfolding raw_data
  names_is =
      let table = name_table_bytes p.names (names_at (sizes_of p)) in
      ap (λ n. take n (raw_data (names_section p)))
      (sym (names_length p.names (names_at (sizes_of p))))
      ∙ take-append_seam table (zeros (raw_size (names_section p) - length table))

  pub size_is : end_of (parts_of p).sections ≡ end_at (sizes_of p)
  size_is = named_end (data_section p) (text_section p) (rdata_section p) (xdata_section p)
      (pdata_section p) p.names (names_section p) refl ∙ omega arith

  pub image_is : image_read (parts_of p) ≡ image_of p
  image_is = λ i. record {
    base = 0x140000000;
    entry = text_at (sizes_of p) + p.entry;
    size = size_is i;
    sections =
        section_with DATA_NAME 0x1000 p.data_size (data_is i) 0xC0000040
        ∷ section_with TEXT_NAME (text_at (sizes_of p)) (length p.text) (text_is i) 0x60000020
        ∷ section_with RDATA_NAME r (tables_size p.imports) (rdata_is i) 0x40000040
        ∷ section_with XDATA_NAME (xdata_at (sizes_of p)) (length p.xdata) (xdata_is i) 0x40000040
        ∷ section_with PDATA_NAME (pdata_at (sizes_of p)) (length p.pdata) (pdata_is i) 0x40000040
        ∷ named_read p.names (names_at (sizes_of p)) (1024 + raw_size (data_section p)
        + raw_size (text_section p) + raw_size (rdata_section p) + raw_size (xdata_section p)
        + raw_size (pdata_section p)) (names_section p) names_is i;
    imports = import_directory p;
    exceptions = exception_directory p;
  }

  pub listed : importing.imports_of (image_of p) ≡ imports_of p
  listed = ap or_none imports_are

  -- ---- what can be written

  pub can_be_written : CanBeWritten (parts_of p)
  can_be_written =
      let e = fits.end in
      let inside = fits.entry in
      record {
        entry = omega arith;
        sections = (
          record { name = refl; flags = omega arith; stored = fits.stored },
          (
            record { name = refl; flags = omega arith; stored = omega arith },
            (
              record {
                name = refl;
                flags = omega arith;
                stored = omega (arith, tables_length p.imports r);
              },
              (
                record { name = refl; flags = omega arith; stored = omega arith },
                (
                  record { name = refl; flags = omega arith; stored = omega arith },
                  named_fit p.names (names_section p) (record {
                    name = refl;
                    flags = omega arith;
                    stored = omega (arith, names_length p.names (names_at (sizes_of p)));
                  }),
                ),
              ),
            ),
          ),
        );
        table = omega (arith, named_few p.names (names_section p));
        end = omega (arith, size_is);
        imports = (omega arith, omega arith);
        exceptions = (omega arith, omega arith);
        import_addresses = (omega arith, omega arith);
        imported = ap imports image_is ∙ imports_are ∙ ap (λ (xs : List Import). Ok xs) (sym listed)
            ∙ ap (λ i. Ok (importing.imports_of i)) (sym image_is);
      }

pub read_again : (p : ImageContents) (t : Result (Vec ℕ) AllocError) → CanBeImage p
    → OnOk t (CanBeWritten (parts_of p)) → IfOk t (λ bytes. bytes.items ≡ written (parts_of p))
    → IfOk t (λ bytes. IsImage bytes.items (image_of p))
read_again p (Ok v) is fits same = subst (IsImage v.items) (image_is p is)
    (is_read (parts_of p) (Ok v) fits same)
read_again p (Err e) is fits same = tt

pub small_file : (p : ImageContents) (t : Result (Vec ℕ) AllocError) → CanBeImage p
    → IfOk t (λ bytes. bytes.items ≡ written (parts_of p))
    → IfOk t (λ bytes. length bytes.items ≤ end_at (sizes_of p))
small_file p (Ok v) is same = let n = ap length same in
    let le = written_length (parts_of p) (can_be_written p is) in let e = size_is p is in
    omega arith
small_file p (Err e) is same = tt

pub with_imports : (p : ImageContents) (t : Result (Vec ℕ) AllocError) → CanBeImage p
    → OnOk t (imports (image_of p) ≡ Ok (imports_of p))
with_imports p (Ok v) is = imports_are p is
with_imports p (Err e) is = tt

-- ---- the same by the values that the code has

pub rdata_fits : (p : ImageContents) (s : Sizes) (n : ℕ) → CanBeImage p → s ≡ sizes_of p
    → n ≡ rdata_at s → n + tables_size p.imports < 2 ^ 32
rdata_fits p s n is e1 e2 = let e = is.end in let at : n ≡ rdata_at (sizes_of p) = e2
    ∙ ap rdata_at e1 in omega arith

pub names_fit : (p : ImageContents) (s : Sizes) (n : ℕ) → CanBeImage p → s ≡ sizes_of p
    → n ≡ names_at s → n + name_table_size p.names < 2 ^ 32
names_fit p s n is e1 e2 = let e = is.end in let at : n ≡ names_at (sizes_of p) = e2
    ∙ ap names_at e1 in omega arith

pub text_fits : (p : ImageContents) (s : Sizes) (n : ℕ) → CanBeImage p → s ≡ sizes_of p
    → n ≡ text_at s → n + p.entry < 2 ^ 32
text_fits p s n is e1 e2 = let e = is.end in let h = is.entry in
    let at : n ≡ text_at (sizes_of p) = e2 ∙ ap text_at e1 in omega arith

abbrev pub with_places : ℕ → List SectionParts → ℕ → ℕ → ℕ → ℕ → ℕ → ImageParts
with_places entry ss rdata pdata size slots addresses = record {
  entry = entry;
  sections = ss;
  imports = record { rva = rdata; size = 40 };
  exceptions = record { rva = pdata; size = size };
  import_addresses = record { rva = rdata + slots; size = addresses };
}

pub same_parts : (p : ImageContents) (s : Sizes) (n entry : ℕ) (ss : List SectionParts)
    (rdata pdata slots addresses : ℕ) → s ≡ sizes_of p → n ≡ text_at s → entry ≡ p.entry
    → ss ≡ (parts_of p).sections → rdata ≡ rdata_at s → pdata ≡ pdata_at s
    → slots ≡ slots_offset p.imports → addresses ≡ addresses_size p.imports
    → with_places (n + entry) ss rdata pdata s.pdata_size slots addresses ≡ parts_of p
same_parts p s n entry ss rdata pdata slots addresses e1 e2 e3 e4 e5 e6 e7 e8 =
    ap (λ s. with_places (n + entry) ss rdata pdata s.pdata_size slots addresses) e1
    ∙ (λ i. with_places ((e2 ∙ ap text_at e1) i + e3 i) (e4 i) ((e5 ∙ ap rdata_at e1) i)
    ((e6 ∙ ap pdata_at e1) i) (length p.pdata) (e7 i) (e8 i))

pub places_fit : (p : ImageContents) (s : Sizes) (n entry : ℕ) (ss : List SectionParts)
    (rdata pdata slots addresses : ℕ) → CanBeImage p → s ≡ sizes_of p → n ≡ text_at s
    → entry ≡ p.entry → ss ≡ (parts_of p).sections → rdata ≡ rdata_at s → pdata ≡ pdata_at s
    → slots ≡ slots_offset p.imports → addresses ≡ addresses_size p.imports
    → CanBeWritten (with_places (n + entry) ss rdata pdata s.pdata_size slots addresses)
places_fit p s n entry ss rdata pdata slots addresses is e1 e2 e3 e4 e5 e6 e7 e8 =
    subst CanBeWritten
    (sym (same_parts p s n entry ss rdata pdata slots addresses e1 e2 e3 e4 e5 e6 e7 e8))
    (can_be_written p is)
