-- The headers that are written, read again.
use Rattle.std.proofs.Common.{◌≡◌, ℕ, ◌+◌, ◌*◌, ◌≤◌, Bool, true, if◌then◌else◌, nat_lt, leb, List, ◌++◌, length, Ok, refl, ap, ◌∙◌, arith}
use Rattle.std.proofs.lemmas.Bool.{and_from, le-leb, eq-eqb}
use Rattle.pe_write.proofs.Rows.{four_is}
use Rattle.pe_image.specs.declared.refusal.ImageErr.{ImageErr}
use Rattle.pe_image.specs.declared.refusal.ImageErr.TheVariants as refusals
use Rattle.seh_num.specs.Answers.{◌>>=◌, unless}
use Rattle.pe_image.specs.Field.{field}
use Rattle.pe_image.specs.Reading.{headers, signature_at, machine, section_count, optional_size, optional_at, magic, entry_point, image_base, image_size, directory_count, directories_at, sections_at, directory}
use Rattle.pe_image.specs.Numbers.{u16, u32, u64, zeros}
use Rattle.pe_write.specs.Written.{ImageParts, end_of, dos_header, file_header, standard_fields, windows_fields, directory_entry, directories, CanBeWritten}

-- ---- the headers in front of it

abbrev pub front_of : ImageParts → List ℕ
front_of image = dos_header ++ file_header image ++ standard_fields image ++ windows_fields image
    ++ directories image

pub front_length : (image : ImageParts) → length (front_of image) ≡ 328
unfolding dos_header file_header standard_fields windows_fields directories directory_entry u16 u32
    u64 zeros
front_length image = refl

module _ (image : ImageParts) (fits : CanBeWritten image) (rest : List ℕ) where
  abbrev bytes : List ℕ
  bytes = front_of image ++ rest

  mark_there : field 2 bytes 0 ≡ 0x5A4D
  unfolding dos_header file_header standard_fields windows_fields directories directory_entry u16
      u32 u64 zeros
  mark_there = refl

  signature_there : signature_at bytes ≡ 64
  unfolding dos_header file_header standard_fields windows_fields directories directory_entry u16
      u32 u64 zeros
  signature_there = refl

  pe_there : field 4 bytes 64 ≡ 0x4550
  unfolding dos_header file_header standard_fields windows_fields directories directory_entry u16
      u32 u64 zeros
  pe_there = refl

  machine_there : field 2 bytes 68 ≡ 0x8664
  unfolding dos_header file_header standard_fields windows_fields directories directory_entry u16
      u32 u64 zeros
  machine_there = refl

  count_there : field 2 bytes 70 ≡ length image.sections
  unfolding dos_header file_header standard_fields windows_fields directories directory_entry u16
      u32 u64 zeros
  count_there = let h = fits.table in omega arith

  optional_size_there : field 2 bytes 84 ≡ 240
  unfolding dos_header file_header standard_fields windows_fields directories directory_entry u16
      u32 u64 zeros
  optional_size_there = refl

  magic_there : field 2 bytes 88 ≡ 0x20B
  unfolding dos_header file_header standard_fields windows_fields directories directory_entry u16
      u32 u64 zeros
  magic_there = refl

  entry_there : field 4 bytes 104 ≡ image.entry
  unfolding dos_header file_header standard_fields windows_fields directories directory_entry u16
      u32 u64 zeros
  entry_there = four_is image.entry fits.entry

  base_there : field 8 bytes 112 ≡ 0x140000000
  unfolding dos_header file_header standard_fields windows_fields directories directory_entry u16
      u32 u64 zeros
  base_there = refl

  end_there : field 4 bytes 144 ≡ end_of image.sections
  unfolding dos_header file_header standard_fields windows_fields directories directory_entry u16
      u32 u64 zeros
  end_there = four_is (end_of image.sections) fits.end

  directory_count_there : field 4 bytes 196 ≡ 16
  unfolding dos_header file_header standard_fields windows_fields directories directory_entry u16
      u32 u64 zeros
  directory_count_there = refl

  imports_there : field 4 bytes 208 ≡ image.imports.rva × field 4 bytes 212 ≡ image.imports.size
  unfolding dos_header file_header standard_fields windows_fields directories directory_entry u16
      u32 u64 zeros
  imports_there = (
    four_is image.imports.rva fits.imports.0,
    four_is image.imports.size fits.imports.1,
  )

  exceptions_there : field 4 bytes 224 ≡ image.exceptions.rva
      × field 4 bytes 228 ≡ image.exceptions.size
  unfolding dos_header file_header standard_fields windows_fields directories directory_entry u16
      u32 u64 zeros
  exceptions_there = (
    four_is image.exceptions.rva fits.exceptions.0,
    four_is image.exceptions.size fits.exceptions.1,
  )

-- ---- the fields, where the headers look for them

nine : (t1 t2 t3 t4 t5 t6 t7 t8 t9 : Bool) (e1 e2 e3 e4 e5 e6 e7 e8 e9 : ImageErr)
    → t1 ≡ true → t2 ≡ true → t3 ≡ true → t4 ≡ true → t5 ≡ true → t6 ≡ true → t7 ≡ true → t8 ≡ true
    → t9 ≡ true
    → ((unless t1 e1 >>= λ _. unless t2 e2 >>= λ _. unless t3 e3 >>= λ _. unless t4 e4
    >>= λ _. unless t5 e5) >>= λ _. unless t6 e6 >>= λ _. unless t7 e7 >>= λ _. unless t8 e8
    >>= λ _. unless t9 e9) ≡ Ok tt
nine t1 t2 t3 t4 t5 t6 t7 t8 t9 e1 e2 e3 e4 e5 e6 e7 e8 e9 h1 h2 h3 h4 h5 h6 h7 h8 h9 = rw
    (h1, h2, h3, h4, h5, h6, h7, h8, h9) refl

room : (file at place n : ℕ) → at ≡ place → place + n ≤ file → leb (at + n) file ≡ true
room file at place n e le = ap (λ k. leb (k + n) file) e ∙ le-leb (place + n) file le

module _ (image : ImageParts) (fits : CanBeWritten image) (rest : List ℕ)
    (long : 1024 ≤ length (front_of image ++ rest)) where
  abbrev b : List ℕ
  b = front_of image ++ rest

  machine_is : machine b ≡ 0x8664
  machine_is = ap (λ n. field 2 b (n + 4)) (signature_there image fits rest)
      ∙ machine_there image fits rest

  pub count_is : section_count b ≡ length image.sections
  count_is = ap (λ n. field 2 b (n + 6)) (signature_there image fits rest)
      ∙ count_there image fits rest

  optional_size_is : optional_size b ≡ 240
  optional_size_is = ap (λ n. field 2 b (n + 20)) (signature_there image fits rest)
      ∙ optional_size_there image fits rest

  optional_at_is : optional_at b ≡ 88
  optional_at_is = ap (λ n. n + 24) (signature_there image fits rest)

  magic_is : magic b ≡ 0x20B
  magic_is = ap (λ n. field 2 b n) optional_at_is ∙ magic_there image fits rest

  pub entry_is : entry_point b ≡ image.entry
  entry_is = ap (λ n. field 4 b (n + 16)) optional_at_is ∙ entry_there image fits rest

  pub base_is : image_base b ≡ 0x140000000
  base_is = ap (λ n. field 8 b (n + 24)) optional_at_is ∙ base_there image fits rest

  pub size_is : image_size b ≡ end_of image.sections
  size_is = ap (λ n. field 4 b (n + 56)) optional_at_is ∙ end_there image fits rest

  directory_count_is : directory_count b ≡ 16
  directory_count_is = ap (λ n. field 4 b (n + 108)) optional_at_is
      ∙ directory_count_there image fits rest

  directories_at_is : directories_at b ≡ 200
  directories_at_is = ap (λ n. n + 112) optional_at_is

  pub sections_at_is : sections_at b ≡ 328
  sections_at_is = λ i. optional_at_is i + optional_size_is i

  pub imports_is : directory b 1 ≡ image.imports
  imports_is =
      ap (λ n. if nat_lt 1 n then record {
        rva = field 4 b (directories_at b + 8);
        size = field 4 b (directories_at b + 8 + 4);
      } else record { rva = 0; size = 0 })
      directory_count_is
      ∙ (λ i. record {
        rva = (ap (λ n. field 4 b (n + 8)) directories_at_is
            ∙ (imports_there image fits rest).0) i;
        size = (ap (λ n. field 4 b (n + 8 + 4)) directories_at_is
            ∙ (imports_there image fits rest).1) i;
      })

  pub exceptions_is : directory b 3 ≡ image.exceptions
  exceptions_is =
      ap (λ n. if nat_lt 3 n then record {
        rva = field 4 b (directories_at b + 24);
        size = field 4 b (directories_at b + 24 + 4);
      } else record { rva = 0; size = 0 })
      directory_count_is
      ∙ (λ i. record {
        rva = (ap (λ n. field 4 b (n + 24)) directories_at_is
            ∙ (exceptions_there image fits rest).0) i;
        size = (ap (λ n. field 4 b (n + 24 + 4)) directories_at_is
            ∙ (exceptions_there image fits rest).1) i;
      })

  pub headers_pass : headers b ≡ Ok tt
  unfolding headers
  headers_pass =
      let table = fits.table in
      let directories_end : 8 * directory_count b ≡ 128 = ap (λ n. 8 * n) directory_count_is in
      let table_end : 40 * section_count b ≡ 40 * length image.sections = ap (λ n. 40 * n)
      count_is in
      nine _ _ _ _ _ _ _ _ _
      (refusals.Truncated 0) (refusals.NotPe 0) (refusals.Truncated (signature_at b))
      (refusals.NotPe (signature_at b)) (refusals.Machine (machine b))
      (refusals.Truncated (optional_at b)) (refusals.Magic (magic b))
      (refusals.Truncated (directories_at b)) (refusals.Truncated (sections_at b))
      (le-leb 64 (length b) (omega (arith, long)))
      (eq-eqb _ _ (mark_there image fits rest))
      (room (length b) (signature_at b) 64 24 (signature_there image fits rest)
      (omega (arith, long)))
      (eq-eqb _ _ (ap (λ n. field 4 b n) (signature_there image fits rest)
      ∙ pe_there image fits rest))
      (eq-eqb _ _ machine_is)
      (and_from _ _ (room (length b) (optional_at b) 88 112 optional_at_is (omega (arith, long)))
      (ap (leb 112) optional_size_is))
      (eq-eqb _ _ magic_is)
      (and_from _ _ (λ i. leb (112 + directories_end i) (optional_size_is i))
      (ap (λ n. leb (directories_at b + n) (length b)) directories_end
      ∙ room (length b) (directories_at b) 200 128 directories_at_is (omega (arith, long))))
      (ap (λ n. leb (sections_at b + n) (length b)) table_end
      ∙ room (length b) (sections_at b) 328 (40 * length image.sections) sections_at_is
      (omega (arith, long, table)))
