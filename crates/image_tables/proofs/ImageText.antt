-- A loaded image has its text in memory.
use Rattle.std.proofs.Common.{◌≡◌, ℕ, suc, inl, ◌+◌, ◌-◌, ◌*◌, ◌/◌, ◌^◌, ◌<◌, true, false, ltb, leb, List, [], ◌∷◌, length, get_or, Some, refl, sym, ap, ◌∙◌, arith}
use Rattle.std.specs.List.{AllByRecursion}
use Rattle.std.proofs.lemmas.Bool.{lt-ltb, le-ltb, le-leb}
use Rattle.image_tables.specs.Words.{Memory, Section, Image, Import, imported, slots_at, ImageContents, image_of, sections_of, rdata_at, text_at, sizes_of, IsExecutableAt, LinearProgram, FitsProgram, text_begin, linked, routines, image_base, may_write, imports_of, ImagesHaveText, TextsAreFixed, services_of}
use Rattle.flat_memory.specs.declared.protection.Protection.{Protection}
use Rattle.flat_memory.specs.Protections.{is_writable}
use Rattle.image_tables.proofs.Lemmas.{listed, tables_fit, has_places, routines_near, services_few, imports_small, IsWithin, slots_within, all_from}
use Rattle.host_model.specs.Loading.{section_of, mode_in, byte_in, stored_byte, with_slots, mapped}
use Rattle.host_model.specs.Slots.{IsBeside}
use Rattle.host_model.proofs.Slots.{slots-beside}
use Rattle.image_tables.proofs.Table.{is, rdata_is}
use Rattle.pe_write.specs.Program.{text_read}

module _ (p : LinearProgram) (fits : FitsProgram p) where
  abbrev program : ImageContents
  program = linked p

  abbrev image : Image
  image = image_of program

  abbrev code : List ℕ
  code = program.text

  abbrev r : ℕ
  r = rdata_at (sizes_of program)

  abbrev at : ℕ
  at = image_base + text_begin p.globals

  abbrev text : Section
  text = text_read program

  low : r + 0x3000 < 2 ^ 32
  low =
      let fit = tables_fit (services_of p) p.globals (routines p) (length p.functions)
      (services_few p) fits.globals (routines_near p fits) (has_places p fits).room
      (has_places p fits).fewer in
      let e = rdata_is p fits in
      omega arith

  here : (k : ℕ) → at + k ≡ image_base + text_at (sizes_of program) + k
  here k = omega arith

  -- ---- the slots are after it

  beside_all : (a : ℕ) → a < image_base + r → AllByRecursion
      (λ (i : Import). IsBeside a (image_base + i.slot)) (imports_of program)
  beside_all a lt =
      let ss = program.imports in
      let l = low in
      let n = imports_small ss (services_few p) in
      let from = slots_at ss r in
      all_from (IsWithin from (from + 8 * length ss))
      (λ (i : Import). IsBeside a (image_base + i.slot)) (imported from ss)
      (λ i w. (let begin = w.0 in let end = w.1 in
      record { apart = inl (omega arith); fits = omega arith }))
      (slots_within from (from + 8 * length ss) from ss (omega arith) (omega arith))

  below_slots : (a : ℕ) → a < image_base + r → (mapped image).byte a ≡ stored_byte image a
  unfolding mapped
  below_slots a lt =
      let l = low in
      ap (λ is. with_slots image_base (stored_byte image) is a) (listed program (is p fits))
      ∙ slots-beside image_base (stored_byte image) a (imports_of program) (omega arith)
      (beside_all a lt)

  -- ---- byte by byte

  text_there : (k : ℕ) → k < length code → section_of image_base (at + k) (sections_of program)
      ≡ Some text
  text_there k lt =
      let begin = image_base + text_at (sizes_of program) in
      let h = here k in
      let past : ltb (at + k) (image_base + 0x1000 + (program.data_size + 4095) / 4096 * 4096)
      ≡ false = le-ltb _ _ (omega arith) in
      let after : leb (image_base + 0x1000) (at + k) ≡ true = le-leb _ _ (omega arith) in
      let begun : leb begin (at + k) ≡ true = le-leb _ _ (omega arith) in
      let before : ltb (at + k) (begin + (length code + 4095) / 4096 * 4096)
      ≡ true = lt-ltb _ _ (omega arith) in
      rw (past, after, begun, before) refl

  byte_is : (k : ℕ) → k < length code → (mapped image).byte (at + k) ≡ get_or code k 0
  byte_is k lt =
      let h = here k in
      let gone : at + k - (image_base + text_at (sizes_of program)) ≡ k = omega arith in
      below_slots (at + k) (omega arith)
      ∙ ap (λ s. byte_in image_base s (at + k)) (text_there k lt) ∙ ap (λ j. get_or code j 0) gone

  mode_is : (k : ℕ) → k < length code → (mapped image).protection (at + k)
      ≡ mode_in (Some text) (at + k)
  unfolding mapped
  mode_is k lt = ap (λ s. mode_in s (at + k)) (text_there k lt)

  executes : (k : ℕ) → k < length code → ((mapped image).protection (at + k)).execute ≡ true
  executes k lt = ap (λ (m : Protection). m.execute) (mode_is k lt)

  pub is_fixed : (k : ℕ) → k < length code → may_write (mapped image) (at + k) ≡ false
  is_fixed k lt = ap (λ (m : Protection). is_writable m.rights) (mode_is k lt)

-- bytes that are one by one are together
executable_of : (m : Memory) (at : ℕ) (bytes : List ℕ)
    → ((k : ℕ) → k < length bytes → m.byte (at + k) ≡ get_or bytes k 0)
    → ((k : ℕ) → k < length bytes → (m.protection (at + k)).execute ≡ true)
    → IsExecutableAt m at bytes
executable_of m at [] b x = tt
executable_of m at (c ∷ bytes) b x =
    let z : at + 0 ≡ at = omega arith in (
      ap m.byte (sym z) ∙ b 0 (omega arith),
      ap (λ a. (m.protection a).execute) (sym z) ∙ x 0 (omega arith),
      executable_of m (at + 1) bytes
          (λ k lt. (let e : at + 1 + k ≡ at + suc k = omega arith in ap m.byte e
          ∙ b (suc k) (omega arith)))
          (λ k lt. (let e : at + 1 + k ≡ at + suc k = omega arith in
          ap (λ a. (m.protection a).execute) e ∙ x (suc k) (omega arith))),
    )

pub images_have_text : ImagesHaveText
images_have_text p fits = executable_of (mapped (image_of (linked p)))
    (image_base + text_begin p.globals) (linked p).text (byte_is p fits) (executes p fits)

pub texts_are_fixed : TextsAreFixed
texts_are_fixed p k fits lt = is_fixed p fits k lt
