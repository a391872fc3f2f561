-- The machine's first memory beside the source's.
use Rattle.std.proofs.Common.{◌≡◌, ℕ, ◌+◌, ◌*◌, ◌-◌, ◌^◌, ◌<◌, ◌≤◌, Bool, true, false, cond, not, leb, ltb, List, [], ◌∷◌, ◌++◌, length, get_or, Option, Some, None, refl, sym, ap, subst, ◌∙◌, arith, inl, inr}
use Rattle.std.specs.Prelude.{◌&&◌, ◌||◌, ◌⊎◌}
use Rattle.std.specs.List.{AllByRecursion, flat_map}
use Rattle.std.proofs.lemmas.Bool.{and_from, and_parts, and_left, and_right, or_left, or_right, lt-ltb, le-ltb, le-leb, lt-leb, ltb-true, leb-true, cases_lt, false≢true}
use Rattle.std.proofs.lemmas.List.{get_or_past}
use Rattle.image_states.specs.Words.{IMAGE_BASE, IMAGE_RANGE_END, is_writable, Memory, may_write, Section, Image, Import, ImageContents, image_of, imports_of, sizes_of, rdata_at, end_at, section_of, covers, mode_in, byte_in, stored_byte, with_slots, mapped, is_between, data_end, is_data, is_hidden, LinearProgram, linked, image_base, HasWholeImage, MOST_IMAGE, GUARD_START, STACK_START, STACK_END, ARENA_START, ARENA_END, FIRST_DATA, DATA_STACK_START, DATA_STACK_END, FIRST_DATA_STACK, first_byte, in_stack, in_data_stack, in_arena, slots_at, import_tables, sections_of, parts_of, data_section, text_section, rdata_section, xdata_section, pdata_section, stack_mode, IsBeside, plain_mode, first_memory, HasBytes, tables_size}
use Rattle.flat_memory.specs.declared.protection.Rights.TheVariants.{Nothing, ReadWrite}
use Rattle.pe_image.specs.Imports as importing
use Rattle.pe_image.specs.Numbers.{zeros}
use Rattle.pe_write.specs.NameTable.{NameRow}
use Rattle.pe_write.specs.Program.{data_read, text_read, rdata_read, xdata_read, pdata_read, names_read, names_section, if_named}
use Rattle.pe_write.specs.Written.{SectionParts, raw_size, raw_data, written, dos_header, file_header, standard_fields, windows_fields, directories, table_of}
use Rattle.image_link.proofs.Imports.{IsWithin, slots_within, all_from}
use Rattle.image_states.proofs.Lemmas.{listed, slots-beside, is, text_is, pointer_is_seen, digits}
use Rattle.match_stack.specs.StackRecords.{IsData}
use Rattle.x64_templates.specs.Frames.{Agrees}
use Rattle.image_states.proofs.Sections.{covered, below, above, here, past, of_section, AllBytes, bytes_front, bytes_back, stored_small, slots_small, slots_past, get_zeros, IsApart, first_byte-beside}

-- ---- the bytes of sections

written_raw : (p : ImageContents) → AllBytes (written (parts_of p))
    → AllBytes (flat_map raw_data (parts_of p).sections)
unfolding written
written_raw p h = bytes_back (dos_header ++ file_header (parts_of p) ++ standard_fields (parts_of p)
    ++ windows_fields (parts_of p) ++ directories (parts_of p) ++ table_of (parts_of p))
    (flat_map raw_data (parts_of p).sections) h

-- the section of names, where there is one
named_raws : (rows : List NameRow) (s : SectionParts) (x : Section) → x.raw ≡ s.bytes
    → AllBytes (flat_map raw_data (if_named rows s))
    → AllByRecursion (λ (y : Section). AllBytes y.raw) (if_named rows x)
unfolding raw_data
named_raws [] s x e h = tt
named_raws (r ∷ rs) s x e h = (
  subst AllBytes (sym e)
      (bytes_front s.bytes (zeros (raw_size s - length s.bytes)) (bytes_front (raw_data s) [] h)),
  tt,
)

named_past : (rows : List NameRow) (base a : ℕ) (x : Section) → covers base a x ≡ false
    → section_of base a (if_named rows x) ≡ None
named_past [] base a x e = refl
named_past (r ∷ rs) base a x e = past base a x [] e

named_has : (rows : List NameRow) (P : Section → Type 0) (x : Section) → P x
    → AllByRecursion P (if_named rows x)
named_has [] P x h = tt
named_has (r ∷ rs) P x h = (h, tt)

raws : (p : ImageContents) → AllBytes (written (parts_of p))
    → AllByRecursion (λ (s : Section). AllBytes s.raw) (sections_of p)
unfolding raw_data
raws p h =
    let all = written_raw p h in
    let d = raw_data (data_section p) in
    let t = raw_data (text_section p) in
    let r = raw_data (rdata_section p) in
    let x = raw_data (xdata_section p) in
    let q = raw_data (pdata_section p) in
    let n = flat_map raw_data (if_named p.names (names_section p)) in
    let a1 = bytes_back d (t ++ (r ++ (x ++ (q ++ n)))) all in
    let a2 = bytes_back t (r ++ (x ++ (q ++ n))) a1 in
    let a3 = bytes_back r (x ++ (q ++ n)) a2 in
    let a4 = bytes_back x (q ++ n) a3 in
    let a5 = bytes_back q n a4 in (
      bytes_front d (t ++ (r ++ (x ++ (q ++ n)))) all,
      (
        bytes_front p.text (zeros (raw_size (text_section p) - length p.text))
            (bytes_front t (r ++ (x ++ (q ++ n))) a1),
        (
          bytes_front (import_tables p.imports (rdata_at (sizes_of p)))
              (zeros (raw_size (rdata_section p)
              - length (import_tables p.imports (rdata_at (sizes_of p)))))
              (bytes_front r (x ++ (q ++ n)) a2),
          (
            bytes_front p.xdata (zeros (raw_size (xdata_section p) - length p.xdata))
                (bytes_front x (q ++ n) a3),
            (
              bytes_front p.pdata (zeros (raw_size (pdata_section p) - length p.pdata))
                  (bytes_front q n a4),
              named_raws p.names (names_section p) (names_read p) refl a5,
            ),
          ),
        ),
      ),
    )

or_none : (a b : Bool) → (a || b) ≡ false → (a ≡ false) × (b ≡ false)
or_none true b e = absurd (false≢true (sym e))
or_none false b e = (refl, e)

module _ (program : LinearProgram) (c : HasWholeImage program) where
  abbrev pub p : ImageContents
  p = linked program

  abbrev pub image : Image
  image = image_of p

  abbrev pub m : Memory
  m = mapped image

  abbrev pub r : ℕ
  r = rdata_at (sizes_of p)

  abbrev pub globals : Section
  globals = data_read p

  abbrev pub text : Section
  text = text_read p

  abbrev pub tables : Section
  tables = rdata_read p

  abbrev pub infos : Section
  infos = xdata_read p

  abbrev pub functions : Section
  functions = pdata_read p

  abbrev pub names : Section
  names = names_read p

  abbrev pub named : List Section
  named = if_named p.names names

  low : end_at (sizes_of p) ≤ MOST_IMAGE
  low = c.small

  -- ---- which section

  data_there : (a : ℕ) → FIRST_DATA ≤ a → a < data_end program.globals
      → section_of image_base a (sections_of p) ≡ Some globals
  data_there a le lt = here image_base a globals (text ∷ tables ∷ infos ∷ functions ∷ named)
      (covered image_base a globals (omega arith) (omega arith))

  pub outside : (a : ℕ) → (a < FIRST_DATA) ⊎ (IMAGE_RANGE_END ≤ a)
      → section_of image_base a (sections_of p) ≡ None
  outside a (inl lt) =
      let l = low in
      past image_base a globals (text ∷ tables ∷ infos ∷ functions ∷ named)
      (below image_base a globals (omega arith))
      ∙ past image_base a text (tables ∷ infos ∷ functions ∷ named)
      (below image_base a text (omega arith))
      ∙ past image_base a tables (infos ∷ functions ∷ named)
      (below image_base a tables (omega arith))
      ∙ past image_base a infos (functions ∷ named) (below image_base a infos (omega arith))
      ∙ past image_base a functions named (below image_base a functions (omega arith))
      ∙ named_past p.names image_base a names (below image_base a names (omega arith))
  outside a (inr le) =
      let l = low in
      past image_base a globals (text ∷ tables ∷ infos ∷ functions ∷ named)
      (above image_base a globals (omega arith))
      ∙ past image_base a text (tables ∷ infos ∷ functions ∷ named)
      (above image_base a text (omega arith))
      ∙ past image_base a tables (infos ∷ functions ∷ named)
      (above image_base a tables (omega arith))
      ∙ past image_base a infos (functions ∷ named) (above image_base a infos (omega arith))
      ∙ past image_base a functions named (above image_base a functions (omega arith))
      ∙ named_past p.names image_base a names (above image_base a names (omega arith))

  pub tables_there : (a : ℕ) → image_base + r ≤ a → a < image_base + r + tables_size p.imports
      → section_of image_base a (sections_of p) ≡ Some tables
  tables_there a le lt =
      let text' = text_is program c.fits in
      past image_base a globals (text ∷ tables ∷ infos ∷ functions ∷ named)
      (above image_base a globals (omega arith))
      ∙ past image_base a text (tables ∷ infos ∷ functions ∷ named)
      (above image_base a text (omega arith))
      ∙ here image_base a tables (infos ∷ functions ∷ named)
      (covered image_base a tables (omega arith) (omega arith))

  -- ---- slots lie in `.rdata`

  abbrev from : ℕ
  from = slots_at p.imports r

  abbrev to : ℕ
  to = from + 8 * length p.imports

  within : AllByRecursion (IsWithin from to) (imports_of p)
  within = slots_within from to from p.imports (omega arith) (omega arith)

  beside : (a : ℕ) → (a < image_base + r) ⊎ (IMAGE_RANGE_END ≤ a)
      → AllByRecursion (λ (i : Import). IsBeside a (image_base + i.slot)) (imports_of p)
  beside a (inl lt) =
      let l = low in
      all_from (IsWithin from to) (λ (i : Import). IsBeside a (image_base + i.slot)) (imports_of p)
      (λ i w. (let begin = w.0 in let end = w.1 in
      record { apart = inl (omega arith); fits = omega arith })) within
  beside a (inr le) =
      let l = low in
      all_from (IsWithin from to) (λ (i : Import). IsBeside a (image_base + i.slot)) (imports_of p)
      (λ i w. (let begin = w.0 in let end = w.1 in
      record { apart = inr (omega arith); fits = omega arith })) within

  stored_there : (a : ℕ) → (a < image_base + r) ⊎ (IMAGE_RANGE_END ≤ a)
      → m.byte a ≡ stored_byte image a
  unfolding mapped
  stored_there a h =
      ap (λ (is : List Import). with_slots image_base (stored_byte image) is a)
      (listed p (is program c.fits))
      ∙ (elim (cases_lt a (2 ^ 64)) [
        | inl lt ↦ slots-beside image_base (stored_byte image) a (imports_of p) lt (beside a h)
        | inr le ↦ slots_past image_base (stored_byte image) a (imports_of p) le
      ])

  -- ---- what an address is to the source

  abbrev Place : ℕ → Type 0
  Place a = ((FIRST_DATA ≤ a) × (a < data_end program.globals))
      ⊎ ((a < FIRST_DATA) ⊎ (IMAGE_RANGE_END ≤ a))

  place_by : (a : ℕ) → (b : Bool) → is_data program.globals a ≡ b
      → (is_between IMAGE_BASE IMAGE_RANGE_END a && not (is_data program.globals a)) ≡ false
      → Place a
  place_by a true e off =
      let q = and_parts (leb FIRST_DATA a) (ltb a (data_end program.globals)) e in
      inl (leb-true FIRST_DATA a q.0, ltb-true a (data_end program.globals) q.1)
  place_by a false e off = elim (cases_lt a IMAGE_BASE) [
    | inl lt ↦ inr (inl (omega arith))
    | inr le ↦ elim (cases_lt a IMAGE_RANGE_END) [
      | inl lt ↦
          let yes' : (is_between IMAGE_BASE IMAGE_RANGE_END a && not (is_data program.globals a))
          ≡ true =
          and_from (is_between IMAGE_BASE IMAGE_RANGE_END a) (not (is_data program.globals a))
          (and_from (leb IMAGE_BASE a) (ltb a IMAGE_RANGE_END) (le-leb IMAGE_BASE a le)
          (lt-ltb a IMAGE_RANGE_END lt)) (ap not e) in
          absurd (false≢true (sym off ∙ yes'))
      | inr le' ↦ inr (inr le')
    ]
  ]

  -- an address of which the language says something
  free : (a : ℕ) → is_hidden program.globals a ≡ false
      → (is_between GUARD_START STACK_END a ≡ false) × (Place a)
  free a e =
      let q = or_none (is_between GUARD_START STACK_END a)
      (is_between IMAGE_BASE IMAGE_RANGE_END a && not (is_data program.globals a)) e in
      (q.0, place_by a (is_data program.globals a) refl q.1)

  not_stack : (a : ℕ) → is_between GUARD_START STACK_END a ≡ false → in_stack a ≡ false
  not_stack a e = elim (cases_lt a STACK_START) [
    | inl lt ↦ and_left (leb STACK_START a) (ltb a STACK_END) (lt-leb STACK_START a lt)
    | inr le ↦ elim (cases_lt a STACK_END) [
      | inl lt ↦ absurd (false≢true (sym e ∙ and_from (leb GUARD_START a) (ltb a STACK_END)
          (le-leb GUARD_START a (omega arith)) (lt-ltb a STACK_END lt)))
      | inr le' ↦ and_right (leb STACK_START a) (ltb a STACK_END) (le-ltb a STACK_END le')
    ]
  ]

  -- ---- bytes and protections agree

  data_raw : (i : ℕ) → get_or (raw_data (data_section p)) i 0 ≡ get_or program.globals i 0
  unfolding raw_data zeros
  data_raw i = get_zeros program.globals (raw_size (data_section p) - length program.globals) i

  byte_by : (a : ℕ) → Place a → m.byte a ≡ (first_memory program.globals).byte a
  byte_by a (inl h) =
      let le = h.0 in
      let lt = h.1 in
      let l = low in
      let same : a - (image_base + 0x1000) ≡ a - FIRST_DATA = omega arith in
      stored_there a (inl (omega arith))
      ∙ ap (λ (o : Option Section). byte_in image_base o a) (data_there a h.0 h.1)
      ∙ data_raw (a - (image_base + 0x1000))
      ∙ ap (λ (i : ℕ). get_or program.globals i 0) same
      ∙ sym (ap (λ (b : Bool). cond b (first_byte a) (get_or program.globals (a - FIRST_DATA) 0))
      (le-ltb a FIRST_DATA h.0))
  byte_by a (inr (inl lt)) =
      let l = low in
      stored_there a (inl (omega arith))
      ∙ ap (λ (o : Option Section). byte_in image_base o a) (outside a (inl lt))
      ∙ sym (ap (λ (b : Bool). cond b (first_byte a) (get_or program.globals (a - FIRST_DATA) 0))
      (lt-ltb a FIRST_DATA lt))
  byte_by a (inr (inr le)) =
      let few = c.fits.globals in
      stored_there a (inr le)
      ∙ ap (λ (o : Option Section). byte_in image_base o a) (outside a (inr le))
      ∙ first_byte-beside a (inr (omega arith))
      ∙ sym (ap (λ (b : Bool). cond b (first_byte a) (get_or program.globals (a - FIRST_DATA) 0))
      (le-ltb a FIRST_DATA (omega arith)) ∙ get_or_past program.globals (a - FIRST_DATA) 0
      (omega arith))

  not_data : (a : ℕ) → (a < FIRST_DATA) ⊎ (IMAGE_RANGE_END ≤ a) → is_data program.globals a ≡ false
  not_data a (inl lt) = and_left (leb FIRST_DATA a) (ltb a (data_end program.globals))
      (lt-leb FIRST_DATA a lt)
  not_data a (inr le) = let few = c.fits.globals in
      and_right (leb FIRST_DATA a) (ltb a (data_end program.globals))
      (le-ltb a (data_end program.globals) (omega arith))

  stack_is_plain : (b : Bool) → stack_mode b ≡ cond b (plain_mode ReadWrite) (plain_mode Nothing)
  stack_is_plain true = refl
  stack_is_plain false = refl

  mode_by : (a : ℕ) → is_between GUARD_START STACK_END a ≡ false → Place a
      → m.protection a ≡ (first_memory program.globals).protection a
  unfolding mapped
  mode_by a off (inl h) =
      ap (λ (o : Option Section). mode_in o a) (data_there a h.0 h.1)
      ∙ sym (ap (λ (b : Bool). cond (b || in_data_stack a) (plain_mode ReadWrite)
      (plain_mode Nothing))
      (and_from (leb FIRST_DATA a) (ltb a (data_end program.globals)) (le-leb FIRST_DATA a h.0)
      (lt-ltb a (data_end program.globals) h.1)))
  mode_by a off (inr h) =
      ap (λ (o : Option Section). mode_in o a) (outside a h)
      ∙ ap (λ (b : Bool). stack_mode (b || in_data_stack a)) (not_stack a off)
      ∙ stack_is_plain (in_data_stack a)
      ∙ sym (ap (λ (b : Bool). cond (b || in_data_stack a) (plain_mode ReadWrite)
      (plain_mode Nothing)) (not_data a h))

  -- ---- the data stack's pointer, in the source's memory

  pointer_writes : (a : ℕ) → DATA_STACK_START ≤ a → a < DATA_STACK_START + 8
      → may_write (first_memory program.globals) a ≡ true
  pointer_writes a low high =
      ap (λ (b : Bool). is_writable (cond b (plain_mode ReadWrite) (plain_mode Nothing)).rights)
      (or_right (is_data program.globals a) (in_data_stack a)
      (and_from (leb DATA_STACK_START a) (ltb a DATA_STACK_END) (le-leb DATA_STACK_START a low)
      (lt-ltb a DATA_STACK_END (omega arith))))

  pointer_small : (a : ℕ) → a < DATA_STACK_START + 8
      → (first_memory program.globals).byte a < 256
  pointer_small a high =
      let is : (first_memory program.globals).byte a ≡ first_byte a =
      ap (λ (b : Bool). cond b (first_byte a) (get_or program.globals (a - FIRST_DATA) 0))
      (lt-ltb a FIRST_DATA (omega arith)) in
      let few : first_byte a < 256 =
      digits (λ a. 0) 8 DATA_STACK_START FIRST_DATA_STACK a (omega arith) in
      omega arith

  pub agrees : Agrees (is_hidden program.globals) m (first_memory program.globals)
  agrees = record {
    byte = λ a e. byte_by a (free a e).1;
    protection = λ a e. mode_by a (free a e).0 (free a e).1;
    guard = λ a e. (let q = and_parts (leb GUARD_START a) (ltb a STACK_START) e in
        let lt = ltb-true a STACK_START q.1 in or_left (is_between GUARD_START STACK_END a)
        (is_between IMAGE_BASE IMAGE_RANGE_END a && not (is_data program.globals a))
        (and_from (leb GUARD_START a) (ltb a STACK_END) q.0 (lt-ltb a STACK_END (omega arith))));
    pointer = λ a l u. record {
      seen = pointer_is_seen program.globals a u;
      writable = pointer_writes a l u;
      small = pointer_small a u;
    };
  }

  -- ---- the stack

  pub stack_writes : (a : ℕ) → STACK_START ≤ a → a < STACK_END → may_write m a ≡ true
  unfolding mapped
  stack_writes a le lt =
      ap (λ (o : Option Section). is_writable (mode_in o a).rights) (outside a (inl (omega arith)))
      ∙ ap (λ (b : Bool). is_writable (stack_mode (b || in_data_stack a)).rights)
      (and_from (leb STACK_START a) (ltb a STACK_END) (le-leb STACK_START a le)
      (lt-ltb a STACK_END lt))

  -- where it is 0 at first
  pub stack_zero : (a : ℕ) → STACK_START ≤ a → a < STACK_END → m.byte a ≡ 0
  stack_zero a le lt =
      let l = low in
      stored_there a (inl (omega arith)) ∙ ap (λ (o : Option Section). byte_in image_base o a)
      (outside a (inl (omega arith))) ∙ first_byte-beside a (inr (omega arith))

  -- ---- the arena

  not_executed : (b : Bool) → (stack_mode b).execute ≡ false
  not_executed true = refl
  not_executed false = refl

  pub arena_alone : (a : ℕ) → in_arena a ≡ true → (m.protection a).execute ≡ false
  unfolding mapped
  arena_alone a e =
      let q = and_parts (leb ARENA_START a) (ltb a ARENA_END) e in
      let high : a < ARENA_END = ltb-true a ARENA_END q.1 in
      ap (λ (o : Option Section). (mode_in o a).execute) (outside a (inl (omega arith)))
      ∙ not_executed (in_stack a || in_data_stack a)

  -- ---- data alone

  apart_by : (a : ℕ) (b : Bool) → IsApart (stack_mode b)
  apart_by a true e = refl
  apart_by a false e = absurd (false≢true e)

  pub data_alone : HasBytes program → IsData m
  unfolding mapped
  data_alone bytes = record {
    bytes = slots_small image_base (stored_byte image) (importing.imports_of image)
        (λ a. stored_small image_base a (sections_of p) (raws p bytes));
    no_code = λ a. of_section (λ (o : Option Section). IsApart (mode_in o a)) image_base a
        (sections_of p) (apart_by a (in_stack a || in_data_stack a)) (
          (λ e. refl),
          (
            (λ e. absurd (false≢true e)),
            (
              (λ e. absurd (false≢true e)),
              (
                (λ e. absurd (false≢true e)),
                (
                  (λ e. absurd (false≢true e)),
                  named_has p.names (λ (s : Section). IsApart (mode_in (Some s) a)) names
                      (λ e. absurd (false≢true e)),
                ),
              ),
            ),
          ),
        );
  }
