-- The tables by which an image imports services of its host, read again.
use Rattle.std.proofs.Common.{◌≡◌, ◌≢◌, ℕ, ◌+◌, ◌-◌, ◌*◌, ◌/◌, ◌%◌, ◌^◌, ◌<◌, Bool, zero, suc, true, false, Some, None, Ok, List, [], ◌∷◌, ◌++◌, length, take, drop, append_assoc, refl, sym, ap, ◌∙◌, arith}
use Rattle.std.specs.Prelude.{◌==◌, cond, nat_lt, option_and_then, option_map}
use Rattle.std.specs.List.{flat_map, position_or_len}
use Rattle.std.proofs.lemmas.Bool.{ne_eqb, lt-ltb, le-leb}
use Rattle.std.proofs.lemmas.List.{append-nil, length-append, length-drop, drop-drop, drop_at}
use Rattle.byteorder.specs.Endian.{little_number}
use Rattle.host_layout.specs.declared.imported.ImportedService.{ImportedService}
use Rattle.host_layout.specs.declared.imported.ImportedService.TheVariants.{AddVectored, RaiseException, RemoveVectored, CSpecificHandler, LocalUnwind, Protect, Put, Walk}
use Rattle.host_layout.specs.declared.name.TheConstants.{LIBRARY}
use Rattle.seh_num.specs.Answers.{◌>>=◌, onto, prepend}
use Rattle.pe_image.specs.Field.{field}
use Rattle.pe_image.specs.Image.{Section, section_at, stored_in, stored, whole}
use Rattle.pe_image.specs.Imports.{Import, terminated, unless_short, hinted, name_at, with_slot, unless_ordinal, import_at, library, is_zero, lookups, entries_of, libraries, max_count, imports_in}
use Rattle.pe_write.specs.ImportTables.{name_of, hint_name, hint_name_size, names_size, addresses_size, slots_offset, names_offset, tables_size, names_at, addresses, descriptor, import_tables, imported}
use Rattle.pe_image.specs.Numbers.{u32, u64, zeros}
use Rattle.pe_image.proofs.Imported as one
use Rattle.pe_image.proofs.Imported.{with_directory}
use Rattle.pe_write.proofs.Rows.{four_is}

-- ---- one entry, and one name

abbrev eight : ℕ → ℕ
eight n = n % 256 + 256 * (n / 256 % 256 + 256 *
    (n / 65536 % 256 + 256 * (n / 16777216 % 256
    + 256 * (n / 4294967296 % 256 + 256 * (n / 1099511627776 % 256
    + 256 * (n / 281474976710656 % 256 + 256 * (n / 72057594037927936 % 256 + 256 * 0)))))))

eight_is : (n : ℕ) → n < 2 ^ 32 → eight n ≡ n
eight_is n lt = omega arith

entry_length : (n : ℕ) → length (u64 n) ≡ 8
unfolding u64
entry_length n = refl

entry_is : (n : ℕ) → n < 2 ^ 32 → little_number 8 (u64 n) ≡ n
unfolding u64
entry_is n lt = eight_is n lt

entry_whole : (n : ℕ) (rest : List ℕ) → whole 8 (take 8 (u64 n ++ rest)) ≡ Some (u64 n)
unfolding u64
entry_whole n rest = refl

hint_name_length : (s : ImportedService) → length (hint_name s) ≡ hint_name_size s
unfolding hint_name zeros
hint_name_length AddVectored = refl
hint_name_length RaiseException = refl
hint_name_length RemoveVectored = refl
hint_name_length CSpecificHandler = refl
hint_name_length LocalUnwind = refl
hint_name_length Protect = refl
hint_name_length Put = refl
hint_name_length Walk = refl

pub ended : (b : List ℕ) (n : ℕ) → position_or_len (λ x. x == 0) b ≡ n → n < length b
    → terminated b ≡ Some (take n b)
ended b n e lt =
    ap (λ k. option_map (λ j. take j b) (cond (nat_lt k (length b)) (Some k) None)) e
    ∙ ap (λ (t : Bool). option_map (λ j. take j b) (cond t (Some n) None))
    (lt-ltb n (length b) lt)

name_inside : (s : ImportedService) (rest : List ℕ)
    → length (name_of s) < length (drop 2 (hint_name s ++ rest))
name_inside s rest = omega (
  arith,
  length-drop 2 (hint_name s ++ rest),
  length-append (hint_name s) rest,
  hint_name_length s,
)

named : (s : ImportedService) (rest : List ℕ)
    → terminated (drop 2 (hint_name s ++ rest)) ≡ Some (name_of s)
unfolding hint_name zeros
named AddVectored rest =
    ended (drop 2 (hint_name AddVectored ++ rest)) 27 refl (name_inside AddVectored rest)
named RaiseException rest =
    ended (drop 2 (hint_name RaiseException ++ rest)) 14 refl (name_inside RaiseException rest)
named RemoveVectored rest =
    ended (drop 2 (hint_name RemoveVectored ++ rest)) 30 refl (name_inside RemoveVectored rest)
named CSpecificHandler rest =
    ended (drop 2 (hint_name CSpecificHandler ++ rest)) 20 refl (name_inside CSpecificHandler rest)
named LocalUnwind rest =
    ended (drop 2 (hint_name LocalUnwind ++ rest)) 13 refl (name_inside LocalUnwind rest)
named Protect rest =
    ended (drop 2 (hint_name Protect ++ rest)) 7 refl (name_inside Protect rest)
named Put rest =
    ended (drop 2 (hint_name Put ++ rest)) 3 refl (name_inside Put rest)
named Walk rest =
    ended (drop 2 (hint_name Walk ++ rest)) 4 refl (name_inside Walk rest)

hinted_is : (s : ImportedService) (rest : List ℕ) → hinted (hint_name s ++ rest) ≡ Some (name_of s)
hinted_is s rest =
    let b = hint_name s ++ rest in
    ap (unless_short (terminated (drop 2 b)))
    (le-leb 2 (length b) (omega (arith, length-append (hint_name s) rest, hint_name_length s)))
    ∙ ap (λ n. unless_short n true) (named s rest)

-- ---- how long the tables are

names_length : (ss : List ImportedService) → length (flat_map hint_name ss) ≡ names_size ss
names_length [] = refl
names_length (s ∷ ss) = omega (
  arith,
  length-append (hint_name s) (flat_map hint_name ss),
  hint_name_length s,
  names_length ss,
)

addresses_length : (at : ℕ) (ss : List ImportedService) → length (addresses at ss)
    ≡ addresses_size ss
addresses_length at [] = entry_length 0
addresses_length at (s ∷ ss) = omega (
  arith,
  length-append (u64 at) (addresses (at + hint_name_size s) ss),
  entry_length at,
  addresses_length (at + hint_name_size s) ss,
)

module _ (is : List ImportedService) (r : ℕ) where
  abbrev front : List ℕ
  front = descriptor is r ++ zeros 20

  abbrev entries : List ℕ
  entries = addresses (names_at is r) is

  abbrev names : List ℕ
  names = flat_map hint_name is

  abbrev end : List ℕ
  end = LIBRARY.now ++ zeros 1

  front_length : length front ≡ 40
  unfolding descriptor u32 zeros
  front_length = refl

  end_length : length end ≡ 12
  unfolding zeros
  end_length = refl

  parts : import_tables is r ≡ front ++ (entries ++ (entries ++ (names ++ end)))
  unfolding import_tables
  parts =
      append_assoc (front ++ entries ++ entries ++ names) (LIBRARY.now) (zeros 1)
      ∙ append_assoc (front ++ entries ++ entries) names end
      ∙ append_assoc (front ++ entries) entries (names ++ end)
      ∙ append_assoc front entries (entries ++ (names ++ end))

  pub tables_length : length (import_tables is r) ≡ tables_size is
  tables_length = omega (
    arith,
    ap length parts,
    length-append front (entries ++ (entries ++ (names ++ end))),
    front_length,
    length-append entries (entries ++ (names ++ end)),
    length-append entries (names ++ end),
    addresses_length (names_at is r) is,
    length-append names end,
    names_length is,
    end_length,
  )

  -- past so many bytes of what is there
  past : (k n : ℕ) (xs ys : List ℕ) → drop k (import_tables is r) ≡ xs ++ ys → length xs ≡ n
      → drop (k + n) (import_tables is r) ≡ ys
  past k n xs ys e long =
      sym (drop-drop n k (import_tables is r)) ∙ ap (drop n) e ∙ drop_at xs ys n long

  lookups_there : drop 40 (import_tables is r) ≡ entries ++ (entries ++ (names ++ end))
  lookups_there = ap (drop 40) parts
      ∙ drop_at front (entries ++ (entries ++ (names ++ end))) 40 front_length

  slots_there : drop (slots_offset is) (import_tables is r) ≡ entries ++ (names ++ end)
  slots_there = past 40 (addresses_size is) entries (entries ++ (names ++ end)) lookups_there
      (addresses_length (names_at is r) is)

  names_there : drop (names_offset is) (import_tables is r) ≡ names ++ end
  names_there = past (slots_offset is) (addresses_size is) entries (names ++ end) slots_there
      (addresses_length (names_at is r) is)

  -- ---- the descriptors

  abbrev library_there : List ℕ
  library_there = take 20 (drop 0 (import_tables is r))

  abbrev zeros_there : List ℕ
  zeros_there = take 20 (drop 20 (import_tables is r))

  first_whole : whole 20 library_there ≡ Some library_there
  unfolding import_tables descriptor u32 zeros
  first_whole = refl

  second_whole : whole 20 zeros_there ≡ Some zeros_there
  unfolding import_tables descriptor u32 zeros
  second_whole = refl

  looks : r + 40 < 2 ^ 32 → field 4 library_there 0 ≡ r + 40
  unfolding import_tables descriptor u32 zeros
  looks lt = four_is (r + 40) lt

  slots : r + slots_offset is < 2 ^ 32 → field 4 library_there 16 ≡ r + slots_offset is
  unfolding import_tables descriptor u32 zeros
  slots lt = four_is (r + slots_offset is) lt

  is_last : is_zero zeros_there ≡ true
  unfolding import_tables descriptor u32 zeros
  is_last = refl

-- ---- in the sections of an image

lookups_is : (n s : ℕ) → n ≢ 0 → lookups n s ≡ n
lookups_is zero s ne = absurd (ne refl)
lookups_is (suc n) s ne = refl

some_field : (d : List ℕ) → field 4 d 0 ≢ 0 → is_zero d ≡ false
some_field d ne = let no = ne_eqb (field 4 d 0) 0 ne in rw no refl

same_entries : (ss : List Section) (index look slot : ℕ) (d : List ℕ)
    → look ≡ lookups (field 4 d 0) (field 4 d 16) → slot ≡ field 4 d 16
    → library max_count ss index look slot ≡ entries_of ss index d
same_entries ss index look slot d e1 e2 = ap (λ n. library max_count ss index n slot) e1
    ∙ ap (library max_count ss index (lookups (field 4 d 0) (field 4 d 16))) e2

module _ (ss : List Section) (is : List ImportedService) (r : ℕ)
    (low : r + tables_size is < 2 ^ 32)
    (here : (k : ℕ) → k < tables_size is → stored_in (r + k) (section_at (r + k) ss)
    ≡ drop k (import_tables is r)) where
  abbrev T : List ℕ
  T = import_tables is r

  at_place : (rva k n : ℕ) → rva ≡ r + k → k < tables_size is
      → stored ss rva n ≡ whole n (take n (drop k T))
  at_place rva k n e lt = ap (λ a. stored ss a n) e ∙ ap (λ b. whole n (take n b)) (here k lt)

  -- where something is there
  inside : (k n : ℕ) (xs ys : List ℕ) → drop k T ≡ xs ++ ys → length xs ≡ n → 0 < n
      → k < tables_size is
  inside k n xs ys e long some = omega (
    arith,
    ap length e,
    length-drop k T,
    length-append xs ys,
    tables_length is r,
    long,
    some,
  )

  entry_there : (rva k n : ℕ) (rest : List ℕ) → rva ≡ r + k → drop k T ≡ u64 n ++ rest
      → stored ss rva 8 ≡ Some (u64 n)
  entry_there rva k n rest e is_there =
      at_place rva k 8 e (inside k 8 (u64 n) rest is_there (entry_length n) (omega arith))
      ∙ ap (λ b. whole 8 (take 8 b)) is_there ∙ entry_whole n rest

  name_there : (rva k : ℕ) (s : ImportedService) (rest : List ℕ) → rva ≡ r + k
      → drop k T ≡ hint_name s ++ rest → name_at ss rva ≡ Some (name_of s)
  name_there rva k s rest e is_there =
      ap (name_at ss) e
      ∙ ap hinted (here k (inside k (hint_name_size s) (hint_name s) rest is_there
      (hint_name_length s) (omega arith)) ∙ is_there)
      ∙ hinted_is s rest

  import_there : (slot at lo so hint : ℕ) (s : ImportedService) (x y : List ℕ)
      → slot ≡ r + so → at ≡ r + hint → at < 2 ^ 32
      → drop so T ≡ u64 at ++ x → drop hint T ≡ hint_name s ++ y
      → import_at ss slot (little_number 8 (u64 at))
      ≡ Some (record { name = name_of s; slot = slot })
  import_there slot at lo so hint s x y e1 e2 lt slot_is name_is =
      ap (import_at ss slot) (entry_is at lt)
      ∙ ap (unless_ordinal (option_and_then (λ name. option_and_then (with_slot slot name)
      (stored ss slot 8)) (name_at ss at))) (lt-ltb at (2 ^ 63) (omega arith))
      ∙ ap (option_and_then (λ name. option_and_then (with_slot slot name) (stored ss slot 8)))
      (name_there at hint s y e2 name_is)
      ∙ ap (option_and_then (with_slot slot (name_of s))) (entry_there slot so at x e1 slot_is)

  -- the entries of those services from the places of the first of them on
  listed : (qs : List ImportedService) (n index look slot at lo so hint : ℕ) (x y z : List ℕ)
      → length qs < n → look ≡ r + lo → slot ≡ r + so → at ≡ r + hint → 0 < hint
      → drop lo T ≡ addresses at qs ++ x → drop so T ≡ addresses at qs ++ y
      → drop hint T ≡ flat_map hint_name qs ++ z
      → library n ss index look slot ≡ Ok (imported slot qs)
  listed [] n index look slot at lo so hint x y z lt e1 e2 e3 some l s m =
      one.entries_end ss index look slot n (n - 1) (u64 0) (omega arith)
      (entry_there look lo 0 x e1 l) (entry_is 0 (omega arith))
  listed (q ∷ qs) n index look slot at lo so hint x y z lt e1 e2 e3 some l s m =
      let next = at + hint_name_size q in
      let l' = l ∙ append_assoc (u64 at) (addresses next qs) x in
      let s' = s ∙ append_assoc (u64 at) (addresses next qs) y in
      let m' = m ∙ append_assoc (hint_name q) (flat_map hint_name qs) z in
      let within = inside hint (hint_name_size q) (hint_name q) (flat_map hint_name qs ++ z) m'
      (hint_name_length q) (omega arith) in
      let low_at : at < 2 ^ 32 = omega arith in
      let i : Import = record { name = name_of q; slot = slot } in
      let value = entry_is at low_at in
      one.import_first ss index look slot n (n - 1) (u64 at) i (omega arith)
      (entry_there look lo at (addresses next qs ++ x) e1 l') (omega arith)
      (import_there slot at lo so hint q (addresses next qs ++ y) (flat_map hint_name qs ++ z) e2 e3
      low_at s' m')
      ∙ ap (prepend i) (listed qs (n - 1) (index + 1) (look + 8) (slot + 8) next (lo + 8) (so + 8)
      (hint + hint_name_size q) x y z (omega arith) (omega arith) (omega arith) (omega arith)
      (omega arith) (past is r lo 8 (u64 at) (addresses next qs ++ x) l' (entry_length at))
      (past is r so 8 (u64 at) (addresses next qs ++ y) s' (entry_length at))
      (past is r hint (hint_name_size q) (hint_name q) (flat_map hint_name qs ++ z) m'
      (hint_name_length q)))

  all : length is < max_count → library max_count ss 0 (r + 40) (r + slots_offset is)
      ≡ Ok (imported (r + slots_offset is) is)
  all few = listed is max_count 0 (r + 40) (r + slots_offset is) (names_at is r) 40
      (slots_offset is) (names_offset is) (entries is r ++ (names is r ++ end is r))
      (names is r ++ end is r) (end is r) few refl refl refl (omega arith) (lookups_there is r)
      (slots_there is r) (names_there is r)

  pub tables_read : length is < max_count → imports_in ss (record { rva = r; size = 40 })
      ≡ Ok (imported (r + slots_offset is) is)
  tables_read few =
      let d = library_there is r in
      let look : r + 40 ≡ lookups (field 4 d 0) (field 4 d 16) = sym
      (ap (λ n. lookups n (field 4 d 16)) (looks is r (omega arith))
      ∙ lookups_is (r + 40) (field 4 d 16) (omega arith)) in
      let all_entries : entries_of ss 0 d ≡ Ok (imported (r + slots_offset is) is) =
      sym (same_entries ss 0 (r + 40) (r + slots_offset is) d look
      (sym (slots is r (omega arith)))) ∙ all few in
      let some : field 4 d 0 ≢ 0 = let h = looks is r (omega arith) in omega arith in
      let these = imported (r + slots_offset is) is in
      with_directory ss (record { rva = r; size = 40 }) (Ok these)
      (omega arith)
      (one.library_first ss 0 r max_count 4294967295 d refl
      (at_place r 0 20 (omega arith) (omega arith) ∙ first_whole is r) (some_field d some)
      ∙ ap (λ xs. xs >>= λ ys. onto ys (libraries 4294967295 ss (0 + length ys) (r + 20)))
      all_entries
      ∙ ap (onto these) (one.libraries_end ss (0 + length these) (r + 20) 4294967295 4294967294
      (zeros_there is r) refl (at_place (r + 20) 20 20 refl (omega arith) ∙ second_whole is r)
      (is_last is r))
      ∙ ap (λ (t : List Import). Ok t) (append-nil these))
