-- An entry of version 1 is read alike where version 2 is read too.
use Rattle.std.proofs.Common.{◌≡◌, ℕ, zero, suc, ◌+◌, ◌*◌, ◌%◌, ◌<◌, Bool, true, false, Option, Some, None, Ok, List, length, take, drop, sym, ap, ◌∙◌, arith}
use Rattle.std.specs.Prelude.{◌==◌, ◌||◌, if◌then◌else◌, nat_lt, nat_le}
use Rattle.std.proofs.lemmas.Bool.{eqb-true}
use Rattle.std.proofs.lemmas.List.{get_or-take}
use Rattle.pe_image.specs.Image.{only_if, whole, stored_in, section_at}
use Rattle.eh_tables.specs.Words.{Image, RuntimeFunction, TableErr, ◌>>=◌, unless, prepend, or_refused, Table, Info, stored, stored_info, stored_scope_records, scope_records_in, info, Entry, entry, parents}
use Rattle.eh_tables.specs.declared.layout.TheConstants.{UNWIND_VERSION, UNWIND_VERSION_2}
use Rattle.eh_tables.specs.declared.refusal.TableErr.TheVariants as refusals
use Rattle.eh_tables.specs.Codes as codes
use Rattle.eh_tables.specs.Infos as infos
use Rattle.eh_tables.specs.Infos.{version, flags, are_flags, slots_of, slots_end, trailer_size, is_framed, is_c}
use Rattle.eh_tables.specs.Scopes as scopes
use Rattle.eh_tables.specs.EitherInfos as either
use Rattle.eh_tables.specs.EitherInfos.{is_read, leading, listed}
use Rattle.eh_tables.specs.EitherEntries as entries
use Rattle.eh_tables.specs.EitherEntries.{ReadsVersion1Alike}
use Rattle.eh_tables.proofs.KnownInfos.{carried}
use Rattle.eh_tables.proofs.Lookups.{given, prepended, holds_then}

-- ---- what is stored

test_alike : (v : ℕ) (e : TableErr) (u : Unit {0}) → unless (v == UNWIND_VERSION) e ≡ Ok u
    → unless (is_read true v) e ≡ Ok u
test_alike v e u h = go (v == UNWIND_VERSION_2) (v == UNWIND_VERSION) h
  where
    go : (a b : Bool) → unless b e ≡ Ok u → unless (a || b) e ≡ Ok u
    go true true h = h
    go true false h = absurd cc
    go false b h = h

stored_alike : (image : Image) (index rva : ℕ) (bytes : List ℕ)
    → stored_info image index rva ≡ Ok bytes → either.stored_info true image index rva ≡ Ok bytes
unfolding stored_info either.stored_info
stored_alike image index rva bytes h =
    carried (unless (rva % 4 == 0) (refusals.Misaligned rva)) _ _ _ bytes (λ y e. e)
    (λ y. carried (or_refused (stored image.sections rva 4) (refusals.Truncated rva)) _ _ _ bytes
    (λ z e. e)
    (λ head. carried (unless (version head == UNWIND_VERSION)
    (refusals.Version index (version head)))
    (unless (is_read true (version head)) (refusals.Version index (version head))) _ _ bytes
    (test_alike (version head) (refusals.Version index (version head))) (λ z e. e))) h

-- the first byte of what is stored from an address on
first_byte : (xs : List ℕ) (n : ℕ) (e : TableErr) (ys : List ℕ) → 0 < n
    → or_refused (whole n (take n xs)) e ≡ Ok ys → version ys ≡ version xs
first_byte xs n e ys lt h = go (length (take n xs) == n) h
  where
    go : (b : Bool) → or_refused (only_if (take n xs) b) e ≡ Ok ys → version ys ≡ version xs
    go true h =
        let same : take n xs ≡ ys = cc in
        ap version (sym same) ∙ ap (λ k. k % 8) (get_or-take n xs 0 0 lt)
    go false h = absurd cc

has_version_1 : (image : Image) (index rva : ℕ) (bytes : List ℕ)
    → stored_info image index rva ≡ Ok bytes → version bytes ≡ UNWIND_VERSION
unfolding stored_info
has_version_1 image index rva bytes h =
    let one = given (unless (rva % 4 == 0) (refusals.Misaligned rva)) _ bytes h in
    let two = given (or_refused (stored image.sections rva 4) (refusals.Truncated rva)) _ bytes
    one.then in
    let head = two.value in
    let three = given (unless (version head == UNWIND_VERSION)
    (refusals.Version index (version head))) _ bytes two.then in
    let four = given (unless (are_flags (flags head)) (refusals.Flags index)) _ bytes three.then in
    let xs = stored_in rva (section_at rva image.sections) in
    first_byte xs (slots_end head + trailer_size head) (refusals.Truncated rva) bytes (omega arith)
    four.then
    ∙ sym (first_byte xs 4 (refusals.Truncated rva) head (omega arith) two.first)
    ∙ eqb-true (version head) UNWIND_VERSION (holds_then (version head == UNWIND_VERSION)
    (refusals.Version index (version head)) three.value three.first)

-- ---- an info

-- what is read of its bytes, with so many slots of epilogues
abbrev by_bytes : Image → ℕ → ℕ → List ℕ → ℕ → Table Info
by_bytes image index rva bytes n = do
  rows ← stored_scope_records image rva bytes
  _ ← codes.checked index (is_framed bytes) n 255 0 (drop (2 * n) (slots_of bytes))
  _ ← scopes.checked index image.size 0 (scope_records_in rows)
  Ok (record (infos.info_of bytes (is_c image bytes) rows) {
    codes = codes.codes (is_framed bytes) 0 (drop (2 * n) (slots_of bytes));
  })

unlisted : (bytes : List ℕ) → version bytes ≡ UNWIND_VERSION → listed bytes ≡ 0
unlisted bytes e = ap (λ v. if v == UNWIND_VERSION_2 then leading (slots_of bytes) else 0) e

info_alike : (image : Image) (index rva : ℕ) (i : Info) → info image index rva ≡ Ok i
    → either.info image index rva ≡ Ok i
unfolding info either.info
info_alike image index rva i h =
    let one = given (stored_info image index rva) (λ bytes. by_bytes image index rva bytes 0) i h in
    ap (λ (t : Table (List ℕ)). t >>= λ bytes. by_bytes image index rva bytes (listed bytes))
    (stored_alike image index rva one.value one.first)
    ∙ ap (by_bytes image index rva one.value)
    (unlisted one.value (has_version_1 image index rva one.value one.first))
    ∙ one.then

-- ---- an entry

parents_alike : (n : ℕ) (image : Image) (index : ℕ) (p : Option RuntimeFunction) (is : List Info)
    → parents n image index p ≡ Ok is → entries.parents n image index p ≡ Ok is
parents_alike zero image index None is h = h
parents_alike zero image index (Some r) is h = h
parents_alike (suc n) image index None is h = h
parents_alike (suc n) image index (Some r) is h =
    let one = given (info image index r.unwind_info)
    (λ i. prepend i (parents n image index i.parent)) is h in
    let two = prepended one.value (parents n image index one.value.parent) is one.then in
    ap (λ (t : Table Info). t >>= λ i. prepend i (entries.parents n image index i.parent))
    (info_alike image index r.unwind_info one.value one.first)
    ∙ ap (prepend one.value) (parents_alike n image index one.value.parent two.rest two.is)
    ∙ ap (λ (xs : List Info). (let t : Table (List Info) = Ok xs in t)) (sym two.all)

entry_alike : (image : Image) (index last : ℕ) (r : RuntimeFunction) (e : Entry)
    → entry image index last r ≡ Ok e → entries.entry image index last r ≡ Ok e
unfolding entry entries.entry
entry_alike image index last r e h =
    carried (unless (nat_lt r.begin r.end) (refusals.EmptyRange index)) _ _ _ e (λ y x. x)
    (λ y. carried (unless (nat_le last r.begin) (refusals.Unsorted index)) _ _ _ e (λ z x. x)
    (λ z. carried (info image index r.unwind_info) (either.info image index r.unwind_info) _ _ e
    (info_alike image index r.unwind_info)
    (λ i. carried (parents 31 image index i.parent) (entries.parents 31 image index i.parent) _ _ e
    (parents_alike 31 image index i.parent) (λ a x. x)))) h

pub reads_alike : ReadsVersion1Alike
reads_alike t index e h = entry_alike t.image index _ _ e h
