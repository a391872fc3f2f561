-- An entry that is read where version 1 alone is has that version.
use Rattle.std.proofs.Common.{◌≡◌, ℕ, ◌+◌, ◌%◌, ◌<◌, Bool, true, false, Ok, List, length, take, sym, ap, ◌∙◌, arith}
use Rattle.std.specs.Prelude.{◌==◌, nat_lt, nat_le}
use Rattle.std.proofs.lemmas.Bool.{eqb-true}
use Rattle.std.proofs.lemmas.List.{get_or-take}
use Rattle.seh_num.specs.Answers.{◌>>=◌, unless, or_refused}
use Rattle.pe_image.specs.Image.{Image, stored, only_if, whole, stored_in, section_at}
use Rattle.eh_tables.specs.declared.range.RuntimeFunction.{RuntimeFunction}
use Rattle.eh_tables.specs.declared.refusal.TableErr.{TableErr}
use Rattle.eh_tables.specs.declared.layout.TheConstants.{UNWIND_VERSION}
use Rattle.eh_tables.specs.declared.refusal.TableErr.TheVariants as refusals
use Rattle.eh_tables.specs.Codes as codes
use Rattle.eh_tables.specs.Infos as infos
use Rattle.eh_tables.specs.Infos.{Info, version, flags, are_flags, slots_of, slots_end, trailer_size, is_framed, is_c, stored_info, stored_scope_records, info}
use Rattle.eh_tables.specs.Scopes as scopes
use Rattle.eh_tables.specs.Scopes.{scope_records_in}
use Rattle.eh_tables.specs.Tables.{Entry, entry, parents}
use Rattle.eh_tables.proofs.Headers.{version_kept}
use Rattle.eh_tables.proofs.Lookups.{given, holds_then}

-- the first byte of what is stored from an address on
first_byte : (xs : List ℕ) (n : ℕ) (e : TableErr) (ys : List ℕ) → 0 < n
    → or_refused (whole n (take n xs)) e ≡ Ok ys → version ys ≡ version xs
first_byte xs n e ys lt h = go (length (take n xs) == n) h
  where
    go : (b : Bool) → or_refused (only_if (take n xs) b) e ≡ Ok ys → version ys ≡ version xs
    go true h =
        let same : take n xs ≡ ys = cc in
        ap version (sym same) ∙ ap (λ k. k % 8) (get_or-take n xs 0 0 lt)
    go false h = absurd cc

has_version_1 : (image : Image) (index rva : ℕ) (bytes : List ℕ)
    → stored_info image index rva ≡ Ok bytes → version bytes ≡ UNWIND_VERSION
unfolding stored_info
has_version_1 image index rva bytes h =
    let one = given (unless (rva % 4 == 0) (refusals.Misaligned rva)) _ bytes h in
    let two = given (or_refused (stored image.sections rva 4) (refusals.Truncated rva)) _ bytes
    one.then in
    let head = two.value in
    let three = given (unless (version head == UNWIND_VERSION)
    (refusals.Version index (version head))) _ bytes two.then in
    let four = given (unless (are_flags (flags head)) (refusals.Flags index)) _ bytes three.then in
    let xs = stored_in rva (section_at rva image.sections) in
    first_byte xs (slots_end head + trailer_size head) (refusals.Truncated rva) bytes (omega arith)
    four.then
    ∙ sym (first_byte xs 4 (refusals.Truncated rva) head (omega arith) two.first)
    ∙ eqb-true (version head) UNWIND_VERSION (holds_then (version head == UNWIND_VERSION)
    (refusals.Version index (version head)) three.value three.first)

own_version : (image : Image) (index rva : ℕ) (i : Info) → info image index rva ≡ Ok i
    → version i.bytes ≡ UNWIND_VERSION
unfolding info
own_version image index rva i h =
    let one = given (stored_info image index rva) _ i h in
    let two = given (stored_scope_records image rva one.value) _ i one.then in
    let three = given (codes.checked index (is_framed one.value) 0 255 0 (slots_of one.value)) _ i
    two.then in
    let four = given (scopes.checked index image.size 0 (scope_records_in two.value)) _ i
    three.then in
    let made : infos.info_of one.value (is_c image one.value) two.value ≡ i = cc in
    ap (λ (x : Info). version x.bytes) (sym made)
    ∙ sym (version_kept one.value)
    ∙ has_version_1 image index rva one.value one.first

pub entry_version : (image : Image) (index last : ℕ) (r : RuntimeFunction) (e : Entry)
    → entry image index last r ≡ Ok e → version e.info.bytes ≡ UNWIND_VERSION
unfolding entry
entry_version image index last r e h =
    let one = given (unless (nat_lt r.begin r.end) (refusals.EmptyRange index)) _ e h in
    let two = given (unless (nat_le last r.begin) (refusals.Unsorted index)) _ e one.then in
    let three = given (info image index r.unwind_info) _ e two.then in
    let four = given (parents 31 image index three.value.parent) _ e three.then in
    let made : record { range = r; info = three.value; parents = four.value } ≡ e = cc in
    ap (λ (x : Entry). version x.info.bytes) (sym made)
    ∙ own_version image index r.unwind_info three.value three.first
