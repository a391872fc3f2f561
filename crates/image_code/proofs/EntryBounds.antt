-- The entries of a table that was read from octets end below 4 GiB.
use Rattle.std.proofs.Common.{◌≡◌, ℕ, zero, suc, ◌+◌, ◌/◌, ◌%◌, ◌^◌, ◌<◌, Bool, true, false, ◌==◌, List, [], ◌∷◌, length, drop, Option, Some, None, Ok, Err, refl, subst}
use Rattle.std.specs.Prelude.{nat_lt, nat_le, All}
use Rattle.std.specs.List.{AllByRecursion}
use Rattle.std.proofs.lemmas.List.Elements.{All-from_recursion}
use Rattle.seh_num.specs.Answers.{unless, or_refused, prepend, ◌>>=◌}
use Rattle.pe_image.specs.declared.directory.DataDirectory.{DataDirectory}
use Rattle.pe_image.specs.Image.{Image, stored}
use Rattle.pe_image.specs.Reading.{IsImage}
use Rattle.eh_tables.specs.declared.layout.TheConstants.{MOST_PARENTS, RUNTIME_FUNCTION_SIZE}
use Rattle.eh_tables.specs.declared.range.RuntimeFunction.{RuntimeFunction}
use Rattle.eh_tables.specs.declared.refusal.TableErr.{TableErr}
use Rattle.eh_tables.specs.declared.refusal.TableErr.TheVariants as refusals
use Rattle.eh_tables.specs.Answer.{Table}
use Rattle.eh_tables.specs.Infos.{info}
use Rattle.eh_tables.specs.Tables.{Entry, Tables, entry, parents, ranges, ranges_in, stored_ranges, unless_none, directory, entries, entries_of, covers_address, entry_or, holding}
use Rattle.image_code.specs.Frames.{IsTableOf}
use Rattle.image_code.proofs.Octets.{AreOctets, dropped, number_below, stored_are_octets}

pub record IsBoundedEntry (e : Entry) : Type 0 where
  pub end : e.range.end < 2 ^ 32

-- ---- answers

record Given {A B : Type 0} (t : Table A) (f : A → Table B) (y : B) : Type 0 where
  value : A
  first : t ≡ Ok value
  then : f value ≡ Ok y

given : {A B : Type 0} (t : Table A) (f : A → Table B) (y : B) → t >>= f ≡ Ok y → Given t f y
given (Ok x) f y h = record { value = x; first = refl; then = h }
given (Err e) f y h = cc

is_some : {A : Type 0} (o : Option A) (e : TableErr) (x : A) → or_refused o e ≡ Ok x → o ≡ Some x
is_some None e x h = absurd cc
is_some (Some y) e x h = cc

module _ (file : List ℕ) (image : Image) (read : IsImage file image) (octets : AreOctets file) where
  -- ---- an entry

  entry_bounded : (index last : ℕ) (r : RuntimeFunction) (e : Entry) → r.end < 2 ^ 32
      → entry image index last r ≡ Ok e → IsBoundedEntry e
  unfolding entry
  entry_bounded index last r e low h =
      let one = given (unless (nat_lt r.begin r.end) (refusals.EmptyRange index)) _ e h in
      let two = given (unless (nat_le last r.begin) (refusals.Unsorted index)) _ e one.then in
      let three = given (info image index r.unwind_info) _ e two.then in
      let four = given (parents MOST_PARENTS image index three.value.parent) _ e three.then in
      same (record { range = r; info = three.value; parents = four.value }) four.then
      (record { end = low })
    where
      same : (d : Entry) → (let t : Table Entry = Ok d in t) ≡ Ok e → IsBoundedEntry d
          → IsBoundedEntry e
      same d h near = let g : d ≡ e = cc in subst IsBoundedEntry g near

  entries_bounded : (index last : ℕ) (rs : List RuntimeFunction) (es : List Entry)
      → AllByRecursion (λ r. r.end < 2 ^ 32) rs → entries image index last rs ≡ Ok es
      → AllByRecursion IsBoundedEntry es
  entries_bounded index last [] es low h = let e : [] ≡ es = cc in
      subst (AllByRecursion IsBoundedEntry) e tt
  entries_bounded index last (r ∷ rs) es low h =
      let one = given (entry image index last r) _ es h in
      next one.value (entries image (index + 1) r.end rs) one.then
      (entry_bounded index last r one.value low.0 one.first)
      (λ qs g. entries_bounded (index + 1) r.end rs qs low.1 g)
    where
      next : (e : Entry) (t : Table (List Entry)) → prepend e t ≡ Ok es → IsBoundedEntry e
          → ((qs : List Entry) → t ≡ Ok qs → AllByRecursion IsBoundedEntry qs)
          → AllByRecursion IsBoundedEntry es
      next e (Ok qs) g first rest = let same : e ∷ qs ≡ es = cc in
          subst (AllByRecursion IsBoundedEntry) same (first, rest qs refl)
      next e (Err x) g first rest = absurd cc

  -- ---- the directory

  ranges_low : (n : ℕ) (bytes : List ℕ) → AreOctets bytes
      → AllByRecursion (λ r. r.end < 2 ^ 32) (ranges n bytes)
  ranges_low zero bytes all = tt
  ranges_low (suc n) bytes all = (
    number_below 4 (drop 4 bytes) (dropped 4 bytes all),
    ranges_low n (drop RUNTIME_FUNCTION_SIZE bytes) (dropped RUNTIME_FUNCTION_SIZE bytes all),
  )

  stored_low : (d : DataDirectory) (rs : List RuntimeFunction) → stored_ranges image d ≡ Ok rs
      → AllByRecursion (λ r. r.end < 2 ^ 32) rs
  stored_low d rs h =
      let one = given (unless (d.rva % 4 == 0) (refusals.Misaligned d.rva)) _ rs h in
      let two = given (or_refused (stored image.sections d.rva d.size) (refusals.Truncated d.rva))
      _ rs one.then in
      let three = given (unless (d.size % RUNTIME_FUNCTION_SIZE == 0) (refusals.Truncated d.rva)) _
      rs two.then in
      let all = stored_are_octets file image d.rva d.size two.value read octets
      (is_some (stored image.sections d.rva d.size) (refusals.Truncated d.rva) two.value
      two.first) in
      same (ranges_in two.value) three.then (ranges_low (length two.value / RUNTIME_FUNCTION_SIZE)
      two.value all)
    where
      same : (qs : List RuntimeFunction)
          → (let t : Table (List RuntimeFunction) = Ok qs in t) ≡ Ok rs
          → AllByRecursion (λ r. r.end < 2 ^ 32) qs → AllByRecursion (λ r. r.end < 2 ^ 32) rs
      same qs h low = let g : qs ≡ rs = cc in
          subst (AllByRecursion (λ (r : RuntimeFunction). r.end < 2 ^ 32)) g low

  directory_low : (rs : List RuntimeFunction) → directory image ≡ Ok rs
      → AllByRecursion (λ r. r.end < 2 ^ 32) rs
  unfolding directory
  directory_low rs h = go (image.exceptions.size == 0) h
    where
      go : (b : Bool) → unless_none (stored_ranges image image.exceptions) b ≡ Ok rs
          → AllByRecursion (λ r. r.end < 2 ^ 32) rs
      go true e = let g : [] ≡ rs = cc in
          subst (AllByRecursion (λ (r : RuntimeFunction). r.end < 2 ^ 32)) g tt
      go false e = stored_low image.exceptions rs e

-- ---- all entries

pub bounded_entries : (file : List ℕ) (t : Tables) → IsTableOf file t
    → All IsBoundedEntry (entries_of t)
bounded_entries file t is = All-from_recursion IsBoundedEntry (entries_of t)
    (entries_bounded file t.image is.read is.octets 0 0 t.ranges (entries_of t)
    (directory_low file t.image is.read is.octets t.ranges is.ranges) is.whole.whole)

-- ---- the entry that covers an address

held : (rva : ℕ) (es : List Entry) (e : Entry) → AllByRecursion IsBoundedEntry es
    → holding rva es ≡ Some e → IsBoundedEntry e
held rva [] e all h = absurd cc
held rva (x ∷ es) e all h = go (covers_address rva x.range) (held rva es e all.1) h
  where
    go : (b : Bool) → (holding rva es ≡ Some e → IsBoundedEntry e)
        → entry_or (holding rva es) x b ≡ Some e → IsBoundedEntry e
    go true others g = let same : x ≡ e = cc in subst IsBoundedEntry same all.0
    go false others g = others g

pub bounded_entry : (file : List ℕ) (t : Tables) (rva : ℕ) (e : Entry) → IsTableOf file t
    → holding rva (entries_of t) ≡ Some e → IsBoundedEntry e
bounded_entry file t rva e is h = held rva (entries_of t) e
    (entries_bounded file t.image is.read is.octets 0 0 t.ranges (entries_of t)
    (directory_low file t.image is.read is.octets t.ranges is.ranges) is.whole.whole) h
