-- In a table that was read whole, the entry that covers an address is the one that a look-up finds.
use Rattle.std.proofs.Common.{◌≡◌, ℕ, suc, ◌+◌, Bool, true, false, Option, Some, None, Ok, List, [], ◌∷◌, get_or, ◌⊎◌, inl, inr, refl, sym, ap, ◌∙◌, arith}
use Rattle.pe_image.specs.Image.{Image}
use Rattle.seh_num.specs.Answers.{◌>>=◌}
use Rattle.eh_tables.specs.Answer.{Table}
use Rattle.eh_tables.specs.declared.range.RuntimeFunction.{RuntimeFunction}
use Rattle.eh_tables.specs.Tables.{Entry, entry, Tables, entry_at, no_range, entries, entries_of, covers_address, entry_or, holding, TablesAreWhole}
use Rattle.eh_tables.specs.Covering.{index_or, index_from}
use Rattle.eh_tables.specs.declared.layout.TheConstants.{UNWIND_VERSION}
use Rattle.eh_tables.specs.Infos.{version}
use Rattle.eh_tables.specs.EitherEntries as either
use Rattle.eh_tables.proofs.EitherAlike.{reads_alike}
use Rattle.abi_unwind.proofs.EntryVersions.{entry_version}
use Rattle.eh_tables.proofs.Lookups.{split, end_from, end_of_rest, first_end}

-- an entry covers the address: which one, and that it is read
record Covering (image : Image) (index last rva : ℕ) (rs : List RuntimeFunction)
    (es : List Entry) : Type 0 where
  place : ℕ
  found : Entry
  index_is : index_from index rva rs ≡ Some (index + place)
  holds : holding rva es ≡ Some found
  reads : entry image (index + place) (end_from last rs place) (get_or rs place no_range)
      ≡ Ok found

abbrev NoneCovers : ℕ → ℕ → List RuntimeFunction → List Entry → Type 0
NoneCovers index rva rs es = (index_from index rva rs ≡ None) × (holding rva es ≡ None)

abbrev Found : Image → ℕ → ℕ → ℕ → List RuntimeFunction → List Entry → Type 0
Found image index last rva rs es =
    NoneCovers index rva rs es ⊎ Covering image index last rva rs es

looked_for : (image : Image) (index last rva : ℕ) (rs : List RuntimeFunction) (es : List Entry)
    → entries image index last rs ≡ Ok es → Found image index last rva rs es
looked_for image index last rva [] [] h = inl (refl, refl)
looked_for image index last rva [] (e ∷ es) h = absurd cc
looked_for image index last rva (r ∷ rs) es h =
    let s = split image index last r rs es h in
    go s.head s.rest s.is s.read.range s.all (covers_address rva r) refl
    (looked_for image (index + 1) r.end rva rs s.rest s.others)
  where
    go : (head : Entry) (rest : List Entry) → entry image index last r ≡ Ok head → head.range ≡ r
        → es ≡ head ∷ rest → (b : Bool) → covers_address rva r ≡ b
        → Found image (index + 1) r.end rva rs rest → Found image index last rva (r ∷ rs) es
    go head rest is same all true b others =
        let e : index ≡ index + 0 = omega arith in
        inr (record {
          place = 0;
          found = head;
          index_is = ap (index_or (index_from (index + 1) rva rs) index) b
              ∙ ap (λ n. Some n) e;
          holds = ap (holding rva) all
              ∙ ap (entry_or (holding rva rest) head) (ap (covers_address rva) same ∙ b);
          reads = ap (λ n. entry image n last r) (sym e) ∙ is;
        })
    go head rest is same all false b (inl none) = inl (
      ap (index_or (index_from (index + 1) rva rs) index) b ∙ none.0,
      ap (holding rva) all
          ∙ ap (entry_or (holding rva rest) head) (ap (covers_address rva) same ∙ b)
          ∙ none.1,
    )
    go head rest is same all false b (inr c) =
        let e : index + 1 + c.place ≡ index + suc c.place = omega arith in
        inr (record {
          place = suc c.place;
          found = c.found;
          index_is = ap (index_or (index_from (index + 1) rva rs) index) b ∙ c.index_is
              ∙ ap (λ n. Some n) e;
          holds = ap (holding rva) all
              ∙ ap (entry_or (holding rva rest) head) (ap (covers_address rva) same ∙ b)
              ∙ c.holds;
          reads = ap (λ n. entry image n (end_from last (r ∷ rs) (suc c.place))
              (get_or rs c.place no_range)) (sym e)
              ∙ ap (λ n. entry image (index + 1 + c.place) n (get_or rs c.place no_range))
              (sym (end_of_rest last r rs c.place))
              ∙ c.reads;
        })

-- the entry of an index that was found
read_at : (t : Tables) (rva : ℕ) (c : Covering t.image 0 0 rva t.ranges (entries_of t))
    → entry_at t c.place ≡ Ok c.found
read_at t rva c =
    let e : c.place ≡ 0 + c.place = omega arith in
    ap (λ n. entry t.image c.place n (get_or t.ranges c.place no_range)) (first_end t c.place)
    ∙ ap (λ n. entry t.image n (end_from 0 t.ranges c.place) (get_or t.ranges c.place no_range)) e
    ∙ c.reads

-- the entry that is found is the one that a look-up finds, and its info has version 1
pub record IsFoundAlike (t : Tables) (rva : ℕ) : Type 0 where
  pub covering : either.entry_covering t rva ≡ Ok (holding rva (entries_of t))
  pub version : (e : Entry) → holding rva (entries_of t) ≡ Some e
      → version e.info.bytes ≡ UNWIND_VERSION

pub finds_alike : (t : Tables) (rva : ℕ) → TablesAreWhole t → IsFoundAlike t rva
finds_alike t rva w = go (looked_for t.image 0 0 rva t.ranges (entries_of t) w.whole)
  where
    none : (e : Entry) → holding rva (entries_of t) ≡ None → holding rva (entries_of t) ≡ Some e
        → version e.info.bytes ≡ UNWIND_VERSION
    none e h k = absurd cc

    one : {x y : Entry} → Some x ≡ Some y → x ≡ y
    one e = cc

    go : Found t.image 0 0 rva t.ranges (entries_of t) → IsFoundAlike t rva
    go (inl n) =
        let same = ap (λ (o : Option Entry). (let a : Table (Option Entry) = Ok o in a))
        (sym n.1) in
        record {
          covering = ap (either.entry_asked t) n.0 ∙ same;
          version = λ e h. none e n.1 h;
        }
    go (inr c) =
        let same = ap (λ (o : Option Entry). (let a : Table (Option Entry) = Ok o in a))
        (sym c.holds) in
        let e : 0 + c.place ≡ c.place = omega arith in
        let index = c.index_is ∙ ap (λ n. Some n) e in
        record {
          covering = ap (either.entry_asked t) index
              ∙ ap (λ (r : Table Entry). r >>= λ x. Ok (Some x))
              (reads_alike t c.place c.found (read_at t rva c)) ∙ same;
          version = λ x h. ap (λ (y : Entry). version y.info.bytes) (one (sym h ∙ c.holds))
              ∙ entry_version t.image c.place _ _ c.found (read_at t rva c);
        }
