-- Each entry of a table that was read whole was read, with the infos that it is chained to.
use Rattle.std.proofs.Common.{◌≡◌, ℕ, zero, suc, ◌+◌, Bool, true, false, Option, Some, None, Ok, Err, List, [], ◌∷◌, refl, sym, subst, arith}
use Rattle.std.specs.Prelude.{All, Contains}
use Rattle.std.proofs.lemmas.List.Elements.{All-nil, All-cons}
use Rattle.eh_tables.specs.Words.{Image}
use Rattle.eh_tables.specs.declared.range.RuntimeFunction.{RuntimeFunction}
use Rattle.eh_tables.specs.Infos.{Info, info}
use Rattle.seh_num.specs.Answers.{prepend}
use Rattle.eh_tables.specs.Answer.{Table}
use Rattle.eh_tables.specs.Tables.{Entry, Tables, parents, entries, all_entries, or_none, entries_of, TablesAreWhole, covers_address, entry_or, holding}
use Rattle.unwind_check.proofs.ReadEntries.{IsRead, is_read, split, given}

-- a table in which an entry is found was read whole
pub found_whole : (t : Tables) (rva : ℕ) (entry : Entry)
    → holding rva (entries_of t) ≡ Some entry → TablesAreWhole t
found_whole t rva entry h = record { whole = go (all_entries t) refl h }
  where
    go : (o : Table (List Entry)) → all_entries t ≡ o → holding rva (or_none o) ≡ Some entry
        → all_entries t ≡ Ok (or_none o)
    go (Ok es) q h = q
    go (Err x) q h = absurd cc

-- an entry that was read, after others
pub record WasRead (image : Image) (e : Entry) : Type 0 where
  pub index : ℕ
  pub last : ℕ
  pub is : IsRead image index last e.range e

pub all_read : (image : Image) (index last : ℕ) (rs : List RuntimeFunction) (es : List Entry)
    → entries image index last rs ≡ Ok es → All (WasRead image) es
all_read image index last [] es h =
    let same : [] ≡ es = cc in subst (All (WasRead image)) same (All-nil (WasRead image))
all_read image index last (r ∷ rs) es h =
    let s = split image index last r rs es h in
    let read = is_read image index last r s.head s.is in
    subst (All (WasRead image)) (sym s.all) (All-cons (WasRead image) s.head s.rest (record {
      index = index;
      last = last;
      is = subst (λ (q : RuntimeFunction). IsRead image index last q s.head) (sym read.range) read;
    }) (all_read image (index + 1) r.end rs s.rest s.others))

-- the entry that covers an address is one of them
pub held : (rva : ℕ) (es : List Entry) (entry : Entry) → holding rva es ≡ Some entry
    → Contains es entry
held rva [] entry h = absurd cc
held rva (x ∷ es) entry h = go (covers_address rva x.range) h (λ g. held rva es entry g)
  where
    same : (x y : Entry) → Some x ≡ Some y → x ≡ y
    same x y e = cc

    go : (b : Bool) → entry_or (holding rva es) x b ≡ Some entry
        → (holding rva es ≡ Some entry → Contains es entry) → Contains (x ∷ es) entry
    go true g more = (zero, omega arith, same x entry g)
    go false g more =
        let r = more g in
        let lt = r.1 in
        (suc r.0, omega (arith, lt), r.2)

-- ---- the infos that one is chained to

pub none_above : (n : ℕ) (image : Image) (index : ℕ) (o : Option RuntimeFunction) (ps : List Info)
    → o ≡ None → parents n image index o ≡ Ok ps → ps ≡ []
none_above zero image index None ps e h = cc
none_above (suc n) image index None ps e h = cc
none_above n image index (Some r) ps e h = absurd cc

pub record IsAbove (image : Image) (index : ℕ) (r : RuntimeFunction) (n : ℕ)
    (ps : List Info) : Type 0 where
  pub first : Info
  pub others : List Info
  pub all : ps ≡ first ∷ others
  pub own : info image index r.unwind_info ≡ Ok first
  pub rest : parents n image index first.parent ≡ Ok others

pub some_above : (n : ℕ) (image : Image) (index : ℕ) (r : RuntimeFunction) (ps : List Info)
    → parents (suc n) image index (Some r) ≡ Ok ps → IsAbove image index r n ps
some_above n image index r ps h =
    let first = given (info image index r.unwind_info) _ ps h in
    go first.value (parents n image index first.value.parent) refl first.first first.then
  where
    go : (p : Info) (t : Table (List Info)) → parents n image index p.parent ≡ t
        → info image index r.unwind_info ≡ Ok p → prepend p t ≡ Ok ps → IsAbove image index r n ps
    go p (Ok rest) read own h = record {
      first = p;
      others = rest;
      all = cc;
      own = own;
      rest = read;
    }
    go p (Err x) read own h = absurd cc
