-- What is known of scope tables that were gone over.
use Rattle.std.specs.Prelude.{◌≡◌, ℕ, Bool, true, false, ◌||◌, ◌==◌, List, [], ◌∷◌, Ok}
use Rattle.std.specs.Ordering.{nat_cmp}
use Rattle.std.specs.BTreeSet.{BTreeSet, contains}
use Rattle.pe_image.specs.Image.{Image}
use Rattle.eh_tables.specs.Infos.{Info, info}
use Rattle.eh_tables.specs.Records.{record_at}
use Rattle.eh_tables.specs.SeenRecords.{WasSeen}
use Rattle.eh_tables.specs.declared.scope.ScopeRecord.{ScopeRecord}
use Rattle.eh_tables.specs.declared.seen_records.SeenRecords.{SeenRecords}
use Rattle.host_model.specs.declared.funclet.Funclet.{Funclet}

-- whether a funclet begins at an address
abbrev pub has : ℕ → List Funclet → Bool
has a [] = false
has a (f ∷ fs) = (a == f.address) || has a fs

-- whether the funclet of a row is there, where it has one
abbrev pub has_row : ScopeRecord → List Funclet → Bool
has_row r fs = (r.handler_address == 1) || has r.handler_address fs

-- the funclets of all rows are there
abbrev pub AreGathered : List ScopeRecord → List Funclet → Type 0
AreGathered [] fs = Unit {0}
AreGathered (r ∷ rows) fs = (has_row r fs ≡ true) × AreGathered rows fs

-- the rows of the infos at the addresses that were seen are gathered
abbrev pub AreSeen : Image → BTreeSet ℕ → List Funclet → Type 0
AreSeen image seen fs =
    (rva : ℕ) → contains nat_cmp seen rva ≡ true → (index : ℕ) (i : Info)
    → info image index rva ≡ Ok i → AreGathered i.scopes fs

-- the rows at the addresses that were seen are gathered
abbrev pub AreRowsSeen : Image → SeenRecords → List Funclet → Type 0
AreRowsSeen image seen fs =
    (rva : ℕ) → WasSeen seen rva → has_row (record_at image rva) fs ≡ true
