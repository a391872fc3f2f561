-- The scope records of an entry that hold an address, innermost first: a search asks them in this
-- order (Microsoft x64 ABI, "Language-specific handler"; Windows headers, `winnt.h`,
-- SCOPE_TABLE_AMD64).
--
-- The main definition: `scopes_from`.
use Rattle.std.specs.Prelude.{◌≡◌, ℕ, ◌+◌, Bool, true, false, ◌&&◌, nat_le, nat_lt, List, [], ◌∷◌, length, Option, Some, None, Ok, Err, slice_set}
use Rattle.seh_num.specs.Answers.{◌>>=◌}
use Rattle.pe_image.specs.declared.image_layout.ImageLayout.{ImageLayout}
use Rattle.pe_image.specs.Image.{Image}
use Rattle.eh_tables.specs.declared.scope.ScopeRecord.{ScopeRecord}
use Rattle.eh_tables.specs.Covering.{entry_covering}
use Rattle.eh_tables.specs.Tables.{Entry}
use Rattle.seh_views.specs.declared.c_types.SehScope.{SehScope}
use Rattle.seh_views.specs.declared.c_types.SehStatus.{SehStatus}
use Rattle.seh_views.specs.declared.refusal.Refusal.TheVariants as refusals
use Rattle.seh_views.specs.declared.scopes.Filled as code
use Rattle.seh_views.specs.Openings.{Answer, of_table, opened_whole, table_of}
use Rattle.seh_views.specs.Shapes.{c_scope}
use Rattle.seh_views.specs.Statuses.{ok, more, no_function}

abbrev pub is_around : ℕ → ScopeRecord → Bool
is_around rva s = nat_le s.begin rva && nat_lt rva s.end

-- an array of scopes, how many of them were written, and why no more
pub record Filled : Type 0 where
  pub scopes : List SehScope
  pub count : ℕ
  pub status : SehStatus

abbrev pub filled_of : List SehScope → code.Filled → Filled
filled_of out f = record { scopes = out; count = f.count; status = f.status }

abbrev pub filled : List SehScope → ℕ → SehStatus → Filled
filled out k s = record { scopes = out; count = k; status = s }

-- the k-th scope, where there is room for it, and the others
abbrev pub if_room : (List SehScope → Filled) → List SehScope → ℕ → SehScope → Bool → Filled
if_room others out k s true = others (slice_set out k s)
if_room others out k s false = filled out k more

abbrev pub if_around : Filled → Filled → Bool → Filled
if_around this others true = this
if_around this others false = others

-- the scope records that hold an address, as far as an array has room
abbrev pub scopes_from : ℕ → ℕ → List ScopeRecord → List SehScope → Filled
scopes_from rva k [] out = filled out k ok
scopes_from rva k (s ∷ ss) out =
    if_around (if_room (scopes_from rva (k + 1) ss) out k (c_scope s) (nat_lt k (length out)))
    (scopes_from rva k ss out) (is_around rva s)

-- ---- from the bytes of an image, whose imports are read, since they tell which handler has scopes

abbrev pub scopes_of : ℕ → List SehScope → Option Entry → Filled
scopes_of rva out None = filled out 0 no_function
scopes_of rva out (Some e) = scopes_from rva 0 e.info.scopes out

abbrev pub scopes_within : Image → ℕ → List SehScope → Answer Filled
scopes_within image rva out = do
  t ← table_of image
  o ← of_table (entry_covering t rva)
  Ok (scopes_of rva out o)

abbrev pub scopes_in : ImageLayout → List ℕ → ℕ → List SehScope → Answer Filled
scopes_in layout bytes rva out = do
  image ← opened_whole layout bytes
  scopes_within image rva out

-- a call gives these, with the array before and after; or memory is wanting
abbrev pub GivesScopes : List SehScope → List SehScope → Answer code.Filled → Answer Filled → Type 0
GivesScopes old new (Ok f) given = given ≡ Ok (filled_of new f)
GivesScopes old new (Err refusals.NoMemory) given = new ≡ old
GivesScopes old new (Err e) given = (given ≡ Err e) × (new ≡ old)
