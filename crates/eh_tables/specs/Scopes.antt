-- The records of the C handler's scope tables.
--
-- The main definition: `checked`.
use Rattle.std.specs.Prelude.{ℕ, zero, suc, ◌+◌, ◌/◌, Bool, ◌&&◌, nat_lt, List, [], ◌∷◌, length, drop, Ok}
use Rattle.pe_image.specs.Field.{field}
use Rattle.eh_tables.specs.declared.layout.TheConstants.{SCOPE_RECORD_SIZE}
use Rattle.eh_tables.specs.declared.scope.ScopeRecord.{ScopeRecord}
use Rattle.eh_tables.specs.declared.refusal.TableErr.TheVariants as refusals
use Rattle.seh_num.specs.Answers.{unless, ◌>>=◌}
use Rattle.eh_tables.specs.Answer.{Table}

abbrev pub scope_record : List ℕ → ScopeRecord
scope_record bytes =
    record {
      begin = field 4 bytes 0;
      end = field 4 bytes 4;
      handler_address = field 4 bytes 8;
      jump_target = field 4 bytes 12;
    }

-- so many rows, one after another
abbrev pub rows : ℕ → List ℕ → List ScopeRecord
rows zero bytes = []
rows (suc n) bytes = scope_record bytes ∷ rows n (drop SCOPE_RECORD_SIZE bytes)

abbrev pub scope_records_in : List ℕ → List ScopeRecord
scope_records_in bytes = rows (length bytes / SCOPE_RECORD_SIZE) bytes

-- a range that isn't empty, and all addresses in an image of that size
abbrev pub is_within : ℕ → ScopeRecord → Bool
is_within size r =
    nat_lt r.begin r.end && nat_lt r.begin size && nat_lt r.end size && nat_lt r.handler_address
    size && nat_lt r.jump_target size

-- each record of a scope table has a range that isn't empty, and no address at or above the image's
-- size
abbrev pub checked : ℕ → ℕ → ℕ → List ScopeRecord → Table Unit
checked index size n [] = Ok tt
checked index size n (r ∷ rs) = do
  _ ← unless (is_within size r) (refusals.ScopeRange index n)
  checked index size (n + 1) rs
