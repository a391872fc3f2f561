-- The names of refusals.
use Rattle.std.specs.Prelude.{ℕ, List, codes}
use Rattle.eh_tables.specs.declared.refusal.TableErr.{TableErr}
use Rattle.eh_tables.specs.declared.refusal.TableErr.TheVariants as refusals

abbrev pub refusal_name : TableErr → List ℕ
refusal_name (refusals.Truncated rva) = codes "Truncated"
refusal_name (refusals.Misaligned rva) = codes "Misaligned"
refusal_name (refusals.EmptyRange index) = codes "EmptyRange"
refusal_name (refusals.Unsorted index) = codes "Unsorted"
refusal_name (refusals.Version index found) = codes "Version"
refusal_name (refusals.Flags index) = codes "Flags"
refusal_name (refusals.Op index slot) = codes "Op"
refusal_name (refusals.CodeOrder index slot) = codes "CodeOrder"
refusal_name (refusals.ChainLong index) = codes "ChainLong"
refusal_name (refusals.ScopeRange index row) = codes "ScopeRange"
