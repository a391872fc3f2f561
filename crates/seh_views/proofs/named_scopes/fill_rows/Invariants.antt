use Rattle.std.proofs.Common.{◌≡◌, length}
use Rattle.eh_tables.specs.Scopes.{scope_records_in}
use Rattle.seh_views.specs.Scopes.{scopes_from}
use Rattle.seh_views.proofs.named_scopes.fill_rows.Given as goal

abbrev pub invariant-loop-rest : goal.invariant-loop-rest
invariant-loop-rest l = record {
  room : length l.scopes ≡ length l.fn.scopes;
  rest : scopes_from l.rva l.count (scope_records_in l.rest) l.scopes
      ≡ scopes_from l.rva 0 (scope_records_in l.rows) l.fn.scopes;
}

abbrev pub decreases-loop-rest : goal.decreases-loop-rest
decreases-loop-rest l = length l.rest
