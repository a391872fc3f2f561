use Rattle.std.proofs.Common.{◌≡◌, ◌++◌, ◌≤◌, length, take, drop}
use Rattle.std.specs.List.{flat_map}
use Rattle.eh_write.specs.Words.{scope_record_bytes, scope_bytes}
use Rattle.eh_write.proofs.writing.write_scopes.Given as goal

abbrev pub invariant-loop-row : goal.invariant-loop-row
invariant-loop-row l = record {
  same : l.to.items ++ flat_map scope_record_bytes (drop l.row-index l.rows)
      ≡ l.fn.to.items ++ scope_bytes l.rows;
  front : take (length l.fn.to.items) l.to.items ≡ l.fn.to.items;
  before : l.before ≡ length l.fn.to.items;
  within : length l.fn.to.items ≤ length l.to.items;
}
