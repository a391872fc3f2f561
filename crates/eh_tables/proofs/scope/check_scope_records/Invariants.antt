use Rattle.std.proofs.Common.{◌≡◌, ◌+◌, length}
use Rattle.eh_tables.specs.Scopes.{checked}
use Rattle.eh_tables.proofs.scope.check_scope_records.Given as goal

abbrev pub invariant-loop-scope : goal.invariant-loop-scope
invariant-loop-scope l = record {
  can : (goal.iterator-loop-scope).can_next l.scope-iterator;
  ends : (goal.iterator-loop-scope).is_finite l.scope-iterator;
  same : checked l.index l.size l.row l.scope-iterator
      ≡ checked l.index l.size l.first l.fn.scopes;
  room : l.row + length l.scope-iterator ≡ l.first + length l.fn.scopes;
}
