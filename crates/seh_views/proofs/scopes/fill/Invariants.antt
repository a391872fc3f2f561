use Rattle.std.proofs.Common.{◌≡◌, length}
use Rattle.seh_views.specs.Scopes.{scopes_from}
use Rattle.seh_views.proofs.scopes.fill.Given as goal

abbrev pub invariant-loop-row : goal.invariant-loop-row
invariant-loop-row l = record {
  can : (goal.iterator-loop-row).can_next l.row-iterator;
  ends : (goal.iterator-loop-row).is_finite l.row-iterator;
  room : length l.scopes ≡ length l.fn.scopes;
  rest : scopes_from l.rva l.count l.row-iterator l.scopes
      ≡ scopes_from l.rva 0 l.fn.records l.fn.scopes;
}
