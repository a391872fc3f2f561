use Rattle.std.proofs.Common.{◌≡◌, ℕ, option_map}
use Rattle.std.specs.Ordering.{nat_cmp}
use Rattle.std.specs.BTreeMap.{get}
use Rattle.pe_image.specs.Bound.{bound_name}
use Rattle.pe_image.proofs.LastBound.{bound_after}
use Rattle.pe_image.proofs.imports.bound_names.Given as goal

abbrev pub invariant-loop-import : goal.invariant-loop-import
invariant-loop-import l = record {
  can : (goal.iterator-loop-import).can_next l.import-iterator;
  ends : (goal.iterator-loop-import).is_finite l.import-iterator;
  names : (slot : ℕ) → bound_after slot (option_map (λ b. b.now) (get nat_cmp l.names slot))
      l.import-iterator ≡ bound_name slot l.fn.imports;
}
