use Rattle.std.proofs.Common.{◌≡◌, ℕ}
use Rattle.pe_image.specs.Imports.{imports_of}
use Rattle.host_model.specs.Loading.{with_slots}
use Rattle.image_code.specs.Code.{laid_over}
use Rattle.image_code.proofs.slots.bound_bytes.Given as goal

abbrev pub invariant-loop-import : goal.invariant-loop-import
invariant-loop-import l = record {
  can : (goal.iterator-loop-import).can_next l.import-iterator;
  ends : (goal.iterator-loop-import).is_finite l.import-iterator;
  same : (byte : ℕ → ℕ) → with_slots 0 (laid_over l.bytes byte) l.import-iterator
      ≡ with_slots 0 byte (imports_of l.image);
}
