use Rattle.std.proofs.Common.{◌≡◌, ◌+◌, ◌++◌}
use Rattle.std.specs.Prelude.{replicate}
use Rattle.arrayvec.specs.ArrayVec.{array_vec_len}
use Rattle.eh_write.proofs.writing.put_zeros.Given as goal

abbrev pub invariant-loop-i : goal.invariant-loop-i
invariant-loop-i l = record {
  items : l.out.items ≡ l.initial.out.items ++ replicate l._i 0;
  len : array_vec_len l.out ≡ array_vec_len l.initial.out + l._i;
}
