use Rattle.std.proofs.Common.{◌≡◌, ◌+◌, ◌-◌, ◌≤◌, ◌++◌, length}
use Rattle.x64_encode.specs.Words.{little}
use Rattle.x64_encode.proofs.writing.put_number.Given as goal

abbrev pub invariant-loop-i : goal.invariant-loop-i
invariant-loop-i l = record {
  room : length l.into.items + (l.count - l._i) ≤ 15;
  items : l.into.items ++ little (l.count - l._i) l.rest
      ≡ l.fn.into.items ++ little l.count l.value;
}
