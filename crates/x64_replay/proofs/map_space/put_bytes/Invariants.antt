use Rattle.std.proofs.Common.{◌≡◌, ◌/◌, ◌^◌, ℕ, get_or}
use Rattle.x64_memory.specs.Pages.{page_with_number}
use Rattle.x64_replay.proofs.map_space.put_bytes.Given as goal

abbrev pub invariant-loop-i : goal.invariant-loop-i
invariant-loop-i l = record {
  places : (j : ℕ) → get_or l.bytes j 0 ≡ page_with_number l.fn.bytes l.from l.i l.value j;
  rest : l.rest ≡ l.value / 256 ^ l.i;
}
