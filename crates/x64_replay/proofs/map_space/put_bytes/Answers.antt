use Rattle.std.proofs.Common.{◌/◌, ap, ◌∙◌, arith}
use Rattle.x64_memory.proofs.Paging.{put_step, digit_later}
use Rattle.x64_replay.proofs.map_space.put_bytes.Goals as goal

pub loop-i-preserved : goal.loop-i-preserved
loop-i-preserved c = record {
  places = λ j. put_step c.args.bytes.now c.loop-i.bytes c.args.from c.loop-i.i c.args.value
      c.loop-i.rest c.loop-i.invariant.places c.loop-i.invariant.rest (omega arith) j;
  rest = ap (λ r. r / 256) c.loop-i.invariant.rest ∙ digit_later c.args.value c.loop-i.i;
}
