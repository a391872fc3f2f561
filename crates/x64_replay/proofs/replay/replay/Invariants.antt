use Rattle.std.proofs.Common.{◌≡◌, ◌≤◌, ◌++◌, drop, length, vec_len}
use Rattle.std.specs.Prelude.{vec_capacity}
use Rattle.x64_replay.specs.Replays.{answers_of, memory_after_all}
use Rattle.x64_replay.proofs.replay.replay.Given as goal

abbrev pub invariant-loop-op : goal.invariant-loop-op
invariant-loop-op g l = record {
  answers : l.answers.items ++ answers_of (g.S.CodeSpace.memory l.space) (drop l.op-index l.ops)
      ≡ answers_of (g.S.CodeSpace.memory l.fn.space) l.ops;
  after : memory_after_all (g.S.CodeSpace.memory l.space) (drop l.op-index l.ops)
      ≡ memory_after_all (g.S.CodeSpace.memory l.fn.space) l.ops;
  count : vec_len l.answers ≡ l.op-index;
  room : length l.ops ≤ vec_capacity l.answers;
}
