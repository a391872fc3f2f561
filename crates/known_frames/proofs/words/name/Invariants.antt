use Rattle.std.proofs.Common.{◌≡◌}
use Rattle.known_frames.proofs.words.name.Given as goal

abbrev pub invariant-loop-k : goal.invariant-loop-k
invariant-loop-k l = l.words ≡ l.initial.words
