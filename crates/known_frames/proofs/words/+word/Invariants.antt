use Rattle.std.proofs.Common.{length}
use Rattle.known_frames.proofs.words.+word.Given as goal

abbrev pub decreases-word : goal.decreases-word
decreases-word l = length l.words.now
