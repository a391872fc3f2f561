use Rattle.std.proofs.Common.{length}
use Rattle.known_frames.proofs.less.+words_say_less.Given as goal

abbrev pub decreases-words_say_less : goal.decreases-words_say_less
decreases-words_say_less l = length l.less.now
