use Rattle.std.proofs.Common.{length}
use Rattle.known_frames.proofs.less.+registers_say_less.Given as goal

abbrev pub decreases-registers_say_less : goal.decreases-registers_say_less
decreases-registers_say_less l = length l.known.now
