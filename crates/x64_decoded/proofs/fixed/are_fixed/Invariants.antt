use Rattle.x64_decoded.specs.Fixed.{AreFixed}
use Rattle.x64_decoded.proofs.fixed.are_fixed.Given as goal

abbrev pub invariant-loop-i : goal.invariant-loop-i
invariant-loop-i g l = AreFixed (g.S.CodeSpace.memory l.space) l.i l.at
