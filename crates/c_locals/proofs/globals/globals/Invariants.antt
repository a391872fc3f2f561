use Rattle.c_locals.proofs.GlobalPlaces.{StillGlobals}
use Rattle.c_locals.proofs.globals.globals.Given as goal

abbrev pub invariant-loop-g : goal.invariant-loop-g
invariant-loop-g l = StillGlobals l.text l.base l.list l.g-index l.initial.file l.file
