use Rattle.std.proofs.Common.{◌≡◌}
use Rattle.c_stacked.proofs.Walked.{ArgumentsLeft}
use Rattle.c_stacked.proofs.addresses.+mark.Given as goal

abbrev pub invariant-mark_arguments-loop-argument : goal.invariant-mark_arguments-loop-argument
invariant-mark_arguments-loop-argument l = ArgumentsLeft l.arguments l.argument-index l.marks
    ≡ ArgumentsLeft l.arguments 0 l.initial.marks
