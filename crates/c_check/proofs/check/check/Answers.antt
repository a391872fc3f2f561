use Rattle.std.proofs.Common.{map}
use Rattle.c_check.proofs.check.check.Goals as goal
use Rattle.c_check.proofs.Programs.{nothing_broken, least_broken}
use Rattle.c_check.specs.Words.{program_of, external_declaration}
use Rattle.c_resolved.proofs.SoundPrograms.{seen_is_sound}

pub invariant_of-result : goal.invariant_of-result
invariant_of-result c =
    let text = c.args.text.now in
    let xs = map external_declaration c.args.xs.now in
    let p = c.in_ok-program.program in
    record {
      sound = seen_is_sound text xs (program_of p.functions.items p.main p.globals.items)
          c.requires (nothing_broken text xs p.faults c.in_ok-program.ensures.faults c.in-None.is)
          c.in_ok-program.ensures.program;
    }

pub returns-in-Some-clause-refused : goal.returns-in-Some-clause-refused
returns-in-Some-clause-refused c = least_broken c.args.text.now
    (map external_declaration c.args.xs.now) c.in_ok-program.program.faults c.in-Some.least
    c.in_ok-program.ensures.faults c.in-Some.is

pub returns-in-None-clause-accepted : goal.returns-in-None-clause-accepted
returns-in-None-clause-accepted c = nothing_broken c.args.text.now
    (map external_declaration c.args.xs.now) c.in_ok-program.program.faults
    c.in_ok-program.ensures.faults c.in-None.is
