use Rattle.std.proofs.Common.{map, refl}
use Rattle.c_check.proofs.check.resolve.Goals as goal
use Rattle.c_check.proofs.Programs.{program_resolved}
use Rattle.c_check.specs.Words.{external_declaration}

pub returns : goal.returns
returns c =
    program_resolved c.args.text.now (map external_declaration c.args.xs.now) c.in_ok-file.file
    c.main_of-main.new.faults c.main_of-main.result c.in_ok-made.made _
    c.in_ok-file.ensures c.main_of-main.ensures.number c.main_of-main.ensures.faults
    c.in_ok-made.ensures.done c.in_ok-made.ensures.faults refl
