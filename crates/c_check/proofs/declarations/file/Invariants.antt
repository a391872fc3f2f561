use Rattle.std.proofs.Common.{map}
use Rattle.c_check.proofs.declarations.file.Given as goal
use Rattle.c_check.proofs.FileInOrder.{StillFile}
use Rattle.c_check.specs.Words.{file_of, empty_file, external_declaration}

abbrev pub invariant-loop-x : goal.invariant-loop-x
invariant-loop-x l = StillFile l.text l.xs l.x-index
    (file_of l.text (map external_declaration l.xs) empty_file) l.file
