use Rattle.std.proofs.Common.{map}
use Rattle.c_check.proofs.FileInOrder.{file_on}
use Rattle.c_check.proofs.declarations.file.Goals as goal
use Rattle.c_check.specs.Words.{file_of, empty_file, external_declaration}

pub loop-x-preserved : goal.loop-x-preserved
loop-x-preserved c =
    let text = c.args.text.now in
    file_on text c.args.xs.now c.loop-x.x-index c.x-item.result
    (file_of text (map external_declaration c.args.xs.now) empty_file) c.loop-x.file
    c.declare.new.file c.loop-x-test.true c.x-item.is c.in_ok-declare.ensures c.loop-x.invariant
