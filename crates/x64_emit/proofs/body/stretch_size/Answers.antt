use Rattle.std.proofs.Common.{get_or, arith}
use Rattle.x64_emit.specs.Words.{IsInstructionNear}
use Rattle.x64_emit.proofs.Nearby.{some_instruction, all_at, instruction_in_room, code_room_next, after_one, size_next}
use Rattle.x64_emit.proofs.body.stretch_size.Goals as goal

pub overflow_add-total : goal.overflow_add-total
overflow_add-total c =
    let near = after_one c.args.layout.now c.args.stretch.now c.loop-instruction.instruction-index
    c.loop-instruction.total c.requires.near c.loop-instruction-test.true
    c.loop-instruction.invariant.room in
    let a = c.in_ok-size.ensures in
    omega arith

pub loop-instruction-preserved : goal.loop-instruction-preserved
loop-instruction-preserved c =
    let y = c.args.layout.now in
    let stretch = c.args.stretch.now in
    let i = c.loop-instruction.instruction-index in
    let x = get_or stretch i some_instruction in
    let lt = c.loop-instruction-test.true in
    let near = all_at (IsInstructionNear y) stretch i some_instruction c.requires.near lt in
    let small = instruction_in_room y x near in
    let next = code_room_next i stretch some_instruction lt in
    let s = size_next y i stretch some_instruction lt in
    let a = c.in_ok-size.ensures in
    let inv = c.loop-instruction.invariant in
    let room = inv.room in
    let total = inv.total in
    record { total = omega arith; room = omega arith }
