use Rattle.std.proofs.Common.{length, ap, arith}
use Rattle.x64_emit.specs.Words.{links_of}
use Rattle.x64_emit.proofs.Nearby.{grown_to, instruction_in_room, room_small}
use Rattle.x64_emit.proofs.body.size_of.Goals as goal

pub overflow_cast-result : goal.overflow_cast-result
overflow_cast-result c =
    let y = c.args.layout.now in
    let x = c.args.instruction.now in
    let g = grown_to (links_of c.new-links.result) y 0 x c.clear.new.self.items
    c.put_instruction.new.code.items c.in_ok-put_instruction.ensures in
    let none = ap length c.clear.ensures.items in
    let small = instruction_in_room y x c.requires in
    let most = room_small x in
    let a = c.len.ensures in
    let b = c.put_instruction.new.code.ok in
    omega arith

pub returns : goal.returns
returns c =
    let y = c.args.layout.now in
    let x = c.args.instruction.now in
    let g = grown_to (links_of c.new-links.result) y 0 x c.clear.new.self.items
    c.put_instruction.new.code.items c.in_ok-put_instruction.ensures in
    let none = ap length c.clear.ensures.items in
    let a = c.len.ensures in
    let b = c.put_instruction.new.code.ok in
    omega arith
