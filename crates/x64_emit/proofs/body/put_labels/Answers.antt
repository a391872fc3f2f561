use Rattle.std.proofs.Common.{◌≡◌, ℕ, ◌+◌, ◌∷◌, get_or, drop, ap, ◌∙◌, arith}
use Rattle.x64_emit.specs.Words.{template_size, labels_from, IsInstructionNear}
use Rattle.x64_emit.proofs.Nearby.{some_instruction, all_at, instruction_in_room, code_room_next, after_one, labels_next, size_next, label_added}
use Rattle.x64_emit.proofs.body.put_labels.Goals as goal

pub overflow_add-at : goal.overflow_add-at
overflow_add-at c =
    let near = after_one c.args.layout.now c.args.stretch.now c.loop-instruction.instruction-index
    c.loop-instruction.at c.requires.near c.loop-instruction-test.true
    c.loop-instruction.invariant.room in
    let a = c.in_ok-size.ensures in
    omega arith

pub loop-instruction-preserved : goal.loop-instruction-preserved
loop-instruction-preserved c =
    let y = c.args.layout.now in
    let body = c.args.stretch.now in
    let i = c.loop-instruction.instruction-index in
    let at = c.loop-instruction.at in
    let x = get_or body i some_instruction in
    let lt = c.loop-instruction-test.true in
    let near = all_at (IsInstructionNear y) body i some_instruction c.requires.near lt in
    let small = instruction_in_room y x near in
    let next = code_room_next i body some_instruction lt in
    let more = c.in_ok-size.size in
    let a = c.in_ok-size.ensures in
    let there : at + template_size y x ≡ at + more = omega arith in
    let inv = c.loop-instruction.invariant in
    let room = inv.room in
    let end = inv.end in
    record {
      starts = label_added c.loop-instruction.starts.items c.push.new.self.items _
          (labels_from y (at + more) (drop (i + 1) body)) _ at c.in_ok-push.ensures.items
          (labels_next y at i body some_instruction lt
          ∙ ap (λ (n : ℕ). at ∷ labels_from y n (drop (i + 1) body)) there) inv.starts;
      end = (let s = size_next y i body some_instruction lt in omega arith);
      room = omega arith;
    }
