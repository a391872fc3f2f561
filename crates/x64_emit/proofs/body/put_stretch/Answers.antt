use Rattle.std.proofs.Common.{◌≡◌, ℕ, ◌+◌, ◌-◌, ◌++◌, get_or, drop, ap, ◌∙◌, arith}
use Rattle.x64_emit.specs.Words.{template, template_size, code_from, links_of, IsInstructionNear}
use Rattle.x64_emit.proofs.Nearby.{stepped, some_instruction, all_at, instruction_in_room, code_room_next, size_next, grown_template, body_next}
use Rattle.x64_emit.proofs.body.put_stretch.Goals as goal

pub loop-instruction-preserved : goal.loop-instruction-preserved
loop-instruction-preserved c =
    let y = c.args.layout.now in
    let k = links_of c.args.links.now in
    let body = c.args.stretch.now in
    let i = c.loop-instruction.instruction-index in
    let at = c.loop-instruction.at in
    let x = get_or body i some_instruction in
    let lt = c.loop-instruction-test.true in
    let old = c.loop-instruction.code.items in
    let new = c.put_instruction.new.code.items in
    let near = all_at (IsInstructionNear y) body i some_instruction c.requires.near lt in
    let small = instruction_in_room y x near in
    let next = code_room_next i body some_instruction lt in
    let g = grown_template k y at x old new c.in_ok-put_instruction.ensures in
    let more = c.len.result - c.len-before.result in
    let there : at + template_size y x ≡ at + more =
    (let a = c.len.ensures in let b = c.len-before.ensures in omega arith) in
    let room = c.loop-instruction.invariant.room in
    record {
      code = stepped old new _ (template k y at x) (code_from k y (at + more) (drop (i + 1) body)) _
          c.in_ok-put_instruction.ensures (body_next k y at i body some_instruction lt
          ∙ ap (λ (n : ℕ). template k y at x ++ code_from k y n (drop (i + 1) body)) there)
          c.loop-instruction.invariant.code;
      end = (let s = size_next y i body some_instruction lt in
          let e = c.loop-instruction.invariant.end in omega arith);
      room = omega arith;
    }
