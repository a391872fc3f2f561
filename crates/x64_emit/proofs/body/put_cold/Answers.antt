use Rattle.std.proofs.Common.{◌≡◌, ℕ, ◌+◌, ◌++◌, length, get_or, drop, sym, ap, subst, ◌∙◌, arith}
use Rattle.std.specs.List.{AllByRecursion}
use Rattle.template_code.specs.ColdParts.{part_code}
use Rattle.template_code.proofs.ColdParts.{code_both}
use Rattle.x64_emit.specs.Words.{body_size, code_room, code_from, links_of, spelled, IsInstructionNear}
use Rattle.x64_emit.proofs.Nearby.{code_in_room, stepped}
use Rattle.x64_emit.proofs.Parts.{no_part, parts_code, parts_are_cold, parts_next, part_within, all_between, room_both, cold_room}
use Rattle.x64_emit.proofs.body.put_cold.Goals as goal

pub loop-part-init : goal.loop-part-init
loop-part-init c =
    let body = c.args.body.now in
    let ps = c.args.parts.now in
    let k = links_of c.args.links.now in
    let r = cold_room ps body c.requires.parts in
    let near = c.requires.room in
    let begin = c.from-at.ensures in
    record {
      code = ap (λ (n : ℕ). c.args.code.now.items ++ spelled (code_from k c.args.layout.now n
          (parts_code ps body))) begin
          ∙ sym (ap (λ is. c.args.code.now.items ++ spelled (code_from k c.args.layout.now
          c.args.start is)) (parts_are_cold 0 ps body c.requires.parts));
      room = omega arith;
    }

pub between-stretch-requires-clause-order : goal.between-stretch-requires-clause-order
between-stretch-requires-clause-order c =
    let lt = (part_within 0 (length c.args.body.now) c.args.parts.now c.loop-part.part-index no_part
    c.requires.parts c.loop-part-test.true).0 in
    omega arith

pub between-stretch-requires-clause-within : goal.between-stretch-requires-clause-within
between-stretch-requires-clause-within c =
    (part_within 0 (length c.args.body.now) c.args.parts.now c.loop-part.part-index no_part
    c.requires.parts c.loop-part-test.true).1

pub put_stretch-requires-clause-near : goal.put_stretch-requires-clause-near
put_stretch-requires-clause-near c =
    let r = get_or c.args.parts.now c.loop-part.part-index no_part in
    let near = IsInstructionNear c.args.layout.now in
    subst (AllByRecursion near) (sym c.between-stretch.ensures)
    (all_between near r.begin r.end c.args.body.now c.requires.near)

pub put_stretch-requires-clause-room : goal.put_stretch-requires-clause-room
put_stretch-requires-clause-room c =
    let ps = c.args.parts.now in
    let i = c.loop-part.part-index in
    let body = c.args.body.now in
    let r = get_or ps i no_part in
    let next = ap code_room (parts_next ps i no_part body c.loop-part-test.true) in
    let both = room_both (part_code body r) (parts_code (drop (i + 1) ps) body) in
    let same = ap code_room c.between-stretch.ensures in
    let room = c.loop-part.invariant.room in
    omega arith

pub loop-part-preserved : goal.loop-part-preserved
loop-part-preserved c =
    let y = c.args.layout.now in
    let k = links_of c.args.links.now in
    let ps = c.args.parts.now in
    let i = c.loop-part.part-index in
    let at = c.loop-part.at in
    let body = c.args.body.now in
    let r = get_or ps i no_part in
    let part = part_code body r in
    let rest = parts_code (drop (i + 1) ps) body in
    let all = parts_next ps i no_part body c.loop-part-test.true in
    let rooms = ap code_room all in
    let both = room_both part rest in
    let same = c.between-stretch.ensures in
    let small = code_in_room y part
    (all_between (IsInstructionNear y) r.begin r.end body c.requires.near) in
    let room = c.loop-part.invariant.room in
    let end : at + body_size y part ≡ c.in_ok-at.at =
    (let e = c.in_ok-at.ensures.end in let s = ap (body_size y) same in omega arith) in
    record {
      code = stepped c.loop-part.code.items c.put_stretch.new.code.items _
          (code_from k y at part) (code_from k y c.in_ok-at.at rest) _
          (c.in_ok-at.ensures.code
          ∙ ap (λ is. c.loop-part.code.items ++ spelled (code_from k y at is)) same)
          (ap (code_from k y at) all ∙ code_both k y at part rest
          ∙ ap (λ (n : ℕ). code_from k y at part ++ code_from k y n rest) end)
          c.loop-part.invariant.code;
      room = omega arith;
    }
