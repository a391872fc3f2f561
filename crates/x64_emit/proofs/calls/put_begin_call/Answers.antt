use Rattle.std.proofs.Common.{◌≡◌, ℕ, ◌+◌, ◌-◌, sym, ap, subst, ◌∙◌, arith}
use Rattle.x64_emit.specs.Words.{IsEncodable, sizes, call, arguments_code}
use Rattle.x64_emit.proofs.Nearby.{ended_by, grown, near_signed, arguments_small}
use Rattle.x64_emit.proofs.calls.put_begin_call.Goals as goal

pub put-requires : goal.put-requires
put-requires c =
    let g = grown c.args.code.now.items c.put_arguments.new.code.items
    (arguments_code c.args.layout.now c.args.first) c.in_ok-put_arguments.ensures in
    let s = arguments_small c.args.layout.now c.args.first in
    let next = c.args.at + (c.len.result - c.len-before.result) + 5 in
    subst (λ i. IsEncodable i) (sym c.call.ensures)
    (near_signed next c.args.to (let a = c.len.ensures in let b = c.len-before.ensures in
    omega arith) c.requires.to)

pub returns : goal.returns
returns c =
    let old = c.args.code.now.items in
    let is = arguments_code c.args.layout.now c.args.first in
    let g = grown old c.put_arguments.new.code.items is c.in_ok-put_arguments.ensures in
    let there : c.args.at + (c.len.result - c.len-before.result) + 5
    ≡ c.args.at + sizes is + 5 = (let a = c.len.ensures in let b = c.len-before.ensures in
    omega arith) in
    ended_by c.put.result old c.put_arguments.new.code.items c.put.new.code.items is c.call.result
    (call (c.args.at + sizes is + 5) c.args.to) c.in_ok-put_arguments.ensures
    (c.call.ensures ∙ ap (λ (n : ℕ). call n c.args.to) there) c.put.ensures
