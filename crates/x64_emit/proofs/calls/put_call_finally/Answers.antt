use Rattle.std.proofs.Common.{◌≡◌, ℕ, ◌+◌, ◌-◌, ◌≤◌, sym, ap, subst, ◌∙◌, arith}
use Rattle.x64_emit.specs.Words.{IsEncodable, sizes, call, finally_arguments}
use Rattle.x64_emit.proofs.Lemmas.{sizes_small}
use Rattle.x64_emit.proofs.Nearby.{ended_by, grown, near_signed}
use Rattle.x64_emit.proofs.calls.put_call_finally.Goals as goal

pub put-requires : goal.put-requires
put-requires c =
    let g = grown c.args.code.now.items c.put_finally_arguments.new.code.items finally_arguments
    c.in_ok-put_finally_arguments.ensures in
    let s : sizes finally_arguments ≤ 30 = sizes_small finally_arguments in
    let next = c.args.at + (c.len.result - c.len-before.result) + 5 in
    subst (λ i. IsEncodable i) (sym c.call.ensures)
    (near_signed next c.args.to (let a = c.len.ensures in let b = c.len-before.ensures in
    omega arith) c.requires.to)

pub returns : goal.returns
returns c =
    let old = c.args.code.now.items in
    let g = grown old c.put_finally_arguments.new.code.items finally_arguments
    c.in_ok-put_finally_arguments.ensures in
    let there : c.args.at + (c.len.result - c.len-before.result) + 5
    ≡ c.args.at + sizes finally_arguments + 5 =
    (let a = c.len.ensures in let b = c.len-before.ensures in omega arith) in
    ended_by c.put.result old c.put_finally_arguments.new.code.items c.put.new.code.items
    finally_arguments c.call.result (call (c.args.at + sizes finally_arguments + 5) c.args.to)
    c.in_ok-put_finally_arguments.ensures (c.call.ensures
    ∙ ap (λ (n : ℕ). call n c.args.to) there) c.put.ensures
