use Rattle.std.proofs.Common.{◌≡◌, ℕ, ◌+◌, ◌-◌, ◌++◌, ap, ◌∙◌, arith}
use Rattle.x64_emit.specs.Words.{Temporary, spelled, sizes, passing_code, call_code}
use Rattle.x64_emit.proofs.Nearby.{on_ok, spelled_both, grown, passing_small}
use Rattle.x64_emit.proofs.calls.put_passing_call.Goals as goal

pub put_call-requires-clause-at : goal.put_call-requires-clause-at
put_call-requires-clause-at c =
    let g = grown c.args.code.now.items c.put_passing.new.code.items
    (passing_code c.args.layout.now c.args.first 4 (c.args.count - 4))
    c.in_ok-put_passing.ensures in
    let s = passing_small c.args.layout.now c.args.first c.args.count c.requires.arguments.few in
    let a = c.len.ensures in
    let b = c.len-before.ensures in
    let r = c.requires.at in
    omega arith

pub returns : goal.returns
returns c =
    let y = c.args.layout.now in
    let first = c.args.first in
    let old = c.args.code.now.items in
    let mid = c.put_passing.new.code.items in
    let new = c.put_call.new.code.items in
    let passing = passing_code y first 4 (c.args.count - 4) in
    let g = grown old mid passing c.in_ok-put_passing.ensures in
    let there : c.args.at + (c.len.result - c.len-before.result)
    ≡ c.args.at + sizes passing = (let a = c.len.ensures in let b = c.len-before.ensures in
    omega arith) in
    on_ok _ _ c.put_call.result (λ h. spelled_both old mid new passing
    (call_code y (Temporary first) first (c.args.at + sizes passing) c.args.to)
    c.in_ok-put_passing.ensures (h ∙ ap (λ (n : ℕ). mid
    ++ spelled (call_code y (Temporary first) first n c.args.to)) there)) c.put_call.ensures
