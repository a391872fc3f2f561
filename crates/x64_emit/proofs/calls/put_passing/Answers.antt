use Rattle.std.proofs.Common.{◌+◌, ◌-◌, ◌*◌, [], ◌∷◌}
use Rattle.x64_emit.specs.Words.{fetched, temporary_at, keep_register, passing_code, Rax, Rsp}
use Rattle.x64_emit.proofs.Nearby.{spelled_both, stepped, passing_next}
use Rattle.x64_emit.proofs.calls.put_passing.Goals as goal

pub loop-i-preserved : goal.loop-i-preserved
loop-i-preserved c =
    let y = c.args.layout.now in
    let i = c.loop-i.i in
    let a = fetched Rax Rsp (temporary_at y (c.args.first + i)) in
    let b = keep_register Rax (8 * i) in
    let code = c.loop-i.code.items in
    let mid = c.put_load.new.code.items in
    let e = spelled_both code mid c.put_store.new.code.items (a ∷ []) (b ∷ [])
    c.in_ok-put_load.ensures c.in_ok-put_store.ensures in
    stepped code c.put_store.new.code.items _ (a ∷ b ∷ [])
    (passing_code y c.args.first (i + 1) (c.args.count - (i + 1))) _ e
    (passing_next y c.args.first i c.args.count c.loop-i-test.true) c.loop-i.invariant
