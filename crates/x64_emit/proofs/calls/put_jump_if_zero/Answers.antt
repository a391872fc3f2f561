use Rattle.std.proofs.Common.{◌≡◌, ℕ, ◌+◌, ◌-◌, List, [], ◌∷◌, ◌++◌, sym, ap, subst, ◌∙◌, arith, append_assoc}
use Rattle.x64_emit.specs.Words.{Instr, Rax, IsEncodable, spelled, sizes, fetch, jump_equal, compare_zero, test_code}
use Rattle.x64_emit.proofs.Nearby.{on_ok, ended_by, grown, near_signed, test_small}
use Rattle.x64_emit.proofs.calls.put_jump_if_zero.Goals as goal

pub put-requires : goal.put-requires
put-requires c =
    let g = grown c.args.code.now.items c.put_test.new.code.items
    (test_code c.args.layout.now c.args.slot) c.in_ok-put_test.ensures in
    let s = test_small c.args.layout.now c.args.slot in
    let next = c.args.at + (c.len.result - c.len-before.result) + 6 in
    subst (λ i. IsEncodable i) (sym c.jump_equal.ensures)
    (near_signed next c.args.to (let a = c.len.ensures in let b = c.len-before.ensures in
    omega arith) c.requires.to)

pub returns : goal.returns
returns c =
    let y = c.args.layout.now in
    let old = c.args.code.now.items in
    let is = test_code y c.args.slot in
    let g = grown old c.put_test.new.code.items is c.in_ok-put_test.ensures in
    let there : c.args.at + (c.len.result - c.len-before.result) + 6
    ≡ c.args.at + sizes is + 6 = (let a = c.len.ensures in let b = c.len-before.ensures in
    omega arith) in
    let j = jump_equal (c.args.at + sizes is + 6) c.args.to in
    let e = ended_by c.put.result old c.put_test.new.code.items c.put.new.code.items is
    c.jump_equal.result j c.in_ok-put_test.ensures
    (c.jump_equal.ensures ∙ ap (λ (n : ℕ). jump_equal n c.args.to) there) c.put.ensures in
    on_ok _ _ c.put.result (λ h. h ∙ ap (λ (x : List Instr). old ++ spelled x)
    (append_assoc (fetch y Rax c.args.slot) (compare_zero ∷ []) (j ∷ []))) e
