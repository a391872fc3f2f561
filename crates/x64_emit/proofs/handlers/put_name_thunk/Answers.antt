use Rattle.std.proofs.Common.{◌≡◌, ℕ, ◌+◌, List, [], ◌∷◌, ◌++◌, ap, ◌∙◌, arith}
use Rattle.template_code.specs.Handlers.{loaded}
use Rattle.template_code.specs.Jumps.{jump, jump_code}
use Rattle.template_code.specs.Slots.{fetched}
use Rattle.x64_emit.specs.Words.{Instr, Rax, Rcx, Rdx, spelled}
use Rattle.x64_emit.proofs.Nearby.{on_ok, spelled_both}
use Rattle.x64_emit.proofs.handlers.put_name_thunk.Goals as goal

-- one instruction was appended
one : (old new : List ℕ) (i j : Instr) → new ≡ old ++ spelled (i ∷ []) → i ≡ j
    → new ≡ old ++ spelled (j ∷ [])
one old new i j e same = e ∙ ap (λ x. old ++ spelled (x ∷ [])) same

pub returns : goal.returns
returns c =
    let old = c.args.code.now.items in
    let first = c.put.new.code.items in
    let second = c.put-2.new.code.items in
    let third = c.put-3.new.code.items in
    let function = c.args.function in
    let loads = fetched Rax Rcx 0 ∷ loaded Rcx 0 ∷ loaded Rdx 4 ∷ [] in
    let a = one old first c.load.result (fetched Rax Rcx 0) c.in_ok-put.ensures c.load.ensures in
    let b = spelled_both old first second (fetched Rax Rcx 0 ∷ []) (loaded Rcx 0 ∷ []) a
    (one first second c.loaded.result (loaded Rcx 0) c.in_ok-put-2.ensures
    c.loaded.ensures.value) in
    let d = spelled_both old second third (fetched Rax Rcx 0 ∷ loaded Rcx 0 ∷ [])
    (loaded Rdx 4 ∷ []) b
    (one second third c.loaded-2.result (loaded Rdx 4) c.in_ok-put-3.ensures
    c.loaded-2.ensures.value) in
    let there : c.args.at + 10 + 5 ≡ c.args.at + 15 = omega arith in
    on_ok _ _ c.put_jump.result
    (λ e. spelled_both old third c.put_jump.new.code.items loads
    (jump_code (c.args.at + 10) function) d e
    ∙ ap (λ (n : ℕ). old ++ spelled (loads ++ (jump n function ∷ []))) there)
    c.put_jump.ensures
