use Rattle.std.proofs.Common.{◌≡◌, Bool, subst}
use Rattle.x64_emit.specs.Words.{Rax, Rcx, sizes, fetch_if}
use Rattle.x64_emit.proofs.TemplateSizes.{computed}
use Rattle.x64_emit.proofs.sizes.compute_size.Goals as goal

pub returns : goal.returns
returns c =
    let y = c.args.layout.now in
    let first = subst (λ (read : Bool). sizes (fetch_if read y Rax c.args.first)
    ≡ c.in_ok-operand_size.field-0) c.has_first.ensures (c.in_ok-operand_size.ensures.fetched Rax)
    in
    let second = subst (λ (read : Bool). sizes (fetch_if read y Rcx c.args.second)
    ≡ c.in_ok-fetched.field-0) c.has_second.ensures (c.in_ok-fetched.ensures.fetched Rcx) in
    computed y c.args.to c.args.operation c.args.first c.args.second
    c.in_ok-operand_size.field-0 c.in_ok-fetched.field-0 c.in_ok-operation_size.field-0
    c.in_ok-kept.kept first second c.in_ok-operation_size.ensures.value c.in_ok-kept.ensures.kept
