-- The bytes of `__chkstk`, and code that they are added to.
use Rattle.std.proofs.Common.{◌≡◌, ℕ, ◌++◌, List, Result, Ok, Err, refl, ap, ◌∙◌}
use Rattle.std.specs.Prelude.{OnOk, if◌then◌else◌}
use Rattle.std.specs.Result.{is_ok}
use Rattle.template_code.specs.Bytes.{spelled}
use Rattle.template_code.specs.Probing.{check_stack}
use Rattle.x64_encode.specs.Chosen.{modrm}
use Rattle.x64_emit.specs.declared.entry.TheConstants.{CHECK_STACK}

pub check_stack_spelled : CHECK_STACK ≡ spelled check_stack
unfolding modrm
check_stack_spelled = refl

pub check_stack_added : {A E : Type 0} (r : Result A E) (old new : List ℕ)
    → new ≡ (if is_ok r then old ++ CHECK_STACK else old)
    → OnOk r (new ≡ old ++ spelled check_stack)
check_stack_added (Ok x) old new e = e ∙ ap (λ (xs : List ℕ). old ++ xs) check_stack_spelled
check_stack_added (Err x) old new e = tt
