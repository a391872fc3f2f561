-- The image of a program that calls `walk` names its functions.
use Rattle.std.proofs.Common.{◌≡◌, ℕ, zero, suc, ◌+◌, List, [], ◌∷◌, map, option_map, refl, ap, ◌∙◌, arith}
use Rattle.std.specs.Prelude.{slice_get}
use Rattle.c_checked.specs.Program.{Function}
use Rattle.seh_ir.specs.Lowered.{lowered_function}
use Rattle.pe_image.specs.NameRows.{function_name}
use Rattle.image_states.proofs.FunctionNames.{number_is_named, zero_is_unnamed}
use Rattle.image_runs.specs.Words.{image_of, Program, lowered, linked, IsLinkable}
use Rattle.image_runs.specs.ImageMeaning.{NamesFunctions}
use Rattle.image_runs.proofs.ImageCode.{lowered_is_compiled}

-- linear code has them too
lowered_name : (fs : List Function) (k : ℕ)
    → option_map (λ g. g.name) (slice_get (map lowered_function fs) k)
    ≡ option_map (λ f. f.name) (slice_get fs k)
lowered_name [] k = refl
lowered_name (f ∷ fs) zero = refl
lowered_name (f ∷ fs) (suc k) = lowered_name fs k

pub names_functions : (program : Program) → IsLinkable program
    → NamesFunctions (image_of (linked (lowered program))) program
names_functions program l walks zero =
    zero_is_unnamed (lowered program) (lowered_is_compiled program l) walks
names_functions program l walks (suc k) =
    let next : suc k ≡ k + 1 = omega arith in
    ap (function_name (image_of (linked (lowered program)))) next
    ∙ number_is_named (lowered program) (lowered_is_compiled program l) walks k
    ∙ lowered_name program.functions k
