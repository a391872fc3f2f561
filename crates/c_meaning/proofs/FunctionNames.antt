-- The names of a program's functions, by their numbers.
use Rattle.std.proofs.Common.{◌≡◌, ℕ, ◌-◌, ◌<◌, ◌≤◌, List, length, Some, refl, sym, ap, ◌∙◌, subst, arith}
use Rattle.std.specs.Prelude.{suc, get_or, option_map}
use Rattle.std.proofs.lemmas.Option.{slice_get_read, slice_get-map}
use Rattle.c_checked.specs.declared.function.Function.{Function as Function'}
use Rattle.c_checked.specs.Program.{Function, function, program_of}
use Rattle.c_meaning.specs.FunctionNames.{names_of}

-- the function before the number in order has that number
pub function_named : (fs : List Function') (main : ℕ) (globals : List ℕ) (number : ℕ)
    (f : Function') → 1 ≤ number → number - 1 < length fs → f ≡ get_or fs (number - 1) f
    → Some f.name.items ≡ names_of (program_of fs main globals) number
function_named fs main globals number f some inside is =
    let next : suc (number - 1) ≡ number = omega arith in
    subst (λ n. Some f.name.items ≡ names_of (program_of fs main globals) n) next
    (sym (ap (option_map (λ (g : Function). g.name)) (slice_get-map function fs (number - 1)
    ∙ ap (option_map function) (slice_get_read fs (length fs) (number - 1) f refl inside is))))
