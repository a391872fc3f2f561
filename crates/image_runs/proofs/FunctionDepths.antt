-- A function of a sound program, where it is the only one that is active, isn't too deep.
use Rattle.std.proofs.Common.{◌≡◌, ℕ, zero, suc, ◌^◌, ◌<◌, ◌≤◌, true, List, [], ◌∷◌, length, map, Option, Some, None, subst, arith}
use Rattle.std.specs.Prelude.{slice_get}
use Rattle.std.proofs.lemmas.Bool.{and_parts, leb-true, ltb-true}
use Rattle.seh_num.specs.declared.limit.TheConstants.{MOST_LOCALS}
use Rattle.c_operations.specs.declared.operation.Size.{Size}
use Rattle.c_checked.specs.Program.{DataFrame, data_size, declared_locals}
use Rattle.c_checked.specs.Sound.{data_sound, function_sound, functions_sound}
use Rattle.image_runs.specs.Words.{Program, Function, IsSound, LinearFunction, depth_weight, DEEPEST, lowered, lowered_function}

-- the part of the data stack is below 2 MiB
data_small : (parameters : ℕ) (locals : List Size) (d : Option DataFrame)
    → data_sound parameters locals d ≡ true → data_size d < 2 ^ 21
data_small parameters locals None e = omega arith
data_small parameters locals (Some d) e =
    ltb-true d.size (2 ^ 21) (and_parts _ _ (and_parts _ _ (and_parts _ _ e).0).0).1

shallow_function : (functions : List Function) (f : Function) → function_sound functions f ≡ true
    → depth_weight (lowered_function f) ≤ DEEPEST
shallow_function functions f e =
    let whole : data_sound (length f.parameters) f.locals f.data_frame ≡ true =
    (and_parts _ _ e).1 in
    let few : declared_locals f ≤ MOST_LOCALS =
    leb-true (declared_locals f) MOST_LOCALS (and_parts _ _ (and_parts _ _ e).0).1 in
    let small : data_size f.data_frame < 2 ^ 21 =
    data_small (length f.parameters) f.locals f.data_frame whole in
    omega (arith, few, small)

same_function : (f g : LinearFunction) → Some f ≡ Some g → f ≡ g
same_function f g e = cc

in_list : (functions fs : List Function) (k : ℕ) (f : LinearFunction)
    → functions_sound functions fs ≡ true → slice_get (map lowered_function fs) k ≡ Some f
    → depth_weight f ≤ DEEPEST
in_list functions [] k f e there = absurd cc
in_list functions (fn ∷ fs) zero f e there =
    subst (λ (g : LinearFunction). depth_weight g ≤ DEEPEST)
    (same_function (lowered_function fn) f there)
    (shallow_function functions fn
    (and_parts (function_sound functions fn) (functions_sound functions fs) e).0)
in_list functions (fn ∷ fs) (suc k) f e there =
    in_list functions fs k f
    (and_parts (function_sound functions fn) (functions_sound functions fs) e).1 there

sound_functions : (program : Program) → IsSound program
    → functions_sound program.functions program.functions ≡ true
sound_functions program sound =
    (and_parts _ _ (and_parts _ _ (and_parts _ _ (and_parts _ _ (and_parts _ _
    sound).0).0).0).0).0

pub function_is_shallow : (program : Program) → IsSound program → (k : ℕ) (f : LinearFunction)
    → slice_get (lowered program).functions k ≡ Some f → depth_weight f ≤ DEEPEST
function_is_shallow program sound k f there =
    in_list program.functions program.functions k f (sound_functions program sound) there
