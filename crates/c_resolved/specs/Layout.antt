-- Where the variables of a function stand on the data stack: first its parameters and then its
-- locals, in the order of their declarations, each at its natural alignment. A variable stands
-- there where it is an array, or its name is the operand of an `&`.
use Rattle.std.specs.Prelude.{ℕ, ◌+◌, ◌*◌, Bool, true, false, ◌||◌, if◌then◌else◌, List, [], ◌∷◌, length, take, replicate, Option, Some, None}
use Rattle.c_checked.specs.Program.{DataFrame}
use Rattle.c_checked.specs.Statement.{Statements}
use Rattle.c_checked.specs.declared.function.StackedParameter.{StackedParameter}
use Rattle.c_operations.specs.declared.operation.Size.{Size}
use Rattle.c_operations.specs.declared.operation.Size.TheVariants as sizes
use Rattle.c_syntax.specs.Limits.{aligned}
use Rattle.c_syntax.specs.declared.expression.CType.{CType}
use Rattle.c_resolved.specs.declared.variable.Place.{Place}
use Rattle.c_resolved.specs.declared.variable.Variable.{Variable}
use Rattle.c_resolved.specs.Types.{is_scalar, access_of, bytes_in}
use Rattle.c_resolved.specs.Addresses.{mark_statements, hold_try}

-- how many bytes a variable of a type takes; one of type void, which no accepted program has, takes
-- none
abbrev pub stored_bytes : CType → ℕ
stored_bytes t = if is_scalar t then bytes_in t else 0

abbrev pub is_array : Option ℕ → Bool
is_array None = false
is_array (Some n) = true

-- a variable that is marked has its address taken
abbrev pub is_addressable : Variable → Bool → Bool
is_addressable v mark = is_array v.elements || mark

abbrev pub element_count : Option ℕ → ℕ
element_count None = 1
element_count (Some n) = n

-- where a variable begins that is placed from so many bytes on, and where it ends
abbrev pub begin_of : Variable → ℕ → ℕ
begin_of v at = aligned at (stored_bytes v.of)

abbrev pub end_of : Variable → ℕ → ℕ
end_of v at = begin_of v at + stored_bytes v.of * element_count v.elements

abbrev pub place_from : Variable → ℕ → Place
place_from v at =
    record { access = access_of v.of; offset = begin_of v at; elements = v.elements }

-- the places of variables by their numbers, from so many bytes on
abbrev pub places_from : List Variable → List Bool → ℕ → List (Option Place)
places_from (v ∷ vs) (mark ∷ marks) at =
    if is_addressable v mark then Some (place_from v at) ∷ places_from vs marks (end_of v at)
    else None ∷ places_from vs marks at
places_from vs marks at = []

abbrev pub end_of_all : List Variable → List Bool → ℕ → ℕ
end_of_all (v ∷ vs) (mark ∷ marks) at =
    if is_addressable v mark then end_of_all vs marks (end_of v at) else end_of_all vs marks at
end_of_all vs marks at = at

abbrev pub is_placed : Option Place → Bool
is_placed None = false
is_placed (Some p) = true

abbrev pub any_placed : List (Option Place) → Bool
any_placed [] = false
any_placed (p ∷ ps) = is_placed p || any_placed ps

-- the number of the local that has the base; the places; how many bytes they take; whether the
-- function has a part of the data stack
pub record Layout : Type 0 where
  pub base : ℕ
  pub places : List (Option Place)
  pub size : ℕ
  pub needed : Bool

-- a function with a `__try` has one too, to set the pointer back where a handler begins
abbrev pub layout_of : List Variable → Statements → Layout
layout_of vs body =
    let marks = mark_statements body (replicate (length vs) false) in
    record {
      base = length vs;
      places = places_from vs marks 0;
      size = aligned (end_of_all vs marks 0) 16;
      needed = any_placed (places_from vs marks 0) || hold_try body;
    }

-- ---- parameters that stand there, from a number on

abbrev pub with_parameter : ℕ → Option Place → List StackedParameter → List StackedParameter
with_parameter number None rest = rest
with_parameter number (Some p) rest =
    record { parameter = number; width = p.access.width; offset = p.offset } ∷ rest

abbrev pub stacked_parameters : ℕ → List (Option Place) → List StackedParameter
stacked_parameters number [] = []
stacked_parameters number (p ∷ ps) =
    with_parameter number p (stacked_parameters (number + 1) ps)

-- ---- the function's part of the data stack, and the local of its base

abbrev pub data_frame_of : ℕ → Layout → Option DataFrame
data_frame_of parameters l =
    if l.needed then Some (record {
      base = l.base;
      size = l.size;
      parameters = stacked_parameters 0 (take parameters l.places);
    }) else None

abbrev pub base_local : Layout → List Size
base_local l = if l.needed then sizes.Long ∷ [] else []
