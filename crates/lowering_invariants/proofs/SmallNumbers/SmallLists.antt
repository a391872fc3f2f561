-- Lists of numbers of 64 bits, and numbers that are read of them.
use Rattle.std.proofs.Common.{◌≡◌, ℕ, zero, suc, ◌^◌, ◌<◌, List, [], ◌∷◌, ◌++◌, subst, arith}
use Rattle.std.specs.List.{AllByRecursion}
use Rattle.std.specs.Prelude.{Bool, true, false, nat_eq, slice_get, slice_set, take, drop, replicate, if◌then◌else◌, get_or, Option, Some, None}
use Rattle.lowering_invariants.specs.Words.{Field, Exception, of_test, field_of, parameter_of, BodyName, FunctionBody, FuncletBody, Store, set_local, left_store, IsSmallAccess, AreSmall, IsSmallException}
use Rattle.c_operations.specs.declared.field.Field.TheVariants as fields
use Rattle.source_meaning.specs.Expressions.{count_of as parameters_of}
use Rattle.lowering_invariants.proofs.Stacks.StackTargets.{same_it}

pub all_joined : (xs ys : List ℕ) → AreSmall xs → AreSmall ys → AreSmall (xs ++ ys)
all_joined [] ys h k = k
all_joined (x ∷ xs) ys h k = (h.0, all_joined xs ys h.1 k)

pub all_taken : (n : ℕ) (xs : List ℕ) → AreSmall xs → AreSmall (take n xs)
all_taken zero xs h = tt
all_taken (suc n) [] h = tt
all_taken (suc n) (x ∷ xs) h = (h.0, all_taken n xs h.1)

pub all_dropped : (n : ℕ) (xs : List ℕ) → AreSmall xs → AreSmall (drop n xs)
all_dropped zero xs h = h
all_dropped (suc n) [] h = tt
all_dropped (suc n) (x ∷ xs) h = all_dropped n xs h.1

pub all_set : (xs : List ℕ) (i v : ℕ) → AreSmall xs → v < 2 ^ 64 → AreSmall (slice_set xs i v)
all_set [] i v h lt = tt
all_set (x ∷ xs) zero v h lt = (lt, h.1)
all_set (x ∷ xs) (suc i) v h lt = (h.0, all_set xs i v h.1 lt)

pub zeros : (n : ℕ) → AreSmall (replicate n 0)
zeros zero = tt
zeros (suc n) = (omega arith, zeros n)

pub one_of : (xs : List ℕ) (i : ℕ) → AreSmall xs → get_or xs i 0 < 2 ^ 64
one_of [] i h = omega arith
one_of (x ∷ xs) zero h = h.0
one_of (x ∷ xs) (suc i) h = one_of xs i h.1

pub got_of : (xs : List ℕ) (i v : ℕ) → AreSmall xs → slice_get xs i ≡ Some v → v < 2 ^ 64
got_of [] i v h e = absurd (cc)
got_of (x ∷ xs) zero v h e = subst (λ y. y < 2 ^ 64) (same_it x v e) h.0
got_of (x ∷ xs) (suc i) v h e = got_of xs i v h.1 e

-- ---- activations

abbrev pub AllSmall : List (List ℕ) → Type 0
AllSmall acts = AllByRecursion AreSmall acts

abbrev pub locals_in : Option (List ℕ) → List ℕ
locals_in o = elim o [ Some locals ↦ locals | None ↦ [] ]

pub locals_small : (acts : List (List ℕ)) (k : ℕ) → AllSmall acts
    → AreSmall (locals_in (slice_get acts k))
locals_small [] k h = tt
locals_small (a ∷ acts) zero h = h.0
locals_small (a ∷ acts) (suc k) h = locals_small acts k h.1

pub set_small : (acts : List (List ℕ)) (k : ℕ) (vs : List ℕ) → AllSmall acts → AreSmall vs
    → AllSmall (slice_set acts k vs)
set_small [] k vs h l = tt
set_small (a ∷ acts) zero vs h l = (l, h.1)
set_small (a ∷ acts) (suc k) vs h l = (h.0, set_small acts k vs h.1 l)

pub taken_small : (n : ℕ) (acts : List (List ℕ)) → AllSmall acts → AllSmall (take n acts)
taken_small zero acts h = tt
taken_small (suc n) [] h = tt
taken_small (suc n) (a ∷ acts) h = (h.0, taken_small n acts h.1)

pub joined_small : (acts : List (List ℕ)) (vs : List ℕ) → AllSmall acts → AreSmall vs
    → AllSmall (acts ++ vs ∷ [])
joined_small [] vs h l = (l, tt)
joined_small (a ∷ acts) vs h l = (h.0, joined_small acts vs h.1 l)

pub left_small : (name : BodyName) (k : ℕ) (store : Store) → AllSmall store.activations
    → AllSmall (left_store name k store).activations
left_small (FunctionBody f) k store h = taken_small k store.activations h
left_small (FuncletBody j) k store h = h

pub local_small : (store : Store) (k x v : ℕ) → AllSmall store.activations → v < 2 ^ 64
    → AllSmall (set_local store k x v).activations
local_small store k x v h lt = set_small store.activations k
    (slice_set (locals_in (slice_get store.activations k)) x v) h
    (all_set (locals_in (slice_get store.activations k)) x v (locals_small store.activations k h)
    lt)

-- ---- exceptions

pub test_small : (b : Bool) → of_test b < 2 ^ 64
test_small true = omega arith
test_small false = omega arith

pub count_small : (o : Option (Bool × ℕ)) → parameters_of o < 2 ^ 64
count_small None = omega arith
count_small (Some access) = omega arith

pub parameter_small : (o : Option (Bool × ℕ)) (k : ℕ) → IsSmallAccess o → parameter_of o k < 2 ^ 64
parameter_small None k h = omega arith
parameter_small (Some access) k h = of (nat_eq k 0) (nat_eq k 1)
  where
    of : (a b : Bool) → (if a then of_test access.0 else if b then access.1 else 0) < 2 ^ 64
    of true b = test_small access.0
    of false true = h
    of false false = omega arith

pub field_small : (f : Field) (e : Exception) → IsSmallException e → field_of f e < 2 ^ 64
field_small fields.ExceptionCode e h = let c = h.code in omega arith
field_small fields.ExceptionFlags e h = test_small e.flag
field_small fields.NumberParameters e h = count_small e.access
field_small (fields.ExceptionInformation k) e h = parameter_small e.access k h.access
