-- Names in maps and in scopes.
use Rattle.std.proofs.Common.{◌≡◌, ℕ, Bool, true, false, cond, ◌&&◌, nat_eq, List, [], ◌∷◌, ◌++◌, Some, None, refl, sym, ap, ◌∙◌}
use Rattle.std.specs.Prelude.{codes, drop}
use Rattle.std.specs.Option.{option_or}
use Rattle.std.specs.Cmp.{nat_eq_equiv}
use Rattle.std.specs.Cmp.Lexicographic.{pointwise, lists_equiv}
use Rattle.c_expressions.specs.Words.{built_in_functions, built_in_constants, Entity, BuiltInFunction, CodeFunction, AbnormalFunction, AddingFunction, RemovingFunction, BuiltInConstant}
use Rattle.c_operations.specs.declared.built_in.BuiltIn.TheVariants.{Put, Protect, RaiseException, Walk}
use Rattle.c_resolved.specs.Scopes.{Scope, same_bytes, meaning_in, built_ins}

pub same_is : (a b : List ℕ) → pointwise nat_eq a b ≡ same_bytes a b
same_is [] [] = refl
same_is [] (b ∷ ys) = refl
same_is (a ∷ xs) [] = refl
same_is (a ∷ xs) (b ∷ ys) = ap (λ k. nat_eq a b && k) (same_is xs ys)

pub same_flips : (a b : List ℕ) → pointwise nat_eq a b ≡ same_bytes b a
same_flips a b = (lists_equiv nat_eq_equiv).symm a b ∙ same_is b a

-- the first of two scopes that has a name says what it means
pub meaning_append : (xs ys : Scope) (n : List ℕ)
    → meaning_in (xs ++ ys) n ≡ option_or (meaning_in xs n) (meaning_in ys n)
meaning_append [] ys n = refl
meaning_append (x ∷ xs) ys n = by (same_bytes x.0 n) (meaning_append xs ys n)
  where
    by : (b : Bool) → meaning_in (xs ++ ys) n ≡ option_or (meaning_in xs n) (meaning_in ys n)
        → cond b (Some x.1) (meaning_in (xs ++ ys) n)
        ≡ option_or (cond b (Some x.1) (meaning_in xs n)) (meaning_in ys n)
    by true h = refl
    by false h = h

-- what a name is built in for: a function, else a constant
pub built_in_is : (n : List ℕ) → meaning_in built_ins n
    ≡ option_or (meaning_in built_in_functions n) (meaning_in built_in_constants n)
built_in_is n = meaning_append built_in_functions built_in_constants n

-- ---- built-in names before others

pub known_first : (n : List ℕ) (e : Entity) (ys : Scope) → Some e ≡ meaning_in built_ins n
    → Some e ≡ meaning_in (built_ins ++ ys) n
known_first n e ys h = ap (λ o. option_or o (meaning_in ys n)) h
    ∙ sym (meaning_append built_ins ys n)

pub unknown_next : (n : List ℕ) (ys : Scope) → None ≡ meaning_in built_ins n
    → meaning_in (built_ins ++ ys) n ≡ meaning_in ys n
unknown_next n ys h = meaning_append built_ins ys n
    ∙ ap (λ o. option_or o (meaning_in ys n)) (sym h)

-- ---- a name that is none of the built-in ones

pub no_function : (n : List ℕ) → same_bytes (codes "put") n ≡ false
    → same_bytes (codes "protect") n ≡ false → same_bytes (codes "RaiseException") n ≡ false
    → same_bytes (codes "walk") n ≡ false → same_bytes (codes "GetExceptionCode") n ≡ false
    → same_bytes (codes "AbnormalTermination") n ≡ false
    → same_bytes (codes "AddVectoredExceptionHandler") n ≡ false
    → same_bytes (codes "RemoveVectoredExceptionHandler") n ≡ false
    → None ≡ meaning_in built_in_functions n
no_function n a b c d e f g h = sym (ap (λ x. cond x (Some (BuiltInFunction Put))
    (meaning_in (drop 1 built_in_functions) n)) a
    ∙ ap (λ x. cond x (Some (BuiltInFunction Protect)) (meaning_in (drop 2 built_in_functions) n)) b
    ∙ ap (λ x. cond x (Some (BuiltInFunction RaiseException))
    (meaning_in (drop 3 built_in_functions) n)) c
    ∙ ap (λ x. cond x (Some (BuiltInFunction Walk)) (meaning_in (drop 4 built_in_functions) n)) d
    ∙ ap (λ x. cond x (Some (CodeFunction)) (meaning_in (drop 5 built_in_functions) n)) e
    ∙ ap (λ x. cond x (Some (AbnormalFunction)) (meaning_in (drop 6 built_in_functions) n)) f
    ∙ ap (λ x. cond x (Some (AddingFunction)) (meaning_in (drop 7 built_in_functions) n)) g
    ∙ ap (λ x. cond x (Some (RemovingFunction)) (meaning_in (drop 8 built_in_functions) n)) h)

pub no_constant : (n : List ℕ) → same_bytes (codes "EXCEPTION_EXECUTE_HANDLER") n ≡ false
    → same_bytes (codes "EXCEPTION_CONTINUE_SEARCH") n ≡ false
    → same_bytes (codes "EXCEPTION_CONTINUE_EXECUTION") n ≡ false
    → None ≡ meaning_in built_in_constants n
no_constant n a b c = sym (ap (λ x. cond x (Some (BuiltInConstant 1))
    (meaning_in (drop 1 built_in_constants) n)) a
    ∙ ap (λ x. cond x (Some (BuiltInConstant 0)) (meaning_in (drop 2 built_in_constants) n)) b
    ∙ ap (λ x. cond x (Some (BuiltInConstant 0xFFFFFFFF))
    (meaning_in (drop 3 built_in_constants) n)) c)
