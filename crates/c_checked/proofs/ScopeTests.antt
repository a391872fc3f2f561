-- Tests of several parts, and locals that are seen.
use Rattle.std.proofs.Common.{◌≡◌, ◌⊎◌, inl, inr, ℕ, refl, ◌<◌}
use Rattle.std.proofs.lemmas.Bool.{eqb-true, eq-eqb, ltb-true}
use Rattle.std.specs.Prelude.{Bool, true, false, ◌&&◌, ◌||◌, nat_eq, nat_lt, Option, Some, None}
use Rattle.c_checked.specs.declared.statement.StackedVariable.{StackedVariable}
use Rattle.c_checked.specs.Statement.{Declared}
use Rattle.c_checked.specs.Program.{DataFrame}
use Rattle.c_checked.specs.LocalScopes.{SeenNames, with_local, IsPart, first_seen, is_base, with_declared, after_declared}

pub both_left : (a b : Bool) → (a && b) ≡ true → a ≡ true
both_left true b h = refl
both_left false b h = h

pub both_right : (a b : Bool) → (a && b) ≡ true → b ≡ true
both_right true b h = h
both_right false b h = absurd (cc)

-- ---- sets of locals

either : (a b : Bool) → (a || b) ≡ true → (a ≡ true) ⊎ (b ≡ true)
either true b h = inl refl
either false b h = inr h

or_left : (a b : Bool) → a ≡ true → (a || b) ≡ true
or_left true b h = refl
or_left false b h = absurd (cc)

or_right : (a b : Bool) → b ≡ true → (a || b) ≡ true
or_right true b h = refl
or_right false b h = h

-- a local that is seen is the one that was declared last, or was seen before
pub seen_cases : (seen : SeenNames) (x y : ℕ) → with_local x seen y ≡ true
    → (y ≡ x) ⊎ (seen y ≡ true)
seen_cases seen x y h = of (either (nat_eq y x) (seen y) h)
  where
    of : (nat_eq y x ≡ true) ⊎ (seen y ≡ true) → (y ≡ x) ⊎ (seen y ≡ true)
    of (inl e) = inl (eqb-true y x e)
    of (inr e) = inr e

pub sees_own : (seen : SeenNames) (x : ℕ) → with_local x seen x ≡ true
sees_own seen x = or_left (nat_eq x x) (seen x) (eq-eqb x x refl)

pub sees_before : (seen : SeenNames) (x : ℕ) → IsPart seen (with_local x seen)
sees_before seen x y h = or_right (nat_eq y x) (seen y) h

-- a parameter, or the base
pub is_first : (parameters : ℕ) (frame : Option DataFrame) (x : ℕ)
    → first_seen parameters frame x ≡ true → (x < parameters) ⊎ (is_base frame x ≡ true)
is_first parameters frame x h = of (either (nat_lt x parameters) (is_base frame x) h)
  where
    of : (nat_lt x parameters ≡ true) ⊎ (is_base frame x ≡ true)
        → (x < parameters) ⊎ (is_base frame x ≡ true)
    of (inl e) = inl (ltb-true x parameters e)
    of (inr e) = inr e

-- without a part of the data stack, a parameter
pub is_parameter : (parameters x : ℕ) → first_seen parameters None x ≡ true → x < parameters
is_parameter parameters x h = of (is_first parameters None x h)
  where
    of : (x < parameters) ⊎ (is_base None x ≡ true) → x < parameters
    of (inl lt) = lt
    of (inr e) = absurd (cc)

-- what a declaration makes seen: its own local, or a variable on the data stack nothing
pub after_cases : (seen : SeenNames) (d : Declared) (y : ℕ) → after_declared seen d y ≡ true
    → (y ≡ d.local) ⊎ (seen y ≡ true)
after_cases seen d y h = of d.stacked h
  where
    of : (v : Option StackedVariable) → with_declared v d.local seen y ≡ true
        → (y ≡ d.local) ⊎ (seen y ≡ true)
    of None h = seen_cases seen d.local y h
    of (Some v) h = inr h

pub after_before : (seen : SeenNames) (d : Declared) → IsPart seen (after_declared seen d)
after_before seen d y h = of d.stacked
  where
    of : (v : Option StackedVariable) → with_declared v d.local seen y ≡ true
    of None = sees_before seen d.local y h
    of (Some v) = h

pub itself : (a : SeenNames) → IsPart a a
itself a x h = h

pub within : (a b c : SeenNames) → IsPart a b → IsPart b c → IsPart a c
within a b c h k x e = k x (h x e)

pub part_with : (a b : SeenNames) (x : ℕ) → IsPart a b → IsPart (with_local x a) (with_local x b)
part_with a b x h y k = of (either (nat_eq y x) (a y) k)
  where
    of : (nat_eq y x ≡ true) ⊎ (a y ≡ true) → with_local x b y ≡ true
    of (inl e) = or_left (nat_eq y x) (b y) e
    of (inr e) = or_right (nat_eq y x) (b y) (h y e)
