-- Whether instructions call `walk`, put together of parts.
use Rattle.std.proofs.Common.{◌≡◌, Bool, true, false, List, [], ◌∷◌, ◌++◌, refl, ap, sym, ◌∙◌}
use Rattle.std.specs.Prelude.{◌||◌}
use Rattle.std.proofs.Math.Bool.{or_assoc}
use Rattle.host_layout.specs.declared.imported.ImportedService.TheVariants as imports
use Rattle.linear_code.specs.declared.instruction.Instruction.{Instruction}
use Rattle.linear_code.specs.Program.{LinearFunclet}
use Rattle.image_link.specs.Services.{is_call, has_call, funclets_call}

-- whether these instructions call it, and these funclets
abbrev pub walk_in : List Instruction → Bool
walk_in xs = has_call imports.Walk xs

abbrev pub walk_within : List LinearFunclet → Bool
walk_within fs = funclets_call imports.Walk fs

pub or_false : (a : Bool) → (a || false) ≡ a
or_false true = refl
or_false false = refl

append : (xs ys : List Instruction) → walk_in (xs ++ ys) ≡ (walk_in xs || walk_in ys)
append [] ys = refl
append (x ∷ xs) ys =
    ap (λ (b : Bool). is_call imports.Walk x || b) (append xs ys)
    ∙ sym (or_assoc (is_call imports.Walk x) (walk_in xs) (walk_in ys))

pub append_funclets : (fs gs : List LinearFunclet)
    → walk_within (fs ++ gs) ≡ (walk_within fs || walk_within gs)
append_funclets [] gs = refl
append_funclets (f ∷ fs) gs =
    ap (λ (b : Bool). walk_in f.body.code || b) (append_funclets fs gs)
    ∙ sym (or_assoc (walk_in f.body.code) (walk_within fs) (walk_within gs))

-- ---- instructions

pub both : {a b : Bool} → (xs ys : List Instruction) → walk_in xs ≡ a → walk_in ys ≡ b
    → walk_in (xs ++ ys) ≡ (a || b)
both {a} {b} xs ys h k =
    append xs ys
    ∙ (ap (λ (c : Bool). c || walk_in ys) h ∙ ap (λ (c : Bool). a || c) k)

-- the second ones don't call it, and the first ones don't
pub before : {a : Bool} → (xs ys : List Instruction) → walk_in xs ≡ a → walk_in ys ≡ false
    → walk_in (xs ++ ys) ≡ a
before {a} xs ys h k = both xs ys h k ∙ or_false a

pub after : {b : Bool} → (xs ys : List Instruction) → walk_in xs ≡ false → walk_in ys ≡ b
    → walk_in (xs ++ ys) ≡ b
after xs ys h k = both xs ys h k

-- one that doesn't call it, and those after it
pub next : {b : Bool} → (i : Instruction) (ys : List Instruction) → is_call imports.Walk i ≡ false
    → walk_in ys ≡ b → walk_in (i ∷ ys) ≡ b
next i ys h k = ap (λ (c : Bool). c || walk_in ys) h ∙ k

-- ---- instructions with funclets

-- the instructions or the funclets call it, or neither do
abbrev pub walk_of : List Instruction → List LinearFunclet → Bool
walk_of xs fs = walk_in xs || walk_within fs

pub shuffle : (a b c d : Bool) → ((a || b) || (c || d)) ≡ ((a || c) || (b || d))
shuffle true b c d = refl
shuffle false true true d = refl
shuffle false true false d = refl
shuffle false false c d = refl

last_or : (a b c : Bool) → ((a || b) || c) ≡ ((a || c) || b)
last_or true b c = refl
last_or false true true = refl
last_or false true false = refl
last_or false false c = sym (or_false c)

pub both_of : {a b : Bool} → (xs ys : List Instruction) (fs gs : List LinearFunclet)
    → walk_of xs fs ≡ a → walk_of ys gs ≡ b → walk_of (xs ++ ys) (fs ++ gs) ≡ (a || b)
both_of {a} {b} xs ys fs gs h k =
    ap (λ (c : Bool). c || walk_within (fs ++ gs)) (append xs ys)
    ∙ (ap (λ (c : Bool). (walk_in xs || walk_in ys) || c) (append_funclets fs gs)
    ∙ (shuffle (walk_in xs) (walk_in ys) (walk_within fs) (walk_within gs)
    ∙ (ap (λ (c : Bool). c || walk_of ys gs) h ∙ ap (λ (c : Bool). a || c) k)))

-- no funclet
pub alone : {a : Bool} → (xs : List Instruction) → walk_in xs ≡ a → walk_of xs [] ≡ a
alone xs h = or_false (walk_in xs) ∙ h

-- instructions alone, before those with funclets and after them
pub first_of : {a b : Bool} → (xs ys : List Instruction) (fs : List LinearFunclet)
    → walk_in xs ≡ a → walk_of ys fs ≡ b → walk_of (xs ++ ys) fs ≡ (a || b)
first_of xs ys fs h k = both_of xs ys [] fs (alone xs h) k

pub last_of : {a b : Bool} → (xs ys : List Instruction) (fs : List LinearFunclet)
    → walk_of xs fs ≡ a → walk_in ys ≡ b → walk_of (xs ++ ys) fs ≡ (a || b)
last_of {a} {b} xs ys fs h k =
    ap (λ (c : Bool). c || walk_within fs) (append xs ys)
    ∙ (last_or (walk_in xs) (walk_in ys) (walk_within fs)
    ∙ (ap (λ (c : Bool). c || walk_in ys) h ∙ ap (λ (c : Bool). a || c) k))

-- where the former and the latter don't call it
pub plain_first : {b : Bool} → (xs ys : List Instruction) (fs : List LinearFunclet)
    → walk_in xs ≡ false → walk_of ys fs ≡ b → walk_of (xs ++ ys) fs ≡ b
plain_first xs ys fs h k = first_of xs ys fs h k

pub plain_last : {a : Bool} → (xs ys : List Instruction) (fs : List LinearFunclet)
    → walk_of xs fs ≡ a → walk_in ys ≡ false → walk_of (xs ++ ys) fs ≡ a
plain_last {a} xs ys fs h k = last_of xs ys fs h k ∙ or_false a

-- funclets, beside instructions that don't call it
pub beside : {b : Bool} → (xs : List Instruction) (fs : List LinearFunclet) → walk_in xs ≡ false
    → walk_within fs ≡ b → walk_of xs fs ≡ b
beside xs fs h k = ap (λ (c : Bool). c || walk_within fs) h ∙ k
