-- How long the code of a declaration is.
use Rattle.std.proofs.Common.{◌≡◌, ℕ, ◌+◌, [], ◌∷◌, length, Option, None, Some, refl, arith}
use Rattle.seh_ir.specs.Words.{StackedVariable, Expression, Declared, Local, Temporary, Separator, Names, expression_size, initialiser_size, stacked_size, declared_at_size, declared_size, copy, expression_code, initialiser_code, put_code, put_initialiser_code, stacked_declared_code, declared_at_code, declared_code}
use Rattle.lowering_expressions.proofs.Codes.{two, expression_length}

initialiser_length : (names : Names) (x : ℕ) (e : Option Expression) (at : ℕ)
    → length (initialiser_code names x e at) ≡ initialiser_size e
initialiser_length names x None at = refl
initialiser_length names x (Some e) at = two (expression_code names e 0 at)
    (copy (Local x) (Temporary 0) ∷ Separator ∷ []) (expression_size e) 2
    (expression_length names e 0 at) refl

put_initialiser_length : (names : Names) (v : StackedVariable) (e : Option Expression) (at : ℕ)
    → length (put_initialiser_code names v e at) ≡ initialiser_size e
put_initialiser_length names v None at = refl
put_initialiser_length names v (Some e) at = two (expression_code names e 0 at) (put_code v)
    (expression_size e) 2 (expression_length names e 0 at) refl

stacked_length : (names : Names) (v : StackedVariable) (n : Option ℕ) (e : Option Expression)
    (at : ℕ) → length (stacked_declared_code names v n e at) ≡ stacked_size n e
stacked_length names v (Some n) e at = refl
stacked_length names v None e at =
    let i = put_initialiser_length names v e (at + 3) in
    omega arith

declared_at_length : (names : Names) (v : Option StackedVariable) (x : ℕ) (e : Option Expression)
    (at : ℕ) → length (declared_at_code names v x e at) ≡ declared_at_size v e
declared_at_length names None x e at = let i = initialiser_length names x e (at + 1) in omega arith
declared_at_length names (Some v) x e at = stacked_length names v v.elements e at

pub declared_length : (names : Names) (d : Declared) (at : ℕ)
    → length (declared_code names d at) ≡ declared_size d
declared_length names d at = declared_at_length names d.stacked d.local d.value at
