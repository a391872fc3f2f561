-- The code of a function, made piece by piece.
use Rattle.std.proofs.Common.{◌≡◌, ℕ, List, [], ◌∷◌, ◌++◌, length, replicate, Option, None, Some, refl, ap, ◌∙◌, arith}
use Rattle.c_checked.specs.declared.function.StackedParameter.{StackedParameter}
use Rattle.c_checked.specs.Program.{DataFrame, Function}
use Rattle.linear_code.specs.declared.instruction.Instruction.TheVariants.{Return}
use Rattle.seh_ir.specs.Words.{Temporary, Instruction, Separator, LoweringContext, constant, statements_code, first_separators, first_count, bring_code, open_code, open_size, close_code, scope_of, body_start, function_code}
use Rattle.lowering_expressions.proofs.Codes.{joined, two}
use Rattle.seh_ir.proofs.Lowering.{first_are, length_first}

-- ---- lengths

bring_length : (base : ℕ) (ps : List StackedParameter) → length (bring_code base ps) ≡ length ps
bring_length base [] = refl
bring_length base (p ∷ ps) = let e = bring_length base ps in omega arith

pub open_length : (d : Option DataFrame) → length (open_code d) ≡ open_size d
open_length None = refl
open_length (Some d) = let e = bring_length d.base d.parameters in omega arith

-- where the code of the body begins
pub start_length : (f : Function)
    → length (first_separators f ++ open_code f.data_frame) ≡ body_start f
start_length f = two (first_separators f) (open_code f.data_frame) (first_count f)
    (open_size f.data_frame) (length_first f) (open_length f.data_frame)

-- ---- a function

pub function_is : (f : Function) (scope : LoweringContext) (w : ℕ)
    (l0 l1 l2 l3 l4 l5 l6 : List Instruction) → w ≡ first_count f → scope ≡ scope_of f → l0 ≡ []
    → l1 ≡ l0 ++ replicate w Separator → l2 ≡ l1 ++ open_code f.data_frame
    → l3 ≡ l2 ++ statements_code scope f.body (length l2) → l4 ≡ l3 ++ constant 0 0 ∷ []
    → l5 ≡ l4 ++ close_code f.data_frame → l6 ≡ l5 ++ Return (Temporary 0) ∷ []
    → l6 ≡ function_code f
function_is f scope w l0 l1 l2 l3 l4 l5 l6 e s h0 h1 h2 h3 h4 h5 h6 =
    let first = first_separators f in
    let opens = open_code f.data_frame in
    let closes = close_code f.data_frame in
    let body = statements_code (scope_of f) f.body (body_start f) in
    let last = closes ++ Return (Temporary 0) ∷ [] in
    let begun : l1 ≡ first = h1 ∙ ap (λ xs. xs ++ replicate w Separator) h0 ∙ first_are f w e in
    let opened : l2 ≡ first ++ opens = h2 ∙ ap (λ xs. xs ++ opens) begun in
    let long : length l2 ≡ body_start f = ap length opened ∙ start_length f in
    let made : l3 ≡ l2 ++ body = h3
    ∙ ap (λ (c : LoweringContext). l2 ++ statements_code c f.body (length l2)) s
    ∙ ap (λ n. l2 ++ statements_code (scope_of f) f.body n) long in
    let closed : l6 ≡ l4 ++ last = joined l4 l5 l6 closes (Return (Temporary 0) ∷ []) h5 h6 in
    let ended : l6 ≡ l3 ++ constant 0 0 ∷ last = joined l3 l4 l6 (constant 0 0 ∷ []) last h4 closed
    in
    let whole : l6 ≡ l2 ++ (body ++ constant 0 0 ∷ last) = joined l2 l3 l6 body
    (constant 0 0 ∷ last) made ended in
    joined first l2 l6 opens (body ++ constant 0 0 ∷ last) opened whole
