-- The linear code of a program calls `walk` exactly where the program names it.
use Rattle.std.proofs.Common.{◌≡◌, ℕ, zero, suc, ◌+◌, Bool, false, List, [], ◌∷◌, ◌++◌, map, replicate, Option, Some, None, refl, ap, ◌∙◌}
use Rattle.std.specs.Prelude.{◌||◌}
use Rattle.host_layout.specs.declared.imported.ImportedService.TheVariants as imports
use Rattle.c_checked.specs.declared.function.StackedParameter.{StackedParameter}
use Rattle.c_checked.specs.Program.{DataFrame, Function, surplus}
use Rattle.linear_code.specs.declared.slot.Slot.TheVariants.{Temporary}
use Rattle.linear_code.specs.declared.instruction.Instruction.TheVariants.{Separator, Return}
use Rattle.lowering_expressions.specs.Expressions.{constant}
use Rattle.seh_ir.specs.Lowered.{all_locals, asking, first_separators, bring_code, open_code, close_code, body_start, scope_of, function_code, lowered_function, lowered_funclets, all_funclets}
use Rattle.seh_ir.specs.Statements.{statements_code}
use Rattle.image_link.specs.Services.{functions_call}
use Rattle.named_walks.specs.Walks.{statements_walk, functions_walk}
use Rattle.named_walks.specs.Laws.{WalksAreNamed}
use Rattle.named_walks.proofs.Lists.{walk_in, walk_within, walk_of, append_funclets, shuffle, plain_first, plain_last}
use Rattle.named_walks.proofs.StatementWalks.{statements_in}

-- ---- what a function begins and ends with

separators_plain : (n : ℕ) → walk_in (replicate n Separator) ≡ false
separators_plain zero = refl
separators_plain (suc n) = separators_plain n

bring_plain : (base : ℕ) (ps : List StackedParameter) → walk_in (bring_code base ps) ≡ false
bring_plain base [] = refl
bring_plain base (p ∷ ps) = bring_plain base ps

open_plain : (d : Option DataFrame) → walk_in (open_code d) ≡ false
open_plain None = refl
open_plain (Some d) = bring_plain d.base d.parameters

close_plain : (d : Option DataFrame) → walk_in (close_code d ++ Return (Temporary 0) ∷ []) ≡ false
close_plain None = refl
close_plain (Some d) = refl

-- ---- functions

function_in : (number : ℕ) (f : Function)
    → walk_of (function_code f) (lowered_funclets number f) ≡ statements_walk f.body
function_in number f =
    let own = statements_code (scope_of f) f.body (body_start f) in
    let ends = constant 0 0 ∷ (close_code f.data_frame ++ Return (Temporary 0) ∷ []) in
    let opens = open_code f.data_frame in
    let funclets = lowered_funclets number f in
    plain_first (first_separators f) (opens ++ (own ++ ends)) funclets
    (separators_plain (surplus f + asking f))
    (plain_first opens (own ++ ends) funclets (open_plain f.data_frame)
    (plain_last own ends funclets (statements_in f.body (scope_of f) (body_start f)
    (record { function = number; locals = all_locals f; parent = None }) (scope_of f).names)
    (close_plain f.data_frame)))

functions_in : (number : ℕ) (fs : List Function)
    → (functions_call imports.Walk (map lowered_function fs)
    || walk_within (all_funclets number fs)) ≡ functions_walk fs
functions_in number [] = refl
functions_in number (f ∷ fs) =
    let own = walk_in (function_code f) in
    let others = functions_call imports.Walk (map lowered_function fs) in
    let funclets = lowered_funclets number f in
    let rest = all_funclets (number + 1) fs in
    ap (λ (c : Bool). (own || others) || c) (append_funclets funclets rest)
    ∙ (shuffle own others (walk_within funclets) (walk_within rest)
    ∙ (ap (λ (c : Bool). c || (others || walk_within rest)) (function_in number f)
    ∙ ap (λ (c : Bool). statements_walk f.body || c) (functions_in (number + 1) fs)))

pub walks_are_named : WalksAreNamed
walks_are_named program = functions_in 0 program.functions
