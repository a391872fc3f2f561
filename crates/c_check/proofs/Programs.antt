-- Programs: the faults of `main`, of the file and of the functions together.
use Rattle.std.proofs.Common.{◌≡◌, ℕ, List, ◌++◌, append-nil, map, Option, Some, None, sym, ap, ◌∙◌, subst}
use Rattle.std.specs.Prelude.{option_map}
use Rattle.c_check.proofs.Swapped.{kept_after_other}
use Rattle.c_check.specs.declared.check.Resolved.{Resolved as Resolved'}
use Rattle.c_check.specs.Words.{Progress, function, broken, least_of, kept, scopes_of, names_around, IsFile, Accepted, reported, FaultAt, functions_of, file_of, empty_file, resolve, ExternalDeclaration}
use Rattle.c_check.specs.Entry.{main_in}
use Rattle.c_check.specs.Programs.{IsResolved}
use Rattle.c_check.proofs.Lemmas.{kept_append}
use Rattle.c_expressions.proofs.Order.{kept_least, nothing_kept}
use Rattle.c_expressions.specs.declared.least.Broken.{Broken}
use Rattle.c_expressions.specs.declared.least.LeastFault.{LeastFault}
use Rattle.c_locals.specs.declared.globals.File.{File as File'}

-- the faults of `main` are found after the file's, and are before them
all_kept : (a b c : Option FaultAt) (main file functions : List FaultAt) → a ≡ kept None file
    → b ≡ kept a main → c ≡ kept b functions → c ≡ kept None (main ++ file ++ functions)
all_kept a b c main file functions p q r =
    r ∙ ap (λ k. kept k functions) (q ∙ ap (λ k. kept k main) p
    ∙ sym (kept_after_other None main file)) ∙ sym (kept_append None (main ++ file) functions)

-- what is resolved with the names that the code has is what is resolved with those of the
-- definition
pub program_resolved : (text : List ℕ) (xs : List ExternalDeclaration) (file : File')
    (faults : LeastFault) (main : ℕ) (made : Progress) (p : Resolved')
    → IsFile file (file_of text xs empty_file)
    → main ≡ (main_in xs (scopes_of file.names)).number
    → least_of faults ≡ kept (least_of file.faults) (main_in xs (scopes_of file.names)).faults
    → map function made.done.items ≡ (functions_of text (scopes_of file.names) xs 1).done
    → least_of made.faults ≡ kept (least_of faults)
    (functions_of text (scopes_of file.names) xs 1).faults
    → p ≡ record { functions = made.done; main = main; globals = file.bytes; faults = made.faults }
    → IsResolved p (resolve text xs)
program_resolved text xs file faults main made p is number main_faults done more_faults whole =
    let d = file_of text xs empty_file in
    let named : scopes_of file.names ≡ d.scope =
    ap (λ k. file.names.block ++ names_around k) is.around ∙ append-nil file.names.block
    ∙ is.scope in
    let entry : main ≡ (main_in xs d.scope).number = number
    ∙ ap (λ names. (main_in xs names).number) named in
    let functions : map function made.done.items ≡ (functions_of text d.scope xs 1).done = done
    ∙ ap (λ names. (functions_of text names xs 1).done) named in
    let first : least_of faults ≡ kept (least_of file.faults)
    (main_in xs d.scope).faults = main_faults
    ∙ ap (λ names. kept (least_of file.faults) (main_in xs names).faults) named in
    let last : least_of made.faults ≡ kept (least_of faults)
    (functions_of text d.scope xs 1).faults = more_faults
    ∙ ap (λ names. kept (least_of faults) (functions_of text names xs 1).faults) named in
    subst (λ q. IsResolved q (resolve text xs)) (sym whole)
    (record {
      program = λ i. record { functions = functions i; main = entry i; globals = is.bytes i };
      faults = all_kept (least_of file.faults) (least_of faults) (least_of made.faults)
          (main_in xs d.scope).faults d.faults
          (functions_of text d.scope xs 1).faults is.faults first
          last;
    })

-- ---- which it is

pub nothing_broken : (text : List ℕ) (xs : List ExternalDeclaration) (w : LeastFault)
    → least_of w ≡ kept None (resolve text xs).faults → w.found ≡ None → Accepted text xs
nothing_broken text xs w p e = nothing_kept (resolve text xs).faults
    (sym p ∙ ap (option_map broken) e)

pub least_broken : (text : List ℕ) (xs : List ExternalDeclaration) (w : LeastFault) (b : Broken)
    → least_of w ≡ kept None (resolve text xs).faults → w.found ≡ Some b
    → reported text xs ≡ Some (broken b)
least_broken text xs w b p e = sym (kept_least (resolve text xs).faults) ∙ sym p
    ∙ ap (option_map broken) e
