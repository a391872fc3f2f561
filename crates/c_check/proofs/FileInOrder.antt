-- Declarations of the file, one after another.
use Rattle.std.proofs.Common.{◌≡◌, ℕ, ◌+◌, ◌<◌, get_or, length, List, [], ◌++◌, map, drop, append-nil, sym, ap, ◌∙◌}
use Rattle.std.specs.Prelude.{None, not}
use Rattle.c_check.proofs.Lemmas.{kept_more}
use Rattle.c_check.specs.Declarations.{Declares}
use Rattle.c_checked.proofs.Items.{next_of}
use Rattle.c_check.specs.Words.{least_of, kept, SymbolTable, with_block, IsFile, Duplicate, UserFunction, File, parameter_types, named, file_of, with_external_declaration, spelled, is_taken, with_name, unless_holds, Parameter, CType, Identifier, external_declaration}
use Rattle.c_locals.proofs.GlobalPlaces.{at_file}
use Rattle.c_locals.specs.declared.globals.File.{File as File'}
use Rattle.c_syntax.specs.declared.declaration.ExternalDeclaration.{ExternalDeclaration as ExternalDeclaration'}

-- the file after the name of a function
pub function_named : (text : List ℕ) (t : CType) (n : Identifier) (ps : List Parameter)
    (f f' : File')
    → f'.names ≡ with_block f.names (with_name f.names.block (spelled text n)
    (UserFunction f.functions t (parameter_types ps)))
    → f'.bytes.items ≡ f.bytes.items → f'.functions ≡ f.functions + 1
    → least_of f'.faults ≡ kept (least_of f.faults)
    (unless_holds (not (is_taken f.names.block (spelled text n))) n.start Duplicate)
    → (d : File) → IsFile f d → IsFile f' (named text n
    (UserFunction d.functions t (parameter_types ps)) d.bytes (d.functions + 1) [] d)
function_named text t n ps f f' names bytes functions faults d h =
    let duplicate = unless_holds (not (is_taken f.names.block (spelled text n)))
    n.start Duplicate in
    at_file (λ k. IsFile f' (named text n (UserFunction k.functions t (parameter_types ps)) k.bytes
    (k.functions + 1) [] k)) f d h
    (record {
      scope = ap (λ (k : SymbolTable). k.block) names;
      around = ap (λ (k : SymbolTable). k.around) names ∙ h.around;
      bytes = bytes;
      functions = functions;
      faults = kept_more None (least_of f.faults) (least_of f'.faults) d.faults duplicate h.faults
          faults ∙ ap (kept None) (sym (append-nil (d.faults ++ duplicate)));
    })

-- the file so far, and what it is with the other declarations
abbrev pub StillFile : List ℕ → List ExternalDeclaration' → ℕ → File → File' → Type 0
StillFile text list i all f = (k : File) × IsFile f k
    × (all ≡ file_of text (map external_declaration (drop i list)) k)

pub file_on : (text : List ℕ) (list : List ExternalDeclaration') (i : ℕ) (x : ExternalDeclaration')
    (all : File) (f f' : File') → i < length list → x ≡ get_or list i x
    → Declares text (external_declaration x) f f' → StillFile text list i all f
    → StillFile text list (i + 1) all f'
file_on text list i x all f f' lt is one (k, h, e) = (
  with_external_declaration text (external_declaration x) k,
  one k h,
  e ∙ ap (λ l. file_of text (map external_declaration l) k) (next_of list i x lt is),
)
