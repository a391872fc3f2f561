-- The services that the image of a program imports. Those on vectored handlers and `walk` are
-- imported only where a body of the program calls them.
--
-- The main definition: `services_of`.
use Rattle.std.specs.Prelude.{◌≡◌, ℕ, ◌==◌, Bool, true, false, ◌||◌, nat_lt, List, [], ◌∷◌, ◌++◌, length}
use Rattle.host_layout.specs.declared.imported.ImportedService.{ImportedService}
use Rattle.host_layout.specs.declared.imported.ImportedService.TheVariants as imports
use Rattle.host_layout.specs.Imported.{number_of}
use Rattle.c_operations.specs.declared.built_in.BuiltIn.{BuiltIn}
use Rattle.c_operations.specs.declared.built_in.BuiltIn.TheVariants.{Put, Protect, RaiseException, Walk, AddVectored, RemoveVectored}
use Rattle.linear_code.specs.declared.instruction.Instruction.{Instruction}
use Rattle.linear_code.specs.declared.instruction.Instruction.TheVariants as instructions
use Rattle.linear_code.specs.Program.{LinearFunction, LinearFunclet, LinearProgram}
use Rattle.pe_write.specs.ImportTables.{place_of}

-- ---- which services a program calls

-- the service that a built-in function is
abbrev pub imported_service_of : BuiltIn → ImportedService
imported_service_of Put = imports.Put
imported_service_of Protect = imports.Protect
imported_service_of RaiseException = imports.RaiseException
imported_service_of Walk = imports.Walk
imported_service_of (AddVectored f) = imports.AddVectored
imported_service_of (RemoveVectored f) = imports.RemoveVectored

abbrev pub is_call : ImportedService → Instruction → Bool
is_call s (instructions.CallBuiltIn k first) = number_of (imported_service_of k) == number_of s
is_call s i = false

abbrev pub has_call : ImportedService → List Instruction → Bool
has_call s [] = false
has_call s (i ∷ is) = is_call s i || has_call s is

abbrev pub functions_call : ImportedService → List LinearFunction → Bool
functions_call s [] = false
functions_call s (f ∷ fs) = has_call s f.body.code || functions_call s fs

abbrev pub funclets_call : ImportedService → List LinearFunclet → Bool
funclets_call s [] = false
funclets_call s (f ∷ fs) = has_call s f.body.code || funclets_call s fs

-- the body of a function or of a funclet calls it
abbrev pub calls : ImportedService → LinearProgram → Bool
calls s p = functions_call s p.functions || funclets_call s p.funclets

abbrev pub calls_walk : LinearProgram → Bool
calls_walk p = calls imports.Walk p

-- ---- what is imported

abbrev pub service_if : Bool → ImportedService → List ImportedService
service_if true s = s ∷ []
service_if false s = []

-- in the order of their slots and thunks, by whether the program adds vectored handlers, removes
-- some, and walks
abbrev pub services_if : (adds removes walks : Bool) → List ImportedService
services_if adds removes walks =
    service_if adds imports.AddVectored
    ++ (imports.RaiseException
    ∷ (service_if removes imports.RemoveVectored
    ++ (imports.CSpecificHandler ∷ imports.LocalUnwind ∷ imports.Protect ∷ imports.Put
    ∷ service_if walks imports.Walk)))

-- the services that a program imports, in the order of their slots and thunks: five always, and
-- `AddVectoredExceptionHandler`, `RemoveVectoredExceptionHandler` and `walk` each where a body
-- calls it (`calls`, `calls_walk`)
unfoldable pub services_of : LinearProgram → List ImportedService
services_of p =
    services_if (calls imports.AddVectored p) (calls imports.RemoveVectored p)
    (calls imports.Walk p)

abbrev pub IsImportedIf : (adds removes walks : Bool) → ImportedService → Type 0
IsImportedIf adds removes walks imports.AddVectored = adds ≡ true
IsImportedIf adds removes walks imports.RemoveVectored = removes ≡ true
IsImportedIf adds removes walks imports.Walk = walks ≡ true
IsImportedIf adds removes walks s = Unit {0}

abbrev pub IsImported : LinearProgram → ImportedService → Type 0
IsImported p s =
    IsImportedIf (calls imports.AddVectored p) (calls imports.RemoveVectored p)
    (calls imports.Walk p) s

-- whether a service is among those that are imported
abbrev pub is_among : List ImportedService → ImportedService → Bool
is_among ss s = nat_lt (place_of ss s) (length ss)
