-- What comes before the routines: the thunks of the services that are imported, and `__chkstk`; and
-- how many bytes they and the tables of imports take.
use Rattle.std.proofs.Common.{◌≡◌, ℕ, suc, ◌+◌, ◌*◌, ◌<◌, ◌≤◌, ◌==◌, Bool, true, false, List, [], ◌∷◌, length, get_or, map, drop, drop-cons, refl, ap, ◌∙◌, arith}
use Rattle.std.specs.Prelude.{if◌then◌else◌}
use Rattle.host_layout.specs.declared.limit.TheConstants.{MOST_IMAGE}
use Rattle.host_layout.specs.Imported.{number_of}
use Rattle.host_layout.specs.declared.imported.ImportedService.TheVariants.{AddVectored, RaiseException, RemoveVectored, CSpecificHandler, LocalUnwind, Protect, Put, Walk}
use Rattle.template_code.specs.Probing.{check_stack}
use Rattle.pe_write.specs.ImportTables.{place_of}
use Rattle.image_link.specs.Words.{ImportedService, LinearProgram, size, sizes, modrm, hint_name_size, import_names_size, tables_size, IsNear, thunk_at, service_thunk, front_code, front_size, calls, services_if, services_of, IsImportedIf, IsImported, AreFew}
use Rattle.std.proofs.lemmas.Bool.{false≢true}
use Rattle.image_link.proofs.Lemmas.{sizes_append}

-- ---- the code

check_size : sizes check_stack ≡ 41
unfolding size modrm
check_size = refl

module _ (imports : List ImportedService) (text rdata : ℕ) where
  pub thunk_size : (s : ImportedService) → size (service_thunk imports text rdata s) ≡ 6
  unfolding size modrm
  thunk_size s = refl

  pub thunks_size : (ss : List ImportedService)
      → sizes (map (service_thunk imports text rdata) ss) ≡ 6 * length ss
  thunks_size [] = refl
  thunks_size (s ∷ ss) = let t = thunk_size s in let r = thunks_size ss in omega arith

  pub front_sizes : sizes (front_code imports text rdata) ≡ front_size imports
  front_sizes = omega (
    arith,
    sizes_append (map (service_thunk imports text rdata) imports) check_stack,
    thunks_size imports,
    check_size,
  )

  pub thunks_next : (ss : List ImportedService) (i : ℕ) (d : ImportedService) → i < length ss
      → map (service_thunk imports text rdata) (drop i ss)
      ≡ service_thunk imports text rdata (get_or ss i d)
      ∷ map (service_thunk imports text rdata) (drop (i + 1) ss)
  thunks_next ss i d lt =
      let after : suc i ≡ i + 1 = omega arith in
      ap (map (service_thunk imports text rdata)) (drop-cons ss i d lt)
      ∙ ap (λ (n : ℕ). service_thunk imports text rdata (get_or ss i d)
      ∷ map (service_thunk imports text rdata) (drop n ss)) after

-- the place of a service is at most behind all others
pub place_small : (ss : List ImportedService) (v : ImportedService) → place_of ss v ≤ length ss
place_small [] v = omega arith
place_small (t ∷ ts) v =
    let others = place_small ts v in
    elim (number_of t == number_of v) as
    (λ b. (if b then 0 else suc (place_of ts v)) ≤ suc (length ts)) [
      | true ↦ omega arith
      | false ↦ omega arith
    ]

pub thunk_near : (ss : List ImportedService) (text : ℕ) (v : ImportedService) → AreFew ss
    → text ≤ MOST_IMAGE → IsNear (thunk_at ss text v)
thunk_near ss text v few lt = let place = place_small ss v in omega arith

-- ---- the tables

name_small : (s : ImportedService) → hint_name_size s ≤ 64
name_small AddVectored = omega arith
name_small RaiseException = omega arith
name_small RemoveVectored = omega arith
name_small CSpecificHandler = omega arith
name_small LocalUnwind = omega arith
name_small Protect = omega arith
name_small Put = omega arith
name_small Walk = omega arith

names_small : (ss : List ImportedService) → import_names_size ss ≤ 64 * length ss
names_small [] = omega arith
names_small (s ∷ ss) = let n = name_small s in let r = names_small ss in omega arith

pub imports_small : (ss : List ImportedService) → AreFew ss → tables_size ss ≤ 8192
imports_small ss few = let n = names_small ss in omega arith

-- the services that a program imports, by which of them it calls
pub services_are : (p : LinearProgram) (adds removes walks : Bool) → adds ≡ calls AddVectored p
    → removes ≡ calls RemoveVectored p → walks ≡ calls Walk p
    → services_if adds removes walks ≡ services_of p
unfolding services_of
services_are p adds removes walks a r w = λ i. services_if (a i) (r i) (w i)

-- a program imports few services
pub services_few : (p : LinearProgram) → AreFew (services_of p)
unfolding services_of
services_few p = by (calls AddVectored p) (calls RemoveVectored p) (calls Walk p)
  where
    by : (adds removes walks : Bool) → AreFew (services_if adds removes walks)
    by true true true = omega arith
    by true true false = omega arith
    by true false true = omega arith
    by true false false = omega arith
    by false true true = omega arith
    by false true false = omega arith
    by false false true = omega arith
    by false false false = omega arith

among : (adds removes walks : Bool) (v : ImportedService) → IsImportedIf adds removes walks v
    → place_of (services_if adds removes walks) v < length (services_if adds removes walks)
among true true true RaiseException e = omega arith
among true true true CSpecificHandler e = omega arith
among true true true LocalUnwind e = omega arith
among true true true Protect e = omega arith
among true true true Put e = omega arith
among true true true AddVectored e = omega arith
among true true true RemoveVectored e = omega arith
among true true true Walk e = omega arith
among true true false RaiseException e = omega arith
among true true false CSpecificHandler e = omega arith
among true true false LocalUnwind e = omega arith
among true true false Protect e = omega arith
among true true false Put e = omega arith
among true true false AddVectored e = omega arith
among true true false RemoveVectored e = omega arith
among true true false Walk e = absurd (false≢true e)
among true false true RaiseException e = omega arith
among true false true CSpecificHandler e = omega arith
among true false true LocalUnwind e = omega arith
among true false true Protect e = omega arith
among true false true Put e = omega arith
among true false true AddVectored e = omega arith
among true false true RemoveVectored e = absurd (false≢true e)
among true false true Walk e = omega arith
among true false false RaiseException e = omega arith
among true false false CSpecificHandler e = omega arith
among true false false LocalUnwind e = omega arith
among true false false Protect e = omega arith
among true false false Put e = omega arith
among true false false AddVectored e = omega arith
among true false false RemoveVectored e = absurd (false≢true e)
among true false false Walk e = absurd (false≢true e)
among false true true RaiseException e = omega arith
among false true true CSpecificHandler e = omega arith
among false true true LocalUnwind e = omega arith
among false true true Protect e = omega arith
among false true true Put e = omega arith
among false true true AddVectored e = absurd (false≢true e)
among false true true RemoveVectored e = omega arith
among false true true Walk e = omega arith
among false true false RaiseException e = omega arith
among false true false CSpecificHandler e = omega arith
among false true false LocalUnwind e = omega arith
among false true false Protect e = omega arith
among false true false Put e = omega arith
among false true false AddVectored e = absurd (false≢true e)
among false true false RemoveVectored e = omega arith
among false true false Walk e = absurd (false≢true e)
among false false true RaiseException e = omega arith
among false false true CSpecificHandler e = omega arith
among false false true LocalUnwind e = omega arith
among false false true Protect e = omega arith
among false false true Put e = omega arith
among false false true AddVectored e = absurd (false≢true e)
among false false true RemoveVectored e = absurd (false≢true e)
among false false true Walk e = omega arith
among false false false RaiseException e = omega arith
among false false false CSpecificHandler e = omega arith
among false false false LocalUnwind e = omega arith
among false false false Protect e = omega arith
among false false false Put e = omega arith
among false false false AddVectored e = absurd (false≢true e)
among false false false RemoveVectored e = absurd (false≢true e)
among false false false Walk e = absurd (false≢true e)

-- and each that it imports is among them
pub services_there : (p : LinearProgram) (v : ImportedService) → IsImported p v
    → place_of (services_of p) v < length (services_of p)
unfolding services_of
services_there p v e =
    among (calls AddVectored p) (calls RemoveVectored p) (calls Walk p) v e
