-- The services that a program imports: the place of each among them, its slot and its thunk.
use Rattle.std.proofs.Common.{◌≡◌, ◌≢◌, ℕ, suc, ◌+◌, ◌*◌, ◌<◌, ◌≤◌, Bool, List, [], ◌∷◌, ◌++◌, length, map, Some, refl, sym, ap, subst, ◌∙◌, arith, append_assoc, length-append, inl, inr}
use Rattle.std.specs.Prelude.{if◌then◌else◌}
use Rattle.std.specs.List.{AllByRecursion}
use Rattle.std.proofs.lemmas.Bool.{cases_eq, eq-eqb, ne_eqb}
use Rattle.std.proofs.lemmas.Grind.{flat_map-append}
use Rattle.host_layout.specs.declared.imported.ImportedService.TheVariants.{AddVectored, RaiseException, RemoveVectored, CSpecificHandler, LocalUnwind, Protect, Put, Walk}
use Rattle.host_layout.specs.Imported.{name_of, number_of, service_in_slot}
use Rattle.pe_image.specs.Imports.{Import}
use Rattle.pe_write.specs.ImportTables.{place_of, imported}
use Rattle.template_code.specs.Probing.{check_stack}
use Rattle.x64_instr.specs.declared.instruction.Instr.{Instr}
use Rattle.x64_encode.specs.Chosen.{chosen}
use Rattle.image_link.specs.Words.{ImportedService, spelled, size, service_thunk, front_code}
use Rattle.image_link.proofs.Front.{thunk_size}

-- ---- places

placed : (s : ImportedService) → service_in_slot (number_of s) ≡ Some s
placed AddVectored = refl
placed RaiseException = refl
placed RemoveVectored = refl
placed CSpecificHandler = refl
placed LocalUnwind = refl
placed Protect = refl
placed Put = refl
placed Walk = refl

pub same_service : (s t : ImportedService) → number_of s ≡ number_of t → s ≡ t
same_service s t e =
    let both : Some s ≡ Some t = sym (placed s) ∙ ap service_in_slot e ∙ placed t in cc

module _ (v t : ImportedService) (ts : List ImportedService) where
  pub place_here : number_of t ≡ number_of v → place_of (t ∷ ts) v ≡ 0
  place_here e = ap (λ (b : Bool). if b then 0 else suc (place_of ts v))
      (eq-eqb (number_of t) (number_of v) e)

  pub place_later : number_of t ≢ number_of v → place_of (t ∷ ts) v ≡ suc (place_of ts v)
  place_later ne = ap (λ (b : Bool). if b then 0 else suc (place_of ts v))
      (ne_eqb (number_of t) (number_of v) ne)

-- ---- thunks

-- where code has the thunk of a service among those that are imported
pub record ThunkThere (bytes : List ℕ) (thunk : Instr) (place : ℕ) : Type 0 where
  pub before : List ℕ
  pub after : List ℕ
  pub same : bytes ≡ before ++ (chosen thunk ++ after)
  pub long : length before ≡ 6 * place

module _ (f : ImportedService → Instr) (six : (s : ImportedService) → size (f s) ≡ 6)
    (v : ImportedService) (rest : List ℕ) where
  among : (ss : List ImportedService) → place_of ss v < length ss
      → ThunkThere (spelled (map f ss) ++ rest) (f v) (place_of ss v)
  unfolding size
  among [] lt = absurd (omega arith)
  among (t ∷ ts) lt = elim (cases_eq (number_of t) (number_of v)) [
    | inl e ↦
        let here = place_here v t ts e in
        let same = same_service t v e in
        record {
          before = [];
          after = spelled (map f ts) ++ rest;
          same = append_assoc (chosen (f t)) (spelled (map f ts)) rest
              ∙ ap (λ (s : ImportedService). chosen (f s) ++ (spelled (map f ts) ++ rest)) same;
          long = omega arith;
        }
    | inr ne ↦
        let later = place_later v t ts ne in
        let more = among ts (omega arith) in
        let one = six t in
        let counted = more.long in
        record {
          before = chosen (f t) ++ more.before;
          after = more.after;
          same = append_assoc (chosen (f t)) (spelled (map f ts)) rest
              ∙ ap (λ (bytes : List ℕ). chosen (f t) ++ bytes) more.same
              ∙ sym (append_assoc (chosen (f t)) more.before (chosen (f v) ++ more.after));
          long = omega (arith, length-append (chosen (f t)) more.before);
        }
  ]

-- in what comes before the routines
pub thunk_there : (imports : List ImportedService) (text rdata : ℕ) (v : ImportedService)
    (rest : List ℕ) → place_of imports v < length imports
    → ThunkThere (spelled (front_code imports text rdata) ++ rest)
    (service_thunk imports text rdata v) (place_of imports v)
thunk_there imports text rdata v rest lt =
    let thunk = service_thunk imports text rdata in
    let there = among thunk (thunk_size imports text rdata) v (spelled check_stack ++ rest) imports
    lt in
    record {
      before = there.before;
      after = there.after;
      same = ap (λ (bytes : List ℕ). bytes ++ rest)
          (flat_map-append chosen (map thunk imports) check_stack)
          ∙ append_assoc (spelled (map thunk imports)) (spelled check_stack) rest ∙ there.same;
      long = there.long;
    }

-- ---- slots

-- a slot that begins at one address at least, and ends at another at most
abbrev pub IsWithin : ℕ → ℕ → Import → Type 0
IsWithin low high i = (low ≤ i.slot) × (i.slot + 8 ≤ high)

pub slots_within : (low high slot : ℕ) (ss : List ImportedService) → low ≤ slot
    → slot + 8 * length ss ≤ high → AllByRecursion (IsWithin low high) (imported slot ss)
slots_within low high slot [] le end = tt
slots_within low high slot (s ∷ ss) le end = (
  (omega arith, omega arith),
  slots_within low high (slot + 8) ss (omega arith) (omega arith),
)

-- the import of a service, with the slots after it
pub record SlotThere (slot : ℕ) (ss : List ImportedService) (v : ImportedService) : Type 0 where
  pub before : List Import
  pub later : List Import
  pub same : before ++ (record { name = name_of v; slot = slot + 8 * place_of ss v } ∷ later)
      ≡ imported slot ss
  pub past : AllByRecursion (IsWithin (slot + 8 * place_of ss v + 8) (slot + 8 * length ss)) later

abbrev named : ImportedService → ℕ → Import
named s slot = record { name = name_of s; slot = slot }

pub slot_there : (slot : ℕ) (ss : List ImportedService) (v : ImportedService)
    → place_of ss v < length ss → SlotThere slot ss v
slot_there slot [] v lt = absurd (omega arith)
slot_there slot (t ∷ ts) v lt = elim (cases_eq (number_of t) (number_of v)) [
  | inl e ↦
      let here = place_here v t ts e in
      let at : slot + 8 * place_of (t ∷ ts) v ≡ slot = omega arith in
      record {
        before = [];
        later = imported (slot + 8) ts;
        same = λ i. named (sym (same_service t v e) i) (at i) ∷ imported (slot + 8) ts;
        past = slots_within (slot + 8 * place_of (t ∷ ts) v + 8) (slot + 8 * length (t ∷ ts))
            (slot + 8) ts (omega arith) (omega arith);
      }
  | inr ne ↦
      let later = place_later v t ts ne in
      let more = slot_there (slot + 8) ts v (omega arith) in
      let at : slot + 8 * place_of (t ∷ ts) v ≡ slot + 8 + 8 * place_of ts v = omega arith in
      let end : slot + 8 * length (t ∷ ts) ≡ slot + 8 + 8 * length ts = omega arith in
      record {
        before = named t slot ∷ more.before;
        later = more.later;
        same = ap (λ (n : ℕ). named t slot ∷ (more.before ++ (named v n ∷ more.later))) at
            ∙ ap (λ (is : List Import). named t slot ∷ is) more.same;
        past = subst (λ (n : ℕ). AllByRecursion (IsWithin (n + 8) (slot + 8 * length (t ∷ ts)))
            more.later) (sym at)
            (subst (λ (n : ℕ). AllByRecursion
            (IsWithin (slot + 8 + 8 * place_of ts v + 8) n) more.later) (sym end) more.past);
      }
]

-- what holds of each holds of each that follows from it
pub all_from : {A : Type 0} (P Q : A → Type 0) (xs : List A) → ((x : A) → P x → Q x)
    → AllByRecursion P xs → AllByRecursion Q xs
all_from P Q [] f h = tt
all_from P Q (x ∷ xs) f h = (f x h.0, all_from P Q xs f h.1)
