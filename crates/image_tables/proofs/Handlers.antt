-- The thunk of `__C_specific_handler` is read as the C handler.
use Rattle.std.proofs.Common.{◌≡◌, ℕ, ◌+◌, ◌-◌, ◌*◌, ◌%◌, ◌^◌, ◌<◌, ◌≤◌, Bool, true, false, cond, List, [], ◌∷◌, length, Option, Some, None, refl, sym, ap, ◌∙◌, arith, inl, inr}
use Rattle.std.specs.Prelude.{option_and_then}
use Rattle.std.specs.Option.{option_map_or}
use Rattle.std.proofs.lemmas.Bool.{cases_eq, eq-eqb, ne_eqb, lt-ltb}
use Rattle.image_tables.specs.Words.{W32, low, Image, stored, Import, is_c_handler, imported, CSpecificHandler, chosen, modrm, thunk, distance, plain_slot, after_rex, begins_with_rex, jump_slot, is_c_name, slots_at, slot_of, place_of, name_of, little, JumpsAreSpelled}
use Rattle.pe_image.specs.Field.{field}
use Rattle.pe_image.specs.Imports.{imports_of}
use Rattle.pe_image.specs.Bound.{bound_name}
use Rattle.pe_image.proofs.LastBound.{bound_after, bound_from_none}
use Rattle.host_layout.specs.declared.imported.ImportedService.{ImportedService}
use Rattle.host_layout.specs.Imported.{number_of}
use Rattle.image_tables.proofs.Lemmas.{place_here, place_later, same_service}
use Rattle.eh_tables.specs.declared.layout.TheConstants.{JUMP_SIZE}
use Rattle.eh_tables.specs.Handler.{extended}

-- ---- the jump

abbrev pub jump_bytes : ℕ → List ℕ
jump_bytes d = 0xFF ∷ 0x25 ∷ little 4 (low W32 d)

pub thunk_bytes : (d : ℕ) → chosen (thunk d) ≡ jump_bytes d
unfolding modrm
thunk_bytes d = refl

displaced : (d : ℕ) → d < 2 ^ 31 → field 4 (jump_bytes d) 2 ≡ d
displaced d lt = let z : field 4 (jump_bytes d) 2 ≡ d = omega arith in z

displacement : (d : ℕ) → field 4 (jump_bytes d) 2 ≡ low W32 d
displacement d = omega arith

pub jumps_are_spelled : JumpsAreSpelled
jumps_are_spelled rva d fits =
    ap (plain_slot rva) (thunk_bytes d)
    ∙ ap (λ (n : ℕ). Some ((rva + JUMP_SIZE + extended n) % 2 ^ 64)) (displacement d)
    ∙ ap (λ (n : ℕ). Some ((rva + JUMP_SIZE + n) % 2 ^ 64)) fits

extended_is : (d : ℕ) → d < 2 ^ 31 → extended d ≡ d
extended_is d lt = ap (λ (b : Bool). cond b d (d + (2 ^ 64 - 2 ^ 32))) (lt-ltb d (2 ^ 31) lt)

-- to a place after it
slot_is : (rva to : ℕ) → rva + 6 ≤ to → to < 2 ^ 31
    → (rva + 6 + extended (field 4 (jump_bytes (distance (rva + 6) to)) 2)) % 2 ^ 64 ≡ to
slot_is rva to le lt =
    let d = distance (rva + 6) to in
    let short : d < 2 ^ 31 = omega arith in
    let e : extended (field 4 (jump_bytes d) 2) ≡ d = ap extended (displaced d short)
    ∙ extended_is d short in
    ap (λ (n : ℕ). (rva + 6 + n) % 2 ^ 64) e ∙
    (let z : (rva + 6 + d) % 2 ^ 64 ≡ to = omega arith in z)

jumps : (image : Image) (rva to : ℕ) → rva + 6 ≤ to → to < 2 ^ 31
    → stored image.sections rva 6 ≡ Some (jump_bytes (distance (rva + 6) to))
    → jump_slot image rva ≡ Some to
jumps image rva to le lt h =
    ap (option_and_then (λ bytes. after_rex image rva bytes (begins_with_rex bytes))) h
    ∙ ap (λ (n : ℕ). Some n) (slot_is rva to le lt)

-- ---- the name of its slot

-- later slots aren't it
others : (to slot : ℕ) (known : Option (List ℕ)) (ss : List ImportedService) → to < slot
    → bound_after to known (imported slot ss) ≡ known
others to slot known [] lt = refl
others to slot known (s ∷ ss) lt =
    ap (λ (b : Bool). bound_after to (cond b (Some (name_of s)) known) (imported (slot + 8) ss))
    (ne_eqb slot to (λ e. (let w : slot ≡ to = e in absurd (omega arith))))
    ∙ others to (slot + 8) known ss (omega arith)

bound_at : (to slot : ℕ) (known : Option (List ℕ)) (ss : List ImportedService)
    (v : ImportedService) → place_of ss v < length ss → to ≡ slot + 8 * place_of ss v
    → bound_after to known (imported slot ss) ≡ Some (name_of v)
bound_at to slot known [] v lt e = absurd (omega arith)
bound_at to slot known (t ∷ ts) v lt e =
    let bound = λ (b : Bool). bound_after to (cond b (Some (name_of t)) known)
    (imported (slot + 8) ts) in
    elim (cases_eq (number_of t) (number_of v)) [
      | inl same ↦
          let here = place_here v t ts same in
          ap bound (eq-eqb slot to (omega arith))
          ∙ others to (slot + 8) (Some (name_of t)) ts (omega arith)
          ∙ ap (λ (s : ImportedService). Some (name_of s)) (same_service t v same)
      | inr ne ↦
          let later = place_later v t ts ne in
          ap bound (ne_eqb slot to (λ z. (let w : slot ≡ to = z in absurd (omega arith))))
          ∙ bound_at to (slot + 8) known ts v (omega arith) (omega arith)
    ]

is_c : (image : Image) (rva to slot : ℕ) (ss : List ImportedService) → jump_slot image rva ≡ Some to
    → imports_of image ≡ imported slot ss → place_of ss CSpecificHandler < length ss
    → to ≡ slot + 8 * place_of ss CSpecificHandler → is_c_handler image rva ≡ true
unfolding is_c_handler
is_c image rva to slot ss j i lt e =
    ap (λ (o : Option ℕ). option_map_or is_c_name
    (option_and_then (λ slot. bound_name slot (imports_of image)) o) false) j
    ∙ ap (λ (xs : List Import). option_map_or is_c_name (bound_name to xs) false) i
    ∙ ap (λ (o : Option (List ℕ)). option_map_or is_c_name o false)
    (sym (bound_from_none to (imported slot ss)) ∙ bound_at to slot None ss CSpecificHandler lt e)

-- the thunk of the handler, in a program that imports it
pub handler_is_c : (image : Image) (rva r to : ℕ) (ss : List ImportedService)
    → place_of ss CSpecificHandler < length ss → to ≡ r + slot_of ss CSpecificHandler
    → rva + 6 ≤ to → to < 2 ^ 31
    → stored image.sections rva 6 ≡ Some (chosen (thunk (distance (rva + 6) to)))
    → imports_of image ≡ imported (slots_at ss r) ss → is_c_handler image rva ≡ true
handler_is_c image rva r to ss lt e le small h i =
    is_c image rva to (slots_at ss r) ss (jumps image rva to le small
    (h ∙ ap (λ (bytes : List ℕ). Some bytes) (thunk_bytes (distance (rva + 6) to)))) i lt
    (omega arith)
