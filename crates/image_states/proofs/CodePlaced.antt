-- The code of a loaded image: that of bodies and their cold parts, of thunks and of `__chkstk`.
use Rattle.std.proofs.Common.{◌≡◌, ℕ, suc, ◌+◌, ◌*◌, ◌-◌, ◌^◌, ◌<◌, ◌≤◌, true, false, List, [], ◌∷◌, ◌++◌, length, map, Option, Some, refl, sym, ap, subst, ◌∙◌, arith, append_assoc, inl}
use Rattle.std.specs.List.{AllByRecursion}
use Rattle.std.proofs.lemmas.Grind.{flat_map-append}
use Rattle.std.proofs.lemmas.List.{append-nil}
use Rattle.image_states.specs.Words.{Service, service_named, is_writable, Memory, may_write, chosen, modrm, Section, Import, ImageContents, image_of, imports_of, sizes_of, rdata_at, end_at, mode_in, stored_byte, with_slots, mapped, IsExecutableAt, LinearBody, LinearProgram, BodyName, body_of, Instr, spelled, size, sizes, check_stack, IsCodeAt, SiteView, routine_size, routine_code, routine_bytes, apart_code, apart_bytes, links, text_begin, linked, routines, site_of, image_base, begin_of, code_of, cold_code_of, functions_of, funclets_of, routine_of, plan_of, sites_of, HasWholeImage, MOST_IMAGE, is_readable, number_at, may_read, name_of, slot_of, SlotsAreApart, thunk, thunk_at, service_thunk, front_code, routines_bytes, all_apart_bytes, site_blocks, HasService, tables_size, slots_at, place_of, routines_begin, cold_begin}
use Rattle.host_layout.specs.declared.service.Service.TheVariants as services
use Rattle.host_layout.specs.Services.{address_of}
use Rattle.host_layout.specs.declared.imported.ImportedService.{ImportedService}
use Rattle.host_layout.specs.declared.imported.ImportedService.TheVariants as imports
use Rattle.image_states.proofs.Lemmas.{listed, slots_read, sizes_spelled, routine_small, is, text_is, rdata_is, end_inside, code_length, cold_small}
use Rattle.image_link.specs.Services.{IsImported}
use Rattle.image_link.proofs.Front.{imports_small, services_few, services_there, thunks_size}
use Rattle.image_link.proofs.Imports.{thunk_there, slot_there, IsWithin, all_from}
use Rattle.template_code.specs.Jumps.{distance}
use Rattle.template_code.specs.ColdParts as parts
use Rattle.template_code.proofs.Sizes.{body_sizes}
use Rattle.x64_templates.specs.Runs.{HasCode}
use Rattle.image_tables.proofs.Handlers.{thunk_bytes}
use Rattle.image_tables.proofs.ImageText.{images_have_text, texts_are_fixed}
use Rattle.image_states.proofs.Addresses.{reserved, place, here}
use Rattle.image_states.proofs.Entering.{code_same, cold_same}
use Rattle.image_states.proofs.Data.{tables_there}

-- ---- code that may not be written

pub code_at : (m : Memory) (at : ℕ) (bytes : List ℕ) → IsExecutableAt m at bytes
    → ((k : ℕ) → k < length bytes → may_write m (at + k) ≡ false) → IsCodeAt m at bytes
code_at m at [] s fixed = tt
code_at m at (b ∷ bytes) s fixed =
    let z : at ≡ at + 0 = omega arith in (
      record { byte = s.0; executes = s.1; fixed = ap (may_write m) z ∙ fixed 0 (omega arith) },
      code_at m (at + 1) bytes s.2 (λ k lt. (let e : at + 1 + k ≡ at + suc k = omega arith in
          ap (may_write m) e ∙ fixed (suc k) (omega arith))),
    )

pub code_split : (m : Memory) (at : ℕ) (a b : List ℕ) → IsCodeAt m at (a ++ b)
    → IsCodeAt m at a × IsCodeAt m (at + length a) b
code_split m at [] b h = (tt, let e : at ≡ at + 0 = omega arith in subst (λ x. IsCodeAt m x b) e h)
code_split m at (x ∷ a) b h =
    let r = code_split m (at + 1) a b h.1 in
    let e : at + 1 + length a ≡ at + length (x ∷ a) = omega arith in
    ((h.0, r.0), subst (λ y. IsCodeAt m y b) e r.1)

check_stack_size : sizes check_stack ≡ 41
unfolding size modrm
check_stack_size = refl

module _ (program : LinearProgram) (c : HasWholeImage program) where
  abbrev p : ImageContents
  p = linked program

  abbrev m : Memory
  m = mapped (image_of p)

  abbrev s : SiteView
  s = site_of program

  abbrev T : ℕ
  T = image_base + text_begin program.globals

  abbrev r : ℕ
  r = rdata_at (sizes_of p)

  low : end_at (sizes_of p) ≤ MOST_IMAGE
  low = c.small

  text_code : IsCodeAt m T p.text
  text_code = code_at m T p.text (images_have_text program c.fits)
      (λ k lt. texts_are_fixed program k c.fits lt)

  -- ---- bodies

  -- code that is in the text
  code_is : (at : ℕ) (before after : List ℕ) (code : List Instr)
      → p.text ≡ before ++ (spelled code ++ after)
      → text_begin program.globals + length before ≡ at → at + sizes code < 2 ^ 31
      → HasCode m (image_base + at) code
  code_is at before after code e here lt =
      let there : T + length before ≡ image_base + at = omega arith in
      let all = (code_split m T before (spelled code ++ after) (subst (IsCodeAt m T) e text_code)).1
      in
      record {
        is_there = (code_split m (image_base + at) (spelled code) after
            (subst (λ (n : ℕ). IsCodeAt m n (spelled code ++ after)) there all)).0;
        placed = record { low = omega arith; high = omega arith };
      }

  pub body_code : (name : BodyName) (b : LinearBody) → body_of program name ≡ Some b
      → HasCode m (begin_of (plan_of program) (sites_of program) name)
      (code_of program (plan_of program) (sites_of program) name b)
  unfolding routine_bytes
  body_code name b is' =
      let q = place program c name b is' in
      let h = here program c name b is' in
      let x = routine_of program name in
      let code = routine_code s x.begin x.cold x.routine in
      let room = h.room in
      let small = routine_small x.routine h.near in
      let long = code_length s x.begin x.cold x.routine h.near in
      let wide : sizes code ≡ routine_size x.routine = sym (sizes_spelled code) ∙ long in
      subst (λ (n : ℕ). HasCode m n (code_of program (plan_of program) (sites_of program) name b))
      (sym q.begin) (subst (HasCode m (image_base + x.begin))
      (sym (code_same program c name b is'))
      (code_is x.begin h.before h.after code h.bytes h.here (omega arith)))

  pub cold_code : (name : BodyName) (b : LinearBody) → body_of program name ≡ Some b
      → HasCode m ((sites_of program).cold name)
      (cold_code_of (plan_of program) (sites_of program) name b)
  unfolding apart_bytes
  cold_code name b is' =
      let h = here program c name b is' in
      let x = routine_of program name in
      let code = apart_code s x.begin x.cold x.routine in
      let room = h.cold_room in
      let small = cold_small x.routine h.near in
      let wide = body_sizes (links program x) x.routine.layout x.cold
      (parts.cold_code x.routine.body)
      in
      subst (HasCode m (image_base + x.cold)) (sym (cold_same program c name b is'))
      (code_is x.cold h.ahead h.behind code h.apart h.apart_here (omega arith))

  -- ---- the front

  abbrev t : ImportedService → List ℕ
  t v = chosen (service_thunk s.imports s.text s.rdata v)

  abbrev front : List ℕ
  front = spelled (front_code s.imports s.text s.rdata)

  abbrev hot : List ℕ
  hot = routines_bytes s (routines_begin program) (cold_begin program) (routines program)

  abbrev cold : List ℕ
  cold = all_apart_bytes s (routines_begin program) (cold_begin program) (routines program)

  abbrev last : List ℕ
  last = site_blocks s

  text_split : p.text ≡ front ++ (hot ++ (cold ++ last))
  text_split = append_assoc (front ++ hot) cold last ∙ append_assoc front hot (cold ++ last)

  -- the thunk of a service that is imported
  thunk_is : (v : ImportedService) → IsImported program v
      → IsCodeAt m (T + 6 * place_of s.imports v) (t v)
  thunk_is v is_there =
      let f = thunk_there s.imports s.text s.rdata v (hot ++ (cold ++ last))
      (services_there program v is_there) in
      let long = f.long in
      let at : T + length f.before ≡ T + 6 * place_of s.imports v = omega arith in
      let b = (code_split m T f.before (t v ++ f.after)
      (subst (IsCodeAt m T) (text_split ∙ f.same) text_code)).1 in
      subst (λ (n : ℕ). IsCodeAt m n (t v)) at
      (code_split m (T + length f.before) (t v) f.after b).0

  check_is : IsCodeAt m (T + 6 * length s.imports) (spelled check_stack)
  check_is =
      let thunks = map (service_thunk s.imports s.text s.rdata) s.imports in
      let all = (code_split m T front (hot ++ (cold ++ last))
      (subst (IsCodeAt m T) text_split text_code)).0 in
      let at : T + length (spelled thunks) ≡ T + 6 * length s.imports = omega (
        arith,
        sizes_spelled thunks,
        thunks_size s.imports s.text s.rdata s.imports,
      ) in
      subst (λ (n : ℕ). IsCodeAt m n (spelled check_stack)) at
      (code_split m T (spelled thunks) (spelled check_stack)
      (subst (IsCodeAt m T) (flat_map-append chosen thunks check_stack) all)).1

  pub check_code : HasCode m (sites_of program).check_stack check_stack
  check_code =
      let long = check_stack_size in
      let end = end_inside program c.fits in
      let l = low in
      let at : T + 6 * length s.imports ≡ (sites_of program).check_stack = omega arith in
      record {
        is_there = subst (λ (n : ℕ). IsCodeAt m n (spelled check_stack)) at check_is;
        placed = record { low = omega arith; high = omega arith };
      }

  -- ---- slots

  readable : (a : ℕ) → image_base + r ≤ a → a < image_base + r + tables_size p.imports
      → may_read m a ≡ true
  unfolding mapped
  readable a le lt = ap (λ (o : Option Section). is_readable (mode_in o a).rights)
      (tables_there program c a le lt)

  fixed : (a : ℕ) → image_base + r ≤ a → a < image_base + r + tables_size p.imports
      → may_write m a ≡ false
  unfolding mapped
  fixed a le lt = ap (λ (o : Option Section). is_writable (mode_in o a).rights)
      (tables_there program c a le lt)

  abbrev named : ImportedService → ℕ → Import
  named v at = record { name = name_of v; slot = at }

  reads : (before : List Import) (i : Import) (later : List Import) (service : Service)
      → before ++ (i ∷ later) ≡ imports_of p → image_base + i.slot + 8 ≤ 2 ^ 64
      → service_named i.name ≡ Some service → AllByRecursion
      (λ (j : Import). SlotsAreApart (image_base + i.slot) (image_base + j.slot)) later
      → number_at m.byte 8 (image_base + i.slot) ≡ address_of service
  unfolding mapped
  reads before i later service same fits name apart =
      ap (λ (is : List Import). number_at (with_slots image_base (stored_byte (image_of p)) is) 8
      (image_base + i.slot)) (listed p (is program c.fits) ∙ sym same)
      ∙ slots_read image_base (stored_byte (image_of p)) before i later service fits name apart

  -- the slot of a service that is imported
  slot_reads : (v : ImportedService) (service : Service) → IsImported program v
      → service_named (name_of v) ≡ Some service
      → number_at m.byte 8 (image_base + (r + slot_of s.imports v)) ≡ address_of service
  slot_reads v service imported name =
      let ss = s.imports in
      let l = low in
      let few = imports_small ss (services_few program) in
      let there = services_there program v imported in
      let q = slot_there (slots_at ss r) ss v there in
      let slot = slots_at ss r + 8 * place_of ss v in
      let at : r + slot_of ss v ≡ slot = omega arith in
      ap (λ (n : ℕ). number_at m.byte 8 (image_base + n)) at
      ∙ reads q.before (named v slot) q.later service q.same (omega arith) name
      (all_from (IsWithin (slot + 8) (slots_at ss r + 8 * length ss))
      (λ (j : Import). SlotsAreApart (image_base + slot) (image_base + j.slot)) q.later
      (λ j w. (let begin = w.0 in let end = w.1 in
      record { apart = inl (omega arith); fits = omega arith })) q.past)

  -- ---- thunks

  abbrev Serves : ℕ → Service → Type 0
  Serves at service = HasService (functions_of program) (funclets_of program) program
      (plan_of program) (sites_of program) m at service

  -- a jump through the slot of a service that is imported, at an address of the text
  pub serves_at : (v : ImportedService) (service : Service) (n : ℕ) → IsImported program v
      → service_named (name_of v) ≡ Some service → s.text ≤ n → n + 6 ≤ r
      → IsCodeAt m (image_base + n)
      (chosen (thunk (distance (n + 6) (s.rdata + slot_of s.imports v))))
      → Serves (image_base + n) service
  serves_at v service n imported name after before is =
      let there = services_there program v imported in
      let few = imports_small s.imports (services_few program) in
      let l = low in
      let same = rdata_is program c.fits in
      let away = r + slot_of s.imports v - (n + 6) in
      let far : image_base + (r + slot_of s.imports v) ≡ image_base + n + 6 + away = omega arith in
      let d : distance (n + 6) (s.rdata + slot_of s.imports v) ≡ away = omega arith in
      let code = chosen (thunk (distance (n + 6) (s.rdata + slot_of s.imports v))) in
      let spells : code ≡ spelled (thunk away ∷ []) = ap (λ (k : ℕ). chosen (thunk k)) d
      ∙ sym (append-nil (chosen (thunk away))) in
      let long : length code ≡ 6 = ap length (thunk_bytes _) in
      let wide : sizes (thunk away ∷ []) ≡ 6 = sym (sizes_spelled (thunk away ∷ []))
      ∙ sym (ap length spells) ∙ long in
      record {
        thunk = record {
          away = away;
          near = omega arith;
          code = record {
            is_there = subst (IsCodeAt m (image_base + n)) spells is;
            placed = record { low = omega arith; high = omega arith };
          };
          readable = λ a le lt. readable a (omega arith) (omega arith);
          fixed = λ a le lt. fixed a (omega arith) (omega arith);
          bound = ap (number_at m.byte 8) (sym far) ∙ slot_reads v service imported name;
        };
        inside = record {
          low = omega arith;
          high = omega arith;
          own = λ a le lt. reserved program.globals a (omega arith) (omega arith);
        };
        slot = record {
          low = omega arith;
          high = omega arith;
          own = λ a le lt. reserved program.globals a (omega arith) (omega arith);
        };
      }

  -- the thunk of a service that is imported
  pub serves : (v : ImportedService) (service : Service) → IsImported program v
      → service_named (name_of v) ≡ Some service
      → Serves (image_base + thunk_at s.imports s.text v) service
  serves v service imported name =
      let n = 6 * place_of s.imports v in
      let there = services_there program v imported in
      let end = end_inside program c.fits in
      let text' = text_is program c.fits in
      let own : T + n ≡ image_base + thunk_at s.imports s.text v = omega arith in
      serves_at v service (thunk_at s.imports s.text v) imported name (omega arith) (omega arith)
      (subst (λ (k : ℕ). IsCodeAt m k (t v)) own (thunk_is v imported))

  pub unwinds : Serves (sites_of program).local_unwind services.LocalUnwind
  unwinds = serves imports.LocalUnwind services.LocalUnwind tt refl
