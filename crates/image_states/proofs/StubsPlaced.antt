-- What a loaded image has for vectored handlers: the stubs of what it calls, and the name thunks of
-- its functions; and with them all of its code.
use Rattle.std.proofs.Common.{◌≡◌, ℕ, zero, suc, ◌+◌, ◌-◌, ◌*◌, ◌^◌, ◌<◌, ◌≤◌, Bool, true, false, List, [], ◌∷◌, length, Option, Some, None, refl, sym, ap, subst, ◌∙◌, arith, append-nil}
use Rattle.std.specs.Prelude.{slice_get, ◌||◌, if◌then◌else◌}
use Rattle.std.specs.List.{AllByRecursion}
use Rattle.std.proofs.lemmas.Bool.{lt-ltb}
use Rattle.std.proofs.lemmas.Option.{slice_get_within}
use Rattle.c_operations.specs.declared.built_in.BuiltIn.{BuiltIn}
use Rattle.c_operations.specs.declared.built_in.BuiltIn.TheVariants.{Put, Protect, RaiseException, Walk, AddVectored, RemoveVectored}
use Rattle.host_layout.specs.declared.imported.ImportedService.{ImportedService}
use Rattle.host_layout.specs.declared.imported.ImportedService.TheVariants as imports
use Rattle.host_layout.specs.declared.service.Service.{Service}
use Rattle.host_layout.specs.declared.service.Service.TheVariants as services
use Rattle.host_layout.specs.Services.{service_named}
use Rattle.host_layout.specs.Imported.{name_of}
use Rattle.flat_memory.specs.Memory.{Memory, may_write}
use Rattle.host_model.specs.Loading.{mapped}
use Rattle.linear_code.specs.declared.instruction.Instruction.TheVariants as instructions
use Rattle.linear_machine.specs.BuiltInCalls.{CallsBuiltIn}
use Rattle.lowering_invariants.specs.Bodies.{IsInstructionOf}
use Rattle.pe_write.specs.ImportTables.{slot_of}
use Rattle.pe_write.specs.Program.{image_of}
use Rattle.seh_num.specs.declared.width.Width.TheVariants.{W64}
use Rattle.x64_instr.specs.declared.operand.Base.TheVariants as bases
use Rattle.x64_instr.specs.declared.instruction.Instr.{Instr}
use Rattle.x64_instr.specs.declared.instruction.Instr.TheVariants as instrs
use Rattle.x64_instr.specs.declared.register.Reg.{Reg}
use Rattle.x64_instr.specs.declared.register.Reg.TheVariants.{Rax, Rcx, Rdx}
use Rattle.x64_encode.specs.Chosen.{chosen}
use Rattle.template_code.specs.Bytes.{spelled, size, sizes, thunk}
use Rattle.template_code.specs.Handlers.{loaded, name_thunk, address_in, stub}
use Rattle.template_code.specs.Jumps.{distance, IsNear}
use Rattle.template_code.specs.Slots.{fetched}
use Rattle.template_code.proofs.Sizes.{sizes_spelled}
use Rattle.x64_emit.specs.declared.links.Stubs.{Stubs}
use Rattle.x64_emit.specs.Linking.{address_or, stub_of}
use Rattle.frame_rules.specs.Bytes.{IsExecutableAt}
use Rattle.image_link.specs.Handlers.{block_size, adding_at, removing_at, adding_of, removing_of, step_of, stub_size_if}
use Rattle.image_link.specs.Linked.{text_begin, linked}
use Rattle.image_link.specs.Services.{services_of, IsImported}
use Rattle.image_link.specs.Text.{SiteView, thunk_at}
use Rattle.image_link.proofs.Blocks.{step_below, thunk_size}
use Rattle.image_link.specs.Routines.{routines}
use Rattle.image_link.proofs.Front.{services_there, services_few}
use Rattle.image_link.proofs.Images.{site_near, has_places}
use Rattle.image_link.proofs.Nearness.{routines_near}
use Rattle.x64_emit.proofs.Stubs.{stub_near}
use Rattle.image_tables.specs.CodeInMemory.{image_base}
use Rattle.image_tables.specs.RoutinePlaces.{site_of, blocks_of, block_begin}
use Rattle.image_tables.proofs.BlockPlaces.{name_thunk_is_at, adding_stub_is_at, removing_stub_is_at}
use Rattle.image_tables.proofs.CodeInMemory.{code_split as executable_parts}
use Rattle.image_tables.proofs.ImageText.{images_have_text, texts_are_fixed}
use Rattle.image_tables.proofs.Table.{text_is, rdata_is, blocks_inside}
use Rattle.x64_templates.specs.Runs.{HasCode}
use Rattle.x64_templates.specs.Placed.{IsCodeAt}
use Rattle.match_stack.specs.AskLaws.{HandlersAreSmall}
use Rattle.match_bodies.specs.ProgramImages.{host_service_of, stub_code, HasService, StubNames, HasBuiltIn, HasName, HasProgram, IsInImage, AddsHandlers}
use Rattle.image_states.specs.Words.{modrm, LinearBody, LinearProgram, BodyName, body_of, instruction_in, functions_of, funclets_of, plan_of, sites_of, HasWholeImage}
use Rattle.image_states.specs.Plans.{names_of}
use Rattle.image_states.proofs.CalledServices.{called_is_imported}
use Rattle.image_states.proofs.CodePlaced.{code_at, body_code, cold_code, check_code, serves, serves_at, unwinds}
use Rattle.image_states.proofs.Addresses.{reserved}
use Rattle.image_states.proofs.Lemmas.{none_some}
use Rattle.image_states.proofs.Shifts.{away, jump_moved}

-- what all have, the one of an index has
all_got : {A : Type 0} (P : A → Type 0) (xs : List A) (n : ℕ) (x : A) → AllByRecursion P xs
    → slice_get xs n ≡ Some x → P x
all_got P [] n x all e = absurd (none_some e)
all_got P (y ∷ xs) zero x all e = subst P (let same : Some y ≡ Some x = e in cc) all.0
all_got P (y ∷ xs) (suc n) x all e = all_got P xs n x all.1 e

jump_six : (away : ℕ) → size (thunk away) ≡ 6
unfolding size modrm
jump_six away = refl

pub rcx_size : (next to : ℕ) → size (address_in Rcx next to) ≡ 7
unfolding size modrm
rcx_size next to = refl

pub rdx_size : (next to : ℕ) → size (address_in Rdx next to) ≡ 7
unfolding size modrm
rdx_size next to = refl

module _ (program : LinearProgram) (c : HasWholeImage program) where
  abbrev m : Memory
  m = mapped (image_of (linked program))

  abbrev s : SiteView
  s = site_of program

  -- ---- the functions that calls name

  called_by : (k : BuiltIn) (name : BodyName) (label first : ℕ) (o : Option LinearBody)
      → body_of program name ≡ o
      → instruction_in o label ≡ Some (instructions.CallBuiltIn k first)
      → IsInstructionOf program name (instructions.CallBuiltIn k first)
  called_by k name label first None is e = absurd (none_some e)
  called_by k name label first (Some b) is e =
      all_got (IsInstructionOf program name) b.code label (instructions.CallBuiltIn k first)
      (c.whole.bodies name b is).code e

  pub added_below : (f : ℕ) → CallsBuiltIn program (AddVectored f) → f < length program.functions
  added_below f called =
      let h = called_by (AddVectored f) called.name called.label called.first
      (body_of program called.name) refl called.calls in
      slice_get_within program.functions f h.callee.function h.callee.there

  pub removed_below : (f : ℕ) → CallsBuiltIn program (RemoveVectored f)
      → f < length program.functions
  removed_below f called =
      let h = called_by (RemoveVectored f) called.name called.label called.first
      (body_of program called.name) refl called.calls in
      slice_get_within program.functions f h.callee.function h.callee.there

  -- ---- a program that calls one of the services has blocks for all functions

  pub adds_is : (f : ℕ) → CallsBuiltIn program (AddVectored f) → s.blocks.adds ≡ true
  adds_is f called = lt-ltb _ _
      (services_there program imports.AddVectored
      (called_is_imported program (AddVectored f) called))

  pub removes_is : (f : ℕ) → CallsBuiltIn program (RemoveVectored f) → s.blocks.removes ≡ true
  removes_is f called = lt-ltb _ _
      (services_there program imports.RemoveVectored
      (called_is_imported program (RemoveVectored f) called))

  pub adding_count : s.blocks.adds ≡ true → s.blocks.count ≡ length program.functions
  adding_count e =
      ap (λ (a : Bool). if a || s.blocks.removes then length program.functions else 0) e

  pub removing_count : s.blocks.removes ≡ true → s.blocks.count ≡ length program.functions
  removing_count e =
      ap (λ (r : Bool). if s.blocks.adds || r then length program.functions else 0) e
      ∙ by s.blocks.adds
    where
      by : (a : Bool) → (if a || true then length program.functions else 0)
          ≡ length program.functions
      by true = refl
      by false = refl

  -- the stub of a function that has one
  pub stub_is : (t : Stubs) (f : ℕ) → f < t.count → stub_of t f ≡ t.first + t.step * f
  stub_is t f lt = ap (λ (b : Bool). if b then t.first + t.step * f else 0) (lt-ltb f t.count lt)

  pub handler_is : (f : ℕ) → f < s.blocks.count
      → image_base + block_begin program f ≡ (plan_of program).handler f
  handler_is f lt = ap (λ (n : ℕ). image_base + n) (sym (stub_is (names_of s.blocks) f lt))

  -- ---- code in a block

  -- which is in memory, may not be written
  block_code : (at : ℕ) (code : List Instr) → text_begin program.globals ≤ at
      → at + sizes code ≤ text_begin program.globals + length (linked program).text
      → at + sizes code < 2 ^ 31
      → IsExecutableAt m (image_base + at) (spelled code) → HasCode m (image_base + at) code
  block_code at code from to small is =
      let long = sizes_spelled code in
      record {
        is_there = code_at m (image_base + at) (spelled code) is
            (λ k lt. (let e : image_base + text_begin program.globals
            + (at - text_begin program.globals + k) ≡ image_base + at + k = omega arith in
            ap (may_write m) (sym e)
            ∙ texts_are_fixed program (at - text_begin program.globals + k) c.fits (omega arith)));
        placed = record { low = omega arith; high = omega arith };
      }

  -- ---- name thunks

  -- the block of a function is within the text, and that in the image
  record IsWithinText (f : ℕ) : Type 0 where
    from : text_begin program.globals ≤ block_begin program f
    to : block_begin program f + step_of s.blocks
        ≤ text_begin program.globals + length (linked program).text
    small : block_begin program f + step_of s.blocks < 2 ^ 28

  within_text : (f : ℕ) → f < s.blocks.count → IsWithinText f
  within_text f lt =
      let below = step_below s.blocks f lt in
      let long = text_is program c.fits in
      let inside = blocks_inside program c.fits in
      let most = c.small in
      record { from = omega arith; to = omega arith; small = omega arith }

  in_image : (at to : ℕ) → text_begin program.globals ≤ at → to < 2 ^ 28
      → IsInImage (functions_of program) (funclets_of program) program (plan_of program)
      (sites_of program) (image_base + at) (image_base + to)
  in_image at to from small = record {
    low = omega arith;
    high = omega arith;
    own = λ a le lt. reserved program.globals a (omega arith) (omega arith);
  }

  name_moved : (f : ℕ) → block_begin program f < 2 ^ 28
      → name_thunk (image_base + block_begin program f)
      (image_base + address_or s.functions f 0)
      ≡ name_thunk (block_begin program f) (address_or s.functions f 0)
  name_moved f small =
      let at = block_begin program f in
      let next : image_base + at + 15 ≡ image_base + (at + 15) = omega arith in
      ap (λ j. fetched Rax Rcx 0 ∷ loaded Rcx 0 ∷ loaded Rdx 4 ∷ j ∷ [])
      (jump_moved image_base (omega arith) (at + 15) (address_or s.functions f 0)
      (image_base + at + 15) (image_base + address_or s.functions f 0) next refl (omega arith))

  name_placed : (f : ℕ) → f < s.blocks.count
      → HasName (functions_of program) (funclets_of program) program (plan_of program)
      (sites_of program) m f
  name_placed f lt =
      let w = within_text f lt in
      let from = w.from in
      let to = w.to in
      let small = w.small in
      let at = block_begin program f in
      let code = name_thunk at (address_or s.functions f 0) in
      let size = thunk_size at (address_or s.functions f 0) in
      let end : image_base + (at + 15) ≡ image_base + at + 15 = omega arith in
      record {
        code = subst (λ (n : ℕ). HasCode m n
            (name_thunk n (image_base + address_or s.functions f 0))) (handler_is f lt)
            (subst (HasCode m (image_base + at)) (sym (name_moved f (omega arith)))
            (block_code at code from (omega arith) (omega arith)
            (name_thunk_is_at program m f c.fits (images_have_text program c.fits) lt)));
        inside = subst (λ (n : ℕ). IsInImage (functions_of program) (funclets_of program) program
            (plan_of program) (sites_of program) n (n + 15)) (handler_is f lt)
            (subst (λ (n : ℕ). IsInImage (functions_of program) (funclets_of program) program
            (plan_of program) (sites_of program) (image_base + at) n) end
            (in_image at (at + 15) from (omega arith)));
      }

  -- ---- stubs

  abbrev HasBuiltIn' : BuiltIn → Type 0
  HasBuiltIn' f = HasBuiltIn (functions_of program) (funclets_of program) program
      (plan_of program) (sites_of program) m f

  abbrev StubNames' : BuiltIn → Type 0
  StubNames' f = StubNames (functions_of program) (funclets_of program) program
      (plan_of program) (sites_of program) f

  -- a built-in function that names none has a thunk alone
  plain : (v : ImportedService) (service : Service) (at : ℕ) → IsImported program v
      → service_named (name_of v) ≡ Some service
      → HasService (functions_of program) (funclets_of program) program (plan_of program)
      (sites_of program) m at service → (HasCode m at [] × HasService (functions_of program)
      (funclets_of program) program (plan_of program) (sites_of program) m (at + 0) service)
  plain v service at imported name h =
      let same : at ≡ at + 0 = omega arith in
      let low = h.inside.low in
      let high = h.inside.high in (
        record { is_there = tt; placed = record { low = omega arith; high = omega arith } },
        subst (λ (n : ℕ). HasService (functions_of program) (funclets_of program) program
            (plan_of program) (sites_of program) m n service) same h,
      )

  -- what a stub is, by the register that it loads, its service, its address and the name thunk
  record IsStub (r : Reg) (service : Service) (at name : ℕ) : Type 0 where
    code : HasCode m at (address_in r (at + 7) name ∷ [])
    serves : HasService (functions_of program) (funclets_of program) program (plan_of program)
        (sites_of program) m (at + 7) service
    inside : IsInImage (functions_of program) (funclets_of program) program (plan_of program)
        (sites_of program) at (at + 7)
    near : IsNear (at + 7) name

  module _ (r : Reg) (seven : (next to : ℕ) → size (address_in r next to) ≡ 7)
      (v : ImportedService) (service : Service) (x n : ℕ) (imported : IsImported program v)
      (name : service_named (name_of v) ≡ Some service)
      (from : text_begin program.globals ≤ x)
      (to : x + 13 ≤ text_begin program.globals + length (linked program).text)
      (small : x + 13 < 2 ^ 28) (behind : n ≤ x)
      (there : IsExecutableAt m (image_base + x)
      (spelled (stub r x n (s.rdata + slot_of (services_of program) v)))) where
    abbrev slot : ℕ
    slot = s.rdata + slot_of (services_of program) v

    abbrev load : Instr
    load = address_in r (x + 7) n

    abbrev jump : Instr
    jump = thunk (distance (x + 13) slot)

    parts : IsExecutableAt m (image_base + x) (spelled (load ∷ []))
        × IsExecutableAt m (image_base + x + sizes (load ∷ [])) (spelled (jump ∷ []))
    parts = executable_parts m (image_base + x) (load ∷ []) (jump ∷ []) there

    moved : address_in r (image_base + x + 7) (image_base + n) ≡ load
    moved =
        let next : image_base + x + 7 ≡ image_base + (x + 7) = omega arith in
        ap (λ (d : ℕ). instrs.LoadAddress W64 r (record {
          base = bases.Rip;
          index = None;
          displacement = d;
        }))
        (away image_base (x + 7) n (image_base + x + 7) (image_base + n) next refl (omega arith))

    stub_placed : IsStub r service (image_base + x) (image_base + n)
    stub_placed =
        let size = seven (x + 7) n in
        let six = jump_six (distance (x + 13) slot) in
        let long = text_is program c.fits in
        let same = rdata_is program c.fits in
        let last = block_code (x + 7) (jump ∷ []) (omega arith)
        (omega arith) (omega arith)
        (let e : image_base + x + sizes (load ∷ []) ≡ image_base + (x + 7) = omega arith in
        subst (λ (k : ℕ). IsExecutableAt m k (spelled (jump ∷ []))) e parts.1) in
        let next : x + 13 ≡ x + 7 + 6 = omega arith in
        let at : image_base + (x + 7) ≡ image_base + x + 7 = omega arith in
        record {
          code = subst (λ (i : Instr). HasCode m (image_base + x) (i ∷ [])) (sym moved)
              (block_code x (load ∷ []) from (omega arith) (omega arith) parts.0);
          serves = subst (λ (k : ℕ). HasService (functions_of program) (funclets_of program)
              program (plan_of program) (sites_of program) m k service) at
              (serves_at program c v service (x + 7) imported name (omega arith) (omega arith)
              (subst (λ (k : ℕ). IsCodeAt m (image_base + (x + 7))
              (chosen (thunk (distance k slot)))) next
              (subst (IsCodeAt m (image_base + (x + 7))) (append-nil (chosen jump))
              last.is_there)));
          inside = subst (λ (k : ℕ). IsInImage (functions_of program) (funclets_of program) program
              (plan_of program) (sites_of program) (image_base + x) k) at
              (in_image x (x + 7) from (omega arith));
          near = (omega arith, omega arith, omega arith, omega arith);
        }

  adding_placed : (f : ℕ) → CallsBuiltIn program (AddVectored f)
      → IsStub Rdx services.AddVectored ((sites_of program).thunk (AddVectored f))
      ((plan_of program).handler f)
  adding_placed f called =
      let has = adds_is f called in
      let lt = added_below f called in
      let count = adding_count has in
      let w = within_text f (omega arith) in
      let from = w.from in
      let to = w.to in
      let small = w.small in
      let size = ap stub_size_if has in
      let at = block_begin program f in
      let x = adding_at at in
      let own = stub_is (adding_of s.blocks) f (omega arith) in
      let e : image_base + x ≡ image_base + stub_of (adding_of s.blocks) f = omega arith in
      subst (λ (k : ℕ). IsStub Rdx services.AddVectored
      ((sites_of program).thunk (AddVectored f)) k) (handler_is f (omega arith))
      (subst (λ (n : ℕ). IsStub Rdx services.AddVectored n (image_base + at)) e
      (stub_placed Rdx rdx_size imports.AddVectored services.AddVectored x at
      (called_is_imported program (AddVectored f) called) refl (omega arith) (omega arith)
      (omega arith) (omega arith)
      (adding_stub_is_at program m f c.fits (images_have_text program c.fits) (omega arith)
      has)))

  removing_placed : (f : ℕ) → CallsBuiltIn program (RemoveVectored f)
      → IsStub Rcx services.RemoveVectored ((sites_of program).thunk (RemoveVectored f))
      ((plan_of program).handler f)
  removing_placed f called =
      let has = removes_is f called in
      let lt = removed_below f called in
      let count = removing_count has in
      let w = within_text f (omega arith) in
      let from = w.from in
      let to = w.to in
      let small = w.small in
      let size = ap stub_size_if has in
      let at = block_begin program f in
      let x = removing_at s.blocks.adds at in
      let own = stub_is (removing_of s.blocks) f (omega arith) in
      let e : image_base + x ≡ image_base + stub_of (removing_of s.blocks) f = omega arith in
      subst (λ (k : ℕ). IsStub Rcx services.RemoveVectored
      ((sites_of program).thunk (RemoveVectored f)) k) (handler_is f (omega arith))
      (subst (λ (n : ℕ). IsStub Rcx services.RemoveVectored n (image_base + at)) e
      (stub_placed Rcx rcx_size imports.RemoveVectored services.RemoveVectored x at
      (called_is_imported program (RemoveVectored f) called) refl (omega arith) (omega arith)
      (omega arith) (omega arith)
      (removing_stub_is_at program m f c.fits (images_have_text program c.fits) (omega arith)
      has)))

  -- ---- all that is called as a built-in function

  bare : (f : BuiltIn) (v : ImportedService) → StubNames' f → IsImported program v
      → service_named (name_of v) ≡ Some (host_service_of f)
      → (sites_of program).thunk f
      ≡ image_base + thunk_at (services_of program) s.text v
      → stub_code (plan_of program) f ((sites_of program).thunk f) ≡ []
      → HasBuiltIn' f
  bare f v names imported name here none =
      let at = image_base + thunk_at (services_of program) s.text v in
      let h = serves program c v (host_service_of f) imported name in
      let q = plain v (host_service_of f) at imported name h in
      let low = h.inside.low in
      let high = h.inside.high in
      let size = ap sizes none in
      let to : at + 0 ≡ (sites_of program).thunk f
      + sizes (stub_code (plan_of program) f ((sites_of program).thunk f)) = omega arith in
      record {
        stub = subst (HasCode m ((sites_of program).thunk f)) (sym none)
            (subst (λ (n : ℕ). HasCode m n []) (sym here) q.0);
        names = names;
        service = subst (λ (n : ℕ). HasService (functions_of program) (funclets_of program) program
            (plan_of program) (sites_of program) m n (host_service_of f)) to q.1;
        inside = record {
          low = omega arith;
          high = omega arith;
          own = λ a le lt. absurd (omega arith);
        };
      }

  stubbed : (f : BuiltIn) (r : Reg) (g : ℕ) → ((next to : ℕ) → size (address_in r next to) ≡ 7)
      → stub_code (plan_of program) f ((sites_of program).thunk f)
      ≡ address_in r ((sites_of program).thunk f + 7) ((plan_of program).handler g) ∷ []
      → IsStub r (host_service_of f) ((sites_of program).thunk f) ((plan_of program).handler g)
      → StubNames' f → HasBuiltIn' f
  stubbed f r g seven same h names =
      let at = (sites_of program).thunk f in
      let one = seven (at + 7) ((plan_of program).handler g) in
      let size = ap sizes same in
      let to : at + 7 ≡ at + sizes (stub_code (plan_of program) f at) = omega arith in
      record {
        stub = subst (HasCode m at) (sym same) h.code;
        names = names;
        service = subst (λ (n : ℕ). HasService (functions_of program) (funclets_of program) program
            (plan_of program) (sites_of program) m n (host_service_of f)) to h.serves;
        inside = subst (λ (n : ℕ). IsInImage (functions_of program) (funclets_of program) program
            (plan_of program) (sites_of program) at n) to h.inside;
      }

  built_in : (f : BuiltIn) → CallsBuiltIn program f → HasBuiltIn' f
  built_in Put called = bare Put imports.Put tt tt refl refl refl
  built_in Protect called = bare Protect imports.Protect tt tt refl refl refl
  built_in RaiseException called = bare RaiseException imports.RaiseException tt tt refl refl refl
  built_in Walk called =
      bare Walk imports.Walk tt (called_is_imported program Walk called) refl refl refl
  built_in (AddVectored g) called =
      let placed = adding_placed g called in
      stubbed (AddVectored g) Rdx g rdx_size refl placed
      (record { is_function = added_below g called; near = placed.near })
  built_in (RemoveVectored g) called =
      let placed = removing_placed g called in
      stubbed (RemoveVectored g) Rcx g rcx_size refl placed
      (record { is_function = removed_below g called; near = placed.near })

  names : (f : ℕ) → f < length program.functions
      → AddsHandlers (functions_of program) (funclets_of program) program (plan_of program)
      (sites_of program)
      → HasName (functions_of program) (funclets_of program) program (plan_of program)
      (sites_of program) m f
  names f lt adds =
      let count = adding_count (adds_is adds.function adds.adds) in name_placed f (omega arith)

  pub has_program : HasProgram (functions_of program) (funclets_of program) program
      (plan_of program) (sites_of program) m
  has_program = record {
    code = body_code program c;
    cold_code = cold_code program c;
    built_in = built_in;
    names = names;
    local_unwind = unwinds program c;
    check_stack = check_code program c;
  }

-- ---- different functions have different name thunks

same_step : (adds removes : Bool) (f g : ℕ)
    → block_size adds removes * f ≡ block_size adds removes * g → f ≡ g
same_step true true f g e = omega arith
same_step true false f g e = omega arith
same_step false true f g e = omega arith
same_step false false f g e = omega arith

pub handlers_small : (program : LinearProgram) → HasWholeImage program
    → HandlersAreSmall (plan_of program)
handlers_small program c f =
    let near = site_near (services_of program) program.globals (routines program)
    (length program.functions) program.main (services_few program) c.fits.globals
    (routines_near program c.fits) (has_places program c.fits) in
    let last = near.blocks in
    let lt = stub_near (names_of (blocks_of program)) f (omega arith) in omega arith

pub handlers_apart : (program : LinearProgram) (c : HasWholeImage program)
    → AddsHandlers (functions_of program) (funclets_of program) program (plan_of program)
    (sites_of program)
    → (f g : ℕ) → f < length program.functions → g < length program.functions
    → (plan_of program).handler f ≡ (plan_of program).handler g → f ≡ g
handlers_apart program c adds f g lt lt' e =
    let b = blocks_of program in
    let count = adding_count program c (adds_is program c adds.function adds.adds) in
    let one = handler_is program c f (omega arith) in
    let other = handler_is program c g (omega arith) in
    same_step b.adds b.removes f g (omega (arith, e))
