-- The frames of bodies that wait.
use Rattle.std.proofs.Common.{◌≡◌, ℕ, zero, suc, ◌+◌, ◌-◌, true, false, List, [], ◌∷◌, Option, Some, None, refl, sym, ap, subst, ◌∙◌, arith}
use Rattle.std.specs.Prelude.{slice_get}
use Rattle.std.specs.List.{AllByRecursion}
use Rattle.image_states.proofs.Lemmas.{some_same, none_some, end_inside, image_small, covered, has_entry, described, laid_plan, frame_is_at, leaves_are_at}
use Rattle.std.proofs.lemmas.Bool.{false≢true}
use Rattle.image_states.specs.Words.{Memory, Instr, FrameIsAt, IsExecutableAt, Instruction, LinearBody, LinearProgram, BodyName, body_of, FrameLayout, spelled, sizes, IsCodeAt, routine_code, apart_code, IsInstructionNear, Placed, PlacedPart, part_with, site_of, image_base, template_at, links, HasProgram, links_of, begin_of, code_of, functions_of, funclets_of, is_leaf, or_none, routine_of, address_of, plan_of, sites_of, HasWholeImage, IsReturn, IsInBody, InCode, entry_of, size_of, frame_of, frame_at_label, HasOneFrame, IsResumed, FramesAreWaiting, IsPlanned, LeavesAreWaiting, spell, IsFrameNear}
use Rattle.image_tables.specs.RoutinePlaces.{parts_of}
use Rattle.match_stack.specs.Stack.{IsAsTold, teller}
use Rattle.eh_tables.specs.Infos.{Info}
use Rattle.frame_layout.specs.Plans as layouts
use Rattle.frame_rules.specs.Plan.{FramePlan}
use Rattle.frame_rules.specs.Plan as rules
use Rattle.match_bodies.specs.CodeSites.{body_plan, cold_code_of}
use Rattle.match_bodies.proofs.Steps.BodyFrames.{told_by}
use Rattle.linear_code.specs.declared.instruction.Instruction.TheVariants as instructions
use Rattle.x64_templates.specs.Epilogues as epilogues
use Rattle.image_tables.specs.Entries as tables
use Rattle.image_tables.specs.FrameLaws.{stack_frame}
use Rattle.image_states.proofs.Addresses.{place, here, label_in_text}
use Rattle.image_states.proofs.Entering.{moved, code_same, cold_same}
use Rattle.image_states.proofs.Shifts.{template_moved}

-- ---- code that may not be written is

pub executable_of : (m : Memory) (at : ℕ) (bytes : List ℕ) → IsCodeAt m at bytes
    → IsExecutableAt m at bytes
executable_of m at [] h = tt
executable_of m at (b ∷ bytes) h = (h.0.byte, h.0.executes, executable_of m (at + 1) bytes h.1)

returns : (i : Instruction) → IsReturn i → epilogues.IsReturn i
returns (instructions.Return from) h = tt
returns i h = absurd h

-- ---- frames

pub framed_of : (o : Option FrameLayout) → is_leaf o ≡ false → (f : FrameLayout) × (o ≡ Some f)
framed_of (Some f) e = (f, refl)
framed_of None e = absurd (false≢true (sym e))

pub leaf_of : (o : Option FrameLayout) → is_leaf o ≡ true → o ≡ None
leaf_of (Some f) e = absurd (false≢true e)
leaf_of None e = refl

near_at : (P : Instruction → Type 0) (is : List Instruction) (number : ℕ) (i : Instruction)
    → AllByRecursion P is → slice_get is number ≡ Some i → P i
near_at P [] number i all e = absurd (none_some e)
near_at P (j ∷ is) zero i all e = subst P (some_same e) all.0
near_at P (j ∷ is) (suc number) i all e = near_at P is number i all.1 e

module _ (program : LinearProgram) (c : HasWholeImage program) where
  -- where a body waits is in its routine
  in_body : (name : BodyName) (b : LinearBody) (is : body_of program name ≡ Some b) (label rip : ℕ)
      → (r : IsResumed (functions_of program) (funclets_of program) program (plan_of program)
      (sites_of program) name b label rip)
      → IsInBody program (routine_of program name)
      (template_at (routine_of program name) label + sizes r.done)
  in_body name b is label rip r =
      let p = place program c name b is in
      let h = here program c name b is in
      let x = routine_of program name in
      let at : slice_get x.routine.body.code label
      ≡ Some r.instruction = ap (λ (d : LinearBody). slice_get d.code label) p.body ∙ r.there in
      let near = near_at (IsInstructionNear x.routine.layout) x.routine.body.code label
      r.instruction h.near.code at in
      let inside = label_in_text program c name b is label in
      let high = inside.1 in
      let end = end_inside program c.fits in
      let few = image_small program c.fits in
      record {
        number = label;
        instruction = r.instruction;
        there = at;
        continues = λ z. r.continues (returns r.instruction z);
        done = r.done;
        item = r.item;
        left = r.left;
        parts = sym (template_moved image_base (omega arith) (links program x)
            (links_of (plan_of program) (sites_of program) name) x.routine.layout
            (template_at x label) (address_of program name label) r.instruction
            (moved program c name b is) refl (omega arith) near) ∙ r.parts;
        here = refl;
      }

  code_there : (name : BodyName) (b : LinearBody) (is : body_of program name ≡ Some b) (m : Memory)
      → HasProgram (functions_of program) (funclets_of program) program (plan_of program)
      (sites_of program) m
      → IsExecutableAt m (image_base + (routine_of program name).begin)
      (spelled (routine_code (site_of program) (routine_of program name).begin
      (routine_of program name).cold (routine_of program name).routine))
  code_there name b is m has =
      let p = place program c name b is in
      let x = routine_of program name in
      let begin = begin_of (plan_of program) (sites_of program) name in
      let code = executable_of m begin (spelled
      (code_of program (plan_of program) (sites_of program) name b))
      (has.code name b is).is_there in
      subst (λ (n : ℕ). IsExecutableAt m n (spelled
      (routine_code (site_of program) x.begin x.cold x.routine))) p.begin
      (subst (λ (q : List Instr). IsExecutableAt m begin (spelled q))
      (code_same program c name b is) code)

  cold_there : (name : BodyName) (b : LinearBody) (is : body_of program name ≡ Some b) (m : Memory)
      → HasProgram (functions_of program) (funclets_of program) program (plan_of program)
      (sites_of program) m
      → IsExecutableAt m (image_base + (routine_of program name).cold)
      (spelled (apart_code (site_of program) (routine_of program name).begin
      (routine_of program name).cold (routine_of program name).routine))
  cold_there name b is m has =
      let x = routine_of program name in
      subst (λ (q : List Instr). IsExecutableAt m (image_base + x.cold) (spelled q))
      (cold_same program c name b is)
      (executable_of m (image_base + x.cold)
      (spelled (cold_code_of (plan_of program) (sites_of program) name b))
      (has.cold_code name b is).is_there)

  -- the entries of a body all tell of the same frame
  pub one_teller : (x : Placed) (f : FrameLayout) (o o' : Option PlacedPart)
      → teller (tables.entry_by (site_of program) x f o)
      ≡ teller (tables.entry_by (site_of program) x f o')
  one_teller x f None None = refl
  one_teller x f None (Some q) = refl
  one_teller x f (Some q) None = refl
  one_teller x f (Some q) (Some r) = refl

  pub frames_are_at : FramesAreWaiting (functions_of program) (funclets_of program) program
      (plan_of program) (sites_of program)
  unfolding in_body
  frames_are_at m name b label k back others is framed has r w =
      let p = place program c name b is in
      let x = routine_of program name in
      let f = framed_of x.routine.frame framed in
      let rva = template_at x label + sizes r.done in
      let here' : k.rip ≡ image_base + rva = r.here
      ∙ (let q : image_base + template_at x label + sizes r.done
      ≡ image_base + rva = omega arith in q) in
      let same : stack_frame program x f.0 label back others
      ≡ frame_at_label (plan_of program) name label back others =
      λ i. record {
        entry = tables.entry_at (site_of program) x (or_none (sym f.1 i)) label;
        slots = x.routine.layout.slots;
        size = x.routine.layout.frame;
        return_address = back;
        others = others;
      } in
      let parts = parts_of x in
      let own = or_none x.routine.frame in
      let first = frame_of (plan_of program) name back others in
      let is_told = told_by m k ((plan_of program).entry name label) first
      (one_teller x own (part_with 0 parts) (part_with label parts)) first.slots refl first.size
      refl w.is_told in
      subst (FrameIsAt (functions_of program) m k) same
      (frame_is_at program m p.index x f.0 k rva back others c.fits c.ranges p.at f.1
      (code_there name b is m has) (cold_there name b is m has) (in_body name b is label k.rip r)
      here' w.kept w.eight w.room
      (subst (IsAsTold m k) (sym same) is_told))

  pub leaves_are_at' : LeavesAreWaiting (functions_of program) (funclets_of program) program
      (plan_of program) (sites_of program)
  leaves_are_at' m name b label k back is leaf r kept room returns =
      let p = place program c name b is in
      let x = routine_of program name in
      let rva = template_at x label + sizes r.done in
      let here' : k.rip ≡ image_base + rva = r.here
      ∙ (let q : image_base + template_at x label + sizes r.done
      ≡ image_base + rva = omega arith in q) in
      leaves_are_at program m p.index x k rva back c.fits c.ranges p.at
      (leaf_of x.routine.frame leaf) (record {
        body = in_body name b is label k.rip r;
        here = here';
        kept = kept;
        room = room;
        returns = returns;
      })

  -- an entry tells of the prologue of its frame
  pub planned : (name : BodyName) (b : LinearBody) → body_of program name ≡ Some b
      → (plan_of program).leaf name ≡ false
      → IsPlanned (functions_of program) (funclets_of program) program (plan_of program)
      (sites_of program) name
  planned name b is framed =
      let p = place program c name b is in
      let x = routine_of program name in
      let f = framed_of x.routine.frame framed in
      let near = subst IsFrameNear f.1 (here program c name b is).near.frame in
      let probe = (body_plan (plan_of program) (sites_of program) name).probe in
      let own : body_plan (plan_of program) (sites_of program) name ≡ layouts.plan_of f.0 probe =
      laid_plan program p.index x f.0 probe p.at f.1 in
      let d = described f.0 probe in
      let parts = parts_of x in
      let info : Option FrameLayout → Info =
      λ o. teller (tables.entry_by (site_of program) x (or_none o) (part_with 0 parts)) in
      let own_info : info (Some f.0) ≡ (tables.entry_of (site_of program) x f.0).info =
      one_teller x f.0 (part_with 0 parts) None in
      record {
        codes = ap (λ (o : Option FrameLayout). (info o).codes) f.1
            ∙ ap (λ (w : Info). w.codes) own_info ∙ d.codes
            ∙ ap (λ (q : FramePlan). (rules.unwind_of spell q).codes) (sym own);
        frame_register = ap (λ (o : Option FrameLayout). (info o).frame_register) f.1
            ∙ ap (λ (w : Info). w.frame_register) own_info
            ∙ d.frame_register ∙ ap (λ (q : FramePlan). q.frame) (sym own);
        frame_offset = ap (λ (o : Option FrameLayout). (info o).frame_offset) f.1
            ∙ ap (λ (w : Info). w.frame_offset) own_info
            ∙ d.frame_offset ∙ ap (λ (q : FramePlan). q.distance) (sym own);
        prologue_size = ap (λ (o : Option FrameLayout). (info o).prologue_size) f.1
            ∙ ap (λ (w : Info). w.prologue_size) own_info
            ∙ d.prologue_size
            ∙ ap (λ (q : FramePlan). (rules.unwind_of spell q).prologue_size) (sym own);
      }

  -- ---- the entries that are found

  -- in a body with a frame, by the code of its instructions
  found_by : (name : BodyName) (b : LinearBody) (is : body_of program name ≡ Some b)
      (f : FrameLayout) → (routine_of program name).routine.frame ≡ Some f → (label rip : ℕ)
      → InCode (plan_of program) name label rip
      → (o : Option Instruction) → slice_get (routine_of program name).routine.body.code label ≡ o
      → entry_of (functions_of program) rip
      ≡ Some (tables.entry_at (site_of program) (routine_of program name) f label)
  found_by name b is f framed label rip inside None none =
      let low = inside.low in
      let high = inside.high in
      let size = ap (size_of (routine_of program name).routine.layout) none in
      absurd (omega arith)
  found_by name b is f framed label rip inside (Some i) there =
      let p = place program c name b is in
      let h = here program c name b is in
      let x = routine_of program name in
      let low = inside.low in
      let high = inside.high in
      let size = ap (size_of x.routine.layout) there in
      let rva = rip - image_base in
      let at : image_base + rva ≡ rip = omega arith in
      let covers = covered x label rva i h.near there (omega arith) (omega arith) in
      ap (entry_of (functions_of program)) (sym at)
      ∙ (has_entry program p.index x f rva c.fits c.ranges p.at framed h
      (part_with label (parts_of x)) covers).found

  pub one_frame : (name : BodyName) (b : LinearBody) → body_of program name ≡ Some b
      → (plan_of program).leaf name ≡ false
      → HasOneFrame (functions_of program) (funclets_of program) program (plan_of program)
      (sites_of program) name
  one_frame name b is framed =
      let x = routine_of program name in
      let f = framed_of x.routine.frame framed in
      record {
        found = λ label rip inside. found_by name b is f.0 f.1 label rip inside
            (slice_get x.routine.body.code label) refl
            ∙ ap (λ (o : Option FrameLayout). Some (tables.entry_at (site_of program) x
            (or_none o) label)) (sym f.1);
        tells = λ label. one_teller x (or_none x.routine.frame) (part_with label (parts_of x))
            (part_with 0 (parts_of x));
      }
