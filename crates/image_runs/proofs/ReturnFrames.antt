-- In an image that is linked a body that is about to return is as at any other instruction.
use Rattle.std.proofs.Common.{◌≡◌, ℕ, ◌+◌, ◌^◌, ◌<◌, ◌≤◌, true, false, List, [], ◌∷◌, ◌++◌, length, Option, Some, None, Ok, refl, sym, ap, subst, ◌∙◌, arith}
use Rattle.std.specs.Prelude.{slice_get}
use Rattle.image_runs.specs.Words.{Memory, Rax, Instr, chosen, Context, rsp, word, FrameIsAt, LeafIsAt, Slot, Local, Temporary, LinearBody, LinearProgram, BodyName, body_of, Layout, spelled, HasProgram, IsFramed, frame_of, frame_at_label, functions_of, funclets_of, plan_of, sites_of, or_none, routine_of, HasWholeImage, IsReturning, fetch_local, local_at, fetch, stack_frame, LinkedReturnsWait}
use Rattle.frame_rules.specs.Bytes.{IsExecutableAt}
use Rattle.frame_rules.specs.Plan.{epilogue}
use Rattle.template_code.specs.Frames.{plan_of_layout}
use Rattle.linear_code.specs.declared.instruction.Instruction.TheVariants as instructions
use Rattle.match_stack.specs.Stack.{IsAsTold}
use Rattle.match_bodies.specs.Setting.{Setting, setting_of}
use Rattle.x64_emit.specs.Near.{IsInstructionNear}
use Rattle.image_tables.specs.RoutinePlaces.{Placed, PlacedPart, end_of, body_begin, parts_of, first_cursor, site_of, placed}
use Rattle.image_tables.specs.Words.{LabelRange, is_cold, routines}
use Rattle.image_tables.specs.RegionRanges.{HasRegions}
use Rattle.image_tables.specs.Entries as tables
use Rattle.image_tables.specs.Entries.{part_with}
use Rattle.image_tables.specs.CodeInMemory.{image_base, template_at}
use Rattle.image_tables.proofs.CodeInMemory.{executable_split}
use Rattle.image_tables.proofs.BodyInstructions.{AllInner, inner_at, fetch_inner}
use Rattle.template_code.specs.declared.layout.Place.{Place}
use Rattle.template_code.specs.declared.layout.Place.TheVariants.{InRegister, InFrame, Arriving}
use Rattle.template_code.specs.Places.{place_of}
use Rattle.template_code.specs.Slots.{fetch_placed}
use Rattle.image_tables.proofs.BodyFrames.{Covers, covered, near_at, operations_by, HasItem, frame_at, leaf_at}
use Rattle.image_tables.proofs.Lookups.{placed_has}
use Rattle.image_tables.proofs.PartPlaces.{no_holder}
use Rattle.image_tables.proofs.RoutineRanges.{RoutineHasRanges, routines_have}
use Rattle.image_tables.proofs.RoutineRows.{IsSpare, routines_spare}
use Rattle.image_runs.proofs.Lemmas.{template_some, template_there, told_by, images_are_programs, IsSome}
use Rattle.image_states.proofs.Addresses.{place, here}
use Rattle.image_states.proofs.Framed.{executable_of, framed_of, leaf_of}

-- ---- the first machine instruction of a return fetches the result

local_some : (o : Option ℕ) (d : ℕ) → IsSome (fetch_local o Rax d)
local_some None d = record { item = _; left = []; parts = refl }
local_some (Some b) d = record { item = _; left = _; parts = refl }

placed_some : (y : Layout) (i : ℕ) (p : Place) → IsSome (fetch_placed y Rax i p)
placed_some y i (InRegister r) = record { item = _; left = []; parts = refl }
placed_some y i InFrame = local_some y.base (local_at y i)
placed_some y i Arriving = record { item = _; left = []; parts = refl }

fetch_some : (y : Layout) (from : Slot) → IsSome (fetch y Rax from)
fetch_some y (Temporary i) = record { item = _; left = []; parts = refl }
fetch_some y (Local i) = placed_some y i (place_of y i)

-- ---- a leaf function

-- has no cold parts, so what covers a label of it lies in its hot code
leaf_covers : (p : LinearProgram) (index : ℕ) (x : Placed) (label rva : ℕ) → HasRegions p
    → slice_get (placed p) index ≡ Some x → x.routine.frame ≡ None
    → Covers x (part_with label (parts_of x)) rva → (body_begin x ≤ rva) × (rva < end_of x)
leaf_covers p index x label rva regions e none covers =
    let own = placed_has RoutineHasRanges (site_of p) (first_cursor p) (routines p) index x
    (routines_have p regions) e in
    let spare = placed_has IsSpare (site_of p) (first_cursor p) (routines p) index x
    (routines_spare p) e none in
    let hot = ap (λ (rs : List LabelRange). is_cold rs label) (own.spare spare.0 spare.1) in
    subst (λ (o : Option PlacedPart). Covers x o rva)
    (no_holder x.routine.layout x.routine.body.code label x.cold x.chained x.routine.body.cold hot)
    covers

-- ---- frames

module _ (p : LinearProgram) (c : HasWholeImage p) (m : Memory) (name : BodyName) (b : LinearBody)
    (is : body_of p name ≡ Some b) (k : Context) (label back : ℕ)
    (kept : length k.kept ≡ 9) where
  abbrev x : Placed
  x = routine_of p name

  abbrev rva : ℕ
  rva = template_at x label

  abbrev setting : Setting
  setting = setting_of (functions_of p) (funclets_of p) p (plan_of p) (sites_of p)
      (images_are_programs p c)

  module _ (from : Slot) (there : slice_get b.code label ≡ Some (instructions.Return from)) where
    at_return : slice_get x.routine.body.code label ≡ Some (instructions.Return from)
    at_return = ap (λ (d : LinearBody). slice_get d.code label) (place p c name b is).body ∙ there

    -- where its code is, in a cold part or not
    covers : Covers x (part_with label (parts_of x)) rva
    covers =
        let some = template_some x.routine.layout (instructions.Return from) in
        covered x label rva (instructions.Return from) (here p c name b is).near at_return
        (omega arith) (omega arith)

    returning : HasProgram (functions_of p) (funclets_of p) p (plan_of p) (sites_of p) m
        → HasItem m x label rva
    returning has =
        let y = x.routine.layout in
        let at = image_base + rva in
        let last = epilogue (plan_of_layout y 0) in
        let near = near_at (IsInstructionNear y) x.routine.body.code label
        (instructions.Return from) (here p c name b is).near.code at_return in
        let f = fetch_some y from in
        let split : fetch y Rax from ++ last ≡ f.item ∷ (f.left ++ last) = ap
        (λ (q : List Instr). q ++ last) f.parts in
        let code = executable_of m at (spelled (fetch y Rax from ++ last))
        (template_there setting name b is m has label (instructions.Return from) there).is_there in
        let whole = subst (λ (q : List Instr). IsExecutableAt m at (spelled q)) split code in
        record {
          item = f.item;
          inner = inner_at (operations_by x) [] f.left f.item
              (subst (AllInner (operations_by x)) f.parts
              (fetch_inner (operations_by x) y from near.0));
          covers = covers;
          is_there = (executable_split m at (chosen f.item) (spelled (f.left ++ last)) whole).0;
        }

  framed_still : (others : List ℕ) → (plan_of p).leaf name ≡ false
      → HasProgram (functions_of p) (funclets_of p) p (plan_of p) (sites_of p) m
      → IsReturning (functions_of p) (funclets_of p) p (plan_of p) (sites_of p) b name label k.rip
      → IsFramed (plan_of p) m name k back others
      → FrameIsAt (functions_of p) m k (frame_at_label (plan_of p) name label back others)
  framed_still others framed has r w =
      let y = x.routine.layout in
      let f = framed_of x.routine.frame framed in
      let tells = ((images_are_programs p c).one_frame name b is framed).tells label in
      let is_told = told_by m k ((plan_of p).entry name label)
      (frame_of (plan_of p) name back others) (sym tells) y.slots refl y.frame refl w.is_told in
      let same : stack_frame p x f.0 label back others
      ≡ frame_at_label (plan_of p) name label back others =
      λ i. record {
        entry = tables.entry_at (site_of p) x (or_none (sym f.1 i)) label;
        slots = y.slots;
        size = y.frame;
        return_address = back;
        others = others;
      } in
      subst (FrameIsAt (functions_of p) m k) same
      (frame_at p m (place p c name b is).index x f.0 k label rva back others c.fits c.ranges
      (place p c name b is).at f.1 (returning r.from r.there has) r.here w.kept w.eight w.room
      (subst (IsAsTold m k) (sym same) is_told))

  leaf_still : (plan_of p).leaf name ≡ true
      → IsReturning (functions_of p) (funclets_of p) p (plan_of p) (sites_of p) b name label k.rip
      → rsp k + 8 < 2 ^ 64 → word m (rsp k) ≡ Ok back → LeafIsAt (functions_of p) m k back
  leaf_still leaf r room returns =
      let index = (place p c name b is).index in
      let at = (place p c name b is).at in
      let none = leaf_of x.routine.frame leaf in
      let own = leaf_covers p index x label rva c.ranges at none (covers r.from r.there) in
      let past = own.0 in
      leaf_at p m index x k rva back c.fits c.ranges at none (omega arith) own.1 r.here kept room
      returns

pub linked_returns_wait : LinkedReturnsWait
linked_returns_wait p c = record {
  frames = λ m name b label k back others is framed has r w. framed_still p c m name b is k label
      back w.kept others framed has r w;
  leaves = λ m name b label k back is leaf r kept room returns. leaf_still p c m name b is k label
      back kept leaf r room returns;
}
