-- A filter reads a field of its exception.
use Rattle.std.proofs.Common.{◌≡◌, ◌+◌, ◌<◌, ◌≤◌, length, Some, None, refl, ap, subst, arith}
use Rattle.std.specs.Prelude.{slice_get}
use Rattle.match_turns.specs.Words.{State, Field, field_of, Slot, Local, Temporary, BodyState, with_slot, LinearBody, FuncletBody, Configuration, Next, act, Layout, sizes, template_size, machine, ReachesBody, IsField, Moves, HaveRoom, IsFuncletPlan, turns_left, IsFilterBody, Setting, RepresentsAt, information_code, IsNextSlot}
use Rattle.linear_code.specs.declared.instruction.Instruction.TheVariants as instructions
use Rattle.linear_machine.specs.Frames as linear
use Rattle.match_turns.proofs.Lemmas.{keep_length, information_run, IsCounted, room_here, holds_here, code, frame, slots, v, sp_is, has_slots, template_here, next_address, Surroundings, locals_after, temporaries_after, FitsAfter, one_more, information_keeps, GoesInside, from_here, label_small, reached_here, moves_to, stored, writes, leaves_stored}
use Rattle.match_turns.proofs.Filters.FilterRecord.{pointers_here, reads_exception}
use Rattle.match_bodies.proofs.Templates.TemplateRuns.{keeps_here, template_spared}

information_size : (y : Layout) (to : Slot) (field : Field)
    → template_size y (instructions.Information to field) ≡ sizes (information_code y to field)
unfolding template_size
information_size y to field = refl

module _ (setting : Setting) (roomy : HaveRoom setting.program) (s : State)
    (c : Configuration) (b : RepresentsAt setting s c) (counted : IsCounted setting c)
    (around : Surroundings setting roomy s c b counted) where
  open setting use {functions as t, funclets as fs, program, plan as p, sites as q, image}

  abbrev body : LinearBody
  body = code setting roomy s c b counted

  abbrev now : BodyState
  now = slots setting roomy s c b counted

  fits_next : (to : Slot) → IsNextSlot (length c.frame.temporaries) to
      → FitsAfter c.frame.temporaries to
  fits_next (Local x) h = tt
  fits_next (Temporary i) h = h

  -- the pointers are in a frame of at most a page
  pointers_near : IsFilterBody program c.frame.body → (p.layout c.frame.body).pointers < 4096
  pointers_near f =
      let plan : IsFuncletPlan program p f.number body = subst
      (λ name. IsFuncletPlan program p f.number body) f.is
      (image.laid_out (FuncletBody f.number) body
      (subst (λ name. linear.body_of program name ≡ Some body) f.is b.body.slots.body)) in
      let small = plan.layout.small in
      let room = (pointers_here t fs program p q s c b f).room in
      let same : (p.layout c.frame.body).frame
      ≡ (p.layout (FuncletBody f.number)).frame = ap (λ name. (p.layout name).frame) f.is in
      omega arith

  pub information_step : (to : Slot) (field : Field) → c.frame.landed ≡ None
      → slice_get body.code c.frame.next ≡ Some (instructions.Information to field)
      → length c.frame.temporaries ≤ body.temporaries → IsNextSlot (length c.frame.temporaries) to
      → IsFilterBody program c.frame.body → IsField field
      → GoesInside setting roomy s c b counted around (instructions.Information to field)
      → Moves t fs program 16 turns_left (RepresentsAt setting) s c
      (instructions.Information to field)
  information_step to field free e held next filter is inside =
      let y = p.layout c.frame.body in
      let value = field_of field c.frame.exception in
      let there = has_slots setting roomy s c b counted
      (instructions.Information to field) e in
      let reached = reached_here setting roomy s c b counted around
      (instructions.Information to field) e in
      let fits = fits_next to next in
      let acts : (next : Next) → act program (instructions.Information to field) next c
      ≡ next (stored setting roomy s c b counted around to value c.store.memory) =
      writes setting roomy s c b counted around to value c.store.memory fits in
      let lt = inside (stored setting roomy s c b counted around to value c.store.memory) acts body
      b.body.slots.body in
      let at = next_address setting roomy s c b counted
      (instructions.Information to field) e refl in
      let small = label_small setting roomy s c b counted around (c.frame.next + 1)
      lt in
      let reads = reads_exception t fs program p q s c b field filter is in
      let near = pointers_near filter in
      let run = information_run (frame setting roomy s c b counted) to field
      (v setting roomy s c b counted) s.cpu.rip s.cpu.flags now value
      (room_here setting s c b counted) there
      (keeps_here setting roomy s c b counted (instructions.Information to field) e) is
      (omega arith) (sp_is setting roomy s c b counted)
      (holds_here setting s c b counted) reads.small reads.has
      (template_here setting roomy s c b counted (instructions.Information to field) e) in
      let len = keep_length y to in
      let more = one_more c.frame.temporaries to value fits in
      let size = information_size y to field in
      moves_to setting roomy s c b counted around (instructions.Information to field)
      (length (information_code y to field)) (c.frame.next + 1)
      (s.cpu.rip + sizes (information_code y to field))
      (record { slots = with_slot now.slots to value; memory = c.store.memory })
      (locals_after (linear.locals_of c.store c.frame.activation) to value)
      (temporaries_after c.frame.temporaries to value) c.frame.landed
      (from_here setting roomy s c b counted around (length (information_code y to field))
      (s.cpu.rip + sizes (information_code y to field))
      (record { slots = with_slot now.slots to value; memory = c.store.memory })
      (subst (λ x. ReachesBody (frame setting roomy s c b counted)
      (length (information_code y to field))
      (machine (v setting roomy s c b counted) s.cpu.rip s.cpu.flags)
      (s.cpu.rip + sizes (information_code y to field))
      (v setting roomy s c b counted).rest (v setting roomy s c b counted).locals
      (record { slots = with_slot now.slots to x; memory = c.store.memory })) reads.fits run))
      (omega arith) lt (omega arith) (leaves_stored setting roomy s c b counted around to value
      c.store.memory held fits there reached) free
      (information_keeps setting roomy s c b counted to field e is (omega arith))
      (template_spared setting roomy s c b counted (instructions.Information to field) e (λ h. h))
      acts (omega arith)
      (omega arith)
