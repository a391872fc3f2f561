-- The beginning of an `__except` block: the exception's code, which is in RAX, goes to a slot.
use Rattle.std.proofs.Common.{◌≡◌, ℕ, ◌+◌, ◌^◌, ◌<◌, ◌≤◌, Option, Some, None, [], ◌∷◌, ◌++◌, length, take, refl, sym, ap, subst, ◌∙◌, arith}
use Rattle.std.specs.Prelude.{slice_get, slice_set, if◌then◌else◌}
use Rattle.std.proofs.lemmas.Bool.{le-leb}
use Rattle.match_bodies.specs.Words.{Rax, State, register, Slot, Local, Temporary, BodyState, with_slot, LinearBody, Configuration, Next, with_temporaries, forth, with_some, written, act, Layout, sizes, local_at, keep_local, keep, template_size, machine, ReachesBody, Moves, HaveRoom, turns_left, Setting, RepresentsAt, not_landed, IsNextSlot, Place, InRegister, InFrame, Arriving, place_of, keep_placed}
use Rattle.linear_code.specs.declared.instruction.Instruction.TheVariants as instructions
use Rattle.linear_machine.specs.Frames as linear
use Rattle.match_bodies.proofs.Lemmas.{keep_length}
use Rattle.x64_templates.proofs.Returns.{call_ends}
use Rattle.match_bodies.proofs.Steps.BodyViews.{IsCounted, room_here, holds_here, locals_here}
use Rattle.match_bodies.proofs.Templates.TemplateRuns.{code, frame, slots, v, sp_is, keeps_here, template_spared, has_slots, template_here, next_address, Surroundings}
use Rattle.match_bodies.proofs.Places.SlotWrites.{locals_after, temporaries_after, FitsAfter, one_more}
use Rattle.match_bodies.proofs.Keeping.TemplateKeeping.{landing_keeps}
use Rattle.match_bodies.proofs.Steps.PlainSteps.{at_other, same_store, GoesInside, from_here, label_small, reached_here, moves_to}
use Rattle.match_bodies.proofs.Steps.ComputeStep.{leaves_stored}

landing_size : (y : Layout) (to : Slot) → template_size y (instructions.Landing to)
    ≡ sizes (keep y to)
unfolding template_size
landing_size y to = refl

pub some_keep : (y : Layout) (to : Slot) → 1 ≤ length (keep y to)
some_keep y (Temporary i) = omega arith
some_keep y (Local i) = placed (place_of y i)
  where
    by : (o : Option ℕ) → 1 ≤ length (keep_local o (local_at y i))
    by None = omega arith
    by (Some k) = omega arith

    placed : (q : Place) → 1 ≤ length (keep_placed y i q)
    placed (InRegister s) = omega arith
    placed InFrame = by y.base
    placed Arriving = omega arith

module _ (setting : Setting) (roomy : HaveRoom setting.program) (s : State)
    (c : Configuration) (b : RepresentsAt setting s c) (counted : IsCounted setting c)
    (around : Surroundings setting roomy s c b counted) where
  open setting use {functions as t, funclets as fs, program, plan as p}

  abbrev body : LinearBody
  body = code setting roomy s c b counted

  abbrev now : BodyState
  now = slots setting roomy s c b counted

  abbrev taken_over : Slot → ℕ → Configuration
  taken_over to value = at_other setting roomy c (c.frame.next + 1)
      (locals_after (linear.locals_of c.store c.frame.activation) to value)
      (temporaries_after c.frame.temporaries to value) None c.store.memory c.events

  fits_next : (to : Slot) → IsNextSlot (length c.frame.temporaries) to
      → FitsAfter c.frame.temporaries to
  fits_next (Local x) h = tt
  fits_next (Temporary i) h = h

  same : slice_set c.store.activations c.frame.activation
      (linear.locals_of c.store c.frame.activation) ≡ c.store.activations
  same = ap (slice_set c.store.activations c.frame.activation)
      (locals_here setting s c b counted) ∙ same_store setting roomy s c b counted around

  writes : (to : Slot) (value : ℕ) → FitsAfter c.frame.temporaries to → (next : Next)
      → written (not_landed c) to value next ≡ next (taken_over to value)
  unfolding with_some
  writes (Local x) value fits next = refl
  writes (Temporary i) value fits next =
      ap (λ z. with_some c.events (with_temporaries (not_landed c)
      (if z then Some (take i c.frame.temporaries ++ value ∷ []) else None))
      (λ e. next (forth e))) (le-leb i (length c.frame.temporaries) fits)
      ∙ ap (λ xs. let o : Configuration = record {
        frame = record c.frame {
          next = c.frame.next + 1;
          temporaries = take i c.frame.temporaries ++ value ∷ [];
          landed = None;
        };
        below = c.below;
        store =
            record c.store { memory = c.store.memory; activations = xs };
        events = c.events;
      } in next o)
      (sym same)

  lands : (to : Slot) (value : ℕ) → c.frame.landed ≡ Some value → FitsAfter c.frame.temporaries to
      → (next : Next) → act program (instructions.Landing to) next c ≡ next (taken_over to value)
  unfolding with_some
  lands to value e fits next = ap (λ o. with_some c.events o
      (λ x. written (not_landed c) to x next)) e ∙ writes to value fits next

  pub landing_step : (to : Slot) (value : ℕ) → c.frame.landed ≡ Some value → value < 2 ^ 64
      → slice_get body.code c.frame.next ≡ Some (instructions.Landing to)
      → length c.frame.temporaries ≤ body.temporaries → IsNextSlot (length c.frame.temporaries) to
      → GoesInside setting roomy s c b counted around (instructions.Landing to)
      → Moves t fs program 16 turns_left (RepresentsAt setting) s c (instructions.Landing to)
  landing_step to value landed small e held next inside =
      let there = has_slots setting roomy s c b counted (instructions.Landing to)
      e in
      let reached = reached_here setting roomy s c b counted around (instructions.Landing to) e in
      let fits = fits_next to next in
      let acts = lands to value landed fits in
      let lt = inside (taken_over to value) acts body b.body.slots.body in
      let at = next_address setting roomy s c b counted (instructions.Landing to)
      e refl in
      let near = label_small setting roomy s c b counted around (c.frame.next + 1)
      lt in
      let y = p.layout c.frame.body in
      let rax : register s.cpu Rax ≡ value = b.landed value landed in
      let run = call_ends (frame setting roomy s c b counted) to
      (v setting roomy s c b counted) s.cpu.rip s.cpu.flags now (room_here setting s c b counted)
      there (keeps_here setting roomy s c b counted (instructions.Landing to) e) (omega arith)
      (sp_is setting roomy s c b counted) (holds_here setting s c b counted)
      (template_here setting roomy s c b counted (instructions.Landing to) e) in
      let len = keep_length y to in
      let more = one_more c.frame.temporaries to value fits in
      let size = landing_size y to in
      moves_to setting roomy s c b counted around (instructions.Landing to) (length (keep y to))
      (c.frame.next + 1) (s.cpu.rip + sizes (keep y to))
      (record { slots = with_slot now.slots to value; memory = c.store.memory })
      (locals_after (linear.locals_of c.store c.frame.activation) to value)
      (temporaries_after c.frame.temporaries to value) None
      (from_here setting roomy s c b counted around (length (keep y to))
      (s.cpu.rip + sizes (keep y to)) (record
      { slots = with_slot now.slots to value; memory = c.store.memory })
      (subst (λ x. ReachesBody (frame setting roomy s c b counted) (length (keep y to))
      (machine (v setting roomy s c b counted) s.cpu.rip s.cpu.flags) (s.cpu.rip + sizes
      (keep y to)) (v setting roomy s c b counted).rest
      (v setting roomy s c b counted).locals
      (record { slots = with_slot now.slots to x; memory = c.store.memory })) rax run))
      (omega arith) lt (omega arith) (leaves_stored setting roomy s c b counted around to value
      c.store.memory held fits there reached) refl (landing_keeps setting roomy s c b counted to e)
      (template_spared setting roomy s c b counted (instructions.Landing to) e (λ h. h))
      acts (some_keep y to) (omega arith)
