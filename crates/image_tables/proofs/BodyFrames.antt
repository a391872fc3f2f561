-- Frames of bodies that wait, in cold parts or not.
use Rattle.std.proofs.Common.{◌≡◌, ℕ, zero, suc, ◌+◌, ◌-◌, ◌%◌, ◌^◌, ◌<◌, ◌≤◌, Bool, true, false, List, [], ◌∷◌, ◌++◌, length, take, Option, Some, None, Ok, refl, sym, ap, subst, ◌∙◌, arith, append_assoc}
use Rattle.std.specs.Prelude.{if◌then◌else◌, slice_get}
use Rattle.std.specs.List.{AllByRecursion}
use Rattle.std.proofs.lemmas.Bool.{and_from, ne_eqb, le-ltb}
use Rattle.std.proofs.lemmas.List.{append-nil}
use Rattle.image_tables.specs.Words.{Memory, Instr, UnwindOperation, operations_of, chosen, Table, Entry, holding, or_none, Other, FetchedInstr, role_of, spell, IsExecutableAt, image_of, Instruction, LabelRange, LinearProgram, FrameLayout, spelled, size, sizes, template, template_size, body_size, code_from, is_cold, side_from, hot_code, IsInstructionNear, near_end, FitsProgram, RoutineView, routines, IsFrameNear, IsRoutineNear, cold_size, entry_code, check_stack_at, routine_code, apart_code, text_begin, linked, Placed, PlacedPart, end_of, body_begin, parts_of, first_cursor, site_of, placed, HasRanges, HasRegions, part_entry, part_with, entry_by, entries, image_base, links, fetched_at, by_role, from_item, tail, tail_at, template_at, IsInBody, stack_frame, BodiesHaveFrames, LeavesHaveReturns}
use Rattle.x64_machine.specs.declared.context.Context.{Context}
use Rattle.x64_encode.proofs.Lengths.{longest}
use Rattle.virtual_unwind.specs.CallerOf.{distance, entry_of}
use Rattle.virtual_unwind.specs.declared.tail.Role.{Role}
use Rattle.virtual_unwind.specs.Contexts.{rsp}
use Rattle.virtual_unwind.specs.Undone.{word}
use Rattle.seh_walk.specs.Walk.{filter_return, finally_return, vectored_return}
use Rattle.host_model.specs.Machine.{functions_in}
use Rattle.match_stack.specs.Stack.{IsChain, FrameIsAt, LeafIsAt, IsAsTold}
use Rattle.image_tables.proofs.Lemmas.{routine_small, never_empty, items_are_at, sizes_append, template_sizes, entry_sizes}
use Rattle.template_code.specs.Frames.{plan_of_layout}
use Rattle.image_tables.specs.Entries as tables
use Rattle.image_tables.proofs.Lookups.{some_same, none_some, placed_has, part_within, entries_are_held, parts_are_held, leaves_are_held_by_none}
use Rattle.template_code.proofs.ColdParts.{offset_within}
use Rattle.image_tables.proofs.Labels.{template_some}
use Rattle.image_tables.proofs.PartPlaces.{holder, no_holder, label_held}
use Rattle.image_tables.proofs.Layouts.{size_of, sized, slots_of, slots_placed}
use Rattle.image_tables.proofs.Prologues.{entry_least}
use Rattle.image_tables.proofs.RoutineRanges.{routines_have}
use Rattle.image_tables.proofs.Table.{tables_are_read}
use Rattle.image_tables.proofs.RoutineRows.{IsSpare, routines_spare}
use Rattle.image_tables.proofs.CodeInMemory.{executable_split, code_split, IsThere, there, cold_small, routine_is_at, apart_is_at, get_is, template_there, placed_part}
use Rattle.image_tables.proofs.BodyInstructions.{Inner, AllInner, inner_at, inner_role}
use Rattle.image_tables.proofs.Templates.{template_inner}
use Rattle.image_tables.proofs.Links.{links_near}

-- ---- no trailing part of an epilogue

other_none : (others : ℕ → Option (List Instr)) (first : Bool) (x : FetchedInstr) (r : Role)
    → r ≡ Other → by_role others first x r ≡ None
other_none others first x r e = ap (by_role others first x) e

tail_none : (n f at : ℕ) (first : Bool) (m : Memory) (x : FetchedInstr) → fetched_at m at ≡ Some x
    → role_of f x.plain x.instr ≡ Other → tail n first f m at ≡ None
unfolding tail
tail_none zero f at first m x e r = refl
tail_none (suc n) f at first m x e r =
    ap (from_item (λ k. tail n false f m ((at + k) % 2 ^ 64)) f first) e
    ∙ other_none (λ k. tail n false f m ((at + k) % 2 ^ 64)) first x (role_of f x.plain x.instr) r

pub no_epilogue : (ops : List UnwindOperation) (f at : ℕ) (m : Memory) (i : Instr) → Inner ops i
    → IsExecutableAt m at (chosen i) → at + 15 < 2 ^ 63 → tail_at f m at ≡ None
unfolding tail_at
no_epilogue ops f at m i inner is_there lt =
    let one = append-nil (chosen i) in
    let few = longest i in
    let l = ap length one in
    let has = items_are_at m at (i ∷ []) (and_from _ true inner.0 refl) (omega arith)
    (subst (IsExecutableAt m at) (sym one) is_there) in
    tail_none 0xFFFF_FFFF_FFFF_FFFF f at true m (spell i) has.0
    (inner_role ops f i inner (spell i).plain)

-- ---- the instruction at an address of a body

-- what holds of each instruction holds of one
pub near_at : (P : Instruction → Type 0) (is : List Instruction) (number : ℕ) (i : Instruction)
    → AllByRecursion P is → slice_get is number ≡ Some i → P i
near_at P [] number i all e = absurd (none_some e)
near_at P (j ∷ is) zero i all e = subst P (some_same e) all.0
near_at P (j ∷ is) (suc number) i all e = near_at P is number i all.1 e

size_some : (ops : List UnwindOperation) (i : Instr) → Inner ops i → 0 < size i
unfolding size
size_some ops i inner = never_empty i inner.0

-- what the frame of a routine saves
abbrev pub operations_by : Placed → List UnwindOperation
operations_by x = operations_of (plan_of_layout x.routine.layout 0)

-- ---- where the code of an instruction is

-- past a routine's prologue and arguments, or in a cold part
abbrev pub Covers : Placed → Option PlacedPart → ℕ → Type 0
Covers x None rva = (body_begin x ≤ rva) × (rva < end_of x)
Covers x (Some q) rva =
    (n : ℕ) × (slice_get (parts_of x) n ≡ Some q) × (q.begin ≤ rva) × (rva < q.end)

covered_by : (x : Placed) (label rva : ℕ) (i : Instruction) → IsRoutineNear x.routine
    → slice_get x.routine.body.code label ≡ Some i
    → template_at x label ≤ rva → rva < template_at x label + template_size x.routine.layout i
    → (c : Bool) → is_cold x.routine.body.cold label ≡ c
    → Covers x (part_with label (parts_of x)) rva
covered_by x label rva i near there low high true e =
    let y = x.routine.layout in
    let b = x.routine.body in
    let h = holder y b.code label x.cold x.chained b.cold e in
    let part = placed_part x h.index h.part near h.there in
    let held = label_held y b.cold x.cold b.code h.part (body_begin x) label i part h.holds there in
    let from = held.0 in
    let to = held.1 in
    subst (λ (o : Option PlacedPart). Covers x o rva) (sym h.found)
    (h.index, h.there, omega arith, omega arith)
covered_by x label rva i near there low high false e =
    let y = x.routine.layout in
    let b = x.routine.body in
    let g = get_is b.code label i there in
    let within = offset_within y b.cold b.code label i g.0 in
    let one = ap (template_size y) g.1 in
    let at = ap (λ (c : Bool). (if c then x.cold else body_begin x)
    + body_size y (side_from b.cold c 0 (take label b.code))) e in
    let before = ap (λ (c : Bool). body_size y (side_from b.cold c 0 (take label b.code))) e in
    let side = ap (λ (c : Bool). body_size y (side_from b.cold c 0 b.code)) e in
    subst (λ (o : Option PlacedPart). Covers x o rva)
    (sym (no_holder y b.code label x.cold x.chained b.cold e))
    (omega arith, omega arith)

-- an address within it
pub covered : (x : Placed) (label rva : ℕ) (i : Instruction) → IsRoutineNear x.routine
    → slice_get x.routine.body.code label ≡ Some i
    → template_at x label ≤ rva → rva < template_at x label + template_size x.routine.layout i
    → Covers x (part_with label (parts_of x)) rva
covered x label rva i near there low high =
    covered_by x label rva i near there low high (is_cold x.routine.body.cold label) refl

-- which is in the image
covers_near_by : (x : Placed) (o : Option PlacedPart) (rva size : ℕ) → IsRoutineNear x.routine
    → end_of x ≤ size → x.cold + cold_size x.routine ≤ size → Covers x o rva → rva < size
covers_near_by x None rva size near le le' h = let lt = h.1 in omega arith
covers_near_by x (Some q) rva size near le le' h =
    let w = part_within x h.0 q near h.1 in
    let most = w.1 in
    let lt = h.3 in
    omega arith

pub covers_near : (p : LinearProgram) (x : Placed) (o : Option PlacedPart) (rva : ℕ)
    → IsThere (site_of p) (linked p).text (text_begin p.globals) x → Covers x o rva → rva < 2 ^ 31
covers_near p x o rva h covers =
    let room = h.room in
    let colds = h.cold_room in
    let small = routine_small x.routine h.near in
    let cold = cold_small x.routine h.near in
    covers_near_by x o rva (2 ^ 31) h.near (omega arith) (omega arith) covers

-- where its code begins
pub template_near : (p : LinearProgram) (x : Placed) (label : ℕ) (i : Instruction)
    → IsThere (site_of p) (linked p).text (text_begin p.globals) x
    → slice_get x.routine.body.code label ≡ Some i → template_at x label < near_end
template_near p x label i h there =
    let room = h.room in
    let colds = h.cold_room in
    let small = routine_small x.routine h.near in
    let cold = cold_small x.routine h.near in
    let some = template_some x.routine.layout i in
    covers_near_by x (part_with label (parts_of x)) (template_at x label) near_end h.near
    (omega arith) (omega arith)
    (covered x label (template_at x label) i h.near there
    (let z : template_at x label ≤ template_at x label = omega arith in z) (omega arith))

-- an instruction of a body
pub record IsItem (x : Placed) (label rva : ℕ) (item : Instr) : Type 0 where
  pub inner : Inner (operations_by x) item
  pub covers : Covers x (part_with label (parts_of x)) rva

pub item_there : (p : LinearProgram) (x : Placed) (rva : ℕ) → FitsProgram p
    → IsThere (site_of p) (linked p).text (text_begin p.globals) x → (b : IsInBody p x rva)
    → IsItem x b.number rva b.item
item_there p x rva fits h b =
    let r = x.routine in
    let y = r.layout in
    let k = links p x in
    let size = template_sizes k y (template_at x b.number) b.instruction in
    let here = b.here in
    let whole = ap sizes b.parts in
    let near = near_at (IsInstructionNear y) r.body.code b.number b.instruction h.near.code
    b.there in
    let ops = operations_by x in
    let begins = template_near p x b.number b.instruction h b.there in
    let all = template_inner ops k y (template_at x b.number) b.instruction (links_near p x fits h)
    h.saves near (omega arith) b.continues in
    let inner : Inner ops b.item = inner_at ops b.done b.left b.item
    (subst (AllInner ops) b.parts all) in
    let some = size_some ops b.item inner in
    record {
      inner = inner;
      covers = covered x b.number rva b.instruction h.near b.there (omega arith)
          (omega (arith, sizes_append b.done (b.item ∷ b.left)));
    }

-- the instructions of a side of a body are in memory where it begins
side_is_at : (p : LinearProgram) (m : Memory) (x : Placed) → IsRoutineNear x.routine
    → IsExecutableAt m (image_base + x.begin)
    (spelled (routine_code (site_of p) x.begin x.cold x.routine))
    → IsExecutableAt m (image_base + x.cold)
    (spelled (apart_code (site_of p) x.begin x.cold x.routine))
    → (c : Bool)
    → IsExecutableAt m (image_base + (if c then x.cold else body_begin x))
    (spelled (code_from (links p x) x.routine.layout (if c then x.cold else body_begin x)
    (side_from x.routine.body.cold c 0 x.routine.body.code)))
side_is_at p m x near code apart true = apart
side_is_at p m x near code apart false =
    let r = x.routine in
    let s = site_of p in
    let entry = entry_code x.begin (check_stack_at s.imports s.text) r in
    let size = entry_sizes x.begin (check_stack_at s.imports s.text) r near in
    let body = code_from (links p x) r.layout (body_begin x) (hot_code r.body) in
    let at : image_base + x.begin + sizes entry ≡ image_base + body_begin x = omega arith in
    subst (λ (n : ℕ). IsExecutableAt m n (spelled body)) at
    (code_split m (image_base + x.begin) entry body code).1

-- where its routine's code is
pub item_is_at : (p : LinearProgram) (m : Memory) (x : Placed) (rva : ℕ)
    → IsExecutableAt m (image_base + x.begin)
    (spelled (routine_code (site_of p) x.begin x.cold x.routine))
    → IsExecutableAt m (image_base + x.cold)
    (spelled (apart_code (site_of p) x.begin x.cold x.routine))
    → IsThere (site_of p) (linked p).text (text_begin p.globals) x → (b : IsInBody p x rva)
    → IsExecutableAt m (image_base + rva) (chosen b.item)
item_is_at p m x rva code apart h b =
    let r = x.routine in
    let k = links p x in
    let c = is_cold r.body.cold b.number in
    let at = if c then x.cold else body_begin x in
    let own = template k r.layout (template_at x b.number) b.instruction in
    let t = template_there k r.layout (body_begin x) x.cold r.body.cold r.body.code b.number
    b.instruction b.there in
    let to = t.here in
    let here = b.here in
    let side = side_from r.body.cold c 0 r.body.code in
    let from = (code_split m (image_base + at) t.before (own ++ t.after)
    (subst (λ (q : List Instr). IsExecutableAt m (image_base + at) (spelled q)) t.parts
    (side_is_at p m x h.near code apart c))).1 in
    let split : own ++ t.after ≡ b.done ++ ((b.item ∷ b.left) ++ t.after) = ap
    (λ (q : List Instr). q ++ t.after) b.parts ∙ append_assoc b.done (b.item ∷ b.left) t.after in
    let start = image_base + at + sizes t.before in
    let last = (code_split m start b.done ((b.item ∷ b.left) ++ t.after)
    (subst (λ (q : List Instr). IsExecutableAt m start (spelled q)) split from)).1 in
    let place : start + sizes b.done ≡ image_base + rva = omega arith in
    subst (λ (n : ℕ). IsExecutableAt m n (chosen b.item)) place
    (executable_split m (start + sizes b.done) (chosen b.item)
    (spelled (b.left ++ t.after)) last).0

-- ---- a frame

-- where an address of the image is, from the image's base on
pub away : (rva : ℕ) → rva < 2 ^ 32 → distance image_base (image_base + rva) ≡ rva
away rva lt = omega arith

-- the entry of an image's table at an address
pub found_in : (p : LinearProgram) (index : ℕ) (x : Placed) (f : FrameLayout) (rva : ℕ)
    → FitsProgram p → HasRegions p → slice_get (placed p) index ≡ Some x → x.routine.frame ≡ Some f
    → x.begin ≤ rva → rva < end_of x → rva < 2 ^ 32
    → entry_of (functions_in (image_of (linked p))) (image_base + rva)
    ≡ Some (tables.entry_of (site_of p) x f)
found_in p index x f rva fits regions e framed le lt small =
    ap (λ (t : Table (List Entry)). holding (distance image_base (image_base + rva)) (or_none t))
    (tables_are_read p fits regions)
    ∙ ap (λ (n : ℕ). holding n (entries p)) (away rva small)
    ∙ entries_are_held p index x f rva fits e framed le lt

-- and that of a cold part
pub part_found : (p : LinearProgram) (index n : ℕ) (x : Placed) (f : FrameLayout) (q : PlacedPart)
    (rva : ℕ) → FitsProgram p → HasRegions p → slice_get (placed p) index ≡ Some x
    → x.routine.frame ≡ Some f → slice_get (parts_of x) n ≡ Some q
    → q.begin ≤ rva → rva < q.end → rva < 2 ^ 32
    → entry_of (functions_in (image_of (linked p))) (image_base + rva)
    ≡ Some (part_entry (site_of p) x f q)
part_found p index n x f q rva fits regions e framed part le lt small =
    ap (λ (t : Table (List Entry)). holding (distance image_base (image_base + rva)) (or_none t))
    (tables_are_read p fits regions)
    ∙ ap (λ (n : ℕ). holding n (entries p)) (away rva small)
    ∙ parts_are_held p index n x f q rva fits e framed part le lt

-- what a frame needs of the entry that an address is in
pub record HasEntry (p : LinearProgram) (x : Placed) (f : FrameLayout) (rva : ℕ) (e : Entry) : Type
    0
  where
    pub found : entry_of (functions_in (image_of (linked p))) (image_base + rva) ≡ Some e
    pub past : e.info.prologue_size + e.range.begin ≤ rva
    pub chain : IsChain e.info e.parents

pub has_entry : (p : LinearProgram) (index : ℕ) (x : Placed) (f : FrameLayout) (rva : ℕ)
    → FitsProgram p → HasRegions p → slice_get (placed p) index ≡ Some x → x.routine.frame ≡ Some f
    → IsThere (site_of p) (linked p).text (text_begin p.globals) x
    → (o : Option PlacedPart) → Covers x o rva → HasEntry p x f rva (entry_by (site_of p) x f o)
has_entry p index x f rva fits regions e framed h None covers =
    let past = covers.0 in
    let near = covers_near p x None rva h covers in
    let least = entry_least x.routine f h.near framed in
    record {
      found = found_in p index x f rva fits regions e framed (omega arith) covers.1 (omega arith);
      past = omega arith;
      chain = tt;
    }
has_entry p index x f rva fits regions e framed h (Some q) covers =
    let near = covers_near p x (Some q) rva h covers in
    let past = covers.2 in
    record {
      found = part_found p index covers.0 x f q rva fits regions e framed covers.1 covers.2 covers.3
          (omega arith);
      past = omega arith;
      chain = record { codes = refl; prologue = refl; register = refl; offset = refl };
    }

-- there is a machine instruction of a routine's body, which is no part of an epilogue
pub record HasItem (m : Memory) (x : Placed) (label rva : ℕ) : Type 0 where
  pub item : Instr
  pub inner : Inner (operations_by x) item
  pub covers : Covers x (part_with label (parts_of x)) rva
  pub is_there : IsExecutableAt m (image_base + rva) (chosen item)

-- a frame at such an instruction
pub frame_at : (p : LinearProgram) (m : Memory) (index : ℕ) (x : Placed) (f : FrameLayout)
    (c : Context) (label rva back : ℕ) (others : List ℕ) → FitsProgram p → HasRegions p
    → slice_get (placed p) index ≡ Some x → x.routine.frame ≡ Some f
    → HasItem m x label rva → c.rip ≡ image_base + rva → length c.kept ≡ 9 → length others ≡ 8
    → rsp c + x.routine.layout.frame + 8 < 2 ^ 64
    → IsAsTold m c (stack_frame p x f label back others)
    → FrameIsAt (functions_in (image_of (linked p))) m c (stack_frame p x f label back others)
frame_at p m index x f c label rva back others fits regions e framed first here kept eight room'
    is_told =
    let h = there p index x fits e in
    let o = part_with label (parts_of x) in
    let entry = has_entry p index x f rva fits regions e framed h o first.covers in
    let past = entry.past in
    let near = covers_near p x o rva h first.covers in
    let own = tables.entry_at (site_of p) x f label in
    let far : rva < 2 ^ 32 = omega arith in
    let away' : distance image_base c.rip ≡ rva = ap (distance image_base) here ∙ away rva far in
    record {
      live = ne_eqb c.rip 0 (λ z. (let q : c.rip ≡ 0 = z in absurd (omega arith)));
      not_filter = ne_eqb c.rip filter_return
          (λ z. (let q : c.rip ≡ filter_return = z in absurd (omega arith)));
      not_finally = ne_eqb c.rip finally_return
          (λ z. (let q : c.rip ≡ finally_return = z in absurd (omega arith)));
      not_vectored = ne_eqb c.rip vectored_return
          (λ z. (let q : c.rip ≡ vectored_return = z in absurd (omega arith)));
      found = ap (entry_of (functions_in (image_of (linked p)))) here ∙ entry.found;
      past_prologue = le-ltb (distance image_base c.rip - own.range.begin) own.info.prologue_size
          (omega arith);
      not_epilogue = ap (tail_at own.info.frame_register m) here ∙ no_epilogue
          (operations_by x) own.info.frame_register (image_base + rva) m first.item first.inner
          first.is_there (omega arith);
      chain = entry.chain;
      kept = kept;
      eight = eight;
      slots = (let parts = (subst IsFrameNear framed h.near.frame).0 in
          let saved = parts.saved in
          let depth = parts.depth in
          let slots = slots_placed p index x e ∙ ap slots_of framed in
          let size = sized p index x e ∙ ap size_of framed in
          omega arith);
      room = room';
      is_told = is_told;
    }

pub frame_is_at : (p : LinearProgram) (m : Memory) (index : ℕ) (x : Placed) (f : FrameLayout)
    (c : Context) (rva back : ℕ) (others : List ℕ) → FitsProgram p → HasRegions p
    → slice_get (placed p) index ≡ Some x → x.routine.frame ≡ Some f
    → IsExecutableAt m (image_base + x.begin)
    (spelled (routine_code (site_of p) x.begin x.cold x.routine))
    → IsExecutableAt m (image_base + x.cold)
    (spelled (apart_code (site_of p) x.begin x.cold x.routine))
    → (b : IsInBody p x rva) → c.rip ≡ image_base + rva → length c.kept ≡ 9 → length others ≡ 8
    → rsp c + x.routine.layout.frame + 8 < 2 ^ 64
    → IsAsTold m c (stack_frame p x f b.number back others)
    → FrameIsAt (functions_in (image_of (linked p))) m c (stack_frame p x f b.number back others)
frame_is_at p m index x f c rva back others fits regions e framed code apart body here kept eight
    room' is_told =
    let h = there p index x fits e in
    let i = item_there p x rva fits h body in
    frame_at p m index x f c body.number rva back others fits regions e framed
    (record {
      item = body.item;
      inner = i.inner;
      covers = i.covers;
      is_there = item_is_at p m x rva code apart h body;
    })
    here kept eight room' is_told

pub bodies_have_frames : BodiesHaveFrames
bodies_have_frames p m index x f c rva back others fits regions e framed w =
    let h = there p index x fits e in
    frame_is_at p m index x f c rva back others fits regions e framed
    (routine_is_at p m x w.text h) (apart_is_at p m x w.text h) w.body w.here w.kept w.eight w.room
    w.is_told

-- ---- a leaf function

-- it has no cold parts
leaf_hot : (p : LinearProgram) (index : ℕ) (x : Placed) → HasRegions p
    → slice_get (placed p) index ≡ Some x → x.routine.frame ≡ None → x.routine.body.cold ≡ []
leaf_hot p index x regions e none =
    let own = placed_has (λ (r : RoutineView). HasRanges r.body) (site_of p) (first_cursor p)
    (routines p) index x (routines_have p regions) e in
    let spare = placed_has IsSpare (site_of p) (first_cursor p) (routines p) index x
    (routines_spare p) e none in
    own.spare spare.0 spare.1

pub none_in : (p : LinearProgram) (index : ℕ) (x : Placed) (rva : ℕ) → FitsProgram p → HasRegions p
    → slice_get (placed p) index ≡ Some x → x.routine.frame ≡ None → x.begin ≤ rva → rva < end_of x
    → rva < 2 ^ 32
    → entry_of (functions_in (image_of (linked p))) (image_base + rva) ≡ None
none_in p index x rva fits regions e none le lt small =
    ap (λ (t : Table (List Entry)). holding (distance image_base (image_base + rva)) (or_none t))
    (tables_are_read p fits regions)
    ∙ ap (λ (n : ℕ). holding n (entries p)) (away rva small)
    ∙ leaves_are_held_by_none p index x rva fits e none le lt

-- a leaf function's return address
pub leaf_at : (p : LinearProgram) (m : Memory) (index : ℕ) (x : Placed) (c : Context) (rva back : ℕ)
    → FitsProgram p → HasRegions p → slice_get (placed p) index ≡ Some x → x.routine.frame ≡ None
    → x.begin ≤ rva → rva < end_of x → c.rip ≡ image_base + rva → length c.kept ≡ 9
    → rsp c + 8 < 2 ^ 64 → word m (rsp c) ≡ Ok back
    → LeafIsAt (functions_in (image_of (linked p))) m c back
leaf_at p m index x c rva back fits regions e none past inside here kept room' returns =
    let h = there p index x fits e in
    let room = h.room in
    let small = routine_small x.routine h.near in
    record {
      live = ne_eqb c.rip 0 (λ z. (let q : c.rip ≡ 0 = z in absurd (omega arith)));
      not_filter = ne_eqb c.rip filter_return
          (λ z. (let q : c.rip ≡ filter_return = z in absurd (omega arith)));
      not_finally = ne_eqb c.rip finally_return
          (λ z. (let q : c.rip ≡ finally_return = z in absurd (omega arith)));
      not_vectored = ne_eqb c.rip vectored_return
          (λ z. (let q : c.rip ≡ vectored_return = z in absurd (omega arith)));
      none = ap (entry_of (functions_in (image_of (linked p)))) here
          ∙ none_in p index x rva fits regions e none past inside (omega arith);
      kept = kept;
      room = room';
      returns = returns;
    }

pub leaves_are_at : LeavesHaveReturns
leaves_are_at p m index x c rva back fits regions e none w =
    let h = there p index x fits e in
    let i = item_there p x rva fits h w.body in
    let hot = ap (λ (rs : List LabelRange). is_cold rs w.body.number) (leaf_hot p index x regions e
    none) in
    let own = subst (λ (o : Option PlacedPart). Covers x o rva)
    (no_holder x.routine.layout x.routine.body.code w.body.number x.cold x.chained
    x.routine.body.cold hot) i.covers in
    let past = own.0 in
    leaf_at p m index x c rva back fits regions e none (omega arith) own.1 w.here w.kept w.room
    w.returns
