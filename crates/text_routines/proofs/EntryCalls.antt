-- Where the calls of a routine with a frame lead, from its first byte on, and those of its cold
-- parts.
use Rattle.std.proofs.Common.{◌≡◌, ℕ, ◌+◌, ◌%◌, ◌^◌, ◌<◌, ◌≤◌, Bool, true, false, ◌&&◌, eqb, leb, List, [], ◌∷◌, ◌++◌, length, Option, Some, refl, sym, ap, subst, ◌∙◌, arith}
use Rattle.std.specs.Prelude.{slice_get}
use Rattle.std.specs.List.{AllByRecursion, flat_map}
use Rattle.std.proofs.lemmas.Bool.{false≢true, eqb-true, eq-eqb}
use Rattle.flat_memory.specs.declared.protection.Rights.TheVariants.{Read}
use Rattle.flat_memory.specs.Memory.{Memory}
use Rattle.x64_instr.specs.declared.instruction.Target.TheVariants.{Relative}
use Rattle.x64_instr.specs.declared.instruction.Instr.{Instr}
use Rattle.x64_instr.specs.declared.instruction.Instr.TheVariants as instrs
use Rattle.x64_encode.specs.Chosen.{modrm, opcode_register}
use Rattle.eh_tables.specs.declared.code.UnwindOperation.TheVariants.{Allocate}
use Rattle.virtual_unwind.specs.Tail.{FetchedInstr}
use Rattle.frame_rules.specs.Prologue.{items, is_call}
use Rattle.frame_rules.specs.Plan.{allocating, instructions_of, operations_of, spelled_by, turned}
use Rattle.frame_rules.specs.Bytes.{spell, prologue_code}
use Rattle.frame_layout.specs.declared.frame.FrameLayout.{FrameLayout}
use Rattle.frame_layout.specs.Plans.{pushes_of}
use Rattle.frame_layout.proofs.Planned.{probe_end_few}
use Rattle.frame_layout.proofs.Steps.{executed, operations_executed, pushing, saving, setting}
use Rattle.unwind_check.specs.Prologues.{has_bytes, is_call_of}
use Rattle.unwind_check.specs.RightFunctions.{CallsProbe}
use Rattle.linear_code.specs.Program.{LinearProgram}
use Rattle.template_code.specs.Bytes.{sizes}
use Rattle.template_code.specs.Template.{code_from}
use Rattle.template_code.proofs.Sizes.{sizes_append}
use Rattle.template_code.specs.ColdParts.{hot_code, part_code}
use Rattle.template_code.proofs.ColdParts.{side_all}
use Rattle.x64_emit.specs.Near.{IsInstructionNear}
use Rattle.x64_emit.proofs.Parts.{all_between}
use Rattle.image_link.specs.Fits.{FitsProgram}
use Rattle.image_link.specs.Linked.{text_begin, linked}
use Rattle.image_link.specs.Near.{IsSiteNear}
use Rattle.image_link.specs.Routines.{routines}
use Rattle.image_link.specs.Services.{services_of}
use Rattle.image_link.specs.Text.{argument_code, frame_code}
use Rattle.image_link.proofs.Entries.{entry_sizes, entry_small, routine_small}
use Rattle.image_link.proofs.Front.{services_few}
use Rattle.image_link.proofs.Images.{site_near, has_places}
use Rattle.image_link.proofs.Nearness.{routines_near}
use Rattle.image_tables.specs.CodeInMemory.{links}
use Rattle.image_tables.specs.FrameLaws.{IsFramed}
use Rattle.image_tables.specs.Functions.{plan, rest_of, code_of_part, function_of, part}
use Rattle.image_tables.specs.RoutinePlaces.{Placed, PlacedPart, body_begin, end_of, parts_of, site_of, placed, probe_begin}
use Rattle.image_tables.proofs.CodeInMemory.{there, hot_small, part_room, placed_part}
use Rattle.image_tables.proofs.FramePlans.{spelled_steps}
use Rattle.image_tables.proofs.FrameRules.{sizes as frame_sizes}
use Rattle.image_tables.proofs.Links.{links_near}
use Rattle.image_tables.proofs.Rest.{spelled_both}
use Rattle.uncovered_code.specs.References.{called}
use Rattle.uncovered_code.proofs.Pieces.{CallsLead}
use Rattle.text_routines.proofs.CodeCalls.{CodeCalls, LinksLead, code_both, plain_calls, body_calls}
use Rattle.text_routines.proofs.Plain.{argument_plain}
use Rattle.text_routines.proofs.PlannedCalls.{Calls, pass_alone, pass_before, pushing_bytes, pushing_pass, last_pass}

-- ---- calls of a routine that is at one address alone

-- a memory in which a byte of 1 is at an address alone
abbrev mark : Bool → ℕ
mark true = 1
mark false = 0

abbrev marked : ℕ → Memory
marked at = record {
  protection = λ a. record { rights = Read; execute = true };
  byte = λ a. mark (eqb a at);
}

-- whether it is there, by a test of its address
abbrev is_marked : Bool → Bool
is_marked b = (true && eqb (mark b) 1) && true

-- what is called there is at that address
marked_is : (at to : ℕ) → has_bytes (marked at) to (1 ∷ []) ≡ true → to ≡ at
marked_is at to h = by (eqb to at) refl h
  where
    by : (b : Bool) → eqb to at ≡ b → is_marked b ≡ true → to ≡ at
    by true e h = eqb-true to at e
    by false e h = absurd (false≢true h)

called_there : (P : ℕ → Type 0) (at next : ℕ) (i : Instr) → P at
    → (is_call i ≡ true → is_call_of (marked at) (1 ∷ []) next i ≡ true)
    → AllByRecursion P (called next i)
called_there P at next (instrs.Call (Relative d)) leads h =
    (subst P (sym (marked_is at ((next + d) % 2 ^ 64) (h refl))) leads, tt)
called_there P at next i leads h = tt

probe_leads : (P : ℕ → Type 0) (at from : ℕ) (xs : List FetchedInstr) → P at
    → CallsProbe (marked at) (1 ∷ []) from xs → CallsLead P from xs
probe_leads P at from [] leads h = tt
probe_leads P at from (x ∷ xs) leads h = (
  called_there P at (from + x.size) x.instr leads h.0,
  probe_leads P at (from + x.size) xs leads h.1,
)

-- ---- a routine with a frame

module _ (p : LinearProgram) (fits : FitsProgram p) (P : ℕ → Type 0) (probe : P (probe_begin p))
    (leads : (x : Placed) → LinksLead P (links p x)) where
  near : IsSiteNear (site_of p)
  near = site_near (services_of p) p.globals (routines p) (length p.functions) p.main
      (services_few p) fits.globals
      (routines_near p fits) (has_places p fits)

  -- what comes after a prologue
  pub rest_calls : (index : ℕ) (x : Placed) → slice_get (placed p) index ≡ Some x
      → (at : ℕ) → at + sizes (argument_code x.routine.layout x.routine.entry) ≡ body_begin x
      → CodeCalls P at (rest_of p x)
  rest_calls index x is at here =
      let h = there p index x fits is in
      let r = x.routine in
      let entry = entry_small r h.near in
      let room = h.room in
      let hot = hot_small r in
      let argument = argument_code r.layout r.entry in
      code_both P at argument
      (code_from (links p x) r.layout (body_begin x) (hot_code r.body))
      (plain_calls P at argument (argument_plain r.layout r.entry))
      (subst (λ n. CodeCalls P n (code_from (links p x) r.layout (body_begin x)
      (hot_code r.body))) (sym here)
      (body_calls P (links p x) r.layout (body_begin x) (hot_code r.body) (leads x)
      (links_near p x fits h)
      (side_all (IsInstructionNear r.layout) r.body.cold false 0 r.body.code h.near.code)
      (omega arith)))

  module _ (index : ℕ) (x : Placed) (f : FrameLayout) (framed : IsFramed p index x f) where
    abbrev away : ℕ
    away = (plan p x f).probe

    abbrev pushes_end : ℕ
    pushes_end = x.begin + length (pushes_of f.pushes f.framed)

    abbrev own : Memory
    own = marked (probe_begin p)

    abbrev OnlyProbe : ℕ → List Instr → Type 0
    OnlyProbe at is = Calls own (1 ∷ []) at is

    probe_there : (to : ℕ) → to ≡ probe_begin p → has_bytes own to (1 ∷ []) ≡ true
    probe_there to e = ap is_marked (eq-eqb to (probe_begin p) e)

    call_there : has_bytes own ((pushes_end + 5 + 5 + away) % 2 ^ 64) (1 ∷ []) ≡ true
    call_there =
        let h = there p index x fits framed.there in
        let room = h.room in
        let small = routine_small x.routine h.near in
        let few = near.text in
        let pushes = probe_end_few f (frame_sizes p index x f framed).0.pushes in
        let services = services_few p in
        probe_there ((pushes_end + 5 + 5 + away) % 2 ^ 64) (omega arith)

    allocation_calls : (small : Bool) (rest : List Instr) → ((at : ℕ) → OnlyProbe at rest)
        → OnlyProbe pushes_end (allocating away f.size small ++ rest)
    unfolding modrm opcode_register
    allocation_calls true rest h = (λ c. absurd (false≢true c), h _)
    allocation_calls false rest h =
        (λ c. absurd (false≢true c), (λ c. call_there, (λ c. absurd (false≢true c), h _)))

    -- after the pushes
    prologue_calls : OnlyProbe x.begin (flat_map (instructions_of (plan p x f)) (executed f))
    prologue_calls =
        let q = plan p x f in
        let first = pushing f.pushes f.framed in
        let last = setting f.framed ++ saving f.slots f.saves in
        let sizes = pushing_bytes q f.pushes f.framed (frame_sizes p index x f framed).0.pushes in
        pass_before own (1 ∷ []) q x.begin first (Allocate f.size ∷ last)
        (pushing_pass own (1 ∷ []) q f.pushes f.framed)
        (subst (λ n. OnlyProbe (x.begin + n)
        (flat_map (instructions_of q) (Allocate f.size ∷ last)))
        (sym sizes) (allocation_calls (leb f.size 4096) (flat_map (instructions_of q) last)
        (λ at. pass_alone own (1 ∷ []) q at last
        (last_pass own (1 ∷ []) q f.framed f.slots f.saves))))

    prologue_lead : CodeCalls P x.begin (prologue_code (plan p x f))
    prologue_lead =
        let q = plan p x f in
        let order = operations_executed f q.probe (frame_sizes p index x f framed).0.some in
        subst (λ xs. CallsLead P x.begin (spelled_by spell (flat_map (instructions_of q) xs)))
        (sym order)
        (probe_leads P (probe_begin p) x.begin
        (spelled_by spell (flat_map (instructions_of q) (executed f))) probe prologue_calls)

    pub routine_calls : CallsLead P x.begin
        (items (function_of p x f).steps ++ (function_of p x f).rest)
    routine_calls =
        let q = plan p x f in
        let h = there p index x fits framed.there in
        let code = prologue_code q ++ rest_of p x in
        let same : spelled_by spell code ≡ items (function_of p x f).steps
        ++ (function_of p x f).rest = spelled_both (prologue_code q) (rest_of p x)
        ∙ ap (λ (ys : List FetchedInstr). ys ++ spelled_by spell (rest_of p x))
        (spelled_steps q 0 (turned [] (operations_of q))) in
        let argument = argument_code x.routine.layout x.routine.entry in
        let begins : x.begin + sizes (prologue_code q) + sizes argument ≡ body_begin x =
        entry_begins in
        subst (CallsLead P x.begin) same
        (code_both P x.begin (prologue_code q) (rest_of p x) prologue_lead
        (rest_calls index x framed.there (x.begin + sizes (prologue_code q)) begins))
      where
        entry_begins : x.begin + sizes (prologue_code (plan p x f))
            + sizes (argument_code x.routine.layout x.routine.entry) ≡ body_begin x
        entry_begins =
            let h = there p index x fits framed.there in
            let r = x.routine in
            let e = entry_sizes x.begin (probe_begin p) r h.near in
            let parts = ap (λ (o : Option FrameLayout).
            sizes (frame_code x.begin (probe_begin p) o ++ argument_code r.layout r.entry))
            framed.framed in
            omega (
              arith,
              sizes_append (prologue_code (plan p x f)) (argument_code r.layout r.entry),
            )

    -- a cold part
    pub part_calls : (n : ℕ) (q : PlacedPart) → slice_get (parts_of x) n ≡ Some q
        → CallsLead P q.begin (part p x q)
    part_calls n q is =
        let h = there p index x fits framed.there in
        let r = x.routine in
        let room = h.cold_room in
        let placed' = placed_part x n q h.near is in
        let own_room = part_room x q h.near placed' in
        body_calls P (links p x) r.layout q.begin (part_code r.body.code q.labels) (leads x)
        (links_near p x fits h)
        (all_between (IsInstructionNear r.layout) q.labels.begin q.labels.end r.body.code
        h.near.code)
        (omega arith)
