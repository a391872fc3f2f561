-- Each entry of a linked program's image is a function of the right form, or a fragment of one, in
-- the code of the image's file.
use Rattle.std.proofs.Common.{◌≡◌, ℕ, suc, ◌+◌, ◌-◌, ◌*◌, ◌%◌, ◌^◌, ◌<◌, Bool, true, false, leb, List, [], ◌∷◌, ◌++◌, length, drop, map, Option, Some, None, refl, sym, ap, subst, ◌∙◌, arith, length-append}
use Rattle.std.specs.Prelude.{slice_get}
use Rattle.std.specs.List.{flat_map, sum_by}
use Rattle.std.proofs.lemmas.Bool.{false≢true}
use Rattle.std.proofs.lemmas.List.{length-drop, length-map, length-take-le}
use Rattle.std.proofs.lemmas.List.Elements.{All-nil, All-cons, All-append}
use Rattle.std.proofs.lemmas.List.Sums.{sum_by-cons}
use Rattle.flat_memory.specs.Memory.{Memory}
use Rattle.x64_encode.specs.Chosen.{modrm, opcode_register}
use Rattle.eh_tables.specs.declared.code.UnwindOperation.TheVariants.{Allocate}
use Rattle.x64_instr.specs.declared.instruction.Instr.{Instr}
use Rattle.eh_tables.specs.Tables.{Entry}
use Rattle.linear_code.specs.declared.instruction.Instruction.{Instruction}
use Rattle.linear_code.specs.declared.program.LabelRange.{LabelRange}
use Rattle.linear_code.specs.Program.{LinearProgram}
use Rattle.template_code.specs.declared.layout.Layout.{Layout}
use Rattle.template_code.specs.Bytes.{spelled}
use Rattle.template_code.specs.Probing.{check_stack}
use Rattle.template_code.specs.Template.{body_size}
use Rattle.template_code.specs.ColdParts.{part_code}
use Rattle.frame_rules.specs.Prologue.{items}
use Rattle.frame_rules.specs.Plan.{allocating, instructions_of, operations_of, spelled_by, turned}
use Rattle.frame_rules.specs.Bytes.{spell, IsExecutableAt}
use Rattle.frame_layout.specs.declared.frame.FrameLayout.{FrameLayout}
use Rattle.frame_layout.specs.Plans.{pushes_of}
use Rattle.frame_layout.proofs.Planned.{frame_small, probe_end_few}
use Rattle.frame_layout.proofs.Steps.{executed, operations_executed, pushing, saving, setting}
use Rattle.unwind_check.specs.Prologues.{has_bytes}
use Rattle.unwind_check.specs.declared.rule.Verdict.TheVariants.{Yes}
use Rattle.unwind_check.specs.Chains.{names_entry}
use Rattle.unwind_check.specs.Verdicts.{ImageCode, entry_in, IsKept, AllAreKept}
use Rattle.unwind_check.specs.RightFunctions.{CallsProbe, IsRightEntry, IsRightFragment}
use Rattle.unwind_check.proofs.FragmentEntries.{right_fragments_keep_rules}
use Rattle.unwind_check.proofs.RightEntries.{right_functions_keep_rules}
use Rattle.pe_image.specs.Image.{Image}
use Rattle.pe_write.specs.Program.{image_of}
use Rattle.host_layout.specs.declared.imported.ImportedService.{ImportedService}
use Rattle.host_layout.specs.declared.imported.ImportedService.TheVariants.{CSpecificHandler}
use Rattle.host_model.specs.Loading.{mapped}
use Rattle.image_code.specs.Code.{code_of}
use Rattle.image_code.specs.Verdicts.{checked_code, IsImageVerdict}
use Rattle.image_code.proofs.ImageBounds.{IsBounded}
use Rattle.image_code.proofs.LoadedItems.{items_there, bytes_there}
use Rattle.x64_emit.specs.declared.entry.TheConstants.{CHECK_STACK, CHECK_STACK_SIZE}
use Rattle.x64_emit.proofs.CheckStack.{check_stack_spelled}
use Rattle.image_link.specs.Fits.{FitsProgram}
use Rattle.image_link.specs.Near.{IsSiteNear}
use Rattle.image_link.specs.Routines.{RoutineView, routines}
use Rattle.image_link.specs.declared.fragments.TheConstants.{CHAINED_SIZE}
use Rattle.image_link.specs.Text.{SiteView, service_thunk, thunk_at, front_code}
use Rattle.image_link.specs.Linked.{text_begin, linked}
use Rattle.image_link.specs.Services.{services_of}
use Rattle.image_link.proofs.Entries.{routine_small}
use Rattle.image_link.proofs.Front.{services_few, thunks_size}
use Rattle.image_link.proofs.Images.{site_near, has_places}
use Rattle.image_link.proofs.Nearness.{routines_near}
use Rattle.image_tables.specs.CodeInMemory.{image_base, HasText}
use Rattle.image_tables.specs.Entries.{entry_of, entry_if, entries_of, part_entry, chained_if, chained_of, entries}
use Rattle.image_tables.specs.FrameLaws.{IsFramed}
use Rattle.image_tables.specs.Functions.{plan, part, function_of}
use Rattle.image_tables.specs.RoutinePlaces.{Placed, PlacedPart, Cursor, put, past, end_of, parts_from, parts_of, site_of, placed_from, first_cursor, placed, probe_begin}
use Rattle.image_tables.specs.RegionRanges.{HasRegions}
use Rattle.image_tables.proofs.CodeInMemory.{there, cold_small, placed_part, executable_split, code_split}
use Rattle.image_tables.proofs.FramePlans.{prologue_some, spelled_steps}
use Rattle.image_tables.proofs.FrameRules.{sizes as frame_sizes, right, is_there, part_keeps, part_is_there}
use Rattle.image_tables.proofs.ImageText.{images_have_text}
use Rattle.image_tables.proofs.Infos.{no_parent}
use Rattle.image_tables.proofs.Labels.{code_some}
use Rattle.image_tables.proofs.Lookups.{part_within, entries_are_held}
use Rattle.image_tables.proofs.Prologues.{entry_least, framed_room}
use Rattle.image_tables.proofs.Table.{tables_are_read}
use Rattle.seh.specs.Images.{entries_with}
use Rattle.seh.proofs.ListedRanges.{listed}
use Rattle.text_routines.proofs.PlannedCalls.{Calls, pass_alone, pass_before, pushing_bytes, pushing_pass, last_pass}
use Rattle.text_routines.proofs.TextFront.{bytes_after, begins_with_front}

-- ---- the stack probe, after the thunks in the front of the text

probe_after : (imports : List ImportedService) (text rdata : ℕ) (m : Memory) (begin : ℕ)
    (rest : List ℕ) → IsExecutableAt m begin (spelled (front_code imports text rdata) ++ rest)
    → IsExecutableAt m (begin + 6 * length imports) (spelled check_stack)
probe_after imports text rdata m begin rest there =
    let front = executable_split m begin (spelled (front_code imports text rdata)) rest there in
    let thunks = map (service_thunk imports text rdata) imports in
    let last = code_split m begin thunks check_stack front.0 in
    subst (λ (n : ℕ). IsExecutableAt m (begin + n) (spelled check_stack))
    (thunks_size imports text rdata imports) last.1

probe_is_at : (p : LinearProgram) (m : Memory) → HasText m p
    → IsExecutableAt m (image_base + probe_begin p) (spelled check_stack)
probe_is_at p m text =
    let s = site_of p in
    let begin = image_base + text_begin p.globals in
    let at : begin + 6 * length s.imports ≡ image_base + probe_begin p = omega arith in
    subst (λ (n : ℕ). IsExecutableAt m n (spelled check_stack)) at
    (probe_after s.imports s.text s.rdata m begin (bytes_after p) (begins_with_front p m text))

module _ (p : LinearProgram) (fits : FitsProgram p) (regions : HasRegions p)
    (b : IsBounded (image_of (linked p))) where
  abbrev image : Image
  image = image_of (linked p)

  abbrev checked : ImageCode
  checked = checked_code image CHECK_STACK

  text : HasText (mapped image) p
  text = images_have_text p fits

  near : IsSiteNear (site_of p)
  near = site_near (services_of p) p.globals (routines p) (length p.functions) p.main
      (services_few p) fits.globals
      (routines_near p fits) (has_places p fits)

  probe_there : has_bytes (code_of image) (probe_begin p) CHECK_STACK ≡ true
  probe_there =
      let at = probe_begin p in
      let few = near.text in
      let services = services_few p in
      let long : length CHECK_STACK ≡ CHECK_STACK_SIZE = refl in
      bytes_there image b at CHECK_STACK (omega arith)
      (subst (IsExecutableAt (mapped image) (image_base + at)) (sym check_stack_spelled)
      (probe_is_at p (mapped image) text))

  -- ---- one entry

  module _ (index : ℕ) (x : Placed) (f : FrameLayout) (framed : IsFramed p index x f) where
    abbrev away : ℕ
    away = (plan p x f).probe

    abbrev pushes_end : ℕ
    pushes_end = x.begin + length (pushes_of f.pushes f.framed)

    end_low : end_of x < 2 ^ 32
    end_low =
        let h = there p index x fits framed.there in
        let room = h.room in
        let small = routine_small x.routine h.near in
        omega arith

    call_there : has_bytes (code_of image) ((pushes_end + 5 + 5 + away) % 2 ^ 64) CHECK_STACK
        ≡ true
    call_there =
        let few = near.text in
        let pushes = probe_end_few f (frame_sizes p index x f framed).0.pushes in
        let services = services_few p in
        let end = end_low in
        let to : (pushes_end + 5 + 5 + away) % 2 ^ 64 ≡ probe_begin p =
        omega arith in
        ap (λ (n : ℕ). has_bytes (code_of image) n CHECK_STACK) to ∙ probe_there

    abbrev OnlyProbe : ℕ → List Instr → Type 0
    OnlyProbe at is = Calls (code_of image) CHECK_STACK at is

    allocation_calls : (small : Bool) (rest : List Instr) → ((at : ℕ) → OnlyProbe at rest)
        → OnlyProbe pushes_end (allocating away f.size small ++ rest)
    unfolding modrm opcode_register
    allocation_calls true rest h = (λ c. absurd (false≢true c), h _)
    allocation_calls false rest h =
        (λ c. absurd (false≢true c), (λ c. call_there, (λ c. absurd (false≢true c), h _)))

    -- after the pushes
    prologue_calls : OnlyProbe x.begin (flat_map (instructions_of (plan p x f)) (executed f))
    prologue_calls =
        let q = plan p x f in
        let first = pushing f.pushes f.framed in
        let last = setting f.framed ++ saving f.slots f.saves in
        let sizes = pushing_bytes q f.pushes f.framed (frame_sizes p index x f framed).0.pushes in
        pass_before (code_of image) CHECK_STACK q x.begin first (Allocate f.size ∷ last)
        (pushing_pass (code_of image) CHECK_STACK q f.pushes f.framed)
        (subst (λ n. OnlyProbe (x.begin + n)
        (flat_map (instructions_of q) (Allocate f.size ∷ last)))
        (sym sizes) (allocation_calls (leb f.size 4096) (flat_map (instructions_of q) last)
        (λ at. pass_alone (code_of image) CHECK_STACK q at last
        (last_pass (code_of image) CHECK_STACK q f.framed f.slots f.saves))))

    calls : CallsProbe (code_of image) CHECK_STACK x.begin (items (function_of p x f).steps)
    calls =
        let q = plan p x f in
        let order = operations_executed f q.probe (frame_sizes p index x f framed).0.some in
        subst (CallsProbe (code_of image) CHECK_STACK x.begin)
        ((λ i. spelled_by spell (flat_map (instructions_of q) (sym order i)))
        ∙ spelled_steps q 0 (turned [] (operations_of q))) prologue_calls

    is_right : IsRightEntry (entry_in checked (entry_of (site_of p) x f)) (function_of p x f)
    is_right =
        let h = there p index x fits framed.there in
        let some = prologue_some f (frame_sizes p index x f framed) in
        let entry = entry_least x.routine f h.near framed.framed in
        let low = end_low in
        record {
          info = refl;
          right = right p index x f framed;
          there = items_there image b x.begin
              (items (function_of p x f).steps ++ (function_of p x f).rest) (end_of x)
              (omega arith) (is_there p index x f framed (mapped image) text);
          probes = calls;
          alone = refl;
          some = omega arith;
          low = omega arith;
        }

    kept : IsKept checked (entry_of (site_of p) x f)
    kept = record {
      rules = right_functions_keep_rules (entry_in checked (entry_of (site_of p) x f))
          (function_of p x f) is_right;
      near = (let n = frame_small f.framed in omega arith);
    }

  -- ---- the entry of a cold part

  module _ (index n : ℕ) (x : Placed) (f : FrameLayout) (q : PlacedPart)
      (framed : IsFramed p index x f) (own : slice_get (parts_of x) n ≡ Some q) where
    part_some : q.begin < q.end
    part_some =
        let h = there p index x fits framed.there in
        let part = placed_part x n q h.near own in
        let code = x.routine.body.code in
        let r = q.labels in
        let lt = part.some in
        let within = part.inside in
        let left = length-drop r.begin code in
        let long = length-take-le (r.end - r.begin) (drop r.begin code) (omega arith) in
        let some = code_some x.routine.layout (part_code code r) (omega arith) in
        let size = part.size in
        omega arith

    part_low : q.end < 2 ^ 32
    part_low =
        let h = there p index x fits framed.there in
        let room = h.cold_room in
        let small = cold_small x.routine h.near in
        let most = (part_within x n q h.near own).1 in
        omega arith

    -- its function's entry is one of the table
    named : names_entry checked.ranges (part_entry (site_of p) x f q).info.parent ≡ true
    named =
        let h = there p index x fits framed.there in
        let some = framed_room x.routine f h.near framed.framed in
        listed image (entries p) x.begin (entry_of (site_of p) x f) (tables_are_read p fits regions)
        (entries_are_held p index x f x.begin fits framed.there framed.framed (omega arith)
        (omega arith))

    is_fragment : IsRightFragment (entry_in checked (part_entry (site_of p) x f q))
        (entry_of (site_of p) x f).info (part p x q)
    is_fragment =
        let s = site_of p in
        let low = part_low in
        record {
          parents = refl;
          named = named;
          function = no_parent (thunk_at s.imports s.text CSpecificHandler) x.routine.body.regions;
          fragment = record { codes = refl; prologue = refl; register = refl; offset = refl };
          keeps = part_keeps p index x f framed n q own;
          there = items_there image b q.begin (part p x q) q.end (omega arith)
              (part_is_there p index x f framed (mapped image) n q text own);
          some = part_some;
          low = omega arith;
        }

    part_kept : IsKept checked (part_entry (site_of p) x f q)
    part_kept = record {
      rules = right_fragments_keep_rules (entry_in checked (part_entry (site_of p) x f q))
          (entry_of (site_of p) x f).info (part p x q) is_fragment;
      near = (let n = frame_small f.framed in omega arith);
    }

  -- ---- all

  all_from : (xs : List Placed)
      → ((index : ℕ) (x : Placed) (f : FrameLayout) → slice_get xs index ≡ Some x
      → x.routine.frame ≡ Some f → IsKept checked (entry_of (site_of p) x f))
      → AllAreKept checked (entries_of (site_of p) xs)
  all_from [] each = All-nil (IsKept checked)
  all_from (x ∷ xs) each =
      All-append (IsKept checked) (entry_if (site_of p) x x.routine.frame)
      (entries_of (site_of p) xs) (its_own x.routine.frame refl)
      (all_from xs (λ index. each (suc index)))
    where
      its_own : (o : Option FrameLayout) → x.routine.frame ≡ o
          → AllAreKept checked (entry_if (site_of p) x o)
      its_own None e = All-nil (IsKept checked)
      its_own (Some f) e = All-cons (IsKept checked) (entry_of (site_of p) x f) []
          (each 0 x f refl e) (All-nil (IsKept checked))

  parts_kept : (x : Placed) (f : FrameLayout) (qs : List PlacedPart)
      → ((n : ℕ) (q : PlacedPart) → slice_get qs n ≡ Some q
      → IsKept checked (part_entry (site_of p) x f q))
      → AllAreKept checked (map (part_entry (site_of p) x f) qs)
  parts_kept x f [] each = All-nil (IsKept checked)
  parts_kept x f (q ∷ qs) each =
      All-cons (IsKept checked) (part_entry (site_of p) x f q)
      (map (part_entry (site_of p) x f) qs) (each 0 q refl)
      (parts_kept x f qs (λ n. each (suc n)))

  chained_kept : (xs : List Placed)
      → ((index n : ℕ) (x : Placed) (f : FrameLayout) (q : PlacedPart)
      → slice_get xs index ≡ Some x → x.routine.frame ≡ Some f → slice_get (parts_of x) n ≡ Some q
      → IsKept checked (part_entry (site_of p) x f q))
      → AllAreKept checked (chained_of (site_of p) xs)
  chained_kept [] each = All-nil (IsKept checked)
  chained_kept (x ∷ xs) each =
      All-append (IsKept checked) (chained_if (site_of p) x x.routine.frame)
      (chained_of (site_of p) xs) (its_own x.routine.frame refl)
      (chained_kept xs (λ index. each (suc index)))
    where
      its_own : (o : Option FrameLayout) → x.routine.frame ≡ o
          → AllAreKept checked (chained_if (site_of p) x o)
      its_own None e = All-nil (IsKept checked)
      its_own (Some f) e = parts_kept x f (parts_of x) (λ n q own. each 0 n x f q refl e own)

  all_kept : AllAreKept checked (entries p)
  all_kept =
      All-append (IsKept checked) (entries_of (site_of p) (placed p))
      (chained_of (site_of p) (placed p))
      (all_from (placed p) (λ index x f at has. kept index x f
      (record { fits = fits; there = at; framed = has })))
      (chained_kept (placed p) (λ index n x f q at has own. part_kept index n x f q
      (record { fits = fits; there = at; framed = has }) own))

-- ---- how many there are

parts_count : (y : Layout) (at info : ℕ) (rs : List LabelRange) (code : List Instruction)
    → length (parts_from y at info rs code) ≡ length rs
parts_count y at info [] code = refl
parts_count y at info (r ∷ rs) code =
    ap suc (parts_count y (at + body_size y (part_code code r)) (info + CHAINED_SIZE) rs code)

-- those of a routine, before those of others
more : (s : SiteView) (x : Placed) (o : Option FrameLayout) (es cs : List Entry) (n : ℕ)
    → length es + length cs ≡ n
    → length (entry_if s x o ++ es) + length (chained_if s x o ++ cs)
    ≡ entries_with o x.routine.body.cold + n
more s x None es cs n e = omega arith
more s x (Some f) es cs n e =
    let r = x.routine in
    let each = length-map (parts_of x) (part_entry s x f) in
    let many = parts_count r.layout x.cold x.chained r.body.cold r.body.code in
    omega (arith, length-append (map (part_entry s x f) (parts_of x)) cs)

count : (s : SiteView) (c : Cursor) (rs : List RoutineView)
    → length (entries_of s (placed_from s c rs)) + length (chained_of s (placed_from s c rs))
    ≡ sum_by (λ r. entries_with r.frame r.body.cold) rs
count s c [] = refl
count s c (r ∷ rs) =
    let others = placed_from s (past s c r) rs in
    more s (put c r) r.frame (entries_of s others) (chained_of s others)
    (sum_by (λ (q : RoutineView). entries_with q.frame q.body.cold) rs) (count s (past s c r) rs)
    ∙ sym (sum_by-cons (λ (q : RoutineView). entries_with q.frame q.body.cold) r rs)

-- ---- the verdict

pub verdict_is_yes : (p : LinearProgram) → FitsProgram p → HasRegions p
    → IsBounded (image_of (linked p))
    → IsImageVerdict (image_of (linked p)) CHECK_STACK
    (Yes (sum_by (λ r. entries_with r.frame r.body.cold) (routines p)))
verdict_is_yes p fits regions bounded = record {
  entries = entries p;
  read = tables_are_read p fits regions;
  is = (
    all_kept p fits regions bounded,
    length-append (entries_of (site_of p) (placed p)) (chained_of (site_of p) (placed p))
        ∙ count (site_of p) (first_cursor p) (routines p),
  );
}
