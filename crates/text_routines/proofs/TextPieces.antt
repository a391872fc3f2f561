-- The text of a linked program is pieces: the thunks of services and `__chkstk`, its routines, and
-- the parts of blocks. So each routine of it that has no entry is frameless.
use Rattle.std.proofs.Common.{◌≡◌, ◌⊎◌, inl, inr, ℕ, zero, suc, ◌+◌, ◌-◌, ◌*◌, ◌^◌, ◌<◌, ◌≤◌, Bool, true, false, ◌&&◌, leb, ltb, List, [], ◌∷◌, ◌++◌, length, map, get_or, Option, Some, None, refl, sym, ap, subst, ◌∙◌, arith}
use Rattle.std.specs.Prelude.{slice_get, is_none}
use Rattle.std.specs.List.{AllByRecursion}
use Rattle.std.proofs.lemmas.Bool.{cases_lt, false≢true, and_parts, and_from, le-leb, lt-ltb}
use Rattle.flat_memory.specs.Memory.{Memory}
use Rattle.x64_instr.specs.declared.instruction.Instr.{Instr}
use Rattle.eh_tables.specs.declared.scope.ScopeRecord.{ScopeRecord}
use Rattle.eh_tables.specs.Tables.{Entry, holding}
use Rattle.virtual_unwind.specs.Tail.{FetchedInstr}
use Rattle.frame_rules.specs.Body.{Body, following, is_body}
use Rattle.frame_rules.specs.Prologue.{items}
use Rattle.frame_rules.specs.Plan.{spelled_by}
use Rattle.frame_rules.specs.Bytes.{spell, IsExecutableAt}
use Rattle.frame_rules.specs.States.{HasItems}
use Rattle.frame_rules.proofs.Bytes.{items_are_at}
use Rattle.host_layout.specs.declared.imported.ImportedService.{ImportedService}
use Rattle.linear_code.specs.declared.instruction.Instruction.{Instruction}
use Rattle.linear_code.specs.declared.program.LabelRange.{LabelRange}
use Rattle.linear_code.specs.declared.program.Region.{Region}
use Rattle.linear_code.specs.declared.program.RegionKind.{RegionKind}
use Rattle.linear_code.specs.declared.program.RegionKind.TheVariants as kinds
use Rattle.linear_code.specs.Program.{LinearProgram}
use Rattle.template_code.specs.declared.layout.Layout.{Layout}
use Rattle.template_code.specs.Bytes.{spelled}
use Rattle.template_code.specs.Template.{body_size, code_from}
use Rattle.template_code.specs.ColdParts.{hot_code, part_code}
use Rattle.template_code.proofs.ColdParts.{side_all}
use Rattle.frame_layout.specs.declared.frame.FrameLayout.{FrameLayout}
use Rattle.pe_image.specs.Image.{Image, Section, is_executable}
use Rattle.pe_write.specs.NameTable.{NameRow}
use Rattle.pe_write.specs.Program.{image_of, if_named, names_read, text_read}
use Rattle.host_model.specs.Loading.{mapped}
use Rattle.image_code.specs.Code.{code_of}
use Rattle.image_code.proofs.ImageBounds.{IsBounded, bounded}
use Rattle.image_code.proofs.LoadedItems.{items_there}
use Rattle.image_link.specs.Fits.{FitsProgram}
use Rattle.image_link.specs.Handlers.{step_of}
use Rattle.image_link.specs.Near.{IsSiteNear}
use Rattle.image_link.specs.Routines.{RoutineView, routines, is_spare}
use Rattle.image_link.specs.declared.fragments.TheConstants.{CHAINED_SIZE}
use Rattle.image_link.specs.Tables.{handler_address, scope_record}
use Rattle.image_link.specs.Text.{SiteView, routine_size, cold_size, total, cold_total, bounds, own_addresses, frame_code, argument_code, front_code, front_size, routine_code}
use Rattle.image_link.specs.Linked.{text_begin, linked}
use Rattle.image_link.specs.Services.{services_of}
use Rattle.image_link.proofs.Blocks.{step_more}
use Rattle.image_link.proofs.Bounds.{text_length}
use Rattle.image_link.proofs.Entries.{routine_small}
use Rattle.image_link.proofs.Front.{services_few}
use Rattle.image_link.proofs.Images.{site_near, site_fewer, has_places}
use Rattle.image_link.proofs.Nearness.{routines_near}
use Rattle.image_tables.specs.CodeInMemory.{image_base, HasText, links}
use Rattle.image_tables.specs.Entries.{entry_of, entry_if, entries_of, part_entry, chained_if, chained_of, entries}
use Rattle.image_tables.specs.FrameLaws.{IsFramed}
use Rattle.image_tables.specs.Functions.{leaf, rest_of, function_of, part}
use Rattle.image_tables.specs.RegionRanges.{HasRanges, HasRegions}
use Rattle.image_tables.specs.RoutinePlaces.{Placed, PlacedPart, Cursor, put, past, placed, placed_from, first_cursor, parts_from, parts_of, body_begin, end_of, site_of, routines_begin, cold_begin, probe_begin, blocks_of, block_begin}
use Rattle.image_tables.proofs.CodeInMemory.{code_length, routine_is_at, there, cold_small}
use Rattle.image_tables.proofs.FrameRules.{leaf_fine, is_there, part_is_there}
use Rattle.image_tables.proofs.ImageText.{images_have_text}
use Rattle.image_tables.proofs.Lookups.{beyond_is_held_by_none, parts_total, cold_parts_total, part_within, entries_are_held, parts_are_held, leaves_are_held_by_none, thunks_are_held_by_none, placed_has, placed_least, placed_most, some_same, none_some}
use Rattle.image_tables.proofs.RoutineRows.{IsSpare, routines_spare}
use Rattle.image_tables.proofs.RoutineRanges.{routines_have}
use Rattle.image_tables.proofs.Table.{blocks_inside, image_small}
use Rattle.uncovered_code.specs.References.{Code, is_uncovered, scope_handlers}
use Rattle.uncovered_code.specs.Routines.{UncoveredRoutinesAreFrameless}
use Rattle.uncovered_code.proofs.Pieces.{CallsLead, TakenLead, Leads, Piece, EntryLeads, HasPieces, all_both, pieces_make_frameless}
use Rattle.uncovered_code.proofs.Routines.{within}
use Rattle.text_routines.specs.Laws.{section_code, UncoveredCodeIsFrameless, LinkedRoutinesAreFrameless}
use Rattle.text_routines.proofs.BlockPieces.{IsBlockPiece, block_piece}
use Rattle.text_routines.proofs.Bounds.{IsListed, first_listed, end_listed, bound_apart, bound_low, bound_high, given, step_between, IsPart, at_name, part_small, IsBound, front, routine, block}
use Rattle.text_routines.proofs.CodeCalls.{LinksLead, plain_calls, plain_takes}
use Rattle.text_routines.proofs.EntryCalls.{routine_calls, part_calls}
use Rattle.text_routines.proofs.FrontThunks.{IsFrontPiece, thunk_near, front_there, front_piece as piece_in_front}
use Rattle.text_routines.proofs.Plain.{all_plain, plain_both, argument_plain, spare_code_plain, all_are_spare}
use Rattle.text_routines.proofs.ProgramLinks.{funclet_leads, links_lead}
use Rattle.text_routines.proofs.TextFront.{bytes_after, begins_with_front}

-- ---- the routine around an address

record IsAround (s : SiteView) (c : Cursor) (rs : List RoutineView) (rva : ℕ) : Type 0 where
  index : ℕ
  placed : Placed
  is : slice_get (placed_from s c rs) index ≡ Some placed
  low : placed.begin ≤ rva
  high : rva < end_of placed

around : (s : SiteView) (c : Cursor) (rs : List RoutineView) (rva : ℕ) → c.begin ≤ rva
    → rva < c.begin + total rs → IsAround s c rs rva
around s c [] rva le lt = absurd (omega arith)
around s c (r ∷ rs) rva le lt = elim (cases_lt rva (c.begin + routine_size r)) [
  | inl here ↦ record { index = 0; placed = put c r; is = refl; low = le; high = here }
  | inr beyond ↦
      let more = around s (past s c r) rs rva beyond (omega arith) in
      record {
        index = suc more.index;
        placed = more.placed;
        is = more.is;
        low = more.low;
        high = more.high;
      }
]

-- the one whose cold parts are
record HasCold (s : SiteView) (c : Cursor) (rs : List RoutineView) (rva : ℕ) : Type 0 where
  index : ℕ
  placed : Placed
  is : slice_get (placed_from s c rs) index ≡ Some placed
  low : placed.cold ≤ rva
  high : rva < placed.cold + cold_size placed.routine

around_cold : (s : SiteView) (c : Cursor) (rs : List RoutineView) (rva : ℕ) → c.cold ≤ rva
    → rva < c.cold + cold_total rs → HasCold s c rs rva
around_cold s c [] rva le lt = absurd (omega arith)
around_cold s c (r ∷ rs) rva le lt = elim (cases_lt rva (c.cold + cold_size r)) [
  | inl here ↦ record { index = 0; placed = put c r; is = refl; low = le; high = here }
  | inr beyond ↦
      let more = around_cold s (past s c r) rs rva beyond (omega arith) in
      record {
        index = suc more.index;
        placed = more.placed;
        is = more.is;
        low = more.low;
        high = more.high;
      }
]

-- and the cold part
record IsInPart (y : Layout) (at info : ℕ) (rs : List LabelRange) (code : List Instruction)
    (rva : ℕ) : Type 0 where
  index : ℕ
  cold : PlacedPart
  is : slice_get (parts_from y at info rs code) index ≡ Some cold
  low : cold.begin ≤ rva
  high : rva < cold.end

in_part : (y : Layout) (at info : ℕ) (rs : List LabelRange) (code : List Instruction) (rva : ℕ)
    → at ≤ rva → rva < at + parts_total y rs code → IsInPart y at info rs code rva
in_part y at info [] code rva le lt = absurd (omega arith)
in_part y at info (r ∷ rs) code rva le lt =
    let end = at + body_size y (part_code code r) in
    elim (cases_lt rva end) [
      | inl here ↦ record {
        index = 0;
        cold = record { labels = r; begin = at; end = end; info = info };
        is = refl;
        low = le;
        high = here;
      }
      | inr beyond ↦
          let more = in_part y end (info + CHAINED_SIZE) rs code rva beyond (omega arith) in
          record {
            index = suc more.index;
            cold = more.cold;
            is = more.is;
            low = more.low;
            high = more.high;
          }
    ]

-- ---- uncovered addresses

held_by_none : (c : Code) (at : ℕ) → is_uncovered c at ≡ true → holding at c.entries ≡ None
held_by_none c at h =
    let p = and_parts (leb c.begin at) (ltb at c.end && is_none (holding at c.entries)) h in
    by (holding at c.entries) (and_parts (ltb at c.end) (is_none (holding at c.entries)) p.1).1
  where
    by : (o : Option Entry) → is_none o ≡ true → o ≡ None
    by None e = refl
    by (Some x) e = absurd (false≢true e)

is_one : (c : Code) (at : ℕ) → c.begin ≤ at → at < c.end → holding at c.entries ≡ None
    → is_uncovered c at ≡ true
is_one c at low high none =
    and_from (leb c.begin at) (ltb at c.end && is_none (holding at c.entries))
    (le-leb c.begin at low)
    (and_from (ltb at c.end) (is_none (holding at c.entries)) (lt-ltb at c.end high)
    (ap is_none none))

handlers_both : (P : ℕ → Type 0) (a b : List Entry) → AllByRecursion P (scope_handlers a)
    → AllByRecursion P (scope_handlers b) → AllByRecursion P (scope_handlers (a ++ b))
handlers_both P [] b h k = k
handlers_both P (e ∷ a) b h k =
    let own = map (λ (row : ScopeRecord). row.handler_address) e.info.scopes in
    let parts = split own (scope_handlers a) h in
    all_both P own (scope_handlers (a ++ b)) parts.0 (handlers_both P a b parts.1 k)
  where
    split : (xs ys : List ℕ) → AllByRecursion P (xs ++ ys)
        → AllByRecursion P xs × AllByRecursion P ys
    split [] ys h = (tt, h)
    split (x ∷ xs) ys h = let r = split xs ys h.1 in ((h.0, r.0), r.1)

-- a section that is there where rows are, and isn't executed
unexecuted : (rows : List NameRow) (named section : Section) (n : ℕ) → is_executable named ≡ false
    → slice_get (if_named rows named) n ≡ Some section → is_executable section ≡ false
unexecuted [] named section n inert is = absurd (none_some is)
unexecuted (r ∷ rs) named section zero inert is = sym (ap is_executable (some_same is)) ∙ inert
unexecuted (r ∷ rs) named section (suc n) inert is = absurd (none_some is)

-- ---- a program

module _ (p : LinearProgram) (fits : FitsProgram p) (regions : HasRegions p)
    (b : IsBounded (image_of (linked p))) where
  abbrev s : SiteView
  s = site_of p

  abbrev image : Image
  image = image_of (linked p)

  abbrev m : Memory
  m = mapped image

  abbrev c : Code
  c = section_code image (entries p) (text_read (linked p))

  abbrev P : ℕ → Type 0
  P = Leads c (IsBound p)

  text : HasText m p
  text = images_have_text p fits

  near : IsSiteNear s
  near = site_near (services_of p) p.globals (routines p) (length p.functions) p.main
      (services_few p) fits.globals
      (routines_near p fits) (has_places p fits)

  begins : c.begin ≡ text_begin p.globals
  begins = omega arith

  ends : c.end ≡ cold_begin p + cold_total (routines p) + step_of s.blocks * s.blocks.count
  ends =
      let fewer = (has_places p fits).fewer in
      let long = text_length s (routines p) (routines_near p fits)
      (site_fewer (services_of p) p.globals (routines p) (length p.functions) fewer) in
      omega arith

  -- what is in memory is in the code of the file
  in_file : (at : ℕ) (xs : List FetchedInstr) (to : ℕ) → to < 2 ^ 32
      → HasItems m (image_base + at) xs (image_base + to) → HasItems c.memory at xs to
  in_file at xs to low h = items_there image b at xs to (omega arith) h

  -- ---- where pieces end and no other begins

  front_clear : (rva k : ℕ) (x : IsFrontPiece s.imports s.text s.rdata m image_base
      (routines_begin p) rva) → IsBound p k → x.begin < k → k < x.end → ⊥
  front_clear rva k x (front i few e) lt lt' =
      let place = x.place in
      elim x.next [
        | inl n ↦ (let z = n.1 in omega arith)
        | inr n ↦ (let z = n.0 in omega arith)
      ]
  front_clear rva k x (routine l) lt lt' =
      let least = bound_low (routines_begin p) (routines p) k l in
      let inside = x.inside in
      omega arith
  front_clear rva k x (block f d is e) lt lt' = let inside = x.inside in omega arith

  leaf_clear : (index k : ℕ) (x : Placed) → slice_get (placed p) index ≡ Some x → IsBound p k
      → x.begin < k → k < end_of x → ⊥
  leaf_clear index k x is (front i few e) lt lt' =
      let least = placed_least s (first_cursor p) (routines p) index x is in
      omega arith
  leaf_clear index k x is (routine l) lt lt' =
      bound_apart s (first_cursor p) (routines p) index k x is l lt lt'
  leaf_clear index k x is (block f d at e) lt lt' =
      let most = placed_most s (first_cursor p) (routines p) index x is in
      omega arith

  block_clear : (rva k : ℕ) (x : IsBlockPiece p m P rva) → IsBound p k → x.begin < k → k < x.end
      → ⊥
  block_clear rva k x (front i few e) lt lt' = let low = x.low_begin in omega arith
  block_clear rva k x (routine l) lt lt' =
      let most = bound_high (routines_begin p) (routines p) k l in
      let low = x.low_begin in
      omega arith
  block_clear rva k x (block f d is e) lt lt' =
      let begin = x.begins in
      let end = x.ends in
      let within' = x.within in
      let small = part_small s.blocks d is in
      elim (cases_lt f x.index) [
        | inl less ↦
            let between = step_between s.blocks.adds s.blocks.removes f x.index less in
            omega arith
        | inr more ↦ elim (cases_lt x.index f) [
          | inl less ↦
              let between = step_between s.blocks.adds s.blocks.removes x.index f less in
              omega arith
          | inr same ↦
              let one : f ≡ x.index = omega arith in
              let here = ap (λ n. step_of s.blocks * n) one in
              x.clear d is (omega arith) (omega arith)
        ]
      ]

  -- ---- pieces

  front_at : (rva : ℕ) → s.text ≤ rva → rva < routines_begin p → Piece c (IsBound p) rva
  front_at rva low high =
      let begin = image_base + s.text in
      let text' = near.text in
      let services = services_few p in
      let fine = λ (v : ImportedService). thunk_near s.imports s.text s.rdata near.imports near.text
      near.rdata v in
      let items = front_there s.imports s.text s.rdata m begin (bytes_after p) fine (omega arith)
      (begins_with_front p m text) in
      let to : begin + front_size s.imports ≡ image_base + routines_begin p = omega arith in
      let x = piece_in_front s.imports s.text s.rdata m image_base (routines_begin p) rva
      (subst (λ (n : ℕ).
      HasItems m begin (spelled_by spell (front_code s.imports s.text s.rdata)) n) to items)
      (omega arith) low high in
      let inside = x.inside in
      let place = x.place in
      let from = begins in
      let until = ends in
      record {
        begin = x.begin;
        end = x.end;
        rest = spelled_by spell x.code;
        low = x.low;
        high = x.high;
        alone = λ k le lt. is_one c k (omega arith) (omega arith)
            (thunks_are_held_by_none p k fits (omega arith));
        there = in_file x.begin (spelled_by spell x.code) x.end (omega arith) x.there;
        right = x.right;
        ends = elim x.next [
          | inl n ↦ (let few = n.0 in let z = n.1 in
              front (suc x.index) (omega arith) (omega arith))
          | inr n ↦ routine (subst (λ k. IsListed (bounds (routines_begin p) (routines p)) k)
              (sym n.1) (first_listed (routines_begin p) (routines p)))
        ];
        clear = λ k bound lt lt'. front_clear rva k x bound lt lt';
        calls = plain_calls P x.begin x.code x.plain;
        taken = plain_takes P x.begin x.code x.plain;
      }

  -- a leaf function calls nothing, and takes no address
  leaf_plain : (index : ℕ) (x : Placed) → slice_get (placed p) index ≡ Some x
      → x.routine.frame ≡ None → all_plain (rest_of p x) ≡ true
  leaf_plain index x is none =
      let r = x.routine in
      let spare = placed_has IsSpare s (first_cursor p) (routines p) index x (routines_spare p) is
      none in
      plain_both (argument_code r.layout r.entry)
      (code_from (links p x) r.layout (body_begin x) (hot_code r.body))
      (argument_plain r.layout r.entry)
      (spare_code_plain (links p x) r.layout (body_begin x) spare.0 (hot_code r.body)
      (side_all (λ (i : Instruction). is_spare spare.0 i ≡ true) r.body.cold false 0 r.body.code
      (all_are_spare spare.0 r.body.code spare.1)))

  leaf_right : (index : ℕ) (x : Placed) → slice_get (placed p) index ≡ Some x
      → x.routine.frame ≡ None → (rs : List ℕ)
      → is_body (following 0 0 [] (leaf p x) (Body rs)) ≡ true
  leaf_right index x is none rs =
      let fine = leaf_fine p index x fits is none (there p index x fits is) in
      ap is_body (fine.leads rs).1

  leaf_there : (index : ℕ) (x : Placed) → slice_get (placed p) index ≡ Some x
      → x.routine.frame ≡ None
      → HasItems m (image_base + x.begin) (leaf p x) (image_base + end_of x)
  leaf_there index x is none =
      let h = there p index x fits is in
      let room = h.room in
      let small = routine_small x.routine h.near in
      let fine = leaf_fine p index x fits is none h in
      let a = argument_code x.routine.layout x.routine.entry in
      let rest = code_from (links p x) x.routine.layout (body_begin x)
      (hot_code x.routine.body) in
      let parts : routine_code s x.begin x.cold x.routine ≡ rest_of p x =
      ap (λ (o : Option FrameLayout). (frame_code x.begin (probe_begin p) o ++ a) ++ rest)
      none in
      let code = rest_of p x in
      let begin = image_base + x.begin in
      let long : length (spelled code) ≡ routine_size x.routine =
      ap (λ (is : List Instr). length (spelled is)) (sym parts)
      ∙ code_length s x.begin x.cold x.routine h.near in
      let has = items_are_at m begin code fine.encodable (omega arith)
      (subst (λ (is : List Instr). IsExecutableAt m begin (spelled is)) parts
      (routine_is_at p m x text h)) in
      let end : begin + length (spelled code) ≡ image_base + end_of x = omega arith in
      subst (λ (n : ℕ). HasItems m begin (leaf p x) n) end has

  leaf_at : (index : ℕ) (x : Placed) (rva : ℕ) → slice_get (placed p) index ≡ Some x
      → x.routine.frame ≡ None → x.begin ≤ rva → rva < end_of x → Piece c (IsBound p) rva
  leaf_at index x rva is none low high =
      let h = there p index x fits is in
      let room = h.room in
      let size = routine_small x.routine h.near in
      let least = placed_least s (first_cursor p) (routines p) index x is in
      let most = placed_most s (first_cursor p) (routines p) index x is in
      let plain = leaf_plain index x is none in
      let from = begins in
      let until = ends in
      record {
        begin = x.begin;
        end = end_of x;
        rest = leaf p x;
        low = low;
        high = high;
        alone = λ k le lt. is_one c k (omega arith) (omega arith)
            (leaves_are_held_by_none p index x k fits is none le lt);
        there = in_file x.begin (leaf p x) (end_of x) (omega arith) (leaf_there index x is none);
        right = leaf_right index x is none;
        ends = routine (end_listed s (first_cursor p) (routines p) index x is);
        clear = λ k bound lt lt'. leaf_clear index k x is bound lt lt';
        calls = plain_calls P x.begin (rest_of p x) plain;
        taken = plain_takes P x.begin (rest_of p x) plain;
      }

  routine_at : (index : ℕ) (x : Placed) (rva : ℕ) (o : Option FrameLayout)
      → x.routine.frame ≡ o → slice_get (placed p) index ≡ Some x → x.begin ≤ rva
      → rva < end_of x → holding rva (entries p) ≡ None → Piece c (IsBound p) rva
  routine_at index x rva None e is low high none = leaf_at index x rva is e low high
  routine_at index x rva (Some f) e is low high none =
      absurd (none_some (sym none ∙ entries_are_held p index x f rva fits is e low high))

  -- a cold part has an entry, and a leaf function has none of these
  leaf_hot : (index : ℕ) (x : Placed) → slice_get (placed p) index ≡ Some x
      → x.routine.frame ≡ None → x.routine.body.cold ≡ []
  leaf_hot index x is none =
      let own = placed_has (λ (r : RoutineView). HasRanges r.body) s (first_cursor p) (routines p)
      index x (routines_have p regions) is in
      let spare = placed_has IsSpare s (first_cursor p) (routines p) index x (routines_spare p) is
      none in
      own.spare spare.0 spare.1

  cold_at : (index : ℕ) (x : Placed) (rva : ℕ) (o : Option FrameLayout) → x.routine.frame ≡ o
      → slice_get (placed p) index ≡ Some x → x.cold ≤ rva
      → rva < x.cold + cold_size x.routine → holding rva (entries p) ≡ None
      → Piece c (IsBound p) rva
  cold_at index x rva None e is low high none =
      let h = there p index x fits is in
      let code = x.routine.body.code in
      let size = cold_parts_total x.routine h.near in
      let no_parts = ap (λ (rs : List LabelRange). parts_total x.routine.layout rs code)
      (leaf_hot index x is e) in
      absurd (omega arith)
  cold_at index x rva (Some f) e is low high none =
      let h = there p index x fits is in
      let r = x.routine in
      let size = cold_parts_total r h.near in
      let own = in_part r.layout x.cold x.chained r.body.cold r.body.code rva low (omega arith) in
      absurd (none_some (sym none
      ∙ parts_are_held p index own.index x f own.cold rva fits is e own.is own.low own.high))

  block_at : (rva : ℕ) → cold_begin p + cold_total (routines p) ≤ rva
      → rva < cold_begin p + cold_total (routines p) + step_of s.blocks * s.blocks.count
      → Piece c (IsBound p) rva
  block_at rva low high =
      let inside = blocks_inside p fits in
      let small = image_small p fits in
      let x = block_piece p fits m text P
      (λ f un. block f 0 (at_name refl) (omega arith)) rva low high in
      let most = x.high_end in
      let least = x.low_begin in
      let end = x.ends in
      let from = begins in
      let until = ends in
      record {
        begin = x.begin;
        end = x.end;
        rest = spelled_by spell x.code;
        low = x.low;
        high = x.high;
        alone = λ k le lt. is_one c k (omega arith) (omega arith)
            (beyond_is_held_by_none p k fits (omega arith));
        there = in_file x.begin (spelled_by spell x.code) x.end (omega arith) x.there;
        right = x.right;
        ends = elim x.next [
          | inl is ↦ block x.index x.to is end
          | inr past ↦
              (let more = step_more s.blocks.adds s.blocks.removes x.index in
              block (suc x.index) 0 (at_name refl) (omega arith))
        ];
        clear = λ k bound lt lt'. block_clear rva k x bound lt lt';
        calls = x.calls;
        taken = x.taken;
      }

  piece : (rva : ℕ) → is_uncovered c rva ≡ true → Piece c (IsBound p) rva
  piece rva un =
      let none = held_by_none c rva un in
      let w = within c rva un in
      let low = w.low in
      let high = w.high in
      let from = begins in
      let until = ends in
      elim (cases_lt rva (routines_begin p)) [
        | inl before ↦ front_at rva (omega arith) before
        | inr past ↦ elim (cases_lt rva (cold_begin p)) [
          | inl hot ↦
              let x = around s (first_cursor p) (routines p) rva past hot in
              routine_at x.index x.placed rva x.placed.routine.frame refl x.is x.low x.high none
          | inr cold ↦ elim (cases_lt rva (cold_begin p + cold_total (routines p))) [
            | inl apart ↦
                let x = around_cold s (first_cursor p) (routines p) rva cold apart in
                cold_at x.index x.placed rva x.placed.routine.frame refl x.is x.low x.high none
            | inr last ↦ block_at rva last (omega arith)
          ]
        ]
      ]

  -- ---- what is referred to

  -- nothing below the text is
  below : (at : ℕ) → at < text_begin p.globals → P at
  below at lt un =
      let low = (within c at un).low in let from = begins in absurd (omega arith)

  leads : (x : Placed) → LinksLead P (links p x)
  leads x = links_lead p P (below 0 (omega arith)) (λ at bound un. bound) x

  probe : P (probe_begin p)
  probe un = front (length (services_of p)) (omega arith) refl

  handlers_from : (labels : List ℕ) (end : ℕ) (rs : List Region)
      → AllByRecursion P (map (λ (row : ScopeRecord). row.handler_address)
      (map (scope_record s.funclets labels end) rs))
  handlers_from labels end [] = tt
  handlers_from labels end (r ∷ rs) = (by r.kind, handlers_from labels end rs)
    where
      by : (k : RegionKind) → P (handler_address s.funclets k)
      by (kinds.Finally f) = funclet_leads p P (below 0 (omega arith)) (λ at bound un. bound) f
      by (kinds.Filter f target) =
          funclet_leads p P (below 0 (omega arith)) (λ at bound un. bound) f
      by (kinds.Always target) = below 1 (omega arith)

  own_handlers : (x : Placed) (f : FrameLayout)
      → AllByRecursion P (scope_handlers (entry_of s x f ∷ []))
  own_handlers x f =
      all_both P
      (map (λ (row : ScopeRecord). row.handler_address) (entry_of s x f).info.scopes) []
      (handlers_from (own_addresses x.begin x.cold x.routine).labels
      (own_addresses x.begin x.cold x.routine).end x.routine.body.regions) tt

  handlers_of : (xs : List Placed) → AllByRecursion P (scope_handlers (entries_of s xs))
  handlers_of [] = tt
  handlers_of (x ∷ xs) =
      handlers_both P (entry_if s x x.routine.frame) (entries_of s xs) (by x.routine.frame)
      (handlers_of xs)
    where
      by : (o : Option FrameLayout) → AllByRecursion P (scope_handlers (entry_if s x o))
      by None = tt
      by (Some f) = own_handlers x f

  parts_handlers : (x : Placed) (f : FrameLayout) (qs : List PlacedPart)
      → AllByRecursion P (scope_handlers (map (part_entry s x f) qs))
  parts_handlers x f [] = tt
  parts_handlers x f (q ∷ qs) = parts_handlers x f qs

  chained_handlers : (xs : List Placed) → AllByRecursion P (scope_handlers (chained_of s xs))
  chained_handlers [] = tt
  chained_handlers (x ∷ xs) =
      handlers_both P (chained_if s x x.routine.frame) (chained_of s xs) (by x.routine.frame)
      (chained_handlers xs)
    where
      by : (o : Option FrameLayout) → AllByRecursion P (scope_handlers (chained_if s x o))
      by None = tt
      by (Some f) = parts_handlers x f (parts_of x)

  handlers : AllByRecursion P (scope_handlers (entries p))
  handlers =
      handlers_both P (entries_of s (placed p)) (chained_of s (placed p)) (handlers_of (placed p))
      (chained_handlers (placed p))

  -- ---- entries

  entry_leads : (index : ℕ) (x : Placed) (f : FrameLayout) → IsFramed p index x f
      → EntryLeads c (IsBound p) (entry_of s x f)
  entry_leads index x f framed =
      let h = there p index x fits framed.there in
      let room = h.room in
      let small = routine_small x.routine h.near in
      let xs = items (function_of p x f).steps ++ (function_of p x f).rest in
      record {
        items = xs;
        there = in_file x.begin xs (end_of x) (omega arith) (is_there p index x f framed m text);
        calls = routine_calls p fits P probe leads index x f framed;
      }

  part_leads : (index n : ℕ) (x : Placed) (f : FrameLayout) (q : PlacedPart)
      → IsFramed p index x f → slice_get (parts_of x) n ≡ Some q
      → EntryLeads c (IsBound p) (part_entry s x f q)
  part_leads index n x f q framed is =
      let h = there p index x fits framed.there in
      let room = h.cold_room in
      let small = cold_small x.routine h.near in
      let most = (part_within x n q h.near is).1 in
      record {
        items = part p x q;
        there = in_file q.begin (part p x q) q.end (omega arith)
            (part_is_there p index x f framed m n q text is);
        calls = part_calls p fits P probe leads index x f framed n q is;
      }

  entries_from : (xs : List Placed)
      → ((index : ℕ) (x : Placed) (f : FrameLayout) → slice_get xs index ≡ Some x
      → x.routine.frame ≡ Some f → EntryLeads c (IsBound p) (entry_of s x f))
      → AllByRecursion (EntryLeads c (IsBound p)) (entries_of s xs)
  entries_from [] each = tt
  entries_from (x ∷ xs) each =
      all_both (EntryLeads c (IsBound p)) (entry_if s x x.routine.frame) (entries_of s xs)
      (by x.routine.frame refl) (entries_from xs (λ index. each (suc index)))
    where
      by : (o : Option FrameLayout) → x.routine.frame ≡ o
          → AllByRecursion (EntryLeads c (IsBound p)) (entry_if s x o)
      by None e = tt
      by (Some f) e = (each 0 x f refl e, tt)

  parts_lead : (x : Placed) (f : FrameLayout) (qs : List PlacedPart)
      → ((n : ℕ) (q : PlacedPart) → slice_get qs n ≡ Some q
      → EntryLeads c (IsBound p) (part_entry s x f q))
      → AllByRecursion (EntryLeads c (IsBound p)) (map (part_entry s x f) qs)
  parts_lead x f [] each = tt
  parts_lead x f (q ∷ qs) each = (each 0 q refl, parts_lead x f qs (λ n. each (suc n)))

  chained_from : (xs : List Placed)
      → ((index n : ℕ) (x : Placed) (f : FrameLayout) (q : PlacedPart)
      → slice_get xs index ≡ Some x → x.routine.frame ≡ Some f → slice_get (parts_of x) n ≡ Some q
      → EntryLeads c (IsBound p) (part_entry s x f q))
      → AllByRecursion (EntryLeads c (IsBound p)) (chained_of s xs)
  chained_from [] each = tt
  chained_from (x ∷ xs) each =
      all_both (EntryLeads c (IsBound p)) (chained_if s x x.routine.frame) (chained_of s xs)
      (by x.routine.frame refl) (chained_from xs (λ index. each (suc index)))
    where
      by : (o : Option FrameLayout) → x.routine.frame ≡ o
          → AllByRecursion (EntryLeads c (IsBound p)) (chained_if s x o)
      by None e = tt
      by (Some f) e = parts_lead x f (parts_of x) (λ n q own. each 0 n x f q refl e own)

  all_lead : AllByRecursion (EntryLeads c (IsBound p)) (entries p)
  all_lead =
      all_both (EntryLeads c (IsBound p)) (entries_of s (placed p)) (chained_of s (placed p))
      (entries_from (placed p) (λ index x f at has. entry_leads index x f
      (record { fits = fits; there = at; framed = has })))
      (chained_from (placed p) (λ index n x f q at has own. part_leads index n x f q
      (record { fits = fits; there = at; framed = has }) own))

  -- the entry point is where a routine begins
  entry_leads_there : P image.entry
  entry_leads_there un =
      let at = get_or (bounds (routines_begin p) (routines p)) p.main 0 in
      let from = begins in
      elim (given (bounds (routines_begin p) (routines p)) p.main 0) [
        | inl l ↦
            (let least = bound_low (routines_begin p) (routines p) at l in
            let same : at ≡ image.entry = omega arith in
            routine (subst (λ k. IsListed (bounds (routines_begin p) (routines p)) k) same l))
        | inr e ↦ front 0 (omega arith) (omega arith)
      ]

  has_pieces : HasPieces c (IsBound p)
  has_pieces =
      record {
        piece = piece;
        entries = all_lead;
        handlers = handlers;
        entry_point = entry_leads_there;
      }

  -- the text is the one section that may be executed
  pub uncovered_code_is_frameless : UncoveredCodeIsFrameless image (entries p)
  uncovered_code_is_frameless zero section is runs =
      absurd (false≢true (ap is_executable (some_same is) ∙ runs))
  uncovered_code_is_frameless (suc zero) section is runs =
      subst (λ (q : Section). UncoveredRoutinesAreFrameless (section_code image (entries p) q))
      (some_same is) (pieces_make_frameless c (IsBound p) has_pieces)
  uncovered_code_is_frameless (suc (suc zero)) section is runs =
      absurd (false≢true (ap is_executable (some_same is) ∙ runs))
  uncovered_code_is_frameless (suc (suc (suc zero))) section is runs =
      absurd (false≢true (ap is_executable (some_same is) ∙ runs))
  uncovered_code_is_frameless (suc (suc (suc (suc zero)))) section is runs =
      absurd (false≢true (ap is_executable (some_same is) ∙ runs))
  uncovered_code_is_frameless (suc (suc (suc (suc (suc n))))) section is runs =
      let contents = linked p in
      absurd (false≢true (sym (unexecuted contents.names (names_read contents) section n refl is)
      ∙ runs))

pub linked_routines_are_frameless : LinkedRoutinesAreFrameless
linked_routines_are_frameless p bytes fits regions read place =
    uncovered_code_is_frameless p fits regions (bounded bytes (image_of (linked p)) read place)
