-- The caller of every frame is found, by the function table of the image.
use Rattle.std.proofs.Common.{◌≡◌, ◌≢◌, ℕ, ◌+◌, ◌-◌, ◌^◌, ◌<◌, ◌≤◌, true, ltb, List, [], ◌∷◌, ◌++◌, length, Option, Some, None, refl, sym, ap, subst, ◌∙◌, arith, inl, inr}
use Rattle.image_tables.specs.Words.{◌>>=◌, Memory, modrm, Entry, holding, or_none, FetchedInstr, bytes, items, Body, following, is_body, IsRight, HasItems, image_of, LinearProgram, FrameLayout, FitsProgram, services_of, text_begin, linked, Placed, PlacedPart, end_of, parts_of, site_of, HasRegions, part_entry, entries, image_base, HasText, function_of, part, parts, entries_of, name_rows, caller_in, caller_of, FramedFunction, IsFound, registers, return_address, IsEntry, InBody, leaf, probe, FindsCaller, IsFramed, IsInRoutine, FramesAreFound, PartsAreFound, LeavesAreFound, ThunksAreFound, ProbesAreFound, routines_begin, thunk_begin}
use Rattle.x64_machine.specs.Contexts.{context_of}
use Rattle.x64_machine.specs.Effect.{State}
use Rattle.eh_tables.specs.Tables as reading
use Rattle.eh_tables.specs.Infos.{Info}
use Rattle.x64_machine.specs.declared.context.Context.{Context}
use Rattle.virtual_unwind.specs.Contexts.{rsp}
use Rattle.virtual_unwind.specs.Undone.{Answer}
use Rattle.virtual_unwind.specs.CallerOf.{CallerFrame, distance, entry_of, in_entry, of_entry, risen, rising}
use Rattle.host_model.specs.Machine.{functions_in}
use Rattle.frame_rules.specs.Codes.{depth}
use Rattle.frame_rules.specs.Rules.{FindsContext, ops}
use Rattle.unwind_check.specs.Fragments.{IsInPart}
use Rattle.unwind_check.proofs.Fragments.{parts_find_callers}
use Rattle.frame_rules.specs.Frame.{left_to}
use Rattle.frame_rules.specs.Rules as rules
use Rattle.frame_rules.proofs.Callers.{entries_are_found, leaves_are_found}
use Rattle.host_layout.specs.declared.imported.ImportedService.{ImportedService}
use Rattle.std.specs.Prelude.{slice_get}
use Rattle.std.proofs.lemmas.Bool.{lt-ltb}
use Rattle.image_tables.proofs.Lemmas.{routine_small, place_small, services_few}
use Rattle.image_tables.specs.Entries as tables
use Rattle.image_tables.proofs.Lookups.{part_within, entries_are_held, leaves_are_held_by_none, thunks_are_held_by_none, beyond_is_held_by_none}
use Rattle.image_tables.proofs.Table.{table, table_entries, tables_are_read, blocks_inside, image_small}
use Rattle.image_tables.specs.Functions.{thunk_of, name_thunk_of, adding_stub_of, removing_stub_of}
use Rattle.image_tables.specs.FrameLaws.{IsPast, IsInRange, NameThunksAreFound, AddingStubsAreFound, RemovingStubsAreFound}
use Rattle.image_tables.specs.RoutinePlaces.{blocks_of, block_begin}
use Rattle.image_link.specs.Handlers.{step_of, removing_at, stub_size_if}
use Rattle.image_link.proofs.Blocks.{step_below}
use Rattle.image_tables.proofs.CodeInMemory.{IsThere, there, cold_small}
use Rattle.image_tables.proofs.FrameRules.{right, rest_keeps, part_keeps, all_keep, is_there, part_is_there, leaf_fine}
use Rattle.image_tables.proofs.BodyFrames.{away, found_in, part_found}

-- ---- instructions that are

pub has_bytes : (m : Memory) (at : ℕ) (xs : List FetchedInstr) (to : ℕ) → HasItems m at xs to
    → at + bytes xs ≡ to
has_bytes m at [] to h = let e : at ≡ to = h in omega arith
has_bytes m at (x ∷ xs) to h = let r = has_bytes m (at + x.size) xs to h.2 in omega arith

pub following_items : (m : Memory) (at : ℕ) (a b : List FetchedInstr) (to : ℕ)
    → HasItems m at (a ++ b) to → HasItems m (at + bytes a) b to
following_items m at [] b to h = let e : at ≡ at + 0 = omega arith in
    subst (λ n. HasItems m n b to) e h
following_items m at (x ∷ a) b to h =
    let r = following_items m (at + x.size) a b to h.2 in
    let e : at + x.size + bytes a ≡ at + (x.size + bytes a) = omega arith in
    subst (λ n. HasItems m n b to) e r

pub before_end : (m : Memory) (at : ℕ) (xs : List FetchedInstr) (to : ℕ) → HasItems m at xs to
    → xs ≢ [] → at < to
before_end m at [] to h ne = absurd (ne refl)
before_end m at (x ∷ xs) to h ne = let r = has_bytes m (at + x.size) xs to h.2 in let s = h.1 in
    omega arith

some_items : {x : FetchedInstr} → {xs : List FetchedInstr} → x ∷ xs ≡ [] → ⊥
some_items z = let l = ap length z in omega arith

-- a state in a prologue is before the function's end
inside : (g : FramedFunction) (e s : State) (d at to : ℕ) (m : Memory) → IsRight g
    → HasItems m at (items g.steps ++ g.rest) to → rules.InPrologue g e s d → at + d < to
inside g e s d at to m ok has h =
    let following' = following_items m at (items g.steps) g.rest to has in
    let all = has_bytes m (at + bytes (items g.steps)) g.rest to following' in
    let before = h.before in
    let here = h.here in
    let size = ok.prologue_size in
    omega arith

-- one in a part is before its end
part_inside : (g : FramedFunction) (parts : List (List FetchedInstr)) (xs : List FetchedInstr)
    (e s : State) (d at to : ℕ) (m : Memory) → HasItems m at xs to → IsInPart g parts xs e s d
    → at + d < to
part_inside g parts xs e s d at to m has (inl b) =
    let here = b.here in
    let more = following_items m at b.done (b.item ∷ b.left) to
    (subst (λ xs. HasItems m at xs to) b.split has) in
    let lt = before_end m (at + bytes b.done) (b.item ∷ b.left) to more (λ z. some_items z) in
    omega arith
part_inside g parts xs e s d at to m has (inr l) =
    let here = l.here in
    let more = following_items m at l.done (l.run ++ l.left) to
    (subst (λ xs. HasItems m at xs to) l.split has) in
    let last = following_items m (at + bytes l.done) l.run l.left to more in
    let lt = before_end m (at + bytes l.done + bytes l.run) l.left to last l.continues in
    omega arith

-- ---- the image's table

-- a walk by the image's function table is one by its tables
same_walk : (p : LinearProgram) (fits : FitsProgram p) → HasRegions p → (e s : State)
    → IsFound (caller_of (table p fits) s.memory (context_of s.cpu))
    (left_to (registers e) (return_address e)) → FindsCaller p e s
unfolding caller_of
same_walk p fits regions e s h =
    let es : entries_of (table p fits) ≡ or_none
    (reading.tables (image_of (linked p))) = table_entries p fits regions
    ∙ sym (ap or_none (tables_are_read p fits regions)) in
    subst (λ (xs : List Entry). IsFound (caller_in
    (record { base = image_base; entries = xs; rows = name_rows (image_of (linked p)) })
    s.memory (context_of s.cpu)) (left_to (registers e) (return_address e))) es h

held : (p : LinearProgram) (fits : FitsProgram p) → HasRegions p → (rva : ℕ) (o : Option Entry)
    → holding rva (entries p) ≡ o → holding rva (entries_of (table p fits)) ≡ o
held p fits regions rva o e = ap (holding rva) (table_entries p fits regions) ∙ e

-- what the entry of an address finds is what the walk does
rises : (c : Context) (a : Answer CallerFrame) (to : Context) → FindsContext a to (rsp c)
    → IsFound (a >>= rising c) to
rises c a to h =
    let up : ltb (rsp c) (rsp h.found.context)
    ≡ true = ap (λ (x : Context). ltb (rsp c) (rsp x)) h.context
    ∙ lt-ltb (rsp c) (rsp to) h.rises in
    record {
      found = h.found;
      is = ap (λ (x : Answer CallerFrame). x >>= rising c) h.is ∙ ap (risen c h.found) up;
      context = h.context;
    }

walked : (p : LinearProgram) (e s : State) (entry : Entry) (d : ℕ)
    → entry_of (functions_in (image_of (linked p))) s.cpu.rip ≡ Some entry
    → distance image_base s.cpu.rip - entry.range.begin ≡ d
    → FindsContext (in_entry s.memory entry.info entry.parents (context_of s.cpu) d)
    (left_to (registers e) (return_address e)) (registers s 4)
    → FindsCaller p e s
unfolding caller_in
walked p e s entry d held away h =
    let c = context_of s.cpu in
    let to = left_to (registers e) (return_address e) in
    let rva = distance image_base s.cpu.rip in
    let found = subst (λ (k : ℕ). FindsContext
    (in_entry s.memory entry.info entry.parents c k) to (registers s 4)) (sym away) h in
    subst (λ (o : Option Entry). IsFound (of_entry s.memory c rva o >>= rising c) to) (sym held)
    (rises c (of_entry s.memory c rva (Some entry)) to found)

-- a fragment's info, of a function
abbrev fragment_info : Info → Info
fragment_info i = record i { codes = []; prologue_size = 0 }

module _ (p : LinearProgram) (index : ℕ) (x : Placed) (f : FrameLayout) (e s : State)
    (framed : IsFramed p index x f) (regions : HasRegions p)
    (entry : IsEntry (depth (ops (function_of p x f))) e) (text : HasText s.memory p) where
  is_there' : IsThere (site_of p) (linked p).text (text_begin p.globals) x
  is_there' = there p index x framed.fits framed.there

  -- in the prologue
  in_prologue : (d : ℕ) → s.cpu.rip ≡ image_base + x.begin + d
      → rules.InPrologue (function_of p x f) e s d → FindsCaller p e s
  in_prologue d rip st =
      let g = function_of p x f in
      let ok = right p index x f framed in
      let has = is_there p index x f framed s.memory text in
      let h = is_there' in
      let room = h.room in
      let small = routine_small x.routine h.near in
      let lt = inside g e s d (image_base + x.begin) (image_base + end_of x) s.memory ok has st in
      let rva : distance image_base s.cpu.rip ≡ x.begin + d = omega arith in
      let held' = ap (λ n. holding n (entries_of (table p framed.fits))) rva
      ∙ held p framed.fits regions (x.begin + d) (Some (tables.entry_of (site_of p) x f))
      (entries_are_held p index x f (x.begin + d) framed.fits framed.there framed.framed
      (omega arith) (omega arith)) in
      same_walk p framed.fits regions e s (entries_are_found (table p framed.fits)
      (tables.entry_of (site_of p) x f)
      g e s (image_base + x.begin) d (image_base + end_of x) held' refl refl rva ok entry has
      (omega arith) rip (inl st))

  -- past it
  past_prologue : (d : ℕ) → s.cpu.rip ≡ image_base + x.begin + d → IsPast p x f e s d
      → FindsCaller p e s
  past_prologue d rip st =
      let g = function_of p x f in
      let ok = right p index x f framed in
      let size = ok.prologue_size in
      let here = st.here in
      let begin = image_base + x.begin + g.info.prologue_size in
      let to = image_base + end_of x in
      let after : image_base + x.begin + bytes (items g.steps) ≡ begin = omega arith in
      let has = subst (λ (n : ℕ). HasItems s.memory n g.rest to) after
      (following_items s.memory (image_base + x.begin) (items g.steps) g.rest to
      (is_there p index x f framed s.memory text)) in
      let h = is_there' in
      let room = h.room in
      let small = routine_small x.routine h.near in
      let lt = part_inside g (parts p x f) g.rest e s st.past begin to s.memory has st.is_there in
      let found = (parts_find_callers g (parts p x f) g.rest (fragment_info g.info) e s begin
      st.past
      to ok (all_keep p index x f framed) (rest_keeps p index x f framed)
      (record { codes = refl; prologue = refl; register = refl; offset = refl }) entry has
      (omega arith) (let z : s.cpu.rip ≡ begin + st.past = omega arith in z) st.is_there).1 in
      let rva : s.cpu.rip ≡ image_base + (x.begin + d) = omega arith in
      let far : x.begin + d < 2 ^ 32 = omega arith in
      let away' = ap (distance image_base) rva ∙ away (x.begin + d) far in
      walked p e s (tables.entry_of (site_of p) x f) (g.info.prologue_size + st.past)
      (ap (entry_of (functions_in (image_of (linked p)))) rva
      ∙ found_in p index x f (x.begin + d) framed.fits regions framed.there framed.framed
      (omega arith) (omega arith) far)
      (let z : distance image_base s.cpu.rip - x.begin ≡ g.info.prologue_size + st.past = omega
      arith in z) found

  -- in a cold part
  in_part : (n : ℕ) (q : PlacedPart) (d : ℕ) → slice_get (parts_of x) n ≡ Some q
      → s.cpu.rip ≡ image_base + q.begin + d
      → IsInPart (function_of p x f) (parts p x f) (part p x q) e s d → FindsCaller p e s
  in_part n q d own rip st =
      let g = function_of p x f in
      let ok = right p index x f framed in
      let begin = image_base + q.begin in
      let to = image_base + q.end in
      let has = part_is_there p index x f framed s.memory n q text own in
      let h = is_there' in
      let room = h.cold_room in
      let small = cold_small x.routine h.near in
      let w = part_within x n q h.near own in
      let most = w.1 in
      let lt = part_inside g (parts p x f) (part p x q) e s d begin to s.memory has st in
      let i = (part_entry (site_of p) x f q).info in
      let found = (parts_find_callers g (parts p x f) (part p x q) i e s begin d to ok
      (all_keep p index x f framed) (part_keeps p index x f framed n q own)
      (record { codes = refl; prologue = refl; register = refl; offset = refl }) entry has
      (omega arith) rip st).0 in
      let rva : s.cpu.rip ≡ image_base + (q.begin + d) = omega arith in
      let far : q.begin + d < 2 ^ 32 = omega arith in
      let away' = ap (distance image_base) rva ∙ away (q.begin + d) far in
      walked p e s (part_entry (site_of p) x f q) d
      (ap (entry_of (functions_in (image_of (linked p)))) rva
      ∙ part_found p index n x f q (q.begin + d) framed.fits regions framed.there framed.framed own
      (omega arith) (omega arith) far)
      (let z : distance image_base s.cpu.rip - q.begin ≡ d = omega arith in z) found

  in_routine : (d : ℕ) → s.cpu.rip ≡ image_base + x.begin + d → IsInRoutine p x f e s d
      → FindsCaller p e s
  in_routine d rip (inl st) = in_prologue d rip st
  in_routine d rip (inr st) = past_prologue d rip st

pub frames_are_found : FramesAreFound
frames_are_found p index x f e s d framed regions entry text rip st =
    in_routine p index x f e s framed regions entry text d rip st

pub parts_are_found : PartsAreFound
parts_are_found p index n x f q e s d framed regions own entry text rip st =
    in_part p index x f e s framed regions entry text n q d own rip st

-- ---- without an entry

unheld : (p : LinearProgram) (fits : FitsProgram p) → HasRegions p
    → (e s : State) (rest : List FetchedInstr) (rva : ℕ) → rva < 2 ^ 32
    → s.cpu.rip ≡ image_base + rva → holding rva (entries p) ≡ None
    → is_body (following 0 0 [] rest (Body [])) ≡ true → IsEntry 0 e → InBody 0 [] rest e e s
    → FindsCaller p e s
unheld p fits regions e s rest rva small rip none ok entry body =
    let here : distance image_base s.cpu.rip ≡ rva = ap (distance image_base) rip
    ∙ away rva small in
    same_walk p fits regions e s (leaves_are_found (table p fits) rest e s
    (ap (λ n. holding n (entries_of (table p fits))) here ∙ held p fits regions rva None none) ok
    entry body)

pub leaves_are_found' : LeavesAreFound
leaves_are_found' p index x e s fits regions at none h =
    let t = there p index x fits at in
    let room = t.room in
    let small = routine_small x.routine t.near in
    let high = h.high in
    let fine = leaf_fine p index x fits at none t in
    let leads = fine.leads [] in
    unheld p fits regions e s (leaf p x) h.rva (omega arith) h.here
    (leaves_are_held_by_none p index x h.rva fits at none h.low h.high) (ap is_body leads.1)
    h.entry h.body

pub thunk_ok : (p : LinearProgram) (service : ImportedService)
    → is_body (following 0 0 [] (thunk_of p service) (Body [])) ≡ true
unfolding modrm
thunk_ok p service = refl

-- in a block
in_block : (p : LinearProgram) (fits : FitsProgram p) → HasRegions p → (f : ℕ)
    → f < (blocks_of p).count → (e s : State) (rest : List FetchedInstr) (begin end : ℕ)
    → block_begin p f ≤ begin → end ≤ block_begin p f + step_of (blocks_of p)
    → is_body (following 0 0 [] rest (Body [])) ≡ true → IsInRange e s rest begin end
    → FindsCaller p e s
in_block p fits regions f there e s rest begin end le most ok h =
    let inside = blocks_inside p fits in
    let small = image_small p fits in
    let below = step_below (blocks_of p) f there in
    let low = h.low in
    let high = h.high in
    unheld p fits regions e s rest h.rva (omega arith) h.here
    (beyond_is_held_by_none p h.rva fits (omega arith)) ok h.entry h.body

pub name_thunk_ok : (p : LinearProgram) (f : ℕ)
    → is_body (following 0 0 [] (name_thunk_of p f) (Body [])) ≡ true
unfolding modrm
name_thunk_ok p f = refl

pub name_thunks_are_found : NameThunksAreFound
name_thunks_are_found p f e s fits regions there h =
    in_block p fits regions f there e s (name_thunk_of p f) (block_begin p f)
    (block_begin p f + 15) (omega arith) (omega arith) (name_thunk_ok p f) h

pub adding_stub_ok : (p : LinearProgram) (f : ℕ)
    → is_body (following 0 0 [] (adding_stub_of p f) (Body [])) ≡ true
unfolding modrm
adding_stub_ok p f = refl

pub removing_stub_ok : (p : LinearProgram) (f : ℕ)
    → is_body (following 0 0 [] (removing_stub_of p f) (Body [])) ≡ true
unfolding modrm
removing_stub_ok p f = refl

pub adding_stubs_are_found : AddingStubsAreFound
adding_stubs_are_found p f e s fits regions there has h =
    let size = ap stub_size_if has in
    let begin = block_begin p f in
    in_block p fits regions f there e s (adding_stub_of p f) (begin + 15) (begin + 15 + 13)
    (omega arith) (omega arith) (adding_stub_ok p f) h

pub removing_stubs_are_found : RemovingStubsAreFound
removing_stubs_are_found p f e s fits regions there has h =
    let size = ap stub_size_if has in
    let begin = removing_at (blocks_of p).adds (block_begin p f) in
    in_block p fits regions f there e s (removing_stub_of p f) begin (begin + 13)
    (omega arith) (omega arith) (removing_stub_ok p f) h

pub probe_ok : is_body (following 0 0 [] probe (Body [])) ≡ true
unfolding modrm
probe_ok = refl

thunk_low : (p : LinearProgram) (service : ImportedService)
    → thunk_begin p service + 6 ≤ routines_begin p
thunk_low p service = let place = place_small (services_of p) service in omega arith

pub thunks_are_found : ThunksAreFound
thunks_are_found p service e s fits regions h =
    let few = fits.globals in
    let services = services_few p in
    let low = thunk_low p service in
    let high = h.high in
    unheld p fits regions e s (thunk_of p service) h.rva (omega arith) h.here
    (thunks_are_held_by_none p h.rva fits (omega arith)) (thunk_ok p service) h.entry h.body

pub probes_are_found : ProbesAreFound
probes_are_found p e s fits regions h =
    let few = fits.globals in
    let services = services_few p in
    let high = h.high in
    unheld p fits regions e s probe h.rva (omega arith) h.here
    (thunks_are_held_by_none p h.rva fits (omega arith)) probe_ok h.entry h.body
