-- The frames of a compiled image are found.
use Rattle.std.proofs.Common.{◌≡◌, ℕ, ◌+◌, true, ◌&&◌, leb, ltb, List, [], ◌∷◌, ◌++◌, length, Option, Some, None, refl, sym, ap, subst, ◌∙◌, arith}
use Rattle.std.specs.Prelude.{is_none}
use Rattle.std.proofs.lemmas.Bool.{and_parts, false≢true}
use Rattle.x64_machine.specs.Contexts.{context_of}
use Rattle.pe_image.specs.Image.{Image}
use Rattle.pe_image.specs.Reading.{reading}
use Rattle.eh_tables.specs.Tables.{Entry, Tables, entries_of, holding, or_none, tables}
use Rattle.host_model.specs.Machine.{functions_in}
use Rattle.virtual_unwind.specs.CallerOf.{name_rows, distance, caller_in, caller_of}
use Rattle.virtual_unwind.specs.Tail.{FetchedInstr}
use Rattle.frame_rules.specs.Body.{Body, following, is_body}
use Rattle.frame_rules.specs.Prologue.{bytes}
use Rattle.frame_rules.specs.Frame.{left_to}
use Rattle.frame_rules.specs.States.{registers, return_address}
use Rattle.frame_rules.specs.Rules.{IsFound}
use Rattle.frame_rules.proofs.Callers.{leaves_are_found}
use Rattle.host_model.specs.Loading.{load_refusal, has_place}
use Rattle.image_code.proofs.ImageBounds.{low_base}
use Rattle.seh.specs.Words.{resolve, IsCompiled}
use Rattle.text_routines.specs.Laws.{UncoveredCodeIsFrameless}
use Rattle.uncovered_code.specs.References.{Code, is_uncovered}
use Rattle.uncovered_code.proofs.Routines.{uncovered_bytes_are_in_routines}
use Rattle.uncovered_code.proofs.Instructions.{instructions_are_one_list}
use Rattle.image_tables.proofs.Callers.{following_items, before_end}
use Rattle.seh.specs.Images.{entry_count}
use Rattle.seh.specs.CompiledFrames.{image_read, section_read, CompiledEntriesAreFound, CompiledLeavesAreFound, CompiledCodeIsCovered, CompiledRoutinesAreFound}
use Rattle.seh.proofs.CheckedFrames.{has_ranges, checked_callers_are_found}
use Rattle.seh.proofs.Compiled.{placed}
use Rattle.seh.proofs.Completeness.{one_image}

has_a_place : (text image : List ℕ) (compiled : IsCompiled text image)
    → has_place (image_read text image compiled) ≡ true
has_a_place text image compiled =
    let read = image_read text image compiled in
    let real = compiled.realises in
    let same = one_image (reading image) real.image read real.is compiled.linked.read in
    placed read (subst (λ (i : Image). load_refusal i ≡ None) same real.loads)

pub compiled_entries_are_found : CompiledEntriesAreFound
compiled_entries_are_found text image compiled entry e s d code held at rip inside =
    checked_callers_are_found image (entry_count (resolve text compiled.whole).program)
    (record {
      image = image_read text image compiled;
      is = compiled.linked.read;
      comes = compiled.kept;
    }) entry e s d compiled.linked.octets
    (low_base (image_read text image compiled) (has_a_place text image compiled)) code held at rip
    inside

pub compiled_leaves_are_found : CompiledLeavesAreFound
unfolding caller_of
compiled_leaves_are_found text image compiled rest e s held body first in_body =
    let read = image_read text image compiled in
    let given = compiled.kept in
    let has = has_ranges read given.entries given.read in
    let t : Tables = record { image = read; ranges = has.ranges } in
    let listed : entries_of t ≡ given.entries = ap or_none has.whole in
    let same : or_none (tables read) ≡ entries_of t = ap or_none given.read ∙ sym listed in
    let holds = subst (λ (es : List Entry). holding (distance read.base s.cpu.rip) es ≡ None)
    same held in
    subst (λ (es : List Entry). IsFound (caller_in
    (record { base = read.base; entries = es; rows = name_rows read })
    s.memory (context_of s.cpu)) (left_to (registers e) (return_address e))) (sym same)
    (leaves_are_found t rest e s holds body first in_body)

-- ---- the code that no entry covers

-- its routines are frameless, by the entries that the function table is read as
frameless_outside : (text image : List ℕ) (compiled : IsCompiled text image)
    → UncoveredCodeIsFrameless (image_read text image compiled)
    (functions_in (image_read text image compiled)).entries
frameless_outside text image compiled =
    let read = image_read text image compiled in
    let table = ap or_none compiled.table.read in
    subst (λ (es : List Entry). UncoveredCodeIsFrameless read es) (sym table) compiled.outside

pub compiled_code_is_covered : CompiledCodeIsCovered
compiled_code_is_covered text image compiled index section rva is runs un =
    let code = section_read text image compiled section in
    let routine = uncovered_bytes_are_in_routines code rva un in (
      routine,
      frameless_outside text image compiled index section is runs routine.begin routine.end
          routine.is,
    )

-- none covers an address of uncovered code
held_by_none : (c : Code) (at : ℕ) → is_uncovered c at ≡ true → holding at c.entries ≡ None
held_by_none c at h =
    let p = and_parts (leb c.begin at) (ltb at c.end && is_none (holding at c.entries)) h in
    by (holding at c.entries) (and_parts (ltb at c.end) (is_none (holding at c.entries)) p.1).1
  where
    by : (o : Option Entry) → is_none o ≡ true → o ≡ None
    by None e = refl
    by (Some x) e = absurd (false≢true e)

pub compiled_routines_are_found : CompiledRoutinesAreFound
compiled_routines_are_found text image compiled index section begin end done item left e s is runs
    routine there rip entry body =
    let read = image_read text image compiled in
    let code = section_read text image compiled section in
    let own = frameless_outside text image compiled index section is runs begin end routine in
    let items = done ++ (item ∷ left) in
    let one = instructions_are_one_list code.memory begin end own.rest items own.there there in
    let right = subst (λ (xs : List FetchedInstr).
    is_body (following 0 0 [] xs (Body [])) ≡ true) one own.right in
    let more = following_items code.memory begin done (item ∷ left) end there in
    let lt = before_end code.memory (begin + bytes done) (item ∷ left) end more
    (λ z. (let long = ap length z in absurd (omega (arith, long)))) in
    let rva = begin + bytes done in
    let none = held_by_none code rva (routine.alone rva (omega arith) lt) in
    compiled_leaves_are_found text image compiled items e s
    (ap (λ n. holding n (functions_in read).entries) rip ∙ none) right entry body
