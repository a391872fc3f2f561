-- The image of a text.
--
-- The main definitions: `IsCompiled`, `entry_count`.
use Rattle.std.specs.Prelude.{◌≡◌, ℕ, ◌+◌, ◌*◌, ◌^◌, ◌<◌, ◌≤◌, true, List, length, slice_get, sum_by, pos, Option, Some, None, Ok}
use Rattle.c_checked.specs.Program.{Program}
use Rattle.linear_code.specs.declared.program.LabelRange.{LabelRange}
use Rattle.frame_layout.specs.declared.frame.FrameLayout.{FrameLayout}
use Rattle.source_meaning.specs.Meaning.{meaning, Calm}
use Rattle.c_resolved.specs.Program.{resolve}
use Rattle.c_syntax.specs.Program.{ExternalDeclaration}
use Rattle.c_text.specs.Texts.{IsAccepted, TextIsRefused}
use Rattle.eh_tables.specs.Tables.{tables}
use Rattle.host_model.specs.Machine.{machine}
use Rattle.image_tables.specs.RegionLaws.{IsShaped}
use Rattle.pe_write.specs.Program.{image_of}
use Rattle.image_code.specs.Verdicts.{IsImageVerdict}
use Rattle.image_link.specs.Linked.{linked}
use Rattle.image_link.specs.Routines.{routines}
use Rattle.image_tables.specs.Entries.{entries}
use Rattle.image_tables.specs.Functions.{function_of}
use Rattle.image_tables.specs.RoutinePlaces.{Placed, placed}
use Rattle.image_tables.specs.ShapeLaws.{weight_at}
use Rattle.template_code.specs.declared.layout.TheConstants.{FRAME_BY_WEIGHT}
use Rattle.frame_rules.specs.Codes.{depth}
use Rattle.frame_rules.specs.Rules.{ops}
use Rattle.seh_ir.specs.Lowered.{lowered}
use Rattle.text_bounds.specs.StepsPerTurnLaws.{steps_per_turn_in}
use Rattle.image_runs.specs.ImageMeaning.{Realises, IsImageOf}
use Rattle.image_runs.specs.FrameCallers.{FindsCallers}
use Rattle.image_runs.specs.ShadowWalks.{WalksTheShadow}
use Rattle.text_routines.specs.Laws.{UncoveredCodeIsFrameless}
use Rattle.seh.specs.declared.refusal.Refusal.{Refusal}
use Rattle.seh.specs.declared.refusal.Refusal.TheVariants as refusals
use Rattle.match_runs.specs.Laws.{ShowsNoMore}
use Rattle.unwind_check.specs.declared.rule.Verdict.TheVariants.{Yes}
use Rattle.x64_emit.specs.declared.entry.TheConstants.{CHECK_STACK}

-- how many steps of a text's program one turn of its image may take, by the text's length
abbrev pub steps_per_turn : List ℕ → ℕ
steps_per_turn text = steps_per_turn_in (length text)

-- in m turns a run shows no more than the program shows within (m + 1) * steps_per_turn steps,
-- where these are calm, and ends only as they end
abbrev pub ShowsNoMoreByLength : (text image : List ℕ) → Program → Type 0
ShowsNoMoreByLength text image program =
    (arg m n : ℕ) → arg < 2 ^ 63 → (m + 1) * steps_per_turn text ≤ n
    → Calm program (pos arg) n ≡ true
    → ShowsNoMore (meaning program (pos arg) n) (machine image (pos arg) m)

-- after m turns of a run, where it has not ended by then, the walk over the stack gives the shadow,
-- as long as (m + 1) * steps_per_turn steps of the program are calm
abbrev pub GivesTheShadow : (text image : List ℕ) → Program → Type 0
GivesTheShadow text image program =
    (arg m n : ℕ) → arg < 2 ^ 63 → (m + 1) * steps_per_turn text ≤ n
    → Calm program (pos arg) n ≡ true
    → (machine image (pos arg) m).end ≡ None → WalksTheShadow image (pos arg) m

-- the function table of a program's image is read again as its entries, with one scope record for
-- each `__try` of the program
pub record HasTable (program : Program) : Type 0 where
  pub read : tables (image_of (linked (lowered program))) ≡ Ok (entries (lowered program))
  pub shape : IsShaped program

-- how many entries a routine has: one with a frame, and then one for each of its cold parts
abbrev pub entries_with : Option FrameLayout → List LabelRange → ℕ
entries_with None cold = 0
entries_with (Some f) cold = 1 + length cold

-- how many entries the function table of a program's image has: of each routine with a frame,
-- function or funclet, one, and one for each of its cold parts (`entries_with`)
abbrev pub entry_count : Program → ℕ
entry_count program =
    sum_by (λ r. entries_with r.frame r.body.cold) (routines (lowered program))

-- the verdict on a program's image is yes: so many entries, and each is kept by its code
abbrev pub IsKeptByCode : Program → Type 0
IsKeptByCode program =
    IsImageVerdict (image_of (linked (lowered program))) CHECK_STACK (Yes (entry_count program))

-- each routine of a program's image that has no entry is frameless
abbrev pub HasFramelessOutside : Program → Type 0
HasFramelessOutside program =
    UncoveredCodeIsFrameless (image_of (linked (lowered program))) (entries (lowered program))

-- the frame of a function takes at most `FRAME_BY_WEIGHT`, which is 8,192 bytes, for each 1 that
-- the function weighs, and that of a funclet as much: what its unwind codes allocate and push,
-- which `FindsCallers` asks room for, and its return address
abbrev pub HasSmallFrames : Program → Type 0
HasSmallFrames program =
    let p = lowered program in
    (index : ℕ) (x : Placed) (f : FrameLayout) → slice_get (placed p) index ≡ Some x
    → x.routine.frame ≡ Some f
    → depth (ops (function_of p x f)) + 8 ≤ FRAME_BY_WEIGHT * weight_at p index

-- the image of an accepted text is the one that its program's linear code is linked to, with its
-- function table, which its code keeps, and outside which every routine is frameless; its frames
-- are small; it does what the program means, and nothing more; the walk finds the caller at every
-- instruction of it, and gives the frames of its runs
pub record IsCompiled (text image : List ℕ) : Type 0 where
  pub whole : List ExternalDeclaration
  pub accepted : IsAccepted text whole
  pub linked : IsImageOf image (resolve text whole).program
  pub table : HasTable (resolve text whole).program
  pub kept : IsKeptByCode (resolve text whole).program
  pub outside : HasFramelessOutside (resolve text whole).program
  pub sizes : HasSmallFrames (resolve text whole).program
  pub realises : Realises image (resolve text whole).program
  pub no_more : ShowsNoMoreByLength text image (resolve text whole).program
  pub frames : FindsCallers (lowered (resolve text whole).program)
  pub walks : GivesTheShadow text image (resolve text whole).program

-- ---- refusals

-- why a text isn't compiled; want of memory says nothing
abbrev pub IsTextRefusal : List ℕ → Refusal → Type 0
IsTextRefusal text (refusals.Text e) = TextIsRefused text e
IsTextRefusal text refusals.NoMemory = Unit {0}
IsTextRefusal text r = ⊥
