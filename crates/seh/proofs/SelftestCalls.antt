-- What whole calls of `selftest` give, where no sink has a fault.
use Rattle.std.proofs.Common.{◌≡◌, ◌⊎◌, inl, inr, ◌+◌, ◌*◌, ◌≤◌, ℕ, pos, List, length, false, Result, refl, ap, subst, ◌∙◌}
use Rattle.seh.specs.Words.{Shown, RunEnd, Grew, Program, resolve, meaning, run_end_of, shown_by, end_by, Call, Gave, WantedMemory, EndsWithin, ShowsMeaning, IsCompiled, IsProgramOf, Refusal, CommandOutcome, GaveSummary, SelftestReadsNothing, SelftestIsComplete, SelftestIsMeant, meant_summary, selftest_options, summary, summary_by, status_of, meaning_status}
use Rattle.c_meaning.specs.FunctionNames.{names_of}
use Rattle.c_meaning.specs.Texts as meanings
use Rattle.generated_program.specs.GeneratedText.{generated}
use Rattle.command_line.specs.declared.command.Command.{Command}
use Rattle.command_line.specs.declared.command.Command.TheVariants.{Selftest}
use Rattle.command_line.specs.declared.reading.TheConstants.{DEFAULT_TURNS}
use Rattle.command_line.proofs.OneCommand.{line_once}
use Rattle.seh.specs.Commands.{IsAnswer, IsCommandAnswer, IsUnread}
use Rattle.seh.proofs.Calls.{Came, came_of, program_once, ran_text}
use Rattle.seh.proofs.Headline.{headline}
use Rattle.seh.proofs.MeantCalls.{same_text}

pub selftest_reads_nothing : SelftestReadsNothing
selftest_reads_nothing n call asks = by asks.answers.answer asks.answers.cause
  where
    by : (answer : Result CommandOutcome Refusal)
        → IsAnswer call.words call.source call.source_after call.out call.out_after answer
        → IsUnread call.source call.source_after
    by answer (inl usage) = usage.2.0
    by answer (inr (inl found)) =
        let same = line_once call.words found.0 (Selftest n) found.1 asks.line in
        let is = subst (λ (c : Command). IsCommandAnswer c call.source call.source_after call.out
        call.out_after answer) same found.2 in
        is.0
    by answer (inr (inr none)) = none.1.0

pub selftest_is_complete : SelftestIsComplete
selftest_is_complete n whole call accepted asks =
    by (came_of (Selftest n) call asks.answers asks.line asks.err)
  where
    summed : WantedMemory call ⊎ ((image : List ℕ) × IsCompiled (generated n) image
        × Gave (status_of (end_by (selftest_options DEFAULT_TURNS) image))
        (summary_by DEFAULT_TURNS n image) call)
        → WantedMemory call ⊎ GaveSummary DEFAULT_TURNS n call
    summed (inl w) = inl w
    summed (inr (image, compiled, gave)) =
        inr (record { image = image; compiled = compiled; gave = gave })

    by : WantedMemory call ⊎ Came (Selftest n) call
        → WantedMemory call ⊎ GaveSummary DEFAULT_TURNS n call
    by (inl w) = inl w
    by (inr c) =
        summed (ran_text call asks.out asks.err (summary_by DEFAULT_TURNS n)
        (end_by (selftest_options DEFAULT_TURNS)) (generated n) whole accepted c.answer c.reported
        c.is.1)

-- for any number of turns: a number that is written out would be counted down here
meant_by : (turns n steps : ℕ) (p : Program) (call : Call) → IsProgramOf (generated n) p
    → 256 * steps + 256 ≤ turns → (ends : EndsWithin p 0 steps) → GaveSummary turns n call
    → Gave (meaning_status ends.ended)
    (meant_summary n steps (meaning p (pos 0) steps) (names_of p)) call
meant_by turns n steps p call is enough ends gave =
    let options = selftest_options turns in
    let compiled = gave.compiled in
    let same : (resolve (generated n) compiled.whole).program ≡ p = program_once (generated n)
    (resolve (generated n) compiled.whole).program p
    (record {
      declarations = compiled.whole;
      checked = record { accepted = compiled.accepted; resolved = refl };
    }) is in
    let names = names_of p in
    let shows : ShowsMeaning (meaning p (pos 0) steps) names gave.image options =
    subst (λ q. ShowsMeaning (meaning q (pos 0) steps) (names_of q) gave.image options) same
    (headline (generated n) gave.image compiled options 0 steps ends.small
    (record { argument = refl; turns = enough })) in
    let covered = shows.covers.ends ends.end (ap run_end_of ends.is ∙ ends.runs) in
    let meant = meaning p (pos 0) steps in
    let text = shows.whole ends.end (ap run_end_of ends.is ∙ ends.runs)
    ∙ same_text false steps meant names ends.ended ends.end ends.is ends.runs in
    let bytes : summary_by turns n gave.image ≡ meant_summary n steps meant names =
    ap (λ t. summary n t (length (shown_by options gave.image).events)) text
    ∙ ap (λ (x : Shown RunEnd). summary n (meanings.text false steps meant names)
    (length x.events)) covered in
    record {
      ended = gave.gave.ended ∙ shows.status ends.ended ends.end ends.is ends.runs;
      wrote = subst (λ b. Grew call.out.bytes b call.out_after.bytes) bytes gave.gave.wrote;
      silent = gave.gave.silent;
    }

pub selftest_is_meant : SelftestIsMeant
selftest_is_meant n steps p call is asks enough ends =
    by (selftest_is_complete n is.declarations call is.checked.accepted asks)
  where
    by : WantedMemory call ⊎ GaveSummary DEFAULT_TURNS n call
        → WantedMemory call
        ⊎ Gave (meaning_status ends.ended)
        (meant_summary n steps (meaning p (pos 0) steps) (names_of p)) call
    by (inl w) = inl w
    by (inr gave) = inr (meant_by DEFAULT_TURNS n steps p call is enough ends gave)
