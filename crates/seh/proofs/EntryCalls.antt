-- Without faults, what a call of `check --each` gives is the text of the verdicts on all entries.
use Rattle.std.proofs.Common.{◌≡◌, ◌⊎◌, inl, inr, List, length, ℕ, Result, Ok, Err, refl, ap, subst, ◌∙◌}
use Rattle.pe_image.specs.Image.{Image}
use Rattle.pe_image.specs.Reading.{IsImage, reading}
use Rattle.eh_tables.specs.Tables.{Entry, tables}
use Rattle.host_model.specs.declared.refusal.LoadErr.TheVariants as loads
use Rattle.unwind_check.specs.declared.rule.EntryVerdict.{EntryVerdict}
use Rattle.image_code.specs.Verdicts.{AreImageVerdicts}
use Rattle.x64_emit.specs.declared.entry.TheConstants.{CHECK_STACK}
use Rattle.command_line.specs.declared.command.CheckReport.TheVariants.{Each}
use Rattle.command_line.specs.declared.command.Command.TheVariants.{Check}
use Rattle.seh.specs.declared.outcome.CommandOutcome.{CommandOutcome}
use Rattle.seh.specs.declared.outcome.CommandOutcome.TheVariants.{CheckedEntries}
use Rattle.seh.specs.declared.refusal.Refusal.{Refusal}
use Rattle.seh.specs.declared.refusal.Refusal.TheVariants as refusals
use Rattle.seh.specs.Answers.{image_limit}
use Rattle.seh.specs.EntryChecks.{IsEntriesAnswer, kept_count, entries_text}
use Rattle.seh.specs.EntryCheckLaws.{EntryCheckIsComplete}
use Rattle.seh.specs.Calls.{Call, HadNoFault, Gave, WantedMemory}
use Rattle.seh.specs.Refusals.{Reported}
use Rattle.seh.specs.Statuses.{entries_status}
use Rattle.seh.proofs.Completeness.{one_image}
use Rattle.seh.proofs.Calls.{table_read, Came, came, judged_by, wanted, image_wanted, cut}

module _ (call : Call) (out : HadNoFault call.out call.out_after)
    (err : HadNoFault call.err call.err_after) where
  abbrev CheckedAs : Image → Type 0
  CheckedAs image =
      (verdicts : List EntryVerdict) × AreImageVerdicts image CHECK_STACK verdicts
      × Gave (entries_status (kept_count verdicts) (length verdicts)) (entries_text verdicts) call

  checked : (bytes : List ℕ) (image : Image) (entries : List Entry) → IsImage bytes image
      → tables image ≡ Ok entries → (answer : Result CommandOutcome Refusal)
      → Reported answer call.err call.err_after call.status
      → IsEntriesAnswer bytes call.out call.out_after answer
      → WantedMemory call ⊎ CheckedAs image
  checked bytes image entries is whole (Ok (CheckedEntries kept all)) told
      (vs, found, some, many, took) =
      let same = one_image (reading bytes) found.image image found.is is in
      let come : AreImageVerdicts image CHECK_STACK vs =
      subst (λ (i : Image). AreImageVerdicts i CHECK_STACK vs) same found.come in
      inr (
        vs,
        come,
        record {
          ended = told.0 ∙ ap (λ n. entries_status n all) some
              ∙ ap (λ n. entries_status (kept_count vs) n) many;
          wrote = took.grew;
          silent = told.1;
        },
      )
  checked bytes image entries is whole (Ok done) told h = absurd h
  checked bytes image entries is whole (Err (refusals.Image e)) told (refused, kept) =
      inl (image_wanted call out err bytes image e is refused told)
  checked bytes image entries is whole (Err (refusals.Load (loads.Table e))) told (found, kept) =
      let same = one_image (reading bytes) found.image image found.is is in
      let refused : tables image ≡ Err e =
      subst (λ (i : Image). tables i ≡ Err e) same found.refused in
      absurd (table_read (tables image) entries e whole refused)
  checked bytes image entries is whole (Err (refusals.Load e)) told h = absurd h.0
  checked bytes image entries is whole (Err refusals.WriteFault) told (vs, found, off) =
      cut call out err off.0
  checked bytes image entries is whole (Err refusals.NoMemory) told h =
      inl (wanted call out err _ refl told)
  checked bytes image entries is whole (Err r) told h = absurd h.0

pub entry_check_is_complete : EntryCheckIsComplete
entry_check_is_complete bytes image entries call short is whole asks =
    by (came (Check Each) bytes call asks)
  where
    by : WantedMemory call ⊎ Came (Check Each) call
        → WantedMemory call ⊎ CheckedAs call asks.out asks.err image
    by (inl w) = inl w
    by (inr c) = judged_by image_limit IsEntriesAnswer bytes call asks.source asks.err asks.holds
        short c.answer c.reported c.is
        (checked call asks.out asks.err bytes image entries is whole c.answer c.reported)
