-- `check` and `check --each` of the same bytes end with one status.
use Rattle.std.proofs.Common.{◌≡◌, ◌⊎◌, inl, inr, ℕ, ◌+◌, ◌<◌, List, [], ◌∷◌, ◌++◌, length, cond, Option, Some, None, Result, Ok, Err, refl, sym, ap, subst, ◌∙◌, arith}
use Rattle.std.specs.Prelude.{All, is_none}
use Rattle.std.proofs.lemmas.Bool.{eq-eqb, ne_eqb}
use Rattle.std.proofs.lemmas.List.Elements.{All-head, All-tail}
use Rattle.std.proofs.lemmas.List.Sums.{count_by-le-length, sum_by-cons}
use Rattle.pe_image.specs.Image.{Image}
use Rattle.pe_image.specs.Reading.{ImageIsRefused, reading}
use Rattle.pe_image.specs.declared.refusal.ImageErr.{ImageErr}
use Rattle.pe_image.specs.declared.refusal.ImageErr.TheVariants as images
use Rattle.eh_tables.specs.Tables.{Entry, tables}
use Rattle.eh_tables.specs.declared.refusal.TableErr.{TableErr}
use Rattle.host_model.specs.declared.refusal.LoadErr.TheVariants as loads
use Rattle.unwind_check.specs.declared.rule.Fault.{Fault}
use Rattle.unwind_check.specs.declared.rule.EntryVerdict.{EntryVerdict}
use Rattle.unwind_check.specs.declared.rule.Verdict.{Verdict}
use Rattle.unwind_check.specs.declared.rule.Verdict.TheVariants.{Yes, No}
use Rattle.unwind_check.specs.FailingRules.{CodeEntry, AreFaults, IsLeastFault}
use Rattle.unwind_check.specs.Verdicts.{ImageCode, entry_in, IsKept, IsVerdict}
use Rattle.unwind_check.specs.EntryVerdicts.{AreEntryVerdicts}
use Rattle.image_code.specs.Verdicts.{checked_code}
use Rattle.x64_emit.specs.declared.entry.TheConstants.{CHECK_STACK}
use Rattle.command_line.specs.declared.command.CheckReport.TheVariants.{Whole, Each}
use Rattle.command_line.specs.declared.command.Command.TheVariants.{Check}
use Rattle.seh.specs.declared.outcome.CommandOutcome.{CommandOutcome}
use Rattle.seh.specs.declared.outcome.CommandOutcome.TheVariants.{Checked, CheckedEntries}
use Rattle.seh.specs.declared.refusal.Refusal.{Refusal}
use Rattle.seh.specs.declared.refusal.Refusal.TheVariants as refusals
use Rattle.seh.specs.declared.status.Status.{Status}
use Rattle.seh.specs.declared.status.Status.TheVariants as statuses
use Rattle.seh.specs.Answers.{image_limit}
use Rattle.seh.specs.Checks.{IsChecked, IsRefusedTable, IsCheckAnswer}
use Rattle.seh.specs.EntryChecks.{AreChecked, IsEntriesAnswer, kept_count}
use Rattle.seh.specs.EntryCheckLaws.{StatusesAgree}
use Rattle.seh.specs.Calls.{Call, HadNoFault, WantedMemory}
use Rattle.seh.specs.Refusals.{Reported, refusal_status}
use Rattle.seh.specs.Statuses.{verdict_status, entries_status}
use Rattle.seh.proofs.Completeness.{one_image}
use Rattle.seh.proofs.OneTextOfEntries.{of_table}
use Rattle.seh.proofs.Calls.{Came, came, judged_by, of_refusal, image_wanted, wanted, cut, table_read}

-- ---- the entries of a table

-- how many are without a fault, where the first entry is or isn't
zero_more : (n : ℕ) → 0 + n ≡ n
zero_more n = omega arith

one_more : (v : EntryVerdict) (vs : List EntryVerdict) → v.fault ≡ None
    → kept_count (v ∷ vs) ≡ 1 + kept_count vs
one_more v vs e = sum_by-cons (λ (w : EntryVerdict). cond (is_none w.fault) 1 0) v vs
    ∙ ap (λ (o : Option Fault). cond (is_none o) 1 0 + kept_count vs) e

no_more : (v : EntryVerdict) (vs : List EntryVerdict) (f : Fault) → v.fault ≡ Some f
    → kept_count (v ∷ vs) ≡ kept_count vs
no_more v vs f e = sum_by-cons (λ (w : EntryVerdict). cond (is_none w.fault) 1 0) v vs
    ∙ ap (λ (o : Option Fault). cond (is_none o) 1 0 + kept_count vs) e
    ∙ zero_more (kept_count vs)

kept_has_none : (c : ImageCode) (e : Entry) (o : Option Fault) → IsKept c e
    → AreFaults (entry_in c e) o → o ≡ None
kept_has_none c e None kept faults = refl
kept_has_none c e (Some f) kept faults =
    absurd (kept.rules f.at f.rule faults.boundary faults.fails)

least_is_some : (e : CodeEntry) (o : Option Fault) (f : Fault) → IsLeastFault e f → AreFaults e o
    → (g : Fault) × (o ≡ Some g)
least_is_some e None f least faults = absurd (faults f.at f.rule least.boundary least.fails)
least_is_some e (Some g) f least faults = (g, refl)

all_kept : (c : ImageCode) (es : List Entry) (vs : List EntryVerdict) → All (IsKept c) es
    → AreEntryVerdicts c es vs → kept_count vs ≡ length vs
all_kept c [] [] all are = refl
all_kept c [] (v ∷ vs) all are = absurd are
all_kept c (e ∷ es) [] all are = absurd are
all_kept c (e ∷ es) (v ∷ vs) all are =
    let none = kept_has_none c e v.fault (All-head (IsKept c) e es all) are.0.faults in
    let rest = all_kept c es vs (All-tail (IsKept c) e es all) are.1 in
    let same = one_more v vs none in
    omega (arith, same, rest)

-- fewer than all
some_fault : (c : ImageCode) (before : List Entry) (e : Entry) (after : List Entry) (f : Fault)
    (vs : List EntryVerdict) → IsLeastFault (entry_in c e) f
    → AreEntryVerdicts c (before ++ (e ∷ after)) vs → kept_count vs < length vs
some_fault c [] e after f [] least are = absurd are
some_fault c [] e after f (v ∷ vs) least are =
    let some = least_is_some (entry_in c e) v.fault f least are.0.faults in
    let same = no_more v vs some.0 some.1 in
    let most = count_by-le-length (λ (w : EntryVerdict). is_none w.fault) vs in
    omega (arith, same, most)
some_fault c (b ∷ before) e after f [] least are = absurd are
some_fault c (b ∷ before) e after f (v ∷ vs) least are =
    let rest = some_fault c before e after f vs least are.1 in
    by v.fault refl rest
  where
    by : (o : Option Fault) → v.fault ≡ o → kept_count vs < length vs
        → kept_count (v ∷ vs) < length (v ∷ vs)
    by None is rest = let same = one_more v vs is in omega (arith, same, rest)
    by (Some g) is rest = let same = no_more v vs g is in omega (arith, same, rest)

all_done : (k n : ℕ) → k ≡ n → statuses.Done ≡ entries_status k n
all_done k n e = rw (eq-eqb k n e) refl

some_no : (k n : ℕ) → k < n → statuses.No ≡ entries_status k n
some_no k n lt = rw (ne_eqb k n (omega arith)) refl

one_status : (c : ImageCode) (es : List Entry) (v : Verdict) (vs : List EntryVerdict)
    → IsVerdict c es v → AreEntryVerdicts c es vs
    → verdict_status v ≡ entries_status (kept_count vs) (length vs)
one_status c es (Yes n) vs is are = all_done _ _ (all_kept c es vs is.0 are)
one_status c es (No k f) vs is are =
    some_no _ _ (some_fault c is.before is.entry is.after f vs is.least
    (subst (λ (xs : List Entry). AreEntryVerdicts c xs vs) is.parts are))

-- ---- an image

checked_once : (bytes : List ℕ) (v : Verdict) (vs : List EntryVerdict) → IsChecked bytes v
    → AreChecked bytes vs → verdict_status v ≡ entries_status (kept_count vs) (length vs)
checked_once bytes v vs is are =
    one_status (checked_code is.image CHECK_STACK) is.comes.entries v vs is.comes.is
    (of_table bytes vs are is.image is.comes.entries is.is is.comes.read)

-- a function table that is refused isn't read
not_read : (bytes : List ℕ) (v : Verdict) (e : TableErr) → IsChecked bytes v
    → IsRefusedTable bytes e → ⊥
not_read bytes v e is off =
    let same = one_image (reading bytes) off.image is.image off.is is.is in
    let refused : tables is.image ≡ Err e =
    subst (λ (i : Image). tables i ≡ Err e) same off.refused in
    table_read (tables is.image) is.comes.entries e is.comes.read refused

are_not_read : (bytes : List ℕ) (vs : List EntryVerdict) (e : TableErr) → AreChecked bytes vs
    → IsRefusedTable bytes e → ⊥
are_not_read bytes vs e are off =
    let same = one_image (reading bytes) off.image are.image off.is are.is in
    let refused : tables are.image ≡ Err e =
    subst (λ (i : Image). tables i ≡ Err e) same off.refused in
    table_read (tables are.image) are.come.entries e are.come.read refused

-- what refuses an image has one status, but for want of memory
image_status : (e : ImageErr) → (refusal_status (refusals.Image e) ≡ statuses.NoMemory)
    ⊎ (refusal_status (refusals.Image e) ≡ statuses.Image)
image_status images.Memory = inl refl
image_status e = inr refl

-- ---- two calls

module _ (bytes : List ℕ) (whole each : Call)
    (out : HadNoFault whole.out whole.out_after) (err : HadNoFault whole.err whole.err_after)
    (out' : HadNoFault each.out each.out_after) (err' : HadNoFault each.err each.err_after) where
  abbrev Agree : Type 0
  Agree = WantedMemory whole ⊎ (WantedMemory each ⊎ (whole.status ≡ each.status))

  abbrev Tells : Result CommandOutcome Refusal → Type 0
  Tells a = Reported a whole.err whole.err_after whole.status

  abbrev TellsEach : Result CommandOutcome Refusal → Type 0
  TellsEach b = Reported b each.err each.err_after each.status

  -- the one is refused with the status of images
  refused : (s : Status) → each.status ≡ s → (whole.status ≡ statuses.NoMemory) ⊎ (whole.status ≡ s)
      → Agree
  refused s is (inl none) = inl none
  refused s is (inr e) = inr (inr (e ∙ sym is))

  both_images : (e f : ImageErr) → Tells (Err (refusals.Image e)) → TellsEach
      (Err (refusals.Image f))
      → Agree
  both_images e f told told' = by (image_status e) (image_status f)
    where
      first : whole.status ≡ refusal_status (refusals.Image e)
      first = of_refusal (refusals.Image e) whole err told

      second : each.status ≡ refusal_status (refusals.Image f)
      second = of_refusal (refusals.Image f) each err' told'

      by : (refusal_status (refusals.Image e) ≡ statuses.NoMemory)
          ⊎ (refusal_status (refusals.Image e) ≡ statuses.Image)
          → (refusal_status (refusals.Image f) ≡ statuses.NoMemory)
          ⊎ (refusal_status (refusals.Image f) ≡ statuses.Image) → Agree
      by (inl none) y = inl (first ∙ none)
      by (inr x) (inl none) = inr (inl (second ∙ none))
      by (inr x) (inr y) = inr (inr (first ∙ x ∙ sym (second ∙ y)))

  after_verdict : (v : Verdict) → IsChecked bytes v → whole.status ≡ verdict_status v
      → (b : Result CommandOutcome Refusal) → TellsEach b
      → IsEntriesAnswer bytes each.out each.out_after b → Agree
  after_verdict v is ended (Ok (CheckedEntries kept all)) told (vs, are, some, many, took) =
      inr (inr (ended ∙ checked_once bytes v vs is are
      ∙ sym (told.0 ∙ ap (λ n. entries_status n all) some
      ∙ ap (λ n. entries_status (kept_count vs) n) many)))
  after_verdict v is ended (Ok done) told h = absurd h
  after_verdict v is ended (Err (refusals.Image e)) told h =
      inr (inl (image_wanted each out' err' bytes is.image e is.is h.0 told))
  after_verdict v is ended (Err (refusals.Load (loads.Table e))) told h =
      absurd (not_read bytes v e is h.0)
  after_verdict v is ended (Err (refusals.Load e)) told h = absurd h.0
  after_verdict v is ended (Err refusals.WriteFault) told (vs, are, off) = cut each out' err' off.0
  after_verdict v is ended (Err refusals.NoMemory) told h =
      inr (inl (wanted each out' err' _ refl told))
  after_verdict v is ended (Err r) told h = absurd h.0

  after_image : (e : ImageErr) → ImageIsRefused bytes e → Tells (Err (refusals.Image e))
      → (b : Result CommandOutcome Refusal) → TellsEach b
      → IsEntriesAnswer bytes each.out each.out_after b → Agree
  after_image e off told (Ok (CheckedEntries kept all)) told' (vs, are, some, many, took) =
      inl (image_wanted whole out err bytes are.image e are.is off told)
  after_image e off told (Ok done) told' h = absurd h
  after_image e off told (Err (refusals.Image f)) told' h = both_images e f told told'
  after_image e off told (Err (refusals.Load (loads.Table f))) told' h =
      inl (image_wanted whole out err bytes h.0.image e h.0.is off told)
  after_image e off told (Err (refusals.Load f)) told' h = absurd h.0
  after_image e off told (Err refusals.WriteFault) told' (vs, are, cut_off) =
      cut each out' err' cut_off.0
  after_image e off told (Err refusals.NoMemory) told' h =
      inr (inl (wanted each out' err' _ refl told'))
  after_image e off told (Err r) told' h = absurd h.0

  after_table : (e : TableErr) → IsRefusedTable bytes e
      → Tells (Err (refusals.Load (loads.Table e))) → (b : Result CommandOutcome Refusal)
      → TellsEach b → IsEntriesAnswer bytes each.out each.out_after b → Agree
  after_table e off told (Ok (CheckedEntries kept all)) told' (vs, are, some, many, took) =
      absurd (are_not_read bytes vs e are off)
  after_table e off told (Ok done) told' h = absurd h
  after_table e off told (Err (refusals.Image f)) told' h =
      inr (inl (image_wanted each out' err' bytes off.image f off.is h.0 told'))
  after_table e off told (Err (refusals.Load (loads.Table f))) told' h =
      inr (inr (of_refusal (refusals.Load (loads.Table e)) whole err told
      ∙ sym (of_refusal (refusals.Load (loads.Table f)) each err' told')))
  after_table e off told (Err (refusals.Load f)) told' h = absurd h.0
  after_table e off told (Err refusals.WriteFault) told' (vs, are, cut_off) =
      cut each out' err' cut_off.0
  after_table e off told (Err refusals.NoMemory) told' h =
      inr (inl (wanted each out' err' _ refl told'))
  after_table e off told (Err r) told' h = absurd h.0

  after_each : (b : Result CommandOutcome Refusal) → TellsEach b
      → IsEntriesAnswer bytes each.out each.out_after b → (a : Result CommandOutcome Refusal)
      → Tells a → IsCheckAnswer bytes whole.out whole.out_after a → Agree
  after_each b told' h' (Ok (Checked v)) told h = after_verdict v h.0 told.0 b told' h'
  after_each b told' h' (Ok done) told h = absurd h
  after_each b told' h' (Err (refusals.Image e)) told h = after_image e h.0 told b told' h'
  after_each b told' h' (Err (refusals.Load (loads.Table e))) told h =
      after_table e h.0 told b told' h'
  after_each b told' h' (Err (refusals.Load e)) told h = absurd h.0
  after_each b told' h' (Err refusals.WriteFault) told (v, is, off) = cut whole out err off.0
  after_each b told' h' (Err refusals.NoMemory) told h = inl (wanted whole out err _ refl told)
  after_each b told' h' (Err r) told h = absurd h.0

pub statuses_agree : StatusesAgree
statuses_agree bytes whole each short asks asks' =
    first (came (Check Whole) bytes whole asks) (came (Check Each) bytes each asks')
  where
    turned : WantedMemory each ⊎ Agree bytes whole each asks.out asks.err asks'.out asks'.err
        → Agree bytes whole each asks.out asks.err asks'.out asks'.err
    turned (inl w) = inr (inl w)
    turned (inr a) = a

    first : WantedMemory whole ⊎ Came (Check Whole) whole
        → WantedMemory each ⊎ Came (Check Each) each
        → WantedMemory whole ⊎ (WantedMemory each ⊎ (whole.status ≡ each.status))
    first (inl w) y = inl w
    first (inr x) (inl w) = inr (inl w)
    first (inr x) (inr y) =
        turned (judged_by image_limit IsEntriesAnswer bytes each asks'.source asks'.err asks'.holds
        short y.answer y.reported y.is (λ h'. inr (joined (judged_by image_limit IsCheckAnswer bytes
        whole asks.source asks.err asks.holds short x.answer x.reported x.is (λ h. inr (after_each
        bytes whole each asks.out asks.err asks'.out asks'.err y.answer y.reported h' x.answer
        x.reported h))))))
      where
        joined : WantedMemory whole ⊎ Agree bytes whole each asks.out asks.err asks'.out asks'.err
            → Agree bytes whole each asks.out asks.err asks'.out asks'.err
        joined (inl w) = inl w
        joined (inr a) = a
