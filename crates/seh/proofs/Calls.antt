-- Without faults, what a call gives is what its command gives.
use Rattle.std.proofs.Common.{◌≡◌, ◌⊎◌, inl, inr, ℕ, ◌+◌, ◌<◌, ◌≤◌, min, List, length, Some, Result, Ok, Err, refl, sym, ap, subst, ◌∙◌, arith}
use Rattle.seh_num.specs.declared.end.RunEnd.{RunEnd}
use Rattle.seh_io.specs.Streams.{Faults, Faulted, last_count}
use Rattle.c_syntax.specs.Program.{ExternalDeclaration}
use Rattle.c_checked.specs.Program.{Program}
use Rattle.c_resolved.specs.Program.{resolve}
use Rattle.c_meaning.specs.Texts as meanings
use Rattle.c_lex.specs.declared.lexing.LexErr.TheVariants as lexes
use Rattle.c_parse_expr.specs.declared.refusal.ParseErr.TheVariants as parses
use Rattle.c_text.specs.declared.accepting.TextErr.{TextErr}
use Rattle.c_text.specs.declared.accepting.TextErr.TheVariants as texts
use Rattle.c_text.specs.Texts.{IsAccepted, TextIsRefused}
use Rattle.c_text.proofs.NotRefused.{accepted_is_not_refused, accepted_is_one}
use Rattle.pe_image.specs.Image.{Image}
use Rattle.pe_image.specs.Reading.{IsImage, ImageIsRefused, reading}
use Rattle.pe_image.specs.declared.refusal.ImageErr.{ImageErr}
use Rattle.pe_image.specs.declared.refusal.ImageErr.TheVariants as images
use Rattle.pe_write.specs.Program.{parts_of}
use Rattle.pe_write.specs.Written.{written}
use Rattle.table_view.specs.View.{view}
use Rattle.eh_tables.specs.declared.refusal.TableErr.{TableErr}
use Rattle.eh_tables.specs.Answer.{Table}
use Rattle.eh_tables.specs.Tables.{Entry, tables}
use Rattle.host_model.specs.declared.refusal.LoadErr.TheVariants as loads
use Rattle.unwind_check.specs.declared.rule.Verdict.{Verdict}
use Rattle.unwind_check.specs.declared.rule.Verdict.TheVariants.{Yes, No}
use Rattle.image_code.specs.Verdicts.{IsImageVerdict}
use Rattle.x64_emit.specs.declared.entry.TheConstants.{CHECK_STACK}
use Rattle.seh_ir.specs.Lowered.{lowered}
use Rattle.image_link.specs.Linked.{linked}
use Rattle.command_line.specs.declared.command.CheckReport.TheVariants.{Whole}
use Rattle.command_line.specs.declared.command.Command.{Command}
use Rattle.command_line.specs.declared.command.Command.TheVariants.{Compile, Exec, Run, Meaning, Show, Check}
use Rattle.command_line.specs.declared.command.RunOptions.{RunOptions}
use Rattle.command_line.specs.Lines.{IsLine}
use Rattle.command_line.proofs.OneCommand.{line_once}
use Rattle.seh.specs.declared.outcome.CommandOutcome.{CommandOutcome}
use Rattle.seh.specs.declared.outcome.CommandOutcome.TheVariants.{Compiled, Ran, Meant, Viewed, Checked}
use Rattle.seh.specs.declared.refusal.Refusal.{Refusal}
use Rattle.seh.specs.declared.refusal.Refusal.TheVariants as refusals
use Rattle.seh.specs.declared.status.Status.TheVariants as statuses
use Rattle.seh.specs.Answers.{text_limit, image_limit, Judged, FromInput, Loads, IsInputAnswer, IsCompileAnswer, IsWrittenRun, IsRunAnswer, IsImageAnswer, IsTextRunAnswer, IsShowAnswer, end_by, text_by}
use Rattle.seh.specs.Checks.{IsChecked, IsCheckAnswer, verdict_line}
use Rattle.seh.specs.CheckLaws.{DoneIsYes}
use Rattle.seh.specs.Calls.{Call, HadNoFault, Asks, Gave, WantedMemory, CompileIsComplete, RunIsComplete, MeaningIsComplete, ShowIsComplete, CheckIsComplete, ExecIsComplete, TextsHaveOneImage}
use Rattle.seh.specs.Commands.{Answers, IsAnswer, IsCommandAnswer}
use Rattle.seh.specs.Images.{IsCompiled}
use Rattle.seh.specs.Meanings.{IsProgramOf, IsMeaningAnswer, IsMeaningInputAnswer, shown_of, text_of}
use Rattle.seh.specs.Refusals.{Reported, refusal_status}
use Rattle.seh.specs.Statuses.{status_of, meaning_status, verdict_status}
use Rattle.seh.specs.Streams.{Stream, TookWhole}
use Rattle.seh.proofs.Completeness.{one_image, image_refused, load_refused}

-- ---- texts, programs and images

-- a text is one program
pub program_once : (text : List ℕ) (p q : Program) → IsProgramOf text p → IsProgramOf text q
    → p ≡ q
program_once text p q a b =
    let same = accepted_is_one text a.declarations b.declarations a.checked.accepted
    b.checked.accepted in
    a.checked.resolved ∙ ap (λ w. (resolve text w).program) same ∙ sym b.checked.resolved

pub texts_have_one_image : TextsHaveOneImage
texts_have_one_image source a b x y =
    let same = accepted_is_one source x.whole y.whole x.accepted y.accepted in
    x.linked.written
    ∙ ap (λ w. written (parts_of (linked (lowered (resolve source w).program)))) same
    ∙ sym y.linked.written

-- the image of a text loads
pub image_loads : (text image : List ℕ) → IsCompiled text image → Loads image
image_loads text image is =
    record { image = is.realises.image; is = is.realises.is; loads = is.realises.loads }

-- a function table that is read isn't refused
pub table_read : (t : Table (List Entry)) (es : List Entry) (e : TableErr) → t ≡ Ok es → t ≡ Err e
    → ⊥
table_read t es e is refused = let q : Ok es ≡ Err e = sym is ∙ refused in cc

-- ---- faults

no_fault : (a b : Stream) → HadNoFault a b → Faulted a.faults b.faults → ⊥
no_fault a b h fault =
    let one : b.faults.count ≡ min (a.faults.count + 1) last_count =
    ap (λ (f : Faults). f.count) fault in
    let below = h.counts in
    let same = h.same in
    omega (arith, one, below, same)

-- ---- what is reported

pub of_refusal : (r : Refusal) (call : Call) → HadNoFault call.err call.err_after
    → Reported (Err r) call.err call.err_after call.status → call.status ≡ refusal_status r
of_refusal r call h (inl x) = x.0
of_refusal r call h (inr y) = absurd (no_fault call.err call.err_after h y.1)

-- no refusal has the status of what was carried out
never_done : (r : Refusal) → refusal_status r ≡ statuses.Done → ⊥
never_done refusals.Usage e = cc
never_done refusals.ReadFault e = cc
never_done (refusals.TooLong limit) e = cc
never_done (refusals.Text (texts.Lex lexes.Memory)) e = cc
never_done (refusals.Text (texts.Lex x)) e = cc
never_done (refusals.Text (texts.Parse parses.Memory)) e = cc
never_done (refusals.Text (texts.Parse x)) e = cc
never_done (refusals.Text (texts.Check at fault)) e = cc
never_done (refusals.Text texts.Memory) e = cc
never_done (refusals.Image images.Memory) e = cc
never_done (refusals.Image x) e = cc
never_done (refusals.Load loads.Memory) e = cc
never_done (refusals.Load x) e = cc
never_done refusals.WriteFault e = cc
never_done refusals.NoMemory e = cc

-- what a command came to, and that it was reported; or memory was wanting
pub record Came (command : Command) (call : Call) : Type 0 where
  pub answer : Result CommandOutcome Refusal
  pub is : IsCommandAnswer command call.source call.source_after call.out call.out_after answer
  pub reported : Reported answer call.err call.err_after call.status

pub came_of : (command : Command) (call : Call)
    → Answers call.words call.source call.source_after call.out call.out_after call.err
    call.err_after call.status
    → IsLine call.words command → HadNoFault call.err call.err_after
    → WantedMemory call ⊎ Came command call
came_of command call answers line err = by answers.answer answers.reported answers.cause
  where
    by : (answer : Result CommandOutcome Refusal)
        → Reported answer call.err call.err_after call.status
        → IsAnswer call.words call.source call.source_after call.out call.out_after answer
        → WantedMemory call ⊎ Came command call
    by answer reported (inl usage) = absurd (usage.1 command line)
    by answer reported (inr (inl found)) =
        let same = line_once call.words found.0 command found.1 line in
        inr (record {
          answer = answer;
          is = subst (λ c. IsCommandAnswer c call.source call.source_after call.out
              call.out_after answer) same found.2;
          reported = reported;
        })
    by answer reported (inr (inr none)) =
        inl (of_refusal refusals.NoMemory call err
        (subst (λ a. Reported a call.err call.err_after call.status) none.0 reported))

pub came : (command : Command) (held : List ℕ) (call : Call) → Asks command held call
    → WantedMemory call ⊎ Came command call
came command held call asks = came_of command call asks.answers asks.line asks.err

-- ---- what was read

read_by : (limit : ℕ) (judged : Judged) (held : List ℕ) (a b out out' : Stream)
    (answer : Result CommandOutcome Refusal) → a.bytes ≡ Some held
    → FromInput limit judged a b out out' answer → judged held out out' answer
read_by limit judged held a b out out' answer is from =
    let same : from.bytes ≡ held = from.input.all held is in
    subst (λ (bytes : List ℕ). judged bytes out out' answer) same from.comes

-- what came of the bytes that the source held; or memory was wanting
read : (limit : ℕ) (judged : Judged) (held : List ℕ) (a b out out' : Stream)
    (answer : Result CommandOutcome Refusal) → length held ≤ limit → a.bytes ≡ Some held
    → HadNoFault a b → IsInputAnswer limit judged a b out out' answer
    → (answer ≡ Err refusals.NoMemory) ⊎ judged held out out' answer
read limit judged held a b out out' (Ok done) short is h i =
    inr (read_by limit judged held a b out out' (Ok done) is i)
read limit judged held a b out out' (Err refusals.Usage) short is h i = absurd i
read limit judged held a b out out' (Err refusals.ReadFault) short is h i =
    absurd (no_fault a b h i.0.0)
read limit judged held a b out out' (Err (refusals.TooLong most)) short is h i =
    let long : limit < length held = i.0.1 held is in
    absurd (omega (arith, long, short))
read limit judged held a b out out' (Err refusals.NoMemory) short is h i = inl refl
read limit judged held a b out out' (Err (refusals.Text e)) short is h i =
    inr (read_by limit judged held a b out out' (Err (refusals.Text e)) is i)
read limit judged held a b out out' (Err (refusals.Image e)) short is h i =
    inr (read_by limit judged held a b out out' (Err (refusals.Image e)) is i)
read limit judged held a b out out' (Err (refusals.Load e)) short is h i =
    inr (read_by limit judged held a b out out' (Err (refusals.Load e)) is i)
read limit judged held a b out out' (Err refusals.WriteFault) short is h i =
    inr (read_by limit judged held a b out out' (Err refusals.WriteFault) is i)

-- ---- each command

module _ (call : Call) (out : HadNoFault call.out call.out_after)
    (err : HadNoFault call.err call.err_after) where
  abbrev pub Tells : Result CommandOutcome Refusal → Type 0
  Tells answer = Reported answer call.err call.err_after call.status

  pub wanted : (answer : Result CommandOutcome Refusal) → answer ≡ Err refusals.NoMemory → Tells
      answer
      → WantedMemory call
  wanted answer none told = of_refusal refusals.NoMemory call err (subst Tells none told)

  text_wanted : (text : List ℕ) (whole : List ExternalDeclaration) (e : TextErr)
      → IsAccepted text whole → TextIsRefused text e → Tells (Err (refusals.Text e))
      → WantedMemory call
  text_wanted text whole e accepted refused told =
      let memory = accepted_is_not_refused text whole e accepted refused in
      of_refusal (refusals.Text e) call err told
      ∙ ap (λ x. refusal_status (refusals.Text x)) memory

  pub image_wanted : (bytes : List ℕ) (image : Image) (e : ImageErr) → IsImage bytes image
      → ImageIsRefused bytes e → Tells (Err (refusals.Image e)) → WantedMemory call
  image_wanted bytes image e is refused told =
      of_refusal (refusals.Image e) call err told
      ∙ ap (λ x. refusal_status (refusals.Image x)) (image_refused bytes image e is refused)

  pub cut : {X : Type 0} → Faulted call.out.faults call.out_after.faults → X
  cut fault = absurd (no_fault call.out call.out_after out fault)

  compiled : (text : List ℕ) (whole : List ExternalDeclaration) → IsAccepted text whole
      → (answer : Result CommandOutcome Refusal) → Tells answer
      → IsCompileAnswer text call.out call.out_after answer
      → WantedMemory call
      ⊎ ((image : List ℕ) × IsCompiled text image × Gave statuses.Done image call)
  compiled text whole accepted (Ok Compiled) told (image, is, took) =
      inr (image, is, record { ended = told.0; wrote = took.grew; silent = told.1 })
  compiled text whole accepted (Ok done) told h = absurd h
  compiled text whole accepted (Err (refusals.Text e)) told (refused, kept) =
      inl (text_wanted text whole e accepted refused told)
  compiled text whole accepted (Err refusals.WriteFault) told (image, is, off) = cut off.0
  compiled text whole accepted (Err refusals.NoMemory) told h = inl (wanted _ refl told)
  compiled text whole accepted (Err r) told h = absurd h

  -- the run of an image, of which this text is written, with this end
  module _ (text_of : List ℕ → List ℕ) (end_of : List ℕ → RunEnd) where
    abbrev GaveRun : List ℕ → Type 0
    GaveRun image = Gave (status_of (end_of image)) (text_of image) call

    pub ran : (bytes : List ℕ) → Loads bytes → (answer : Result CommandOutcome Refusal)
        → Tells answer → IsWrittenRun text_of end_of bytes call.out call.out_after answer
        → WantedMemory call ⊎ GaveRun bytes
    ran bytes loads (Ok (Ran end)) told (also, same, took) =
        inr (record { ended = told.0 ∙ ap status_of same; wrote = took.grew; silent = told.1 })
    ran bytes loads (Ok done) told h = absurd h
    ran bytes loads (Err (refusals.Image e)) told (refused, kept) =
        inl (image_wanted bytes loads.image e loads.is refused told)
    ran bytes loads (Err (refusals.Load e)) told (refused, kept) =
        inl (of_refusal (refusals.Load e) call err told
        ∙ ap (λ x. refusal_status (refusals.Load x))
        (load_refused bytes loads.image e loads.is loads.loads refused))
    ran bytes loads (Err refusals.WriteFault) told (also, off) = cut off.0
    ran bytes loads (Err r) told h = absurd h

    abbrev pub RanText : List ℕ → Type 0
    RanText text =
        WantedMemory call ⊎ ((image : List ℕ) × IsCompiled text image × GaveRun image)

    ran_image : (text : List ℕ) (answer : Result CommandOutcome Refusal) → Tells answer
        → (image : List ℕ) → IsCompiled text image
        → IsWrittenRun text_of end_of image call.out call.out_after answer → RanText text
    ran_image text answer told image is h = by (ran image (image_loads text image is) answer told h)
      where
        by : WantedMemory call ⊎ GaveRun image → RanText text
        by (inl w) = inl w
        by (inr gave) = inr (image, is, gave)

    pub ran_text : (text : List ℕ) (whole : List ExternalDeclaration) → IsAccepted text whole
        → (answer : Result CommandOutcome Refusal) → Tells answer
        → IsImageAnswer (IsWrittenRun text_of end_of) text call.out call.out_after answer
        → RanText text
    ran_text text whole accepted (Err (refusals.Text e)) told (refused, kept) =
        inl (text_wanted text whole e accepted refused told)
    ran_text text whole accepted (Err refusals.NoMemory) told h = inl (wanted _ refl told)
    ran_text text whole accepted (Ok done) told h = ran_image text (Ok done) told h.0 h.1 h.2
    ran_text text whole accepted (Err (refusals.Image e)) told h =
        ran_image text (Err (refusals.Image e)) told h.0 h.1 h.2
    ran_text text whole accepted (Err (refusals.Load e)) told h =
        ran_image text (Err (refusals.Load e)) told h.0 h.1 h.2
    ran_text text whole accepted (Err refusals.WriteFault) told h =
        ran_image text (Err refusals.WriteFault) told h.0 h.1 h.2
    ran_text text whole accepted (Err refusals.Usage) told h = absurd h.2
    ran_text text whole accepted (Err refusals.ReadFault) told h = absurd h.2
    ran_text text whole accepted (Err (refusals.TooLong most)) told h = absurd h.2

  shown : (bytes : List ℕ) (image : Image) → IsImage bytes image
      → (answer : Result CommandOutcome Refusal) → Tells answer
      → IsShowAnswer bytes call.out call.out_after answer
      → WantedMemory call ⊎ Gave statuses.Done (view image) call
  shown bytes image is (Ok Viewed) told (also, reads, took) =
      let same = one_image (reading bytes) also image reads is in
      inr (record {
        ended = told.0;
        wrote = (subst (λ i. TookWhole (view i) call.out call.out_after) same took).grew;
        silent = told.1;
      })
  shown bytes image is (Ok done) told h = absurd h
  shown bytes image is (Err (refusals.Image e)) told (refused, kept) =
      inl (image_wanted bytes image e is refused told)
  shown bytes image is (Err refusals.WriteFault) told (also, reads, off) = cut off.0
  shown bytes image is (Err r) told h = absurd h

  abbrev CheckedAs : Image → Type 0
  CheckedAs image =
      (verdict : Verdict) × IsImageVerdict image CHECK_STACK verdict
      × Gave (verdict_status verdict) (verdict_line verdict) call

  checked : (bytes : List ℕ) (image : Image) (entries : List Entry) → IsImage bytes image
      → tables image ≡ Ok entries → (answer : Result CommandOutcome Refusal) → Tells answer
      → IsCheckAnswer bytes call.out call.out_after answer
      → WantedMemory call ⊎ CheckedAs image
  checked bytes image entries is whole (Ok (Checked verdict)) told (found, took) =
      let same = one_image (reading bytes) found.image image found.is is in
      let comes : IsImageVerdict image CHECK_STACK verdict =
      subst (λ (i : Image). IsImageVerdict i CHECK_STACK verdict) same found.comes in
      inr (verdict, comes, record { ended = told.0; wrote = took.grew; silent = told.1 })
  checked bytes image entries is whole (Ok done) told h = absurd h
  checked bytes image entries is whole (Err (refusals.Image e)) told (refused, kept) =
      inl (image_wanted bytes image e is refused told)
  checked bytes image entries is whole (Err (refusals.Load (loads.Table e))) told (found, kept) =
      let same = one_image (reading bytes) found.image image found.is is in
      let refused : tables image ≡ Err e =
      subst (λ (i : Image). tables i ≡ Err e) same found.refused in
      absurd (table_read (tables image) entries e whole refused)
  checked bytes image entries is whole (Err (refusals.Load e)) told h = absurd h.0
  checked bytes image entries is whole (Err refusals.WriteFault) told (v, found, off) =
      cut off.0
  checked bytes image entries is whole (Err refusals.NoMemory) told h = inl (wanted _ refl told)
  checked bytes image entries is whole (Err r) told h = absurd h.0

  said_yes : (bytes : List ℕ) → call.status ≡ statuses.Done
      → (answer : Result CommandOutcome Refusal) → Tells answer
      → IsCheckAnswer bytes call.out call.out_after answer
      → WantedMemory call ⊎ ((n : ℕ) × IsChecked bytes (Yes n))
  said_yes bytes done (Ok (Checked (Yes n))) told (found, took) = inr (n, found)
  said_yes bytes done (Ok (Checked (No k f))) told h =
      let q : statuses.Done ≡ statuses.No = sym done ∙ told.0 in cc
  said_yes bytes done (Ok other) told h = absurd h
  said_yes bytes done (Err r) told h =
      absurd (never_done r (sym (of_refusal r call err told) ∙ done))

  abbrev MeantBy : RunOptions → Program → Type 0
  MeantBy options p =
      Gave (meaning_status (meanings.ended_within options.turns (shown_of options p).end))
      (text_of options p) call

  meant : (options : RunOptions) (text : List ℕ) (p : Program) → IsProgramOf text p
      → (answer : Result CommandOutcome Refusal) → Tells answer
      → IsMeaningAnswer options text call.out call.out_after answer
      → WantedMemory call ⊎ MeantBy options p
  meant options text p is (Ok (Meant ended)) told (also, reads, same, took) =
      let gave : MeantBy options also = record {
        ended = told.0 ∙ ap meaning_status same;
        wrote = took.grew;
        silent = told.1;
      } in
      inr (subst (MeantBy options) (program_once text also p reads is) gave)
  meant options text p is (Ok done) told h = absurd h
  meant options text p is (Err (refusals.Text e)) told (refused, kept) =
      inl (text_wanted text is.declarations e is.checked.accepted refused told)
  meant options text p is (Err refusals.WriteFault) told (also, reads, off) = cut off.0
  meant options text p is (Err refusals.NoMemory) told h = inl (wanted _ refl told)
  meant options text p is (Err r) told h = absurd h

-- ---- completeness

-- a command that reads its input and judges it: what came of what the source held
pub judged_by : {X : Type 0} (limit : ℕ) (judged : Judged) (held : List ℕ) (call : Call)
    → HadNoFault call.source call.source_after → HadNoFault call.err call.err_after
    → call.source.bytes ≡ Some held → length held ≤ limit
    → (answer : Result CommandOutcome Refusal)
    → Reported answer call.err call.err_after call.status
    → IsInputAnswer limit judged call.source call.source_after call.out call.out_after answer
    → (judged held call.out call.out_after answer → WantedMemory call ⊎ X) → WantedMemory call ⊎ X
judged_by {X = X} limit judged held call source err holds short answer told is next =
    by (read limit judged held call.source call.source_after call.out call.out_after answer short
    holds source is)
  where
    by : (answer ≡ Err refusals.NoMemory) ⊎ judged held call.out call.out_after answer
        → WantedMemory call ⊎ X
    by (inl none) = inl (of_refusal refusals.NoMemory call err
        (subst (λ a. Reported a call.err call.err_after call.status) none told))
    by (inr h) = next h

pub compile_is_complete : CompileIsComplete
compile_is_complete source whole call short accepted asks = by (came Compile source call asks)
  where
    by : WantedMemory call ⊎ Came Compile call → WantedMemory call
        ⊎ ((image : List ℕ) × IsCompiled source image × Gave statuses.Done image call)
    by (inl w) = inl w
    by (inr c) = judged_by text_limit IsCompileAnswer source call asks.source asks.err asks.holds
        short c.answer c.reported c.is
        (compiled call asks.out asks.err source whole accepted c.answer c.reported)

pub run_is_complete : RunIsComplete
run_is_complete source whole options call short accepted asks =
    by (came (Run options) source call asks)
  where
    by : WantedMemory call ⊎ Came (Run options) call
        → RanText call asks.out asks.err (text_by options) (end_by options) source
    by (inl w) = inl w
    by (inr c) = judged_by text_limit (IsTextRunAnswer options) source call asks.source asks.err
        asks.holds short c.answer c.reported c.is
        (ran_text call asks.out asks.err (text_by options) (end_by options) source whole accepted
        c.answer c.reported)

pub exec_is_complete : ExecIsComplete
exec_is_complete bytes options call short loads asks = by (came (Exec options) bytes call asks)
  where
    by : WantedMemory call ⊎ Came (Exec options) call → WantedMemory call
        ⊎ Gave (status_of (end_by options bytes)) (text_by options bytes) call
    by (inl w) = inl w
    by (inr c) = judged_by image_limit (IsRunAnswer options) bytes call asks.source asks.err
        asks.holds short c.answer c.reported c.is
        (ran call asks.out asks.err (text_by options) (end_by options) bytes loads c.answer
        c.reported)

pub check_is_complete : CheckIsComplete
check_is_complete bytes image entries call short is whole asks =
    by (came (Check Whole) bytes call asks)
  where
    by : WantedMemory call ⊎ Came (Check Whole) call
        → WantedMemory call ⊎ CheckedAs call asks.out asks.err image
    by (inl w) = inl w
    by (inr c) = judged_by image_limit IsCheckAnswer bytes call asks.source asks.err asks.holds
        short c.answer c.reported c.is
        (checked call asks.out asks.err bytes image entries is whole c.answer c.reported)

pub done_is_yes : DoneIsYes
done_is_yes bytes call short asks done = by (came (Check Whole) bytes call asks)
  where
    sure : WantedMemory call ⊎ ((n : ℕ) × IsChecked bytes (Yes n))
        → (n : ℕ) × IsChecked bytes (Yes n)
    sure (inl w) = let q : statuses.Done ≡ statuses.NoMemory = sym done ∙ w in cc
    sure (inr found) = found

    by : WantedMemory call ⊎ Came (Check Whole) call → (n : ℕ) × IsChecked bytes (Yes n)
    by (inl w) = sure (inl w)
    by (inr c) = sure (judged_by image_limit IsCheckAnswer bytes call asks.source asks.err
        asks.holds short c.answer c.reported c.is
        (said_yes call asks.out asks.err bytes done c.answer c.reported))

pub show_is_complete : ShowIsComplete
show_is_complete bytes image call short is asks = by (came Show bytes call asks)
  where
    by : WantedMemory call ⊎ Came Show call
        → WantedMemory call ⊎ Gave statuses.Done (view image) call
    by (inl w) = inl w
    by (inr c) = judged_by image_limit IsShowAnswer bytes call asks.source asks.err asks.holds short
        c.answer c.reported c.is
        (shown call asks.out asks.err bytes image is c.answer c.reported)

pub meaning_is_complete : MeaningIsComplete
meaning_is_complete source p options call short is asks =
    by (came (Meaning options) source call asks)
  where
    told : (answer : Result CommandOutcome Refusal)
        → Reported answer call.err call.err_after call.status
        → IsInputAnswer text_limit (IsMeaningAnswer options) call.source call.source_after call.out
        call.out_after answer
        → WantedMemory call ⊎ MeantBy call asks.out asks.err options p
    told answer reported h =
        judged_by text_limit (IsMeaningAnswer options) source call asks.source asks.err asks.holds
        short answer reported h
        (meant call asks.out asks.err options source p is answer reported)

    from : (answer : Result CommandOutcome Refusal)
        → Reported answer call.err call.err_after call.status
        → IsMeaningInputAnswer options call.source call.source_after call.out call.out_after answer
        → WantedMemory call ⊎ MeantBy call asks.out asks.err options p
    from (Ok done) reported h = told (Ok done) reported h
    from (Err refusals.NoMemory) reported h = inl (of_refusal refusals.NoMemory call asks.err
        reported)
    from (Err refusals.Usage) reported h = told (Err refusals.Usage) reported h
    from (Err refusals.ReadFault) reported h = told (Err refusals.ReadFault) reported h
    from (Err (refusals.TooLong most)) reported h = told (Err (refusals.TooLong most)) reported h
    from (Err (refusals.Text e)) reported h = told (Err (refusals.Text e)) reported h
    from (Err (refusals.Image e)) reported h = told (Err (refusals.Image e)) reported h
    from (Err (refusals.Load e)) reported h = told (Err (refusals.Load e)) reported h
    from (Err refusals.WriteFault) reported h = told (Err refusals.WriteFault) reported h

    by : WantedMemory call ⊎ Came (Meaning options) call → WantedMemory call ⊎ MeantBy call asks.out
        asks.err options p
    by (inl w) = inl w
    by (inr c) = from c.answer c.reported c.is
