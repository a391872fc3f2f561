-- What comes of an image that is checked: the verdict on its function table, and its line.
--
-- The main definitions: `IsChecked`, `verdict_line`, `IsCheckAnswer`.
use Rattle.std.specs.Prelude.{◌≡◌, ℕ, List, ◌++◌, codes, Ok, Err}
use Rattle.std.specs.Fmt.{decimal}
use Rattle.seh_io.specs.Text.{hexadecimal, ended}
use Rattle.pe_image.specs.Image.{Image}
use Rattle.pe_image.specs.Reading.{IsImage, ImageIsRefused}
use Rattle.eh_tables.specs.declared.refusal.TableErr.{TableErr}
use Rattle.eh_tables.specs.Tables.{tables}
use Rattle.host_model.specs.declared.refusal.LoadErr.TheVariants as loads
use Rattle.image_code.specs.Verdicts.{IsImageVerdict}
use Rattle.unwind_check.specs.declared.rule.Rule.{Rule}
use Rattle.unwind_check.specs.declared.rule.Rule.TheVariants as rules
use Rattle.unwind_check.specs.declared.rule.Verdict.{Verdict}
use Rattle.unwind_check.specs.declared.rule.Verdict.TheVariants.{Yes, No}
use Rattle.x64_emit.specs.declared.entry.TheConstants.{CHECK_STACK}
use Rattle.seh.specs.declared.outcome.CommandOutcome.TheVariants.{Checked}
use Rattle.seh.specs.declared.refusal.Refusal.{Refusal}
use Rattle.seh.specs.declared.refusal.Refusal.TheVariants as refusals
use Rattle.seh.specs.declared.verdict.TheConstants.{RVA_DIGITS}
use Rattle.seh.specs.Streams.{TookWhole}
use Rattle.seh.specs.Answers.{Unwritten, IsCutOff, Judged}

-- ---- the line

abbrev pub unwind_rule_name : Rule → List ℕ
unwind_rule_name rules.Decode = codes "Decode"
unwind_rule_name rules.Chain = codes "Chain"
unwind_rule_name rules.Codes = codes "Codes"
unwind_rule_name rules.Prologue = codes "Prologue"
unwind_rule_name rules.StackWrite = codes "StackWrite"
unwind_rule_name rules.Unsaved = codes "Unsaved"
unwind_rule_name rules.Epilogue = codes "Epilogue"

-- how many entries there are; or the index of the first entry in which a rule fails, the address of
-- the boundary, relative to the image base, and the rule
abbrev pub verdict_text : Verdict → List ℕ
verdict_text (Yes n) = codes "yes " ++ decimal n
verdict_text (No k fault) =
    codes "no " ++ decimal k ++ codes " " ++ hexadecimal RVA_DIGITS fault.at ++ codes " "
    ++ unwind_rule_name fault.rule

-- `yes N`, or `no INDEX RVA RULE`
abbrev pub verdict_line : Verdict → List ℕ
verdict_line verdict = ended (verdict_text verdict)

-- ---- the verdict

-- the bytes are an image whose function table is read whole, and this is the verdict on it; its
-- code is taken as its file has it, so that it need not have a place in memory
pub record IsChecked (bytes : List ℕ) (verdict : Verdict) : Type 0 where
  pub image : Image
  pub is : IsImage bytes image
  pub comes : IsImageVerdict image CHECK_STACK verdict

-- the bytes are an image whose function table is refused
pub record IsRefusedTable (bytes : List ℕ) (e : TableErr) : Type 0 where
  pub image : Image
  pub is : IsImage bytes image
  pub refused : tables image ≡ Err e

-- why there is no verdict: the first check of the image that fails, or that of its function table;
-- or want of memory
abbrev pub IsCheckRefusal : List ℕ → Refusal → Type 0
IsCheckRefusal bytes (refusals.Image e) = ImageIsRefused bytes e
IsCheckRefusal bytes (refusals.Load (loads.Table e)) = IsRefusedTable bytes e
IsCheckRefusal bytes refusals.NoMemory = Unit {0}
IsCheckRefusal bytes r = ⊥

-- what comes of an image's bytes: the verdict's whole line; why there is none; or a part of the
-- line, where the sink had a fault
abbrev pub IsCheckAnswer : Judged
IsCheckAnswer bytes out out' (Ok (Checked verdict)) =
    IsChecked bytes verdict × TookWhole (verdict_line verdict) out out'
IsCheckAnswer bytes out out' (Err refusals.WriteFault) =
    (verdict : Verdict) × IsChecked bytes verdict × IsCutOff (verdict_line verdict) out out'
IsCheckAnswer bytes out out' (Err r) = IsCheckRefusal bytes r × Unwritten out out'
IsCheckAnswer bytes out out' answer = ⊥
