-- The verdict on an image, and how C sees it.
--
-- The main definition: `VerdictAnswers`.
use Rattle.std.specs.Prelude.{◌≡◌, ◌⊎◌, ℕ, List, Ok, Err}
use Rattle.pe_image.specs.declared.image_layout.ImageLayout.{ImageLayout}
use Rattle.pe_image.specs.Image.{Image}
use Rattle.eh_tables.specs.declared.refusal.TableErr.{TableErr}
use Rattle.eh_tables.specs.Tables.{tables}
use Rattle.image_code.specs.Verdicts.{IsImageVerdict}
use Rattle.unwind_check.specs.declared.rule.Rule.{Rule}
use Rattle.unwind_check.specs.declared.rule.Rule.TheVariants as rules
use Rattle.unwind_check.specs.declared.rule.Verdict.{Verdict}
use Rattle.unwind_check.specs.declared.rule.Verdict.TheVariants.{Yes, No}
use Rattle.seh_views.specs.declared.c_types.SehStatus.{SehStatus}
use Rattle.seh_views.specs.declared.c_types.SehVerdict.{SehVerdict}
use Rattle.seh_views.specs.declared.codes.TheConstants.{RULE_NONE, RULE_DECODE, RULE_CHAIN, RULE_CODES, RULE_PROLOGUE, RULE_STACK_WRITE, RULE_UNSAVED, RULE_EPILOGUE}
use Rattle.seh_views.specs.declared.refusal.Refusal.{Refusal}
use Rattle.seh_views.specs.declared.refusal.Refusal.TheVariants as refusals
use Rattle.seh_views.specs.Openings.{Gives, opened_whole}
use Rattle.seh_views.specs.Statuses.{ok, refusal_status}

abbrev pub rule_code : Rule → ℕ
rule_code rules.Decode = RULE_DECODE
rule_code rules.Chain = RULE_CHAIN
rule_code rules.Codes = RULE_CODES
rule_code rules.Prologue = RULE_PROLOGUE
rule_code rules.StackWrite = RULE_STACK_WRITE
rule_code rules.Unsaved = RULE_UNSAVED
rule_code rules.Epilogue = RULE_EPILOGUE

abbrev pub c_verdict : Verdict → SehVerdict
c_verdict (Yes n) = record { entry = n; at = 0; rule = RULE_NONE }
c_verdict (No k fault) = record { entry = k; at = fault.at; rule = rule_code fault.rule }

-- the bytes are an image whose imports and function table are read whole, and this is the verdict
pub record IsValidated (layout : ImageLayout) (bytes probe : List ℕ) (verdict : Verdict) : Type 0
  where
    pub image : Image
    pub is : opened_whole layout bytes ≡ Ok image
    pub comes : IsImageVerdict image probe verdict

-- the bytes are an image whose function table is refused
pub record IsRefusedTable (layout : ImageLayout) (bytes : List ℕ) (e : TableErr) : Type 0 where
  pub image : Image
  pub is : opened_whole layout bytes ≡ Ok image
  pub refused : tables image ≡ Err e

-- why there is no verdict; a want of memory says nothing of the bytes
abbrev pub IsUnvalidated : ImageLayout → List ℕ → Refusal → Type 0
IsUnvalidated layout bytes (refusals.Table e) = IsRefusedTable layout bytes e
IsUnvalidated layout bytes r = Gives {A = Image} (Err r) (opened_whole layout bytes)

-- a call that gives the verdict, and one that writes nothing
pub record GivesVerdict (layout : ImageLayout) (bytes probe : List ℕ) (new : SehVerdict)
    (given : SehStatus) : Type 0 where
  pub verdict : Verdict
  pub is : IsValidated layout bytes probe verdict
  pub status : given ≡ ok
  pub written : new ≡ c_verdict verdict

pub record GivesNone (layout : ImageLayout) (bytes : List ℕ) (old new : SehVerdict)
    (given : SehStatus) : Type 0 where
  pub refusal : Refusal
  pub is : IsUnvalidated layout bytes refusal
  pub status : given ≡ refusal_status refusal
  pub kept : new ≡ old

-- what `seh_check` returns and writes: the verdict, by `IsImageVerdict` on the image that the
-- bytes are read as (`IsValidated`), or why there is none, with nothing written (`IsUnvalidated`)
abbrev pub VerdictAnswers : ImageLayout → List ℕ → List ℕ → SehVerdict → SehVerdict → SehStatus
    → Type 0
VerdictAnswers layout bytes probe old new given =
    GivesVerdict layout bytes probe new given ⊎ GivesNone layout bytes old new given
