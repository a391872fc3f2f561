-- The text of a program's meaning: a line for each event that is shown, and one for the end.
--
-- The main definition: `text`.
use Rattle.std.specs.Prelude.{◌≡◌, ℕ, Bool, List, ◌++◌, codes, Option, Some, None}
use Rattle.std.specs.Fmt.{decimal, signed_decimal}
use Rattle.seh_num.specs.Shown.{Shown}
use Rattle.seh_io.specs.Streams.{Faults, Faultless, Faulted, Grew}
use Rattle.seh_io.specs.Text.{code_text, address_text, ended, lines}
use Rattle.seh_io.specs.Writer.{TookPart}
use Rattle.source_meaning.specs.declared.ended.Ended.{Ended}
use Rattle.source_meaning.specs.declared.ended.Ended.TheVariants.{Exit, Unhandled, Undefined, Deep}
use Rattle.source_meaning.specs.declared.ended.Ended.TheVariants.{OutOfSteps}
use Rattle.c_meaning.specs.declared.interpret.MeanErr.{MeanErr}
use Rattle.c_meaning.specs.declared.interpret.MeanErr.TheVariants.{Write, Memory}

abbrev pub ended_text : Ended → List ℕ
ended_text (Exit v) = codes "exit " ++ signed_decimal v
ended_text (Unhandled code) = codes "unhandled " ++ code_text code
ended_text (Undefined address) = codes "undefined " ++ address_text address
ended_text (Deep depth) = codes "deep " ++ decimal depth
ended_text (OutOfSteps steps) = codes "out of steps " ++ decimal steps

abbrev pub ended_line : Ended → List ℕ
ended_line e = ended (ended_text e)

-- no end within so many steps is out of them
abbrev pub ended_within : ℕ → Option Ended → Ended
ended_within steps None = OutOfSteps steps
ended_within steps (Some e) = e

-- the lines of the events, with the names of functions, and one for the end. That is `exit V`,
-- `unhandled C`, `undefined A`, `deep D`, or `out of steps N` where there is no end within N steps.
abbrev pub text : Bool → ℕ → Shown Ended → (ℕ → Option (List ℕ)) → List ℕ
text trace steps shown names =
    lines trace shown.events names ++ ended_line (ended_within steps shown.end)

-- after a fault, and where memory is wanting, the sink took a part of the text from the front
abbrev pub TookFront : MeanErr → Option (List ℕ) → List ℕ → Option (List ℕ) → Type 0
TookFront (Write taken) before text after = TookPart before text after taken
TookFront Memory before text after =
    (part : List ℕ) × ((rest : List ℕ) × (text ≡ part ++ rest)) × Grew before part after

-- a write that failed was the last one; where memory is wanting none failed
abbrev pub MeaningHasCause : MeanErr → Faults → Faults → Type 0
MeaningHasCause (Write taken) faults faults' = Faulted faults faults'
MeaningHasCause Memory faults faults' = Faultless faults faults'
