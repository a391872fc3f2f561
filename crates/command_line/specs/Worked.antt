-- Lines that are written out.
use Rattle.std.specs.Prelude.{true, false, [], ◌∷◌, pos, codes}
use Rattle.command_line.specs.declared.command.Command.TheVariants.{Compile, Exec, Run, Meaning, Show, Check, Selftest}
use Rattle.command_line.specs.declared.command.CheckReport.TheVariants.{Whole, Each}
use Rattle.command_line.specs.Lines.{IsLine, IsNoLine}

abbrev pub CompileAlone : Type 0
CompileAlone = IsLine (codes "compile" ∷ []) Compile

abbrev pub ShowAlone : Type 0
ShowAlone = IsLine (codes "show" ∷ []) Show

abbrev pub CheckAlone : Type 0
CheckAlone = IsLine (codes "check" ∷ []) (Check Whole)

abbrev pub CheckOfEach : Type 0
CheckOfEach = IsLine (codes "check" ∷ codes "--each" ∷ []) (Check Each)

abbrev pub EachTwice : Type 0
EachTwice = IsNoLine (codes "check" ∷ codes "--each" ∷ codes "--each" ∷ [])

abbrev pub ExecAlone : Type 0
ExecAlone =
    IsLine (codes "exec" ∷ []) (Exec (record { turns = 10000000; argument = pos 0; trace = false }))

abbrev pub ExecWithAll : Type 0
ExecWithAll =
    IsLine (codes "exec" ∷ codes "--trace" ∷ codes "--arg" ∷ codes "9" ∷ codes "--turns" ∷ codes "0"
    ∷ []) (Exec (record { turns = 0; argument = pos 9; trace = true }))

abbrev pub RunWithTurns : Type 0
RunWithTurns =
    IsLine (codes "run" ∷ codes "--turns" ∷ codes "7" ∷ [])
    (Run (record { turns = 7; argument = pos 0; trace = false }))

abbrev pub MeaningWithTrace : Type 0
MeaningWithTrace =
    IsLine (codes "meaning" ∷ codes "--trace" ∷ [])
    (Meaning (record { turns = 10000000; argument = pos 0; trace = true }))

abbrev pub SelftestOfOne : Type 0
SelftestOfOne = IsLine (codes "selftest" ∷ codes "1" ∷ []) (Selftest 1)

abbrev pub SelftestOfNone : Type 0
SelftestOfNone = IsNoLine (codes "selftest" ∷ [])
