-- The lines of the command set, and what each means.
--
-- The main definitions: `seh_app`, `IsLine`, `IsNoLine`.
use Rattle.std.specs.Prelude.{◌≡◌, ℕ, ◌^◌, ◌<◌, Bool, true, false, List, [], pos, Option, Some, None, codes}
use Rattle.std.specs.Fmt.{decimal}
use Rattle.std.specs.Option.{option_map_or}
use Rattle.std.specs.Str.{bytes_eq}
use Rattle.clap.specs.Words.{App, Row, Rule, Text, fault_of, first_of, new_app, new_rule, subcommand_of, with_rule, with_subcommand}
use Rattle.clap.specs.Simple.{on_top}
use Rattle.clap.specs.declared.builder.action.ArgAction.TheVariants.{Set, SetTrue}
use Rattle.command_line.specs.declared.command.Command.{Command}
use Rattle.command_line.specs.declared.command.Command.TheVariants.{Compile, Exec, Run, Meaning, Show, Check, Selftest}
use Rattle.command_line.specs.declared.command.CheckReport.{CheckReport}
use Rattle.command_line.specs.declared.command.CheckReport.TheVariants.{Whole, Each}
use Rattle.command_line.specs.declared.command.RunOptions.{RunOptions}
use Rattle.command_line.specs.declared.reading.TheConstants.{DEFAULT_TURNS}

-- ---- the commands as `clap` reads them

-- `compile` and `show`; `check` with `--each`; `exec`, `run` and `meaning` with `--turns N`,
-- `--arg N` and `--trace`; each option at most once and in any order; and `selftest N`

abbrev pub number_option : Text → Rule
number_option name = record (new_rule name) { long = Some name; action = Some Set }

abbrev pub flag : Text → Rule
flag name = record (new_rule name) { long = Some name; action = Some SetTrue }

-- a word that has to be there, and has no name
abbrev pub required_word : Text → Rule
required_word name = record (new_rule name) { required = true; action = Some Set }

abbrev pub compile_app : App
compile_app = new_app (codes "compile")

abbrev pub show_app : App
show_app = new_app (codes "show")

abbrev pub check_app : App
check_app = with_rule (new_app (codes "check")) (flag (codes "each"))

-- a command that takes the options of a run
abbrev pub run_app_named : Text → App
run_app_named name =
    with_rule (with_rule (with_rule (new_app name) (number_option (codes "turns")))
    (number_option (codes "arg"))) (flag (codes "trace"))

abbrev pub exec_app : App
exec_app = run_app_named (codes "exec")

abbrev pub run_app : App
run_app = run_app_named (codes "run")

abbrev pub meaning_app : App
meaning_app = run_app_named (codes "meaning")

abbrev pub selftest_app : App
selftest_app = with_rule (new_app (codes "selftest")) (required_word (codes "number"))

-- the words after the program's name are a command, and none of them asks for help or a version
abbrev pub bare_app : App
bare_app =
    on_top (λ s. record s {
      no_binary_name = true;
      disable_help_flag = true;
      disable_help_subcommand = true;
      disable_version_flag = true;
      subcommand_required = true;
    })
    (new_app (codes "seh"))

-- the commands and options as `clap` is given them
abbrev pub seh_app : App
seh_app =
    with_subcommand (with_subcommand (with_subcommand (with_subcommand (with_subcommand
    (with_subcommand (with_subcommand bare_app compile_app.top) show_app.top) check_app.top)
    exec_app.top) run_app.top) meaning_app.top) selftest_app.top

-- ---- what a line means

-- the number that an option gives, as it is written in decimal digits with no sign and no leading
-- zero; another one where the option isn't there
abbrev pub IsNumber : ℕ → Option Text → ℕ → Type 0
IsNumber other None n = n ≡ other
IsNumber other (Some text) n = (text ≡ decimal n) × (n < 2 ^ 63)

-- an option without a value is there
abbrev pub is_set : Text → List Row → Bool
is_set name rows = option_map_or (λ t. bytes_eq t (codes "true")) (first_of name rows) false

pub record HasOptions (options : RunOptions) (rows : List Row) : Type 0 where
  pub turns : IsNumber DEFAULT_TURNS (first_of (codes "turns") rows) options.turns
  pub argument : (n : ℕ) × IsNumber 0 (first_of (codes "arg") rows) n × (options.argument ≡ pos n)
  pub trace : options.trace ≡ is_set (codes "trace") rows

-- a line for each entry is asked for by `--each`
abbrev pub HasReport : CheckReport → List Row → Type 0
HasReport Whole rows = is_set (codes "each") rows ≡ false
HasReport Each rows = is_set (codes "each") rows ≡ true

-- the number of a generated program is the word after the command, written in the same way
abbrev pub HasNumber : ℕ → List Row → Type 0
HasNumber n rows = (first_of (codes "number") rows ≡ Some (decimal n)) × (n < 2 ^ 63)

abbrev pub IsNamedBy : Command → Text × List Row → Type 0
IsNamedBy Compile x = x.0 ≡ codes "compile"
IsNamedBy Show x = x.0 ≡ codes "show"
IsNamedBy (Check report) x = (x.0 ≡ codes "check") × HasReport report x.1
IsNamedBy (Exec options) x = (x.0 ≡ codes "exec") × HasOptions options x.1
IsNamedBy (Run options) x = (x.0 ≡ codes "run") × HasOptions options x.1
IsNamedBy (Meaning options) x = (x.0 ≡ codes "meaning") × HasOptions options x.1
IsNamedBy (Selftest n) x = (x.0 ≡ codes "selftest") × HasNumber n x.1

-- `clap` finds no fault in the words, and the subcommand that it finds names the command with its
-- options. A number is the text that is written of it in decimal, below 2^63.
abbrev pub IsLine : List Text → Command → Type 0
IsLine words command =
    (fault_of seh_app words ≡ []) × ((x : Text × List Row) × (subcommand_of seh_app words ≡ Some x)
    × IsNamedBy command x)

-- they mean no command
abbrev pub IsNoLine : List Text → Type 0
IsNoLine words = (command : Command) → IsLine words command → ⊥
