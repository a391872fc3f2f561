-- What compiling and running come to together.
use Rattle.std.specs.Prelude.{◌≡◌, ℕ, ◌+◌, ◌*◌, ◌^◌, ◌<◌, ◌≤◌, true, List, ◌++◌, pos, Option, Some, None}
use Rattle.seh_num.specs.declared.end.RunEnd.{RunEnd}
use Rattle.seh_num.specs.Shown.{Shown}
use Rattle.seh_io.specs.Text.{lines, text}
use Rattle.source_meaning.specs.declared.ended.Ended.{Ended}
use Rattle.host_model.specs.Laws.{Covers}
use Rattle.host_model.specs.Machine.{machine}
use Rattle.source_meaning.specs.Meaning.{meaning, Calm}
use Rattle.c_resolved.specs.Program.{resolve}
use Rattle.c_meaning.specs.FunctionNames.{names_of}
use Rattle.match_runs.specs.Ends.{run_end, run_end_of}
use Rattle.match_runs.specs.Laws.{ShowsNoMore}
use Rattle.image_runs.specs.ShadowWalks.{WalksTheShadow}
use Rattle.command_line.specs.declared.command.RunOptions.{RunOptions}
use Rattle.seh.specs.Answers.{shown_by, end_by, text_by}
use Rattle.seh.specs.Images.{steps_per_turn, IsCompiled}
use Rattle.seh.specs.Statuses.{status_of, meaning_status}

-- options with this argument, and with 256 turns for each of n steps and as many again
pub record AreEnough (options : RunOptions) (arg n : ℕ) : Type 0 where
  pub argument : options.argument ≡ pos arg
  pub turns : 256 * n + 256 ≤ options.turns

-- a run of the image with these options shows the events of a meaning first, and its text begins
-- with their lines, which have the names of the program's functions; where the meaning has an end
-- that runs have, the run has this end, with its status, and its text is that of the meaning
pub record ShowsMeaning (meant : Shown Ended) (names : ℕ → Option (List ℕ)) (image : List ℕ)
    (options : RunOptions) : Type 0 where
  pub covers : Covers meant.events (run_end_of meant.end) (shown_by options image)
  pub begins : (rest : List ℕ)
      × (text_by options image ≡ lines options.trace meant.events names ++ rest)
  pub ended : (e : RunEnd) → run_end_of meant.end ≡ Some e → end_by options image ≡ e
  pub whole : (e : RunEnd) → run_end_of meant.end ≡ Some e
      → text_by options image ≡ text meant.events e options.trace names
  pub status :
      (ended : Ended) (e : RunEnd) → meant.end ≡ Some ended → run_end ended ≡ Some e
      → status_of (end_by options image) ≡ meaning_status ended

-- what a compiled program shows when it is run is what its text means
abbrev pub Headline : Type 0
Headline =
    (source image : List ℕ) (compiled : IsCompiled source image)
    → let program = (resolve source compiled.whole).program in
    (options : RunOptions) (arg n : ℕ)
    → arg < 2 ^ 63 → AreEnough options arg n
    → ShowsMeaning (meaning program (pos arg) n) (names_of program) image options

-- and nothing more: a run shows no event and has no end that the program hasn't within so many
-- steps, where these touch no reserved byte and aren't too deep
abbrev pub NothingMore : Type 0
NothingMore =
    (source image : List ℕ) (compiled : IsCompiled source image)
    → let program = (resolve source compiled.whole).program in
    (options : RunOptions) (arg n : ℕ)
    → arg < 2 ^ 63 → options.argument ≡ pos arg → (options.turns + 1) * steps_per_turn source ≤ n
    → Calm program (pos arg) n ≡ true
    → ShowsNoMore (meaning program (pos arg) n) (shown_by options image)

-- at every turn of a run that isn't an end, the walk over the stack gives exactly the shadow, entry
-- by entry, and then RIP 0; as far as NothingMore speaks of the run
abbrev pub Walks : Type 0
Walks =
    (source image : List ℕ) (compiled : IsCompiled source image)
    → let program = (resolve source compiled.whole).program in
    (arg turns n : ℕ)
    → arg < 2 ^ 63 → (turns + 1) * steps_per_turn source ≤ n → Calm program (pos arg) n ≡ true
    → (machine image (pos arg) turns).end ≡ None → WalksTheShadow image (pos arg) turns
