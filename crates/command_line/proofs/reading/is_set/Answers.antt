use Rattle.std.proofs.Common.{◌∙◌, ℕ, List, Option, codes, Bool, false, ap}
use Rattle.std.specs.Option.{option_map_or}
use Rattle.std.specs.Str.{bytes_eq}
use Rattle.clap.specs.Words.{found_of}
use Rattle.clap.proofs.WalkLemmas.{first_value-rows}
use Rattle.command_line.proofs.reading.is_set.Goals as goal

abbrev says_true : Option (List ℕ) → Bool
says_true o = option_map_or (λ t. bytes_eq t (codes "true")) o false

pub returns-in-Some : goal.returns-in-Some
returns-in-Some c =
    c.eq.ensures ∙ ap says_true (c.in-Some.ensures
    ∙ first_value-rows (found_of c.args.matches.now) c.args.name.now)

pub returns-in-None : goal.returns-in-None
returns-in-None c =
    ap says_true (c.in-None.ensures
    ∙ first_value-rows (found_of c.args.matches.now) c.args.name.now)
