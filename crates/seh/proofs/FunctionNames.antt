-- The image of a text has the names of its functions where one of these names `walk`.
use Rattle.std.proofs.Common.{ℕ, List, Option, ap, ◌∙◌}
use Rattle.c_resolved.specs.Program.{resolve}
use Rattle.c_resolved.proofs.SoundPrograms.{accepted_is_sound}
use Rattle.image_runs.proofs.WalkEvents.{meanings_walk_by_calls}
use Rattle.named_walks.proofs.ProgramWalks.{walks_are_named}
use Rattle.seh.specs.FunctionNames.{NamesAreThere, OthersShowNoWalk}
use Rattle.seh.proofs.Headline.{named}

pub names_are_there : NamesAreThere
names_are_there source image compiled names number =
    let program = (resolve source compiled.whole).program in
    ap (λ (f : ℕ → Option (List ℕ)). f number)
    (named source image compiled (walks_are_named program ∙ names))

pub others_show_no_walk : OthersShowNoWalk
others_show_no_walk source image compiled none arg n =
    let program = (resolve source compiled.whole).program in
    let a = compiled.accepted in
    let sound = accepted_is_sound source compiled.whole a.read.within a.rules in
    meanings_walk_by_calls program sound (walks_are_named program ∙ none) arg n
