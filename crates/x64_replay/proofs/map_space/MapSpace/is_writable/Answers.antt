use Rattle.std.proofs.Common.{sym, ◌∙◌}
use Rattle.x64_replay.specs.PageTrees.{pages_of}
use Rattle.x64_replay.proofs.Trees.{unmapped_writable, page_writable}
use Rattle.x64_replay.proofs.map_space.MapSpace.is_writable.Goals as goal

pub returns-in-None : goal.returns-in-None
returns-in-None c = sym (unmapped_writable (pages_of c.args.self.now.pages) c.args.at
    (sym c.in-None.ensures.value))

pub returns-in-Some : goal.returns-in-Some
returns-in-Some c = c.is_writable.ensures
    ∙ sym (page_writable (pages_of c.args.self.now.pages) c.in-Some.page.now c.args.at
    (sym c.in-Some.ensures.value))
