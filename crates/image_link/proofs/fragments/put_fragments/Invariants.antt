use Rattle.std.proofs.Common.{◌≡◌, ◌++◌, map, drop}
use Rattle.image_link.specs.Words.{fragment}
use Rattle.image_link.proofs.fragments.put_fragments.Given as goal

abbrev pub invariant-loop-part : goal.invariant-loop-part
invariant-loop-part l =
    l.fragments.items ++ map (fragment l.frame l.parent) (drop l.part-index l.parts)
    ≡ l.fn.fragments.items ++ map (fragment l.frame l.parent) l.parts
