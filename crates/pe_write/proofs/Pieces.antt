-- Pieces that are written one after another.
use Rattle.std.proofs.Common.{append_assoc}

pub ruleset pieces = (append_assoc)
