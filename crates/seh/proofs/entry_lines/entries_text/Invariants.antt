use Rattle.std.proofs.Common.{◌≡◌, ◌++◌, drop}
use Rattle.seh.specs.EntryChecks.{entry_lines}
use Rattle.seh.proofs.entry_lines.entries_text.Given as goal

abbrev pub invariant-loop-index : goal.invariant-loop-index
invariant-loop-index l =
    l.text.items ++ entry_lines l.index (drop l.index l.verdicts) ≡ entry_lines 0 l.verdicts
