use Rattle.std.proofs.Common.{◌≡◌, ◌+◌, false, length}
use Rattle.seh_io.specs.Streams.{HasCount}
use Rattle.seh_host.specs.Words.{image_named, TookEvents, running_of, made, shown_made, image_of, event_count}
use Rattle.seh_host.proofs.run.write_turns.Given as goal

abbrev pub invariant-loop-i : goal.invariant-loop-i
invariant-loop-i g l =
    let r = running_of l.fn.host in
    (running_of l.host ≡ made l._i r) × (l.lines.failed ≡ false)
    × TookEvents g.O.Sink.taken g.O.Sink.faults image_named l.fn.lines (shown_made l._i r) l.lines
    × (image_of l.host ≡ image_of l.fn.host)
    × HasCount (event_count l.fn.host + length (shown_made l._i r)) (event_count l.host)
