use Rattle.std.proofs.Common.{◌++◌, ◌+◌, length, ap, subst, ◌∙◌, rules}
use Rattle.seh_io.specs.Streams.{HasCount}
use Rattle.seh_host.specs.Words.{lines, end_line, memory_of, running_of, run_of, run_names, end_within, event_count}
use Rattle.seh_host.specs.declared.names.ImageNames.{ImageNames}
use Rattle.seh_host.proofs.Lemmas.{ran_whole, same_grew, same_part}
use Rattle.seh_host.proofs.Runs.{within, end_left}
use Rattle.seh_host.proofs.Writing.{before_ok, events_of, end_answered, part_of_text, stopped_text, same_stopped}
use Rattle.seh_host.proofs.run.run.Goals as goal

pub returns-in-Ok-clause-end : goal.returns-in-Ok-clause-end
returns-in-Ok-clause-end g c =
    let host = c.write_turns.new.host in
    c.unwrap_or-end.ensures
    ∙ within c.args.turns host.end
    ∙ ap (end_within c.args.turns) (end_left host.machine (memory_of host.space) host.end
    ∙ end_answered c.args.turns c.new-lines.result.trace (running_of c.args.host.now)
    (running_of host) _ _ _ _ c.write_turns.ensures.written c.end.ensures.wrote
    c.in-Ok.ensures.outcome)

pub returns-in-Ok-clause-text : goal.returns-in-Ok-clause-text
returns-in-Ok-clause-text g c =
    let r = running_of c.args.host.now in
    same_grew (g.O.Sink.taken c.new-lines.result.sink.now) (g.O.Sink.taken c.args.sink.now)
    (g.O.Sink.taken c.end.new.self.sink.now) _ _ _
    (ap g.O.Sink.taken c.new-lines.ensures.sink)
    (ap (λ es. lines c.new-lines.result.trace es (run_names r) ++ end_line c.unwrap_or-end.result)
    (events_of c.args.turns r)
    ∙ ap (λ b. lines b (run_of c.args.turns r).events (run_names r)
    ++ end_line c.unwrap_or-end.result)
    c.new-lines.ensures.trace)
    (search rules)
    (ran_whole _ _ _ _ _ c.write_turns.ensures.written.wrote c.end.ensures.wrote
    c.in-Ok.ensures.outcome)

pub returns-clause-part : goal.returns-clause-part
returns-clause-part g c =
    let r = running_of c.args.host.now in
    let host = c.write_turns.new.host in
    let shown = run_of c.args.turns r in
    same_part (g.O.Sink.taken c.new-lines.result.sink.now) (g.O.Sink.taken c.args.sink.now)
    (g.O.Sink.taken c.end.new.self.sink.now) _ _ _ c.in-Err.fault.taken
    (ap g.O.Sink.taken c.new-lines.ensures.sink)
    (ap (λ b. lines b shown.events (run_names r) ++ end_line (end_within c.args.turns shown.end))
    c.new-lines.ensures.trace)
    (search rules)
    (part_of_text c.args.turns c.in-Err.fault.taken c.new-lines.result.trace r (running_of host)
    _ _ _ c.unwrap_or-end.result c.write_turns.ensures.written c.end.ensures.wrote
    (c.unwrap_or-end.ensures ∙ within c.args.turns host.end
    ∙ ap (end_within c.args.turns) (end_left host.machine (memory_of host.space) host.end))
    c.new-lines.ensures.taken (c.in-Err.ensures.outcome).1)

pub returns-clause-stopped : goal.returns-clause-stopped
returns-clause-stopped g c =
    let r = running_of c.args.host.now in
    let host = c.write_turns.new.host in
    same_stopped c.args.turns c.new-lines.result.trace c.args.trace r (running_of host)
    (g.O.Sink.taken c.new-lines.result.sink.now) (g.O.Sink.taken c.args.sink.now)
    (g.O.Sink.taken c.end.new.self.sink.now) _
    (ap g.O.Sink.taken c.new-lines.ensures.sink)
    c.new-lines.ensures.trace
    (search rules)
    (stopped_text c.args.turns c.in-Err.fault.taken c.new-lines.result.trace r (running_of host)
    _ _ _
    c.unwrap_or-end.result c.write_turns.ensures.written c.end.ensures.wrote
    (c.unwrap_or-end.ensures ∙ within c.args.turns host.end
    ∙ ap (end_within c.args.turns) (end_left host.machine (memory_of host.space) host.end))
    c.new-lines.ensures.taken (c.in-Err.ensures.outcome).1)

pub returns-in-Ok-clause-all_counted : goal.returns-in-Ok-clause-all_counted
returns-in-Ok-clause-all_counted g c =
    let r = running_of c.args.host.now in
    subst (λ es. HasCount (event_count c.args.host.now + length es)
    (event_count c.write_turns.new.host)) (events_of c.args.turns r)
    (c.write_turns.ensures.all_counted
    (before_ok _ _ _ c.end.ensures.wrote c.in-Ok.ensures.outcome))

pub write_turns-requires-clause-named : goal.write_turns-requires-clause-named
write_turns-requires-clause-named g c =
    ap (λ (n : ImageNames). n.table) c.new-lines.ensures.names ∙ c.copied.ensures
    ∙ c.args.host.now.named
