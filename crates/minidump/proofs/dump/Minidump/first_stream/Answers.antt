use Rattle.std.proofs.Common.{◌∙◌, sym, ap, List, ℕ, ◌+◌, ◌*◌}
use Rattle.minidump.specs.Streams.{stream_at}
use Rattle.minidump.proofs.Found.{found_first, found_later}
use Rattle.minidump.proofs.dump.Minidump.first_stream.Goals as goal

pub returns-then-stream-stream_type : goal.returns-then-stream-stream_type
returns-then-stream-stream_type c =
    let at = c.args.directory.at + 12 * c.loop-index.index in
    let read = c.read-stream.ensures ∙ ap (λ (b : List ℕ). stream_at b at) c.file.ensures in
    sym (found_first c.args.self.now c.args.directory c.args.kind c.loop-index.index
    c.read-stream.result c.loop-index-test.true read
    (c.if-stream-stream_type.true ∙ c.stream_type-stream_type.ensures)) ∙ c.loop-index.invariant

pub loop-index-preserved : goal.loop-index-preserved
loop-index-preserved c =
    let at = c.args.directory.at + 12 * c.loop-index.index in
    let read = c.read-stream.ensures ∙ ap (λ (b : List ℕ). stream_at b at) c.file.ensures in
    sym (found_later c.args.self.now c.args.directory c.args.kind c.loop-index.index
    c.read-stream.result c.loop-index-test.true read
    (λ e. c.if-stream-stream_type.false (e ∙ sym c.stream_type-stream_type.ensures)))
    ∙ c.loop-index.invariant
