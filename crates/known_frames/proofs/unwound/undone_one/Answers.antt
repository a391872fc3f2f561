use Rattle.std.proofs.Common.{ap, sym, ◌∙◌}
use Rattle.frame_known.specs.Known as spec
use Rattle.known_frames.specs.Views.{registers_of, words_of}
use Rattle.known_frames.proofs.Runs.{push_undone}
use Rattle.known_frames.proofs.unwound.undone_one.Goals as goal

pub returns-in_ok-restored-in-Push : goal.returns-in_ok-restored-in-Push
returns-in_ok-restored-in-Push c =
    let words = words_of c.args.words.now in
    let now = registers_of c.args.registers.now in
    ap (spec.undone_one c.args.reach words c.args.base c.args.info.now now) c.in-Push.is
    ∙ push_undone c.args.reach words c.args.base c.args.info.now now
    (registers_of c.in_ok-restored-in-Push.restored) (registers_of c.risen.result)
    c.in-Push.register c.in_ok-value-in-Push.value
    (ap (spec.read c.args.reach words) (sym c.known_of.ensures) ∙ sym c.read.ensures
    ∙ c.in_ok-value-in-Push.was)
    c.in_ok-restored-in-Push.ensures c.risen.ensures
