use Rattle.std.proofs.Common.{rules}
use Rattle.frame_known.specs.declared.known.Known.TheVariants.{Entry}
use Rattle.known_frames.proofs.Kept.{kept_registers}
use Rattle.known_frames.proofs.after.nonvolatile.Goals as goal

pub returns : goal.returns
returns c r = kept_registers c.args.registers.now (Entry 0) r (search rules)
