use Rattle.std.proofs.Common.{◌≡◌, ◌+◌, ◌++◌, get_or, drop, sym, ◌∙◌, arith}
use Rattle.image_link.specs.Words.{block_bytes, blocks_bytes}
use Rattle.image_link.proofs.Entries.{appended}
use Rattle.image_link.proofs.Blocks.{blocks_next, step_next, step_below}
use Rattle.image_link.proofs.handlers.put_blocks.Goals as goal

pub put_block-requires-clause-at : goal.put_block-requires-clause-at
put_block-requires-clause-at c =
    let near = c.requires.near in
    let count = c.requires.count in
    let here = c.loop-function.invariant.here in
    let lt = c.loop-function-test.true in
    let below = step_below c.args.blocks c.loop-function.function-index (omega arith) in
    omega arith

pub loop-function-preserved : goal.loop-function-preserved
loop-function-preserved c =
    let imports = c.args.imports.now in
    let rdata = c.args.rdata in
    let b = c.args.blocks in
    let fs = c.args.functions.now in
    let i = c.loop-function.function-index in
    let lt = c.loop-function-test.true in
    let at = c.loop-function.at in
    let inv = c.loop-function.invariant in
    let here = inv.here in
    let next = step_next b i in
    let step = c.step_of-at.ensures.value in
    record {
      here = omega arith;
      done = appended c.loop-function.code.items c.put_block.new.code.items _
          (block_bytes imports rdata b at (get_or fs i 0))
          (blocks_bytes imports rdata b (at + c.step_of-at.result) (drop (i + 1) fs)) _
          c.in_ok-put_block.ensures
          (blocks_next imports rdata b at fs i 0 lt
          ∙ sym (λ j. block_bytes imports rdata b at (get_or fs i 0)
          ++ blocks_bytes imports rdata b (at + step j) (drop (i + 1) fs)))
          inv.done;
    }
