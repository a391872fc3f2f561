use Rattle.std.proofs.Common.{◌≡◌, ◌+◌, ◌*◌, ◌++◌, drop}
use Rattle.image_link.specs.Words.{step_of, blocks_bytes}
use Rattle.image_link.proofs.handlers.put_blocks.Given as goal

abbrev pub invariant-loop-function : goal.invariant-loop-function
invariant-loop-function l =
    record {
      here : l.at ≡ l.blocks.first + step_of l.blocks * l.function-index;
      done : l.code.items
          ++ blocks_bytes l.imports l.rdata l.blocks l.at (drop l.function-index l.functions)
          ≡ l.initial.code.items
          ++ blocks_bytes l.imports l.rdata l.blocks l.blocks.first l.functions;
    }
