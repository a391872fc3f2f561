use Rattle.x64_emit.proofs.TemplateSizes.{arguments_are}
use Rattle.x64_emit.proofs.sizes.arguments_size.Goals as goal

pub returns-clause-value : goal.returns-clause-value
returns-clause-value c = arguments_are c.args.layout.now c.args.first c.word_size.result
    c.word_size-2.result c.word_size-3.result c.word_size-4.result c.word_size.ensures.value
    c.word_size-2.ensures.value c.word_size-3.ensures.value c.word_size-4.ensures.value
