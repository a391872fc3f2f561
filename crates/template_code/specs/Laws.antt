-- What holds of templates wherever they are placed.
use Rattle.std.specs.Prelude.{◌≡◌, ℕ}
use Rattle.linear_code.specs.declared.instruction.Instruction.{Instruction}
use Rattle.template_code.specs.declared.layout.Layout.{Layout}
use Rattle.template_code.specs.Bytes.{sizes}
use Rattle.template_code.specs.Template.{Links, template, template_size}

-- a template's size depends on no label
abbrev pub SizesKnowNoLabels : Type 0
SizesKnowNoLabels =
    (k : Links) (y : Layout) (at : ℕ) (instruction : Instruction)
    → sizes (template k y at instruction) ≡ template_size y instruction
