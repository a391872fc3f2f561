-- Where the instructions of a body begin, whose cold parts stand apart.
use Rattle.std.specs.Prelude.{ℕ, suc, ◌+◌, if◌then◌else◌, List, [], ◌∷◌}
use Rattle.linear_code.specs.declared.instruction.Instruction.{Instruction}
use Rattle.linear_code.specs.declared.program.LabelRange.{LabelRange}
use Rattle.template_code.specs.declared.layout.Layout.{Layout}
use Rattle.template_code.specs.Template.{template_size, body_size}
use Rattle.template_code.specs.ColdParts.{is_cold, part_code}
use Rattle.x64_emit.specs.declared.body.CodeRange.{CodeRange}
use Rattle.x64_emit.specs.Rooms.{code_room}
use Rattle.x64_emit.specs.Near.{IsNear}

-- the addresses of instructions one after another
abbrev pub labels_from : Layout → ℕ → List Instruction → List ℕ
labels_from y at [] = []
labels_from y at (i ∷ is) = at ∷ labels_from y (at + template_size y i) is

-- the addresses from a label on, where the next instruction that isn't cold begins at one place and
-- the next cold one at another
abbrev pub label_list : Layout → List LabelRange → (label hot cold : ℕ) → List Instruction → List ℕ
label_list y rs label hot cold [] = []
label_list y rs label hot cold (i ∷ is) =
    if is_cold rs label
    then cold ∷ label_list y rs (suc label) hot (cold + template_size y i) is
    else hot ∷ label_list y rs (suc label) (hot + template_size y i) cold is

-- where the cold parts of a body stand, one after another
abbrev pub part_ranges : Layout → ℕ → List LabelRange → List Instruction → List CodeRange
part_ranges y at [] code = []
part_ranges y at (r ∷ rs) code =
    let end = at + body_size y (part_code code r) in
    record { begin = at; end = end } ∷ part_ranges y end rs code

-- the code of a body ends at a near address, since no template takes more than its room
abbrev pub EndsNear : ℕ → List Instruction → Type 0
EndsNear start body = IsNear (start + code_room body)
