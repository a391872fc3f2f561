-- A body whose cold parts stand apart: its other instructions one after another, and those of its
-- cold parts one after another at another place.
--
-- `falls_through`: every instruction but a jump and a return.
--
-- `label_at`: where the code of a label begins, by where each side does. `HasLabelsApart` of links
-- that say so.
--
-- `hot_code`, `cold_code`: a body's instructions that stand in no cold part, and those that do,
-- each side one after another.
use Rattle.std.specs.Prelude.{◌≡◌, ℕ, suc, ◌+◌, ◌-◌, ◌<◌, ◌≤◌, Bool, true, false, not, ◌&&◌, ◌||◌, nat_le, nat_lt, if◌then◌else◌, List, [], ◌∷◌, take, drop}
use Rattle.linear_code.specs.declared.instruction.Instruction.{Instruction}
use Rattle.linear_code.specs.declared.instruction.Instruction.TheVariants as instructions
use Rattle.linear_code.specs.declared.program.LabelRange.{LabelRange}
use Rattle.linear_code.specs.Program.{LinearBody}
use Rattle.template_code.specs.declared.layout.Layout.{Layout}
use Rattle.template_code.specs.Template.{Links, body_size}

abbrev pub holds : ℕ → LabelRange → Bool
holds label r = nat_le r.begin label && nat_lt label r.end

abbrev pub is_cold : List LabelRange → ℕ → Bool
is_cold [] label = false
is_cold (r ∷ rs) label = holds label r || is_cold rs label

-- the parts are one after another, from a label on and up to another, and each has an instruction
abbrev pub AreParts : ℕ → List LabelRange → ℕ → Type 0
AreParts from [] end = from ≤ end
AreParts from (r ∷ rs) end = (from ≤ r.begin) × (r.begin < r.end) × AreParts r.end rs end

-- the instructions of a part
abbrev pub part_code : List Instruction → LabelRange → List Instruction
part_code code r = take (r.end - r.begin) (drop r.begin code)

abbrev pub same : Bool → Bool → Bool
same true b = b
same false b = not b

-- the instructions that are cold, or those that are not, in code that begins at a label
abbrev pub side_from : List LabelRange → Bool → ℕ → List Instruction → List Instruction
side_from rs cold label [] = []
side_from rs cold label (i ∷ is) =
    if same cold (is_cold rs label) then i ∷ side_from rs cold (suc label) is
    else side_from rs cold (suc label) is

abbrev pub hot_code : LinearBody → List Instruction
hot_code b = side_from b.cold false 0 b.code

abbrev pub cold_code : LinearBody → List Instruction
cold_code b = side_from b.cold true 0 b.code

-- where the code of a label begins, by where that of each side does: after the instructions of its
-- side before it
abbrev pub offset_in : Layout → List LabelRange → List Instruction → ℕ → ℕ
offset_in y rs code label = body_size y (side_from rs (is_cold rs label) 0 (take label code))

abbrev pub label_at : Layout → (hot cold : ℕ) → List LabelRange → List Instruction → ℕ → ℕ
label_at y hot cold rs code label =
    (if is_cold rs label then cold else hot) + offset_in y rs code label

abbrev pub HasLabelsApart : Links → Layout → (hot cold : ℕ) → LinearBody → Type 0
HasLabelsApart k y hot cold b =
    (label : ℕ) → k.label label ≡ label_at y hot cold b.cold b.code label

-- after these instructions nothing follows: the next label need not stand after them
abbrev pub falls_through : Instruction → Bool
falls_through (instructions.Jump label) = false
falls_through (instructions.Return from) = false
falls_through i = true
