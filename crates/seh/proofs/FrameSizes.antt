-- The frames of a program that fits are small, as their unwind codes tell.
use Rattle.std.proofs.Common.{◌≡◌, ℕ, ◌+◌, ◌*◌, ◌≤◌, List, subst, sym, ap, ◌∙◌}
use Rattle.seh.specs.Words.{Program, lowered}
use Rattle.frame_rules.specs.Codes.{depth}
use Rattle.frame_rules.proofs.Planning.{codes_plan}
use Rattle.frame_rules.specs.Bytes.{spell}
use Rattle.frame_rules.specs.Rules.{ops}
use Rattle.eh_tables.specs.declared.code.UnwindCode.{UnwindCode}
use Rattle.virtual_unwind.specs.Undone.{operations}
use Rattle.frame_layout.specs.declared.frame.FrameLayout.{FrameLayout}
use Rattle.frame_layout.proofs.Planned.{depth_is}
use Rattle.template_code.specs.declared.layout.TheConstants.{FRAME_BY_WEIGHT}
use Rattle.image_link.specs.Fits.{FitsProgram}
use Rattle.image_tables.specs.Functions.{function_of, plan}
use Rattle.image_tables.specs.FrameLaws.{IsFramed}
use Rattle.image_tables.specs.RoutinePlaces.{Placed}
use Rattle.image_tables.specs.ShapeLaws.{weight_at}
use Rattle.image_tables.proofs.FramePlans.{described}
use Rattle.image_tables.proofs.FrameRules.{sizes}
use Rattle.image_tables.proofs.FrameSizes as tables
use Rattle.linear_code.specs.Program.{LinearProgram}
use Rattle.seh.specs.Images.{HasSmallFrames}

-- how much the codes of a routine's unwind info push and allocate
codes_depth : (p : LinearProgram) (index : ℕ) (x : Placed) (f : FrameLayout)
    → IsFramed p index x f → depth (ops (function_of p x f)) ≡ f.depth
codes_depth p index x f framed =
    let q = plan p x f in
    let d = described f q.probe in
    ap (λ (cs : List UnwindCode). depth (operations cs)) d.codes
    ∙ ap depth (codes_plan spell q)
    ∙ depth_is f q.probe (sizes p index x f framed).0

pub frames_are_small : (program : Program) → FitsProgram (lowered program)
    → HasSmallFrames program
frames_are_small program fits index x f there framed =
    let p = lowered program in
    subst (λ n. n + 8 ≤ FRAME_BY_WEIGHT * weight_at p index)
    (sym (codes_depth p index x f (record { fits = fits; there = there; framed = framed })))
    (tables.frames_are_small p index x f fits there framed)
