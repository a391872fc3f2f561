-- The image of a view that an opening made.
use Rattle.std.proofs.Common.{◌≡◌, Ok, sym, subst, ◌∙◌}
use Rattle.pe_image.specs.Image.{Image}
use Rattle.seh_views.specs.declared.c_types.SehView.{SehView}
use Rattle.seh_views.specs.Openings.{Answer, opened}
use Rattle.seh_views.specs.Shapes.{layout}
use Rattle.seh_views.specs.Views.{IsKnown, IsViewOf}

pub view_known : (v : SehView) (image : Image) → IsViewOf v
    → opened (layout v) v.bytes.now ≡ Ok image → IsKnown v image
view_known v image is was =
    let same : is.image ≡ image = inside (sym is.is ∙ was) in
    subst (IsKnown v) same is.known
  where
    inside : {A : Type 0} {x y : A} → (let a : Answer A = Ok x in a) ≡ Ok y → x ≡ y
    inside h = cc
