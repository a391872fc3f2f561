-- A view that an opening makes.
use Rattle.std.proofs.Common.{◌≡◌, ℕ, List, [], length, Bool, Ok, sym, ap, ◌∙◌, arith}
use Rattle.seh_num.specs.Answers.{◌>>=◌}
use Rattle.pe_image.specs.Image.{Image}
use Rattle.eh_index.specs.Indexes.{IsIndexOf}
use Rattle.eh_tables.specs.declared.range.RuntimeFunction.{RuntimeFunction}
use Rattle.eh_tables.specs.Tables.{Tables}
use Rattle.seh_views.specs.declared.c_types.SehView.{SehView}
use Rattle.seh_views.specs.Openings.{Answer, opened, table_of}
use Rattle.seh_views.specs.Shapes.{layout, layout_of}
use Rattle.seh_views.specs.Views.{IsOpened}

-- an array without numbers is an index of any table
pub no_index : (rs : List RuntimeFunction) (shift : ℕ) → IsIndexOf rs shift []
no_index rs shift = record {
  below = λ rva j lt h. absurd (omega arith);
  above = λ rva lt h. absurd (omega arith);
}

pub view_made : (mapped : Bool) (bytes : List ℕ) (base : ℕ) (v : SehView) (image : Image)
    (t : Tables) → opened (layout_of mapped) bytes ≡ Ok image → Ok t ≡ table_of image
    → t.image ≡ image → IsIndexOf t.ranges v.shift v.index.now → v.bytes.now ≡ bytes
    → layout v ≡ layout_of mapped → v.base ≡ base → v.preferred_base ≡ image.base
    → v.size ≡ image.size → v.entry_point ≡ image.entry → v.functions ≡ length t.ranges
    → IsOpened mapped bytes base v
view_made mapped bytes base v image t o r of_image index same form b base_is size entry count =
    let opens : opened (layout v) v.bytes.now ≡ Ok image = ap (λ l. opened l v.bytes.now) form
    ∙ ap (opened (layout_of mapped)) same ∙ o in
    let back : image ≡ t.image = sym of_image in
    record {
      view = record {
        image = image;
        is = opens;
        known = record { tables = t; read = sym r; index = index };
      };
      numbers = record {
        tables = t;
        is = ap (λ (a : Answer Image). a >>= table_of) opens ∙ sym r;
        base = base_is ∙ ap (λ (i : Image). i.base) back;
        size = size ∙ ap (λ (i : Image). i.size) back;
        entry_point = entry ∙ ap (λ (i : Image). i.entry) back;
        functions = count;
      };
      of_bytes = same;
      in_layout = form;
      at_base = b;
    }
