-- Walks over ranges that are one memory.
use Rattle.std.proofs.Common.{◌≡◌, ℕ, zero, suc, ◌+◌, List, [], ◌∷◌, length, drop, refl, sym, ap, ◌∙◌}
use Rattle.std.proofs.Math.Path.{fun_ext}
use Rattle.flat_memory.specs.Memory.{Memory}
use Rattle.pe_image.specs.Image.{Image}
use Rattle.seh_num.specs.Answers.{◌>>=◌}
use Rattle.seh_views.specs.declared.c_types.SehContext.{SehContext}
use Rattle.seh_views.specs.declared.c_types.SehFrame.{SehFrame}
use Rattle.seh_views.specs.declared.c_types.SehRange.{SehRange}
use Rattle.seh_views.specs.declared.c_types.SehView.{SehView}
use Rattle.seh_views.specs.Callers.{risen, step_in}
use Rattle.seh_views.specs.Modules.{module_of, module_step, first_step, with_step, by_module, modules_from}
use Rattle.seh_views.specs.Openings.{opened, table_of}
use Rattle.seh_views.specs.Shapes.{is_own, layout}
use Rattle.seh_views.specs.Snapshot.{snapshot}
use Rattle.dump_stacks.specs.Laws.{StackIsTheDumps}
use Rattle.dump_stacks.proofs.SameMemory.{reads_the_dump}

module _ (rs others : List SehRange)
    (one : (image : Image) (base : ℕ) → snapshot image base rs ≡ snapshot image base others) where
  step_same : (c : SehContext) (v : SehView) → module_step rs c v ≡ module_step others c v
  step_same c v =
      let within = fun_ext (λ (image : Image). ap (λ (m : Memory). table_of image
      >>= (λ t. step_in (is_own v) t v.base m c)) (one image v.base)) in
      ap (λ f. (opened (layout v) v.bytes.now >>= f) >>= risen c) within

  first_same : (c : SehContext) (vs : List SehView) → first_step rs c vs ≡ first_step others c vs
  first_same c [] = refl
  first_same c (v ∷ vs) = step_same c v

  walk_same : (vs : List SehView) (n k last : ℕ) (c : SehContext) (fs : List SehFrame)
      → modules_from vs rs n k last c fs ≡ modules_from vs others n k last c fs
  unfolding modules_from
  walk_same vs zero k last c fs = refl
  walk_same vs (suc n) k last c fs =
      let next : (m : ℕ) → modules_from vs rs n (k + 1) m ≡ modules_from vs others n (k + 1) m =
      λ m. fun_ext (λ d. fun_ext (λ gs. walk_same vs n (k + 1) m d gs)) in
      ap (λ f. by_module f fs k c.rip (module_of vs last c.rip))
      (fun_ext (λ m. ap (with_step (modules_from vs rs n (k + 1) m) fs k m)
      (first_same c (drop m vs))
      ∙ ap (λ g. with_step g fs k m (first_step others c (drop m vs))) (next m)))

pub stack_is_the_dumps : StackIsTheDumps
stack_is_the_dumps file directory rs others has too vs c fs =
    walk_same rs others (λ image base. reads_the_dump image base file directory rs has
    ∙ sym (reads_the_dump image base file directory others too)) vs (length fs) 0 0 c fs
