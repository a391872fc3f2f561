-- What stands in the code of the loaded image stands in that of its file, as far from the base.
use Rattle.std.proofs.Common.{◌≡◌, ℕ, ◌+◌, ◌^◌, ◌≤◌, true, ◌&&◌, eqb, List, [], ◌∷◌, length, refl, sym, ap, subst, ◌∙◌, arith}
use Rattle.std.proofs.lemmas.Bool.{and_from, eq-eqb}
use Rattle.seh_num.specs.declared.size.TheConstants.{LONGEST_INSTRUCTION}
use Rattle.flat_memory.specs.Memory.{next}
use Rattle.pe_image.specs.Image.{Image}
use Rattle.virtual_unwind.specs.Tail.{FetchedInstr, fetched_at}
use Rattle.frame_rules.specs.Bytes.{IsExecutableAt}
use Rattle.frame_rules.specs.States.{HasItems}
use Rattle.frame_rules.proofs.Tails.{items_rise}
use Rattle.unwind_check.specs.Prologues.{has_bytes}
use Rattle.host_model.specs.Loading.{mapped}
use Rattle.image_code.specs.Code.{code_of}
use Rattle.image_code.proofs.ImageBounds.{IsBounded}
use Rattle.image_code.proofs.LoadedCode.{execute_at, byte_at, code_at}

module _ (image : Image) (b : IsBounded image) where
  fetched_there : (at : ℕ) → at + LONGEST_INSTRUCTION ≤ 2 ^ 63
      → fetched_at (mapped image) (image.base + at) ≡ fetched_at (code_of image) at
  unfolding fetched_at
  fetched_there at low = rw (code_at image b LONGEST_INSTRUCTION at low) refl

  -- instructions
  pub items_there : (at : ℕ) (xs : List FetchedInstr) (to : ℕ)
      → to + LONGEST_INSTRUCTION ≤ 2 ^ 63
      → HasItems (mapped image) (image.base + at) xs (image.base + to)
      → HasItems (code_of image) at xs to
  items_there at [] to low h = omega (arith, h)
  items_there at (x ∷ xs) to low h =
      let rest = items_rise (mapped image) (image.base + at + x.size) xs (image.base + to) h.2 in
      let on : image.base + at + x.size ≡ image.base + (at + x.size) = omega arith in (
        sym (fetched_there at (omega arith)) ∙ h.0,
        h.1,
        items_there (at + x.size) xs to low
            (subst (λ n. HasItems (mapped image) n xs (image.base + to)) on h.2),
      )

  -- bytes
  pub bytes_there : (at : ℕ) (bs : List ℕ) → at + length bs ≤ 2 ^ 63
      → IsExecutableAt (mapped image) (image.base + at) bs → has_bytes (code_of image) at bs ≡ true
  bytes_there at [] low h = refl
  bytes_there at (x ∷ bs) low h =
      let m = code_of image in
      let here : next at ≡ at + 1 = omega arith in
      let on : image.base + at + 1 ≡ image.base + (at + 1) = omega arith in
      let rest = bytes_there (at + 1) bs (omega arith)
      (subst (λ n. IsExecutableAt (mapped image) n bs) on h.2) in
      let executes = sym (execute_at image b at) ∙ h.1 in
      let byte = eq-eqb (m.byte at) x (sym (byte_at image b at executes (omega arith)) ∙ h.0) in
      and_from ((m.protection at).execute && eqb (m.byte at) x) (has_bytes m (next at) bs)
      (and_from (m.protection at).execute (eqb (m.byte at) x)
      executes byte)
      (ap (λ n. has_bytes m n bs) here ∙ rest)
