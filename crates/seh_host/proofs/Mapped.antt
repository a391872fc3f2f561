-- The regions of an image's run, with what is put into them, are the image as it lies in memory.
use Rattle.std.proofs.Common.{◌≡◌, ℕ, ◌≤◌, Bool, true, false, ◌||◌, cond, List, [], ◌∷◌, Option, Some, None, refl, ap, ◌∙◌, lit≤}
use Rattle.host_layout.specs.declared.range.TheConstants.{DATA_STACK_START, FIRST_DATA_STACK}
use Rattle.flat_memory.specs.declared.protection.Protection.{Protection}
use Rattle.flat_memory.specs.declared.protection.TheConstants.{UNMAPPED}
use Rattle.seh_host.specs.Words.{Memory, with_number, first_byte, Image, AreAscending, ARENA, DATA_STACK, region_mode, mapped_over, section_of, in_stack, in_data_stack, stack_mode, mode_in, stack, regions_of, blank_memory, with_raw, unbound}
use Rattle.seh_host.specs.Words.{Section}
use Rattle.x64_memory.specs.declared.region.Region.{Region}
use Rattle.x64_memory.specs.Regions as regions
use Rattle.seh_host.proofs.AsLoaded.{mode_or, modes_mapped, zeros_mapped, raw_bytes, raw_modes}
use Rattle.seh_host.proofs.Slots.{slot_filled}

-- ---- what no section covers

-- the arena and the stacks alone
under : Memory
under = mapped_over regions.unmapped (ARENA ∷ DATA_STACK ∷ stack ∷ [])

arena_or_none : (b : Bool) → cond b (region_mode ARENA) UNMAPPED ≡ UNMAPPED
arena_or_none true = refl
arena_or_none false = refl

data_stack_or_none : (b : Bool) → cond b (region_mode DATA_STACK) UNMAPPED ≡ stack_mode b
data_stack_or_none true = refl
data_stack_or_none false = refl

stack_or : (b c : Bool) → cond b (region_mode stack) (stack_mode c) ≡ stack_mode (b || c)
stack_or true c = refl
stack_or false c = refl

under_mode : (a : ℕ) → under.protection a ≡ stack_mode (in_stack a || in_data_stack a)
unfolding under
under_mode a =
    ap (λ m. cond (in_stack a) (region_mode stack) m)
    (ap (λ m. cond (in_data_stack a) (region_mode DATA_STACK) m)
    (arena_or_none (regions.covers ARENA a)) ∙ data_stack_or_none (in_data_stack a))
    ∙ stack_or (in_stack a) (in_data_stack a)

mode_or-in : (o : Option Section) (a : ℕ) (m : Protection)
    → m ≡ stack_mode (in_stack a || in_data_stack a) → mode_or o m ≡ mode_in o a
mode_or-in (Some s) a m e = refl
mode_or-in None a m e = e

-- zeros, but for the data stack's pointer
blank_byte : (rs : List Region) (a : ℕ) → (blank_memory rs).byte a ≡ first_byte a
blank_byte rs a =
    ap (λ (m : Memory). m.byte a)
    (slot_filled (regions.mapped rs) DATA_STACK_START FIRST_DATA_STACK (lit≤ tt))
    ∙ ap (λ byte. with_number byte 8 DATA_STACK_START FIRST_DATA_STACK a)
    (λ i b. zeros_mapped regions.unmapped rs b refl i)

-- ---- the whole

pub mapped_is : (image : Image) → 0x100000000 ≤ image.base → AreAscending 0 image.sections
    → with_raw image.base (blank_memory (regions_of image)) image.sections ≡ unbound image
unfolding under
mapped_is image high up = λ i. record {
  protection = λ a. (ap (λ (f : ℕ → Protection). f a)
      (raw_modes image.base (blank_memory (regions_of image)) image.sections)
      ∙ modes_mapped image.base a 0 under image.sections up
      ∙ mode_or-in (section_of image.base a image.sections) a (under.protection a) (under_mode a))
      i;
  byte = λ a. raw_bytes image.base a 0 (blank_memory (regions_of image)) image.sections up high
      (blank_byte (regions_of image) a) i;
}
