-- That a walk over a dump's ranges hangs on the dump's memory alone.
--
-- The main definitions: `RangesAreMemory`, `ReadsTheDump`, `StackIsTheDumps`.
use Rattle.std.specs.Prelude.{◌≡◌, ℕ, List}
use Rattle.pe_image.specs.Image.{Image}
use Rattle.minidump.specs.declared.structures.Table.{Table}
use Rattle.seh_views.specs.declared.c_types.SehContext.{SehContext}
use Rattle.seh_views.specs.declared.c_types.SehFrame.{SehFrame}
use Rattle.seh_views.specs.declared.c_types.SehRange.{SehRange}
use Rattle.seh_views.specs.declared.c_types.SehView.{SehView}
use Rattle.seh_views.specs.Modules.{walk_modules}
use Rattle.seh_views.specs.Ranges.{AreInOrder}
use Rattle.seh_views.specs.Snapshot.{snapshot}
use Rattle.dump_stacks.specs.Ranges.{memory_ranges, HaveMemory, AreRangesOf}
use Rattle.dump_stacks.specs.Stacks.{dump_memory}

-- the ranges of a dump, where they are in order as the dump has them, have its memory
abbrev pub RangesAreMemory : Type 0
RangesAreMemory =
    (file : List ℕ) (directory : Table) (rs : List SehRange)
    → AreRangesOf file (memory_ranges file directory) rs → AreInOrder rs
    → HaveMemory file directory rs

-- what a walk reads at an address is the byte of the first of the dump's ranges that covers it;
-- where none does it is what the image stores
abbrev pub ReadsTheDump : Type 0
ReadsTheDump =
    (image : Image) (base : ℕ) (file : List ℕ) (directory : Table) (rs : List SehRange)
    → HaveMemory file directory rs
    → snapshot image base rs ≡ dump_memory image base file (memory_ranges file directory)

-- over any two lists of ranges that have a dump's memory the walk through modules is the same
abbrev pub StackIsTheDumps : Type 0
StackIsTheDumps =
    (file : List ℕ) (directory : Table) (rs others : List SehRange) → HaveMemory file directory rs
    → HaveMemory file directory others → (vs : List SehView) (c : SehContext) (fs : List SehFrame)
    → walk_modules vs rs c fs ≡ walk_modules vs others c fs
