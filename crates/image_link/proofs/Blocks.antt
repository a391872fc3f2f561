-- The blocks of functions: how many bytes they take, and where each of them is.
use Rattle.std.proofs.Common.{◌≡◌, ℕ, zero, suc, ◌+◌, ◌*◌, ◌^◌, ◌<◌, ◌≤◌, Bool, true, false, List, [], ◌∷◌, ◌++◌, length, get_or, drop, drop-cons, refl, sym, ap, ◌∙◌, arith, length-append}
use Rattle.std.specs.Prelude.{◌||◌, if◌then◌else◌}
use Rattle.host_layout.specs.declared.imported.ImportedService.TheVariants.{AddVectored, RemoveVectored}
use Rattle.pe_write.specs.ImportTables.{slot_of}
use Rattle.x64_instr.specs.declared.instruction.Instr.{Instr}
use Rattle.x64_instr.specs.declared.register.Reg.TheVariants.{Rax, Rcx, Rdx}
use Rattle.template_code.specs.Handlers.{loaded, name_thunk, adding_stub, removing_stub}
use Rattle.template_code.specs.Slots.{fetched}
use Rattle.image_link.specs.declared.handlers.TheConstants.{MOST_BLOCK}
use Rattle.image_link.specs.Words.{ImportedService, size, sizes, modrm, HandlerBlocks, block_size, blocks_at, step_of, blocks_size, is_among, adding_at, removing_at, adding_code, removing_code, block_code, block_bytes, blocks_bytes, code_if, stub_size_if, adding_of, removing_of, AreBlocksNear}
use Rattle.x64_emit.specs.Linking.{AreStubsNear}
use Rattle.template_code.proofs.Sizes.{jump_size}
use Rattle.image_link.proofs.Lemmas.{sizes_append, sizes_spelled}

-- ---- a block

loads_size : size (fetched Rax Rcx 0) + (size (loaded Rcx 0) + size (loaded Rdx 4)) ≡ 10
unfolding size modrm
loads_size = refl

pub thunk_size : (at function : ℕ) → sizes (name_thunk at function) ≡ 15
thunk_size at function =
    let l = loads_size in
    let j = jump_size (at + 15) function in
    omega arith

pub adding_size : (at name slot : ℕ) → sizes (adding_stub at name slot) ≡ 13
unfolding size modrm
adding_size at name slot = refl

pub removing_size : (at name slot : ℕ) → sizes (removing_stub at name slot) ≡ 13
unfolding size modrm
removing_size at name slot = refl

pub size_if : (there : Bool) (code : List Instr) → sizes code ≡ 13
    → sizes (code_if there code) ≡ stub_size_if there
size_if true code e = e
size_if false code e = refl

module _ (imports : List ImportedService) (rdata : ℕ) (b : HandlerBlocks) where
  block_sizes : (at function : ℕ)
      → sizes (block_code imports rdata b at function) ≡ step_of b
  block_sizes at function =
      let adding = adding_code imports rdata b at in
      let removing = removing_code imports rdata b at in
      let t = thunk_size at function in
      let stub = adding_at at in
      let other = removing_at b.adds at in
      let slot = rdata + slot_of imports AddVectored in
      let last = rdata + slot_of imports RemoveVectored in
      let a = size_if b.adds (adding_stub stub at slot) (adding_size stub at slot) in
      let r = size_if b.removes (removing_stub other at last) (removing_size other at last) in
      omega (
        arith,
        sizes_append (name_thunk at function ++ adding) removing,
        sizes_append (name_thunk at function) adding,
      )

  pub block_length : (at function : ℕ)
      → length (block_bytes imports rdata b at function) ≡ step_of b
  unfolding block_bytes
  block_length at function = sizes_spelled (block_code imports rdata b at function)
      ∙ block_sizes at function

-- ---- all of them

pub step_more : (adds removes : Bool) (n : ℕ)
    → block_size adds removes * suc n ≡ block_size adds removes + block_size adds removes * n
step_more true true n = omega arith
step_more true false n = omega arith
step_more false true n = omega arith
step_more false false n = omega arith

pub step_none : (b : HandlerBlocks) → step_of b * 0 ≡ 0
step_none b = by b.adds b.removes
  where
    by : (adds removes : Bool) → block_size adds removes * 0 ≡ 0
    by true true = refl
    by true false = refl
    by false true = refl
    by false false = refl

-- how many bytes the blocks of functions take
pub blocks_length : (imports : List ImportedService) (rdata : ℕ) (b : HandlerBlocks) (at : ℕ)
    (fs : List ℕ) → length (blocks_bytes imports rdata b at fs) ≡ step_of b * length fs
blocks_length imports rdata b at [] = sym (step_none b)
blocks_length imports rdata b at (f ∷ fs) =
    let l = block_length imports rdata b at f in
    let m = blocks_length imports rdata b (at + step_of b) fs in
    let s = step_more b.adds b.removes (length fs) in
    omega (
      arith,
      length-append (block_bytes imports rdata b at f)
          (blocks_bytes imports rdata b (at + step_of b) fs),
    )

-- they are few bytes for each function
pub blocks_small : (imports : List ImportedService) (functions : ℕ)
    → blocks_size imports functions ≤ MOST_BLOCK * functions
blocks_small imports functions = by (is_among imports AddVectored) (is_among imports RemoveVectored)
  where
    by : (adds removes : Bool)
        → block_size adds removes * (if adds || removes then functions else 0)
        ≤ MOST_BLOCK * functions
    by true true = omega arith
    by true false = omega arith
    by false true = omega arith
    by false false = omega arith

-- and there are no more of them than functions
pub blocks_few : (imports : List ImportedService) (at functions : ℕ)
    → (blocks_at imports at functions).count ≤ functions
blocks_few imports at functions =
    by (is_among imports AddVectored) (is_among imports RemoveVectored)
  where
    by : (adds removes : Bool) → (if adds || removes then functions else 0) ≤ functions
    by true true = omega arith
    by true false = omega arith
    by false true = omega arith
    by false false = omega arith

-- ---- one after another

after : (i : ℕ) → suc i ≡ i + 1
after i = omega arith

pub blocks_next : (imports : List ImportedService) (rdata : ℕ) (b : HandlerBlocks) (at : ℕ)
    (fs : List ℕ)
    (i d : ℕ) → i < length fs
    → blocks_bytes imports rdata b at (drop i fs)
    ≡ block_bytes imports rdata b at (get_or fs i d)
    ++ blocks_bytes imports rdata b (at + step_of b) (drop (i + 1) fs)
blocks_next imports rdata b at fs i d lt =
    ap (blocks_bytes imports rdata b at) (drop-cons fs i d lt)
    ∙ ap (λ (n : ℕ). block_bytes imports rdata b at (get_or fs i d)
    ++ blocks_bytes imports rdata b (at + step_of b) (drop n fs)) (after i)

-- the next block begins so much further
pub step_next : (b : HandlerBlocks) (i : ℕ) → step_of b * (i + 1) ≡ step_of b * i + step_of b
step_next b i = by b.adds b.removes
  where
    by : (adds removes : Bool)
        → block_size adds removes * (i + 1) ≡ block_size adds removes * i + block_size adds removes
    by true true = omega arith
    by true false = omega arith
    by false true = omega arith
    by false false = omega arith

-- and each of them before the end of all
pub step_below : (b : HandlerBlocks) (i : ℕ) → i < b.count
    → step_of b * i + step_of b ≤ step_of b * b.count
step_below b i lt = by b.adds b.removes
  where
    by : (adds removes : Bool)
        → block_size adds removes * i + block_size adds removes
        ≤ block_size adds removes * b.count
    by true true = omega arith
    by true false = omega arith
    by false true = omega arith
    by false false = omega arith

-- ---- stubs

pub adding_near : (b : HandlerBlocks) → AreBlocksNear b → AreStubsNear (adding_of b)
adding_near b near = omega arith

pub removing_near : (b : HandlerBlocks) → AreBlocksNear b → AreStubsNear (removing_of b)
removing_near b near = by b.adds near
  where
    by : (adds : Bool) → AreBlocksNear b
        → b.first + 15 + stub_size_if adds + step_of b * b.count < 2 ^ 30
    by true near = omega arith
    by false near = omega arith
