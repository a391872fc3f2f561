use Rattle.std.proofs.Common.{◌≡◌, length, ◌∙◌, sym, ap, subst, arith, w64}
use Rattle.std.specs.Int.{to_le_bytes}
use Rattle.std.specs.Prelude.{All}
use Rattle.host_layout.specs.declared.range.TheConstants.{DATA_STACK_START, FIRST_DATA_STACK}
use Rattle.seh_host.specs.Words.{IsWholeRegion, filled, memory_of, blank_memory}
use Rattle.x64_memory.specs.Regions as regions
use Rattle.seh_host.proofs.AsLoaded.{regions_whole, regions_ascend, place_aligned, place_above_4_gib, pointer_held}
use Rattle.seh_host.proofs.loading.blank_memory.Goals as goal

pub new-requires-clause-whole : goal.new-requires-clause-whole
new-requires-clause-whole c =
    let image = c.args.image.now in
    subst (λ rs. All IsWholeRegion rs) (sym (c.deref.ensures.value ∙ c.in_ok-regions.ensures))
    (regions_whole image (place_aligned image c.requires.place) c.requires.ascending)

pub new-requires-clause-ascending : goal.new-requires-clause-ascending
new-requires-clause-ascending c =
    let image = c.args.image.now in
    subst (λ rs. regions.AreAscending 0 rs) (sym (c.deref.ensures.value ∙ c.in_ok-regions.ensures))
    (regions_ascend image (place_above_4_gib image c.requires.place) c.requires.ascending)

pub fill-requires-clause-there : goal.fill-requires-clause-there
fill-requires-clause-there c a low high =
    let eight : length c.to_le_bytes.result ≡ 8 = ap length c.to_le_bytes.ensures in
    c.in_ok-space.ensures.holds a
    ∙ ap (λ rs. regions.in_regions rs a) (c.deref.ensures.value ∙ c.in_ok-regions.ensures)
    ∙ pointer_held c.args.image.now a low (omega (arith, high, eight))

pub returns-clause-memory : goal.returns-clause-memory
returns-clause-memory c =
    let regions_are = c.deref.ensures.value ∙ c.in_ok-regions.ensures in
    c.fill.ensures.memory
    ∙ ap (filled (memory_of c.in_ok-space.space) DATA_STACK_START) c.to_le_bytes.ensures
    ∙ ap (λ m. filled m DATA_STACK_START (to_le_bytes w64 FIRST_DATA_STACK))
    c.in_ok-space.ensures.memory
    ∙ ap blank_memory regions_are

pub returns-clause-holds : goal.returns-clause-holds
returns-clause-holds c a =
    c.fill.ensures.holds a ∙ c.in_ok-space.ensures.holds a
    ∙ ap (λ rs. regions.in_regions rs a) (c.deref.ensures.value ∙ c.in_ok-regions.ensures)
