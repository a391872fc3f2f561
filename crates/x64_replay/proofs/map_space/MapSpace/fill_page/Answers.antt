use Rattle.std.proofs.Common.{◌≡◌, ◌/◌, ◌%◌, ◌+◌, ◌-◌, ℕ, List, Some, length, get_or, rules, refl, sym, ap, ◌∙◌, arith}
use Rattle.x64_memory.specs.declared.page.Page.{Page}
use Rattle.x64_memory.proofs.Mapping.{bytes_put, piece_inside, piece_before, piece_after}
use borrow.Rule.Slice.PartMut.{put_mid}
use Rattle.x64_replay.specs.PageTrees.{pages_of}
use Rattle.x64_replay.proofs.Trees.{page_put}
use Rattle.x64_replay.proofs.map_space.MapSpace.fill_page.Goals as goal

pub returns-in-Some-clause-memory : goal.returns-in-Some-clause-memory
returns-in-Some-clause-memory c =
    let m = c.args.self.now.pages in
    let p = c.in-Some.page.now in
    let from = c.args.at % 4096 in
    let xs = c.args.piece.now in
    let ys = c.copy_from_slice.new.self in
    let k = from + length xs - from in
    let q : Page = record { protection = p.protection; bytes = put_mid from k p.bytes ys } in
    let same : ys ≡ xs = c.copy_from_slice.ensures.after in
    let len : length p.bytes ≡ 4096 = search rules in
    let size : length ys ≡ length xs = ap length same in
    let had : pages_of m (c.args.at / 4096) ≡ Some p = sym c.in-Some.ensures.value in
    bytes_put (pages_of m) p q c.args.at xs had c.requires.within refl
    (λ j lt. piece_inside p.bytes ys from k j (omega arith) (omega arith)
    ∙ ap (λ (zs : List ℕ). get_or zs j 0) same)
    (λ j lt. piece_before p.bytes ys from k j lt (omega arith))
    (λ j ge. piece_after p.bytes ys from k j (omega arith) (omega arith) (omega arith))
    _ (page_put m (c.get_mut.follows.lender q) (c.args.at / 4096) q
    ((c.get_mut.follows.holds q).3 (search rules)))
