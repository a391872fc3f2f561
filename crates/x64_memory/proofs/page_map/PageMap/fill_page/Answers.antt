use Rattle.std.proofs.Common.{◌≡◌, ◌/◌, ◌%◌, ◌+◌, ◌-◌, ℕ, List, length, get_or, rules, refl, sym, ap, ◌∙◌, arith}
use Rattle.x64_memory.specs.Words.{Page, page_numbered}
use Rattle.x64_memory.proofs.Ordered.{page_set, page_kept}
use Rattle.x64_memory.proofs.Mapping.{bytes_put, piece_inside, piece_before, piece_after}
use Rattle.x64_memory.proofs.Paging.{has_kept}
use borrow.Rule.Slice.PartMut.{put_mid}
use Rattle.x64_memory.proofs.page_map.PageMap.fill_page.Goals as goal

pub returns-in-Some-clause-memory : goal.returns-in-Some-clause-memory
returns-in-Some-clause-memory c =
    let s = c.args.self.now in
    let p = c.index_mut-page.result.now in
    let i = c.in-Some.index in
    let from = c.args.at % 4096 in
    let xs = c.args.piece.now in
    let ys = c.copy_from_slice.new.self in
    let k = from + length xs - from in
    let q : Page = record { protection = p.protection; bytes = put_mid from k p.bytes ys } in
    let same : ys ≡ xs = c.copy_from_slice.ensures.after in
    let len : length p.bytes ≡ 4096 = search rules in
    let size : length ys ≡ length xs = ap length same in
    let at = sym c.in-Some.ensures.value in
    let had = page_kept s.stretches.items s.pages.items (c.args.at / 4096) i p at
    c.in-Some.ensures.within c.index_mut-page.ensures.value in
    bytes_put (page_numbered s.stretches.items s.pages.items) p q c.args.at xs had c.requires.within
    refl
    (λ j lt. piece_inside p.bytes ys from k j (omega arith) (omega arith)
    ∙ ap (λ (zs : List ℕ). get_or zs j 0) same)
    (λ j lt. piece_before p.bytes ys from k j lt (omega arith))
    (λ j ge. piece_after p.bytes ys from k j (omega arith) (omega arith) (omega arith))
    _ (page_set s.stretches.items s.pages.items (c.args.at / 4096) i q s.ordered s.count at)

pub returns-in-Some-clause-holds : goal.returns-in-Some-clause-holds
returns-in-Some-clause-holds c a =
    let s = c.args.self.now in
    let p = c.index_mut-page.result.now in
    let i = c.in-Some.index in
    let from = c.args.at % 4096 in
    let k = from + length c.args.piece.now - from in
    let q : Page = record {
      protection = p.protection;
      bytes = put_mid from k p.bytes c.copy_from_slice.new.self;
    } in
    let at = sym c.in-Some.ensures.value in
    let had = page_kept s.stretches.items s.pages.items (c.args.at / 4096) i p at
    c.in-Some.ensures.within c.index_mut-page.ensures.value in
    has_kept (page_numbered s.stretches.items s.pages.items) _ (c.args.at / 4096) q
    (page_set s.stretches.items s.pages.items (c.args.at / 4096) i q s.ordered s.count at) p had a
