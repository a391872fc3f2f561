use Rattle.std.proofs.Common.{◌≡◌, ◌/◌, ◌%◌, ◌∙◌, Some, rules, sym, ap, refl, arith}
use Rattle.seh_num.specs.Widths.{bytes_of}
use Rattle.x64_memory.specs.Pages.{page_with_number}
use Rattle.x64_memory.specs.declared.page.Page.{Page}
use Rattle.x64_memory.proofs.Paging.{number_put, unmapped}
use Rattle.x64_replay.specs.PageTrees.{pages_of}
use Rattle.x64_replay.proofs.Trees.{page_put}
use Rattle.x64_replay.proofs.map_space.MapSpacePaged.put.Goals as goal

pub returns-in-Some : goal.returns-in-Some
returns-in-Some c =
    let m = c.args.self.now.pages in
    let n = bytes_of c.args.width in
    let p = c.in-Some.page.now in
    let q : Page = record { protection = p.protection; bytes = c.put_bytes.new.bytes } in
    let had : pages_of m (c.args.at / 4096) ≡ Some p = sym c.in-Some.ensures.value in
    number_put (pages_of m) p q n c.args.at c.args.value had (omega arith) (omega arith)
    (λ i. c.put_bytes.ensures i ∙ ap (λ k. page_with_number p.bytes (c.args.at % 4096) k
    c.args.value i)
    c.bytes-count.ensures.value) refl _
    (page_put m (c.get_mut.follows.lender q) (c.args.at / 4096) q
    ((c.get_mut.follows.holds q).3 (search rules)))

pub returns-in_default : goal.returns-in_default
returns-in_default c = absurd (unmapped (pages_of c.args.self.now.pages) c.args.at
    (sym c.in_default.ensures.value) c.requires.may)
