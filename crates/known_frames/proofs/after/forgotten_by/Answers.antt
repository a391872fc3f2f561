use Rattle.std.proofs.Common.{rules, arith, ◌≡◌, length, List, [], ◌∷◌}
use Rattle.frame_known.specs.declared.known.Known.{Known}
use Rattle.frame_known.specs.Measured as measured
use Rattle.known_frames.specs.Views.{registers_of}
use Rattle.known_frames.proofs.Kept.{up, four_made, nothing_past}
use Rattle.known_frames.proofs.after.forgotten_by.Goals as goal

pub returns : goal.returns
returns c =
    let ks = c.args.registers.now in
    let f = measured.forgotten_by c.args.general (registers_of ks) in
    let n : length ks ≡ 16 = search rules in
    let x : List Known =
    c.one-13.result ∷ c.one-14.result ∷ c.one-15.result ∷ c.one-16.result ∷ [] in
    let y : List Known =
    c.one-9.result ∷ c.one-10.result ∷ c.one-11.result ∷ c.one-12.result ∷ x in
    let z : List Known = c.one-5.result ∷ c.one-6.result ∷ c.one-7.result ∷ c.one-8.result ∷ y in
    four_made f c.one.result c.one-2.result c.one-3.result c.one-4.result z c.one.ensures
    c.one-2.ensures c.one-3.ensures c.one-4.ensures
    (four_made (λ r. f (up r)) c.one-5.result c.one-6.result c.one-7.result c.one-8.result y
    c.one-5.ensures c.one-6.ensures c.one-7.ensures c.one-8.ensures
    (four_made (λ r. f (up (up r))) c.one-9.result c.one-10.result c.one-11.result c.one-12.result
    x c.one-9.ensures c.one-10.ensures c.one-11.ensures c.one-12.ensures
    (four_made (λ r. f (up (up (up r)))) c.one-13.result c.one-14.result c.one-15.result
    c.one-16.result [] c.one-13.ensures c.one-14.ensures c.one-15.ensures c.one-16.ensures
    (λ r. nothing_past c.args.general ks (up (up (up (up r)))) n (omega arith)))))
