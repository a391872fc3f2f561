-- The first stream of a kind, entry by entry as a loop looks for it.
use Rattle.std.proofs.Common.{◌≡◌, ℕ, suc, ◌+◌, ◌-◌, ◌*◌, ◌<◌, true, false, cond, ◌==◌, List, find, Option, Some, sym, ap, ◌∙◌, arith}
use Rattle.std.proofs.lemmas.Bool.{eq-eqb, ne_eqb}
use Rattle.minidump.specs.declared.stream_kind.StreamKind.{StreamKind}
use Rattle.minidump.specs.declared.structures.Stream.{Stream}
use Rattle.minidump.specs.declared.structures.Table.{Table}
use Rattle.minidump.specs.Streams.{stream_type, stream_at, streams_from}

-- the first of a kind from an index on
abbrev pub found_from : List ℕ → Table → StreamKind → ℕ → Option Stream
found_from bytes t kind k =
    find (λ s. s.stream_type == stream_type kind) (streams_from bytes (t.count - k) (t.at + 12 * k))

-- it is the stream at that index, or one after it
pub found_more : (bytes : List ℕ) (t : Table) (kind : StreamKind) (k : ℕ) → k < t.count
    → found_from bytes t kind k
    ≡ cond ((stream_at bytes (t.at + 12 * k)).stream_type == stream_type kind)
    (Some (stream_at bytes (t.at + 12 * k))) (found_from bytes t kind (k + 1))
found_more bytes t kind k lt =
    let n : t.count - k ≡ suc (t.count - (k + 1)) = omega arith in
    let next : t.at + 12 * k + 12 ≡ t.at + 12 * (k + 1) = omega arith in
    ap (λ m. find (λ s. s.stream_type == stream_type kind) (streams_from bytes m (t.at + 12 * k))) n
    ∙ ap (λ a. cond ((stream_at bytes (t.at + 12 * k)).stream_type == stream_type kind)
    (Some (stream_at bytes (t.at + 12 * k)))
    (find (λ s. s.stream_type == stream_type kind) (streams_from bytes (t.count - (k + 1)) a))) next

-- a stream that was read at an index, and is of the kind
pub found_first : (bytes : List ℕ) (t : Table) (kind : StreamKind) (k : ℕ) (s : Stream)
    → k < t.count → s ≡ stream_at bytes (t.at + 12 * k) → s.stream_type ≡ stream_type kind
    → found_from bytes t kind k ≡ Some s
found_first bytes t kind k s lt read is =
    let test : ((stream_at bytes (t.at + 12 * k)).stream_type == stream_type kind) ≡ true =
    eq-eqb _ _ (sym (ap (λ (r : Stream). r.stream_type) read) ∙ is) in
    found_more bytes t kind k lt
    ∙ ap (λ b. cond b (Some (stream_at bytes (t.at + 12 * k))) (found_from bytes t kind (k + 1)))
    test ∙ ap (λ (r : Stream). Some r) (sym read)

-- one that isn't
pub found_later : (bytes : List ℕ) (t : Table) (kind : StreamKind) (k : ℕ) (s : Stream)
    → k < t.count → s ≡ stream_at bytes (t.at + 12 * k) → (s.stream_type ≡ stream_type kind → ⊥)
    → found_from bytes t kind k ≡ found_from bytes t kind (k + 1)
found_later bytes t kind k s lt read not =
    let test : ((stream_at bytes (t.at + 12 * k)).stream_type == stream_type kind) ≡ false =
    ne_eqb _ _ (λ e. not (ap (λ (r : Stream). r.stream_type) read ∙ e)) in
    found_more bytes t kind k lt
    ∙ ap (λ b. cond b (Some (stream_at bytes (t.at + 12 * k))) (found_from bytes t kind (k + 1)))
    test
