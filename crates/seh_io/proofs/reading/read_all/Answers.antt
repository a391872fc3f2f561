use Rattle.std.proofs.Common.{◌≡◌, ◌+◌, ℕ, ◌++◌, length, take, length-append, ap, ◌∙◌, arith, refl}
use Rattle.std.proofs.lemmas.List.{length-take}
use Rattle.seh_io.specs.Streams.{Faults}
use Rattle.seh_io.proofs.Moves.{lost_more, held_more}
use Rattle.seh_io.proofs.reading.read_all.Goals as goal

pub returns-then-count-room-clause-cause : goal.returns-then-count-room-clause-cause
returns-then-count-room-clause-cause g c =
    let front = take c.in-Ok.count c.read.new.buf in
    let lost = lost_more (g.S.Source.left c.args.src.now) (g.S.Source.left c.loop-count.src)
    (g.S.Source.left c.read.new.self) c.loop-count.bytes.items front c.loop-count.invariant.lost
    c.in-Ok.ensures.moved in
    let len : length (c.loop-count.bytes.items ++ front)
    ≡ c.args.limit + 1 = omega (
      arith,
      c.in-Ok.ensures.fits,
      length-append {A = ℕ},
      length-take {A = ℕ},
    ) in (
      refl,
      held_more (g.S.Source.left c.args.src.now) (g.S.Source.left c.read.new.self)
          (c.loop-count.bytes.items ++ front) c.args.limit lost (omega arith),
      (c.loop-count.bytes.items ++ front, len, lost),
      ap (λ (f : Faults). f.count) c.in-Ok.ensures.faultless
          ∙ c.loop-count.invariant.faultless,
    )

pub returns-then-count-room-clause-lost : goal.returns-then-count-room-clause-lost
returns-then-count-room-clause-lost g c =
    let front = take c.in-Ok.count c.read.new.buf in (
      c.loop-count.bytes.items ++ front,
      omega (arith, c.in-Ok.ensures.fits, length-append {A = ℕ}, length-take {A = ℕ}),
      lost_more (g.S.Source.left c.args.src.now) (g.S.Source.left c.loop-count.src)
          (g.S.Source.left c.read.new.self) c.loop-count.bytes.items front
          c.loop-count.invariant.lost
          c.in-Ok.ensures.moved,
    )

pub returns-then-is_err-clause-lost : goal.returns-then-is_err-clause-lost
returns-then-is_err-clause-lost g c =
    let front = take c.in-Ok.count c.read.new.buf in (
      c.loop-count.bytes.items ++ front,
      omega (arith, c.in-Ok.ensures.fits, length-append {A = ℕ}, length-take {A = ℕ}),
      lost_more (g.S.Source.left c.args.src.now) (g.S.Source.left c.loop-count.src)
          (g.S.Source.left c.read.new.self) c.loop-count.bytes.items front
          c.loop-count.invariant.lost
          c.in-Ok.ensures.moved,
    )
