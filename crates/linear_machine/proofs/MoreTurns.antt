-- What more turns of a program show.
use Rattle.std.proofs.Common.{◌≡◌, ℕ, ◌+◌, [], refl, ap, sym}
use Rattle.std.specs.Prelude.{slice_get, ℤ, Option, Some, None}
use Rattle.linear_machine.specs.Words.{LinearProgram, LinearFunction, Ended, IsPrefixOf, ShowsMore, EndStays, Seen, Running, Finished, Stuck, with_some, start, seen, shown, exec, linear_meaning}
use Rattle.linear_machine.proofs.Lemmas.{prefix_same}
use Rattle.linear_machine.proofs.RunLengths.{events_of, More, longer}

main_more : (program : LinearProgram) (arg : ℤ) (n k : ℕ) (o : Option LinearFunction)
    → More (with_some [] o (λ main. exec program n (start program arg main)))
    (with_some [] o (λ main. exec program (n + k) (start program arg main)))
unfolding with_some
main_more program arg n k None = refl
main_more program arg n k (Some main) = longer program n k (start program arg main)

seen_more : (program : LinearProgram) (arg : ℤ) (n k : ℕ)
    → More (seen program arg n) (seen program arg (n + k))
seen_more program arg n k = main_more program arg n k (slice_get program.functions program.main)

-- what is shown by fewer turns is the front
pub front : (a b : Seen) → More a b → IsPrefixOf (shown a).events (shown b).events
front (Running es) b m = m
front (Finished e es) b m = prefix_same es (events_of b) (ap events_of (sym m))
front (Stuck es) b m = prefix_same es (events_of b) (ap events_of (sym m))

stays : (a b : Seen) (e : Ended) → More a b → (shown a).end ≡ Some e → shown b ≡ shown a
stays (Running es) b e m h = absurd (cc)
stays (Finished x es) b e m h = ap shown m
stays (Stuck es) b e m h = ap shown m

pub shows_more : ShowsMore linear_meaning
shows_more program arg n k = front (seen program arg n) (seen program arg (n + k))
    (seen_more program arg n k)

pub end_stays : EndStays linear_meaning
end_stays program arg n k e h = stays (seen program arg n) (seen program arg (n + k)) e
    (seen_more program arg n k) h
