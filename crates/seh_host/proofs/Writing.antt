-- What turns have written, one after another.
use Rattle.std.proofs.Common.{◌≡◌, ℕ, suc, ◌+◌, ◌-◌, ◌≤◌, ◌<◌, Bool, true, false, List, [], ◌++◌, Option, Some, refl, sym, ap, subst, ◌∙◌, arith, inl, inr, append_assoc}
use Rattle.std.proofs.lemmas.Bool.{cases_Bool, true≢false}
use Rattle.std.proofs.lemmas.List.{append-nil}
use Rattle.seh_host.specs.Words.{RunEnd, named_by, image_named, lines, end_line, text, Writer, writer_of, Wrote, TookEvents, TookPart, Functions, Host, Live, Ended, end_of, Running, made, shown_made, after_turn, shown_of, run_of, run_names, answer_of, end_within}
use Rattle.seh_num.specs.declared.event.Event.{Event}
use Rattle.seh_num.specs.Shown.{Shown}
use Rattle.seh_io.specs.Streams.{Faults, Grew}
use Rattle.pe_image.specs.NameRows.{NameRow}
use Rattle.seh_host.specs.declared.names.ImageNames.{ImageNames}
use Rattle.seh_io.specs.declared.receiver.Lines.{Lines}
use Rattle.seh_io.specs.Successive.{wrote_more, took_none, took_more, lines_append}
use Rattle.seh_host.proofs.Lemmas.{wrote_nothing, ran_part}
use Rattle.host_model.specs.declared.funclet.Funclet.{Funclet}
use Rattle.host_model.specs.Laws.{after_turns, shown_in_turns}
use Rattle.host_model.proofs.TurnsMade.{after_one_more, shown_one_more, after_more, shown_more, ends_stay, runs_are_turns}
use Rattle.seh_host.specs.declared.host.Turn.TheVariants as turns
use Rattle.seh_host.specs.Writing.{Stopped, StoppedText, Written}

-- ---- turns made

abbrev with_host : Running → Host → Running
with_host r h = record r { host = h }

pub one_more : (n m : ℕ) (r : Running) → m ≡ n + 1 → made m r ≡ after_turn (made n r)
one_more n m r e =
    let one : m ≡ suc n = omega arith in
    ap (λ k. made k r) one ∙ ap (with_host r) (after_one_more r.functions r.funclets n r.host)

pub shown_by_one : (n m : ℕ) (r : Running) → m ≡ n + 1
    → shown_made m r ≡ shown_made n r ++ shown_of (made n r)
shown_by_one n m r e =
    let one : m ≡ suc n = omega arith in
    ap (λ k. shown_made k r) one ∙ shown_one_more r.functions r.funclets n r.host

-- a host that has ended stays so
still : (f : Functions) (fs : List Funclet) (n : ℕ) (h : Host) → turns.Ended ≡ answer_of h
    → (after_turns f fs n h ≡ h) × (shown_in_turns f fs n h ≡ [])
still f fs n (Live s) e = absurd cc
still f fs n (Ended x) e = let s = ends_stay f fs n x in (s.host, s.shown)

pub stays : (n m : ℕ) (r : Running) → turns.Ended ≡ answer_of (made n r).host → n ≤ m
    → (made m r ≡ made n r) × (shown_made m r ≡ shown_made n r)
stays n m r e le =
    let sum : m ≡ n + (m - n) = omega arith in
    let s = still r.functions r.funclets (m - n) (made n r).host e in (
      ap (λ k. made k r) sum ∙ ap (with_host r)
          (after_more r.functions r.funclets n (m - n) r.host ∙ s.0),
      ap (λ k. shown_made k r) sum ∙ shown_more r.functions r.funclets n (m - n) r.host
          ∙ ap (λ es. shown_made n r ++ es) s.1 ∙ append-nil (shown_made n r),
    )

-- ---- what is written of them

pub grew_then : (a b c : Option (List ℕ)) (xs ys : List ℕ) → Grew a xs b → Grew b ys c
    → Grew a (xs ++ ys) c
grew_then a b c xs ys p q before is = q (before ++ xs) (p before is)
    ∙ ap (λ (t : List ℕ). Some t) (append_assoc before xs ys)

-- the lines of some turns were taken whole, and perhaps a part of those of one more
pub taken_before : (x y z : Writer) (t u : List ℕ) → Wrote x t y → y.failed ≡ false → Wrote y u z
    → (more : List ℕ) × Grew x.taken (t ++ more) z.taken
taken_before x y z t u p is q = (
  q.part,
  grew_then x.taken y.taken z.taken t q.part
      (subst (λ s. Grew x.taken s y.taken) (p.whole is) p.grew) q.grew,
)

pub taken_whole : (x z : Writer) (t : List ℕ) → Wrote x t z → z.failed ≡ false
    → (more : List ℕ) × Grew x.taken (t ++ more) z.taken
taken_whole x z t p is = (
  [],
  subst (λ s. Grew x.taken s z.taken) (p.whole is ∙ sym (append-nil t))
      p.grew,
)

module _ (n k : ℕ) (trace : Bool) (r r' : Running) (x z : Writer) (le : k ≤ n)
    (host : r' ≡ made k r) (w : Wrote x (lines trace (shown_made k r) (run_names r)) z) where
  -- where a line couldn't be written, nothing is written of later ones
  later : z.failed ≡ true → Wrote x (lines trace (shown_made n r) (run_names r)) z
  later was =
      let rest = shown_in_turns r.functions r.funclets (n - k) (made k r).host in
      let sum : n ≡ k + (n - k) = omega arith in
      let all : shown_made n r ≡ shown_made k r ++ rest = ap (λ m. shown_made m r) sum
      ∙ shown_more r.functions r.funclets k (n - k) r.host in
      subst (λ t. Wrote x t z) (sym (ap (λ es. lines trace es (run_names r)) all
      ∙ lines_append trace (shown_made k r) rest (run_names r)))
      (wrote_more x z z (lines trace (shown_made k r) (run_names r))
      (lines trace rest (run_names r)) w
      (wrote_nothing z (lines trace rest (run_names r)) was))

  pub written : (z.failed ≡ false → (made n r ≡ made k r) × (shown_made n r ≡ shown_made k r))
      → (j : ℕ) → k ≤ j + 1 → (more : List ℕ)
      × Grew x.taken (lines trace (shown_made j r) (run_names r) ++ more) z.taken
      → Written n trace r x r' z
  written all j last before = record {
    stopped = record {
      turns_made = k;
      within = le;
      host = host;
      whole = j;
      last = last;
      before = before;
    };
    made_lines = w;
    all = λ is. host ∙ sym (all is).0;
    wrote = elim (cases_Bool z.failed) [
      | inl was ↦ later was
      | inr is ↦ subst
          (λ es. Wrote x (lines trace es (run_names r)) z) (sym (all is).1) w
    ];
  }

-- ---- one turn more, with the lines of what it shows

-- lines with the names of what runs
lines_named : {X : Type 0} (taken : X → Option (List ℕ)) (faults : X → Faults)
    (l n : Lines X ImageNames) (rows : List NameRow) (es : List Event) → l.names.now.table ≡ rows
    → TookEvents taken faults image_named l es n
    → Wrote (writer_of taken faults l) (lines l.trace es (named_by rows)) (writer_of taken faults n)
lines_named taken faults l n rows es same took =
    subst (λ (named : List NameRow). Wrote (writer_of taken faults l)
    (lines l.trace es (named_by named)) (writer_of taken faults n)) same took.wrote

module _ {X : Type 0} (taken : X → Option (List ℕ)) (faults : X → Faults)
    (l0 l n : Lines X ImageNames) (count i : ℕ) (r0 r r' : Running)
    (at : r ≡ made i r0) (is : l.failed ≡ false) (same : l0.names.now.table ≡ r0.functions.rows)
    (took : TookEvents taken faults image_named l0 (shown_made i r0) l) (goes : r' ≡ after_turn r)
    (shows : TookEvents taken faults image_named l (shown_of r) n) where
  pub next_host : r' ≡ made (i + 1) r0
  next_host = goes ∙ ap after_turn at ∙ sym (one_more i (i + 1) r0 refl)

  pub next_took : TookEvents taken faults image_named l0 (shown_made (i + 1) r0) n
  next_took =
      subst (λ es. TookEvents taken faults image_named l0 es n)
      (ap (λ (s : Running). shown_made i r0 ++ shown_of s) at
      ∙ sym (shown_by_one i (i + 1) r0 refl))
      (took_more taken faults image_named l0 l n (shown_made i r0) (shown_of r) took shows)

  next_wrote : Wrote (writer_of taken faults l0)
      (lines l0.trace (shown_made (i + 1) r0) (run_names r0))
      (writer_of taken faults n)
  next_wrote =
      lines_named taken faults l0 n r0.functions.rows (shown_made (i + 1) r0) same next_took

  before_it : (more : List ℕ)
      × Grew (taken l0.sink.now) (lines l0.trace (shown_made i r0) (run_names r0) ++ more)
      (taken n.sink.now)
  before_it =
      taken_before (writer_of taken faults l0) (writer_of taken faults l) (writer_of taken faults n)
      (lines l0.trace (shown_made i r0) (run_names r0))
      (lines l.trace (shown_of r) (image_named l.names.now))
      (lines_named taken faults l0 l r0.functions.rows (shown_made i r0) same took) is shows.wrote

  pub stops : i < count → n.failed ≡ true → Written count l0.trace r0 (writer_of taken faults l0) r'
      (writer_of taken faults n)
  stops lt was =
      written count (i + 1) l0.trace r0 r' (writer_of taken faults l0) (writer_of taken faults n)
      (omega arith) next_host next_wrote
      (λ not. absurd (true≢false (sym was ∙ not))) i (omega arith) before_it

  pub over : i < count → turns.Ended ≡ answer_of r.host
      → Written count l0.trace r0 (writer_of taken faults l0) r' (writer_of taken faults n)
  over lt ended =
      let e : turns.Ended ≡ answer_of (made i r0).host = ended
      ∙ ap (λ (s : Running). answer_of s.host) at in
      let far = stays i count r0 e (omega arith) in
      let near = stays i (i + 1) r0 e (omega arith) in
      written count (i + 1) l0.trace r0 r' (writer_of taken faults l0) (writer_of taken faults n)
      (omega arith) next_host next_wrote
      (λ _. (far.0 ∙ sym near.0, far.1 ∙ sym near.1)) i (omega arith) before_it

-- all turns made
pub all_made : {X : Type 0} (taken : X → Option (List ℕ)) (faults : X → Faults)
    (l0 n : Lines X ImageNames) (count i : ℕ) (r0 r' : Running)
    → i ≡ count → r' ≡ made i r0 → n.failed ≡ false
    → l0.names.now.table ≡ r0.functions.rows
    → TookEvents taken faults image_named l0 (shown_made i r0) n
    → Written count l0.trace r0 (writer_of taken faults l0) r' (writer_of taken faults n)
all_made taken faults l0 n count i r0 r' e host is same took =
    let host' : r' ≡ made count r0 = host ∙ ap (λ k. made k r0) e in
    let took' = subst (λ k. TookEvents taken faults image_named l0 (shown_made k r0) n) e took in
    let wrote = lines_named taken faults l0 n r0.functions.rows (shown_made count r0) same took' in
    written count count l0.trace r0 r' (writer_of taken faults l0) (writer_of taken faults n)
    (omega arith) host' wrote
    (λ _. (refl, refl)) count (omega arith) (taken_whole (writer_of taken faults l0)
    (writer_of taken faults n) (lines l0.trace (shown_made count r0) (run_names r0)) wrote is)

-- before the first
pub none_made : (r : Running) → r ≡ made 0 r
unfolding after_turns
none_made r = refl

pub none_taken : {X : Type 0} (taken : X → Option (List ℕ)) (faults : X → Faults)
    (l : Lines X ImageNames) (r : Running)
    → TookEvents taken faults image_named l (shown_made 0 r) l
unfolding shown_in_turns
none_taken taken faults l r = took_none taken faults image_named l

-- ---- the end's line, after the lines of turns

-- where a whole text was written, the writer hadn't failed before
pub before_ok : (y z : Writer) (u : List ℕ) → Wrote y u z → z.failed ≡ false → y.failed ≡ false
before_ok y z u q is = elim (cases_Bool y.failed) [
  | inl was ↦ absurd (true≢false (sym (q.nothing was).1 ∙ is))
  | inr not ↦ not
]

-- the end that is answered is that of the run, where all lines of its turns were written
pub end_answered : (count : ℕ) (trace : Bool) (r r' : Running) (x y z : Writer) (u : List ℕ)
    → Written count trace r x r' y → Wrote y u z → z.failed ≡ false
    → end_of r'.host ≡ (run_of count r).end
end_answered count trace r r' x y z u w q is =
    ap (λ (s : Running). end_of s.host) (w.all (before_ok y z u q is))
    ∙ sym (ap (λ (s : Shown RunEnd). s.end) (runs_are_turns r.functions r.funclets count r.host []))

pub events_of : (count : ℕ) (r : Running) → shown_made count r ≡ (run_of count r).events
events_of count r = sym (ap (λ (s : Shown RunEnd). s.events)
    (runs_are_turns r.functions r.funclets count r.host []))

-- a writer that has failed writes nothing, whatever it is given
whatever : (y z : Writer) (u v : List ℕ) → Wrote y u z → y.failed ≡ true → Wrote y v z
whatever y z u v q was = record {
  part = q.part;
  begins = (v, ap (λ s. s ++ v) (sym (q.nothing was).0));
  grew = q.grew;
  whole = λ is. absurd (true≢false (sym (q.nothing was).1 ∙ is));
  nothing = q.nothing;
  cause = λ is. absurd (true≢false (sym was ∙ is));
  faultless = q.faultless;
  counted = q.counted;
}

-- what a failed run has written is a part of its text: lines of turns, and perhaps the end's
pub part_of_text : (count taken : ℕ) (trace : Bool) (r r' : Running) (x y z : Writer) (end : RunEnd)
    → Written count trace r x r' y → Wrote y (end_line end) z
    → end ≡ end_within count (end_of r'.host) → x.count ≡ 0 → taken ≡ z.count
    → TookPart x.taken
    (text (run_of count r).events (end_within count (run_of count r).end) trace (run_names r))
    z.taken taken
part_of_text count taken trace r r' x y z end w q is fresh e =
    subst (λ t. TookPart x.taken t z.taken taken)
    (ap (λ es. lines trace es (run_names r) ++ end_line (end_within count (run_of count r).end))
    (events_of count r))
    (ran_part x y z (lines trace (shown_made count r) (run_names r))
    (end_line (end_within count (run_of count r).end)) w.wrote last taken fresh e)
  where
    last : Wrote y (end_line (end_within count (run_of count r).end)) z
    last = elim (cases_Bool y.failed) [
      | inl was ↦ whatever y z (end_line end) (end_line (end_within count (run_of count r).end)) q
          was
      | inr not ↦
          let same : end ≡ end_within count (run_of count r).end = is
          ∙ ap (end_within count) (ap (λ (s : Running). end_of s.host) (w.all not)
          ∙ sym (ap (λ (s : Shown RunEnd). s.end)
          (runs_are_turns r.functions r.funclets count r.host []))) in
          subst (λ t. Wrote y (end_line t) z) same q
    ]

-- what a failed line left holds after the line of the end too
abbrev stopped_then : (count : ℕ) (trace : Bool) (r r' : Running) (x y z : Writer) (u : List ℕ)
    → Written count trace r x r' y → Wrote y u z → Stopped count trace r x.taken r' z.taken
stopped_then count trace r r' x y z u w q = record {
  turns_made = w.stopped.turns_made;
  within = w.stopped.within;
  host = w.stopped.host;
  whole = w.stopped.whole;
  last = w.stopped.last;
  before = (
    w.stopped.before.0 ++ q.part,
    subst (λ t. Grew x.taken t z.taken)
        (append_assoc (lines trace (shown_made w.stopped.whole r) (run_names r)) w.stopped.before.0
        q.part)
        (grew_then x.taken y.taken z.taken (lines trace (shown_made w.stopped.whole r) (run_names r)
        ++ w.stopped.before.0) q.part w.stopped.before.1 q.grew),
  );
}

-- and all that was taken is of the turns that were made, and of their end
pub stopped_text : (count taken : ℕ) (trace : Bool) (r r' : Running) (x y z : Writer) (end : RunEnd)
    → Written count trace r x r' y → Wrote y (end_line end) z
    → end ≡ end_within count (end_of r'.host) → x.count ≡ 0 → taken ≡ z.count
    → StoppedText count trace r x.taken r' z.taken
stopped_text count taken trace r r' x y z end w q is fresh e = record {
  stopped = stopped_then count trace r r' x y z (end_line end) w q;
  count = taken;
  front = ran_part x y z (lines trace (shown_made w.stopped.turns_made r) (run_names r))
      (end_line (end_within count (end_of r'.host))) w.made_lines
      (subst (λ last. Wrote y (end_line last) z) is q) taken fresh e;
}

pub same_stopped : (count : ℕ) (trace trace' : Bool) (r r' : Running) (a a' b b' : Option (List ℕ))
    → a ≡ a' → trace ≡ trace' → b ≡ b' → StoppedText count trace r a r' b
    → StoppedText count trace' r a' r' b'
same_stopped count trace trace' r r' a a' b b' e f k h =
    subst (λ c. StoppedText count trace' r c r' b') e
    (subst (λ t. StoppedText count t r a r' b') f
    (subst (λ c. StoppedText count trace r a r' c) k h))
