-- The first fault of an entry is the first boundary at which a rule fails, with the first rule.
use Rattle.std.proofs.Common.{◌≡◌, ℕ, ◌+◌, ◌-◌, ◌^◌, ◌<◌, ◌≤◌, Bool, true, false, ◌&&◌, ◌||◌, eqb, leb, if◌then◌else◌, List, [], ◌∷◌, Option, Some, None, refl, sym, ap, subst, ◌∙◌, arith, inl, inr}
use Rattle.std.proofs.lemmas.Bool.{false≢true, and_parts, and_from, or_cases, eqb-true, eq-eqb, le-leb, leb-true, leb-false, or_right}
use Rattle.flat_memory.specs.Memory.{Memory}
use Rattle.eh_tables.specs.Infos.{Info}
use Rattle.virtual_unwind.specs.Undone.{operations}
use Rattle.virtual_unwind.specs.Tail.{FetchedInstr, fetched_at}
use Rattle.frame_rules.specs.Codes.{is_ordered}
use Rattle.frame_rules.specs.Validated.{turned}
use Rattle.frame_rules.specs.States.{HasItems}
use Rattle.frame_rules.proofs.Tails.{items_rise}
use Rattle.unwind_check.specs.declared.rule.Rule.{Rule}
use Rattle.unwind_check.specs.declared.rule.Rule.TheVariants.{Decode, Chain, Codes, Prologue, StackWrite, Unsaved, Epilogue}
use Rattle.unwind_check.specs.declared.rule.Fault.{Fault}
use Rattle.unwind_check.specs.Boundaries.{IsBoundary, fault, unless, or_next}
use Rattle.unwind_tails.specs.Instructions.{is_some}
use Rattle.unwind_check.specs.Codes.{keep_codes}
use Rattle.unwind_check.specs.Bodies.{body_from}
use Rattle.unwind_check.specs.Chains.{names_entry, is_secondary, is_fragment, keeps_chain, primary}
use Rattle.unwind_check.specs.Faults.{prologue_end, prologue_of, body_of, site, begins, parts_fault, codes_fault, fragment_fault, entry_fault}
use Rattle.unwind_check.specs.FailingRules.{CodeEntry, body_begin, primary_of, prologue_instrs, HasInstr, Fails, FailsDecode, FailsPrologue, place_of, AreFaults, FaultsAreFirst}
use Rattle.unwind_check.proofs.Boundaries.{Stopped, stopped, faults_are_at_boundaries}
use Rattle.unwind_check.proofs.Chains.{secondary}
use Rattle.unwind_check.proofs.Reached.{StandsAt, Beyond, beyond, within}
use Rattle.unwind_check.proofs.Stepped.{stepped}
use Rattle.unwind_check.proofs.BodyPlaces.{at_or_below, up_to_or_above, HasGoodPrologue, Passed}
use Rattle.unwind_check.proofs.FirstAnswers.{IsAnswer, at_begin, none_fault, some_fault, no_first}
use Rattle.unwind_check.proofs.FirstBodies.{body_first, body_fails}
use Rattle.unwind_check.proofs.FirstPrologues.{none_at_stop, prologue_answer, other_fault, lacks_fault, IsKind, kind}

module _ (e : CodeEntry) (rise : e.begin < e.to) (low : e.to < 2 ^ 63) where
  abbrev m : Memory
  m = e.memory

  abbrev i : Info
  i = e.info

  abbrev begin : ℕ
  begin = e.begin

  abbrev mid : ℕ
  mid = body_begin e

  abbrev end : ℕ
  end = prologue_end e.begin e.to e.info

  end_is : mid ≤ e.to → end ≡ mid
  end_is le = ap (λ b. if b then mid else e.to) (le-leb mid e.to le)

  -- ---- where the prologue stops, and what follows it

  prologue_stop : mid ≤ e.to → Stopped m begin end (prologue_of m begin e.to i)
  prologue_stop le = let z = end_is le in
      stopped (end - begin) m begin end (omega (arith, z))

  prologue_none : (le : mid ≤ e.to) → StandsAt m (prologue_stop le).stop mid → ⊥
  prologue_none le s =
      let z = end_is le in
      none_at_stop (end - begin) m begin end (prologue_stop le).stop (omega (arith, z))
      (prologue_stop le).items (subst (λ k. StandsAt m (prologue_stop le).stop k) (sym z) s)

  body_stop : mid ≤ e.to → Stopped m end e.to (body_of m begin e.to i)
  body_stop le = let z = end_is le in stopped (e.to - end) m end e.to (omega (arith, z, le))

  body_none : (le : mid ≤ e.to) → StandsAt m (body_stop le).stop e.to → ⊥
  body_none le s = let z = end_is le in
      none_at_stop (e.to - end) m end e.to (body_stop le).stop (omega (arith, z, le))
      (body_stop le).items s

  -- ---- the first byte

  has_begun : (le : mid ≤ e.to) → HasInstr e begin → begins m begin e.to i ≡ true
  has_begun le has = and_from (leb mid e.to) (is_some (prologue_of m begin e.to i).items
      || (eqb end begin && is_some (body_of m begin e.to i).items)) (le-leb mid e.to le)
      (elim has.apart [
        | inl before ↦ ap (λ b. b || (eqb end begin && is_some (body_of m begin e.to i).items))
            (by_prologue before (is_some (prologue_of m begin e.to i).items) refl)
        | inr after ↦ or_right (is_some (prologue_of m begin e.to i).items)
            (eqb end begin && is_some (body_of m begin e.to i).items)
            (and_from (eqb end begin) (is_some (body_of m begin e.to i).items)
            (eq-eqb end begin (let z = end_is le in omega (arith, z, after)))
            (by_body after (is_some (body_of m begin e.to i).items) refl))
      ])
    where
      by_prologue : begin + has.item.size ≤ mid → (b : Bool)
          → is_some (prologue_of m begin e.to i).items ≡ b → b ≡ true
      by_prologue before true q = refl
      by_prologue before false q =
          let s = prologue_stop le in
          let z = no_first m begin (prologue_of m begin e.to i).items s.stop s.items q in
          absurd (prologue_none le (record {
            item = has.item;
            there = subst (λ k. fetched_at m k ≡ Some has.item) z has.there;
            sized = has.sized;
            inside = subst (λ k. k + has.item.size ≤ mid) z before;
          }))

      by_body : mid ≤ begin → (b : Bool) → is_some (body_of m begin e.to i).items ≡ b → b ≡ true
      by_body after true q = refl
      by_body after false q =
          let s = body_stop le in
          let y = end_is le in
          let z = no_first m end (body_of m begin e.to i).items s.stop s.items q in
          let same : begin ≡ s.stop = omega (arith, y, z, after) in
          absurd (body_none le (record {
            item = has.item;
            there = subst (λ k. fetched_at m k ≡ Some has.item) same has.there;
            sized = has.sized;
            inside = subst (λ k. k + has.item.size ≤ e.to) same has.inside;
          }))

  decode_fails : begins m begin e.to i ≡ false → FailsDecode e begin
  decode_fails none = go (leb mid e.to) refl
    where
      go : (b : Bool) → leb mid e.to ≡ b → FailsDecode e begin
      go true q = inl (λ has. false≢true (sym none ∙ has_begun (leb-true mid e.to q) has))
      go false q = inr (refl, leb-false mid e.to q)

  -- ---- past a prologue in which no rule fails

  good_prologue : (le : mid ≤ e.to) → ((at : ℕ) → Fails e at Chain → ⊥)
      → ((at : ℕ) → Fails e at Codes → ⊥) → ((at : ℕ) → Fails e at Prologue → ⊥)
      → HasGoodPrologue e (body_stop le).stop (body_of m begin e.to i).is_whole
  good_prologue le chain codes prologue = record {
    low = low;
    inside = le;
    chain = chain;
    codes = codes;
    prologue = prologue;
    most = (body_stop le).most;
    none = body_none le;
    full = (body_stop le).full;
  }

  passed : mid ≤ e.to → Passed e end [] 0
  passed le = record {
    done = [];
    reached = sym (end_is le);
    loads = refl;
    ahead = [];
    end = end;
    going = refl;
    count = refl;
    older = λ o before r all fin h lt t a s.
        let up = items_rise m mid before o h in
        let z = end_is le in
        absurd (omega (arith, up, z, lt));
    own = λ z. absurd (omega (arith, z));
  }

  -- where no rule fails before its first instruction
  body_answer : (le : mid ≤ e.to)
      → HasGoodPrologue e (body_stop le).stop (body_of m begin e.to i).is_whole
      → ((b : ℕ) (r : Rule) → IsBoundary m begin e.to b → Fails e b r → Beyond m end b)
      → IsAnswer e (body_from m (primary_of e) (body_of m begin e.to i).is_whole
      (body_of m begin e.to i).items end [] 0)
  body_answer le good past = record {
    fails = λ f is. body_fails e (body_stop le).stop (body_of m begin e.to i).is_whole good
        (body_of m begin e.to i).items end [] 0 (let z = end_is le in omega (arith, z)) (passed le)
        (body_stop le).items f is;
    first = λ b r at h.
        let more = past b r at h in
        body_first e (body_stop le).stop (body_of m begin e.to i).is_whole good
        (body_of m begin e.to i).items end [] 0 (let z = end_is le in omega (arith, z)) (passed le)
        (body_stop le).items more.left b more.items at.inside r h;
  }

  -- with a prologue inside the entry and an instruction at its first byte
  module _ (le : mid ≤ e.to) (begun : begins m begin e.to i ≡ true) where
    first_of_prologue : (xs : List FetchedInstr) (stop : ℕ) → HasItems m begin xs stop → stop ≤ mid
        → is_some xs ≡ true → HasInstr e begin
    first_of_prologue [] stop h most s = absurd (false≢true s)
    first_of_prologue (x ∷ xs) stop h most s =
        let up = items_rise m (begin + x.size) xs stop h.2 in
        record {
          item = x;
          there = h.0;
          sized = h.1;
          inside = omega (arith, up, most, le);
          apart = inl (omega (arith, up, most));
        }

    first_of_body : (xs : List FetchedInstr) (stop : ℕ) → HasItems m end xs stop → stop ≤ e.to
        → end ≡ begin → is_some xs ≡ true → HasInstr e begin
    first_of_body [] stop h most same s = absurd (false≢true s)
    first_of_body (x ∷ xs) stop h most same s =
        let up = items_rise m (end + x.size) xs stop h.2 in
        let z = end_is le in
        record {
          item = x;
          there = subst (λ k. fetched_at m k ≡ Some x) same h.0;
          sized = h.1;
          inside = omega (arith, up, most, same);
          apart = inr (omega (arith, z, same));
        }

    has_first : HasInstr e begin
    has_first =
        let z = end_is le in
        let a = and_parts (leb mid e.to) (is_some (prologue_of m begin e.to i).items
        || (eqb end begin && is_some (body_of m begin e.to i).items)) begun in
        elim (or_cases (is_some (prologue_of m begin e.to i).items)
        (eqb end begin && is_some (body_of m begin e.to i).items) a.1) [
          | inl p ↦
              let s = prologue_stop le in
              let most = s.most in
              first_of_prologue (prologue_of m begin e.to i).items s.stop s.items
              (omega (arith, most, z)) p
          | inr b ↦
              let c = and_parts (eqb end begin) (is_some (body_of m begin e.to i).items) b in
              let s = body_stop le in
              first_of_body (body_of m begin e.to i).items s.stop s.items s.most
              (eqb-true end begin c.0) c.1
        ]

    no_decode : FailsDecode e begin → ⊥
    no_decode (inl none) = none has_first
    no_decode (inr past) = let a = past.1 in omega (arith, a, le)

    at_chain : keeps_chain e.ranges i e.parents ≡ false → IsAnswer e (fault begin Chain)
    at_chain other = at_begin e Chain (refl, other) none
      where
        none : (r : Rule) → place_of r < 1 → Fails e begin r → ⊥
        none Decode lt h = no_decode h
        none Chain lt h = absurd (omega (arith, lt))
        none Codes lt h = absurd (omega (arith, lt))
        none Prologue lt h = absurd (omega (arith, lt))
        none StackWrite lt h = absurd (omega (arith, lt))
        none Unsaved lt h = absurd (omega (arith, lt))
        none Epilogue lt h = absurd (omega (arith, lt))

    module _ (single : e.parents ≡ []) where
      unchained : keeps_chain e.ranges i e.parents ≡ false → ⊥
      unchained other =
          false≢true (sym other ∙ ap (keeps_chain e.ranges i) single)

      -- it is judged by its own codes
      own : primary_of e ≡ i
      own = ap (primary i) single

      at_codes : keep_codes i (prologue_instrs e) ≡ false → IsAnswer e (fault begin Codes)
      at_codes bad = at_begin e Codes (single, refl, bad) none
        where
          none : (r : Rule) → place_of r < 2 → Fails e begin r → ⊥
          none Decode lt h = no_decode h
          none Chain lt h = unchained h.1
          none Codes lt h = absurd (omega (arith, lt))
          none Prologue lt h = absurd (omega (arith, lt))
          none StackWrite lt h = absurd (omega (arith, lt))
          none Unsaved lt h = absurd (omega (arith, lt))
          none Epilogue lt h = absurd (omega (arith, lt))

      module _ (kept : keep_codes i (prologue_instrs e) ≡ true) where
        before_prologue : (r : Rule) → place_of r < 3 → Fails e begin r → ⊥
        before_prologue Decode lt h = no_decode h
        before_prologue Chain lt h = unchained h.1
        before_prologue Codes lt h = false≢true (sym h.2 ∙ kept)
        before_prologue Prologue lt h = absurd (omega (arith, lt))
        before_prologue StackWrite lt h = absurd (omega (arith, lt))
        before_prologue Unsaved lt h = absurd (omega (arith, lt))
        before_prologue Epilogue lt h = absurd (omega (arith, lt))

        at_order : is_ordered (operations i.codes) ≡ false → IsAnswer e (fault begin Prologue)
        at_order bad = at_begin e Prologue (single, inl (refl, inl bad)) before_prologue

        module _ (ordered : is_ordered (operations i.codes) ≡ true) where
          -- ---- the prologue

          abbrev stop : ℕ
          stop = (prologue_stop le).stop

          stop_most : stop ≤ mid
          stop_most = let a = (prologue_stop le).most in let z = end_is le in omega (arith, a, z)

          -- before its stop no rule but Prologue fails
          by_prologue : (b : ℕ) (r : Rule) → IsBoundary m begin e.to b → b < stop → Fails e b r
              → (r ≡ Prologue) × (prologue_answer e ≡ fault b Prologue)
          by_prologue b r at lt h = go (within m begin
              (prologue_of m begin e.to i).items stop at.done b
              (prologue_stop le).items at.reached lt) r h
            where
              has : StandsAt m b stop → HasInstr e b
              has s =
                  let a = s.inside in
                  let k = stop_most in
                  record {
                    item = s.item;
                    there = s.there;
                    sized = s.sized;
                    inside = omega (arith, a, k, le);
                    apart = inl (omega (arith, a, k));
                  }

              late : mid ≤ b → ⊥
              late past = let k = stop_most in omega (arith, past, k, lt)

              go : StandsAt m b stop → (r : Rule) → Fails e b r
                  → (r ≡ Prologue) × (prologue_answer e ≡ fault b Prologue)
              go s Decode (inl none) = absurd (none (has s))
              go s Decode (inr past) = let a = past.1 in absurd (omega (arith, a, le))
              go s Chain h = absurd (unchained h.1)
              go s Codes h = absurd (false≢true (sym h.2 ∙ kept))
              go s Prologue (single, inl (z, inl out)) = absurd (false≢true (sym out ∙ ordered))
              go s Prologue (single, inl (z, inr lacks)) =
                  (refl, lacks_fault e lacks ∙ ap (λ k. fault k Prologue) (sym z))
              go s Prologue (single, inr other) = (refl, other_fault e b other)
              go s StackWrite h = absurd (late h.is.past)
              go s Unsaved h = absurd (late h.is.past)
              go s Epilogue h = absurd (late h.past)

          in_prologue : (f : Fault) → prologue_answer e ≡ Some f → IsAnswer e (Some f)
          in_prologue f is = go (kind e stop f 0 (turned [] i.codes) (prologue_instrs e)
              (subst (λ a. HasItems m a (prologue_instrs e) stop) zero_more
              (prologue_stop le).items)
              (λ k ds zs l. l) is)
            where
              zero_more : begin ≡ begin + 0
              zero_more = omega arith

              same : (y : Fault) → Some f ≡ Some y → f ≡ y
              same y q = cc

              earlier : (b : ℕ) (r : Rule) → IsBoundary m begin e.to b → b < stop → Fails e b r
                  → (f.at ≡ b) × ((f.rule ≡ Prologue) × (r ≡ Prologue))
              earlier b r at lt h =
                  let p = by_prologue b r at lt h in
                  let q = some_fault (prologue_answer e) f b Prologue is p.1 in
                  (ap (λ (z : Fault). z.at) q, (ap (λ (z : Fault). z.rule) q, p.0))

              go : IsKind e stop f → IsAnswer e (Some f)
              go (inl (q, lacks)) = subst (λ (z : Fault). IsAnswer e (Some z)) (sym q)
                  (at_begin e Prologue (single, inl (refl, inr lacks)) before_prologue)
              go (inr (inl (rule, (other, lt)))) = record {
                fails = λ y q. subst (λ (z : Fault). Fails e z.at z.rule) (same y q)
                    (subst (λ (r : Rule). Fails e f.at r) (sym rule) (single, inr other));
                first = λ b r at h. elim (up_to_or_above b f.at) [
                  | inr below ↦ inl below
                  | inl up ↦
                      let p = earlier b r at (omega (arith, up, lt)) h in
                      inr (p.0, same_place f.rule r p.1.0 p.1.1)
                ];
              }
                where
                  same_place : (a c : Rule) → a ≡ Prologue → c ≡ Prologue → place_of a ≤ place_of c
                  same_place a c q t =
                      let x = ap place_of q in
                      let y = ap place_of t in
                      omega (arith, x, y)
              go (inr (inr (rule, (short, at_stop)))) = record {
                fails = λ y q. subst (λ (z : Fault). Fails e z.at z.rule) (same y q)
                    (subst (λ (r : Rule). Fails e f.at r) (sym rule) (inl no_instr));
                first = λ b r at h. elim (up_to_or_above stop b) [
                  | inl up ↦ elim (at_or_below stop b up) [
                    | inl z ↦
                        let p = ap place_of rule in
                        inr (at_stop ∙ z, omega (arith, p))
                    | inr lt ↦ inl (omega (arith, at_stop, lt))
                  ]
                  | inr lt ↦ absurd (other_rule (earlier b r at lt h).1.0)
                ];
              }
                where
                  other_rule : f.rule ≡ Prologue → ⊥
                  other_rule q =
                      let x = ap place_of q in
                      let y = ap place_of rule in
                      omega (arith, x, y)

                  no_instr : HasInstr e f.at → ⊥
                  no_instr has = elim has.apart [
                    | inl before ↦ prologue_none le (record {
                      item = has.item;
                      there = subst (λ k. fetched_at m k ≡ Some has.item) at_stop has.there;
                      sized = has.sized;
                      inside = subst (λ k. k + has.item.size ≤ mid) at_stop before;
                    })
                    | inr after ↦
                        let a = (prologue_stop le).short short in
                        let z = end_is le in
                        absurd (omega (arith, a, z, at_stop, after))
                  ]

          -- ---- past the prologue

          module _ (none : prologue_answer e ≡ None) where
            whole : stop ≡ end
            whole = (prologue_stop le).full (stepped (site m e.probe begin i)
                (prologue_of m begin e.to i).is_whole 0 (turned [] i.codes)
                (prologue_instrs e) none).ends

            no_prologue : (at : ℕ) → FailsPrologue e at → ⊥
            no_prologue at (inl (z, inl out)) = false≢true (sym out ∙ ordered)
            no_prologue at (inl (z, inr lacks)) =
                none_fault (prologue_answer e) begin Prologue none (lacks_fault e lacks)
            no_prologue at (inr other) =
                none_fault (prologue_answer e) at Prologue none (other_fault e at other)

            good : HasGoodPrologue e (body_stop le).stop (body_of m begin e.to i).is_whole
            good = good_prologue le (λ at h. unchained h.1) (λ at h. false≢true (sym h.2 ∙ kept))
                (λ at h. no_prologue at h.1)

            in_body : IsAnswer e (body_from m i (body_of m begin e.to i).is_whole
                (body_of m begin e.to i).items end [] 0)
            in_body = subst (λ (p : Info). IsAnswer e (body_from m p
                (body_of m begin e.to i).is_whole (body_of m begin e.to i).items end [] 0)) own
                (body_answer le good (λ b r at h. elim (up_to_or_above end b) [
                  | inl up ↦
                      let more = beyond m begin (prologue_of m begin e.to i).items stop at.done b
                      (prologue_stop le).items at.reached (let w = whole in omega (arith, w, up)) in
                      subst (λ k. Beyond m k b) whole more
                  | inr lt ↦ absurd (none_fault (prologue_answer e) b Prologue none
                      (by_prologue b r at (let w = whole in omega (arith, w, lt)) h).1)
                ]))

          parts : (o : Option Fault) → prologue_answer e ≡ o → IsAnswer e (or_next o
              (body_from m i (body_of m begin e.to i).is_whole
              (body_of m begin e.to i).items end [] 0))
          parts None is = in_body is
          parts (Some f) is = in_prologue f is

        by_order : (b : Bool) → is_ordered (operations i.codes) ≡ b
            → IsAnswer e (or_next (unless b begin Prologue) (parts_fault m e.probe begin e.to i))
        by_order true q = parts q (prologue_answer e) refl
        by_order false q = at_order q

      by_codes : (b : Bool) → keep_codes i (prologue_instrs e) ≡ b
          → IsAnswer e (or_next (unless b begin Codes) (or_next
          (unless (is_ordered (operations i.codes)) begin Prologue)
          (parts_fault m e.probe begin e.to i)))
      by_codes true q = by_order q (is_ordered (operations i.codes)) refl
      by_codes false q = at_codes q

    -- ---- an entry that is chained

    module _ (p : Info) (ps : List Info) (chained : e.parents ≡ p ∷ ps) where
      not_single : e.parents ≡ [] → ⊥
      not_single z = differ (sym chained ∙ z)
        where
          differ : (let qs : List Info = p ∷ ps in qs) ≡ [] → ⊥
          differ z = absurd cc

      -- without codes and prologue it is all body
      no_prologue_bytes : is_fragment e.ranges i p ≡ true → end ≡ begin
      no_prologue_bytes is =
          let z = end_is le in
          let s = (secondary i p (and_parts (names_entry e.ranges i.parent) (is_secondary i p)
          is).1).prologue in
          omega (arith, z, s)

      by_fragment : (b : Bool) → is_fragment e.ranges i p ≡ b
          → IsAnswer e (fragment_fault m begin e.to i p b)
      by_fragment false q = at_chain (ap (keeps_chain e.ranges i) chained ∙ q)
      by_fragment true q = subst (λ (x : Info). IsAnswer e (body_from m x
          (body_of m begin e.to i).is_whole (body_of m begin e.to i).items end [] 0))
          (ap (primary i) chained)
          (body_answer le (good_prologue le
          (λ at h. false≢true (sym h.1 ∙ ap (keeps_chain e.ranges i) chained ∙ q))
          (λ at h. not_single h.0) (λ at h. not_single h.0))
          (λ b r at h. record {
            left = at.done;
            items = subst (λ k. HasItems m k at.done b) (sym (no_prologue_bytes q)) at.reached;
          }))

  -- ---- all rules

  inside : begins m begin e.to i ≡ true → mid ≤ e.to
  inside begun = leb-true mid e.to (and_parts (leb mid e.to)
      (is_some (prologue_of m begin e.to i).items
      || (eqb end begin && is_some (body_of m begin e.to i).items)) begun).0

  by_decode : (o : Option Fault) → (begins m begin e.to i ≡ true → IsAnswer e o) → (b : Bool)
      → begins m begin e.to i ≡ b → IsAnswer e (or_next (unless b begin Decode) o)
  by_decode o more true q = more q
  by_decode o more false q = at_begin e Decode (decode_fails q)
      (λ r lt h. absurd (omega (arith, lt)))

  by_parents : (ps : List Info) → e.parents ≡ ps
      → IsAnswer e (entry_fault m e.probe e.ranges begin e.to i ps)
  unfolding entry_fault
  by_parents [] q = by_decode (codes_fault m e.probe begin e.to i)
      (λ begun. by_codes (inside begun) begun q (keep_codes i (prologue_instrs e)) refl)
      (begins m begin e.to i) refl
  by_parents (p ∷ ps) q = by_decode (fragment_fault m begin e.to i p (is_fragment e.ranges i p))
      (λ begun. by_fragment (inside begun) begun p ps q (is_fragment e.ranges i p) refl)
      (begins m begin e.to i) refl

  pub answer : AreFaults e (entry_fault m e.probe e.ranges begin e.to i e.parents)
  answer = go (entry_fault m e.probe e.ranges begin e.to i e.parents) refl
      (by_parents e.parents refl)
    where
      go : (o : Option Fault) → entry_fault m e.probe e.ranges begin e.to i e.parents ≡ o
          → IsAnswer e o → AreFaults e o
      go None q a = a.first
      go (Some f) q a = record {
        boundary = faults_are_at_boundaries m e.probe e.ranges begin e.to i e.parents f rise q;
        fails = a.fails f refl;
        first = a.first;
      }

pub faults_are_first : FaultsAreFirst
faults_are_first e rise low = answer e rise low
