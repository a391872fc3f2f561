-- An entry that is chained is a fragment of a function exactly where it has no fault.
use Rattle.std.proofs.Common.{◌≡◌, ℕ, ◌+◌, ◌-◌, ◌^◌, ◌<◌, Bool, true, false, ◌&&◌, ◌||◌, eqb, leb, List, [], ◌∷◌, None, refl, sym, ap, subst, ◌∙◌, arith}
use Rattle.std.specs.Prelude.{is_none}
use Rattle.std.proofs.lemmas.Bool.{and_parts, and_from, or_right, eq-eqb, le-leb}
use Rattle.flat_memory.specs.Memory.{Memory}
use Rattle.eh_tables.specs.declared.range.RuntimeFunction.{RuntimeFunction}
use Rattle.eh_tables.specs.Infos.{Info}
use Rattle.virtual_unwind.specs.Undone.{operations}
use Rattle.virtual_unwind.specs.Tail.{FetchedInstr}
use Rattle.frame_rules.specs.Body.{Body, following, is_body}
use Rattle.frame_rules.specs.States.{HasItems}
use Rattle.unwind_check.specs.declared.rule.Rule.TheVariants.{Decode, Chain}
use Rattle.unwind_tails.specs.Instructions.{Decoded, between, is_some}
use Rattle.unwind_check.specs.Boundaries.{unless}
use Rattle.unwind_check.specs.Bodies.{body_from}
use Rattle.unwind_check.specs.Chains.{names_entry, has_no_codes, is_secondary, is_fragment}
use Rattle.unwind_check.specs.Faults.{prologue_end, prologue_of, body_of, begins, fragment_fault, entry_fault}
use Rattle.unwind_check.specs.Fragments.{IsFragmentOf}
use Rattle.unwind_check.specs.FailingRules.{AreFaults}
use Rattle.unwind_check.specs.Laws.{HasRightFragment, RulesMakeFragments}
use Rattle.unwind_check.specs.RightFunctions.{RightFragmentsKeepRules}
use Rattle.unwind_check.proofs.Boundaries.{no_bytes}
use Rattle.unwind_check.proofs.Chains.{secondary, primary_alone}
use Rattle.unwind_check.proofs.Entries.{body_whole, kept_none}
use Rattle.unwind_check.proofs.FirstFaults.{faults_are_first}
use Rattle.unwind_check.proofs.Followed.{kept}
use Rattle.unwind_check.proofs.Parts.{no_fault, both_none, has_items}
use Rattle.unwind_check.proofs.RightBodies.{right_body}
use Rattle.unwind_check.proofs.RightEntries.{neither, passes}
use Rattle.unwind_check.proofs.RightPrologues.{decoded_whole}

-- ---- without a fault

pub faultless_is_fragment : (m : Memory) (probe : List ℕ) (rs : List RuntimeFunction)
    (begin to : ℕ) (i p : Info) (ps : List Info) → begin < to → to < 2 ^ 63
    → entry_fault m probe rs begin to i (p ∷ ps) ≡ None → HasRightFragment m begin to i p
unfolding entry_fault
faultless_is_fragment m probe rs begin to i p ps lt low h = go (is_fragment rs i p) refl
    (both_none (unless (begins m begin to i) begin Decode)
    (fragment_fault m begin to i p (is_fragment rs i p)) h).1
  where
    go : (b : Bool) → is_fragment rs i p ≡ b → fragment_fault m begin to i p b ≡ None
        → HasRightFragment m begin to i p
    go false q g = absurd (no_fault begin Chain g)
    go true q g =
        let s = (and_parts (names_entry rs i.parent) (is_secondary i p) q).1 in
        let f = secondary i p s in
        let xs = (body_of m begin to i).items in
        let middle = prologue_end begin to i in
        let there = has_items (to - middle) m middle to
        (body_whole m p (body_of m begin to i).is_whole xs middle [] 0 g) in
        record {
          fragment = f;
          function = primary_alone i p s;
          keeps = kept m p (body_of m begin to i).is_whole to low xs middle [] 0 there (omega arith)
              g;
          is_there = subst (λ k. HasItems m k xs to) (no_bytes begin to i lt f.prologue) there;
        }

pub rules_make_fragments : RulesMakeFragments
rules_make_fragments e p ps rise low chained keeps = faultless_is_fragment e.memory e.probe e.ranges
    e.begin e.to e.info p ps rise low
    (sym (ap (entry_fault e.memory e.probe e.ranges e.begin e.to e.info) chained)
    ∙ kept_none e rise low keeps)

-- ---- a right fragment

is_right : (i p : Info) → IsFragmentOf i p → p.parent ≡ None → is_secondary i p ≡ true
is_right i p f alone = and_from (is_none p.parent) (has_no_codes i.codes && (eqb i.prologue_size 0
    && (eqb i.frame_register p.frame_register && eqb i.frame_offset p.frame_offset)))
    (ap is_none alone)
    (and_from (has_no_codes i.codes) (eqb i.prologue_size 0
    && (eqb i.frame_register p.frame_register && eqb i.frame_offset p.frame_offset))
    (ap has_no_codes f.codes)
    (and_from (eqb i.prologue_size 0)
    (eqb i.frame_register p.frame_register && eqb i.frame_offset p.frame_offset)
    (eq-eqb i.prologue_size 0 f.prologue)
    (and_from (eqb i.frame_register p.frame_register) (eqb i.frame_offset p.frame_offset)
    (eq-eqb i.frame_register p.frame_register f.register)
    (eq-eqb i.frame_offset p.frame_offset f.offset))))

module _ (m : Memory) (probe : List ℕ) (rs : List RuntimeFunction) (begin to : ℕ) (i p : Info)
    (xs : List FetchedInstr) (named : names_entry rs i.parent ≡ true) (alone : p.parent ≡ None)
    (f : IsFragmentOf i p)
    (keeps : is_body (following p.frame_register p.frame_offset (operations p.codes) xs (Body []))
    ≡ true)
    (there : HasItems m begin xs to) (rise : begin < to) (low : to < 2 ^ 63) where
  end_is : prologue_end begin to i ≡ begin
  end_is = no_bytes begin to i rise f.prologue

  body_is : body_of m begin to i ≡ record { items = xs; is_whole = true }
  body_is = ap (λ k. between m k to) end_is ∙ decoded_whole m begin xs to there

  first : (ys : List FetchedInstr) → HasItems m begin ys to → is_some ys ≡ true
  first (y ∷ ys) h = refl
  first [] h = let z : begin ≡ to = h in absurd (omega (arith, z, rise))

  has_begun : begins m begin to i ≡ true
  has_begun =
      let none = f.prologue in
      and_from (leb (begin + i.prologue_size) to) (is_some (prologue_of m begin to i).items
      || (eqb (prologue_end begin to i) begin && is_some (body_of m begin to i).items))
      (le-leb (begin + i.prologue_size) to (omega (arith, none, rise)))
      (or_right (is_some (prologue_of m begin to i).items)
      (eqb (prologue_end begin to i) begin && is_some (body_of m begin to i).items)
      (and_from (eqb (prologue_end begin to i) begin) (is_some (body_of m begin to i).items)
      (eq-eqb (prologue_end begin to i) begin end_is)
      (ap (λ (d : Decoded). is_some d.items) body_is ∙ first xs there)))

  none_in_body : fragment_fault m begin to i p true ≡ None
  none_in_body =
      ap (λ (d : Decoded). body_from m p d.is_whole d.items (prologue_end begin to i) [] 0) body_is
      ∙ ap (λ k. body_from m p true xs k [] 0) end_is
      ∙ right_body m p to low xs begin [] 0 there (omega arith) keeps

  right_faultless : entry_fault m probe rs begin to i (p ∷ []) ≡ None
  unfolding entry_fault
  right_faultless = neither (unless (begins m begin to i) begin Decode)
      (fragment_fault m begin to i p (is_fragment rs i p))
      (passes (begins m begin to i) begin Decode has_begun)
      (ap (fragment_fault m begin to i p) (and_from (names_entry rs i.parent) (is_secondary i p)
      named (is_right i p f alone)) ∙ none_in_body)

pub right_fragments_keep_rules : RightFragmentsKeepRules
right_fragments_keep_rules e p xs r =
    subst (AreFaults e)
    (ap (entry_fault e.memory e.probe e.ranges e.begin e.to e.info) r.parents
    ∙ right_faultless e.memory e.probe e.ranges e.begin e.to e.info p xs r.named r.function
    r.fragment r.keeps r.there r.some r.low)
    (faults_are_first e r.some r.low)
