-- An entry whose code is a function of the right form keeps the rules.
use Rattle.std.proofs.Common.{◌≡◌, ℕ, ◌+◌, ◌^◌, ◌<◌, ◌≤◌, Bool, true, ◌&&◌, ◌||◌, eqb, leb, if◌then◌else◌, List, [], ◌∷◌, ◌++◌, Option, None, refl, sym, ap, subst, ◌∙◌, arith}
use Rattle.std.proofs.lemmas.Bool.{and_from, eq-eqb, le-leb}
use Rattle.flat_memory.specs.Memory.{Memory}
use Rattle.eh_tables.specs.declared.code.UnwindCode.{UnwindCode}
use Rattle.eh_tables.specs.declared.range.RuntimeFunction.{RuntimeFunction}
use Rattle.eh_tables.specs.Infos.{Info}
use Rattle.virtual_unwind.specs.Undone.{operations}
use Rattle.virtual_unwind.specs.Tail.{FetchedInstr}
use Rattle.frame_rules.specs.Codes.{is_ordered}
use Rattle.frame_rules.specs.Prologue.{bytes, items}
use Rattle.frame_rules.specs.States.{HasItems}
use Rattle.frame_rules.specs.Rules.{FramedFunction, IsRight}
use Rattle.frame_rules.specs.Validated.{turned}
use Rattle.frame_rules.proofs.Tails.{items_rise}
use Rattle.frame_rules.proofs.Keeping.{turned_onto}
use Rattle.unwind_check.specs.declared.rule.Rule.{Rule}
use Rattle.unwind_check.specs.declared.rule.Rule.TheVariants.{Decode, Codes, Prologue}
use Rattle.unwind_check.specs.declared.rule.Fault.{Fault}
use Rattle.unwind_tails.specs.Instructions.{Decoded, between, is_some}
use Rattle.unwind_check.specs.Boundaries.{unless, or_next}
use Rattle.unwind_check.specs.Codes.{ends, are_at_ends, have_registers, keep_codes}
use Rattle.unwind_check.specs.Prologues.{prologue_from}
use Rattle.unwind_check.specs.Bodies.{body_from}
use Rattle.unwind_check.specs.Faults.{prologue_end, prologue_of, body_of, site, begins, fault_of_parts, parts_fault, codes_fault, entry_fault}
use Rattle.unwind_check.specs.FailingRules.{AreFaults}
use Rattle.unwind_check.specs.RightFunctions.{CallsProbe, RightFunctionsKeepRules}
use Rattle.unwind_check.proofs.FirstFaults.{faults_are_first}
use Rattle.unwind_check.proofs.RightBodies.{right_body}
use Rattle.unwind_check.proofs.RightCodes.{right_registers, at_ends}
use Rattle.unwind_check.proofs.RightPrologues.{decoded_whole, items_split, right_prologue}

pub neither : (a b : Option Fault) → a ≡ None → b ≡ None → or_next a b ≡ None
neither a b p q = ap (λ (o : Option Fault). or_next o b) p ∙ q

pub passes : (b : Bool) (at : ℕ) (r : Rule) → b ≡ true → unless b at r ≡ None
passes b at r e = ap (λ t. unless t at r) e

module _ (m : Memory) (probe : List ℕ) (begin to : ℕ) (f : FramedFunction) (r : IsRight f)
    (there : HasItems m begin (items f.steps ++ f.rest) to)
    (probes : CallsProbe m probe begin (items f.steps)) (rise : begin < to)
    (low : to < 2 ^ 63) where
  abbrev i : Info
  i = f.info

  abbrev xs : List FetchedInstr
  xs = items f.steps

  abbrev mid : ℕ
  mid = begin + i.prologue_size

  abbrev prologue : Decoded
  prologue = record { items = xs; is_whole = true }

  abbrev body : Decoded
  body = record { items = f.rest; is_whole = true }

  -- ---- the parts

  same_mid : begin + bytes xs ≡ mid
  same_mid = ap (λ k. begin + k) (sym r.prologue_size)

  before : HasItems m begin xs mid
  before = subst (λ k. HasItems m begin xs k) same_mid (items_split m begin xs f.rest to there).0

  after : HasItems m mid f.rest to
  after = subst (λ k. HasItems m k f.rest to) same_mid (items_split m begin xs f.rest to there).1

  inside : mid ≤ to
  inside = items_rise m mid f.rest to after

  end_is : prologue_end begin to i ≡ mid
  end_is = ap (λ b. if b then mid else to) (le-leb mid to inside)

  prologue_is : prologue_of m begin to i ≡ prologue
  prologue_is = ap (between m begin) end_is ∙ decoded_whole m begin xs mid before

  body_is : body_of m begin to i ≡ body
  body_is = ap (λ k. between m k to) end_is ∙ decoded_whole m mid f.rest to after

  -- ---- Decode

  has_begun : begins m begin to i ≡ true
  has_begun = and_from (leb mid to) (is_some (prologue_of m begin to i).items
      || (eqb (prologue_end begin to i) begin && is_some (body_of m begin to i).items))
      (le-leb mid to inside)
      (ap (λ (d : Decoded). is_some d.items
      || (eqb (prologue_end begin to i) begin && is_some (body_of m begin to i).items)) prologue_is
      ∙ ap (λ (d : Decoded). is_some xs
      || (eqb (prologue_end begin to i) begin && is_some d.items)) body_is
      ∙ ap (λ k. is_some xs || (eqb k begin && is_some f.rest)) end_is
      ∙ first xs f.rest before after)
    where
      first : (xs ys : List FetchedInstr) → HasItems m begin xs mid → HasItems m mid ys to
          → (is_some xs || (eqb mid begin && is_some ys)) ≡ true
      first (x ∷ xs) ys g h = refl
      first [] (y ∷ ys) g h = and_from (eqb mid begin) true (eq-eqb mid begin (sym g)) refl
      first [] [] g h =
          let a : begin ≡ mid = g in
          let b : mid ≡ to = h in
          absurd (omega (arith, a, b, rise))

  -- ---- Codes

  codes_kept : keep_codes i xs ≡ true
  codes_kept = and_from (have_registers i (operations i.codes)) (are_at_ends (ends 0 xs) i.codes)
      (right_registers i r.ordered r.allowed r.frame)
      (subst (λ (cs : List UnwindCode). are_at_ends (ends 0 xs) cs ≡ true) (sym r.codes)
      (at_ends i.frame_register i.frame_offset (ends 0 xs) 0 [] f.steps r.steps (λ n h. h) refl
      (λ n lt. refl)))

  -- ---- Prologue, and what follows it

  none_in_prologue : prologue_from (site m probe begin i) true 0 (turned [] i.codes) xs ≡ None
  none_in_prologue =
      let e : begin ≡ begin + 0 = omega arith in
      ap (λ (cs : List UnwindCode). prologue_from (site m probe begin i) true 0 cs xs)
      (ap (turned []) r.codes ∙ turned_onto [] [] f.steps)
      ∙ right_prologue (site m probe begin i) 0 f.steps r.steps
      (subst (λ k. CallsProbe m probe k xs) e probes)

  none_in_body : body_from m i true f.rest mid [] 0 ≡ None
  none_in_body = right_body m i to low f.rest mid [] 0 after (omega arith) r.body

  none_in_parts : parts_fault m probe begin to i ≡ None
  none_in_parts =
      ap (λ k. fault_of_parts m probe begin k i (prologue_of m begin to i) (body_of m begin to i))
      end_is
      ∙ ap (λ (d : Decoded). fault_of_parts m probe begin mid i d (body_of m begin to i))
      prologue_is
      ∙ ap (λ (d : Decoded). fault_of_parts m probe begin mid i prologue d) body_is
      ∙ neither (prologue_from (site m probe begin i) true 0 (turned [] i.codes) xs)
      (body_from m i true f.rest mid [] 0) none_in_prologue none_in_body

  none_in_codes : codes_fault m probe begin to i ≡ None
  none_in_codes = neither (unless (keep_codes i (prologue_of m begin to i).items) begin Codes)
      (or_next (unless (is_ordered (operations i.codes)) begin Prologue)
      (parts_fault m probe begin to i))
      (passes (keep_codes i (prologue_of m begin to i).items) begin Codes
      (ap (λ (d : Decoded). keep_codes i d.items) prologue_is ∙ codes_kept))
      (neither (unless (is_ordered (operations i.codes)) begin Prologue)
      (parts_fault m probe begin to i)
      (passes (is_ordered (operations i.codes)) begin Prologue r.ordered) none_in_parts)

  pub right_faultless : (rs : List RuntimeFunction) → entry_fault m probe rs begin to i [] ≡ None
  unfolding entry_fault
  right_faultless rs = neither (unless (begins m begin to i) begin Decode)
      (codes_fault m probe begin to i)
      (passes (begins m begin to i) begin Decode has_begun) none_in_codes

pub right_functions_keep_rules : RightFunctionsKeepRules
right_functions_keep_rules e f r =
    subst (AreFaults e)
    (ap (entry_fault e.memory e.probe e.ranges e.begin e.to e.info) r.alone
    ∙ ap (λ (i : Info). entry_fault e.memory e.probe e.ranges e.begin e.to i []) (sym r.info)
    ∙ right_faultless e.memory e.probe e.begin e.to f r.right r.there r.probes r.some r.low
    e.ranges)
    (faults_are_first e r.some r.low)
