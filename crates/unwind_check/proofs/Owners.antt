-- The parts of a function, in none of which a rule fails: its own entry and its fragments.
use Rattle.std.proofs.Common.{◌≡◌, ℕ, ◌+◌, ◌^◌, ◌<◌, Bool, true, false, List, [], ◌∷◌, Option, Some, None, Ok, refl, sym, ap, subst, ◌∙◌, arith, inl, inr}
use Rattle.std.specs.Prelude.{All, Contains}
use Rattle.std.proofs.lemmas.List.Elements.{All-head, All-tail, All-contains, All-contains_itself}
use Rattle.x64_machine.specs.Contexts.{context_of}
use Rattle.x64_machine.specs.Effect.{State}
use Rattle.eh_tables.specs.declared.layout.TheConstants.{MOST_PARENTS}
use Rattle.eh_tables.specs.declared.range.RuntimeFunction.{RuntimeFunction}
use Rattle.eh_tables.specs.Infos.{Info}
use Rattle.eh_tables.specs.Tables.{Entry, Tables, parents, entries_of, holding}
use Rattle.eh_tables.specs.Answer.{Table}
use Rattle.eh_tables.proofs.KnownInfos.{info_carried}
use Rattle.virtual_unwind.specs.Undone.{operations}
use Rattle.virtual_unwind.specs.Tail.{FetchedInstr}
use Rattle.virtual_unwind.specs.CallerOf.{in_entry}
use Rattle.frame_rules.specs.Codes.{depth}
use Rattle.frame_rules.specs.Body.{Body, following, is_body}
use Rattle.frame_rules.specs.Frame.{left_to}
use Rattle.frame_rules.specs.States.{registers, IsEntry, return_address, HasItems}
use Rattle.frame_rules.specs.Rules.{FramedFunction, FindsContext}
use Rattle.unwind_check.specs.Faults.{entry_fault}
use Rattle.unwind_check.specs.Fragments.{AllKeepRules}
use Rattle.unwind_check.specs.Fragments as fragments
use Rattle.unwind_check.specs.Laws.{HasRightFunction, HasRightFragment, rest_of, names, part_if, fragments_of, parts_of, IsPartOf}
use Rattle.unwind_check.specs.Verdicts.{ImageCode, entry_in, IsKept}
use Rattle.unwind_check.proofs.Entries.{faultless_is_right, kept_none}
use Rattle.unwind_check.proofs.FragmentEntries.{faultless_is_fragment}
use Rattle.unwind_check.proofs.Fragments.{parts_find_callers}
use Rattle.unwind_check.proofs.NamedEntries.{same_range}
use Rattle.unwind_check.proofs.ReadTables.{found_whole, WasRead, all_read, none_above, IsAbove, some_above}

one_answer : {x y : Info} → (let t : Table Info = Ok x in t) ≡ Ok y → x ≡ y
one_answer e = cc

names_it : (o : Option RuntimeFunction) (r : RuntimeFunction) → names o r ≡ true → o ≡ Some r
names_it (Some q) r h = ap (λ (x : RuntimeFunction). Some x) (same_range q r h)
names_it None r h = absurd (none h)
  where
    none : false ≡ true → ⊥
    none h = cc

module _ (t : Tables) (c : ImageCode) (rva : ℕ) (entry : Entry)
    (covers : holding rva (entries_of t) ≡ Some entry) (range : RuntimeFunction)
    (all : (e : Entry) → Contains (entries_of t) e → IsPartOf range e → IsKept c e)
    (low : All (λ (e : Entry). t.image.base + e.range.end < 2 ^ 63) (entries_of t)) where
  abbrev es : List Entry
  es = entries_of t

  read : All (WasRead t.image) es
  read = all_read t.image 0 0 t.ranges es (found_whole t rva entry covers).whole

  -- what is known of each entry
  pub record Known (e : Entry) : Type 0 where
    pub kept : IsKept c e
    pub was : WasRead t.image e
    pub end : e.range.end < 2 ^ 63

  pub known : (e : Entry) → Contains es e → IsPartOf range e → Known e
  known e here part = record {
    kept = all e here part;
    was = All-contains (WasRead t.image) es e read here;
    end = let z = All-contains (λ (x : Entry). t.image.base + x.range.end < 2 ^ 63) es e low here in
        omega (arith, z);
  }

  none_fails : (e : Entry) → Known e
      → entry_fault c.memory c.probe c.ranges e.range.begin e.range.end e.info e.parents ≡ None
  none_fails e k = kept_none (entry_in c e) k.was.is.some k.end k.kept.rules

  pub alone : (e : Entry) → Known e → e.info.parent ≡ None → e.parents ≡ []
  alone e k none = none_above 31 t.image k.was.index e.info.parent e.parents none k.was.is.chain

  -- ---- the entry of a function

  module _ (owner : Entry) (here : Contains es owner) (its : owner.range ≡ range)
      (single : owner.info.parent ≡ None) where
    pub right : HasRightFunction c.memory owner.range.begin owner.range.end owner.info
    right =
        let k = known owner here (inl its) in
        let near = k.kept.near in
        faultless_is_right c.memory c.probe c.ranges owner.range.begin owner.range.end owner.info
        (omega (arith, near)) k.end (sym (ap (entry_fault c.memory c.probe c.ranges
        owner.range.begin owner.range.end owner.info) (alone owner k single)) ∙ none_fails owner k)

    abbrev f : FramedFunction
    f = right.function

  -- ---- a fragment of it

  pub record IsFragment (owner e : Entry) : Type 0 where
    pub above : e.parents ≡ owner.info ∷ []
    pub right : HasRightFragment c.memory e.range.begin e.range.end e.info owner.info

  pub fragment : (owner e : Entry) → Known owner → Known e → e.info.parent ≡ Some owner.range
      → IsFragment owner e
  fragment owner e ko ke named = go (some_above 30 t.image ke.was.index owner.range e.parents
      (subst (λ (o : Option RuntimeFunction). parents MOST_PARENTS t.image ke.was.index o
      ≡ Ok e.parents) named ke.was.is.chain))
    where
      go : IsAbove t.image ke.was.index owner.range 30 e.parents → IsFragment owner e
      go a =
          let same : a.first ≡ owner.info = one_answer (sym (info_carried t.image ke.was.index
          ko.was.index owner.range.unwind_info a.first a.own) ∙ ko.was.is.own) in
          let chain : e.parents ≡ owner.info ∷ a.others =
          a.all ∙ ap (λ (x : Info). x ∷ a.others) same in
          let r = faultless_is_fragment c.memory c.probe c.ranges e.range.begin e.range.end e.info
          owner.info a.others ke.was.is.some ke.end (sym (ap (entry_fault c.memory c.probe c.ranges
          e.range.begin e.range.end e.info) chain) ∙ none_fails e ke) in
          let none = none_above 30 t.image ke.was.index a.first.parent a.others
          (ap (λ (x : Info). x.parent) same ∙ r.function) a.rest in
          record { above = chain ∙ ap (λ (xs : List Info). owner.info ∷ xs) none; right = r }

  -- ---- all parts keep the rules

  module _ (owner : Entry) (here : Contains es owner) (its : owner.range ≡ range)
      (single : owner.info.parent ≡ None) where
    abbrev g : FramedFunction
    g = f owner here its single

    abbrev r : HasRightFunction c.memory owner.range.begin owner.range.end owner.info
    r = right owner here its single

    keeps_by : (i : Info) (xs : List FetchedInstr) → g.info ≡ i
        → is_body (following i.frame_register i.frame_offset (operations i.codes) xs (Body []))
        ≡ true → fragments.KeepsRules g xs
    keeps_by i xs e h = subst (λ (x : Info). is_body (following x.frame_register x.frame_offset
        (operations x.codes) xs (Body [])) ≡ true) (sym e) h

    pub own_keeps : fragments.KeepsRules g (rest_of c.memory owner)
    own_keeps = subst (λ (xs : List FetchedInstr). fragments.KeepsRules g xs) r.is.rest r.right.body

    pub fragment_keeps : (e : Entry) → Known e → e.info.parent ≡ Some owner.range
        → fragments.KeepsRules g (rest_of c.memory e)
    fragment_keeps e k named = keeps_by owner.info (rest_of c.memory e) r.is.info
        (fragment owner e (known owner here (inl its)) k named).right.keeps

    fragments_keep : (ds : List Entry) → All (Contains es) ds
        → AllKeepRules g (fragments_of c.memory owner.range ds)
    fragments_keep [] ks = tt
    fragments_keep (e ∷ ds) ks = go (names e.info.parent owner.range) refl
        (fragments_keep ds (All-tail (Contains es) e ds ks))
      where
        go : (b : Bool) → names e.info.parent owner.range ≡ b
            → AllKeepRules g (fragments_of c.memory owner.range ds)
            → AllKeepRules g (part_if (rest_of c.memory e)
            (fragments_of c.memory owner.range ds) b)
        go false q rest = rest
        go true q rest =
            let named = names_it e.info.parent owner.range q in
            let part : IsPartOf range e = inr (named
            ∙ ap (λ (x : RuntimeFunction). Some x) its) in (
              fragment_keeps e (known e (All-head (Contains es) e ds ks) part) named,
              rest,
            )

    all_keep : AllKeepRules g (parts_of c.memory es owner)
    all_keep = (own_keeps, fragments_keep es (All-contains_itself es))

    -- past the prologue of the function, and in a fragment
    module _ (e s : State) (past : ℕ) (xs : List FetchedInstr) (begin to : ℕ)
        (is_at : s.cpu.rip ≡ begin + past) (low_end : to < 2 ^ 63)
        (there : HasItems s.memory begin xs to) (keeps : fragments.KeepsRules g xs)
        (entered : IsEntry (depth (operations owner.info.codes)) e)
        (state : fragments.IsInPart g (parts_of c.memory es owner) xs e s past) where
      pub both : (i : Info) → fragments.IsFragmentOf i owner.info
          → FindsContext (in_entry s.memory i (owner.info ∷ []) (context_of s.cpu) past)
          (left_to (registers e) (return_address e)) (registers s 4)
          × FindsContext (in_entry s.memory owner.info [] (context_of s.cpu)
          (owner.info.prologue_size + past)) (left_to (registers e) (return_address e))
          (registers s 4)
      both i is =
          let own = r.is.info in
          let h = parts_find_callers g (parts_of c.memory es owner) xs i e s begin past to r.right
          all_keep keeps (subst (fragments.IsFragmentOf i) (sym own) is)
          (subst (λ (x : Info). IsEntry (depth (operations x.codes)) e) (sym own) entered) there
          low_end is_at state in (
            subst (λ (x : Info). FindsContext (in_entry s.memory i (x ∷ []) (context_of s.cpu) past)
                (left_to (registers e) (return_address e)) (registers s 4)) own h.0,
            subst (λ (x : Info). FindsContext (in_entry s.memory x [] (context_of s.cpu)
                (x.prologue_size + past)) (left_to (registers e) (return_address e))
                (registers s 4)) own h.1,
          )
