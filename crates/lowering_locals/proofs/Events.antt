-- Whether the events of a step show that a `__finally` block begins.
use Rattle.std.proofs.Common.{◌≡◌, ℕ, List, [], ◌∷◌, ◌++◌, length, refl, sym, ap, ◌∙◌, append_assoc, append-nil}
use Rattle.std.proofs.Math.Seq.{drop-append_seam}
use Rattle.std.specs.Prelude.{Bool, true, false, drop}
use Rattle.lowering_locals.specs.Words.{Event, begins_block}
use Rattle.seh_num.specs.declared.event.Event.TheVariants as events
use Rattle.source_meaning.specs.State.{walk_events}

ends_with_block : (more : List Event) (k : ℕ) (abnormal : Bool)
    → begins_block (more ++ events.Finally k abnormal ∷ []) ≡ true
ends_with_block [] k abnormal = refl
ends_with_block (events.Put n ∷ more) k abnormal = ends_with_block more k abnormal
ends_with_block (events.Raise code flag access ∷ more) k abnormal = ends_with_block more k abnormal
ends_with_block (events.Filter n ∷ more) k abnormal = ends_with_block more k abnormal
ends_with_block (events.Answer n ∷ more) k abnormal = ends_with_block more k abnormal
ends_with_block (events.Finally n b ∷ more) k abnormal = refl
ends_with_block (events.Except code ∷ more) k abnormal = ends_with_block more k abnormal
ends_with_block (events.At n ∷ more) k abnormal = ends_with_block more k abnormal

no_block : (more es : List Event) → begins_block more ≡ false → begins_block es ≡ false
    → begins_block (more ++ es) ≡ false
no_block [] es h q = q
no_block (events.Put n ∷ more) es h q = no_block more es h q
no_block (events.Raise code flag access ∷ more) es h q = no_block more es h q
no_block (events.Filter n ∷ more) es h q = no_block more es h q
no_block (events.Answer n ∷ more) es h q = no_block more es h q
no_block (events.Finally n b ∷ more) es h q = absurd (cc)
no_block (events.Except code ∷ more) es h q = no_block more es h q
no_block (events.At n ∷ more) es h q = no_block more es h q

-- what a walk shows begins no block
pub walk_is_no_block : (fs : List ℕ) → begins_block (walk_events fs) ≡ false
walk_is_no_block [] = refl
walk_is_no_block (f ∷ fs) = walk_is_no_block fs

module _ (before : List Event) where
  -- the events so far are those before, and others with no `__finally` block among them
  pub record Adds (es : List Event) : Type 0 where
    pub more : List Event
    pub is : es ≡ before ++ more
    pub none_begun : begins_block more ≡ false

  pub adds_none : Adds before
  adds_none = record { more = []; is = sym (append-nil before); none_begun = refl }

  joined : (es shown : List Event) (a : Adds es) → es ++ shown ≡ before ++ (a.more ++ shown)
  joined es shown a = ap (λ l. l ++ shown) a.is ∙ append_assoc before a.more shown

  pub adds_all : (es shown : List Event) → Adds es → begins_block shown ≡ false
      → Adds (es ++ shown)
  adds_all es shown a q = record {
    more = a.more ++ shown;
    is = joined es shown a;
    none_begun = no_block a.more shown a.none_begun q;
  }

  pub adds_one : (es : List Event) (e : Event) → Adds es → begins_block (e ∷ []) ≡ false
      → Adds (es ++ e ∷ [])
  adds_one es e a q = adds_all es (e ∷ []) a q

  added : (es more : List Event) → es ≡ before ++ more
      → begins_block (drop (length before) es) ≡ begins_block more
  added es more e = ap (λ l. begins_block (drop (length before) l)) e
      ∙ ap (λ l. begins_block l) (drop-append_seam before more)

  pub no_block_events : (es : List Event) → Adds es → begins_block (drop (length before) es) ≡ false
  no_block_events es a = added es a.more a.is ∙ a.none_begun

  pub block_events : (es : List Event) (k : ℕ) (abnormal : Bool) → Adds es
      → begins_block (drop (length before) (es ++ events.Finally k abnormal ∷ [])) ≡ true
  block_events es k abnormal a =
      let e = events.Finally k abnormal in
      added (es ++ e ∷ []) (a.more ++ e ∷ []) (joined es (e ∷ []) a)
      ∙ ends_with_block a.more k abnormal
