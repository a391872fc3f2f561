-- The activation on which a `__finally` block works: it has as many locals as the block's code
-- names, and its function has a frame.
use Rattle.std.proofs.Common.{◌≡◌, ℕ, ◌+◌, false, Bool, Some, List, length, sym, ap, subst, ◌∙◌, arith}
use Rattle.std.specs.Prelude.{slice_get, slice_set}
use Rattle.std.proofs.lemmas.Option.{slice_get_within}
use Rattle.match_turns.specs.Words.{Event, of_test, no_exception, LinearBody, LinearFunclet, FuncletBody, funclet_body, Item, Store, function_of, owner_of, owners_of, Activation, locals_of, OwnerHasFrame, IsKnown, Setting}
use Rattle.linear_machine.specs.Frames as linear
use Rattle.match_turns.proofs.Lemmas.{locals_count, IsCounted, set_length}
use Rattle.match_turns.proofs.Funclets.FuncletFrame.{first_frame, beginning}
use Rattle.match_turns.proofs.Funclets.FuncletConfiguration.{HasLocals, activation_at, as_many, no_leaf, locals_counted, owner_framed}
use Rattle.match_turns.proofs.FinallyBlocks.FinallyFlag.{same_number, same_body, same_list, set_count, set_here, block_begins}

module _ (setting : Setting) (k flag activation held : ℕ) (abnormal : Bool) (items : List Item)
    (store : Store) (events : List Event) (f : LinearFunclet)
    (there : slice_get setting.program.funclets k ≡ Some f)
    (typed : IsKnown setting.program (block_begins k flag activation held abnormal items store
    events)) where
  open setting use {functions as t, funclets as fs, program, plan as p}

  abbrev works : (function : ℕ) × (owner_of program (FuncletBody k) ≡ Some function) × (slice_get
      (owners_of items) activation ≡ Some function)
  works = typed.activations.working.0

  has_locals : HasLocals program (slice_set store.activations activation
      (slice_set (linear.locals_of store activation) flag (of_test abnormal))) activation works.0
  has_locals = activation_at program (owners_of items) _ activation works.0
      typed.activations.stored works.2

  function_is : f.function ≡ works.0
  function_is = same_number f.function works.0 (sym (ap function_of there) ∙ works.1)

  pub block_counted : IsCounted setting (beginning setting
      (first_frame setting k activation no_exception (held + 2)) items store events)
  block_counted b is =
      let h = has_locals in
      let lt = slice_get_within _ activation h.locals h.there in
      let n = set_count store.activations activation
      (slice_set (linear.locals_of store activation) flag (of_test abnormal)) in
      let same : h.locals ≡ slice_set (linear.locals_of store activation) flag
      (of_test abnormal) = same_list h.locals _ (sym h.there
      ∙ set_here store.activations activation
      (slice_set (linear.locals_of store activation) flag (of_test abnormal)) (omega arith))
      in
      sym (set_length (linear.locals_of store activation) flag (of_test abnormal)) ∙ sym
      (ap length same) ∙ locals_counted setting k f works.0 h.locals there function_is h.of
      ∙ ap (λ (z : LinearBody). z.locals) (same_body f.body b (sym (ap funclet_body there) ∙ is))

  pub owner_has_frame : (acts : List Activation) → store.activations ≡ locals_of acts
      → OwnerHasFrame t fs program p activation items acts
  owner_has_frame acts stored = owner_framed setting activation items acts
      (sym (ap length stored ∙ locals_count acts)
      ∙ sym (set_count store.activations activation
      (slice_set (linear.locals_of store activation) flag (of_test abnormal)))
      ∙ sym (as_many program (owners_of items) _ typed.activations.stored))
      typed.activations.working.1
      (λ function z. subst (λ j. p.leaf (linear.FunctionBody j) ≡ false)
      (same_number works.0 function (sym works.2 ∙ z)) (no_leaf setting k works.0 works.1).1)
