-- Whole runs of images.
use Rattle.std.proofs.Common.{◌≡◌, ℕ, ◌+◌, ◌*◌, inl, refl, arith}
use Rattle.std.specs.Prelude.{List, slice_get, ℤ, Some}
use Rattle.image_runs.specs.Words.{State, Functions, Funclet, Program, IsSound, LinearFunction, ImagePlan, lowered, ReadsNoUnset, started_with, Sites, turns_left, turns_per_step, IsSoundImage, MainBegins, RepresentsWhereSet, start, RunBegins, ImagesShowAll, ImagesShowNoMore}
use Rattle.image_runs.proofs.Lemmas.{agreement_at_start, steps_are_matched}
use Rattle.image_runs.proofs.RunMatches as runs
use Rattle.image_runs.specs.MatchLaws.{most_before_main}
use Rattle.image_runs.proofs.FirstSeparators.{first_separators_weigh}
use Rattle.image_runs.proofs.AgreementSimulation.{agreement_simulates}

module _ (t : Functions) (fs : List Funclet) (program : Program) (p : ImagePlan) (q : Sites)
    (sound : IsSound program) (reads : ReadsNoUnset (lowered program))
    (image : IsSoundImage t fs (lowered program) p q) (arg : ℤ) (main : LinearFunction) (s : State)
    (is_main : slice_get (lowered program).functions (lowered program).main ≡ Some main)
    (b : MainBegins t fs (lowered program) p q arg main s) where
  pub begins : (n : ℕ) → RunBegins t fs (lowered program) turns_per_step turns_left arg
      most_before_main s n
  begins n = record {
    main = main;
    is_main = is_main;
    turns = b.turns;
    few = (let few = b.few in
        let weighs = first_separators_weigh program (lowered program).main main is_main in
        omega arith);
    state = b.state;
    comes = b.comes;
    no_credit = refl;
    steps = steps_are_matched t fs (lowered program) turns_per_step turns_left
        (λ n. RepresentsWhereSet t fs (lowered program) p q)
        (agreement_simulates t fs program p q sound reads image) n b.state
        (start (lowered program) arg main)
        (record {
          actual = started_with (lowered program) arg main b.values;
          agreement = agreement_at_start (lowered program) arg main b.values is_main b.as_many
              b.small;
          is_there = inl b.begins;
        });
  }

pub images_show_all : ImagesShowAll
images_show_all t fs program p q sound reads image arg main s is_main b n =
    runs.all t fs program sound turns_left arg most_before_main n s
    (begins t fs program p q sound reads image arg main s is_main b (16 * n + 6))
    (omega arith)

pub images_show_no_more : ImagesShowNoMore
images_show_no_more t fs program p q sound reads image arg main s is_main b m n enough_steps calm =
    runs.no_more t fs program sound turns_left arg most_before_main m n s
    (begins t fs program p q sound reads image arg main s is_main b m) enough_steps calm
