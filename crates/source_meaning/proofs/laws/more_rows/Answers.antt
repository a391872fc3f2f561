use Rattle.source_meaning.proofs.MoreRows.{filter_asked_once_under_collision, collided_twice}
use Rattle.source_meaning.proofs.MoreRows.{target_in_outer_activation, two_filters_of_one_fault}
use Rattle.source_meaning.proofs.MoreRows.{break_through_finally, return_through_two_finallys}
use Rattle.source_meaning.proofs.MoreRows.{store_across_pages, fault_address_in_filter}
use Rattle.source_meaning.proofs.MoreRows.{undefined_reserved_access, conversions_and_shifts, operators}
use Rattle.source_meaning.proofs.MoreRows.{six_arguments, sum_to_argument, loops, deep_recursion}
use Rattle.source_meaning.proofs.SoundRows.{rows_are_sound}
use Rattle.source_meaning.proofs.laws.more_rows.Goals as goal

pub returns : goal.returns
returns c =
    record {
      filter_asked_once_under_collision = filter_asked_once_under_collision;
      collided_twice =
          collided_twice;
      target_in_outer_activation =
          target_in_outer_activation;
      two_filters_of_one_fault =
          two_filters_of_one_fault;
      break_through_finally =
          break_through_finally;
      return_through_two_finallys =
          return_through_two_finallys;
      store_across_pages = store_across_pages;
      fault_address_in_filter =
          fault_address_in_filter;
      undefined_reserved_access =
          undefined_reserved_access;
      conversions_and_shifts = conversions_and_shifts;
      operators =
          operators;
      six_arguments = six_arguments;
      sum_to_argument = sum_to_argument;
      loops =
          loops;
      deep_recursion = deep_recursion;
      sound = rows_are_sound;
    }
