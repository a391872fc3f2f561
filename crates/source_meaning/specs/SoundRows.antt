-- The worked programs are sound.
use Rattle.std.specs.Prelude.{◌≡◌, true}
use Rattle.c_checked.specs.Sound.{is_sound}
use Rattle.source_meaning.specs.Rows as rows
use Rattle.source_meaning.specs.MoreRows as more_rows

pub record RowsAreSound : Type 0 where
  pub sum_and_return : is_sound rows.sum_and_return ≡ true
  pub null_store_caught : is_sound rows.null_store_caught ≡ true
  pub filter_then_finally : is_sound rows.filter_then_finally ≡ true
  pub continue_same_operand : is_sound rows.continue_same_operand ≡ true
  pub return_flags : is_sound rows.return_flags ≡ true
  pub leave_flags : is_sound rows.leave_flags ≡ true
  pub division_faults : is_sound rows.division_faults ≡ true
  pub division_by_zero : is_sound rows.division_by_zero ≡ true
  pub raise_in_filter : is_sound rows.raise_in_filter ≡ true
  pub raise_in_finally : is_sound rows.raise_in_finally ≡ true
  pub continue_noncontinuable : is_sound rows.continue_noncontinuable ≡ true
  pub filter_asked_once : is_sound more_rows.filter_asked_once ≡ true
  pub collided_twice : is_sound more_rows.collided_twice ≡ true
  pub target_in_outer_activation : is_sound more_rows.target_in_outer_activation ≡ true
  pub two_filters : is_sound more_rows.two_filters ≡ true
  pub break_through_finally : is_sound more_rows.break_through_finally ≡ true
  pub return_through_two : is_sound more_rows.return_through_two ≡ true
  pub store_across_pages : is_sound more_rows.store_across_pages ≡ true
  pub fault_address : is_sound more_rows.fault_address ≡ true
  pub reserved_access : is_sound more_rows.reserved_access ≡ true
  pub conversions : is_sound more_rows.conversions ≡ true
  pub operators : is_sound more_rows.operators ≡ true
  pub six_arguments : is_sound more_rows.six_arguments ≡ true
  pub sum_to_argument : is_sound more_rows.sum_to_argument ≡ true
  pub loops : is_sound more_rows.loops ≡ true
  pub deep_recursion : is_sound more_rows.deep_recursion ≡ true
  pub endless_recursion : is_sound more_rows.endless_recursion ≡ true
