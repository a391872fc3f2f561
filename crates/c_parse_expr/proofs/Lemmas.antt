-- The lemmas of the crates below that files of this crate cite.
pub use Rattle.c_syntax.proofs.Failing.{append_append, alike_inner, append_nothing, wrapped}
pub use Rattle.c_syntax.proofs.Fronts.{front, kind_class, has_same, punctuator_same, kind_same, name_same, base_front, close_star, NoStar, unary_again, increment_again}
pub use Rattle.c_syntax.proofs.Moves.{Moves}
pub use Rattle.c_syntax.proofs.Once.{expression_front, rank_low, has_stops, one_expression}
pub use Rattle.c_syntax.proofs.Spine.{spine, closes, step_follows, run_reach, run_rank, run_height, levels}
pub use Rattle.c_parse_type.proofs.TypesAreRead.{punctuator_at, punctuator_is, punctuator_shorter}
pub use Rattle.c_parse_atom.proofs.Punctuators.{increment_only, unary_only}
